use Rattle.std.proofs.Common.{subst}
use Rattle.together.specs.Promise.{Step}
use Rattle.together.specs.Entry.{Did}
use Rattle.together.specs.Moves.{event_in}
use Rattle.together_several.proofs.Steps.{moved_is}
use Rattle.together_several.proofs.react.Goals as goal

pub returns : goal.returns
returns c =
    subst (λ (s : Step). Did s c.react.result c.react.new.memory c.args.out.now c.react.new.out) (moved_is c.args.memory.now (event_in c.args.event)) c.react.ensures
