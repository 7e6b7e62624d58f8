use Rattle.std.proofs.Common.{length}
use Rattle.together.specs.Moves.{event_in, event_fits}
use Rattle.together_several.proofs.Steps.{event_says}
use Rattle.together_several.proofs.step_event.Goals as goal

pub returns : goal.returns
returns c =
    let m = c.args.memory.now in
    let e = event_in c.args.event in
    let out = c.args.out.now in
    event_says m e out (event_fits (length m) e (length out)) c.step_event.result c.step_event.new.memory c.step_event.new.out c.step_event.ensures
