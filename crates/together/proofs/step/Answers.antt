use Rattle.std.proofs.Common.{Bool, length, sym, subst}
use Rattle.together.specs.Entry.{StepSays, lengths_fit}
use Rattle.together.proofs.Lengths.{fits_is}
use Rattle.together.proofs.Steps.{says}
use Rattle.together.proofs.step.Goals as goal

pub returns : goal.returns
returns c =
    let m = c.args.memory.now in
    let bytes = c.args.bytes.now in
    let out = c.args.out.now in
    subst (λ (fits : Bool). StepSays m c.args.kind c.args.a c.args.b bytes out fits c.step_of.result c.step_of.new.memory c.step_of.new.out)
    (sym (fits_is m c.args.kind bytes out))
    (says m c.args.kind c.args.a c.args.b bytes out (lengths_fit (length m) c.args.kind (length bytes) (length out)) c.step_of.result c.step_of.new.memory c.step_of.new.out c.step_of.ensures)
