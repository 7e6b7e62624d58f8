use Rattle.statements.proofs.Near.{order_needed, behind_needed, more_needed, first_needed, once_needed}
use Rattle.statements.proofs.premises_are_needed.Goals as goal

pub returns : goal.returns
returns c = record { order = order_needed; behind = behind_needed; more = more_needed; first = first_needed; once = once_needed }
