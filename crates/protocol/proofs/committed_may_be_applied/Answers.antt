use Rattle.protocol.proofs.committed_may_be_applied.Goals as goal
use Rattle.protocol.proofs.Theorems.{may_apply, acked_held}

pub returns : goal.returns
returns c = record { apply = may_apply; held = acked_held }
