use Rattle.protocol.proofs.decisions_have_one_order.Goals as goal
use Rattle.protocol.proofs.Theorems.{one_order, decided_once}

pub returns : goal.returns
returns c = record { order = one_order; once = decided_once }
