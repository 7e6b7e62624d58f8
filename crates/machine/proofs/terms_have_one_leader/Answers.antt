use Rattle.machine.proofs.terms_have_one_leader.Goals as goal
use Rattle.machine.proofs.Theorems.{one_leader, one_vote, acks_held}
use Rattle.machine.proofs.Completes.{leader_has_order}

pub returns : goal.returns
returns c = record { leader = one_leader; votes = one_vote; acks = acks_held; order = leader_has_order }
