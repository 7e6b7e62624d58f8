use Rattle.protocol.proofs.terms_have_one_leader.Goals as goal
use Rattle.protocol.proofs.Theorems.{one_leader, committed_stays}

pub returns : goal.returns
returns c = record { leader = one_leader; stays = committed_stays }
