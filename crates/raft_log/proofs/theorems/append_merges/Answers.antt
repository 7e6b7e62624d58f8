use Rattle.raft_log.proofs.AcceptLaws.{accepted_tidy, accepted_merge, accepted_commit}
use Rattle.raft_log.proofs.theorems.append_merges.Goals as goal

pub returns : goal.returns
returns c = λ m p q k es d v ok. (accepted_tidy m p q k es d v ok, accepted_merge m p q k es d v ok, accepted_commit m p q k es d v ok)
