use Rattle.raft_log.proofs.ViewLaws.{decisions_upto}
use Rattle.raft_log.proofs.theorems.numbers_count.Goals as goal

pub returns : goal.returns
returns c = λ m n d b. decisions_upto m d.entries n b
