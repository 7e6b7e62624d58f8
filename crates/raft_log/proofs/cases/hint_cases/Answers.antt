use Rattle.std.proofs.Common.{refl}
use Rattle.raft_log.specs.Conflict.{conflict_by_term}
use Rattle.raft_log.specs.Accept.{hint}
use Rattle.raft_log.proofs.cases.hint_cases.Goals as goal

pub returns : goal.returns
unfolding conflict_by_term hint
returns c = record { earlier = refl; shorter = refl }
