use Rattle.raft_log.proofs.LogAppends.{value_appended_log, value_appended_tidy}
use Rattle.raft_log.proofs.theorems.value_behind.Goals as goal

pub returns : goal.returns
returns c = λ m t v d s f. (value_appended_tidy m t v d f, value_appended_log m t v d.entries f s.1)
