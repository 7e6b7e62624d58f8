use Rattle.raft_log.proofs.LogAppends.{empty_appended_log, empty_appended_tidy}
use Rattle.raft_log.proofs.theorems.empty_last.Goals as goal

pub returns : goal.returns
returns c = λ m t d f. (empty_appended_tidy m t d f, empty_appended_log m t d.entries f)
