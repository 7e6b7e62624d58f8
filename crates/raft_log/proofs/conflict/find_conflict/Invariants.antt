use Rattle.std.proofs.Common.{◌≡◌, ◌+◌, drop}
use Rattle.raft_log.specs.View.{log_of}
use Rattle.raft_log.specs.Conflict.{conflict}
use Rattle.raft_log.proofs.conflict.find_conflict.Given as goal

abbrev pub invariant-loop-i : goal.invariant-loop-i
invariant-loop-i l = conflict (log_of l.memory) (l.prev.0 + l.i) (drop l.i l.block) ≡ conflict (log_of l.memory) l.prev.0 l.block
