use Rattle.std.proofs.Common.{◌≡◌}
use Rattle.raft_log.specs.View.{log_of}
use Rattle.raft_log.specs.Conflict.{conflict_by_term}
use Rattle.raft_log.proofs.conflict.find_conflict_by_term.Given as goal

abbrev pub invariant-loop-i : goal.invariant-loop-i
invariant-loop-i l = conflict_by_term (log_of l.memory) l.term.0 l.i ≡ conflict_by_term (log_of l.memory) l.term.0 l.initial.i
