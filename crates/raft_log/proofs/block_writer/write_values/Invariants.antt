use Rattle.std.proofs.Common.{◌+◌, ◌*◌, ◌≤◌}
use Rattle.raft_log.specs.Block.{values_bytes, log_entries}
use Rattle.raft_log.proofs.BlockWrites.{Put}
use Rattle.raft_log.proofs.block_writer.write_values.Given as goal

abbrev pub invariant-loop-i : goal.invariant-loop-i
invariant-loop-i l = Put l.initial.out l.at (values_bytes (log_entries l.memory l.first.0 l.i)) l.end l.out × (l.end ≤ l.at + 256 * l.i)
