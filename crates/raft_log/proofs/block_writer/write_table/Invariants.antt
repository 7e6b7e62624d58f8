use Rattle.std.proofs.Common.{◌≡◌}
use Rattle.raft_log.specs.Bytes.{laid}
use Rattle.raft_log.specs.Block.{table_bytes, log_entries}
use Rattle.raft_log.proofs.block_writer.write_table.Given as goal

abbrev pub invariant-loop-i : goal.invariant-loop-i
invariant-loop-i l = l.out ≡ laid l.initial.out l.at (table_bytes (log_entries l.memory l.first.0 l.i))
