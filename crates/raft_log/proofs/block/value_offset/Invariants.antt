use Rattle.std.proofs.Common.{◌≡◌, ◌+◌, ◌*◌, ◌≤◌}
use Rattle.raft_log.specs.Block.{value_offset}
use Rattle.raft_log.proofs.block.value_offset.Given as goal

abbrev pub invariant-loop-k : goal.invariant-loop-k
invariant-loop-k l = (l.offset ≡ value_offset l.block l.count l.k) × (l.offset ≤ 150 + 65536 * l.k)
