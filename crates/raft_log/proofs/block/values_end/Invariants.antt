use Rattle.std.proofs.Common.{◌≡◌, ◌+◌, ◌*◌, ◌≤◌, true}
use Rattle.raft_log.specs.Block.{value_offset, codes_fit}
use Rattle.raft_log.proofs.block.values_end.Given as goal

abbrev pub invariant-loop-k : goal.invariant-loop-k
invariant-loop-k l = (codes_fit l.block l.k ≡ true) × (l.end ≡ value_offset l.block l.count l.k) × (l.end ≤ 150 + 65536 * l.k)
