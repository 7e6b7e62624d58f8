use Rattle.std.proofs.Common.{◌≡◌, ◌+◌, ◌≤◌, length, drop}
use Rattle.raft_log.specs.View.{decisions}
use Rattle.raft_log.proofs.accept.values_from.Given as goal

abbrev pub invariant-loop-i : goal.invariant-loop-i
invariant-loop-i l =
    (l.values + length (decisions (drop l.i l.block)) ≡ length (decisions (drop l.start l.block)))
    × (l.values ≤ l.i)
