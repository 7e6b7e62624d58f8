use Rattle.std.proofs.Common.{◌≡◌, true, drop}
use Rattle.raft_log.specs.Accept.{entries_taken, entries_fit}
use Rattle.raft_log.proofs.accept.append_entries.Given as goal

abbrev pub invariant-loop-i : goal.invariant-loop-i
invariant-loop-i l =
    (entries_taken l.memory (drop l.i l.block) ≡ entries_taken l.initial.memory (drop l.start l.block))
    × (entries_fit l.memory (drop l.i l.block) ≡ true)
