use Rattle.std.proofs.Common.{◌≡◌, ◌+◌}
use Rattle.raft_log.specs.Values.{words_put}
use Rattle.raft_log.proofs.values.write_value.Given as goal

abbrev pub invariant-loop-j : goal.invariant-loop-j
invariant-loop-j l = l.memory ≡ words_put l.initial.memory (l.row + 1) l.bytes l.j
