use Rattle.std.proofs.Common.{◌≡◌, ◌*◌}
use Rattle.raft_log.specs.Bytes.{laid}
use Rattle.raft_log.specs.Values.{bytes_at}
use Rattle.raft_log.proofs.values.put_words.Given as goal

abbrev pub invariant-loop-j : goal.invariant-loop-j
invariant-loop-j l = l.out ≡ laid l.initial.out l.at (bytes_at l.memory l.base (8 * l.j))
