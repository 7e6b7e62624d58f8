use Rattle.raft.proofs.Mails.{Passed}
use Rattle.raft.proofs.outbox.first_due.Given as goal

abbrev pub invariant-loop-j : goal.invariant-loop-j
invariant-loop-j l = Passed l.memory l.j
