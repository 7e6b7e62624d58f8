use Rattle.std.proofs.Common.{◌≡◌, suc, ◌+◌, ◌-◌, Some, None, arith, rules}
use Rattle.raft.specs.Outbox.{due_to, mail_from}
use Rattle.raft.proofs.Mails.{passed_one, passed_first, passed_all}
use Rattle.raft.proofs.outbox.first_due.Goals as goal

pub returns-in-Some : goal.returns-in-Some
returns-in-Some c =
    let e : due_to c.args.memory.now c.loop-j.j ≡ Some c.in-Some.due = search rules in (
      mail_from c.args.memory.now (suc c.loop-j.j) (7 - (c.loop-j.j + 1)),
      passed_first c.args.memory.now c.loop-j.j c.in-Some.due (omega arith) c.loop-j.invariant e,
    )

pub loop-j-preserved : goal.loop-j-preserved
loop-j-preserved c =
    let e : due_to c.args.memory.now c.loop-j.j ≡ None = search rules in
    passed_one c.args.memory.now c.loop-j.j (omega arith) c.loop-j.invariant e

pub returns : goal.returns
returns c = passed_all c.args.memory.now c.loop-j.j (omega arith) c.loop-j.invariant
