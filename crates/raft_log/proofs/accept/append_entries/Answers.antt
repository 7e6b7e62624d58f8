use Rattle.std.proofs.Common.{arith}
use Rattle.raft_log.proofs.TakeLaws.{taken_more, taken_all}
use Rattle.raft_log.proofs.accept.append_entries.Goals as goal

pub loop-i-preserved : goal.loop-i-preserved
loop-i-preserved c =
    let e = taken_more c.loop-i.memory c.args.block.now c.loop-i.i (omega arith) in
    (cc, c.append_entry.ensures.room)

pub returns : goal.returns
returns c =
    let e = taken_all c.loop-i.memory c.args.block.now c.loop-i.i (omega arith) in
    cc
