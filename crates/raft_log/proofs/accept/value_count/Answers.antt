use Rattle.raft_log.proofs.TakeLaws.{counted_held}
use Rattle.raft_log.proofs.accept.value_count.Goals as goal

pub returns-clause-is : goal.returns-clause-is
returns-clause-is c =
    let e = counted_held c.args.block.now c.args.i c.requires c.value.result c.value.ensures in
    cc
