use Rattle.std.proofs.Common.{arith}
use Rattle.raft_log.specs.Block.{log_content}
use Rattle.raft_log.specs.Values.{value_at}
use Rattle.raft_log.proofs.BlockWrites.{put_none, put_some}
use Rattle.raft_log.proofs.block_writer.write_content.Goals as goal

pub returns-in-None : goal.returns-in-None
returns-in-None c =
    let p = put_none (log_content c.args.memory.now c.args.index.0) c.args.out.now c.args.at c.in-None.ensures.holds in
    record { end = p.end_is; short = omega arith; put = p.is }

pub returns-in-Some : goal.returns-in-Some
returns-in-Some c =
    let p = put_some (log_content c.args.memory.now c.args.index.0) c.args.out.now (value_at c.args.memory.now c.in-Some.slot) c.args.at c.put_value.result c.put_value.new.out
    c.in-Some.ensures.holds.0 c.put_value.ensures.end c.put_value.ensures.put in
    record { end = p.end_is; short = c.put_value.ensures.short; put = p.is }
