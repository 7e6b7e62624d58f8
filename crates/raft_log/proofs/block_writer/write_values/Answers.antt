use Rattle.std.proofs.Common.{◌≡◌, arith}
use Rattle.raft_log.proofs.BlockWrites.{values_none, values_more}
use Rattle.raft_log.proofs.block_writer.write_values.Goals as goal

pub loop-i-init : goal.loop-i-init
loop-i-init c = (values_none c.args.memory.now c.args.out.now c.args.first.0 c.args.at, omega arith)

pub loop-i-preserved : goal.loop-i-preserved
loop-i-preserved c = (
  values_more c.args.memory.now c.args.out.now c.loop-i.out c.write_content-end.new.out c.args.first.0 c.args.at c.loop-i.i c.loop-i.end c.write_content-end.result
      (omega arith) c.loop-i.invariant.0 (record { end_is = c.write_content-end.ensures.end; is = c.write_content-end.ensures.put }),
  omega arith,
)

pub returns : goal.returns
returns c =
    let w : c.loop-i.i ≡ c.args.count = omega arith in
    record { end = rw w at c.loop-i.invariant.0.end_is; short = omega arith; put = rw w at c.loop-i.invariant.0.is }
