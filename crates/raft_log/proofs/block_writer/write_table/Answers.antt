use Rattle.std.proofs.Common.{◌≡◌, arith}
use Rattle.raft_log.proofs.BlockWrites.{table_none, table_more}
use Rattle.raft_log.proofs.block_writer.write_table.Goals as goal

pub loop-i-init : goal.loop-i-init
loop-i-init c = table_none c.args.memory.now c.args.out.now c.args.first.0 c.args.at

pub loop-i-preserved : goal.loop-i-preserved
loop-i-preserved c =
    table_more c.args.memory.now c.args.out.now c.loop-i.out c.write_row.new.out c.args.first.0 c.args.at c.loop-i.i
    (omega arith) c.loop-i.invariant c.write_row.ensures

pub returns : goal.returns
returns c = let w : c.loop-i.i ≡ c.args.count = omega arith in cc
