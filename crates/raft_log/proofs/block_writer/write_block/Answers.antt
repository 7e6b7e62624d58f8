use Rattle.std.proofs.Common.{arith}
use Rattle.raft_log.specs.Block.{log_entries}
use Rattle.raft_log.proofs.BlockWrites.{length_log_entries, block_put}
use Rattle.raft_log.proofs.block_writer.write_block.Goals as goal

pub returns : goal.returns
returns c =
    let p = block_put c.args.out.now c.write_table.new.out c.write_values.new.out (log_entries c.args.memory.now c.args.first.0 c.args.count) c.args.count c.args.at c.write_values.result
    (length_log_entries c.args.memory.now c.args.first.0 c.args.count) (omega arith) c.write_table.ensures
    (record { end_is = c.write_values.ensures.end; is = c.write_values.ensures.put }) in
    record { end = p.end_is; short = omega arith; put = p.is }
