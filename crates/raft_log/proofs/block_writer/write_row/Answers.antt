use Rattle.std.proofs.Common.{◌≡◌, ◌+◌}
use Rattle.raft_log.specs.Bytes.{two, laid}
use Rattle.std.proofs.Common.{arith}
use Rattle.raft_log.specs.Block.{log_entry}
use Rattle.raft_log.proofs.BlockWrites.{row_put}
use Rattle.raft_log.proofs.block_writer.write_row.Goals as goal

pub returns : goal.returns
returns c =
    let put : c.put.new.out ≡ laid c.put_u64.new.out (c.args.at + 8) (two c.content_code.result) = cc in
    row_put c.args.out.now c.put_u64.new.out c.put.new.out c.args.at c.term.result.0 c.content_code.result
    (log_entry c.args.memory.now c.args.index.0) (omega arith) c.term.ensures c.content_code.ensures c.put_u64.ensures put
