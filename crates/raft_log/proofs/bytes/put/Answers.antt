use Rattle.std.proofs.Common.{◌+◌, ◌-◌, arith}
use Rattle.raft_log.proofs.ByteLaws.{part_laid}
use Rattle.raft_log.proofs.bytes.put.Goals as goal

pub returns : goal.returns
returns g c = part_laid c.args.out.now c.args.at (c.args.at + g.row.N - c.args.at) c.copy_from_slice.new.self c.args.bytes (cc) (omega arith)
