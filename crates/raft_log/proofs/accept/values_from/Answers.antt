use Rattle.std.proofs.Common.{arith}
use Rattle.raft_log.proofs.TakeLaws.{counted_all}
use Rattle.raft_log.proofs.accept.values_from.Goals as goal

pub returns-clause-is : goal.returns-clause-is
returns-clause-is c = omega (arith, counted_all c.args.block.now c.loop-i.i (omega arith), c.loop-i.invariant.0)
