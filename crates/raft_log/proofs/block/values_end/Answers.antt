use Rattle.std.proofs.Common.{sym, arith}
use Rattle.raft_log.proofs.BlockReads.{value_offset_none, value_offset_more, codes_fit_none, codes_fit_more, codes_fit_stop}
use Rattle.raft_log.proofs.block.values_end.Goals as goal

pub loop-k-init : goal.loop-k-init
loop-k-init c = (codes_fit_none c.args.block.now, sym (value_offset_none c.args.block.now c.args.count), omega arith)

pub loop-k-preserved : goal.loop-k-preserved
loop-k-preserved c = (
  codes_fit_more c.args.block.now c.loop-k.k c.loop-k.invariant.0 (omega arith),
  omega (arith, value_offset_more c.args.block.now c.args.count c.loop-k.k),
  omega arith,
)

pub returns-then-entry_code-gt-MAX_CODE : goal.returns-then-entry_code-gt-MAX_CODE
returns-then-entry_code-gt-MAX_CODE c = codes_fit_stop c.args.block.now c.args.count c.loop-k.k (omega arith) (omega arith)
