use Rattle.std.proofs.Common.{◌≡◌, sym, arith}
use Rattle.raft_log.proofs.BlockReads.{value_offset_none, value_offset_more, fits}
use Rattle.raft_log.proofs.block.value_offset.Goals as goal

pub loop-k-init : goal.loop-k-init
loop-k-init c = (sym (value_offset_none c.args.block.now c.args.count), omega arith)

pub loop-k-preserved : goal.loop-k-preserved
loop-k-preserved c = (omega (arith, value_offset_more c.args.block.now c.args.count c.loop-k.k), omega arith)

pub returns : goal.returns
returns c =
    let w : c.loop-k.k ≡ c.args.i = omega arith in
    let e = rw w at c.loop-k.invariant.0 in
    record { is = e; within = λ f l. omega (arith, e, (fits c.args.block.now c.args.count f).within c.args.i l) }
