use Rattle.std.proofs.Common.{arith}
use Rattle.together_several.proofs.Seen.{bytes_none, bytes_more, bytes_all}
use Rattle.together_several.proofs.several.see_bytes.Goals as goal

pub loop-byte-init : goal.loop-byte-init
loop-byte-init c = bytes_none c.args.bytes.now

pub loop-byte-preserved : goal.loop-byte-preserved
loop-byte-preserved c = bytes_more c.args.bytes.now c.loop-byte.byte-index (omega arith) c.loop-byte.invariant (omega arith)

pub returns : goal.returns
returns c = bytes_all c.args.bytes.now c.loop-byte.byte-index (omega arith) c.loop-byte.invariant
