use Rattle.std.proofs.Common.{arith}
use Rattle.messages.proofs.Counting.{counted_at}
use Rattle.messages.proofs.decoder.decode.Goals as goal

pub returns : goal.returns
returns c =
    let both = counted_at c.args.bytes.now (λ i. omega (arith, c.type_inv.bytes i)) c.in_ok-read.field-0 c.counted.result c.counted.ensures c.in_ok-read.ensures in
    record { is = both.0; block = both.1 }
