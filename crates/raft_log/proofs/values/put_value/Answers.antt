use Rattle.std.proofs.Common.{◌+◌, ap, ◌∙◌, arith}
use Rattle.raft_log.specs.Bytes.{laid}
use Rattle.raft_log.specs.Values.{bytes_at}
use Rattle.raft_log.proofs.BlockWrites.{slot_put}
use Rattle.raft_log.proofs.values.put_value.Goals as goal

pub returns : goal.returns
returns c =
    let put = c.put_bytes.ensures ∙ ap (λ k. laid c.args.out.now c.args.at (bytes_at c.args.memory.now (k + 1) c.value_length-count.result)) c.row_of.ensures in
    let p = slot_put c.args.memory.now c.args.out.now c.put_bytes.new.out c.args.slot c.value_length-count.result c.args.at
    c.value_length-count.ensures.is put in
    record { end = p.end_is; short = omega arith; put = p.is }
