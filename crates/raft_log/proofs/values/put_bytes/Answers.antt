use Rattle.std.proofs.Common.{◌≡◌, ◌+◌, ◌*◌, ◌/◌, ◌%◌, ap, ◌∙◌, arith}
use Rattle.raft_log.specs.Bytes.{laid}
use Rattle.raft_log.specs.Values.{bytes_at}
use Rattle.raft_log.proofs.BlockWrites.{words_more}
use Rattle.raft_log.proofs.values.put_bytes.Goals as goal

pub returns-then-count-gt0 : goal.returns-then-count-gt0
returns-then-count-gt0 c =
    let e : 8 * (c.args.count / 8) + c.args.count % 8 ≡ c.args.count = omega arith in
    words_more c.args.memory.now c.args.out.now c.put_words.new.out c.put_part.new.out c.args.base c.args.at (c.args.count / 8)
    (c.args.count % 8) (omega arith) (omega arith) c.put_words.ensures c.put_part.ensures
    ∙ ap (λ n. laid c.args.out.now c.args.at (bytes_at c.args.memory.now c.args.base n)) e
