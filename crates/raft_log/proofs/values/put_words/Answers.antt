use Rattle.std.proofs.Common.{◌≡◌, ◌+◌, ◌*◌, ap, ◌∙◌, arith}
use Rattle.raft_log.specs.Bytes.{laid}
use Rattle.raft_log.specs.Values.{bytes_at}
use Rattle.raft_log.proofs.BlockWrites.{words_none, words_more}
use Rattle.raft_log.proofs.values.put_words.Goals as goal

pub loop-j-init : goal.loop-j-init
loop-j-init c = words_none c.args.memory.now c.args.out.now c.args.base c.args.at

pub loop-j-preserved : goal.loop-j-preserved
loop-j-preserved c =
    let e : 8 * c.loop-j.j + 8 ≡ 8 * (c.loop-j.j + 1) = omega arith in
    words_more c.args.memory.now c.args.out.now c.loop-j.out c.put_u64.new.out c.args.base c.args.at c.loop-j.j 8
    (omega arith) (omega arith) c.loop-j.invariant c.put_u64.ensures
    ∙ ap (λ n. laid c.args.out.now c.args.at (bytes_at c.args.memory.now c.args.base n)) e

pub returns : goal.returns
returns c = let w : c.loop-j.j ≡ c.args.count = omega arith in cc
