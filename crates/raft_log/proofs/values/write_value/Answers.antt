use Rattle.std.proofs.Common.{rules, ◌≡◌, ◌+◌, ◌/◌, length, set, refl, arith}
use Rattle.raft_log.specs.Values.{word_of, words_put, value_put, words_for}
use Rattle.raft_log.proofs.Rows.{words_put_more}
use Rattle.raft_log.proofs.values.write_value.Goals as goal

pub loop-j-init : goal.loop-j-init
unfolding words_put
loop-j-init c = refl

pub loop-j-preserved : goal.loop-j-preserved
loop-j-preserved c =
    let word : c.get_u64.result ≡ word_of c.args.bytes.now c.loop-j.j = search rules in
    let e = words_put_more (set c.args.memory.now c.row_of-row.result (length c.args.bytes.now)) (c.row_of-row.result + 1) c.args.bytes.now c.loop-j.j in
    cc

pub returns-then-bytes-gt0 : goal.returns-then-bytes-gt0
unfolding value_put
returns-then-bytes-gt0 c =
    let i : c.loop-j.j ≡ length c.args.bytes.now / 8 = omega arith in
    let e : length c.args.bytes.now / 8 + 1 ≡ words_for (length c.args.bytes.now) = omega arith in
    let more = words_put_more (set c.args.memory.now c.row_of-row.result (length c.args.bytes.now)) (c.row_of-row.result + 1) c.args.bytes.now (length c.args.bytes.now / 8) in
    cc

pub returns-else-bytes-gt0 : goal.returns-else-bytes-gt0
unfolding value_put
returns-else-bytes-gt0 c =
    let e : c.loop-j.j ≡ words_for (length c.args.bytes.now) = omega arith in
    cc
