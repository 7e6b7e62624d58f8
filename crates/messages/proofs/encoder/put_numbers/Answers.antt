use Rattle.std.proofs.Common.{◌≡◌, ℕ, ◌+◌, ◌*◌, List, ◌∷◌, length, get_or, take, ap, ◌∙◌, arith, rules}
use Rattle.std.specs.List.{flat_map}
use Rattle.raft_log.specs.Bytes.{eight, laid}
use Rattle.raft_log.proofs.ByteLaws.{set_laid}
use Rattle.messages.specs.Kind.{kind_byte}
use Rattle.messages.proofs.Encoding.{put_more, numbers_more, length_numbers}
use Rattle.messages.proofs.encoder.put_numbers.Goals as goal

pub loop-i-init : goal.loop-i-init
loop-i-init g c = let e = set_laid c.args.out.now 0 (kind_byte c.args.kind) (omega arith) in search rules

pub loop-i-preserved : goal.loop-i-preserved
loop-i-preserved g c =
    let ns = c.args.numbers in
    let done : List ℕ = kind_byte c.args.kind ∷ flat_map eight (take c.loop-i.i ns) in
    let n : 0 + length done ≡ 1 + 8 * c.loop-i.i = omega (arith, length_numbers ns c.loop-i.i (omega arith)) in
    put_more c.args.out.now c.loop-i.out c.put_u64.new.out 0 (1 + 8 * c.loop-i.i) done (eight (get_or ns c.loop-i.i 0)) n (omega arith) c.loop-i.invariant c.put_u64.ensures
    ∙ ap (λ x. laid c.args.out.now 0 (kind_byte c.args.kind ∷ x)) (numbers_more ns c.loop-i.i (omega arith))
