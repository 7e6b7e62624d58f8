use Rattle.std.proofs.Common.{◌≡◌, true, false, ◌-◌, length, get_or, take, drop, sym, ap, ◌∙◌, refl, arith, rules}
use Rattle.raft_log.specs.Block.{block_entries}
use mathlib.Core.Option.{some}
use Rattle.messages.specs.Letter.{append}
use Rattle.messages.proofs.Decoding.{append_none, append_some}
use Rattle.messages.proofs.decoder.append.Goals as goal
use Rattle.std.proofs.lemmas.List.{take_rest}

pub returns-in_err-entries : goal.returns-in_err-entries
returns-in_err-entries c =
    let bs = c.args.bytes.now in
    let n : c.from.result ≡ get_or bs 33 0 = search rules in
    let e = append_none bs (take (length bs - 34) (drop 34 bs)) c.from.result false (take_rest bs 34) n (sym c.in_err-entries.ensures) refl in
    search rules

pub returns : goal.returns
returns c =
    let bs = c.args.bytes.now in
    let n : c.from.result ≡ get_or bs 33 0 = search rules in
    let e = append_some bs (take (length bs - 34) (drop 34 bs)) c.from.result true (take_rest bs 34) n (sym c.in_ok-entries.ensures.0)
    c.get_u64.result c.get_u64-2.result c.get_u64-3.result c.get_u64-4.result (omega arith) refl
    c.get_u64.ensures c.get_u64-2.ensures c.get_u64-3.ensures c.get_u64-4.ensures in
    e ∙ ap (λ es. some (append c.get_u64.result c.get_u64-2.result c.get_u64-3.result c.get_u64-4.result es))
    (sym (c.in_ok-entries.ensures.1 ∙ ap (λ v. block_entries v c.from.result) (take_rest bs 34)))
