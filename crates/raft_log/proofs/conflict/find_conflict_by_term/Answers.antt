use Rattle.std.proofs.Common.{◌≡◌, ◌+◌, ◌-◌, ◌<◌, ◌≤◌, sym, ap, ◌∙◌, arith, rules}
use Rattle.raft_log.specs.Layout.{at_most}
use Rattle.raft_log.specs.Entries.{last_index, term_at}
use Rattle.raft_log.specs.View.{log_of, term_before}
use Rattle.raft_log.specs.Conflict.{conflict_by_term}
use Rattle.raft_log.proofs.ViewLaws.{length_log, log_term}
use Rattle.raft_log.proofs.ConflictLaws.{by_term_here, by_term_below}
use Rattle.raft_log.proofs.conflict.find_conflict_by_term.Goals as goal

pub returns-then-le : goal.returns-then-le
returns-then-le c =
    let m = c.args.memory.now in
    let i : c.loop-i.i - 1 + 1 ≡ c.loop-i.i = omega arith in
    let low : term_at m (c.loop-i.i - 1 + 1) ≤ c.args.term.0 = search rules in
    let h : term_before (log_of m) c.loop-i.i ≤ c.args.term.0 = omega (arith, log_term m c.loop-i.i, ap (term_at m) i, low) in
    let top : c.min-last.result.0 ≡ at_most c.args.index.0 (last_index m) = search rules in
    i
    ∙ (sym (by_term_here (log_of m) c.args.term.0 c.loop-i.i h)
    ∙ (c.loop-i.invariant ∙ ap (conflict_by_term (log_of m) c.args.term.0) (top ∙ ap (at_most c.args.index.0) (sym (length_log m)))))

pub loop-i-preserved : goal.loop-i-preserved
loop-i-preserved c =
    let m = c.args.memory.now in
    let i : c.loop-i.i - 1 + 1 ≡ c.loop-i.i = omega arith in
    let high : c.args.term.0 < term_at m (c.loop-i.i - 1 + 1) = search rules in
    let h : c.args.term.0 < term_before (log_of m) c.loop-i.i = omega (arith, log_term m c.loop-i.i, ap (term_at m) i, high) in
    sym (by_term_below (log_of m) c.args.term.0 c.loop-i.i h) ∙ c.loop-i.invariant

pub returns : goal.returns
returns c =
    let m = c.args.memory.now in
    let z : c.loop-i.i ≡ 0 = omega arith in
    let h : term_before (log_of m) c.loop-i.i ≤ c.args.term.0 = rw z (omega arith) in
    let top : c.min-last.result.0 ≡ at_most c.args.index.0 (last_index m) = search rules in
    sym z
    ∙ (sym (by_term_here (log_of m) c.args.term.0 c.loop-i.i h)
    ∙ (c.loop-i.invariant ∙ ap (conflict_by_term (log_of m) c.args.term.0) (top ∙ ap (at_most c.args.index.0) (sym (length_log m)))))
