use Rattle.std.proofs.Common.{◌≡◌, ◌+◌, true, false, length, arith, rules}
use Rattle.raft_log.specs.Layout.{at_most}
use Rattle.std.proofs.lemmas.Bool.{and_left, and_right, and_from}
use Rattle.raft_log.specs.View.{log_of}
use Rattle.raft_log.specs.Conflict.{has_term}
use Rattle.raft_log.specs.Accept.{merges, accepts, accepted}
use Rattle.raft_log.proofs.LogLaws.{last_most}
use Rattle.raft_log.proofs.MergeLaws.{prev_within}
use Rattle.raft_log.proofs.accept.maybe_append.Goals as goal
use Rattle.raft_log.proofs.accept.maybe_append.Goals.{then-not-match_term-via-then-not-match_term, then-not-match_term-via-else-not-match_term+then-not-merge}

pub merge-requires : goal.merge-requires
merge-requires c =
    let h : has_term (log_of c.args.memory.now) c.args.append.now.prev.0 c.args.append.now.prev_term.0 ≡ true = cc in
    prev_within c.args.memory.now c.args.append.now.prev.0 c.args.append.now.prev_term.0 h

pub returns-then-not-match_term : goal.returns-then-not-match_term
unfolding accepts
returns-then-not-match_term c =
    elim c.then-not-match_term.branch [
      | then-not-match_term-via-then-not-match_term w ↦
          let h : has_term (log_of c.args.memory.now) c.args.append.now.prev.0 c.args.append.now.prev_term.0 ≡ false = cc in
          (and_left (has_term (log_of c.args.memory.now) c.args.append.now.prev.0 c.args.append.now.prev_term.0) (merges c.args.memory.now c.args.append.now.prev.0 c.args.append.now.block) h, cc, w.memory-is)
      | then-not-match_term-via-else-not-match_term+then-not-merge w ↦
          let h : merges c.args.memory.now c.args.append.now.prev.0 c.args.append.now.block ≡ false = cc in
          let d = w.if-not-merge.ensures.done in
          (and_right (has_term (log_of c.args.memory.now) c.args.append.now.prev.0 c.args.append.now.prev_term.0) (merges c.args.memory.now c.args.append.now.prev.0 c.args.append.now.block) h, cc, cc)
    ]

pub overflow_add-last_new : goal.overflow_add-last_new
overflow_add-last_new c =
    let h : has_term (log_of c.args.memory.now) c.args.append.now.prev.0 c.args.append.now.prev_term.0 ≡ true = cc in
    omega (arith, prev_within c.args.memory.now c.args.append.now.prev.0 c.args.append.now.prev_term.0 h, last_most c.args.memory.now)

pub returns : goal.returns
unfolding accepts accepted
returns c =
    let h : has_term (log_of c.args.memory.now) c.args.append.now.prev.0 c.args.append.now.prev_term.0 ≡ true = cc in
    let g : merges c.args.memory.now c.args.append.now.prev.0 c.args.append.now.block ≡ true = cc in
    let d = c.if-not-merge.ensures.done in
    let k : c.min.result.0 ≡ at_most c.args.append.now.commit.0 (c.args.append.now.prev.0 + length c.args.append.now.block) = search rules in
    (and_from (has_term (log_of c.args.memory.now) c.args.append.now.prev.0 c.args.append.now.prev_term.0) (merges c.args.memory.now c.args.append.now.prev.0 c.args.append.now.block) h g, cc, cc)
