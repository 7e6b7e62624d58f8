use Rattle.std.proofs.Common.{sym, refl, ◌∙◌, arith}
use Rattle.raft_log.specs.View.{log_of}
use Rattle.raft_log.proofs.LogLaws.{last_most}
use Rattle.raft_log.proofs.ViewLaws.{length_log}
use Rattle.raft_log.proofs.ConflictLaws.{conflict_within}
use Rattle.raft_log.proofs.MergeLaws.{merges_none, merged_none, merges_some, merged_some}
use Rattle.raft_log.proofs.accept.merge.Goals as goal

pub find_conflict-requires : goal.find_conflict-requires
find_conflict-requires c = omega (arith, c.requires, last_most c.args.memory.now)

pub returns-in_default : goal.returns-in_default
returns-in_default c =
    let e = sym c.find_conflict.ensures ∙ c.in_default.is in
    record {
      fits = sym (merges_none c.args.memory.now c.args.prev.0 c.args.block.now e);
      done = sym (merged_none c.args.memory.now c.args.prev.0 c.args.block.now e);
    }

pub overflow_sub-index : goal.overflow_sub-index
overflow_sub-index c =
    let w = conflict_within (log_of c.args.memory.now) c.args.prev.0 c.args.block.now c.in-Some.conflict (sym c.find_conflict.ensures ∙ c.in-Some.is) in
    omega (arith, w.behind)

pub overflow_sub-start : goal.overflow_sub-start
overflow_sub-start c =
    let w = conflict_within (log_of c.args.memory.now) c.args.prev.0 c.args.block.now c.in-Some.conflict (sym c.find_conflict.ensures ∙ c.in-Some.is) in
    omega (arith, w.behind)

pub has_room-requires : goal.has_room-requires
has_room-requires c =
    let w = conflict_within (log_of c.args.memory.now) c.args.prev.0 c.args.block.now c.in-Some.conflict (sym c.find_conflict.ensures ∙ c.in-Some.is) in
    let e = length_log c.args.memory.now in
    record { known = omega (arith, w.near (omega (arith, c.requires))); within = omega (arith, w.upto) }

pub returns-then-not-has_room : goal.returns-then-not-has_room
returns-then-not-has_room c =
    let e = merges_some c.args.memory.now c.args.prev.0 c.args.block.now c.in-Some.conflict (sym c.find_conflict.ensures ∙ c.in-Some.is) in
    record { fits = cc; done = refl }

pub append_entries-requires : goal.append_entries-requires
append_entries-requires c =
    let w = conflict_within (log_of c.args.memory.now) c.args.prev.0 c.args.block.now c.in-Some.conflict (sym c.find_conflict.ensures ∙ c.in-Some.is) in
    record { within = omega (arith, w.upto); room = cc }

pub returns : goal.returns
returns c =
    let q = sym c.find_conflict.ensures ∙ c.in-Some.is in
    let e = merges_some c.args.memory.now c.args.prev.0 c.args.block.now c.in-Some.conflict q in
    let f = merged_some c.args.memory.now c.args.prev.0 c.args.block.now c.in-Some.conflict q in
    record { fits = cc; done = cc }
