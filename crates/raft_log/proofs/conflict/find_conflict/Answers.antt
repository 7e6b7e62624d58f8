use Rattle.std.proofs.Common.{◌≡◌, ◌+◌, true, false, refl, arith}
use Rattle.raft_log.specs.View.{log_of, entry_in}
use Rattle.raft_log.specs.Conflict.{has_term}
use Rattle.raft_log.proofs.ConflictLaws.{next_conflict_on, next_conflict_here, conflict_past}
use Rattle.raft_log.proofs.conflict.find_conflict.Goals as goal

pub returns-then-not-match_term : goal.returns-then-not-match_term
returns-then-not-match_term c =
    let at = c.args.prev.0 + c.loop-i.i + 1 in
    let h : has_term (log_of c.args.memory.now) at (entry_in c.args.block.now c.loop-i.i).term ≡ false = cc in
    let e = next_conflict_here (log_of c.args.memory.now) c.args.block.now c.args.prev.0 c.loop-i.i at (omega arith) refl h in
    cc

pub loop-i-preserved : goal.loop-i-preserved
loop-i-preserved c =
    let at = c.args.prev.0 + c.loop-i.i + 1 in
    let h : has_term (log_of c.args.memory.now) at (entry_in c.args.block.now c.loop-i.i).term ≡ true = cc in
    let e = next_conflict_on (log_of c.args.memory.now) c.args.block.now c.args.prev.0 c.loop-i.i at (omega arith) refl h in
    cc

pub returns : goal.returns
returns c =
    let e = conflict_past (log_of c.args.memory.now) c.args.block.now c.args.prev.0 c.loop-i.i (omega arith) in
    cc
