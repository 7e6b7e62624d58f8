use Rattle.std.proofs.Common.{rules}
use Rattle.raft_log.proofs.ConflictLaws.{has_term_read}
use Rattle.raft_log.proofs.conflict.match_term.Goals as goal

pub returns-then-le : goal.returns-then-le
returns-then-le c = let e = has_term_read c.args.memory.now c.args.index.0 c.args.term.0 in search rules

pub returns-else-le : goal.returns-else-le
returns-else-le c = let e = has_term_read c.args.memory.now c.args.index.0 c.args.term.0 in search rules
