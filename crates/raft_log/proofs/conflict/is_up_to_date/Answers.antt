use Rattle.std.proofs.Common.{rules}
use Rattle.raft_log.proofs.ConflictLaws.{up_to_date_read}
use Rattle.raft_log.proofs.conflict.is_up_to_date.Goals as goal

pub returns-then-gt : goal.returns-then-gt
returns-then-gt c = let e = up_to_date_read c.args.memory.now c.args.last_index.0 c.args.last_term.0 in search rules

pub returns-then-eq : goal.returns-then-eq
returns-then-eq c = let e = up_to_date_read c.args.memory.now c.args.last_index.0 c.args.last_term.0 in search rules

pub returns-else-eq : goal.returns-else-eq
returns-else-eq c = let e = up_to_date_read c.args.memory.now c.args.last_index.0 c.args.last_term.0 in search rules
