use Rattle.std.proofs.Common.{refl}
use Rattle.raft_log.specs.Conflict.{has_term, conflict}
use Rattle.raft_log.proofs.cases.conflict_cases.Goals as goal

pub returns : goal.returns
unfolding has_term conflict
returns c = record { L001 = refl; L002 = refl; L003 = refl; L004 = refl; L005 = refl; L006 = refl; L009 = refl; L010 = refl; L011 = refl }
