use Rattle.std.proofs.Common.{refl}
use Rattle.raft_log.specs.Conflict.{has_term, has_entries, merge}
use Rattle.raft_log.proofs.cases.append_cases.Goals as goal

pub returns : goal.returns
unfolding has_term has_entries merge
returns c = record { L025 = refl; L026 = refl; L027 = refl; L029 = refl; L030 = refl; L031 = refl; L032 = refl; L033 = refl; L034 = refl; L035 = refl; L037 = refl }
