-- What a leader holds for decided.
use Rattle.std.specs.Prelude.{ℕ, cond, List, take, drop, ◌==◌}
use Rattle.raft_log.specs.Entries.{last_index, term_at, commit_raised}
use Rattle.raft.specs.Rows.{majority_below}

-- the largest index of the log that more than half of n have acknowledged
abbrev pub quorum_index : List ℕ → ℕ → ℕ
quorum_index m n = majority_below (take n (drop 15 m)) (last_index m)

-- it is decided if its entry is of the leader's own term t; commit never falls
unfoldable pub maybe_committed : List ℕ → ℕ → ℕ → List ℕ
maybe_committed m n t = cond (term_at m (quorum_index m n) == t) (commit_raised m (quorum_index m n)) m
