-- What more than half of the voters have. Assumes nothing: these are definitions.
use Rattle.std.specs.Prelude.{◌≡◌, ℕ, ◌-◌, ◌*◌, ◌<◌, ◌≤◌, Bool, cond, ◌||◌, ◌&&◌, ◌⊎◌, List, length, Some, None, count_by, Option, ◌==◌, nat_le, nat_lt}
use Rattle.std.specs.List.{Contains}
use Rattle.raft_log.specs.declared.Index.{Index}
use Rattle.tracker.specs.declared.majority.VoteResult.{VoteResult}
use Rattle.tracker.specs.declared.majority.VoteResult.TheVariants.{Pending, Lost, Won}

-- how many of the voters, each with the last index that it has, have got to k
unfoldable pub reached : List ℕ → ℕ → ℕ
reached indices k = count_by (nat_le k) indices

-- whether more than half of them have
abbrev pub quorum_has : List ℕ → ℕ → Bool
quorum_has indices k = nat_lt (length indices) (2 * reached indices k)

-- the larger of the best so far and k, if more than half have that
abbrev pub better : List ℕ → ℕ → ℕ → ℕ
better indices best k = cond (nat_lt best k && quorum_has indices k) k best

-- more than half of them have
abbrev pub Quorum : List ℕ → ℕ → Type 0
Quorum indices k = length indices < 2 * reached indices k

-- the committed index is one of theirs, more than half have got to it, and to no larger one
pub record Committed (indices : List ℕ) (k : ℕ) : Type 0 where
  pub one_of : Contains indices k
  pub quorum : Quorum indices k
  pub largest : (j : ℕ) → Quorum indices j → j ≤ k

-- the committed index of 1 to 1,024 voters; none for none of them, or for more
unfoldable pub CommittedSays : List ℕ → Option Index → Type 0
CommittedSays indices (Some k) = (length indices ≤ 1024) × Committed indices k.0
CommittedSays indices None = (length indices ≡ 0) ⊎ (1024 < length indices)

-- won once more than half granted; pending while more than half have not refused; with no voters there is nobody to ask, and it is won
abbrev pub vote_result : (size granted refused : ℕ) → VoteResult
vote_result size granted refused = cond (size == 0 || nat_lt size (2 * granted)) Won (cond (nat_lt size (2 * (size - refused))) Pending Lost)
