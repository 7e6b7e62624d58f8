-- Rows of seven words, one for each machine: who voted, what each has acknowledged, what it is sent next, and which letter is due to it.
use Rattle.std.specs.Prelude.{◌≡◌, ℕ, zero, suc, ◌+◌, ◌*◌, ◌<◌, ◌≢◌, Bool, cond, not, ◌&&◌, List, length, take, drop, count_by, ◌==◌, nat_eq, nat_lt, slice_index, slice_set}
use Rattle.tracker.specs.Majority.{reached}
use Rattle.raft.specs.declared.rows.Row.{Row}
use Rattle.raft.specs.declared.rows.Row.TheVariants.{Votes, Matched, Next, Due}
use Rattle.raft.specs.declared.header.Role.{Role}
use Rattle.raft.specs.declared.header.Machine.{Machine}

-- where a row begins
abbrev pub row_at : Row → ℕ
row_at Votes = 8
row_at Matched = 15
row_at Next = 22
row_at Due = 29

-- the first n words of the row at base set to f 0, f 1 ..
unfoldable pub row_put : List ℕ → ℕ → (ℕ → ℕ) → ℕ → List ℕ
row_put m base f zero = m
row_put m base f (suc j) = slice_set (row_put m base f j) (base + j) (f j)

-- the whole row
abbrev pub row_set : List ℕ → ℕ → (ℕ → ℕ) → List ℕ
row_set m base f = row_put m base f 7

-- m₁ is m with a row set to words of which the relation says what they are, for each machine
pub record SetBy (m : List ℕ) (row : ℕ) (Says : ℕ → ℕ → Type 0) (m₁ : List ℕ) : Type 0 where
  pub long : length m₁ ≡ length m
  pub said : (j : ℕ) → j < 7 → Says j (slice_index m₁ (row + j))
  pub kept : (i : ℕ) → ((j : ℕ) → j < 7 → i ≢ row + j) → slice_index m₁ i ≡ slice_index m i

-- one machine alone has v
abbrev pub only : ℕ → ℕ → ℕ → ℕ
only i v j = cond (j == i) v 0

-- each machine of the cluster but this one has v
abbrev pub others : Machine Role → ℕ → ℕ → ℕ
others x v j = cond (nat_lt j x.size.0 && not (j == x.id.0)) v 0

-- who voted for this machine
abbrev pub vote_count : List ℕ → ℕ → ℕ
vote_count m n = count_by (nat_eq 1) (take n (drop 8 m))

-- what machine j has acknowledged, and the index that it is sent next
abbrev pub matched_at : List ℕ → ℕ → ℕ
matched_at m j = slice_index m (15 + j)

abbrev pub next_at : List ℕ → ℕ → ℕ
next_at m j = slice_index m (22 + j)

-- are so many of n more than half?
abbrev pub most_of : ℕ → ℕ → Bool
most_of k n = nat_lt n (2 * k)

-- the largest number up to k that more than half of a row have got to
unfoldable pub majority_below : List ℕ → ℕ → ℕ
majority_below ks zero = 0
majority_below ks (suc k) = cond (most_of (reached ks (suc k)) (length ks)) (suc k) (majority_below ks k)
