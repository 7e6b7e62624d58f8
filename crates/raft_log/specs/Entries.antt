-- The log in memory.
use Rattle.std.specs.Prelude.{◌≡◌, ℕ, ◌+◌, ◌-◌, Bool, true, false, cond, ◌&&◌, List, length, Some, None, Option, ◌==◌, nat_le, nat_lt, slice_index, slice_set}
use Rattle.raft_log.specs.declared.Index.{Index}
use Rattle.raft_log.specs.Layout.{at_most, entry_row}
use Rattle.raft_log.specs.Values.{value_put}

-- how many entries there are
unfoldable pub last_index : List ℕ → ℕ
last_index m = at_most (slice_index m 64) 8193

-- how many of them are known to be decided
unfoldable pub commit_index : List ℕ → ℕ
commit_index m = at_most (slice_index m 65) (last_index m)

-- the number of the last decision that was applied
unfoldable pub applied_number : List ℕ → ℕ
applied_number m = at_most (slice_index m 66) 4096

-- is there an entry at i?
abbrev pub in_log : List ℕ → ℕ → Bool
in_log m i = nat_le 1 i && nat_le i (last_index m)

-- the term of entry i, 0 where there is none
unfoldable pub term_at : List ℕ → ℕ → ℕ
term_at m i = cond (in_log m i) (slice_index m (entry_row i)) 0

-- how many values stand up to entry i and with it
unfoldable pub number_at : List ℕ → ℕ → ℕ
number_at m i = cond (in_log m i) (at_most (slice_index m (entry_row i + 1)) 4096) 0

-- how many values the log has
abbrev pub values : List ℕ → ℕ
values m = number_at m (last_index m)

-- how many decisions are known
abbrev pub decided : List ℕ → ℕ
decided m = number_at m (commit_index m)

-- is the last entry an empty one?
abbrev pub last_is_empty : List ℕ → Bool
last_is_empty m = nat_le 1 (last_index m) && values m == number_at m (last_index m - 1)

-- memory with entry i of term t, up to which n values stand
abbrev pub entry_put : List ℕ → ℕ → ℕ → ℕ → List ℕ
entry_put m i t n = slice_set (slice_set m (entry_row i) t) (entry_row i + 1) n

-- memory with entry i, which is then the last
abbrev pub entry_pushed : List ℕ → ℕ → ℕ → ℕ → List ℕ
entry_pushed m i t n = slice_set (entry_put m i t n) 64 i

-- is there room for a value of so many bytes?
abbrev pub value_fits : List ℕ → ℕ → Bool
value_fits m long = nat_le long 256 && (nat_lt (last_index m) 8193 && nat_lt (values m) 4096)

-- memory with a value of term t behind the last entry
unfoldable pub value_appended : List ℕ → ℕ → List ℕ → List ℕ
value_appended m t v = entry_pushed (value_put m (values m) v) (last_index m + 1) t (values m + 1)

abbrev pub index : ℕ → Index
index i = record { 0 = i }

-- what appending a value does, and answers
abbrev pub ValueAppended : List ℕ → ℕ → List ℕ → Option Index → List ℕ → Type 0
ValueAppended m t v (Some i) m₁ = (value_fits m (length v) ≡ true) × (i ≡ index (last_index m + 1)) × (m₁ ≡ value_appended m t v)
ValueAppended m t v None m₁ = (value_fits m (length v) ≡ false) × (m₁ ≡ m)

-- where the empty entry of a new leader goes: in the place of one that is last, or behind the last
abbrev pub empty_place : List ℕ → ℕ
empty_place m = cond (last_is_empty m) (last_index m) (last_index m + 1)

-- is there room for it?
abbrev pub empty_fits : List ℕ → Bool
empty_fits m = nat_le (empty_place m) 8193

-- memory with an empty entry of term t last
unfoldable pub empty_appended : List ℕ → ℕ → List ℕ
empty_appended m t = entry_pushed m (empty_place m) t (values m)

-- what appending an empty entry does, and answers
abbrev pub EmptyAppended : List ℕ → ℕ → Option Index → List ℕ → Type 0
EmptyAppended m t (Some i) m₁ = (empty_fits m ≡ true) × (i ≡ index (empty_place m)) × (m₁ ≡ empty_appended m t)
EmptyAppended m t None m₁ = (empty_fits m ≡ false) × (m₁ ≡ m)

-- what is known to be decided never falls, and never passes the log
abbrev pub commit_rises : List ℕ → ℕ → Bool
commit_rises m i = nat_lt (commit_index m) i && nat_le i (last_index m)

unfoldable pub commit_raised : List ℕ → ℕ → List ℕ
commit_raised m i = cond (commit_rises m i) (slice_set m 65 i) m

unfoldable pub applied_set : List ℕ → ℕ → List ℕ
applied_set m k = slice_set m 66 k
