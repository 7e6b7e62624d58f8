-- What the changes of a well-formed memory make of the log that it stands for.
use Rattle.std.specs.Prelude.{◌≡◌, ℕ, ◌+◌, ◌<◌, ◌≤◌, min, max, true, List, [], ◌∷◌, ◌++◌, map, length, take, slice_index}
use Rattle.std.proofs.Math.Option.{some}
use Rattle.std.specs.List.{range_with_len}
use Rattle.raft_log.specs.Values.{value_at}
use Rattle.raft_log.specs.Entries.{last_index, commit_index, number_at, value_fits, value_appended, empty_fits, empty_appended}
use Rattle.raft_log.specs.Block.{Entry, block_entries, block_fits}
use Rattle.raft_log.specs.View.{entry, log_of, Tidy, term_before, renewed, decisions, ValidContent, Valid}
use Rattle.raft_log.specs.Conflict.{Agreeing, merge}
use Rattle.raft_log.specs.Accept.{accepts, accepted, hint}

-- the decisions among the first n entries are the values in the first slots, as many as the number of entry n says
abbrev pub NumbersCount : Type 0
NumbersCount =
    (m : List ℕ) (n : ℕ) → Tidy m → n ≤ last_index m → decisions (take n (log_of m)) ≡ map (λ k. value_at m k) (range_with_len 0 (number_at m n))

-- a value that is appended is one more entry
abbrev pub ValueBehind : Type 0
ValueBehind =
    (m : List ℕ) (t : ℕ) (v : List ℕ) → Tidy m → ValidContent (some v) → value_fits m (length v) ≡ true →
    Tidy (value_appended m t v) × (log_of (value_appended m t v) ≡ log_of m ++ entry t (some v) ∷ [])

-- a new leader's empty entry renews one that is last, or is one more
abbrev pub EmptyLast : Type 0
EmptyLast = (m : List ℕ) (t : ℕ) → Tidy m → empty_fits m ≡ true → Tidy (empty_appended m t) × (log_of (empty_appended m t) ≡ renewed t (log_of m))

-- an append that is taken merges its entries with the log; the commit rises as far as was compared, and stays within the log
abbrev pub AppendMerges : Type 0
AppendMerges =
    (m : List ℕ) (p q k : ℕ) (es : List Entry) → Tidy m → Valid es → accepts m p q es ≡ true →
    Tidy (accepted m p k es)
    × (Agreeing (log_of m) p es → log_of (accepted m p k es) ≡ merge (log_of m) p es)
    × (commit_index (accepted m p k es) ≡ max (min (commit_index m) (length (log_of (accepted m p k es)))) (min k (p + length es)))

-- the entries of a block of bytes can be taken
abbrev pub BlockValid : Type 0
BlockValid = (bs : List ℕ) (n : ℕ) → block_fits bs n ≡ true → ((i : ℕ) → slice_index bs i < 256) → Valid (block_entries bs n)

-- the hint of a refusal is the last index below p whose term is not above q
pub record Hint (l : List Entry) (p q : ℕ) : Type 0 where
  pub below : 1 ≤ p → hint l p q < p
  pub within : hint l p q ≤ length l
  pub low : term_before l (hint l p q) ≤ q
  pub last : (j : ℕ) → j < p → j ≤ length l → term_before l j ≤ q → j ≤ hint l p q

abbrev pub HintLast : Type 0
HintLast = (l : List Entry) (p q : ℕ) → Hint l p q
