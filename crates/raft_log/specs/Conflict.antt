-- Where two logs part, and which of them is further. A log is a list of entries; index 0 is before the first and has term 0.
use Rattle.std.specs.Prelude.{◌≡◌, ℕ, zero, suc, ◌+◌, ◌-◌, ◌<◌, Bool, true, cond, ◌&&◌, ◌||◌, List, [], ◌∷◌, ◌++◌, length, get_or, take, drop, Some, None, Option, ◌==◌, nat_le, nat_lt, slice_index_or}
use Rattle.raft_log.specs.declared.Index.{Index}
use Rattle.raft_log.specs.Entries.{index}
use Rattle.raft_log.specs.Block.{Entry}
use Rattle.raft_log.specs.View.{no_entry, term_before}

-- has the log l index i, with term t?
unfoldable pub has_term : List Entry → ℕ → ℕ → Bool
has_term l i t = nat_le i (length l) && term_before l i == t

-- the term of the last entry, 0 of no entry
abbrev pub last_term : List Entry → ℕ
last_term l = term_before l (length l)

-- is a log that ends at index i with term t at least as far as l: by the term, then by length?
unfoldable pub is_up_to_date : List Entry → ℕ → ℕ → Bool
is_up_to_date l i t = nat_lt (last_term l) t || (t == last_term l && nat_le (length l) i)

-- of the entries es for the places behind p, the index of the first that l does not have with its term
unfoldable pub conflict : List Entry → ℕ → List Entry → Option Index
conflict l p [] = None
conflict l p (e ∷ es) = cond (has_term l (suc p) e.term) (conflict l (suc p) es) (Some (index (suc p)))

-- has l all of the entries es behind p, by their terms?
unfoldable pub has_entries : List Entry → ℕ → List Entry → Bool
has_entries l p [] = true
has_entries l p (e ∷ es) = has_term l (suc p) e.term && has_entries l (suc p) es

-- the largest index up to i whose term is at most t
unfoldable pub conflict_by_term : List Entry → ℕ → ℕ → ℕ
conflict_by_term l t zero = 0
conflict_by_term l t (suc i) = cond (nat_le (term_before l (suc i)) t) (suc i) (conflict_by_term l t i)

-- l with es behind index p: cut at c, where it first lacks one of them
abbrev pub spliced : List Entry → ℕ → List Entry → Option Index → List Entry
spliced l p es None = l
spliced l p es (Some c) = take (c.0 - 1) l ++ drop (c.0 - 1 - p) es

-- the entries es behind p are those of l wherever the terms are equal, as in logs of one cluster
abbrev pub Agreeing : List Entry → ℕ → List Entry → Type 0
Agreeing l p es = (i : ℕ) → i < length es → p + i < length l → (get_or l (p + i) no_entry).term ≡ (get_or es i no_entry).term → slice_index_or l (p + i) no_entry ≡ slice_index_or es i no_entry

-- l with es behind p where they agree so: l if it has them all, or else es behind its first p
unfoldable pub merge : List Entry → ℕ → List Entry → List Entry
merge l p es = cond (has_entries l p es) l (take p l ++ es)
