-- What each change of the log leaves as it was, and what it makes of the rest.
use Rattle.std.proofs.Common.{◌≡◌, ℕ, zero, suc, ◌+◌, ◌≤◌, false, cond, ◌&&◌, ltb, leb, ◌≢◌, List, length, get_or, set, sym, refl, ap, ◌∙◌, inl, inr, arith}
use Rattle.std.proofs.lemmas.List.{length-set, get_or-set_same, get_or-set_other}
use Rattle.std.proofs.lemmas.Bool.{le-leb, and_from, cond-true, cond-false, cond_both, cases_Bool, cases_lt, lt-ltb, true≢false}
use Rattle.raft_log.specs.Layout.{memory_words, at_most, entry_row}
use Rattle.raft_log.specs.Values.{value_at}
use Rattle.raft_log.specs.Entries.{last_index, commit_index, applied_number, in_log, term_at, number_at, decided, commit_rises, commit_raised, applied_set}
use Rattle.raft_log.proofs.ValueLaws.{at_most_le, at_most_same, value_alike}

-- what is read is bounded
pub last_most : (m : List ℕ) → last_index m ≤ 8193
unfolding last_index
last_most m = at_most_le (get_or m 64 0) 8193

pub commit_most : (m : List ℕ) → commit_index m ≤ last_index m
unfolding commit_index
commit_most m = at_most_le (get_or m 65 0) (last_index m)

pub applied_most : (m : List ℕ) → applied_number m ≤ 4096
unfolding applied_number
applied_most m = at_most_le (get_or m 66 0) 4096

pub number_most : (m : List ℕ) (i : ℕ) → number_at m i ≤ 4096
unfolding number_at
number_most m i =
    cond_both (in_log m i) (at_most (get_or m (entry_row i + 1) 0) 4096) 0 (λ x. x ≤ 4096) (λ e. at_most_le (get_or m (entry_row i + 1) 0) 4096) (λ e. omega arith)

-- before the first entry there is none
pub number_none : (m : List ℕ) → number_at m 0 ≡ 0
unfolding number_at
number_none m = refl

pub term_none : (m : List ℕ) → term_at m 0 ≡ 0
unfolding term_at
term_none m = refl

-- the entries and values are the same
pub record SameEntries (m m₁ : List ℕ) : Type 0 where
  pub last : last_index m₁ ≡ last_index m
  pub terms : (i : ℕ) → term_at m₁ i ≡ term_at m i
  pub numbers : (i : ℕ) → number_at m₁ i ≡ number_at m i
  pub held : (k : ℕ) → value_at m₁ k ≡ value_at m k

pub same_entries : (m m₁ : List ℕ) → get_or m₁ 64 0 ≡ get_or m 64 0 → ((i : ℕ) → 72 ≤ i → get_or m₁ i 0 ≡ get_or m i 0) → SameEntries m m₁
unfolding last_index term_at number_at
same_entries m m₁ e rows = record { last = last; terms = terms; numbers = numbers; held = λ k. value_alike m m₁ k (λ i a b. rows i (omega arith)) }
  where
    last : at_most (get_or m₁ 64 0) 8193 ≡ at_most (get_or m 64 0) 8193
    last = ap (λ x. at_most x 8193) e

    terms : (i : ℕ) → term_at m₁ i ≡ term_at m i
    terms zero = refl
    terms (suc i) = ap (λ x. cond (leb 1 (suc i) && leb (suc i) x) (get_or m₁ (entry_row (suc i)) 0) 0) last
        ∙ ap (λ x. cond (in_log m (suc i)) x 0) (rows (entry_row (suc i)) (omega arith))

    numbers : (i : ℕ) → number_at m₁ i ≡ number_at m i
    numbers zero = refl
    numbers (suc i) = ap (λ x. cond (leb 1 (suc i) && leb (suc i) x) (at_most (get_or m₁ (entry_row (suc i) + 1) 0) 4096) 0) last
        ∙ ap (λ x. cond (in_log m (suc i)) (at_most x 4096) 0) (rows (entry_row (suc i) + 1) (omega arith))

-- the decided part and what was applied
pub same_commit : (m m₁ : List ℕ) → SameEntries m m₁ → get_or m₁ 65 0 ≡ get_or m 65 0 → commit_index m₁ ≡ commit_index m
unfolding commit_index
same_commit m m₁ s e = ap (λ x. at_most x (last_index m₁)) e ∙ ap (at_most (get_or m 65 0)) s.last

pub same_decided : (m m₁ : List ℕ) → SameEntries m m₁ → commit_index m₁ ≡ commit_index m → decided m₁ ≡ decided m
same_decided m m₁ s e = ap (number_at m₁) e ∙ s.numbers (commit_index m)

pub same_applied : (m m₁ : List ℕ) → get_or m₁ 66 0 ≡ get_or m 66 0 → applied_number m₁ ≡ applied_number m
unfolding applied_number
same_applied m m₁ e = ap (λ x. at_most x 4096) e

-- WHAT IS APPLIED is noted in a word of its own
module _ (m : List ℕ) (k : ℕ) where
  pub length_applied_set : length (applied_set m k) ≡ length m
  unfolding applied_set
  length_applied_set = length-set m 66 k

  pub applied_set_other : (i : ℕ) → i ≢ 66 → get_or (applied_set m k) i 0 ≡ get_or m i 0
  unfolding applied_set
  applied_set_other i ne = get_or-set_other m 66 i k 0 ne

  pub applied_set_entries : SameEntries m (applied_set m k)
  applied_set_entries = same_entries m (applied_set m k) (applied_set_other 64 (omega arith)) (λ i l. applied_set_other i (omega arith))

  pub applied_set_commit : commit_index (applied_set m k) ≡ commit_index m
  applied_set_commit = same_commit m (applied_set m k) applied_set_entries (applied_set_other 65 (omega arith))

  pub applied_set_applied : length m ≡ memory_words → k ≤ 4096 → applied_number (applied_set m k) ≡ k
  unfolding applied_set applied_number
  applied_set_applied l b = ap (λ x. at_most x 4096) (get_or-set_same m 66 k 0 (omega arith)) ∙ at_most_same k 4096 b

-- THE COMMIT rises, in a word of its own
module _ (m : List ℕ) (i : ℕ) where
  pub length_commit_raised : length (commit_raised m i) ≡ length m
  unfolding commit_raised
  length_commit_raised = cond_both (commit_rises m i) (set m 65 i) m (λ x. length x ≡ length m) (λ e. length-set m 65 i) (λ e. refl)

  pub commit_raised_other : (j : ℕ) → j ≢ 65 → get_or (commit_raised m i) j 0 ≡ get_or m j 0
  unfolding commit_raised
  commit_raised_other j ne = cond_both (commit_rises m i) (set m 65 i) m (λ x. get_or x j 0 ≡ get_or m j 0) (λ e. get_or-set_other m 65 j i 0 ne) (λ e. refl)

  pub commit_raised_entries : SameEntries m (commit_raised m i)
  commit_raised_entries = same_entries m (commit_raised m i) (commit_raised_other 64 (omega arith)) (λ j l. commit_raised_other j (omega arith))

  pub commit_raised_applied : applied_number (commit_raised m i) ≡ applied_number m
  commit_raised_applied = same_applied m (commit_raised m i) (commit_raised_other 66 (omega arith))

  pub commit_raised_up : length m ≡ memory_words → commit_index m ≤ i → i ≤ last_index m → commit_index (commit_raised m i) ≡ i
  unfolding commit_raised commit_index
  commit_raised_up l a b =
      elim (cases_Bool (commit_rises m i)) [
        | inl e ↦
            ap (λ x. at_most (get_or x 65 0) (last_index x)) (cond-true (commit_rises m i) (set m 65 i) m e)
            ∙ (ap (λ x. at_most x (last_index (set m 65 i))) (get_or-set_same m 65 i 0 (omega arith))
            ∙ (ap (at_most i) (same_entries m (set m 65 i) (get_or-set_other m 65 64 i 0 (omega arith)) (λ j l₁. get_or-set_other m 65 j i 0 (omega arith))).last ∙ at_most_same i (last_index m) b))
        | inr e ↦
            ap (λ x. at_most (get_or x 65 0) (last_index x)) (cond-false (commit_rises m i) (set m 65 i) m e)
            ∙ same e
      ]
    where
      same : commit_rises m i ≡ false → commit_index m ≡ i
      same e =
          elim (cases_lt (commit_index m) i) [
            | inl l₁ ↦ absurd (true≢false (sym (and_from (ltb (commit_index m) i) (leb i (last_index m)) (lt-ltb (commit_index m) i l₁) (le-leb i (last_index m) b)) ∙ e))
            | inr l₁ ↦ omega arith
          ]
