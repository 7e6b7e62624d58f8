-- The log that a memory stands for, read entry by entry.
use Rattle.std.proofs.Common.{◌≡◌, ℕ, zero, suc, ◌+◌, ◌-◌, ◌<◌, ◌≤◌, eqb, leb, List, [], ◌∷◌, ◌++◌, map, length, get_or, take, drop, sym, refl, ap, ◌∙◌, inl, inr, add-one, arith}
use mathlib.Core.Option.{none, some}
use Rattle.std.specs.List.{range_with_len}
use Rattle.std.proofs.lemmas.List.{ext_get_or, get_or_past, get_or-take, get_or-drop, length-take-le, length-drop, append-nil}
use Rattle.std.proofs.lemmas.List.FromFn.{length-map-range_with_len, get_or-map-range_with_len, take-map-range_with_len, map-range_with_len_more}
use Rattle.std.proofs.lemmas.Bool.{eq-eqb, ne_eqb, lt-leb, and_right, cond-true, cond-false, cases_eq, cases_lt}
use Rattle.raft_log.specs.Layout.{entry_row}
use Rattle.raft_log.specs.Values.{value_at}
use Rattle.raft_log.specs.Entries.{last_index, in_log, term_at, number_at}
use Rattle.raft_log.specs.Block.{Entry, log_entry, log_entries}
use Rattle.raft_log.specs.View.{content_between, entry_of, entries_of, log_of, Rises, TidyEntries, no_entry, term_before, with_content, decisions}
use Rattle.raft_log.proofs.LogLaws.{number_none, term_none}

-- WHAT AN ENTRY HOLDS
pub content_none : (m : List ℕ) (a b : ℕ) → b ≡ a → content_between m a b ≡ none
content_none m a b e = cond-true (eqb b a) none (some (value_at m (b - 1))) (eq-eqb b a e)

pub content_some : (m : List ℕ) (a b : ℕ) → a < b → content_between m a b ≡ some (value_at m (b - 1))
content_some m a b l = cond-false (eqb b a) none (some (value_at m (b - 1))) (ne_eqb b a (λ e. omega arith))

-- THE FIRST n ENTRIES
module _ (m : List ℕ) (n : ℕ) where
  pub length_entries : length (entries_of m n) ≡ n
  unfolding entries_of
  length_entries = length-map-range_with_len (λ j. entry_of m j) 0 n

  pub entries_at : (j : ℕ) (d : Entry) → j < n → get_or (entries_of m n) j d ≡ entry_of m j
  unfolding entries_of
  entries_at j d l = get_or-map-range_with_len (λ j. entry_of m j) 0 n j j d l (omega arith)

  pub entries_more : entries_of m (suc n) ≡ entries_of m n ++ entry_of m n ∷ []
  unfolding entries_of
  entries_more = ap (λ k. map (λ j. entry_of m j) (range_with_len 0 k)) (sym (add-one n)) ∙ map-range_with_len_more (λ j. entry_of m j) 0 n n (omega arith)

pub entries_alike : (m m₁ : List ℕ) (n : ℕ) → ((j : ℕ) → j < n → entry_of m₁ j ≡ entry_of m j) → entries_of m₁ n ≡ entries_of m n
entries_alike m m₁ n h =
    ext_get_or no_entry (entries_of m₁ n) (entries_of m n) (length_entries m₁ n ∙ sym (length_entries m n))
    (λ j l₁. let l : j < n = omega (arith, length_entries m₁ n) in entries_at m₁ n j no_entry l ∙ (h j l ∙ sym (entries_at m n j no_entry l)))

-- THE LOG
pub length_log : (m : List ℕ) → length (log_of m) ≡ last_index m
unfolding log_of
length_log m = length_entries m (last_index m)

pub log_at : (m : List ℕ) (j : ℕ) (d : Entry) → j < last_index m → get_or (log_of m) j d ≡ entry_of m j
unfolding log_of
log_at m j d l = entries_at m (last_index m) j d l

pub take_log : (m : List ℕ) (n : ℕ) → n ≤ last_index m → take n (log_of m) ≡ entries_of m n
unfolding log_of entries_of
take_log m n l = take-map-range_with_len (λ j. entry_of m j) 0 (last_index m) n l

-- beyond the log's end there is no term
term_past : (m : List ℕ) (i : ℕ) → last_index m < i → term_at m i ≡ 0
unfolding term_at
term_past m i l = cond-false (in_log m i) (get_or m (entry_row i) 0) 0 (and_right (leb 1 i) (leb i (last_index m)) (lt-leb i (last_index m) l))

-- the term at an index is that of the log
pub log_term : (m : List ℕ) (i : ℕ) → term_before (log_of m) i ≡ term_at m i
log_term m zero = sym (term_none m)
log_term m (suc j) =
    elim (cases_lt j (last_index m)) [
      | inl l ↦ ap (λ (e : Entry). e.term) (log_at m j no_entry l)
      | inr l ↦ ap (λ (e : Entry). e.term) (get_or_past (log_of m) j no_entry (omega (arith, length_log m))) ∙ sym (term_past m (suc j) (omega arith))
    ]

-- the numbers of a tidy log never fall
pub number_up : (m : List ℕ) → TidyEntries m → (i j : ℕ) → i ≤ j → j ≤ last_index m → number_at m i ≤ number_at m j
number_up m t i zero l b = let e : i ≡ 0 = omega arith in rw e (omega arith)
number_up m t i (suc j) l b =
    elim (cases_eq i (suc j)) [
      | inl e ↦ rw e (omega arith)
      | inr ne ↦ omega (arith, number_up m t i j (omega arith) (omega arith), (t.rises j (omega arith)).least)
    ]

-- a row of entries one longer, in its decisions
decisions_push : (l : List Entry) (e : Entry) → decisions (l ++ e ∷ []) ≡ decisions l ++ with_content e.content []
unfolding decisions
decisions_push [] e = refl
decisions_push (x ∷ l) e = elim x.content as (λ o. with_content o (decisions (l ++ e ∷ [])) ≡ with_content o (decisions l) ++ with_content e.content []) [ none ↦ decisions_push l e | some v ↦ ap (λ vs. v ∷ vs) (decisions_push l e) ]

-- the values in the first n slots
abbrev pub slots : List ℕ → ℕ → List (List ℕ)
slots m n = map (λ k. value_at m k) (range_with_len 0 n)

slots_more : (m : List ℕ) (n : ℕ) → slots m n ++ value_at m n ∷ [] ≡ slots m (suc n)
slots_more m n = sym (map-range_with_len_more (λ k. value_at m k) 0 n n (omega arith)) ∙ ap (slots m) (add-one n)

slots_next : (m : List ℕ) (a b : ℕ) → Rises a b → slots m a ++ with_content (content_between m a b) [] ≡ slots m b
slots_next m a b r =
    elim (cases_eq b a) [
      | inl e ↦ ap (λ o. slots m a ++ with_content o []) (content_none m a b e) ∙ (append-nil (slots m a) ∙ ap (slots m) (sym e))
      | inr ne ↦
          let s : b ≡ suc a = omega (arith, r.least, r.most) in
          let p : b - 1 ≡ a = omega arith in
          ap (λ o. slots m a ++ with_content o []) (content_some m a b (omega arith))
          ∙ (ap (λ k. slots m a ++ value_at m k ∷ []) p ∙ (slots_more m a ∙ ap (slots m) (sym s)))
    ]

none_first : (m : List ℕ) → decisions (entries_of m 0) ≡ []
unfolding decisions entries_of
none_first m = refl

-- DECISIONS: the first entries hold the values in the first slots, as many as are counted up to there
pub decisions_first : (m : List ℕ) → TidyEntries m → (n : ℕ) → n ≤ last_index m → decisions (entries_of m n) ≡ slots m (number_at m n)
decisions_first m t zero b = none_first m ∙ sym (ap (slots m) (number_none m))
decisions_first m t (suc n) b =
    ap decisions (entries_more m n)
    ∙ (decisions_push (entries_of m n) (entry_of m n)
    ∙ (ap (λ vs. vs ++ with_content (entry_of m n).content []) (decisions_first m t n (omega arith))
    ∙ slots_next m (number_at m n) (number_at m (suc n)) (t.rises n (omega arith))))

pub decisions_upto : (m : List ℕ) → TidyEntries m → (n : ℕ) → n ≤ last_index m → decisions (take n (log_of m)) ≡ slots m (number_at m n)
decisions_upto m t n b = ap decisions (take_log m n b) ∙ decisions_first m t n b

-- the number of an entry counts the entries with a value up to it
pub number_counts : (m : List ℕ) → TidyEntries m → (n : ℕ) → n ≤ last_index m → length (decisions (take n (log_of m))) ≡ number_at m n
number_counts m t n b = ap length (decisions_upto m t n b) ∙ length-map-range_with_len (λ k. value_at m k) 0 (number_at m n)

-- decision k, from 1, is the value in slot k - 1
pub decision_at : (m : List ℕ) → TidyEntries m → (n k : ℕ) → n ≤ last_index m → k < number_at m n → get_or (decisions (take n (log_of m))) k [] ≡ value_at m k
decision_at m t n k b l = ap (λ vs. get_or vs k []) (decisions_upto m t n b) ∙ get_or-map-range_with_len (λ k. value_at m k) 0 (number_at m n) k k [] l (omega arith)

-- what a sender reads for a block is a part of the log
entry_from_one : (m : List ℕ) (j : ℕ) → log_entry m (suc j) ≡ entry_of m j
entry_from_one m j = let e : suc j - 1 ≡ j = omega arith in cc

pub log_entries_part : (m : List ℕ) (p n : ℕ) → p + n ≤ last_index m → log_entries m (suc p) n ≡ take n (drop p (log_of m))
unfolding log_entries
log_entries_part m p n b =
    ext_get_or no_entry (map (λ i. log_entry m i) (range_with_len (suc p) n)) (take n (drop p (log_of m))) (length-map-range_with_len (λ i. log_entry m i) (suc p) n ∙ sym long)
    (λ i l₁. let l : i < n = omega (arith, length-map-range_with_len (λ i. log_entry m i) (suc p) n) in
    get_or-map-range_with_len (λ i. log_entry m i) (suc p) n i (suc (p + i)) no_entry l (omega arith)
    ∙ (entry_from_one m (p + i)
    ∙ sym (get_or-take n (drop p (log_of m)) i no_entry l ∙ (get_or-drop p (log_of m) i no_entry ∙ log_at m (p + i) no_entry (omega arith)))))
  where
    long : length (take n (drop p (log_of m))) ≡ n
    long = length-take-le n (drop p (log_of m)) (omega (arith, length-drop p (log_of m), length_log m))
