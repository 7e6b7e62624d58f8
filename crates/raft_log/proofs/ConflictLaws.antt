-- How far a log and a block of entries agree.
use Rattle.std.proofs.Common.{◌≡◌, ℕ, zero, suc, ◌+◌, ◌-◌, ◌<◌, ◌≤◌, true, false, ◌&&◌, ◌||◌, eqb, ltb, leb, List, [], ◌∷◌, length, get_or, drop, Some, None, sym, refl, ap, ◌∙◌, inl, inr, arith}
use Rattle.std.proofs.lemmas.List.{drop_more, drop_all}
use Rattle.std.proofs.lemmas.List.FromFn.{length-map-range_with_len, get_or-map-range_with_len}
use Rattle.std.proofs.lemmas.Bool.{cond-true, cond-false, le-leb, lt-leb, leb-true, and_parts, cases_Bool}
use Rattle.raft_log.specs.declared.Index.{Index}
use Rattle.raft_log.specs.Entries.{last_index, term_at, index}
use Rattle.raft_log.specs.Block.{Entry, block_entry, block_entries}
use Rattle.raft_log.specs.View.{log_of, no_entry, entry_in, term_before}
use Rattle.raft_log.specs.Conflict.{has_term, is_up_to_date, conflict, conflict_by_term}
use Rattle.raft_log.proofs.ViewLaws.{length_log, log_term}

-- THE ENTRIES OF A BLOCK
module _ (bs : List ℕ) (n : ℕ) where
  pub length_block_entries : length (block_entries bs n) ≡ n
  unfolding block_entries
  length_block_entries = length-map-range_with_len (λ i. block_entry bs n i) 0 n

  pub block_entries_at : (i : ℕ) (d : Entry) → i < n → get_or (block_entries bs n) i d ≡ block_entry bs n i
  unfolding block_entries
  block_entries_at i d l = get_or-map-range_with_len (λ i. block_entry bs n i) 0 n i i d l (omega arith)

-- ENTRY BY ENTRY
pub conflict_none : (l : List Entry) (p : ℕ) → conflict l p [] ≡ None
unfolding conflict
conflict_none l p = refl

pub conflict_on : (l : List Entry) (p : ℕ) (e : Entry) (es : List Entry) → has_term l (suc p) e.term ≡ true → conflict l p (e ∷ es) ≡ conflict l (suc p) es
unfolding conflict
conflict_on l p e es h = cond-true (has_term l (suc p) e.term) (conflict l (suc p) es) (Some (index (suc p))) h

pub conflict_here : (l : List Entry) (p : ℕ) (e : Entry) (es : List Entry) → has_term l (suc p) e.term ≡ false → conflict l p (e ∷ es) ≡ Some (index (suc p))
unfolding conflict
conflict_here l p e es h = cond-false (has_term l (suc p) e.term) (conflict l (suc p) es) (Some (index (suc p))) h

-- entries that agree up to entry i
module _ (l es : List Entry) (p i q : ℕ) (less : i < length es) (at : q ≡ p + i + 1) where
  abbrev rest : List Entry
  rest = drop (i + 1) es

  pub next_conflict_on : has_term l q (entry_in es i).term ≡ true → conflict l (p + i) (drop i es) ≡ conflict l (p + (i + 1)) (drop (i + 1) es)
  next_conflict_on h =
      let e : q ≡ suc (p + i) = omega arith in
      let f : suc (p + i) ≡ p + (i + 1) = omega arith in
      ap (conflict l (p + i)) (drop_more es i no_entry less) ∙ (conflict_on l (p + i) (entry_in es i) rest (rw e at h) ∙ ap (λ k. conflict l k rest) f)

  pub next_conflict_here : has_term l q (entry_in es i).term ≡ false → conflict l (p + i) (drop i es) ≡ Some (index q)
  next_conflict_here h =
      let e : q ≡ suc (p + i) = omega arith in
      ap (conflict l (p + i)) (drop_more es i no_entry less) ∙ (conflict_here l (p + i) (entry_in es i) rest (rw e at h) ∙ ap (λ k. Some (index k)) (sym e))

pub conflict_past : (l es : List Entry) (p i : ℕ) → length es ≤ i → conflict l (p + i) (drop i es) ≡ None
conflict_past l es p i b = ap (conflict l (p + i)) (drop_all i es b) ∙ conflict_none l (p + i)

-- the index of the first difference: of an entry of es, and not far behind the log
pub record Within (l : List Entry) (p : ℕ) (es : List Entry) (c : ℕ) : Type 0 where
  pub behind : p < c
  pub upto : c ≤ p + length es
  pub near : p ≤ length l → c ≤ suc (length l)

pub has_term_within : (l : List Entry) (i t : ℕ) → has_term l i t ≡ true → i ≤ length l
unfolding has_term
has_term_within l i t h = leb-true i (length l) (and_parts (leb i (length l)) (eqb (term_before l i) t) h).0

pub conflict_within : (l : List Entry) (p : ℕ) (es : List Entry) (c : Index) → conflict l p es ≡ Some c → Within l p es c.0
conflict_within l p [] c h = let z : ◌≡◌ {A = ℕ} 0 1 = cc (conflict_none l p) in absurd (omega arith)
conflict_within l p (e ∷ es) c h =
    elim (cases_Bool (has_term l (suc p) e.term)) [
      | inl y ↦
          let w = conflict_within l (suc p) es c (sym (conflict_on l p e es y) ∙ h) in
          let k = has_term_within l (suc p) e.term y in
          record { behind = omega (arith, w.behind); upto = omega (arith, w.upto); near = λ b. w.near k }
      | inr f ↦
          let q : c.0 ≡ suc p = cc (conflict_here l p e es f) in
          record { behind = omega arith; upto = omega arith; near = λ b. omega arith }
    ]

-- THE LARGEST INDEX WITH A TERM THAT IS LOW ENOUGH
module _ (l : List Entry) (t : ℕ) where
  pub by_term_here : (i : ℕ) → term_before l i ≤ t → conflict_by_term l t i ≡ i
  unfolding conflict_by_term
  by_term_here zero h = refl
  by_term_here (suc i) h = cond-true (leb (term_before l (suc i)) t) (suc i) (conflict_by_term l t i) (le-leb (term_before l (suc i)) t h)

  pub by_term_below : (i : ℕ) → t < term_before l i → conflict_by_term l t i ≡ conflict_by_term l t (i - 1)
  unfolding conflict_by_term
  by_term_below zero h = absurd (omega arith)
  by_term_below (suc i) h =
      let e : suc i - 1 ≡ i = omega arith in
      cond-false (leb (term_before l (suc i)) t) (suc i) (conflict_by_term l t i) (lt-leb (term_before l (suc i)) t h) ∙ ap (conflict_by_term l t) (sym e)

-- IN MEMORY the same is read off the words
pub has_term_read : (m : List ℕ) (i t : ℕ) → has_term (log_of m) i t ≡ (leb i (last_index m) && eqb (term_at m i) t)
unfolding has_term
has_term_read m i t = cc (length_log m, log_term m i)

pub up_to_date_read :
    (m : List ℕ) (i t : ℕ) →
    is_up_to_date (log_of m) i t ≡ (ltb (term_at m (last_index m)) t || (eqb t (term_at m (last_index m)) && leb (last_index m) i))
unfolding is_up_to_date
up_to_date_read m i t = cc (length_log m, log_term m (last_index m))
