-- Where a log is cut for the entries of an append, in memory and as a list.
use Rattle.std.proofs.Common.{◌≡◌, ℕ, zero, suc, ◌+◌, ◌-◌, ◌<◌, ◌≤◌, min, true, false, cond, ◌&&◌, eqb, ltb, leb, List, [], ◌∷◌, ◌++◌, length, get_or, take, drop, Some, None, Option, sym, refl, ap, ◌∙◌, inl, inr, add-one, arith}
use Rattle.std.proofs.lemmas.List.{append_assoc, take_more}
use Rattle.std.proofs.lemmas.Bool.{eqb-true, ltb-true, ltb-false, leb-true, leb-false, and_parts, and_left, cond-true, cond-false, cond_both, cases_Bool, cases_eq}
use Rattle.raft_log.specs.declared.Index.{Index}
use Rattle.raft_log.specs.Layout.{at_most}
use Rattle.raft_log.specs.Entries.{last_index}
use Rattle.raft_log.specs.Block.{Entry}
use Rattle.raft_log.specs.View.{log_of, no_entry, term_before}
use Rattle.raft_log.specs.Conflict.{has_term, conflict, conflict_by_term, has_entries, spliced, Agreeing, merge}
use Rattle.raft_log.specs.Accept.{truncated, entries_taken, entries_fit, merges_at, merged_at, merges, merged, hint}
use Rattle.raft_log.proofs.ViewLaws.{length_log}
use Rattle.raft_log.proofs.ConflictLaws.{has_term_within, conflict_none, conflict_on, conflict_here, conflict_within}

pub prev_within : (m : List ℕ) (p q : ℕ) → has_term (log_of m) p q ≡ true → p ≤ last_index m
prev_within m p q h = omega (arith, has_term_within (log_of m) p q h, length_log m)

module _ (m : List ℕ) (p : ℕ) (es : List Entry) where
  pub merges_none : conflict (log_of m) p es ≡ None → merges m p es ≡ true
  unfolding merges
  merges_none e = ap (merges_at m p es) e

  pub merged_none : conflict (log_of m) p es ≡ None → merged m p es ≡ m
  unfolding merged
  merged_none e = ap (merged_at m p es) e

  pub merges_some : (c : Index) → conflict (log_of m) p es ≡ Some c → merges m p es ≡ entries_fit (truncated m (c.0 - 1)) (drop (c.0 - 1 - p) es)
  unfolding merges
  merges_some c e = ap (merges_at m p es) e

  pub merged_some : (c : Index) → conflict (log_of m) p es ≡ Some c → merged m p es ≡ entries_taken (truncated m (c.0 - 1)) (drop (c.0 - 1 - p) es)
  unfolding merged
  merged_some c e = ap (merged_at m p es) e

-- WHERE EQUAL TERMS MEAN EQUAL ENTRIES it does not matter where the log is cut
agreeing_rest : (l : List Entry) (p : ℕ) (e : Entry) (es : List Entry) → Agreeing l p (e ∷ es) → Agreeing l (suc p) es
agreeing_rest l p e es a i b h t =
    let q : p + suc i ≡ suc p + i = omega arith in
    ap (λ k. get_or l k no_entry) (sym q) ∙ a (suc i) (omega arith) (omega arith) (ap (λ k. (get_or l k no_entry).term) q ∙ t)

agreeing_first : (l : List Entry) (p : ℕ) (e : Entry) (es : List Entry) → Agreeing l p (e ∷ es) → has_term l (suc p) e.term ≡ true → get_or l p no_entry ≡ e
unfolding has_term
agreeing_first l p e es a y =
    let b = and_parts (leb (suc p) (length l)) (eqb (term_before l (suc p)) e.term) y in
    let q : p + 0 ≡ p = omega arith in
    ap (λ k. get_or l k no_entry) (sym q)
    ∙ a 0 (omega arith) (omega (arith, leb-true (suc p) (length l) b.0)) (ap (λ k. (get_or l k no_entry).term) q ∙ eqb-true (term_before l (suc p)) e.term b.1)

has_on : (l : List Entry) (p : ℕ) (e : Entry) (es : List Entry) → has_term l (suc p) e.term ≡ true → has_entries l p (e ∷ es) ≡ has_entries l (suc p) es
unfolding has_entries
has_on l p e es y = ap (λ x. x && has_entries l (suc p) es) y

has_not : (l : List Entry) (p : ℕ) (e : Entry) (es : List Entry) → has_term l (suc p) e.term ≡ false → has_entries l p (e ∷ es) ≡ false
unfolding has_entries
has_not l p e es f = and_left (has_term l (suc p) e.term) (has_entries l (suc p) es) f

-- there is no conflict where the log has all
pub conflict_has : (l : List Entry) (p : ℕ) (es : List Entry) → conflict l p es ≡ None → has_entries l p es ≡ true
unfolding has_entries
conflict_has l p [] h = refl
conflict_has l p (e ∷ es) h =
    elim (cases_Bool (has_term l (suc p) e.term)) [
      | inl y ↦ has_on l p e es y ∙ conflict_has l (suc p) es (sym (conflict_on l p e es y) ∙ h)
      | inr f ↦ let z : ◌≡◌ {A = ℕ} 0 1 = cc (conflict_here l p e es f) in absurd (omega arith)
    ]

pub conflict_lacks : (l : List Entry) (p : ℕ) (es : List Entry) (c : Index) → conflict l p es ≡ Some c → has_entries l p es ≡ false
conflict_lacks l p [] c h = let z : ◌≡◌ {A = ℕ} 0 1 = cc (conflict_none l p) in absurd (omega arith)
conflict_lacks l p (e ∷ es) c h =
    elim (cases_Bool (has_term l (suc p) e.term)) [
      | inl y ↦ has_on l p e es y ∙ conflict_lacks l (suc p) es c (sym (conflict_on l p e es y) ∙ h)
      | inr f ↦ has_not l p e es f
    ]

pub conflict_none_long : (l : List Entry) (p : ℕ) (es : List Entry) → p ≤ length l → conflict l p es ≡ None → p + length es ≤ length l
conflict_none_long l p [] b h = omega arith
conflict_none_long l p (e ∷ es) b h =
    elim (cases_Bool (has_term l (suc p) e.term)) [
      | inl y ↦ omega (arith, conflict_none_long l (suc p) es (has_term_within l (suc p) e.term y) (sym (conflict_on l p e es y) ∙ h))
      | inr f ↦ let z : ◌≡◌ {A = ℕ} 0 1 = cc (conflict_here l p e es f) in absurd (omega arith)
    ]

spliced_same :
    (l : List Entry) (p : ℕ) (es : List Entry) (c : Index) → Agreeing l p es → conflict l p es ≡ Some c → take (c.0 - 1) l ++ drop (c.0 - 1 - p) es ≡ take p l ++ es
spliced_same l p [] c a h = let z : ◌≡◌ {A = ℕ} 0 1 = cc (conflict_none l p) in absurd (omega arith)
spliced_same l p (e ∷ es) c a h =
    elim (cases_Bool (has_term l (suc p) e.term)) [
      | inl y ↦
          let on : conflict l (suc p) es ≡ Some c = sym (conflict_on l p e es y) ∙ h in
          let w = conflict_within l (suc p) es c on in
          let q : c.0 - 1 - p ≡ suc (c.0 - 1 - suc p) = omega (arith, w.behind) in
          let long : suc p ≤ length l = has_term_within l (suc p) e.term y in
          let more : take (suc p) l ≡ take p l ++ e ∷ [] =
          ap (λ k. take k l) (sym (add-one p)) ∙ (take_more l p no_entry long ∙ ap (λ x. take p l ++ x ∷ []) (agreeing_first l p e es a y)) in
          ap (λ k. take (c.0 - 1) l ++ drop k (e ∷ es)) q
          ∙ (spliced_same l (suc p) es c (agreeing_rest l p e es a) on ∙ (ap (λ x. x ++ es) more ∙ append_assoc (take p l) (e ∷ []) es))
      | inr f ↦
          let q : c.0 ≡ suc p = cc (conflict_here l p e es f) in
          let k : c.0 - 1 ≡ p = omega arith in
          let d : c.0 - 1 - p ≡ 0 = omega arith in
          ap (λ x. take x l ++ drop (c.0 - 1 - p) (e ∷ es)) k ∙ ap (λ x. take p l ++ drop x (e ∷ es)) d
    ]

pub spliced_merge : (l : List Entry) (p : ℕ) (es : List Entry) → Agreeing l p es → spliced l p es (conflict l p es) ≡ merge l p es
unfolding merge
spliced_merge l p es a = go (conflict l p es) refl
  where
    go : (o : Option Index) → conflict l p es ≡ o → spliced l p es (conflict l p es) ≡ cond (has_entries l p es) l (take p l ++ es)
    go None h = ap (spliced l p es) h ∙ sym (cond-true (has_entries l p es) l (take p l ++ es) (conflict_has l p es h))
    go (Some c) h =
        ap (spliced l p es) h ∙ (spliced_same l p es c a h ∙ sym (cond-false (has_entries l p es) l (take p l ++ es) (conflict_lacks l p es c h)))

-- THE HINT of a refusal is the last index below p whose term is not above q
pub by_term_most : (l : List Entry) (t i : ℕ) → conflict_by_term l t i ≤ i
unfolding conflict_by_term
by_term_most l t zero = omega arith
by_term_most l t (suc i) =
    cond_both (leb (term_before l (suc i)) t) (suc i) (conflict_by_term l t i) (λ x. x ≤ suc i) (λ e. omega arith) (λ e. omega (arith, by_term_most l t i))

pub by_term_low : (l : List Entry) (t i : ℕ) → term_before l (conflict_by_term l t i) ≤ t
unfolding conflict_by_term
by_term_low l t zero = omega arith
by_term_low l t (suc i) =
    cond_both (leb (term_before l (suc i)) t) (suc i) (conflict_by_term l t i) (λ x. term_before l x ≤ t) (λ e. leb-true (term_before l (suc i)) t e)
    (λ e. by_term_low l t i)

pub by_term_last : (l : List Entry) (t i j : ℕ) → j ≤ i → term_before l j ≤ t → j ≤ conflict_by_term l t i
unfolding conflict_by_term
by_term_last l t zero j b h = b
by_term_last l t (suc i) j b h =
    cond_both (leb (term_before l (suc i)) t) (suc i) (conflict_by_term l t i) (λ x. j ≤ x) (λ e. b)
    (λ e. by_term_last l t i j (elim (cases_eq j (suc i)) [ inl q ↦ absurd (high q e) | inr ne ↦ omega arith ]) h)
  where
    high : j ≡ suc i → leb (term_before l (suc i)) t ≡ false → ⊥
    high q e = omega (arith, leb-false (term_before l (suc i)) t e, ap (term_before l) q)

pub at_most_min : (a b : ℕ) → at_most a b ≡ min a b
at_most_min a b = cond_both (ltb a b) a b (λ x. x ≡ min a b) (λ e. omega (arith, ltb-true a b e)) (λ e. omega (arith, ltb-false a b e))

module _ (l : List Entry) (p q : ℕ) where
  pub hint_below : 1 ≤ p → hint l p q < p
  unfolding hint
  hint_below b = omega (arith, by_term_most l q (at_most (p - 1) (length l)), at_most_min (p - 1) (length l))

  pub hint_within : hint l p q ≤ length l
  unfolding hint
  hint_within = omega (arith, by_term_most l q (at_most (p - 1) (length l)), at_most_min (p - 1) (length l))

  pub hint_low : term_before l (hint l p q) ≤ q
  unfolding hint
  hint_low = by_term_low l q (at_most (p - 1) (length l))

  pub hint_last : (j : ℕ) → j < p → j ≤ length l → term_before l j ≤ q → j ≤ hint l p q
  unfolding hint
  hint_last j a b h = by_term_last l q (at_most (p - 1) (length l)) j (omega (arith, at_most_min (p - 1) (length l))) h
