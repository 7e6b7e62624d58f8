-- What a log is after entries of the leader came. Assumes nothing.
use Rattle.std.proofs.Common.{◌≡◌, ℕ, zero, suc, pred, ◌+◌, ◌-◌, ◌<◌, ◌≤◌, true, false, ◌&&◌, eqb, ltb, ◌⊎◌, [], ◌∷◌, ◌++◌, length, take, sym, refl, ap, ◌∙◌, subst, inl, inr, arith}
use mathlib.Core.Option.{none}
use Rattle.std.proofs.lemmas.List.{length-take-le, length-append, get_or-take, get_or_append_left, get_or-append_right}
use Rattle.std.proofs.lemmas.Bool.{both_ways, cases_lt, cases_eq, and_parts, and_from, ltb-true, lt-ltb, eqb-true, eq-eqb}
use Rattle.protocol.specs.Log.{entry, Log, entry_at, term_at, term_before, Covers, has_entries, merge}
use Rattle.protocol.specs.History.{History}
use Rattle.protocol.specs.Invariant.{Matching}
use Rattle.protocol.proofs.Updates.{pick_cases}
use Rattle.protocol.proofs.Logs.{term_same, covers_on}
use Rattle.protocol.proofs.Matches.{match_agree, match_on, front_agree}

has_true : {A : Type 0} (l : Log A) (p : ℕ) (es : Log A) → has_entries l p es ≡ true → (i : ℕ) → i < length es → (p + i < length l) × (term_at l (p + i) ≡ term_at es i)
unfolding has_entries
has_true l p [] h i b = absurd (omega arith)
has_true l p (e ∷ es) h zero b =
    let q = and_parts (ltb p (length l) && eqb (term_at l p) e.term) (has_entries l (suc p) es) h in
    let r = and_parts (ltb p (length l)) (eqb (term_at l p) e.term) q.0 in
    let z : p + 0 ≡ p = omega arith in
    (omega (arith, ltb-true p (length l) r.0), ap (λ (x : ℕ). term_at l x) z ∙ eqb-true (term_at l p) e.term r.1)
has_true l p (e ∷ es) h (suc i) b =
    let q = and_parts (ltb p (length l) && eqb (term_at l p) e.term) (has_entries l (suc p) es) h in
    let r = has_true l (suc p) es q.1 i (omega arith) in
    let z : p + suc i ≡ suc p + i = omega arith in
    (omega (arith, r.0), ap (λ (x : ℕ). term_at l x) z ∙ r.1)

has_from : {A : Type 0} (l : Log A) (p : ℕ) (es : Log A) → ((i : ℕ) → i < length es → (p + i < length l) × (term_at l (p + i) ≡ term_at es i)) → has_entries l p es ≡ true
unfolding has_entries
has_from l p [] h = refl
has_from l p (e ∷ es) h =
    let z : p + 0 ≡ p = omega arith in
    let r = h 0 (omega arith) in
    and_from (ltb p (length l) && eqb (term_at l p) e.term) (has_entries l (suc p) es)
    (and_from (ltb p (length l)) (eqb (term_at l p) e.term) (lt-ltb p (length l) (omega (arith, r.0)))
    (eq-eqb (term_at l p) e.term (ap (λ (x : ℕ). term_at l x) (sym z) ∙ r.1)))
    (has_from l (suc p) es (λ i b.
    let s = h (suc i) (omega arith) in
    let y : suc p + i ≡ p + suc i = omega arith in
    (omega (arith, s.0), ap (λ (x : ℕ). term_at l x) y ∙ s.1)))

has_long : {A : Type 0} (l : Log A) (p : ℕ) (es : Log A) → p ≤ length l → has_entries l p es ≡ true → p + length es ≤ length l
has_long l p es b h =
    elim (cases_eq (length es) 0) [
      | inl e ↦ omega arith
      | inr e ↦ let r = has_true l p es h (pred (length es)) (omega arith) in omega (arith, r.0)
    ]

pub merge_cases : {A : Type 0} (l : Log A) (p : ℕ) (es : Log A) → ((has_entries l p es ≡ true) × (merge l p es ≡ l)) ⊎ ((has_entries l p es ≡ false) × (merge l p es ≡ take p l ++ es))
unfolding merge
merge_cases l p es = pick_cases (has_entries l p es) l (take p l ++ es)

-- entries es are those of b from place p on, and l is b's up to there
module _ (g : History) (l b es : Log ℕ) (p : ℕ) (gl : Matching g l) (gb : Matching g b) (hl : p ≤ length l) (hb : p + length es ≤ length b)
    (prev : term_before l p ≡ term_before b p) (same : (i : ℕ) → i < length es → entry_at es i ≡ entry_at b (p + i)) where
  agree_front : (k : ℕ) → k < p → entry_at l k ≡ entry_at b k
  agree_front k h = front_agree g l b p gl gb hl (omega arith) prev k h

  agree_all : has_entries l p es ≡ true → (k : ℕ) → k < p + length es → entry_at l k ≡ entry_at b k
  agree_all h k c =
      elim (cases_lt k p) [
        | inl d ↦ agree_front k d
        | inr d ↦
            let z : p + (k - p) ≡ k = omega arith in
            let r = has_true l p es h (k - p) (omega arith) in
            let e : term_at l k ≡ term_at b k =
            subst (λ (x : ℕ). term_at l x ≡ term_at b x) z (r.1 ∙ term_same _ _ (same (k - p) (omega arith))) in
            match_agree g l b k (gl k (omega (arith, r.0))) (gb k (omega arith)) e k (omega arith)
      ]

  cut_length : length (take p l ++ es) ≡ p + length es
  cut_length =
      let el : length (take p l) ≡ p = length-take-le p l hl in
      let ea : length (take p l ++ es) ≡ length (take p l) + length es = length-append (take p l) es in
      omega arith

  cut_at : (i : ℕ) → i < p + length es → entry_at (take p l ++ es) i ≡ entry_at b i
  cut_at i h =
      let el : length (take p l) ≡ p = length-take-le p l hl in
      elim (cases_lt i p) [
        | inl d ↦ get_or_append_left (take p l) es (entry 0 none) i (omega arith) ∙ get_or-take p l i (entry 0 none) d ∙ agree_front i d
        | inr d ↦
            let z : p + (i - p) ≡ i = omega arith in
            get_or-append_right (take p l) es p i (entry 0 none) el d ∙ same (i - p) (omega arith) ∙ ap (λ (x : ℕ). entry_at b x) z
      ]

  pub merge_long : p + length es ≤ length (merge l p es)
  merge_long =
      elim (merge_cases l p es) [
        | inl h ↦ omega (arith, ap length h.1, has_long l p es hl h.0)
        | inr h ↦ omega (arith, ap length h.1, cut_length)
      ]

  -- what came is there
  pub merge_at : (k : ℕ) → k < p + length es → entry_at (merge l p es) k ≡ entry_at b k
  merge_at k c =
      elim (merge_cases l p es) [
        | inl h ↦ ap (λ (x : Log ℕ). entry_at x k) h.1 ∙ agree_all h.0 k c
        | inr h ↦ ap (λ (x : Log ℕ). entry_at x k) h.1 ∙ cut_at k c
      ]

  -- a log that has all of it is left as it is
  pub merge_kept : p + length es ≤ length l → ((i : ℕ) → i < p + length es → entry_at l i ≡ entry_at b i) → merge l p es ≡ l
  merge_kept c s =
      elim (merge_cases l p es) [
        | inl h ↦ h.1
        | inr h ↦ absurd (both_ways (has_entries l p es) h.0
            (has_from l p es (λ i d. (omega arith, term_same _ _ (s (p + i) (omega arith) ∙ sym (same i d))))))
      ]

  -- the merged log is the old one, or what came and nothing behind it
  pub merge_either : (merge l p es ≡ l) ⊎ ((length (merge l p es) ≡ p + length es) × ((i : ℕ) → i < p + length es → entry_at (merge l p es) i ≡ entry_at b i))
  merge_either = elim (merge_cases l p es) [ inl h ↦ inl h.1 | inr h ↦ inr (ap length h.1 ∙ cut_length, merge_at) ]

  pub merge_matching : Matching g (merge l p es)
  merge_matching i c =
      elim merge_either [
        | inl e ↦ subst (λ (x : Log ℕ). Matching g x) (sym e) gl i c
        | inr h ↦ match_on g b (merge l p es) i (λ x k. merge_at x (omega (arith, h.0))) (gb i (omega (arith, h.0)))
      ]

  pub merge_below : (t : ℕ) → ((i : ℕ) → i < length l → term_at l i ≤ t) → ((i : ℕ) → i < length b → term_at b i ≤ t) → (i : ℕ) → i < length (merge l p es) → term_at (merge l p es) i ≤ t
  merge_below t lo up i c =
      elim merge_either [
        | inl e ↦ subst (λ (x : Log ℕ). (k : ℕ) → k < length x → term_at x k ≤ t) (sym e) lo i c
        | inr h ↦ omega (arith, term_same _ _ (merge_at i (omega (arith, h.0))), up i (omega (arith, h.0)))
      ]

  -- what both the old log and b cover, the merged one covers
  pub merge_covers : (m : ℕ) (q : Log ℕ) → Covers m q l → Covers m q b → Covers m q (merge l p es)
  merge_covers m q v w =
      elim (cases_lt m (p + length es)) [
        | inl h ↦ covers_on m q b (merge l p es) w (omega (arith, merge_long)) (λ i c. merge_at i (omega arith))
        | inr h ↦ subst (λ (x : Log ℕ). Covers m q x) (sym (merge_kept (omega (arith, v.long)) (λ i c. v.front i (omega arith) ∙ sym (w.front i (omega arith))))) v
      ]
