-- The decisions of logs, whatever the entries hold. Assumes nothing.
use Rattle.std.proofs.Common.{◌≡◌, ℕ, zero, suc, ◌<◌, ◌≤◌, ◌⊎◌, List, [], ◌∷◌, ◌++◌, length, take, drop, sym, refl, ap, ◌∙◌, subst, inl, inr, arith}
use mathlib.Core.Option.{Option, none, some}
use Rattle.std.proofs.lemmas.List.{take-append-drop, take-take}
use Rattle.std.proofs.lemmas.Bool.{cases_lt}
use Rattle.protocol.specs.Lists.{In, All, Apart, Begins, Alike}
use Rattle.protocol.specs.Log.{Entry, Log, content_at, with_content, decisions}

pub content_cases : {A : Type 0} (o : Option A) → (o ≡ none) ⊎ ((a : A) × (o ≡ some a))
content_cases none = inl refl
content_cases (some a) = inr (a, refl)

pub none_some : {A : Type 0} (o : Option A) (a : A) → o ≡ none → o ≡ some a → ⊥
none_some o a e f = let z : ◌≡◌ {A = ℕ} 0 1 = cc in omega arith

pub some_same : {A : Type 0} (a b : A) → some a ≡ some b → a ≡ b
some_same a b e = cc

pub decisions_none : {A : Type 0} → decisions {A = A} [] ≡ []
unfolding decisions
decisions_none = refl

pub decisions_empty : {A : Type 0} (e : Entry A) (es : Log A) → e.content ≡ none → decisions (e ∷ es) ≡ decisions es
unfolding decisions
decisions_empty {A} e es z = ap (λ (o : Option A). with_content o (decisions es)) z

pub decisions_some : {A : Type 0} (e : Entry A) (es : Log A) (a : A) → e.content ≡ some a → decisions (e ∷ es) ≡ a ∷ decisions es
unfolding decisions
decisions_some {A} e es a z = ap (λ (o : Option A). with_content o (decisions es)) z

with_content-++ : {A : Type 0} (o : Option A) (xs ys : List A) → with_content o (xs ++ ys) ≡ with_content o xs ++ ys
with_content-++ none xs ys = refl
with_content-++ (some a) xs ys = refl

pub decisions-++ : {A : Type 0} (a b : Log A) → decisions (a ++ b) ≡ decisions a ++ decisions b
unfolding decisions
decisions-++ [] b = refl
decisions-++ (e ∷ es) b = ap (with_content e.content) (decisions-++ es b) ∙ with_content-++ e.content (decisions es) (decisions b)

pub decisions_take : {A : Type 0} (l : Log A) (j k : ℕ) → j ≤ k → Begins (decisions (take j l)) (decisions (take k l))
unfolding Begins
decisions_take {A} l j k h = (
  decisions (drop j (take k l)),
  sym (decisions-++ (take j l) (drop j (take k l)))
      ∙ ap (λ (x : Log A). decisions (x ++ drop j (take k l))) (sym (take-take j k l h))
      ∙ ap decisions (take-append-drop j (take k l)),
)

pub decisions_alike : {A : Type 0} (l : Log A) (j k : ℕ) → Alike (decisions (take j l)) (decisions (take k l))
unfolding Alike
decisions_alike l j k = elim (cases_lt j k) [ inl h ↦ inl (decisions_take l j k (omega arith)) | inr h ↦ inr (decisions_take l k j h) ]

-- logs with the same contents have the same decisions
pub decisions_same : {A : Type 0} (k : ℕ) (p l : Log A) → k ≤ length p → k ≤ length l → ((i : ℕ) → i < k → content_at l i ≡ content_at p i) → decisions (take k p) ≡ decisions (take k l)
unfolding decisions
decisions_same zero p l hp hl s = refl
decisions_same (suc k) [] l hp hl s = absurd (omega arith)
decisions_same (suc k) (x ∷ p) [] hp hl s = absurd (omega arith)
decisions_same {A} (suc k) (x ∷ p) (y ∷ l) hp hl s =
    ap (λ (o : Option A). with_content o (decisions (take k p))) (sym (s 0 (omega arith)))
    ∙ ap (with_content y.content) (decisions_same k p l (omega arith) (omega arith) (λ i b. s (suc i) (omega arith)))

-- what holds of the contents holds of the decisions
pub decisions_all : {A : Type 0} (P : A → Type 0) (l : Log A) → ((i : ℕ) (a : A) → i < length l → content_at l i ≡ some a → P a) → All P (decisions l)
unfolding decisions
decisions_all P [] h = tt
decisions_all {A} P (e ∷ es) h =
    let r = decisions_all P es (λ i a b z. h (suc i) a (omega arith) z) in
    elim (content_cases e.content) [
      | inl z ↦ subst (λ (xs : List A). All P xs) (sym (decisions_empty e es z)) r
      | inr z ↦ subst (λ (xs : List A). All P xs) (sym (decisions_some e es z.0 z.1)) (h 0 z.0 (omega arith) z.1, r)
    ]

in_decisions : {A : Type 0} (a : A) (l : Log A) → In a (decisions l) → (i : ℕ) × (i < length l) × (content_at l i ≡ some a)
unfolding decisions
in_decisions a [] h = absurd h
in_decisions {A} a (e ∷ es) h =
    elim (content_cases e.content) [
      | inl z ↦
          let r = in_decisions a es (subst (λ (xs : List A). In a xs) (decisions_empty e es z) h) in
          (suc r.0, omega (arith, r.1), r.2)
      | inr z ↦
          let q : (z.0 ≡ a) ⊎ In a (decisions es) = subst (λ (xs : List A). In a xs) (decisions_some e es z.0 z.1) h in
          elim q [
            | inl k ↦ (0, omega arith, z.1 ∙ ap some k)
            | inr k ↦ let r = in_decisions a es k in (suc r.0, omega (arith, r.1), r.2)
          ]
    ]

pub decisions_apart : {A : Type 0} (l : Log A) → ((i k : ℕ) (a : A) → i < k → k < length l → content_at l i ≡ some a → content_at l k ≡ some a → ⊥) → Apart (decisions l)
unfolding decisions
decisions_apart [] h = tt
decisions_apart {A} (e ∷ es) h =
    let r = decisions_apart es (λ i k a b c x y. h (suc i) (suc k) a (omega arith) (omega arith) x y) in
    elim (content_cases e.content) [
      | inl z ↦ subst (λ (xs : List A). Apart xs) (sym (decisions_empty e es z)) r
      | inr z ↦
          subst (λ (xs : List A). Apart xs) (sym (decisions_some e es z.0 z.1))
          (λ q. let w = in_decisions z.0 es q in h 0 (suc w.0) z.0 (omega arith) (omega (arith, w.1)) z.1 w.2, r)
    ]
