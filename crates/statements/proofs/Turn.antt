-- What is applied in turn has no gap.
use Rattle.std.proofs.Common.{◌≡◌, ℕ, suc, ◌<◌, ◌≤◌, Bool, true, false, eqb, ltb, leb, ◌⊎◌, List, [], ◌∷◌, refl, inl, inr, arith}
use Rattle.std.proofs.lemmas.Bool.{and_parts, leb-true, ltb-true, ltb-false, eqb-true, eq-eqb, cases_lt}
use Rattle.together.specs.House.{pick, any, Applied, Far, next_ok, may_apply, larger, got_to, all_in_turn, far_after}
use Rattle.together.proofs.Lists.{or_left, or_right}

-- since power came a machine has got no further than ever
unfoldable pub Within : ℕ → List ℕ → Type 0
Within ever [] = Unit {0}
Within ever (k ∷ ks) = k ≤ ever

next_near : (ever : ℕ) (since : List ℕ) (k : ℕ) → Within ever since → next_ok ever since k ≡ true → k ≤ suc ever
unfolding Within next_ok
next_near ever [] k w h = leb-true k (suc ever) (and_parts (leb 1 k) (leb k (suc ever)) h).1
next_near ever (j ∷ js) k w h = omega (arith, eqb-true k (suc j) h)

larger_is : (a b : ℕ) → (a ≤ larger a b) × (b ≤ larger a b) × ((larger a b ≡ a) ⊎ (larger a b ≡ b))
larger_is a b = go (ltb a b) refl
  where
    go : (t : Bool) → ltb a b ≡ t → (a ≤ pick t b a) × (b ≤ pick t b a) × ((pick t b a ≡ a) ⊎ (pick t b a ≡ b))
    go true h = (omega (arith, ltb-true a b h), omega arith, inr refl)
    go false h = (omega arith, ltb-false a b h, inl refl)

-- whatever lies above how far a machine had got, and no further than it gets, is applied
pub all_applied : (f : Far) (as₁ : List Applied) (k : ℕ) → Within f.ever f.since → all_in_turn f as₁ ≡ true → f.ever < k → k ≤ (far_after f as₁).ever → any (λ a. eqb a.index k) as₁ ≡ true
unfolding all_in_turn far_after any Within
all_applied f [] k w h low high = absurd (omega arith)
all_applied f (a ∷ as₁) k w h low high =
    let parts = and_parts (may_apply f a.index) (all_in_turn (got_to f a.index) as₁) h in
    let near : a.index ≤ suc f.ever = next_near f.ever f.since a.index w parts.0 in
    let most = larger_is f.ever a.index in
    elim (cases_lt (larger f.ever a.index) k) [
      | inl later ↦ or_right (eqb a.index k) (any (λ b. eqb b.index k) as₁) (all_applied (got_to f a.index) as₁ k most.1 parts.1 later high)
      | inr here ↦ or_left (eqb a.index k) (any (λ b. eqb b.index k) as₁) (eq-eqb a.index k (reached here most.2))
    ]
  where
    reached : k ≤ larger f.ever a.index → (larger f.ever a.index ≡ f.ever) ⊎ (larger f.ever a.index ≡ a.index) → a.index ≡ k
    reached here (inl e) = absurd (omega arith)
    reached here (inr e) = omega (arith, next_near f.ever f.since a.index w (and_parts (may_apply f a.index) (all_in_turn (got_to f a.index) as₁) h).0)
