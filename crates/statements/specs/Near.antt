-- Neighbours of the statements, each with one premise less or weaker: what the statements must not say. Assumes nothing: these are definitions.
use Rattle.std.specs.Prelude.{◌≡◌, ℕ, ◌*◌, ◌<◌, ◌≤◌, true, List, [], ◌∷◌, ◌++◌, length, nat_eq, nat_lt}
use Rattle.together.specs.House.{every, any, same, Applied, far, all_in_turn, far_after, all_apart, an_order, by_order}

-- by two orders that have nothing to do with each other
unfoldable pub AgreeByAny : Type 0
AgreeByAny =
    (ps : List (List ℕ)) (o₁ o₂ : List ℕ) (a b : Applied) → an_order ps o₂ ≡ true → by_order ps o₁ a ≡ true → by_order ps o₂ b ≡ true → a.index ≡ b.index →
    same a.value b.value ≡ true

-- the later proposals stand in front
unfoldable pub LaterInFront : Type 0
LaterInFront =
    (ps qs : List (List ℕ)) (o : List ℕ) (a : Applied) → an_order ps o ≡ true → by_order ps o a ≡ true → (an_order (qs ++ ps) o ≡ true) × (by_order (qs ++ ps) o a ≡ true)

-- half is enough
unfoldable pub HalvesMeet : Type 0
HalvesMeet =
    (xs ys : List ℕ) (n : ℕ) → all_apart xs ≡ true → all_apart ys ≡ true → every (λ x. nat_lt x n) xs ≡ true → every (λ y. nat_lt y n) ys ≡ true →
    n ≤ 2 * length xs → n ≤ 2 * length ys → any (λ x. any (nat_eq x) ys) xs ≡ true

-- since a later start
unfoldable pub NoGapSince : Type 0
NoGapSince =
    (ever : ℕ) (as₁ : List Applied) (k : ℕ) → all_in_turn (far ever []) as₁ ≡ true → 1 ≤ k → k ≤ (far_after (far ever []) as₁).ever →
    any (λ a. nat_eq a.index k) as₁ ≡ true

-- a machine may be counted twice
unfoldable pub AloneTwice : Type 0
AloneTwice = (xs : List ℕ) → every (λ x. nat_lt x 1) xs ≡ true → 1 < 2 * length xs → xs ≡ 0 ∷ []
