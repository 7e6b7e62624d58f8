-- Each neighbour is false: numbers for which it fails.
use Rattle.std.proofs.Common.{◌≡◌, ℕ, List, [], ◌∷◌, length, refl, ap, arith}
use Rattle.std.proofs.lemmas.Bool.{false≢true}
use Rattle.together.specs.House.{every, any, same, applied, nth_value, all_in_turn, far_after, all_apart}
use Rattle.statements.specs.Near.{AgreeByAny, LaterInFront, HalvesMeet, NoGapSince, AloneTwice}

-- two proposals, of one byte each, and one applied at index 1
abbrev one : List ℕ
one = 1 ∷ []

abbrev two : List ℕ
two = 2 ∷ []

pub order_needed : AgreeByAny → ⊥
unfolding AgreeByAny every any same nth_value all_apart
order_needed h = false≢true (h (one ∷ two ∷ []) (0 ∷ []) (1 ∷ []) (applied 1 one) (applied 1 two) refl refl refl refl)

pub behind_needed : LaterInFront → ⊥
unfolding LaterInFront every any same nth_value all_apart
behind_needed h = false≢true (h (one ∷ []) (two ∷ []) (0 ∷ []) (applied 1 one) refl refl).1

pub more_needed : HalvesMeet → ⊥
unfolding HalvesMeet every any all_apart
more_needed h = false≢true (h (0 ∷ []) (1 ∷ []) 2 refl refl refl refl (omega arith) (omega arith))

pub first_needed : NoGapSince → ⊥
unfolding NoGapSince any all_in_turn far_after
first_needed h = false≢true (h 1 [] 1 refl (omega arith) (omega arith))

pub once_needed : AloneTwice → ⊥
unfolding AloneTwice every
once_needed h = let e : ◌≡◌ {A = ℕ} 2 1 = ap length (h (0 ∷ 0 ∷ []) refl (omega arith)) in omega arith
