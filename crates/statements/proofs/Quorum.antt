-- Majorities: two of them have a machine in common, and one of one machine is that machine.
use Rattle.std.proofs.Common.{◌≡◌, ℕ, zero, suc, ◌<◌, ◌≤◌, Bool, true, false, not, eqb, ltb, ◌≢◌, List, [], ◌∷◌, ◌++◌, length, sym, refl, ap, ◌∙◌, subst, arith}
use Rattle.std.proofs.lemmas.Bool.{and_parts, and_from, eqb-true, eqb-false, ltb-true, lt-ltb, not-true, not_from_false, false≢true, eq-eqb}
use Rattle.together.specs.House.{every, any, those, pick, all_apart}
use Rattle.together.specs.Promise.{Alone}
use Rattle.together.proofs.Lists.{or_neither, any_append, any_those}

-- all but n
abbrev without : ℕ → List ℕ → List ℕ
without n xs = those (λ x. not (eqb n x)) xs

apart_parts : (x : ℕ) (xs : List ℕ) → all_apart (x ∷ xs) ≡ true → (any (eqb x) xs ≡ false) × (all_apart xs ≡ true)
unfolding all_apart
apart_parts x xs h =
    let parts = and_parts (not (any (eqb x) xs)) (all_apart xs) h in
    (not-true (any (eqb x) xs) parts.0, parts.1)

apart_from : (x : ℕ) (xs : List ℕ) → any (eqb x) xs ≡ false → all_apart xs ≡ true → all_apart (x ∷ xs) ≡ true
unfolding all_apart
apart_from x xs new h = and_from (not (any (eqb x) xs)) (all_apart xs) (not_from_false (any (eqb x) xs) new) h

apart_those : (p : ℕ → Bool) (xs : List ℕ) → all_apart xs ≡ true → all_apart (those p xs) ≡ true
unfolding those
apart_those p [] h = h
apart_those p (x ∷ xs) h =
    let parts = apart_parts x xs h in
    go (p x) (any_those (eqb x) p xs parts.0) (apart_those p xs parts.1)
  where
    go : (t : Bool) → any (eqb x) (those p xs) ≡ false → all_apart (those p xs) ≡ true → all_apart (pick t (x ∷ those p xs) (those p xs)) ≡ true
    go true new rest = apart_from x (those p xs) new rest
    go false new rest = rest

pub apart_append : (xs ys : List ℕ) → all_apart xs ≡ true → all_apart ys ≡ true → any (λ x. any (eqb x) ys) xs ≡ false → all_apart (xs ++ ys) ≡ true
unfolding any
apart_append [] ys h k none = k
apart_append (x ∷ xs) ys h k none =
    let parts = apart_parts x xs h in
    let nones = or_neither (any (eqb x) ys) (any (λ z. any (eqb z) ys) xs) none in
    apart_from x (xs ++ ys) (any_append (eqb x) xs ys parts.0 nones.0) (apart_append xs ys parts.1 k nones.1)

-- without the largest number what is left lies below it
below_without : (n : ℕ) (xs : List ℕ) → every (λ x. ltb x (suc n)) xs ≡ true → every (λ x. ltb x n) (without n xs) ≡ true
unfolding every those
below_without n [] h = refl
below_without n (x ∷ xs) h =
    let parts = and_parts (ltb x (suc n)) (every (λ z. ltb z (suc n)) xs) h in
    go (eqb n x) refl (ltb-true x (suc n) parts.0) (below_without n xs parts.1)
  where
    go : (t : Bool) → eqb n x ≡ t → x < suc n → every (λ z. ltb z n) (without n xs) ≡ true → every (λ z. ltb z n) (pick (not t) (x ∷ without n xs) (without n xs)) ≡ true
    go true e l rest = rest
    go false e l rest =
        let other : x ≢ n = λ same. eqb-false n x e (sym same) in
        and_from (ltb x n) (every (λ z. ltb z n) (without n xs)) (lt-ltb x n (omega arith)) rest

length_without_none : (n : ℕ) (xs : List ℕ) → any (eqb n) xs ≡ false → length (without n xs) ≡ length xs
unfolding any those
length_without_none n [] h = refl
length_without_none n (x ∷ xs) h =
    let parts = or_neither (eqb n x) (any (eqb n) xs) h in
    ap (λ t. length (pick (not t) (x ∷ without n xs) (without n xs))) parts.0 ∙ ap suc (length_without_none n xs parts.1)

-- of numbers that are all apart at most one goes
length_without : (n : ℕ) (xs : List ℕ) → all_apart xs ≡ true → length xs ≤ suc (length (without n xs))
unfolding those
length_without n [] h = omega arith
length_without n (x ∷ xs) h =
    let parts = apart_parts x xs h in
    go (eqb n x) refl parts.0 (length_without n xs parts.1)
  where
    go : (t : Bool) → eqb n x ≡ t → any (eqb x) xs ≡ false → length xs ≤ suc (length (without n xs)) → suc (length xs) ≤ suc (length (pick (not t) (x ∷ without n xs) (without n xs)))
    go true e new rest =
        let none : any (eqb n) xs ≡ false = subst (λ (m : ℕ). any (eqb m) xs ≡ false) (sym (eqb-true n x e)) new in
        omega (arith, length_without_none n xs none)
    go false e new rest = omega arith

-- below n there are at most n numbers that are all apart
pub at_most : (n : ℕ) (xs : List ℕ) → all_apart xs ≡ true → every (λ x. ltb x n) xs ≡ true → length xs ≤ n
unfolding every
at_most zero [] apart below = omega arith
at_most zero (x ∷ xs) apart below = absurd (omega (arith, ltb-true x 0 (and_parts (ltb x 0) (every (λ z. ltb z 0) xs) below).0))
at_most (suc n) xs apart below =
    omega (arith, length_without n xs apart, at_most n (without n xs) (apart_those (λ x. not (eqb n x)) xs apart) (below_without n xs below))

pub alone : Alone
unfolding Alone every any
alone [] apart below more = absurd (omega arith)
alone (x ∷ []) apart below more =
    let low : x < 1 = ltb-true x 1 (and_parts (ltb x 1) true below).0 in
    let zero_is : x ≡ 0 = omega arith in
    ap (λ n. n ∷ []) zero_is
alone (x ∷ y ∷ ys) apart below more =
    let parts = and_parts (ltb x 1) (every (λ z. ltb z 1) (y ∷ ys)) below in
    let first : x < 1 = ltb-true x 1 parts.0 in
    let second : y < 1 = ltb-true y 1 (and_parts (ltb y 1) (every (λ z. ltb z 1) ys) parts.1).0 in
    let other = or_neither (eqb x y) (any (eqb x) ys) (apart_parts x (y ∷ ys) apart).0 in
    absurd (false≢true (sym other.0 ∙ eq-eqb x y (omega arith)))
