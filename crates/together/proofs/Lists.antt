-- Lists under a test: every, any, those that pass it, the same row of numbers, rows of bytes; and the larger of two numbers.
use Rattle.std.proofs.Common.{◌≡◌, ℕ, zero, suc, ◌<◌, ◌≤◌, Bool, true, false, cond, eqb, ltb, List, [], ◌∷◌, ◌++◌, length, get_or, filter, set, sym, refl, ap, ◌∙◌, subst, arith}
use Rattle.std.proofs.lemmas.Bool.{ltb-true, ltb-false, lt-ltb, and_parts, and_from, eqb-true, eq-eqb, true≢false, false≢true}
use Rattle.raft_log.specs.Bytes.{Bytes}
use Rattle.together.specs.House.{pick, or, every, any, those, same, larger}
use Rattle.together.specs.Promise.{are_bytes}

-- no number is the one before it
pub no_way : {A : Type 0} → ◌≡◌ {A = ℕ} 0 1 → A
no_way e = absurd (omega arith)

-- rows with a first: the same first, the same others; and no such row is empty
pub head_same : {A : Type 0} {x y : A} {xs ys : List A} → ◌≡◌ {A = List A} (x ∷ xs) (y ∷ ys) → x ≡ y
head_same e = cc

pub tail_same : {A : Type 0} {x y : A} {xs ys : List A} → ◌≡◌ {A = List A} (x ∷ xs) (y ∷ ys) → xs ≡ ys
tail_same e = cc

pub not_same : {A : Type 0} {x : A} {xs : List A} → ◌≡◌ {A = List A} (x ∷ xs) [] → ⊥
not_same e = let l = ap length e in omega arith

pub or_left : (x y : Bool) → x ≡ true → or x y ≡ true
or_left x y e = ap (λ t. or t y) e

pub or_right : (x y : Bool) → y ≡ true → or x y ≡ true
or_right true y e = refl
or_right false y e = e

pub or_neither : (x y : Bool) → or x y ≡ false → (x ≡ false) × (y ≡ false)
or_neither true y e = (e, absurd (true≢false e))
or_neither false y e = (refl, e)

module _ {A : Type 0} (p : A → Bool) where
  pub every_from : ((x : A) → p x ≡ true) → (xs : List A) → every p xs ≡ true
  unfolding every
  every_from f [] = refl
  every_from f (x ∷ xs) = and_from (p x) (every p xs) (f x) (every_from f xs)

  pub every_at : (xs : List A) (d : A) (i : ℕ) → every p xs ≡ true → i < length xs → p (get_or xs i d) ≡ true
  unfolding every
  every_at [] d i h l = absurd (omega arith)
  every_at (x ∷ xs) d zero h l = (and_parts (p x) (every p xs) h).0
  every_at (x ∷ xs) d (suc i) h l = every_at xs d i (and_parts (p x) (every p xs) h).1 (omega arith)

  pub every_weaker : (q : A → Bool) → ((x : A) → p x ≡ true → q x ≡ true) → (xs : List A) → every p xs ≡ true → every q xs ≡ true
  unfolding every
  every_weaker q f [] h = refl
  every_weaker q f (x ∷ xs) h =
      let parts = and_parts (p x) (every p xs) h in
      and_from (q x) (every q xs) (f x parts.0) (every_weaker q f xs parts.1)

  pub every_append : (xs ys : List A) → every p xs ≡ true → every p ys ≡ true → every p (xs ++ ys) ≡ true
  unfolding every
  every_append [] ys h k = k
  every_append (x ∷ xs) ys h k =
      let parts = and_parts (p x) (every p xs) h in
      and_from (p x) (every p (xs ++ ys)) parts.0 (every_append xs ys parts.1 k)

  pub every_set : (xs : List A) (i : ℕ) (x : A) → p x ≡ true → every p xs ≡ true → every p (set xs i x) ≡ true
  unfolding every
  every_set [] i x e h = h
  every_set (y ∷ ys) zero x e h = and_from (p x) (every p ys) e (and_parts (p y) (every p ys) h).1
  every_set (y ∷ ys) (suc i) x e h =
      let parts = and_parts (p y) (every p ys) h in
      and_from (p y) (every p (set ys i x)) parts.0 (every_set ys i x e parts.1)

  pub any_at : (xs : List A) (d : A) (i : ℕ) → i < length xs → p (get_or xs i d) ≡ true → any p xs ≡ true
  unfolding any
  any_at [] d i l e = absurd (omega arith)
  any_at (x ∷ xs) d zero l e = or_left (p x) (any p xs) e
  any_at (x ∷ xs) d (suc i) l e = or_right (p x) (any p xs) (any_at xs d i (omega arith) e)

  pub any_later : (xs ys : List A) → any p ys ≡ true → any p (xs ++ ys) ≡ true
  unfolding any
  any_later [] ys e = e
  any_later (x ∷ xs) ys e = or_right (p x) (any p (xs ++ ys)) (any_later xs ys e)

  pub any_append : (xs ys : List A) → any p xs ≡ false → any p ys ≡ false → any p (xs ++ ys) ≡ false
  unfolding any
  any_append [] ys h k = k
  any_append (x ∷ xs) ys h k =
      let parts = or_neither (p x) (any p xs) h in
      ap (λ t. or t (any p (xs ++ ys))) parts.0 ∙ any_append xs ys parts.1 k

  pub any_those : (q : A → Bool) (xs : List A) → any p xs ≡ false → any p (those q xs) ≡ false
  unfolding any those
  any_those q [] h = refl
  any_those q (x ∷ xs) h =
      let parts = or_neither (p x) (any p xs) h in
      go (q x) parts.0 (any_those q xs parts.1)
    where
      go : (t : Bool) → p x ≡ false → any p (those q xs) ≡ false → any p (pick t (x ∷ those q xs) (those q xs)) ≡ false
      go true e rest = ap (λ b. or b (any p (those q xs))) e ∙ rest
      go false e rest = rest

  -- what is kept, in the two words for it
  pub those_kept : (xs : List A) → those p xs ≡ filter p xs
  unfolding those
  those_kept [] = refl
  those_kept (x ∷ xs) = go (p x) (those_kept xs)
    where
      go : (t : Bool) → those p xs ≡ filter p xs → pick t (x ∷ those p xs) (those p xs) ≡ cond t (x ∷ filter p xs) (filter p xs)
      go true e = ap (λ ys. x ∷ ys) e
      go false e = e

-- what holds of every number of a row holds of any that is in it
pub every_any : (p : ℕ → Bool) (k : ℕ) (xs : List ℕ) → every p xs ≡ true → any (eqb k) xs ≡ true → p k ≡ true
unfolding every any
every_any p k [] h one = absurd (false≢true one)
every_any p k (x ∷ xs) h one =
    let parts = and_parts (p x) (every p xs) h in
    go (eqb k x) refl parts.0 (every_any p k xs parts.1) one
  where
    go : (t : Bool) → eqb k x ≡ t → p x ≡ true → (any (eqb k) xs ≡ true → p k ≡ true) → or t (any (eqb k) xs) ≡ true → p k ≡ true
    go true e here later one₁ = subst (λ (n : ℕ). p n ≡ true) (sym (eqb-true k x e)) here
    go false e here later one₁ = later one₁

pub same_equal : (xs ys : List ℕ) → same xs ys ≡ true → xs ≡ ys
unfolding same
same_equal [] [] h = refl
same_equal [] (y ∷ ys) h = absurd (false≢true h)
same_equal (x ∷ xs) [] h = absurd (false≢true h)
same_equal (x ∷ xs) (y ∷ ys) h =
    let parts = and_parts (eqb x y) (same xs ys) h in
    let head : x ≡ y = eqb-true x y parts.0 in
    let tail : xs ≡ ys = same_equal xs ys parts.1 in
    cc

pub same_self : (xs : List ℕ) → same xs xs ≡ true
unfolding same
same_self [] = refl
same_self (x ∷ xs) = and_from (eqb x x) (same xs xs) (eq-eqb x x refl) (same_self xs)

-- rows of bytes, by a test and by each place
pub are_bytes_from : (bs : List ℕ) → Bytes bs → are_bytes bs ≡ true
unfolding every
are_bytes_from [] h = refl
are_bytes_from (b ∷ bs) h = and_from (ltb b 256) (are_bytes bs) (lt-ltb b 256 (h 0)) (are_bytes_from bs (λ i. h (suc i)))

pub bytes_from : (bs : List ℕ) → are_bytes bs ≡ true → Bytes bs
unfolding every
bytes_from [] h i = omega arith
bytes_from (b ∷ bs) h zero = ltb-true b 256 (and_parts (ltb b 256) (are_bytes bs) h).0
bytes_from (b ∷ bs) h (suc i) = bytes_from bs (and_parts (ltb b 256) (are_bytes bs) h).1 i

-- the larger of two numbers
pub larger_left : (a b : ℕ) → a ≤ larger a b
larger_left a b = go (ltb a b) refl
  where
    go : (t : Bool) → ltb a b ≡ t → a ≤ pick t b a
    go true e = omega (arith, ltb-true a b e)
    go false e = omega arith

pub larger_right : (a b : ℕ) → b ≤ larger a b
larger_right a b = go (ltb a b) refl
  where
    go : (t : Bool) → ltb a b ≡ t → b ≤ pick t b a
    go true e = omega arith
    go false e = omega (arith, ltb-false a b e)

pub larger_le : (a b n : ℕ) → a ≤ n → b ≤ n → larger a b ≤ n
larger_le a b n p q = go (ltb a b)
  where
    go : (t : Bool) → pick t b a ≤ n
    go true = q
    go false = p
