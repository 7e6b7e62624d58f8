-- What is applied by an order: two machines agree, also after the order and the proposals have grown.
use Rattle.std.proofs.Common.{◌≡◌, ℕ, zero, suc, ◌-◌, ◌<◌, ◌≤◌, true, ◌&&◌, eqb, leb, List, [], ◌∷◌, ◌++◌, length, get_or, refl, arith}
use Rattle.std.proofs.lemmas.Bool.{and_parts, eqb-true, leb-true, false≢true}
use Rattle.together.specs.House.{same, Applied, nth_value, begins, by_order}
use Rattle.together.proofs.Lists.{same_equal}

-- an order that has grown says the same where it said something before
pub begins_at : (o₁ o₂ : List ℕ) (i : ℕ) → begins o₁ o₂ ≡ true → i < length o₁ → get_or o₁ i 0 ≡ get_or o₂ i 0
unfolding begins
begins_at [] o₂ i h l = absurd (omega arith)
begins_at (x ∷ xs) [] i h l = absurd (false≢true h)
begins_at (x ∷ xs) (y ∷ ys) zero h l = eqb-true x y (and_parts (eqb x y) (begins xs ys) h).0
begins_at (x ∷ xs) (y ∷ ys) (suc i) h l = begins_at xs ys i (and_parts (eqb x y) (begins xs ys) h).1 (omega arith)

-- the proposal that an order has for an index
abbrev pub ordered : List (List ℕ) → List ℕ → ℕ → List ℕ
ordered ps o k = nth_value ps (get_or o (k - 1) 0)

-- what is applied by an order stands in it, and is what it says
pub record ByOrder (ps : List (List ℕ)) (o : List ℕ) (a : Applied) : Type 0 where
  pub low : 1 ≤ a.index
  pub high : a.index ≤ length o
  pub value : a.value ≡ ordered ps o a.index

pub by_order_parts : (ps : List (List ℕ)) (o : List ℕ) (a : Applied) → by_order ps o a ≡ true → ByOrder ps o a
by_order_parts ps o a h =
    let inside = leb 1 a.index && leb a.index (length o) in
    let parts = and_parts inside (same a.value (ordered ps o a.index)) h in
    let bounds = and_parts (leb 1 a.index) (leb a.index (length o)) parts.0 in
    record {
      low = leb-true 1 a.index bounds.0;
      high = leb-true a.index (length o) bounds.1;
      value = same_equal a.value (ordered ps o a.index) parts.1;
    }

-- a proposal stays what it is when others follow
pub nth_value_front : (ps qs : List (List ℕ)) (j : ℕ) → j < length ps → nth_value (ps ++ qs) j ≡ nth_value ps j
unfolding nth_value
nth_value_front [] qs j l = absurd (omega arith)
nth_value_front (p ∷ ps) qs zero l = refl
nth_value_front (p ∷ ps) qs (suc j) l = nth_value_front ps qs j (omega arith)
