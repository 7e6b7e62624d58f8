-- The order as it grows by one, and the list of machines as one of them changes.
use Rattle.std.proofs.Common.{◌≤◌, get_or, Bool, ◌≡◌, ℕ, zero, suc, ◌+◌, ◌-◌, ◌*◌, ◌<◌, ◌&&◌, leb, ◌∙◌, subst, true, false, not, eqb, ltb, ◌≢◌, List, [], ◌∷◌, ◌++◌, length, refl, ap, arith}
use Rattle.std.proofs.lemmas.List.{length_push}
use Rattle.std.proofs.lemmas.Bool.{le-leb, ltb-true, lt-ltb, eq-eqb, ne_eqb, and_parts, and_from, not-true, not_from_false}
use Rattle.together.specs.House.{or, every, any, nth_value, all_apart, an_order, begins}
use Rattle.together.specs.Promise.{Machine, machine_at, set_machine, so_many}
use Rattle.together.proofs.Lists.{every_weaker, every_append, any_append}
use Rattle.together.specs.House.{pick, those, same, Applied, applied, by_order}
use Rattle.together.specs.Promise.{Flown, world, enough_up}
use Rattle.together.proofs.Lists.{no_way, same_self}
use Rattle.together.specs.House.{each}
use Rattle.together.specs.Promise.{most, most_applied, all_got, last_since}
use Rattle.together.proofs.Lists.{or_right}

pub nth_front : (ps : List (List ℕ)) (v : List ℕ) (j : ℕ) → j < length ps → nth_value (ps ++ v ∷ []) j ≡ nth_value ps j
unfolding nth_value
nth_front [] v j h = absurd (omega arith)
nth_front (p ∷ ps) v zero h = refl
nth_front (p ∷ ps) v (suc j) h = nth_front ps v j (omega arith)

pub nth_last : (ps : List (List ℕ)) (v : List ℕ) → nth_value (ps ++ v ∷ []) (length ps) ≡ v
unfolding nth_value
nth_last [] v = refl
nth_last (p ∷ ps) v = nth_last ps v

pub begins_self : (o : List ℕ) → begins o o ≡ true
unfolding begins
begins_self [] = refl
begins_self (x ∷ xs) = and_from (eqb x x) (begins xs xs) (eq-eqb x x refl) (begins_self xs)

pub begins_more : (o : List ℕ) (k : ℕ) → begins o (o ++ k ∷ []) ≡ true
unfolding begins
begins_more [] k = refl
begins_more (x ∷ xs) k = and_from (eqb x x) (begins xs (xs ++ k ∷ [])) (eq-eqb x x refl) (begins_more xs k)

apart_more : (o : List ℕ) (n : ℕ) → every (λ j. ltb j n) o ≡ true → all_apart o ≡ true → all_apart (o ++ n ∷ []) ≡ true
unfolding every all_apart any
apart_more [] n b a = refl
apart_more (k ∷ ks) n b a =
    let b₁ = and_parts (ltb k n) (every (λ j. ltb j n) ks) b in
    let a₁ = and_parts (not (any (eqb k) ks)) (all_apart ks) a in
    let ne : eqb k n ≡ false = ne_eqb k n (λ e. omega (arith, ltb-true k n b₁.0)) in
    and_from (not (any (eqb k) (ks ++ n ∷ []))) (all_apart (ks ++ n ∷ []))
    (not_from_false (any (eqb k) (ks ++ n ∷ [])) (any_append (eqb k) ks (n ∷ []) (not-true (any (eqb k) ks) a₁.0) (ap (λ b. or b false) ne)))
    (apart_more ks n b₁.1 a₁.1)

module _ (ps : List (List ℕ)) (o : List ℕ) (v : List ℕ) (h : an_order ps o ≡ true) where
  below : every (λ j. ltb j (length (ps ++ v ∷ []))) o ≡ true
  below =
      every_weaker (λ j. ltb j (length ps)) (λ j. ltb j (length (ps ++ v ∷ [])))
      (λ x e. lt-ltb x (length (ps ++ v ∷ [])) (omega (arith, ltb-true x (length ps) e, length_push ps v))) o
      (and_parts (every (λ j. ltb j (length ps)) o) (all_apart o) h).0

  pub order_later : an_order (ps ++ v ∷ []) o ≡ true
  order_later = and_from (every (λ j. ltb j (length (ps ++ v ∷ []))) o) (all_apart o) below (and_parts (every (λ j. ltb j (length ps)) o) (all_apart o) h).1

  pub order_more : an_order (ps ++ v ∷ []) (o ++ length ps ∷ []) ≡ true
  unfolding every
  order_more =
      and_from (every (λ j. ltb j (length (ps ++ v ∷ []))) (o ++ length ps ∷ [])) (all_apart (o ++ length ps ∷ []))
      (every_append (λ j. ltb j (length (ps ++ v ∷ []))) o (length ps ∷ []) below (and_from (ltb (length ps) (length (ps ++ v ∷ []))) true (lt-ltb (length ps) (length (ps ++ v ∷ [])) (omega (arith, length_push ps v))) refl))
      (apart_more o (length ps) (and_parts (every (λ j. ltb j (length ps)) o) (all_apart o) h).0 (and_parts (every (λ j. ltb j (length ps)) o) (all_apart o) h).1)

-- the list of machines
pub at_set_same : (xs : List Machine) (h : ℕ) (y : Machine) → h < length xs → machine_at (set_machine xs h y) h ≡ y
unfolding machine_at set_machine
at_set_same [] h y l = absurd (omega arith)
at_set_same (x ∷ xs) zero y l = refl
at_set_same (x ∷ xs) (suc h) y l = at_set_same xs h y (omega arith)

pub at_set_other : (xs : List Machine) (h j : ℕ) (y : Machine) → j ≢ h → machine_at (set_machine xs h y) j ≡ machine_at xs j
unfolding machine_at set_machine
at_set_other [] h j y ne = refl
at_set_other (x ∷ xs) zero zero y ne = absurd (ne refl)
at_set_other (x ∷ xs) zero (suc j) y ne = refl
at_set_other (x ∷ xs) (suc h) zero y ne = refl
at_set_other (x ∷ xs) (suc h) (suc j) y ne = at_set_other xs h j y (λ e. ne (ap suc e))

pub length_set_machine : (xs : List Machine) (h : ℕ) (y : Machine) → length (set_machine xs h y) ≡ length xs
unfolding set_machine
length_set_machine [] h y = refl
length_set_machine (x ∷ xs) zero y = refl
length_set_machine (x ∷ xs) (suc h) y = ap suc (length_set_machine xs h y)

pub at_so_many : (n : ℕ) (x : Machine) (h : ℕ) → h < n → machine_at (so_many n x) h ≡ x
unfolding machine_at so_many
at_so_many zero x h l = absurd (omega arith)
at_so_many (suc n) x zero l = refl
at_so_many (suc n) x (suc h) l = at_so_many n x h (omega arith)

pub length_so_many : (n : ℕ) (x : Machine) → length (so_many n x) ≡ n
unfolding so_many
length_so_many zero x = refl
length_so_many (suc n) x = ap suc (length_so_many n x)

-- which machine an event is for
pub machine_here : (ms : List Machine) (n h : ℕ) (u : Bool) → length ms ≡ n → (ltb h (length ms) && u) ≡ true → (h < n) × (u ≡ true)
machine_here ms n h u e p =
    let q = and_parts (ltb h (length ms)) u p in
    (omega (arith, ltb-true h (length ms) q.0), q.1)

-- where there is one machine, more than half are up if it is, and what holds of it holds
pub up_alone : (x : Machine) (fs : List Flown) (ps : List (List ℕ)) (o : List ℕ) (ds : List Applied) → enough_up (world (x ∷ []) fs ps o ds) ≡ true → x.up ≡ true
unfolding those
up_alone x fs ps o ds e = go x.up e
  where
    go : (b : Bool) → ltb 1 (2 * length (pick b (x ∷ []) [])) ≡ true → b ≡ true
    go true e = refl
    go false e = e

pub most_alone : (x : Machine) (fs : List Flown) (ps : List (List ℕ)) (o : List ℕ) (ds : List Applied) (n : ℕ) → x.how_it_got.ever ≤ n → most_applied (world (x ∷ []) fs ps o ds) ≤ n
unfolding each most
most_alone x fs ps o ds n l = go (ltb x.how_it_got.ever 0)
  where
    go : (b : Bool) → pick b 0 x.how_it_got.ever ≤ n
    go true = omega arith
    go false = l

pub got_alone : (x : Machine) (fs : List Flown) (ps : List (List ℕ)) (o : List ℕ) (ds : List Applied) (k : ℕ) → k ≤ last_since x.how_it_got.since → all_got (world (x ∷ []) fs ps o ds) k ≡ true
unfolding every
got_alone x fs ps o ds k l =
    and_from (or (not x.up) (leb k (last_since x.how_it_got.since))) true (or_right (not x.up) (leb k (last_since x.how_it_got.since)) (le-leb k (last_since x.how_it_got.since) l)) refl

pub one_machine : (P : List Machine → Type 0) (ms : List Machine) → length ms ≡ 1 → ((x : Machine) → P (x ∷ [])) → P ms
one_machine P [] e f = no_way e
one_machine P (x ∷ []) e f = f x
one_machine P (x ∷ y ∷ ms) e f = absurd (let z : suc (suc (length ms)) ≡ 1 = e in omega arith)

-- what the order has next is applied by it
pub by_next : (ps : List (List ℕ)) (o : List ℕ) (j : ℕ) (v : List ℕ) → j < length o → v ≡ nth_value ps (get_or o j 0) → by_order ps o (applied (j + 1) v) ≡ true
by_next ps o j v l e =
    let at : v ≡ nth_value ps (get_or o (j + 1 - 1) 0) = e ∙ ap (λ i. nth_value ps (get_or o i 0)) (let q : j ≡ j + 1 - 1 = omega arith in q) in
    and_from (leb 1 (j + 1) && leb (j + 1) (length o)) (same v (nth_value ps (get_or o (j + 1 - 1) 0)))
    (and_from (leb 1 (j + 1)) (leb (j + 1) (length o)) (le-leb 1 (j + 1) (omega arith)) (le-leb (j + 1) (length o) (omega arith)))
    (subst (λ (x : List ℕ). same v x ≡ true) at (same_self v))
