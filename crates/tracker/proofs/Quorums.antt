-- The committed index: what more than half have, and the largest index of a row that they have.
use Rattle.std.proofs.Common.{◌≡◌, ℕ, zero, suc, ◌+◌, ◌*◌, ◌<◌, ◌≤◌, Bool, true, false, cond, ◌&&◌, nat_lt, leb, ◌⊎◌, List, [], ◌∷◌, length, filter, All, Contains, Option, MatchOption, Some, None, fold, refl, subst, inl, inr, arith}
use Rattle.std.specs.List.{AllZip}
use Rattle.std.specs.Option.{option_map}
use Rattle.std.proofs.lemmas.List.Elements.{All-contains, All-cons}
use Rattle.std.proofs.lemmas.List.Sums.{sum_by-cons}
use Rattle.std.proofs.lemmas.Bool.{ltb-true, lt-ltb, cases_lt, and_parts}
use Rattle.std.proofs.lemmas.Bool.Decides.{nat_tests}
use Rattle.tracker.specs.Majority.{reached, quorum_has, better, Quorum, CommittedSays}
use Rattle.tracker.specs.Progress.{index}

-- one voter more
reached_cons : (k j : ℕ) (js : List ℕ) → reached (j ∷ js) k ≡ cond (leb k j) 1 0 + reached js k
unfolding reached
reached_cons k j js = sum_by-cons (λ x. cond (leb k x) 1 0) j js

reached_of_none : (k : ℕ) → reached [] k ≡ 0
unfolding reached
reached_of_none k = refl

-- fewer have got further
pub reached_falls : (js : List ℕ) (k m : ℕ) → k ≤ m → reached js m ≤ reached js k
reached_falls [] k m h = omega (arith, reached_of_none k, reached_of_none m)
reached_falls (j ∷ js) k m h = grind (arith, nat_tests, reached_cons k j js, reached_cons m j js, reached_falls js k m h)

-- as many, and perhaps more, have got to k once they have got further
pub reached_rises : (earlier later : List ℕ) (k : ℕ) → AllZip (λ a b. a ≤ b) earlier later → reached earlier k ≤ reached later k
reached_rises [] [] k h = omega arith
reached_rises [] (y ∷ ys) k h = absurd h
reached_rises (x ∷ xs) [] k h = absurd h
reached_rises (x ∷ xs) (y ∷ ys) k h = let up : x ≤ y = h.0 in grind (arith, nat_tests, reached_cons k x xs, reached_cons k y ys, reached_rises xs ys k h.1)

pub reached_all : (js : List ℕ) → reached js 0 ≡ length js
reached_all [] = reached_of_none 0
reached_all (j ∷ js) = grind (arith, nat_tests, reached_cons 0 j js, reached_all js)

-- what is in the rest is in the whole
there : (j k : ℕ) (js : List ℕ) → Contains js k → Contains (j ∷ js) k
there j k js (i, inside, is) = (suc i, omega arith, is)

-- one of those that pass is kept
kept : (p : ℕ → Bool) (k : ℕ) (js : List ℕ) → Contains js k → p k ≡ true → Contains (filter p js) k
kept p k [] (i, inside, is) t = absurd (omega arith)
kept p k (j ∷ js) (zero, inside, is) t = simp (is, t) (0, omega arith, refl)
kept p k (j ∷ js) (suc i, inside, is) t =
    let rest = kept p k js (i, omega arith, is) t in
    elim (p j) as (λ b. Contains (cond b (j ∷ filter p js) (filter p js)) k) [ true ↦ there j k (filter p js) rest | false ↦ rest ]

-- as many as have got to k have got to one of the indexes
abbrev StepUp : List ℕ → ℕ → Type 0
StepUp js k = (m : ℕ) × Contains js m × (k ≤ m) × (reached js m ≡ reached js k)

pub step_up : (js : List ℕ) (k : ℕ) → 0 < reached js k → StepUp js k
step_up [] k h = absurd (omega (arith, reached_of_none k))
step_up (j ∷ js) k h =
    elim (cases_lt 0 (reached js k)) [
      | inl more ↦ joined (step_up js k more)
      | inr none ↦ (j, (0, omega arith, refl), grind (arith, nat_tests, reached_cons k j js), grind (arith, nat_tests, reached_cons k j js, reached_cons j j js, reached_falls js k j))
    ]
  where
    joined : StepUp js k → StepUp (j ∷ js) k
    joined (m, has, le, e) =
        elim (cases_lt j m) [
          | inl below ↦ elim (cases_lt j k) [
            | inl b ↦ (m, there j m js has, le, grind (arith, nat_tests, reached_cons k j js, reached_cons m j js))
            | inr a ↦ (j, (0, omega arith, refl), a, grind (arith, nat_tests, reached_cons k j js, reached_cons j j js, reached_falls js k j, reached_falls js j m))
          ]
          | inr above ↦ (m, there j m js has, le, grind (arith, nat_tests, reached_cons k j js, reached_cons m j js))
        ]

-- none has, or m is one of those that more than half have, and the largest
abbrev pub IsTop : List ℕ → Option ℕ → Type 0
IsTop indices r =
    MatchOption r (length (filter (quorum_has indices) indices) ≡ 0) (λ m. Contains indices m × (quorum_has indices m ≡ true) × All (λ k. k ≤ m) (filter (quorum_has indices) indices))

-- if more than half have got to k, they have got to one of the indexes
above : (indices : List ℕ) (k : ℕ) → Quorum indices k → (m : ℕ) × Contains (filter (quorum_has indices) indices) m × (k ≤ m)
above indices k q =
    let (m, has, le, e) = step_up indices k (omega arith) in
    (m, kept (quorum_has indices) m indices has (lt-ltb (length indices) (2 * reached indices m) (omega arith)), le)

pub committed_top : (indices : List ℕ) (r : Option ℕ) → length indices ≤ 1024 → IsTop indices r → CommittedSays indices (option_map index r)
unfolding CommittedSays
committed_top indices None few none =
    elim (cases_lt 0 (length indices)) [
      | inl some ↦
          let (m, (i, inside, is), le) = above indices 0 (omega (arith, reached_all indices)) in
          absurd (omega arith)
      | inr none₀ ↦ inl (omega arith)
    ]
committed_top indices (Some m) few (one_of, quorum, largest) =
    (few, record { one_of = one_of; quorum = ltb-true (length indices) (2 * reached indices m) quorum; largest = top })
  where
    top : (k : ℕ) → Quorum indices k → k ≤ m
    top k q = let (j, has, le) = above indices k q in omega (arith, All-contains (λ i. i ≤ m) (filter (quorum_has indices) indices) j largest has)

-- the best so far is none yet, or one that more than half have
abbrev OneOf : List ℕ → ℕ → Type 0
OneOf indices m = (m ≡ 0) ⊎ (Contains indices m × (quorum_has indices m ≡ true))

-- one index more: the best stays as large, is still one that more than half have, and is no less than the index if they have that
better_rises : (indices : List ℕ) (best k b : ℕ) → b ≤ best → b ≤ better indices best k
better_rises indices best k b h = grind (arith, nat_tests)

better_one : (indices : List ℕ) (best k : ℕ) → OneOf indices best → Contains indices k → OneOf indices (better indices best k)
better_one indices best k h has =
    elim (nat_lt best k && quorum_has indices k) as (λ t. (nat_lt best k && quorum_has indices k) ≡ t → OneOf indices (cond t k best)) [
      | true ↦ λ e. inr (has, (and_parts (nat_lt best k) (quorum_has indices k) e).1)
      | false ↦ λ e. h
    ] refl

better_has : (indices : List ℕ) (best k : ℕ) → quorum_has indices k ≡ true → k ≤ better indices best k
better_has indices best k q = grind (arith, nat_tests)

-- the best of the rest, from the best so far on
best_rises : (indices xs : List ℕ) (best b : ℕ) → b ≤ best → b ≤ fold (better indices) best xs
best_rises indices [] best b h = h
best_rises indices (x ∷ xs) best b h = best_rises indices xs (better indices best x) b (better_rises indices best x b h)

best_one : (indices xs : List ℕ) (best : ℕ) → OneOf indices best → ((k : ℕ) → Contains xs k → Contains indices k) → OneOf indices (fold (better indices) best xs)
best_one indices [] best h all = h
best_one indices (x ∷ xs) best h all =
    best_one indices xs (better indices best x) (better_one indices best x h (all x (0, omega arith, refl))) (λ k has. all k (there x k xs has))

best_most : (indices xs : List ℕ) (best : ℕ) → All (λ k. k ≤ fold (better indices) best xs) (filter (quorum_has indices) xs)
best_most indices [] best = λ k d below. absurd (omega arith)
best_most indices (x ∷ xs) best = here (best_most indices xs (better indices best x)) (quorum_has indices x) refl
  where
    here : All (λ k. k ≤ fold (better indices) (better indices best x) xs) (filter (quorum_has indices) xs) →
        (q : Bool) → quorum_has indices x ≡ q → All (λ k. k ≤ fold (better indices) (better indices best x) xs) (cond q (x ∷ filter (quorum_has indices) xs) (filter (quorum_has indices) xs))
    here rest true e = All-cons (λ k. k ≤ fold (better indices) (better indices best x) xs) x (filter (quorum_has indices) xs) (best_rises indices xs (better indices best x) x (better_has indices best x e)) rest
    here rest false e = rest

-- the best of all is the largest that more than half have
pub best_top : (indices : List ℕ) → 0 < length indices → IsTop indices (Some (fold (better indices) 0 indices))
best_top indices some = go (fold (better indices) 0 indices) (best_one indices indices 0 (inl refl) (λ k has. has)) (best_most indices indices 0)
  where
    go : (m : ℕ) → OneOf indices m → All (λ k. k ≤ m) (filter (quorum_has indices) indices) → IsTop indices (Some m)
    go m (inr (has, q)) most = (has, q, most)
    go m (inl none) most =
        let (j, has, le, e) = step_up indices 0 (omega (arith, reached_all indices)) in
        let q : quorum_has indices j ≡ true = lt-ltb (length indices) (2 * reached indices j) (omega (arith, reached_all indices)) in
        let top : j ≤ m = All-contains (λ k. k ≤ m) (filter (quorum_has indices) indices) j most (kept (quorum_has indices) j indices has q) in
        let same : j ≡ m = omega arith in
        (subst (Contains indices) same has, subst (λ k. quorum_has indices k ≡ true) same q, most)
