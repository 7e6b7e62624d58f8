-- More than half and more than half have one in common. Assumes nothing.
use Rattle.std.proofs.Common.{◌≡◌, ℕ, zero, suc, ◌+◌, ◌<◌, ◌≤◌, Bool, true, false, refl, ap, inl, inr, arith}
use Rattle.std.proofs.lemmas.Bool.{cases_Bool}
use Rattle.protocol.specs.Lists.{pick}
use Rattle.protocol.specs.History.{count, Majority}

count_up : (f : ℕ → Bool) (n : ℕ) → f n ≡ true → count f (suc n) ≡ suc (count f n)
unfolding count
count_up f n e = ap (λ (b : Bool). pick b (suc (count f n)) (count f n)) e

count_same : (f : ℕ → Bool) (n : ℕ) → f n ≡ false → count f (suc n) ≡ count f n
unfolding count
count_same f n e = ap (λ (b : Bool). pick b (suc (count f n)) (count f n)) e

count_zero : (f : ℕ → Bool) → count f 0 ≡ 0
unfolding count
count_zero f = refl

count_mono : (f g : ℕ → Bool) → ((j : ℕ) → f j ≡ true → g j ≡ true) → (n : ℕ) → count f n ≤ count g n
count_mono f g h zero = omega (arith, count_zero f, count_zero g)
count_mono f g h (suc n) =
    let r = count_mono f g h n in
    elim (cases_Bool (f n)) [
      | inl e ↦ omega (arith, count_up f n e, count_up g n (h n e))
      | inr e ↦ elim (cases_Bool (g n)) [ inl k ↦ omega (arith, count_same f n e, count_up g n k) | inr k ↦ omega (arith, count_same f n e, count_same g n k) ]
    ]

pub majority_mono : (n : ℕ) (f g : ℕ → Bool) → ((j : ℕ) → f j ≡ true → g j ≡ true) → Majority n f → Majority n g
unfolding Majority
majority_mono n f g h m = omega (arith, count_mono f g h n)

in_both : (f g : ℕ → Bool) (n : ℕ) → n < count f n + count g n → (j : ℕ) × (f j ≡ true) × (g j ≡ true)
in_both f g zero h = absurd (omega (arith, count_zero f, count_zero g))
in_both f g (suc n) h =
    elim (cases_Bool (f n)) [
      | inl e ↦ elim (cases_Bool (g n)) [
        | inl k ↦ (n, e, k)
        | inr k ↦ in_both f g n (omega (arith, count_up f n e, count_same g n k))
      ]
      | inr e ↦ in_both f g n (elim (cases_Bool (g n)) [ inl k ↦ omega (arith, count_same f n e, count_up g n k) | inr k ↦ omega (arith, count_same f n e, count_same g n k) ])
    ]

pub majorities_meet : (n : ℕ) (f g : ℕ → Bool) → Majority n f → Majority n g → (j : ℕ) × (f j ≡ true) × (g j ≡ true)
unfolding Majority
majorities_meet n f g a b = in_both f g n (omega arith)
