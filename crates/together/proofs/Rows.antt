-- Half of a row of indexes has one answer.
use Rattle.std.proofs.Common.{◌≡◌, ℕ, ◌≤◌, Bool, true, false, not, eqb, leb, List, sym, refl, ◌∙◌, arith}
use Rattle.std.proofs.lemmas.Bool.{leb-true, false≢true}
use Rattle.together.specs.House.{or, every, any}
use Rattle.together.specs.Entry.{half_have, half_fits, HalfSays}
use Rattle.together.specs.Cases.{HalfIs}
use Rattle.together.specs.declared.Reply.{Reply}
use Rattle.together.proofs.Lists.{every_any}

-- of two that more than half have, and that are the largest such, neither is larger
not_above : (ks : List ℕ) (j k : ℕ) → any (eqb j) ks ≡ true → half_have ks j ≡ true → every (λ i. or (leb i k) (not (half_have ks i))) ks ≡ true → j ≤ k
not_above ks j k one more top = go (half_have ks j) more (every_any (λ i. or (leb i k) (not (half_have ks i))) j ks top one)
  where
    go : (t : Bool) → t ≡ true → or (leb j k) (not t) ≡ true → j ≤ k
    go true e h = leb-true j k (only (leb j k) h)
      where
        only : (b : Bool) → or b false ≡ true → b ≡ true
        only true e₁ = refl
        only false e₁ = e₁
    go false e h = absurd (false≢true e)

one_answer : (ks : List ℕ) (fits : Bool) (r s : Reply) → HalfSays ks fits r → HalfSays ks fits s → s ≡ r
unfolding HalfSays
one_answer ks true r s (j, is-j, one-j, more-j, top-j) (k, is-k, one-k, more-k, top-k) =
    let up : j ≤ k = not_above ks j k one-j more-j top-k in
    let down : k ≤ j = not_above ks k j one-k more-k top-j in
    let e : j ≡ k = omega arith in
    cc
one_answer ks false r s h k = k ∙ sym h

pub half_is : (ks : List ℕ) (r : Reply) → HalfSays ks (half_fits ks) r → HalfIs ks r
unfolding HalfIs
half_is ks r h = (h, λ s k. one_answer ks (half_fits ks) r s h k)
