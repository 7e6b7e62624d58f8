-- The small statements. The lemmas that they rest on stand in files of their own, so that an edit there fails by itself.
use Rattle.std.proofs.Common.{◌≡◌, ℕ, ◌-◌, ◌<◌, true, false, ◌&&◌, Bool, eqb, ltb, leb, List, [], ◌++◌, length, get_or, sym, refl, ap, ◌∙◌, subst, arith}
use Rattle.std.proofs.lemmas.List.{length-append}
use Rattle.std.proofs.lemmas.Bool.{and_parts, and_from, lt-ltb, ltb-true}
use Rattle.together.specs.House.{every, any, same, nth_value, all_apart, far}
use Rattle.together.specs.Promise.{Agree, LaterProposals, TwoHalves, NoGap, CalmMore, Whole}
use Rattle.together.proofs.Lists.{every_at, every_weaker, every_append, same_self}
use Rattle.statements.proofs.Order.{begins_at, ordered, by_order_parts, nth_value_front}
use Rattle.statements.proofs.Quorum.{apart_append, at_most}
use Rattle.statements.proofs.Turn.{Within, all_applied}
use Rattle.statements.proofs.Calm.{right_less}

pub agree : Agree
unfolding Agree
agree ps o₁ o₂ a b is-order begin by₁ by₂ index =
    let x = by_order_parts ps o₁ a by₁ in
    let y = by_order_parts ps o₂ b by₂ in
    let at : get_or o₁ (a.index - 1) 0 ≡ get_or o₂ (a.index - 1) 0 = begins_at o₁ o₂ (a.index - 1) begin (omega (arith, x.low, x.high)) in
    let e : a.value ≡ b.value = x.value ∙ (ap (nth_value ps) at ∙ (ap (ordered ps o₂) index ∙ sym y.value)) in
    subst (λ (v : List ℕ). same a.value v ≡ true) e (same_self a.value)

pub later_proposals : LaterProposals
unfolding LaterProposals
later_proposals ps qs o a is-order by =
    let parts = and_parts (every (λ j. ltb j (length ps)) o) (all_apart o) is-order in
    let x = by_order_parts ps o a by in
    let wider : (j : ℕ) → ltb j (length ps) ≡ true → ltb j (length (ps ++ qs)) ≡ true =
    λ j h. lt-ltb j (length (ps ++ qs)) (omega (arith, ltb-true j (length ps) h, length-append ps qs)) in
    let still : every (λ j. ltb j (length (ps ++ qs))) o ≡ true = every_weaker (λ j. ltb j (length ps)) (λ j. ltb j (length (ps ++ qs))) wider o parts.0 in
    let inside : get_or o (a.index - 1) 0 < length ps =
    ltb-true (get_or o (a.index - 1) 0) (length ps) (every_at (λ j. ltb j (length ps)) o 0 (a.index - 1) parts.0 (omega (arith, x.low, x.high))) in
    let e : ordered ps o a.index ≡ ordered (ps ++ qs) o a.index = sym (nth_value_front ps qs (get_or o (a.index - 1) 0) inside) in (
      and_from (every (λ j. ltb j (length (ps ++ qs))) o) (all_apart o) still parts.1,
      subst (λ (v : List ℕ). ((leb 1 a.index && leb a.index (length o)) && same a.value v) ≡ true) e by,
    )

pub two_halves : TwoHalves
unfolding TwoHalves
two_halves xs ys n apart-x apart-y below-x below-y more-x more-y = go (any (λ x. any (eqb x) ys) xs) refl
  where
    go : (t : Bool) → any (λ x. any (eqb x) ys) xs ≡ t → t ≡ true
    go true e = refl
    go false e =
        absurd
        (omega (
          arith,
          at_most n (xs ++ ys) (apart_append xs ys apart-x apart-y e) (every_append (λ x. ltb x n) xs ys below-x below-y),
          length-append xs ys,
        ))

pub no_gap : NoGap
unfolding NoGap Within
no_gap as₁ k turn low high = all_applied (far 0 []) as₁ k tt turn (omega arith) high

pub calm_more : CalmMore
unfolding CalmMore Whole
calm_more e h = (h.0, λ many is low high long. right_less (eqb many 1) e _ is (h.1 many is low high long))
