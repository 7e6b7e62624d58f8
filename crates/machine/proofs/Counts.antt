-- A log has no more values than proposals were made, and about as many empty entries at most. Assumes nothing.
use Rattle.std.proofs.Common.{◌≡◌, ℕ, zero, suc, ◌+◌, ◌*◌, ◌<◌, ◌≤◌, List, [], ◌∷◌, length, sym, ◌∙◌, subst, inl, inr, arith}
use mathlib.Core.Option.{some}
use Rattle.std.proofs.lemmas.Bool.{cases_eq}
use Rattle.protocol.specs.Lists.{In, All, Apart}
use Rattle.protocol.specs.Log.{Log, content_at, decisions}
use Rattle.protocol.specs.History.{History}
use Rattle.protocol.specs.Invariant.{Matching, Fresh}
use Rattle.protocol.specs.State.{State, Sound}
use Rattle.protocol.proofs.Logs.{content_same}
use Rattle.protocol.proofs.Decisions.{decisions_all, decisions_apart}
use Rattle.machine.specs.Machine.{Conf, Machine}
use Rattle.machine.specs.World.{World, At, Reachable}
use Rattle.machine.specs.Fits.{state_of, Small}
use Rattle.machine.proofs.Small.{small_short, matching_small}
use Rattle.machine.proofs.Theorems.{reachable_refines, at_stable}

-- numbers below suc k that stand apart: without k, which stands there once at most, they are below k
record Dropped (k : ℕ) (xs : List ℕ) : Type 0 where
  rest : List ℕ
  below : All (λ p. p < k) rest
  apart : Apart rest
  part : (p : ℕ) → In p rest → In p xs
  short : length xs ≤ suc (length rest)

-- none of them is k
all_lower : (k : ℕ) (xs : List ℕ) → All (λ p. p < suc k) xs → (In k xs → ⊥) → All (λ p. p < k) xs
all_lower k [] h out = tt
all_lower k (x ∷ xs) h out =
    let ne : x ≡ k → ⊥ = λ e. out (inl e) in
    (omega (arith, h.0, ne), all_lower k xs h.1 (λ i. out (inr i)))

drop_top : (k : ℕ) (xs : List ℕ) → All (λ p. p < suc k) xs → Apart xs → Dropped k xs
drop_top k [] h a = record { rest = []; below = tt; apart = tt; part = λ p i. i; short = omega arith }
drop_top k (x ∷ xs) h a =
    elim (cases_eq x k) [
      | inl e ↦ record {
        rest = xs;
        below = all_lower k xs h.1 (subst (λ (y : ℕ). In y xs → ⊥) e a.0);
        apart = a.1;
        part = λ p i. inr i;
        short = omega arith;
      }
      | inr ne ↦
          let r = drop_top k xs h.1 a.1 in
          record {
            rest = x ∷ r.rest;
            below = (omega (arith, h.0, ne), r.below);
            apart = (λ i. a.0 (r.part x i), r.apart);
            part = λ p i. elim i [ inl e ↦ inl e | inr q ↦ inr (r.part p q) ];
            short = omega (arith, r.short);
          }
    ]

-- so there are at most k numbers below k that stand apart
pub apart_short : (k : ℕ) (xs : List ℕ) → All (λ p. p < k) xs → Apart xs → length xs ≤ k
apart_short zero [] h a = omega arith
apart_short zero (x ∷ xs) h a = absurd (omega (arith, h.0))
apart_short (suc k) xs h a =
    let r = drop_top k xs h a in
    omega (arith, r.short, apart_short k r.rest r.below r.apart)

-- a log that matches has the contents of leaders' logs: numbers that were given out, and none twice
module _ (g : History) (fr : Fresh g) (l : Log ℕ) (good : Matching g l) where
  matching_low : (i p : ℕ) → i < length l → content_at l i ≡ some p → p < g.next
  matching_low i p b z =
      let m = good i b in
      fr.low _ m.led i p m.within (sym (content_same _ _ (m.same i (omega arith))) ∙ z)

  matching_apart : (i k p : ℕ) → i < k → k < length l → content_at l i ≡ some p → content_at l k ≡ some p → ⊥
  matching_apart i k p h b x y =
      let m = good k b in
      fr.apart _ m.led i k p h m.within (sym (content_same _ _ (m.same i (omega arith))) ∙ x) (sym (content_same _ _ (m.same k (omega arith))) ∙ y)

  pub matching_count : length (decisions l) ≤ g.next
  matching_count = apart_short g.next (decisions l) (decisions_all (λ p. p < g.next) l matching_low) (decisions_apart l matching_apart)

-- of any machine, as it is or as power would make it
pub counts : (c : Conf) (w : World) (j : ℕ) (m : Machine ℕ) → Reachable c w → At w j m →
    (length (decisions m.log) ≤ w.proposals) × (length m.log ≤ 2 * length (decisions m.log) + 1)
counts c w j m k p =
    let s = reachable_refines c w k in
    let x = s.to in
    let good : Sound c.size x.history j (state_of m) =
    subst (λ (z : State). Sound c.size x.history j z) (at_stable c w x s.refines j m p) (s.refines.safe.stable_sound j) in
    let sm : Small c.room m.log = matching_small c.room x.history s.refines.small m.log good.matching in
    (omega (arith, matching_count x.history s.refines.safe.fresh m.log good.matching, s.refines.numbers), small_short m.log sm.apart)
