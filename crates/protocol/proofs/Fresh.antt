-- Proposals in leaders' logs stay apart. Assumes nothing.
use Rattle.std.proofs.Common.{◌≡◌, ℕ, suc, ◌<◌, ◌≤◌, true, false, length, sym, refl, ap, ◌∙◌, inl, inr, arith}
use mathlib.Core.Option.{none, some}
use Rattle.std.proofs.lemmas.Bool.{cases_lt, both_ways}
use Rattle.protocol.specs.Lists.{upd}
use Rattle.protocol.specs.Log.{entry, term_at, content_at, renew_index, renew}
use Rattle.protocol.specs.History.{History, no_history, extended, after_elect, after_propose}
use Rattle.protocol.specs.Invariant.{Match, Inv, Fresh}
use Rattle.protocol.specs.State.{ElectOk, ProposeOk}
use Rattle.protocol.proofs.Updates.{upd_all, upd_other}
use Rattle.protocol.proofs.Logs.{content_same, push_length, push_front, push_last, renew_index_is, renew_length, renew_front, renew_last}
use Rattle.protocol.proofs.Decisions.{none_some, some_same}

module _ (n : ℕ) (g : History) (t : ℕ) (inv : Inv g) (ok : ElectOk n g t) (fr : Fresh g) where
  -- an entry of the new log that holds something is one that an earlier leader had
  module _ (k p : ℕ) (b : k < length (renew t (g.cand t))) (z : content_at (renew t (g.cand t)) k ≡ some p) where
    low : k < renew_index (g.cand t)
    low =
        elim (cases_lt k (renew_index (g.cand t))) [
          | inl h ↦ h
          | inr h ↦
              let e : k ≡ renew_index (g.cand t) = omega (arith, renew_length t (g.cand t)) in
              let at_k : content_at (renew t (g.cand t)) k ≡ none = ap (λ (x : ℕ). content_at (renew t (g.cand t)) x) e ∙ content_same _ _ (renew_last t (g.cand t)) in
              absurd (none_some (content_at (renew t (g.cand t)) k) p at_k z)
        ]

    old : Match g (g.cand t) k
    old = inv.match_cand t ok.stands k (omega (arith, low, (renew_index_is (g.cand t)).low))

    pub was : (i : ℕ) → i ≤ k → content_at (renew t (g.cand t)) i ≡ content_at (g.lead (term_at (g.cand t) k)) i
    was i h = content_same _ _ (renew_front t (g.cand t) i (omega (arith, low)) ∙ old.same i h)

  led_old : (u : ℕ) → (u ≡ t → ⊥) → upd g.elected t true u ≡ true → g.elected u ≡ true
  led_old u ne e = sym (upd_other g.elected t true u ne) ∙ e

  pub elect_fresh : Fresh (after_elect g t)
  elect_fresh =
      record {
        low = upd_all g.lead t (renew t (g.cand t)) (λ u l. upd g.elected t true u ≡ true → (i p : ℕ) → i < length l → content_at l i ≡ some p → p < g.next)
            (λ _ i p b z. let m = old i p b z in fr.low (term_at (g.cand t) i) m.led i p m.within (sym (was i p b z i (omega arith)) ∙ z))
            (λ u ne e. fr.low u (led_old u ne e));
        apart = upd_all g.lead t (renew t (g.cand t))
            (λ u l. upd g.elected t true u ≡ true → (i k p : ℕ) → i < k → k < length l → content_at l i ≡ some p → content_at l k ≡ some p → ⊥)
            (λ _ i k p h b x y.
            let m = old k p b y in
            fr.apart (term_at (g.cand t) k) m.led i k p h m.within (sym (was k p b y i (omega arith)) ∙ x) (sym (was k p b y k (omega arith)) ∙ y))
            (λ u ne e. fr.apart u (led_old u ne e));
      }

module _ (g : History) (t p : ℕ) (ok : ProposeOk g t p) (fr : Fresh g) where
  at_front : (i : ℕ) → i < length (g.lead t) → content_at (extended g t p) i ≡ content_at (g.lead t) i
  at_front i h = content_same _ _ (push_front (g.lead t) (entry t (some p)) i h)

  at_end : (i : ℕ) → length (g.lead t) ≡ i → content_at (extended g t p) i ≡ some p
  at_end i h = content_same _ _ (push_last (g.lead t) (entry t (some p)) i h)

  ext_low : (i q : ℕ) → i < length (extended g t p) → content_at (extended g t p) i ≡ some q → q < suc p
  ext_low i q b z =
      elim (cases_lt i (length (g.lead t))) [
        | inl h ↦ omega (arith, fr.low t ok.leads i q h (sym (at_front i h) ∙ z), ok.new)
        | inr h ↦ omega (arith, some_same p q (sym (at_end i (omega (arith, push_length (g.lead t) (entry t (some p))))) ∙ z))
      ]

  ext_apart : (i k q : ℕ) → i < k → k < length (extended g t p) → content_at (extended g t p) i ≡ some q → content_at (extended g t p) k ≡ some q → ⊥
  ext_apart i k q h b x y =
      let len = push_length (g.lead t) (entry t (some p)) in
      let ei : content_at (g.lead t) i ≡ some q = sym (at_front i (omega arith)) ∙ x in
      elim (cases_lt k (length (g.lead t))) [
        | inl d ↦ fr.apart t ok.leads i k q h d ei (sym (at_front k d) ∙ y)
        | inr d ↦ omega (arith, fr.low t ok.leads i q (omega arith) ei, ok.new, some_same p q (sym (at_end k (omega arith)) ∙ y))
      ]

  pub propose_fresh : Fresh (after_propose g t p)
  propose_fresh =
      record {
        low = upd_all g.lead t (extended g t p) (λ u l. g.elected u ≡ true → (i q : ℕ) → i < length l → content_at l i ≡ some q → q < suc p) (λ _. ext_low)
            (λ u ne e i q b z. omega (arith, fr.low u e i q b z, ok.new));
        apart = upd_all g.lead t (extended g t p) (λ u l. g.elected u ≡ true → (i k q : ℕ) → i < k → k < length l → content_at l i ≡ some q → content_at l k ≡ some q → ⊥)
            (λ _. ext_apart) (λ u ne e. fr.apart u e);
      }

pub start_fresh : Fresh no_history
unfolding no_history
start_fresh = record { low = λ t e. absurd (both_ways false refl e); apart = λ t e. absurd (both_ways false refl e) }
