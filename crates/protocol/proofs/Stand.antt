-- A machine stands in its own term. Assumes nothing.
use Rattle.std.proofs.Common.{◌≡◌, ℕ, ◌<◌, ◌≤◌, true, length, sym, refl, ap, ◌∙◌, subst, inl, inr, arith}
use Rattle.std.proofs.lemmas.Bool.{both_ways, cases_eq}
use Rattle.protocol.specs.Lists.{upd}
use Rattle.protocol.specs.Log.{Log, term_at, Covers}
use Rattle.protocol.specs.History.{History, Grows, owner, after_stand}
use Rattle.protocol.specs.Invariant.{Matching, Leads, Inv}
use Rattle.protocol.specs.State.{State, Sound, StandOk}
use Rattle.protocol.proofs.Updates.{upd_cases, upd_other}
use Rattle.protocol.proofs.Grows.{matching_grows, vote_cover_grows}
use Rattle.protocol.proofs.States.{sound_grows, sound_other}

module _ (n : ℕ) (g : History) (j : ℕ) (s : State) (inv : Inv g) (ok : StandOk n g j s.term) where
  stood_other : (u : ℕ) → g.stood u ≡ true → u ≡ s.term → ⊥
  stood_other u e k = both_ways (g.stood s.term) ok.fresh (subst (λ (x : ℕ). g.stood x ≡ true) k e)

  led_other : (u : ℕ) → g.elected u ≡ true → u ≡ s.term → ⊥
  led_other u e k = stood_other u (inv.stood_first u e) k

  stood_up : (u : ℕ) → g.stood u ≡ true → upd g.stood s.term true u ≡ true
  stood_up u e = upd_other g.stood s.term true u (stood_other u e) ∙ e

  pub stand_grows : Grows g (after_stand g s.term s.log)
  stand_grows =
      record {
        stood_on = stood_up;
        same_cand = λ u e. upd_other g.cand s.term s.log u (stood_other u e);
        led = λ u e. e;
        longer = λ u e. omega arith;
        front = λ u i e b. refl;
        voted_on = λ u i e. e;
        more_acks = λ u i. omega arith;
      }

  -- the log of one who stands is an old one, or that of s
  cand_at : (P : ℕ → Log ℕ → Type 0) → P s.term s.log → ((u : ℕ) → g.stood u ≡ true → P u (g.cand u)) → (u : ℕ) → upd g.stood s.term true u ≡ true →
      P u (upd g.cand s.term s.log u)
  cand_at P new old u e =
      elim (upd_cases g.cand s.term s.log u) [
        | inl h ↦ subst (λ (x : Log ℕ). P u x) (sym h.1) (subst (λ (x : ℕ). P x s.log) (sym h.0) new)
        | inr h ↦ subst (λ (x : Log ℕ). P u x) (sym h.1) (old u (sym (upd_other g.stood s.term true u h.0) ∙ e))
      ]

  module _ (d : Sound n g j s) where
    log_below : (i : ℕ) → i < length s.log → term_at s.log i < s.term
    log_below i b =
        elim (cases_eq (term_at s.log i) s.term) [
          | inl k ↦ absurd (led_other (term_at s.log i) (d.matching i b).led k)
          | inr k ↦ omega (arith, d.below i b)
        ]

    pub stand_inv : Inv (after_stand g s.term s.log)
    stand_inv =
        let h = after_stand g s.term s.log in
        record {
          match_lead = λ u e. matching_grows g h stand_grows (g.lead u) (inv.match_lead u e);
          match_cand = λ u e. matching_grows g h stand_grows (upd g.cand s.term s.log u) (cand_at (λ _ l. Matching g l) d.matching inv.match_cand u e);
          cand_below = λ u i e. cand_at (λ x l. i < length l → term_at l i < x) (log_below i) (λ x k. inv.cand_below x i k) u e;
          stood_first = λ u e. stood_up u (inv.stood_first u e);
          leads = λ u e. subst (λ (x : Log ℕ). Leads u x (g.lead u)) (sym (upd_other g.cand s.term s.log u (led_other u e))) (inv.leads u e);
          vote_stood = λ u i e. stood_up u (inv.vote_stood u i e);
          ack_led = inv.ack_led;
          ack_long = inv.ack_long;
          vote_cover = λ v i u m y c a o all.
              subst (λ (x : Log ℕ). Covers m (g.lead u) x) (sym (upd_other g.cand s.term s.log v (stood_other v (inv.vote_stood v i y))))
              (vote_cover_grows g h stand_grows inv v i u m y c a o all);
        }

  stood_old : (u : ℕ) → (u ≡ s.term → ⊥) → upd g.stood s.term true u ≡ true → g.stood u ≡ true
  stood_old u ne e = sym (upd_other g.stood s.term true u ne) ∙ e

  -- states in which the term is reached bear it, and those of other machines
  pub stand_bears : (r : State) → s.term ≤ r.term → Sound n g j r → Sound n (after_stand g s.term s.log) j r
  stand_bears r b d =
      sound_grows g (after_stand g s.term s.log) inv stand_grows n j r
      (λ u o e. elim (cases_eq u s.term) [ inl k ↦ inr (omega arith) | inr k ↦ inl (stood_old u k e) ]) (λ u e. inl e) (λ u m a. inl a) d

  pub stand_other : (i : ℕ) → (i ≡ j → ⊥) → (r : State) → Sound n g i r → Sound n (after_stand g s.term s.log) i r
  stand_other i ne r d =
      sound_other g (after_stand g s.term s.log) inv stand_grows n i r
      (λ u o e. stood_old u (λ k. ne (sym o ∙ ap (owner n) k ∙ ok.own)) e) (λ u. refl) (λ u. refl) d
