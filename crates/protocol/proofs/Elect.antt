-- A machine is elected, and begins its term with an empty entry. Assumes nothing.
use Rattle.std.proofs.Common.{◌≡◌, ℕ, true, length, sym, refl, ap, ◌∙◌, subst, inl, inr, arith}
use Rattle.std.proofs.lemmas.Bool.{both_ways, cases_eq, cases_lt}
use Rattle.protocol.specs.Lists.{upd}
use Rattle.protocol.specs.Log.{Log, entry_at, renew_index, renew}
use Rattle.protocol.specs.History.{History, Grows, Majority, after_elect}
use Rattle.protocol.specs.Invariant.{Matching, Leads, Inv, Elections}
use Rattle.protocol.specs.State.{State, Sound, ElectOk}
use Rattle.protocol.proofs.Updates.{upd_cases, upd_other, upd_at, upd_all}
use Rattle.protocol.proofs.Logs.{renew_index_is, renew_front}
use Rattle.protocol.proofs.Matches.{renew_leads, match_on, match_self}
use Rattle.protocol.proofs.Grows.{matching_grows, vote_cover_grows}
use Rattle.protocol.proofs.States.{sound_other}

module _ (n : ℕ) (g : History) (t : ℕ) (inv : Inv g) (ok : ElectOk n g t) where
  led_other : (u : ℕ) → g.elected u ≡ true → u ≡ t → ⊥
  led_other u e k = both_ways (g.elected t) ok.open_yet (subst (λ (x : ℕ). g.elected x ≡ true) k e)

  same_lead : (u : ℕ) → g.elected u ≡ true → upd g.lead t (renew t (g.cand t)) u ≡ g.lead u
  same_lead u e = upd_other g.lead t (renew t (g.cand t)) u (led_other u e)

  pub elect_grows : Grows g (after_elect g t)
  elect_grows =
      record {
        stood_on = λ u e. e;
        same_cand = λ u e. refl;
        led = λ u e. elim (upd_cases g.elected t true u) [ inl h ↦ h.1 | inr h ↦ h.1 ∙ e ];
        longer = λ u e. omega (arith, ap length (same_lead u e));
        front = λ u i e b. ap (λ (x : Log ℕ). entry_at x i) (same_lead u e);
        voted_on = λ u i e. e;
        more_acks = λ u i. omega arith;
      }

  led_old : (u : ℕ) → (u ≡ t → ⊥) → upd g.elected t true u ≡ true → g.elected u ≡ true
  led_old u ne e = sym (upd_other g.elected t true u ne) ∙ e

  match_new : Matching (after_elect g t) (renew t (g.cand t))
  match_new i b =
      elim (cases_lt i (renew_index (g.cand t))) [
        | inl h ↦
            match_on (after_elect g t) (g.cand t) (renew t (g.cand t)) i (λ x k. renew_front t (g.cand t) x (omega arith))
            (matching_grows g (after_elect g t) elect_grows (g.cand t) (inv.match_cand t ok.stands) i (omega (arith, (renew_index_is (g.cand t)).low)))
        | inr h ↦
            match_self (after_elect g t) (renew t (g.cand t)) i t ((renew_leads t (g.cand t)).own i h b) (upd_at g.elected t true t refl)
            (upd_at g.lead t (renew t (g.cand t)) t refl) b
      ]

  pub elect_inv : Inv (after_elect g t)
  elect_inv =
      let h = after_elect g t in
      record {
        match_lead = upd_all g.lead t (renew t (g.cand t)) (λ u l. upd g.elected t true u ≡ true → Matching h l) (λ _. match_new)
            (λ u ne e. matching_grows g h elect_grows (g.lead u) (inv.match_lead u (led_old u ne e)));
        match_cand = λ u e. matching_grows g h elect_grows (g.cand u) (inv.match_cand u e);
        cand_below = inv.cand_below;
        stood_first = λ u e. elim (cases_eq u t)
            [ inl k ↦ subst (λ (x : ℕ). g.stood x ≡ true) (sym k) ok.stands | inr k ↦ inv.stood_first u (led_old u k e) ];
        leads = upd_all g.lead t (renew t (g.cand t)) (λ u l. upd g.elected t true u ≡ true → Leads u (g.cand u) l) (λ _. renew_leads t (g.cand t))
            (λ u ne e. inv.leads u (led_old u ne e));
        vote_stood = inv.vote_stood;
        ack_led = λ u i m a. elect_grows.led u (inv.ack_led u i m a);
        ack_long = λ u i m a. omega (arith, inv.ack_long u i m a, elect_grows.longer u (inv.ack_led u i m a));
        vote_cover = λ v i u m y c a o all. vote_cover_grows g h elect_grows inv v i u m y c a o all;
      }

  pub elect_elections : Elections n g → Elections n (after_elect g t)
  elect_elections el =
      record { most = λ u e. elim (cases_eq u t) [ inl k ↦ subst (λ (x : ℕ). Majority n (g.voted x)) (sym k) ok.most | inr k ↦ el.most u (led_old u k e) ] }

  -- every state bears it
  pub elect_bears : (j : ℕ) (r : State) → Sound n g j r → Sound n (after_elect g t) j r
  elect_bears j r d = sound_other g (after_elect g t) inv elect_grows n j r (λ u o e. e) (λ u. refl) (λ u. refl) d
