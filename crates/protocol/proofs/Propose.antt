-- A leader takes a proposal in. Assumes nothing.
use Rattle.std.proofs.Common.{◌≡◌, ℕ, ◌<◌, ◌≤◌, true, length, refl, inl, inr, arith}
use mathlib.Core.Option.{some}
use Rattle.std.proofs.lemmas.Bool.{cases_lt}
use Rattle.protocol.specs.Log.{entry, entry_at}
use Rattle.protocol.specs.History.{History, Grows, extended, after_propose}
use Rattle.protocol.specs.Invariant.{Matching, Leads, Inv}
use Rattle.protocol.specs.State.{State, Sound, ProposeOk}
use Rattle.protocol.proofs.Updates.{upd_at, upd_all}
use Rattle.protocol.proofs.Logs.{term_same, push_length, push_front, push_last}
use Rattle.protocol.proofs.Matches.{push_leads, match_on, match_self}
use Rattle.protocol.proofs.Grows.{matching_grows, vote_cover_grows}
use Rattle.protocol.proofs.States.{sound_other}

module _ (n : ℕ) (g : History) (t p : ℕ) (inv : Inv g) (ok : ProposeOk g t p) where
  pub propose_grows : Grows g (after_propose g t p)
  propose_grows =
      record {
        stood_on = λ u e. e;
        same_cand = λ u e. refl;
        led = λ u e. e;
        longer = λ u e. upd_all g.lead t (extended g t p) (λ x l. length (g.lead x) ≤ length l) (omega (arith, push_length (g.lead t) (entry t (some p)))) (λ x ne. omega arith) u;
        front = λ u i e. upd_all g.lead t (extended g t p) (λ x l. i < length (g.lead x) → entry_at l i ≡ entry_at (g.lead x) i)
            (push_front (g.lead t) (entry t (some p)) i) (λ x ne b. refl) u;
        voted_on = λ u i e. e;
        more_acks = λ u i. omega arith;
      }

  match_new : Matching (after_propose g t p) (extended g t p)
  match_new i b =
      elim (cases_lt i (length (g.lead t))) [
        | inl h ↦
            match_on (after_propose g t p) (g.lead t) (extended g t p) i (λ x k. push_front (g.lead t) (entry t (some p)) x (omega arith))
            (matching_grows g (after_propose g t p) propose_grows (g.lead t) (inv.match_lead t ok.leads) i h)
        | inr h ↦
            match_self (after_propose g t p) (extended g t p) i t
            (term_same _ _ (push_last (g.lead t) (entry t (some p)) i (omega (arith, push_length (g.lead t) (entry t (some p)))))) ok.leads
            (upd_at g.lead t (extended g t p) t refl) b
      ]

  pub propose_inv : Inv (after_propose g t p)
  propose_inv =
      let h = after_propose g t p in
      record {
        match_lead = upd_all g.lead t (extended g t p) (λ u l. g.elected u ≡ true → Matching h l) (λ _. match_new)
            (λ u ne e. matching_grows g h propose_grows (g.lead u) (inv.match_lead u e));
        match_cand = λ u e. matching_grows g h propose_grows (g.cand u) (inv.match_cand u e);
        cand_below = inv.cand_below;
        stood_first = inv.stood_first;
        leads = upd_all g.lead t (extended g t p) (λ u l. g.elected u ≡ true → Leads u (g.cand u) l) (λ e. push_leads t (some p) (g.cand t) (g.lead t) (inv.leads t e))
            (λ u ne e. inv.leads u e);
        vote_stood = inv.vote_stood;
        ack_led = inv.ack_led;
        ack_long = λ u i m a. omega (arith, inv.ack_long u i m a, propose_grows.longer u (inv.ack_led u i m a));
        vote_cover = λ v i u m y c a o all. vote_cover_grows g h propose_grows inv v i u m y c a o all;
      }

  -- every state bears it
  pub propose_bears : (j : ℕ) (r : State) → Sound n g j r → Sound n (after_propose g t p) j r
  propose_bears j r d = sound_other g (after_propose g t p) inv propose_grows n j r (λ u o e. e) (λ u. refl) (λ u. refl) d
