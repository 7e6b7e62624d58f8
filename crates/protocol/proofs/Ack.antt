-- A machine acknowledges first entries of its term's leader. Assumes nothing.
use Rattle.std.proofs.Common.{◌≡◌, ℕ, ◌<◌, ◌≤◌, max, true, ◌⊎◌, length, sym, refl, ap, ◌∙◌, subst, inl, inr, arith}
use Rattle.std.proofs.lemmas.Bool.{cases_lt}
use Rattle.protocol.specs.Lists.{upd2}
use Rattle.protocol.specs.Log.{entry_at}
use Rattle.protocol.specs.History.{History, Grows, after_ack}
use Rattle.protocol.specs.Invariant.{Inv}
use Rattle.protocol.specs.State.{State, Sound, HoldsFirst}
use Rattle.protocol.proofs.Updates.{upd2_cases, upd2_who}
use Rattle.protocol.proofs.Grows.{matching_grows}
use Rattle.protocol.proofs.States.{sound_grows, sound_other}

module _ (n : ℕ) (g : History) (j t k : ℕ) (inv : Inv g) (led : g.elected t ≡ true) (within : k ≤ length (g.lead t)) where
  -- what is new: in term t, by j, below k
  ack_cases : (u i m : ℕ) → m < upd2 g.acked t j (max (g.acked t j) k) u i → (m < g.acked u i) ⊎ ((u ≡ t) × (i ≡ j) × (m < k))
  ack_cases u i m a =
      elim (upd2_cases g.acked t j (max (g.acked t j) k) u i) [
        | inl h ↦
            let e : g.acked u i ≡ g.acked t j = ap (λ (x : ℕ). g.acked x i) h.0 ∙ ap (g.acked t) h.1 in
            elim (cases_lt m (g.acked t j)) [ inl b ↦ inl (omega arith) | inr b ↦ inr (h.0, h.1, omega (arith, h.2)) ]
        | inr h ↦ inl (omega (arith, h.1))
      ]

  pub ack_grows : Grows g (after_ack g j t k)
  ack_grows =
      record {
        stood_on = λ u e. e;
        same_cand = λ u e. refl;
        led = λ u e. e;
        longer = λ u e. omega arith;
        front = λ u i e b. refl;
        voted_on = λ u i e. e;
        more_acks = λ u i. elim (upd2_cases g.acked t j (max (g.acked t j) k) u i) [
          | inl h ↦ let e : g.acked u i ≡ g.acked t j = ap (λ (x : ℕ). g.acked x i) h.0 ∙ ap (g.acked t) h.1 in omega (arith, h.2)
          | inr h ↦ omega (arith, h.1)
        ];
      }

  -- who has voted in a later term acknowledges no more in this one
  pub ack_inv : ((v : ℕ) → g.voted v j ≡ true → v ≤ t) → Inv (after_ack g j t k)
  ack_inv low =
      let h = after_ack g j t k in
      record {
        match_lead = λ u e. matching_grows g h ack_grows (g.lead u) (inv.match_lead u e);
        match_cand = λ u e. matching_grows g h ack_grows (g.cand u) (inv.match_cand u e);
        cand_below = inv.cand_below;
        stood_first = inv.stood_first;
        leads = inv.leads;
        vote_stood = inv.vote_stood;
        ack_led = λ u i m a. elim (ack_cases u i m a) [ inl b ↦ inv.ack_led u i m b | inr b ↦ subst (λ (x : ℕ). g.elected x ≡ true) (sym b.0) led ];
        ack_long = λ u i m a. elim (ack_cases u i m a)
            [ inl b ↦ inv.ack_long u i m b | inr b ↦ omega (arith, b.2, ap (λ (x : ℕ). length (g.lead x)) b.0) ];
        vote_cover = λ v i u m y c a o all. elim (ack_cases u i m a) [
          | inl b ↦ inv.vote_cover v i u m y c b o all
          | inr b ↦ absurd (omega (arith, b.0, low v (subst (λ (x : ℕ). g.voted v x ≡ true) b.1 y)))
        ];
      }

  -- states that hold what is acknowledged bear it, and those of other machines
  pub ack_bears : (r : State) → r.term ≡ t → HoldsFirst g t k r.log → Sound n g j r → Sound n (after_ack g j t k) j r
  ack_bears r e hold d =
      sound_grows g (after_ack g j t k) inv ack_grows n j r (λ u o q. inl q) (λ u q. inl q)
      (λ u m a. elim (ack_cases u j m a) [
        | inl b ↦ inl b
        | inr b ↦ inr (record {
          reached = omega (arith, b.0);
          now = λ c. (omega (arith, b.2, hold.long), hold.same m b.2 ∙ ap (λ (x : ℕ). entry_at (g.lead x) m) (sym b.0));
          later = λ c o all. absurd (omega (arith, b.0));
        })
      ]) d

  pub ack_other : (i : ℕ) → (i ≡ j → ⊥) → (r : State) → Sound n g i r → Sound n (after_ack g j t k) i r
  ack_other i ne r d = sound_other g (after_ack g j t k) inv ack_grows n i r (λ u o e. e) (λ u. refl) (λ u. upd2_who g.acked t j (max (g.acked t j) k) u i ne) d
