-- States that stay sound: while the history grows, and by what a machine does to its own. Assumes nothing.
use Rattle.std.proofs.Common.{◌≡◌, ℕ, suc, ◌+◌, ◌<◌, ◌≤◌, true, ◌⊎◌, length, sym, ap, ◌∙◌, inl, inr, arith}
use Rattle.std.proofs.lemmas.Bool.{cases_lt}
use Rattle.protocol.specs.Log.{Log, entry_at, merge}
use Rattle.protocol.specs.History.{History, Grows, owner}
use Rattle.protocol.specs.Invariant.{Inv}
use Rattle.protocol.specs.State.{State, state, HasAck, Sound, HoldsFirst, AcceptOk}
use Rattle.protocol.proofs.Logs.{covers_self, covers_of}
use Rattle.protocol.proofs.Matches.{lead_below, covers_lead}
use Rattle.protocol.proofs.Grows.{matching_grows, front_upto, old_term, all_cover_back}
use Rattle.protocol.proofs.Merges.{merge_long, merge_at, merge_kept, merge_matching, merge_below, merge_covers}

-- while the history grows
module _ (g h : History) (inv : Inv g) (gr : Grows g h) where
  has_ack_grows : (s : State) (t m : ℕ) → g.elected t ≡ true → m < length (g.lead t) → HasAck g s t m → HasAck h s t m
  has_ack_grows s t m e b a =
      record {
        reached = a.reached;
        now = λ c. let r = a.now c in (r.0, r.1 ∙ sym (gr.front t m e b));
        later = λ c o all.
            covers_of m (g.lead t) (h.lead t) s.log (front_upto g h gr t m e b)
            (a.later c (old_term g h gr t m e b o) (all_cover_back g h gr inv t m (suc s.term) e b all));
      }

  -- a state stays sound, if it bears what is new in what its machine said
  pub sound_grows : (n j : ℕ) (s : State) → ((t : ℕ) → owner n t ≡ j → h.stood t ≡ true → (g.stood t ≡ true) ⊎ (t ≤ s.term)) →
      ((t : ℕ) → h.voted t j ≡ true → (g.voted t j ≡ true) ⊎ (t ≤ s.term)) → ((t m : ℕ) → m < h.acked t j → (m < g.acked t j) ⊎ HasAck h s t m) → Sound n g j s → Sound n h j s
  sound_grows n j s stands votes acks d =
      record {
        matching = matching_grows g h gr s.log d.matching;
        below = d.below;
        stands = λ t o e. elim (stands t o e) [ inl k ↦ d.stands t o k | inr k ↦ k ];
        votes = λ t e. elim (votes t e) [ inl k ↦ d.votes t k | inr k ↦ k ];
        acks = λ t m a. elim (acks t m a) [ inl k ↦ has_ack_grows s t m (inv.ack_led t j m k) (inv.ack_long t j m k) (d.acks t m k) | inr k ↦ k ];
      }

  -- so it does if its machine said nothing new
  pub sound_other : (n j : ℕ) (s : State) → ((t : ℕ) → owner n t ≡ j → h.stood t ≡ true → g.stood t ≡ true) → ((t : ℕ) → h.voted t j ≡ g.voted t j) →
      ((t : ℕ) → h.acked t j ≡ g.acked t j) → Sound n g j s → Sound n h j s
  sound_other n j s stands votes acks d = sound_grows n j s (λ t o e. inl (stands t o e)) (λ t e. inl (sym (votes t) ∙ e)) (λ t m a. inl (omega (arith, acks t))) d

-- by what a machine does to its own
module _ (n : ℕ) (g : History) (j : ℕ) (s : State) (d : Sound n g j s) where
  -- what it acknowledged in its term, it has from there back
  pub acked_front : (t m : ℕ) → s.term ≡ t → m < g.acked t j → (i : ℕ) → i ≤ m → entry_at s.log i ≡ entry_at (g.lead t) i
  acked_front t m e a i b = ((d.acks t i (omega arith)).now e).1

  pub enter_sound : (t : ℕ) → s.term < t → Sound n g j (state t s.log)
  enter_sound t h =
      record {
        matching = d.matching;
        below = λ i b. omega (arith, d.below i b);
        stands = λ u o e. omega (arith, d.stands u o e);
        votes = λ u e. omega (arith, d.votes u e);
        acks = λ u m a.
            let k = d.acks u m a in
            record {
              reached = omega (arith, k.reached);
              now = λ e. absurd (omega (arith, k.reached));
              later = λ c o all.
                  elim (cases_lt u s.term) [
                    | inl b ↦ k.later b o (λ x lo hi y. all x lo (omega arith) y)
                    | inr b ↦
                        let e : s.term ≡ u = omega (arith, k.reached) in
                        covers_self m (g.lead u) s.log (k.now e).0 (λ i c. acked_front u m e a i c)
                  ];
            };
      }

  module _ (inv : Inv g) where
    -- the log of its term's leader
    pub adopt_sound : g.elected s.term ≡ true → Sound n g j (state s.term (g.lead s.term))
    adopt_sound e =
        record {
          matching = inv.match_lead s.term e;
          below = λ i b. lead_below g inv s.term i e b;
          stands = d.stands;
          votes = d.votes;
          acks = λ u m a.
              let k = d.acks u m a in
              record {
                reached = k.reached;
                now = λ c. (omega (arith, inv.ack_long u j m a, ap (λ (x : ℕ). length (g.lead x)) c), ap (λ (x : ℕ). entry_at (g.lead x) m) c);
                later = λ c o all. covers_lead g inv s.term m (g.lead u) e (all s.term c (omega arith) e);
              };
        }

    module _ (p : ℕ) (es : Log ℕ) (ok : AcceptOk g s.term s.log p es) where
      led : g.elected s.term ≡ true
      led = ok.part.led

      -- the merged log has what came
      pub accept_holds : HoldsFirst g s.term (p + length es) (merge s.log p es)
      accept_holds =
          record {
            led = led;
            within = ok.part.within;
            long = merge_long g s.log (g.lead s.term) es p d.matching (inv.match_lead s.term led) ok.no_gap ok.part.within ok.prev ok.part.same;
            same = merge_at g s.log (g.lead s.term) es p d.matching (inv.match_lead s.term led) ok.no_gap ok.part.within ok.prev ok.part.same;
          }

      kept : p + length es ≤ length s.log → ((i : ℕ) → i < p + length es → entry_at s.log i ≡ entry_at (g.lead s.term) i) → merge s.log p es ≡ s.log
      kept = merge_kept g s.log (g.lead s.term) es p d.matching (inv.match_lead s.term led) ok.no_gap ok.part.within ok.prev ok.part.same

      pub accept_sound : Sound n g j (state s.term (merge s.log p es))
      accept_sound =
          record {
            matching = merge_matching g s.log (g.lead s.term) es p d.matching (inv.match_lead s.term led) ok.no_gap ok.part.within ok.prev ok.part.same;
            below = merge_below g s.log (g.lead s.term) es p d.matching (inv.match_lead s.term led) ok.no_gap ok.part.within ok.prev ok.part.same
                s.term d.below (λ i c. lead_below g inv s.term i led c);
            stands = d.stands;
            votes = d.votes;
            acks = λ u m a.
                let k = d.acks u m a in
                record {
                  reached = k.reached;
                  now = λ c.
                      elim (cases_lt m (p + length es)) [
                        | inl h ↦ (omega (arith, accept_holds.long), accept_holds.same m h ∙ ap (λ (x : ℕ). entry_at (g.lead x) m) c)
                        | inr h ↦
                            let e = kept (omega (arith, (k.now c).0)) (λ i q. acked_front u m c a i (omega arith) ∙ ap (λ (x : ℕ). entry_at (g.lead x) i) (sym c)) in
                            (omega (arith, ap length e, (k.now c).0), ap (λ (x : Log ℕ). entry_at x m) e ∙ (k.now c).1)
                      ];
                  later = λ c o all.
                      merge_covers g s.log (g.lead s.term) es p d.matching (inv.match_lead s.term led) ok.no_gap ok.part.within ok.prev ok.part.same
                      m (g.lead u) (k.later c o all) (covers_lead g inv s.term m (g.lead u) led (all s.term c (omega arith) led));
                };
          }
