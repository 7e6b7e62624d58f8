-- A machine votes: whom it votes for has what it acknowledged. Assumes nothing.
use Rattle.std.proofs.Common.{◌≡◌, ℕ, suc, ◌<◌, ◌≤◌, true, ◌⊎◌, [], ◌∷◌, length, sym, refl, ap, ◌∙◌, subst, inl, inr, arith}
use Rattle.std.proofs.lemmas.Bool.{both_ways, cases_lt}
use Rattle.protocol.specs.Lists.{upd2}
use Rattle.protocol.specs.Log.{Log, entry_at, term_at, Covers, UpToDate, last_term, renew_index}
use Rattle.protocol.specs.History.{History, Grows, after_vote}
use Rattle.protocol.specs.Invariant.{Matching, AllCover, Inv}
use Rattle.protocol.specs.State.{State, Sound, VoteOk}
use Rattle.protocol.proofs.Updates.{upd2_cases, upd2_who}
use Rattle.protocol.proofs.Logs.{term_same, renew_index_is, covers_on, last_none, last_some}
use Rattle.protocol.proofs.Matches.{terms_rise, covers_lead}
use Rattle.protocol.proofs.Grows.{matching_grows}
use Rattle.protocol.proofs.States.{sound_grows, sound_other}

none_or_some : (l : Log ℕ) → (length l ≡ 0) ⊎ ((i : ℕ) × (length l ≡ suc i))
none_or_some [] = inl refl
none_or_some (e ∷ es) = inr (length es, refl)

-- a log c that is as far as l covers what l covers, if all leaders of later terms did
module _ (g : History) (inv : Inv g) (m t : ℕ) (p l c : Log ℕ) (v : Covers m p l) (ml : Matching g l) (mc : Matching g c) (low : t ≤ term_at l m)
    (all : (i : ℕ) → i < length c → t < term_at c i → Covers m p (g.cand (term_at c i))) where
  module _ (x y : ℕ) (ex : length l ≡ suc x) (ey : length c ≡ suc y) where
    -- both logs end in the same term
    same_last : term_at l x ≡ term_at c y → length l ≤ length c → Covers m p c
    same_last e b =
        let a : m < length l = v.long in
        let el = ml x (omega arith) in
        let ec = mc y (omega arith) in
        covers_on m p l c v (omega arith)
        (λ k h. ec.same k (omega arith) ∙ ap (λ (u : ℕ). entry_at (g.lead u) k) (sym e) ∙ sym (el.same k (omega arith)))

    -- c ends in a later one, whose leader had it
    later_last : Covers m p (g.cand (term_at c y)) → Covers m p c
    later_last w =
        let ec = mc y (omega arith) in
        let e : g.elected (term_at c y) ≡ true = ec.led in
        let d = inv.leads (term_at c y) e in
        let own : term_at c y ≡ term_at (g.lead (term_at c y)) y = term_same _ _ (ec.same y (omega arith)) in
        let reach : renew_index (g.cand (term_at c y)) ≤ y =
        elim (cases_lt y (renew_index (g.cand (term_at c y)))) [
          | inl h ↦
              let s : term_at (g.lead (term_at c y)) y ≡ term_at (g.cand (term_at c y)) y = term_same _ _ (d.front y h) in
              let b : term_at (g.cand (term_at c y)) y < term_at c y =
              inv.cand_below (term_at c y) y (inv.stood_first (term_at c y) e) (omega (arith, (renew_index_is (g.cand (term_at c y))).low)) in
              absurd (omega (arith, own, s, b))
          | inr h ↦ h
        ] in
        covers_on m p (g.lead (term_at c y)) c (covers_lead g inv (term_at c y) m p e w) (omega (arith, w.long, (renew_index_is (g.cand (term_at c y))).high))
        (λ k h. ec.same k (omega (arith, w.long, (renew_index_is (g.cand (term_at c y))).high)))

    both_some : UpToDate c l → Covers m p c
    unfolding UpToDate
    both_some far =
        let lx : last_term l ≡ term_at l x = last_some l x ex in
        let ly : last_term c ≡ term_at c y = last_some c y ey in
        let up : term_at l m ≤ term_at l x = terms_rise g inv l ml m x (omega (arith, v.long)) (omega arith) in
        elim far [
          | inl h ↦ later_last (all y (omega arith) (omega arith))
          | inr h ↦ same_last (sym lx ∙ h.0 ∙ ly) h.1
        ]

  far_covers : UpToDate c l → Covers m p c
  unfolding UpToDate
  far_covers far =
      elim (none_or_some l) [
        | inl z ↦ absurd (omega (arith, v.long))
        | inr x ↦
            elim (none_or_some c) [
              | inl z ↦
                  let lz : last_term c ≡ 0 = last_none c z in
                  absurd (elim far [ inl h ↦ omega arith | inr h ↦ omega (arith, h.1, v.long) ])
              | inr y ↦ both_some x.0 y.0 x.1 y.1 far
            ]
      ]

module _ (n : ℕ) (g : History) (j : ℕ) (s : State) (inv : Inv g) (ok : VoteOk g s.term s.log) where
  voted_up : (u i : ℕ) → g.voted u i ≡ true → upd2 g.voted s.term j true u i ≡ true
  voted_up u i e = elim (upd2_cases g.voted s.term j true u i) [ inl h ↦ h.2 | inr h ↦ h.1 ∙ e ]

  pub vote_grows : Grows g (after_vote g j s.term)
  vote_grows =
      record { stood_on = λ u e. e; same_cand = λ u e. refl; led = λ u e. e; longer = λ u e. omega arith; front = λ u i e b. refl; voted_on = voted_up; more_acks = λ u i. omega arith }

  led_other : (u : ℕ) → g.elected u ≡ true → u ≡ s.term → ⊥
  led_other u e k = both_ways (g.elected s.term) ok.open_yet (subst (λ (x : ℕ). g.elected x ≡ true) k e)

  module _ (d : Sound n g j s) where
    -- the one it votes for has what it acknowledged
    vote_new : (u m : ℕ) → u < s.term → m < g.acked u j → term_at (g.lead u) m ≡ u → AllCover g (g.lead u) m u s.term → Covers m (g.lead u) (g.cand s.term)
    vote_new u m c a o all =
        let has : Covers m (g.lead u) s.log = (d.acks u m a).later c o (λ x lo hi k. all x lo (let ne = led_other x k in omega (arith, ne)) k) in
        far_covers g inv m u (g.lead u) s.log (g.cand s.term) has d.matching (inv.match_cand s.term ok.stands) (omega (arith, has.term_up))
        (λ i b lo. all (term_at (g.cand s.term) i) lo (inv.cand_below s.term i ok.stands b) (inv.match_cand s.term ok.stands i b).led) ok.up_to_date

    pub vote_inv : Inv (after_vote g j s.term)
    vote_inv =
        let h = after_vote g j s.term in
        record {
          match_lead = λ u e. matching_grows g h vote_grows (g.lead u) (inv.match_lead u e);
          match_cand = λ u e. matching_grows g h vote_grows (g.cand u) (inv.match_cand u e);
          cand_below = inv.cand_below;
          stood_first = inv.stood_first;
          leads = inv.leads;
          vote_stood = λ u i e. elim (upd2_cases g.voted s.term j true u i) [
            | inl k ↦ subst (λ (x : ℕ). g.stood x ≡ true) (sym k.0) ok.stands
            | inr k ↦ inv.vote_stood u i (sym k.1 ∙ e)
          ];
          ack_led = inv.ack_led;
          ack_long = inv.ack_long;
          vote_cover = λ v i u m y c a o all.
              elim (upd2_cases g.voted s.term j true v i) [
                | inl k ↦
                    let a' : m < g.acked u j = subst (λ (x : ℕ). m < g.acked u x) k.1 a in
                    subst (λ (x : ℕ). Covers m (g.lead u) (g.cand x)) (sym k.0)
                    (vote_new u m (omega (arith, k.0)) a' o (λ x lo hi q. all x lo (omega (arith, k.0)) q))
                | inr k ↦ inv.vote_cover v i u m (sym k.1 ∙ y) c a o all
              ];
        }

  -- states in which the term is reached bear it, and those of other machines
  pub vote_bears : (r : State) → s.term ≤ r.term → Sound n g j r → Sound n (after_vote g j s.term) j r
  vote_bears r b d =
      sound_grows g (after_vote g j s.term) inv vote_grows n j r (λ u o e. inl e)
      (λ u e. elim (upd2_cases g.voted s.term j true u j) [ inl k ↦ inr (omega (arith, k.0)) | inr k ↦ inl (sym k.1 ∙ e) ]) (λ u m a. inl a) d

  pub vote_other : (i : ℕ) → (i ≡ j → ⊥) → (r : State) → Sound n g i r → Sound n (after_vote g j s.term) i r
  vote_other i ne r d = sound_other g (after_vote g j s.term) inv vote_grows n i r (λ u o e. e) (λ u. upd2_who g.voted s.term j true u i ne) (λ u. refl) d
