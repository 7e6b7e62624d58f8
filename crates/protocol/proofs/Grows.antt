-- What lasts when a history grows. Assumes nothing.
use Rattle.std.proofs.Common.{◌≡◌, ℕ, suc, ◌<◌, ◌≤◌, true, ltb, List, length, take, sym, refl, ap, ◌∙◌, subst, inl, inr, arith}
use Rattle.std.proofs.lemmas.List.{take-take}
use Rattle.std.proofs.lemmas.Bool.{ltb-true, lt-ltb}
use Rattle.protocol.specs.Log.{Log, entry_at, term_at, Covers, decisions}
use Rattle.protocol.specs.History.{History, Grows, Committed, Front, Decided}
use Rattle.protocol.specs.Invariant.{Match, Matching, AllCover, Inv}
use Rattle.protocol.proofs.Logs.{term_same, take_same, covers_of}
use Rattle.protocol.proofs.Quorums.{majority_mono}

pub grows_refl : (g : History) → Grows g g
grows_refl g =
    record { stood_on = λ t e. e; same_cand = λ t e. refl; led = λ t e. e; longer = λ t e. omega arith; front = λ t i e b. refl; voted_on = λ t j e. e; more_acks = λ t j. omega arith }

pub grows_trans : (g h k : History) → Grows g h → Grows h k → Grows g k
grows_trans g h k a b =
    record {
      stood_on = λ t e. b.stood_on t (a.stood_on t e);
      same_cand = λ t e. b.same_cand t (a.stood_on t e) ∙ a.same_cand t e;
      led = λ t e. b.led t (a.led t e);
      longer = λ t e. omega (arith, a.longer t e, b.longer t (a.led t e));
      front = λ t i e c. b.front t i (a.led t e) (omega (arith, a.longer t e)) ∙ a.front t i e c;
      voted_on = λ t j e. b.voted_on t j (a.voted_on t j e);
      more_acks = λ t j. omega (arith, a.more_acks t j, b.more_acks t j);
    }

module _ (g h : History) (gr : Grows g h) where
  match_grows : (l : Log ℕ) (i : ℕ) → Match g l i → Match h l i
  match_grows l i p =
      record {
        led = gr.led (term_at l i) p.led;
        within = omega (arith, p.within, gr.longer (term_at l i) p.led);
        same = λ k b. p.same k b ∙ sym (gr.front (term_at l i) k p.led (omega (arith, p.within)));
      }

  pub matching_grows : (l : Log ℕ) → Matching g l → Matching h l
  matching_grows l good i b = match_grows l i (good i b)

  pub front_upto : (t m : ℕ) → g.elected t ≡ true → m < length (g.lead t) → (k : ℕ) → k ≤ m → entry_at (h.lead t) k ≡ entry_at (g.lead t) k
  front_upto t m e b k c = gr.front t k e (omega arith)

  pub old_term : (t m : ℕ) → g.elected t ≡ true → m < length (g.lead t) → term_at (h.lead t) m ≡ t → term_at (g.lead t) m ≡ t
  old_term t m e b o = sym (term_same _ _ (gr.front t m e b)) ∙ o

  -- all who led had it in the later history, so they had it in the earlier one
  pub all_cover_back : Inv g → (t m hi : ℕ) → g.elected t ≡ true → m < length (g.lead t) → AllCover h (h.lead t) m t hi → AllCover g (g.lead t) m t hi
  all_cover_back inv t m hi e b all u lo up k =
      let c = all u lo up (gr.led u k) in
      let d = subst (λ (x : Log ℕ). Covers m (h.lead t) x) (gr.same_cand u (inv.stood_first u k)) c in
      covers_of m (h.lead t) (g.lead t) (g.cand u) (λ i a. sym (front_upto t m e b i a)) d

  pub vote_cover_grows : Inv g → (v j t m : ℕ) → g.voted v j ≡ true → t < v → m < g.acked t j → term_at (h.lead t) m ≡ t → AllCover h (h.lead t) m t v →
      Covers m (h.lead t) (g.cand v)
  vote_cover_grows inv v j t m y c a o all =
      let e = inv.ack_led t j m a in
      let l = inv.ack_long t j m a in
      covers_of m (g.lead t) (h.lead t) (g.cand v) (front_upto t m e l)
      (inv.vote_cover v j t m y c a (old_term t m e l o) (all_cover_back inv t m v e l all))

  pub committed_grows : (n t m : ℕ) → Committed n g t m → Committed n h t m
  committed_grows n t m c =
      record {
        led = gr.led t c.led;
        within = omega (arith, c.within, gr.longer t c.led);
        own_term = term_same _ _ (gr.front t m c.led c.within) ∙ c.own_term;
        most = majority_mono n (λ j. ltb m (g.acked t j)) (λ j. ltb m (h.acked t j))
            (λ j e. lt-ltb m (h.acked t j) (omega (arith, ltb-true m (g.acked t j) e, gr.more_acks t j))) c.most;
      }

  pub committed_same : (n t m : ℕ) → Committed n g t m → take (suc m) (h.lead t) ≡ take (suc m) (g.lead t)
  committed_same n t m c =
      take_same (suc m) (h.lead t) (g.lead t) (omega (arith, c.within, gr.longer t c.led)) c.within (λ i k. gr.front t i c.led (omega (arith, c.within)))

  front_grows : (n : ℕ) (xs : List ℕ) → Front n g xs → Front n h xs
  front_grows n xs f =
      record {
        term = f.term;
        at = f.at;
        upto = f.upto;
        done = committed_grows n f.term f.at f.done;
        reach = f.reach;
        is =
            let same : take f.upto (h.lead f.term) ≡ take f.upto (g.lead f.term) =
            sym (take-take f.upto (suc f.at) (h.lead f.term) f.reach) ∙ ap (take f.upto) (committed_same n f.term f.at f.done)
            ∙ take-take f.upto (suc f.at) (g.lead f.term) f.reach in
            f.is ∙ ap decisions (sym same);
      }

  pub decided_grows : (n : ℕ) (xs : List ℕ) → Decided n g xs → Decided n h xs
  decided_grows n xs (inl e) = inl e
  decided_grows n xs (inr f) = inr (front_grows n xs f)
