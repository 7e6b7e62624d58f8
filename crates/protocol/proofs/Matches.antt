-- Logs that match the leaders', and leaders' logs. Assumes nothing.
use Rattle.std.proofs.Common.{◌≡◌, ℕ, zero, suc, ◌<◌, ◌≤◌, true, [], ◌∷◌, ◌++◌, length, sym, ap, ◌∙◌, subst, inl, inr, arith}
use mathlib.Core.Option.{Option, none}
use Rattle.std.proofs.lemmas.Bool.{cases_lt}
use Rattle.protocol.specs.Log.{entry, Log, entry_at, term_at, content_at, term_before, renew_index, renew, Covers}
use Rattle.protocol.specs.History.{History}
use Rattle.protocol.specs.Invariant.{Match, Matching, Leads, Inv}
use Rattle.protocol.proofs.Logs.{term_same, content_same, push_length, push_front, push_last, renew_index_is, renew_length, renew_front, renew_last, covers_on}

-- two logs with the same term at place i are the same up to i
pub match_agree : (g : History) (l k : Log ℕ) (i : ℕ) → Match g l i → Match g k i → term_at l i ≡ term_at k i → (x : ℕ) → x ≤ i → entry_at l x ≡ entry_at k x
match_agree g l k i p q e x h = p.same x h ∙ ap (λ (u : ℕ). entry_at (g.lead u) x) e ∙ sym (q.same x h)

pub front_agree : (g : History) (l b : Log ℕ) (p : ℕ) → Matching g l → Matching g b → p ≤ length l → p ≤ length b → term_before l p ≡ term_before b p →
    (k : ℕ) → k < p → entry_at l k ≡ entry_at b k
front_agree g l b zero gl gb hl hb e k h = absurd (omega arith)
front_agree g l b (suc d) gl gb hl hb e k h = match_agree g l b d (gl d (omega arith)) (gb d (omega arith)) e k (omega arith)

-- another log that is the same up to i
pub match_on : (g : History) (l k : Log ℕ) (i : ℕ) → ((x : ℕ) → x ≤ i → entry_at k x ≡ entry_at l x) → Match g l i → Match g k i
match_on g l k i s p =
    let e : term_at l i ≡ term_at k i = sym (term_same _ _ (s i (omega arith))) in
    record {
      led = subst (λ (u : ℕ). g.elected u ≡ true) e p.led;
      within = subst (λ (u : ℕ). i < length (g.lead u)) e p.within;
      same = λ x h. s x h ∙ p.same x h ∙ ap (λ (u : ℕ). entry_at (g.lead u) x) e;
    }

-- a leader's log, where it has an entry of its own term
pub match_self : (g : History) (l : Log ℕ) (i t : ℕ) → term_at l i ≡ t → g.elected t ≡ true → g.lead t ≡ l → i < length l → Match g l i
match_self g l i t e h is b =
    let q : g.lead (term_at l i) ≡ l = ap g.lead e ∙ is in
    record {
      led = subst (λ (u : ℕ). g.elected u ≡ true) (sym e) h;
      within = subst (λ (x : Log ℕ). i < length x) (sym q) b;
      same = λ k c. ap (λ (x : Log ℕ). entry_at x k) (sym q);
    }

-- a leader begins with its empty entry, and adds at the end
pub renew_leads : (t : ℕ) (c : Log ℕ) → Leads t c (renew t c)
renew_leads t c =
    record {
      reach = omega (arith, renew_length t c);
      front = renew_front t c;
      own = λ i h b.
          let e : i ≡ renew_index c = omega (arith, renew_length t c) in
          subst (λ (x : ℕ). term_at (renew t c) x ≡ t) (sym e) (term_same _ _ (renew_last t c));
      empty = content_same _ _ (renew_last t c);
    }

pub push_leads : (t : ℕ) (o : Option ℕ) (c l : Log ℕ) → Leads t c l → Leads t c (l ++ entry t o ∷ [])
push_leads t o c l d =
    let e = push_length l (entry t o) in
    let r : renew_index c < length l = d.reach in
    record {
      reach = omega arith;
      front = λ i h. push_front l (entry t o) i (omega arith) ∙ d.front i h;
      own = λ i h b. elim (cases_lt i (length l)) [
        | inl k ↦ term_same _ _ (push_front l (entry t o) i k) ∙ d.own i h k
        | inr k ↦ term_same _ _ (push_last l (entry t o) i (omega arith))
      ];
      empty = content_same _ _ (push_front l (entry t o) (renew_index c) r) ∙ d.empty;
    }

-- a leader's log covers what its log covered when it stood: only its empty entry may stand over one
pub leads_covers : (t m : ℕ) (p c l : Log ℕ) → Leads t c l → ((i : ℕ) → i < length c → term_at c i < t) → Covers m p c → Covers m p l
leads_covers t m p c l d b v =
    let bi = renew_index_is c in
    elim (cases_lt m (renew_index c)) [
      | inl h ↦ covers_on m p c l v (omega (arith, d.reach)) (λ i k. d.front i (omega arith))
      | inr h ↦
          let is : m ≡ renew_index c = omega (arith, bi.high, v.long) in
          let own : term_at l m ≡ t = d.own m h (omega (arith, d.reach)) in
          let at_c : content_at c m ≡ none = subst (λ (x : ℕ). content_at c x ≡ none) (sym is) (bi.empty (omega (arith, v.long))) in
          let at_l : content_at l m ≡ none = subst (λ (x : ℕ). content_at l x ≡ none) (sym is) d.empty in
          record {
            long = omega (arith, d.reach);
            front = λ i k. d.front i (omega arith) ∙ v.front i k;
            same_content = at_l ∙ sym at_c ∙ v.same_content;
            term_up = omega (arith, v.term_up, b m v.long);
          }
    ]

pub leads_below : (t : ℕ) (c l : Log ℕ) → Leads t c l → ((i : ℕ) → i < length c → term_at c i < t) → (i : ℕ) → i < length l → term_at l i ≤ t
leads_below t c l d b i h =
    elim (cases_lt i (renew_index c)) [
      | inl k ↦
          let s : term_at l i ≡ term_at c i = term_same _ _ (d.front i k) in
          omega (arith, s, b i (omega (arith, (renew_index_is c).low)))
      | inr k ↦ omega (arith, d.own i k h)
    ]

module _ (g : History) (inv : Inv g) where
  pub ack_within : (t j : ℕ) → g.acked t j ≤ length (g.lead t)
  ack_within t j =
      elim (cases_lt (length (g.lead t)) (g.acked t j)) [
        | inl h ↦ absurd (omega (arith, inv.ack_long t j (length (g.lead t)) h))
        | inr h ↦ h
      ]

  cand_low : (t : ℕ) → g.elected t ≡ true → (i : ℕ) → i < length (g.cand t) → term_at (g.cand t) i < t
  cand_low t e i h = inv.cand_below t i (inv.stood_first t e) h

  pub lead_below : (t i : ℕ) → g.elected t ≡ true → i < length (g.lead t) → term_at (g.lead t) i ≤ t
  lead_below t i e h = leads_below t (g.cand t) (g.lead t) (inv.leads t e) (cand_low t e) i h

  pub terms_rise : (l : Log ℕ) → Matching g l → (i k : ℕ) → i ≤ k → k < length l → term_at l i ≤ term_at l k
  terms_rise l good i k h b =
      let p = good k b in
      let s : term_at l i ≡ term_at (g.lead (term_at l k)) i = term_same _ _ (p.same i h) in
      let r : term_at (g.lead (term_at l k)) i ≤ term_at l k = lead_below (term_at l k) i p.led (omega (arith, p.within)) in
      omega (arith, s, r)

  pub covers_lead : (t m : ℕ) (p : Log ℕ) → g.elected t ≡ true → Covers m p (g.cand t) → Covers m p (g.lead t)
  covers_lead t m p e v = leads_covers t m p (g.cand t) (g.lead t) (inv.leads t e) (cand_low t e) v
