-- Letters stay true as the history grows, and what one does on the word of a true letter is permitted. Assumes nothing.
use Rattle.std.proofs.Common.{◌≡◌, ℕ, ◌+◌, ◌<◌, ◌≤◌, min, max, Bool, true, false, ◌⊎◌, length, sym, ap, ◌∙◌, subst, inl, inr, arith}
use Rattle.std.proofs.lemmas.Bool.{cases_lt, both_ways}
use Rattle.protocol.specs.Log.{Log, term_before, last_term, UpToDate, merge}
use Rattle.protocol.specs.History.{History, Grows, after_vote, after_ack}
use Rattle.protocol.specs.Invariant.{Inv, Elections}
use Rattle.protocol.specs.State.{State, Sound, HoldsFirst, PartOf, VoteOk, AcceptOk}
use Rattle.protocol.specs.Letters.{Known, TrueAppend, TrueRequest, TrueVote, TrueAck}
use Rattle.protocol.proofs.Updates.{upd2_same}
use Rattle.protocol.proofs.Logs.{before_same}
use Rattle.protocol.proofs.Merges.{merge_kept}
use Rattle.protocol.proofs.States.{accept_holds}
use Rattle.protocol.proofs.Commits.{true_commit_grows, known_commit, lead_covers, learn}

-- growth keeps them true
module _ (g h : History) (gr : Grows g h) where
  part_grows : (t p : ℕ) (es : Log ℕ) → PartOf g t p es → PartOf h t p es
  part_grows t p es d =
      record {
        led = gr.led t d.led;
        within = omega (arith, d.within, gr.longer t d.led);
        same = λ i b. d.same i b ∙ sym (gr.front t (p + i) d.led (omega (arith, d.within)));
      }

  pub true_append_grows : (n t p q k : ℕ) (es : Log ℕ) → TrueAppend n g t p q k es → TrueAppend n h t p q k es
  true_append_grows n t p q k es d =
      record {
        part = part_grows t p es d.part;
        prev = d.prev ∙ before_same (g.lead t) (h.lead t) p (λ i b. sym (gr.front t i d.part.led (omega (arith, d.part.within))));
        commit = true_commit_grows n g h gr t t k (omega arith) d.commit;
      }

  pub true_request_grows : (t len last : ℕ) → TrueRequest g t len last → TrueRequest h t len last
  true_request_grows t len last d =
      let e = gr.same_cand t d.stands in
      record { stands = gr.stood_on t d.stands; long = d.long ∙ ap length (sym e); ends = d.ends ∙ ap last_term (sym e) }

  pub true_vote_grows : (f t : ℕ) (b : Bool) → TrueVote g f t b → TrueVote h f t b
  true_vote_grows f t true (inl e) = inl (gr.voted_on t f e)
  true_vote_grows f t true (inr e) = inr (gr.led t e)
  true_vote_grows f t false e = tt

  pub true_ack_grows : (f t k : ℕ) → TrueAck g f t k → TrueAck h f t k
  true_ack_grows f t k d = omega (arith, gr.more_acks t f)

-- a vote on the word of a request, and what it then says
pub request_vote_ok : (g : History) (t : ℕ) (l : Log ℕ) (len last : ℕ) → TrueRequest g t len last → g.elected t ≡ false →
    (last_term l < last) ⊎ ((last_term l ≡ last) × (length l ≤ len)) → VoteOk g t l
unfolding UpToDate
request_vote_ok g t l len last d open_yet far =
    record {
      stands = d.stands;
      open_yet = open_yet;
      up_to_date = elim far [ inl h ↦ inl (omega (arith, d.ends)) | inr h ↦ inr (h.0 ∙ d.ends, omega (arith, h.1, d.long)) ];
    }

pub vote_says : (g : History) (j t : ℕ) → TrueVote (after_vote g j t) j t true
vote_says g j t = inl (upd2_same g.voted t j true)

-- a vote that came before the election is one of the history
pub vote_counts : (g : History) (f t : ℕ) → g.elected t ≡ false → TrueVote g f t true → g.voted t f ≡ true
vote_counts g f t open_yet (inl e) = e
vote_counts g f t open_yet (inr e) = absurd (both_ways (g.elected t) open_yet e)

-- entries on the word of an append, and what is then acknowledged
pub append_accept_ok : (n : ℕ) (g : History) (t : ℕ) (l : Log ℕ) (p q k : ℕ) (es : Log ℕ) → TrueAppend n g t p q k es → p ≤ length l → term_before l p ≡ q → AcceptOk g t l p es
append_accept_ok n g t l p q k es d low prev = record { part = d.part; no_gap = low; prev = prev ∙ d.prev }

pub ack_says : (g : History) (j t k : ℕ) → TrueAck (after_ack g j t k) j t k
ack_says g j t k = omega (arith, upd2_same g.acked t j (max (g.acked t j) k))

-- what is known of the log before the append, and of what it says is committed
module _ (n : ℕ) (g : History) (inv : Inv g) (el : Elections n g) (j : ℕ) (s : State) (d : Sound n g j s) (p q k : ℕ) (es : Log ℕ) (a : TrueAppend n g s.term p q k es)
    (ok : AcceptOk g s.term s.log p es) where
  holds : HoldsFirst g s.term (p + length es) (merge s.log p es)
  holds = accept_holds n g j s d inv p es ok

  upto : (i : ℕ) → i ≤ p + length es → HoldsFirst g s.term i (merge s.log p es)
  upto i b =
      record { led = holds.led; within = omega (arith, holds.within); long = omega (arith, holds.long); same = λ x c. holds.same x (omega arith) }

  -- what was known committed is not cut off
  pub append_keeps_known : (i : ℕ) → Known n g s.term i s.log → Known n g s.term i (merge s.log p es)
  append_keeps_known i kn =
      elim (cases_lt (p + length es) i) [
        | inl b ↦
            elim kn.right [
              | inl z ↦ absurd (omega arith)
              | inr r ↦
                  let v = lead_covers n g inv el s.term i a.part.led r.why in
                  subst (λ (x : Log ℕ). Known n g s.term i x)
                  (sym (merge_kept g s.log (g.lead s.term) es p d.matching (inv.match_lead s.term a.part.led) ok.no_gap a.part.within ok.prev a.part.same
                  (omega (arith, kn.long)) (λ x c. r.front x (omega arith) (omega (arith, r.why.reach)) ∙ sym (v.front x (omega (arith, r.why.reach)))))) kn
            ]
        | inr b ↦ learn n g inv el s.term i i (merge s.log p es) (omega arith) (known_commit n g s.term i s.log kn) (upto i b)
      ]

  pub append_commit_known : (i : ℕ) → Known n g s.term i s.log → Known n g s.term (max i (min k (p + length es))) (merge s.log p es)
  append_commit_known i kn =
      elim (cases_lt i (min k (p + length es))) [
        | inl b ↦
            let e : min k (p + length es) ≡ max i (min k (p + length es)) = omega arith in
            subst (λ (x : ℕ). Known n g s.term x (merge s.log p es)) e
            (learn n g inv el s.term k (min k (p + length es)) (merge s.log p es) (omega arith) a.commit (upto (min k (p + length es)) (omega arith)))
        | inr b ↦
            let e : i ≡ max i (min k (p + length es)) = omega arith in
            subst (λ (x : ℕ). Known n g s.term x (merge s.log p es)) e (append_keeps_known i kn)
      ]
