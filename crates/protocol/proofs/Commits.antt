-- What a machine may hold for committed, and that it stays so. Assumes nothing.
use Rattle.std.proofs.Common.{◌≡◌, ℕ, suc, ◌<◌, ◌≤◌, true, length, take, sym, refl, ap, ◌∙◌, subst, inl, inr, arith}
use Rattle.std.proofs.lemmas.Bool.{cases_lt}
use Rattle.protocol.specs.Log.{Log, entry_at, content_at, Covers, decisions}
use Rattle.protocol.specs.History.{History, Grows, Decided}
use Rattle.protocol.specs.Invariant.{Inv, Elections}
use Rattle.protocol.specs.State.{HoldsFirst}
use Rattle.protocol.specs.Letters.{Commits, TrueCommit, Backed, Known}
use Rattle.protocol.proofs.Logs.{content_same, covers_self, covers_content}
use Rattle.protocol.proofs.Matches.{covers_lead}
use Rattle.protocol.proofs.Grows.{committed_grows}
use Rattle.protocol.proofs.Decisions.{decisions_same, decisions_none}
use Rattle.protocol.proofs.Complete.{complete}

-- growth of the history keeps it, and so does a later term
module _ (n : ℕ) (g h : History) (gr : Grows g h) where
  commits_grows : (t u k : ℕ) → t ≤ u → Commits n g t k → Commits n h u k
  commits_grows t u k b s =
      record { term = s.term; at = s.at; before = omega (arith, s.before); done = committed_grows g h gr n s.term s.at s.done; reach = s.reach }

  pub true_commit_grows : (t u k : ℕ) → t ≤ u → TrueCommit n g t k → TrueCommit n h u k
  true_commit_grows t u k b (inl e) = inl e
  true_commit_grows t u k b (inr s) = inr (commits_grows t u k b s)

  lead_same : (t k : ℕ) (s : Commits n g t k) (i : ℕ) → i < suc s.at → entry_at (h.lead s.term) i ≡ entry_at (g.lead s.term) i
  lead_same t k s i b = gr.front s.term i s.done.led (omega (arith, s.done.within))

  backed_grows : (t u k : ℕ) (l : Log ℕ) → t ≤ u → Backed n g t k l → Backed n h u k l
  unfolding commits_grows
  backed_grows t u k l b d =
      record {
        why = commits_grows t u k b d.why;
        front = λ i c e. d.front i c e ∙ sym (lead_same t k d.why i (omega arith));
        contents = λ i c. d.contents i c ∙ sym (content_same _ _ (lead_same t k d.why i (omega (arith, d.why.reach))));
      }

  pub known_grows : (t u k : ℕ) (l : Log ℕ) → t ≤ u → Known n g t k l → Known n h u k l
  known_grows t u k l b d = record { long = d.long; right = elim d.right [ inl e ↦ inl e | inr s ↦ inr (backed_grows t u k l b s) ] }

pub known_commit : (n : ℕ) (g : History) (t k : ℕ) (l : Log ℕ) → Known n g t k l → TrueCommit n g t k
known_commit n g t k l d = elim d.right [ inl e ↦ inl e | inr s ↦ inr s.why ]

-- fewer of them, and another log with the same first entries
pub known_less : (n : ℕ) (g : History) (t k i : ℕ) (l : Log ℕ) → i ≤ k → Known n g t k l → Known n g t i l
known_less n g t k i l b d =
    record {
      long = omega (arith, d.long);
      right = elim d.right [
        | inl e ↦ inl (omega arith)
        | inr s ↦ inr (record {
          why = record { term = s.why.term; at = s.why.at; before = s.why.before; done = s.why.done; reach = omega (arith, s.why.reach) };
          front = λ x c e. s.front x (omega arith) e;
          contents = λ x c. s.contents x (omega arith);
        })
      ];
    }

pub known_on : (n : ℕ) (g : History) (t k : ℕ) (l p : Log ℕ) → k ≤ length p → ((i : ℕ) → i < k → entry_at p i ≡ entry_at l i) → Known n g t k l → Known n g t k p
known_on n g t k l p b s d =
    record {
      long = b;
      right = elim d.right [
        | inl e ↦ inl e
        | inr r ↦ inr (record { why = r.why; front = λ i c e. s i c ∙ r.front i c e; contents = λ i c. content_same _ _ (s i c) ∙ r.contents i c })
      ];
    }

-- what is known are first decisions of the order
pub known_decided : (n : ℕ) (g : History) (t k : ℕ) (l : Log ℕ) → Known n g t k l → Decided n g (decisions (take k l))
known_decided n g t k l d =
    elim d.right [
      | inl e ↦ inl (ap (λ (x : ℕ). decisions (take x l)) e ∙ decisions_none)
      | inr r ↦ inr (record {
        term = r.why.term;
        at = r.why.at;
        upto = k;
        done = r.why.done;
        reach = r.why.reach;
        is = sym (decisions_same k (g.lead r.why.term) l (omega (arith, r.why.reach, r.why.done.within)) d.long r.contents);
      })
    ]

module _ (n : ℕ) (g : History) (inv : Inv g) (el : Elections n g) where
  -- what is committed in a term or before it, its leader has
  pub lead_covers : (t k : ℕ) → g.elected t ≡ true → (s : Commits n g t k) → Covers s.at (g.lead s.term) (g.lead t)
  lead_covers t k led s =
      elim (cases_lt s.term t) [
        | inl b ↦ covers_lead g inv t s.at (g.lead s.term) led (complete n g inv el s.term s.at s.done t b led)
        | inr b ↦
            let e : s.term ≡ t = omega (arith, s.before) in
            subst (λ (x : ℕ). Covers s.at (g.lead s.term) (g.lead x)) e (covers_self s.at (g.lead s.term) (g.lead s.term) s.done.within (λ i c. refl))
      ]

  pub known_lead : (t k : ℕ) → g.elected t ≡ true → TrueCommit n g t k → Known n g t k (g.lead t)
  known_lead t k led (inl e) = record { long = omega arith; right = inl e }
  known_lead t k led (inr s) =
      let v = lead_covers t k led s in
      record {
        long = omega (arith, v.long, s.reach);
        right = inr (record { why = s; front = λ i b c. v.front i c; contents = λ i b. covers_content s.at (g.lead s.term) (g.lead t) v i (omega (arith, s.reach)) });
      }

  -- learn: the leader says committed up to k, and l holds the leader's first i
  pub learn : (t k i : ℕ) (l : Log ℕ) → i ≤ k → TrueCommit n g t k → HoldsFirst g t i l → Known n g t i l
  learn t k i l b c h = known_on n g t i (g.lead t) l h.long h.same (known_less n g t k i (g.lead t) b (known_lead t k h.led c))

  -- two that are known have the same contents, where both are
  backed_one : (t k : ℕ) (l : Log ℕ) (u i : ℕ) (p : Log ℕ) (r : Backed n g t k l) (s : Backed n g u i p) → r.why.term ≤ s.why.term →
      (x : ℕ) → x < k → x < i → content_at l x ≡ content_at p x
  backed_one t k l u i p r s b x h h' =
      let y : Commits n g s.why.term k = record { term = r.why.term; at = r.why.at; before = b; done = r.why.done; reach = r.why.reach } in
      let v : Covers r.why.at (g.lead r.why.term) (g.lead s.why.term) = lead_covers s.why.term k s.why.done.led y in
      r.contents x h ∙ sym (covers_content r.why.at (g.lead r.why.term) (g.lead s.why.term) v x (omega (arith, r.why.reach))) ∙ sym (s.contents x h')

  pub known_same : (t k : ℕ) (l : Log ℕ) (u i : ℕ) (p : Log ℕ) → Known n g t k l → Known n g u i p → (x : ℕ) → x < k → x < i → content_at l x ≡ content_at p x
  known_same t k l u i p d e x h h' =
      elim d.right [
        | inl z ↦ absurd (omega arith)
        | inr r ↦ elim e.right [
          | inl z ↦ absurd (omega arith)
          | inr s ↦ elim (cases_lt s.why.term r.why.term) [
            | inl b ↦ sym (backed_one u i p t k l s r (omega arith) x h' h)
            | inr b ↦ backed_one t k l u i p r s b x h h'
          ]
        ]
      ]
