-- The letters that are due, one machine after the other; and which words they are made of.
use Rattle.std.proofs.Common.{◌≡◌, ℕ, zero, suc, ◌+◌, ◌-◌, ◌<◌, ◌≤◌, true, false, List, [], ◌∷◌, ◌++◌, get_or, Some, None, Option, sym, refl, ap, ◌∙◌, add-one, arith}
use Rattle.raft_log.specs.Layout.{at_most}
use Rattle.raft_log.specs.Entries.{last_index, commit_index, term_at}
use Rattle.raft_log.specs.Block.{log_entries}
use Rattle.raft_log.proofs.LogLaws.{SameEntries}
use Rattle.raft_log.proofs.LogChanges.{log_entries_same}
use Rattle.messages.specs.Letter.{Letter, append, append_response, append_reject, request_vote, request_vote_response, term_notice}
use Rattle.raft.specs.declared.say.Due.{Due}
use Rattle.raft.specs.declared.say.Due.TheVariants.{Append, RequestVote, TellTerm, Grant, Deny, Accept, Reject}
use Rattle.raft.specs.Header.{loaded}
use Rattle.raft.specs.Say.{due_of}
use Rattle.raft.specs.Outbox.{Mail, mail, mail_at, mail_from, mail_due, letter_made, due_to, prev_of, count_of}

pub mail_some : (m : List ℕ) (j n : ℕ) (d : Due) → due_to m j ≡ Some d → mail_from m j (suc n) ≡ mail j (letter_made m (loaded m) j d) ∷ mail_from m (suc j) n
unfolding mail_from
mail_some m j n d e = ap (λ (o : Option Due). mail_at m (loaded m) j o ++ mail_from m (suc j) n) e

pub mail_none : (m : List ℕ) (j n : ℕ) → due_to m j ≡ None → mail_from m j (suc n) ≡ mail_from m (suc j) n
unfolding mail_from
mail_none m j n e = ap (λ (o : Option Due). mail_at m (loaded m) j o ++ mail_from m (suc j) n) e

-- those to the first j machines are none, so all are to those from j on
abbrev pub Passed : List ℕ → ℕ → Type 0
Passed m j = mail_due m ≡ mail_from m j (7 - j)

width : (j : ℕ) → j < 7 → 7 - j ≡ suc (7 - (j + 1))
width j l = omega arith

pub passed_one : (m : List ℕ) (j : ℕ) → j < 7 → Passed m j → due_to m j ≡ None → Passed m (j + 1)
passed_one m j l p e =
    p ∙ (ap (mail_from m j) (width j l) ∙ (mail_none m j (7 - (j + 1)) e ∙ ap (λ (k : ℕ). mail_from m k (7 - (j + 1))) (sym (add-one j))))

pub passed_first : (m : List ℕ) (j : ℕ) (d : Due) → j < 7 → Passed m j → due_to m j ≡ Some d → mail_due m ≡ mail j (letter_made m (loaded m) j d) ∷ mail_from m (suc j) (7 - (j + 1))
passed_first m j d l p e = p ∙ (ap (mail_from m j) (width j l) ∙ mail_some m j (7 - (j + 1)) d e)

pub passed_all : (m : List ℕ) (j : ℕ) → 7 ≤ j → Passed m j → mail_due m ≡ []
unfolding mail_from
passed_all m j l p = let e : 7 - j ≡ 0 = omega arith in p ∙ ap (mail_from m j) e

-- MEMORIES WITH THE SAME LETTERS: the log, what is decided of it, the term, and the words 22 to 28, 36 and 37 are the same
module _ (m m₁ : List ℕ) (entries : SameEntries m m₁) (commit : commit_index m₁ ≡ commit_index m) (term : (loaded m₁).term.0 ≡ (loaded m).term.0)
    (next : (i : ℕ) → 22 ≤ i → i < 29 → get_or m₁ i 0 ≡ get_or m i 0) (first : get_or m₁ 36 0 ≡ get_or m 36 0) (second : get_or m₁ 37 0 ≡ get_or m 37 0) where
  pub letter_alike : (d : Due) (j : ℕ) → j < 7 → letter_made m₁ (loaded m₁) j d ≡ letter_made m (loaded m) j d
  letter_alike Append j l =
      let w : get_or m₁ (22 + j) 0 ≡ get_or m (22 + j) 0 = next (22 + j) (omega arith) (omega arith) in
      let last = entries.last in
      let p : prev_of m₁ j ≡ prev_of m j = λ i. at_most (w i - 1) (last i) in
      let c : count_of m₁ j ≡ count_of m j = λ i. at_most (last i - p i) 15 in
      let q : term_at m₁ (prev_of m₁ j) ≡ term_at m (prev_of m j) = ap (term_at m₁) p ∙ entries.terms (prev_of m j) in
      let es : log_entries m₁ (prev_of m₁ j + 1) (count_of m₁ j) ≡ log_entries m (prev_of m j + 1) (count_of m j) =
      (λ i. log_entries m₁ (p i + 1) (c i)) ∙ log_entries_same m m₁ entries (prev_of m j + 1) (count_of m j) in
      λ i. append (term i) (p i) (q i) (commit i) (es i)
  letter_alike RequestVote j l =
      let last = entries.last in
      let q : term_at m₁ (last_index m₁) ≡ term_at m (last_index m) = ap (term_at m₁) last ∙ entries.terms (last_index m) in
      λ i. request_vote (term i) (last i) (q i)
  letter_alike TellTerm j l = ap term_notice term
  letter_alike Grant j l = λ i. request_vote_response (term i) true
  letter_alike Deny j l = λ i. request_vote_response (term i) false
  letter_alike Accept j l = λ i. append_response (term i) (first i)
  letter_alike Reject j l = λ i. append_reject (term i) (first i) (second i)

  mail_alike : (j : ℕ) (o : Option Due) → j < 7 → mail_at m₁ (loaded m₁) j o ≡ mail_at m (loaded m) j o
  mail_alike j (Some d) l = ap (λ (x : Letter). mail j x ∷ []) (letter_alike d j l)
  mail_alike j None l = refl

  -- those that are due are the same wherever the words that say which are due are
  pub mails_alike : (j n : ℕ) → j + n ≤ 7 → ((i : ℕ) → j ≤ i → i < j + n → get_or m₁ (29 + i) 0 ≡ get_or m (29 + i) 0) → mail_from m₁ j n ≡ mail_from m j n
  unfolding mail_from
  mails_alike j zero l words = refl
  mails_alike j (suc n) l words =
      let w = words j (omega arith) (omega arith) in
      let here = mail_alike j (due_to m j) (omega arith) in
      let rest = mails_alike (suc j) n (omega arith) (λ i a b. words i (omega arith) (omega arith)) in
      (λ i. mail_at m₁ (loaded m₁) j (due_of (w i)) ++ rest i) ∙ ap (λ (x : List Mail). x ++ mail_from m (suc j) n) here
