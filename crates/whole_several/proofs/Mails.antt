-- What the acts leave of a memory as it is, and the letters that are due in it.
use Rattle.std.proofs.Common.{◌≡◌, ℕ, zero, suc, ◌+◌, ◌-◌, ◌<◌, ◌≤◌, true, ◌≢◌, List, [], ◌∷◌, ◌++◌, length, get_or, set, Some, None, Option, sym, refl, ap, ◌∙◌, inl, inr, arith}
use Rattle.std.proofs.lemmas.List.{length-set, get_or-set_same, get_or-set_other}
use Rattle.std.proofs.lemmas.Bool.{cases_eq}
use Rattle.raft_log.specs.Layout.{memory_words}
use Rattle.raft_log.specs.Entries.{last_index, commit_index, decided, applied_number}
use Rattle.raft_log.specs.View.{log_of}
use Rattle.raft_log.proofs.ValueLaws.{at_most_le}
use Rattle.raft_log.proofs.BlockWrites.{length_log_entries}
use Rattle.raft_log.proofs.LogFits.{term_small, log_entries_fit}
use Rattle.raft_log.proofs.LogLaws.{last_most, commit_most, SameEntries, same_entries, same_commit, same_decided, same_applied}
use Rattle.raft_log.proofs.LogChanges.{same_log}
use Rattle.messages.specs.Letter.{LetterFits}
use Rattle.raft.specs.declared.header.Role.{Role}
use Rattle.raft.specs.declared.header.Machine.{Machine}
use Rattle.raft.specs.declared.say.Due.{Due}
use Rattle.raft.specs.declared.say.Due.TheVariants.{Append, RequestVote, TellTerm, Grant, Deny, Accept, Reject}
use Rattle.raft.specs.Header.{loaded}
use Rattle.raft.proofs.HeaderLaws.{loaded_alike}
use Rattle.raft.proofs.Mails.{mails_alike}
use Rattle.together.specs.Promise.{all_small}
use Rattle.together.proofs.Smalls.{small_word, small_words}
use Rattle.whole_several.proofs.Smalls.{loaded_small}
use Rattle.raft.specs.Say.{due_of}
use Rattle.raft.specs.Outbox.{due_to, prev_of, count_of, letter_made, Mail, mail, mail_at, mail_from, mail_due, flown_to}
use Rattle.together.proofs.Lists.{no_way, head_same, tail_same, not_same}

-- WHAT NO ACT CHANGES: who the machine is, its term and role, its rows, its log and what of it is decided
pub record Still (m m₁ : List ℕ) : Type 0 where
  pub long : length m₁ ≡ length m
  pub size : (loaded m₁).size ≡ (loaded m).size
  pub id : (loaded m₁).id ≡ (loaded m).id
  pub term : (loaded m₁).term ≡ (loaded m).term
  pub role : (loaded m₁).role ≡ (loaded m).role
  pub rows : (i : ℕ) → 8 ≤ i → i < 29 → get_or m₁ i 0 ≡ get_or m i 0
  pub behind : (i : ℕ) → 36 ≤ i → i ≢ 66 → get_or m₁ i 0 ≡ get_or m i 0

pub still : (m : List ℕ) → Still m m
still m = record { long = refl; size = refl; id = refl; term = refl; role = refl; rows = λ i a b. refl; behind = λ i a b. refl }

pub then_still : {a b c : List ℕ} → Still a b → Still b c → Still a c
then_still p q =
    record {
      long = q.long ∙ p.long;
      size = q.size ∙ p.size;
      id = q.id ∙ p.id;
      term = q.term ∙ p.term;
      role = q.role ∙ p.role;
      rows = λ i a b. q.rows i a b ∙ p.rows i a b;
      behind = λ i a b. q.behind i a b ∙ p.behind i a b;
    }

module _ (m m₁ : List ℕ) (s : Still m m₁) where
  pub still_entries : SameEntries m m₁
  still_entries = same_entries m m₁ (s.behind 64 (omega arith) (omega arith)) (λ i l. s.behind i (omega arith) (omega arith))

  pub still_commit : commit_index m₁ ≡ commit_index m
  still_commit = same_commit m m₁ still_entries (s.behind 65 (omega arith) (omega arith))

  pub still_log : log_of m₁ ≡ log_of m
  still_log = same_log m m₁ still_entries

  pub still_decided : decided m₁ ≡ decided m
  still_decided = same_decided m m₁ still_entries still_commit

  -- THE LETTERS ARE THE SAME wherever the words that say which are due are
  pub mail_same : (j n : ℕ) → j + n ≤ 7 → ((i : ℕ) → j ≤ i → i < j + n → get_or m₁ (29 + i) 0 ≡ get_or m (29 + i) 0) → mail_from m₁ j n ≡ mail_from m j n
  mail_same =
      mails_alike m m₁ still_entries still_commit (rw s.term) (λ i a b. s.rows i (omega arith) b) (s.behind 36 (omega arith) (omega arith)) (s.behind 37 (omega arith) (omega arith))

-- A LETTER FLIES: the words that it is made of stay
pub still_flown : (m : List ℕ) (j : ℕ) → j < 7 → Still m (flown_to m j)
unfolding flown_to
still_flown m j l =
    let e = loaded_alike m (set m (29 + j) 0) (λ i b. get_or-set_other m (29 + j) i 0 0 (omega arith)) in
    record {
      long = length-set m (29 + j) 0;
      size = ap (λ (x : Machine Role). x.size) e;
      id = ap (λ (x : Machine Role). x.id) e;
      term = ap (λ (x : Machine Role). x.term) e;
      role = ap (λ (x : Machine Role). x.role) e;
      rows = λ i a b. get_or-set_other m (29 + j) i 0 0 (omega arith);
      behind = λ i a b. get_or-set_other m (29 + j) i 0 0 (omega arith);
    }

pub flown_loaded : (m : List ℕ) (j : ℕ) → loaded (flown_to m j) ≡ loaded m
unfolding flown_to
flown_loaded m j = loaded_alike m (set m (29 + j) 0) (λ i b. get_or-set_other m (29 + j) i 0 0 (omega arith))

pub flown_applied : (m : List ℕ) (j : ℕ) → j < 7 → applied_number (flown_to m j) ≡ applied_number m
unfolding flown_to
flown_applied m j l = same_applied m (set m (29 + j) 0) (get_or-set_other m (29 + j) 66 0 0 (omega arith))

pub flown_other : (m : List ℕ) (j i : ℕ) → i ≢ j → get_or (flown_to m j) (29 + i) 0 ≡ get_or m (29 + i) 0
unfolding flown_to
flown_other m j i ne = get_or-set_other m (29 + j) (29 + i) 0 0 (omega arith)

pub flown_word : (m : List ℕ) (j : ℕ) → length m ≡ memory_words → j < 7 → get_or (flown_to m j) (29 + j) 0 ≡ 0
unfolding flown_to
flown_word m j long l = get_or-set_same m (29 + j) 0 0 (omega arith)

-- the first letter goes to one of the machines; when it has flown, the others are due
pub record Flies (m : List ℕ) (j n : ℕ) (l : Mail) (ls : List Mail) : Type 0 where
  pub least : j ≤ l.to
  pub most : l.to < j + n
  pub left : mail_from (flown_to m l.to) j n ≡ ls

-- one machine further, by whether a letter is due to the first
mail_more : (m : List ℕ) (j n : ℕ) → mail_from m j (suc n) ≡ mail_at m (loaded m) j (due_to m j) ++ mail_from m (suc j) n
unfolding mail_from
mail_more m j n = refl

module _ (m : List ℕ) (long : length m ≡ memory_words) (j n : ℕ) (few : j + suc n ≤ 7) (l : Mail) (ls : List Mail) where
  -- the letter to j flew, and was the first
  flies_here : (d : Due) → mail j (letter_made m (loaded m) j d) ∷ mail_from m (suc j) n ≡ l ∷ ls → Flies m j (suc n) l ls
  flies_here d e =
      let to : j ≡ l.to = ap (λ (x : Mail). x.to) (head_same e) in
      let gone : mail_from (flown_to m j) j (suc n) ≡ mail_from (flown_to m j) (suc j) n =
      mail_more (flown_to m j) j n
      ∙ ap (λ (w : ℕ). mail_at (flown_to m j) (loaded (flown_to m j)) j (due_of w) ++ mail_from (flown_to m j) (suc j) n) (flown_word m j long (omega arith)) in
      let others : mail_from (flown_to m j) (suc j) n ≡ mail_from m (suc j) n =
      mail_same m (flown_to m j) (still_flown m j (omega arith)) (suc j) n (omega arith) (λ i a b. flown_other m j i (omega arith)) in
      record {
        least = omega (arith, to);
        most = omega (arith, to);
        left =
            ap (λ (k : ℕ). mail_from (flown_to m k) j (suc n)) (sym to)
            ∙ (gone ∙ (others ∙ tail_same e));
      }

  -- none is due to j
  flies_behind : due_to m j ≡ None → Flies m (suc j) n l ls → Flies m j (suc n) l ls
  flies_behind o f =
      let k : ℕ = l.to in
      let same : due_to (flown_to m k) j ≡ None = ap due_of (flown_other m k j (omega (arith, f.least))) ∙ o in
      record {
        least = omega (arith, f.least);
        most = omega (arith, f.most);
        left = mail_more (flown_to m k) j n ∙ (ap (λ (x : Option Due). mail_at (flown_to m k) (loaded (flown_to m k)) j x ++ mail_from (flown_to m k) (suc j) n) same ∙ f.left);
      }

  flies_by : (o : Option Due) → due_to m j ≡ o → mail_at m (loaded m) j o ++ mail_from m (suc j) n ≡ l ∷ ls → (mail_from m (suc j) n ≡ l ∷ ls → Flies m (suc j) n l ls) → Flies m j (suc n) l ls
  flies_by (Some d) o e f = flies_here d e
  flies_by None o e f = flies_behind o (f e)

-- THE FIRST LETTER that is due, and what is due after it
pub flies_first : (m : List ℕ) → length m ≡ memory_words → (j n : ℕ) → j + n ≤ 7 → (l : Mail) (ls : List Mail) → mail_from m j n ≡ l ∷ ls → Flies m j n l ls
unfolding mail_from
flies_first m long j zero few l ls e = absurd (not_same (sym e))
flies_first m long j (suc n) few l ls e =
    flies_by m long j n few l ls (due_to m j) refl e (λ e₁. flies_first m long (suc j) n (omega arith) l ls e₁)

-- NO LETTER IS DUE: no word says that one is
mail_at_none : (m : List ℕ) (j : ℕ) (o : Option Due) (ls : List Mail) → mail_at m (loaded m) j o ++ ls ≡ [] → (o ≡ None) × (ls ≡ [])
mail_at_none m j (Some d) ls e = absurd (not_same e)
mail_at_none m j None ls e = (refl, e)

none_from : (m : List ℕ) (j n : ℕ) → mail_from m j n ≡ [] → (i : ℕ) → j ≤ i → i < j + n → due_to m i ≡ None
unfolding mail_from
none_from m j zero e i a b = absurd (omega arith)
none_from m j (suc n) e i a b =
    let p = mail_at_none m j (due_to m j) (mail_from m (suc j) n) e in
    elim (cases_eq i j) [
      | inl q ↦ ap (due_to m) q ∙ p.0
      | inr ne ↦ none_from m (suc j) n p.1 i (omega arith) (omega arith)
    ]

pub quiet_none : (m : List ℕ) → mail_due m ≡ [] → (j : ℕ) → j < 7 → due_to m j ≡ None
quiet_none m e j l = none_from m 0 7 e j (omega arith) l

some_not_none : {A B : Type 0} (x : A) → Some x ≡ None → B
some_not_none x e = no_way cc

-- a word up to 7 that says of no letter is 0
pub no_due_zero : (w : ℕ) → w ≤ 7 → due_of w ≡ None → w ≡ 0
no_due_zero zero l e = refl
no_due_zero (suc zero) l e = some_not_none Append e
no_due_zero (suc (suc zero)) l e = some_not_none RequestVote e
no_due_zero (suc (suc (suc zero))) l e = some_not_none TellTerm e
no_due_zero (suc (suc (suc (suc zero)))) l e = some_not_none Grant e
no_due_zero (suc (suc (suc (suc (suc zero))))) l e = some_not_none Deny e
no_due_zero (suc (suc (suc (suc (suc (suc zero)))))) l e = some_not_none Accept e
no_due_zero (suc (suc (suc (suc (suc (suc (suc zero))))))) l e = some_not_none Reject e
no_due_zero (suc (suc (suc (suc (suc (suc (suc (suc w)))))))) l e = absurd (omega arith)

-- letters to machines, that can be written
abbrev pub MailsFit : List Mail → Type 0
MailsFit [] = Unit {0}
MailsFit (l ∷ ls) = (l.to < 7) × LetterFits l.letter × MailsFit ls

-- LETTERS FIT: their numbers are words, and their entries those of the log
module _ (m : List ℕ) (small : all_small m ≡ true) where
  prev_most : (j : ℕ) → prev_of m j ≤ 8193
  prev_most j = omega (arith, at_most_le (get_or m (22 + j) 0 - 1) (last_index m), last_most m)

  pub letter_fits : (j : ℕ) (d : Due) → LetterFits (letter_made m (loaded m) j d)
  letter_fits j Append = (
    (loaded_small m small).term,
    omega (arith, prev_most j),
    term_small m (prev_of m j) (small_words m small),
    omega (arith, commit_most m, last_most m),
    omega (arith, length_log_entries m (prev_of m j + 1) (count_of m j), at_most_le (last_index m - prev_of m j) 15),
    log_entries_fit m (prev_of m j + 1) (count_of m j) (small_words m small),
  )
  letter_fits j RequestVote = ((loaded_small m small).term, omega (arith, last_most m), term_small m (last_index m) (small_words m small))
  letter_fits j TellTerm = (loaded_small m small).term
  letter_fits j Grant = (loaded_small m small).term
  letter_fits j Deny = (loaded_small m small).term
  letter_fits j Accept = ((loaded_small m small).term, small_word m 36 small)
  letter_fits j Reject = ((loaded_small m small).term, small_word m 36 small, small_word m 37 small)

  mails_more : (j : ℕ) (o : Option Due) (ls : List Mail) → j < 7 → MailsFit ls → MailsFit (mail_at m (loaded m) j o ++ ls)
  mails_more j (Some d) ls l f = (l, letter_fits j d, f)
  mails_more j None ls l f = f

  mails_from : (j n : ℕ) → j + n ≤ 7 → MailsFit (mail_from m j n)
  unfolding mail_from
  mails_from j zero l = tt
  mails_from j (suc n) l = mails_more j (due_to m j) (mail_from m (suc j) n) (omega arith) (mails_from (suc j) n (omega arith))

  pub mail_fits : MailsFit (mail_due m)
  mail_fits = mails_from 0 7 (omega arith)
