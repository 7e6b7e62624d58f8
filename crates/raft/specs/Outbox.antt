-- The letters that are due, one for each machine at most, made from memory as they fly.
use Rattle.std.specs.Prelude.{◌≡◌, ℕ, zero, suc, ◌+◌, ◌-◌, true, false, List, [], ◌∷◌, ◌++◌, length, drop, Some, None, Option, slice_index, slice_set}
use Rattle.raft_log.specs.Layout.{at_most}
use Rattle.raft_log.specs.Entries.{last_index, commit_index, term_at}
use Rattle.raft_log.specs.Block.{log_entries}
use Rattle.messages.specs.Letter.{Letter, append, append_response, append_reject, request_vote, request_vote_response, term_notice, letter_bytes}
use Rattle.raft.specs.declared.header.Role.{Role}
use Rattle.raft.specs.declared.header.Machine.{Machine}
use Rattle.raft.specs.declared.say.Due.{Due}
use Rattle.raft.specs.declared.say.Due.TheVariants.{Append, RequestVote, TellTerm, Grant, Deny, Accept, Reject}
use Rattle.raft.specs.declared.outbox.Next.{Next}
use Rattle.raft.specs.declared.outbox.Sent.{Sent}
use Rattle.raft.specs.Header.{loaded}
use Rattle.raft.specs.Rows.{next_at}
use Rattle.raft.specs.Say.{due_of}

-- which letter is due to machine j
abbrev pub due_to : List ℕ → ℕ → Option Due
due_to m j = due_of (slice_index m (29 + j))

-- an append goes behind the index before the one that is sent next, and has up to 15 entries
abbrev pub prev_of : List ℕ → ℕ → ℕ
prev_of m j = at_most (next_at m j - 1) (last_index m)

abbrev pub count_of : List ℕ → ℕ → ℕ
count_of m j = at_most (last_index m - prev_of m j) 15

-- the letter of a kind to machine j
abbrev pub letter_made : List ℕ → Machine Role → ℕ → Due → Letter
letter_made m x j Append = append x.term.0 (prev_of m j) (term_at m (prev_of m j)) (commit_index m) (log_entries m (prev_of m j + 1) (count_of m j))
letter_made m x j RequestVote = request_vote x.term.0 (last_index m) (term_at m (last_index m))
letter_made m x j TellTerm = term_notice x.term.0
letter_made m x j Grant = request_vote_response x.term.0 true
letter_made m x j Deny = request_vote_response x.term.0 false
letter_made m x j Accept = append_response x.term.0 (slice_index m 36)
letter_made m x j Reject = append_reject x.term.0 (slice_index m 36) (slice_index m 37)

-- a letter, and which machine it goes to
pub record Mail : Type 0 where
  pub to : ℕ
  pub letter : Letter

abbrev pub mail : ℕ → Letter → Mail
mail j l = record { to = j; letter = l }

abbrev pub mail_at : List ℕ → Machine Role → ℕ → Option Due → List Mail
mail_at m x j (Some d) = mail j (letter_made m x j d) ∷ []
mail_at m x j None = []

-- the letters that are due to n machines from j on, in turn
unfoldable pub mail_from : List ℕ → ℕ → ℕ → List Mail
mail_from m j zero = []
mail_from m j (suc n) = mail_at m (loaded m) j (due_to m j) ++ mail_from m (suc j) n

-- ALL LETTERS that are due
abbrev pub mail_due : List ℕ → List Mail
mail_due m = mail_from m 0 7

-- the next letter is of a kind and to a machine
abbrev pub FirstDue : List ℕ → Option Next → Type 0
FirstDue m (Some r) = (ls : List Mail) × (mail_due m ≡ mail r.to.id.0 (letter_made m (loaded m) r.to.id.0 r.due) ∷ ls)
FirstDue m None = mail_due m ≡ []

-- the first of n machines from j on to which a letter is due
abbrev pub found_at : ℕ → Option Due → Option ℕ → Option ℕ
found_at j (Some d) rest = Some j
found_at j None rest = rest

unfoldable pub due_from : List ℕ → ℕ → ℕ → Option ℕ
due_from m j zero = None
due_from m j (suc n) = found_at j (due_to m j) (due_from m (suc j) n)

abbrev pub first_due : List ℕ → Option ℕ
first_due m = due_from m 0 7

-- memory after the letter to j flew
unfoldable pub flown_to : List ℕ → ℕ → List ℕ
flown_to m j = slice_set m (29 + j) 0

-- the first letter that is due flew: its bytes stand at the front of what was lent; or none is due, and nothing is changed
abbrev pub Flew : List ℕ → Option Sent → (m₁ out out₁ : List ℕ) → Type 0
Flew m (Some s) m₁ out out₁ =
    (l : Mail) × (ls : List Mail) × (mail_due m ≡ l ∷ ls) × (s.to.0 ≡ l.to) × (s.long ≡ length (letter_bytes l.letter))
    × (m₁ ≡ flown_to m l.to) × (out₁ ≡ letter_bytes l.letter ++ drop s.long out)
Flew m None m₁ out out₁ = (mail_due m ≡ []) × (m₁ ≡ m) × (out₁ ≡ out)
