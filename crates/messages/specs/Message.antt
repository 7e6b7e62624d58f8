-- What the messages of the code stand for.
use Rattle.std.specs.Prelude.{◌≡◌, ℕ, ◌+◌, ◌*◌, ◌^◌, ◌<◌, ◌≤◌, true, List, length, drop, slice_index, Some, None, Option as Maybe}
use Rattle.std.proofs.Math.Option.{Option, none, some}
use Rattle.messages.specs.declared.Message.{Message}
use Rattle.messages.specs.declared.Message.TheVariants.{Append, AppendResponse, AppendReject, RequestVote, RequestVoteResponse, TermNotice}
use Rattle.raft_log.specs.Bytes.{Words, word_at}
use Rattle.raft_log.specs.Block.{Entry, block_entries, block_fits, log_entries}
use Rattle.messages.specs.Letter.{Letter, append, append_response, append_reject, request_vote, request_vote_response, term_notice, letter_bytes, letter_of}

-- the letter of a message, given the entries that stand for x behind index p
abbrev pub letter_with : {E : Type 0} → (ℕ → E → List Entry) → Message E → Letter
letter_with f (Append t p q k x) = append t.0 p.0 q.0 k.0 (f p.0 x)
letter_with f (AppendResponse t i) = append_response t.0 i.0
letter_with f (AppendReject t p h) = append_reject t.0 p.0 h.0
letter_with f (RequestVote t i q) = request_vote t.0 i.0 q.0
letter_with f (RequestVoteResponse t b) = request_vote_response t.0 b
letter_with f (TermNotice t) = term_notice t.0

-- a message that was read has its entries
abbrev pub letter_in : Message (List Entry) → Letter
letter_in = letter_with (λ p es. es)

-- a message that was read and keeps only how many entries it has: they stand in the block
abbrev pub letter_at : List ℕ → Message ℕ → Letter
letter_at bs = letter_with (λ p n. block_entries (drop 34 bs) n)

-- a message made by a machine: its entries stand in the log in memory
abbrev pub letter_from : List ℕ → Message ℕ → Letter
letter_from m = letter_with (λ p n. log_entries m (p + 1) n)

-- the message r is the letter l
abbrev pub Gives : Option Letter → Maybe (Message (List Entry)) → Type 0
Gives l (Some r) = l ≡ some (letter_in r)
Gives l None = l ≡ none

-- the message r is the letter l, read from the bytes bs
abbrev pub GivesAt : Option Letter → List ℕ → Maybe (Message ℕ) → Type 0
GivesAt l bs (Some r) = l ≡ some (letter_at bs r)
GivesAt l bs None = l ≡ none

-- the block of an append can be read
abbrev pub HasBlock : List ℕ → Message ℕ → Type 0
HasBlock bs (Append t p q k n) = (34 ≤ length bs) × (block_fits (drop 34 bs) n ≡ true)
HasBlock bs (AppendResponse t i) = Unit {0}
HasBlock bs (AppendReject t p h) = Unit {0}
HasBlock bs (RequestVote t i q) = Unit {0}
HasBlock bs (RequestVoteResponse t b) = Unit {0}
HasBlock bs (TermNotice t) = Unit {0}

abbrev pub Readable : List ℕ → Maybe (Message ℕ) → Type 0
Readable bs (Some r) = HasBlock bs r
Readable bs None = Unit {0}

-- the message with how many entries it has in their place
abbrev pub counted : Message (List Entry) → Message ℕ
counted (Append t p q k es) = Append t p q k (length es)
counted (AppendResponse t i) = AppendResponse t i
counted (AppendReject t p h) = AppendReject t p h
counted (RequestVote t i q) = RequestVote t i q
counted (RequestVoteResponse t b) = RequestVoteResponse t b
counted (TermNotice t) = TermNotice t

-- the first n numbers behind the kind, of bytes that are just as long
abbrev pub NumbersIn : List ℕ → ℕ → Maybe (List ℕ) → Type 0
NumbersIn bs n (Some ws) = (length bs ≡ 1 + 8 * n) × ((i : ℕ) → i < n → slice_index ws i ≡ word_at bs (1 + 8 * i))
NumbersIn bs n None = length bs ≡ 1 + 8 * n → ⊥

-- the entries of an append are at most 15, behind a place of the log
abbrev pub Sendable : Message ℕ → Type 0
Sendable (Append t p q k n) = (p.0 ≤ 8193) × (n ≤ 15)
Sendable (AppendResponse t i) = Unit {0}
Sendable (AppendReject t p h) = Unit {0}
Sendable (RequestVote t i q) = Unit {0}
Sendable (RequestVoteResponse t b) = Unit {0}
Sendable (TermNotice t) = Unit {0}

-- the numbers of a message are words
abbrev pub Numbers : Message ℕ → Type 0
Numbers (Append t p q k n) = (t.0 < 2 ^ 64) × (p.0 < 2 ^ 64) × (q.0 < 2 ^ 64) × (k.0 < 2 ^ 64)
Numbers (AppendResponse t i) = (t.0 < 2 ^ 64) × (i.0 < 2 ^ 64)
Numbers (AppendReject t p h) = (t.0 < 2 ^ 64) × (p.0 < 2 ^ 64) × (h.0 < 2 ^ 64)
Numbers (RequestVote t i q) = (t.0 < 2 ^ 64) × (i.0 < 2 ^ 64) × (q.0 < 2 ^ 64)
Numbers (RequestVoteResponse t b) = t.0 < 2 ^ 64
Numbers (TermNotice t) = t.0 < 2 ^ 64

-- WHAT A MACHINE SENDS comes back from its bytes, with the entries of its log
abbrev pub SentComesBack : Type 0
SentComesBack = (m : List ℕ) (s : Message ℕ) → Words m → Numbers s → Sendable s → letter_of (letter_bytes (letter_from m s)) ≡ some (letter_from m s)
