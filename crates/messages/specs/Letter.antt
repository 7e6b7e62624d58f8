-- The letters between machines, and their bytes.
use Rattle.std.specs.Prelude.{◌≡◌, ℕ, ◌^◌, ◌<◌, ◌≤◌, Bool, true, false, cond, ◌&&◌, List, [], ◌∷◌, ◌++◌, length, drop, ◌==◌, nat_le, slice_index}
use Rattle.std.proofs.Math.Option.{Option, none, some}
use Rattle.raft_log.specs.Bytes.{Bytes, eight, word_at}
use Rattle.raft_log.specs.Block.{Entry, block_bytes, block_entries, block_fits, EntriesFit}

pub data Letter : Type 0 where
  append : ℕ → ℕ → ℕ → ℕ → List Entry → Letter  -- term, index and term before, commit, entries
  append_response : ℕ → ℕ → Letter  -- term, accepted up to
  append_reject : ℕ → ℕ → ℕ → Letter  -- term, index before, hint
  request_vote : ℕ → ℕ → ℕ → Letter  -- term, index and term of the last entry
  request_vote_response : ℕ → Bool → Letter  -- term, granted
  term_notice : ℕ → Letter  -- term

abbrev pub bit : Bool → ℕ
bit true = 1
bit false = 0

-- the bytes of a letter
unfoldable pub letter_bytes : Letter → List ℕ
letter_bytes (append t p q k es) = 1 ∷ (eight t ++ (eight p ++ (eight q ++ (eight k ++ (length es ∷ block_bytes es)))))
letter_bytes (append_response t i) = 2 ∷ (eight t ++ eight i)
letter_bytes (append_reject t p h) = 3 ∷ (eight t ++ (eight p ++ eight h))
letter_bytes (request_vote t i q) = 4 ∷ (eight t ++ (eight i ++ eight q))
letter_bytes (request_vote_response t b) = 5 ∷ (eight t ++ (bit b ∷ []))
letter_bytes (term_notice t) = 6 ∷ eight t

-- the letters of each kind
abbrev pub append_of : List ℕ → Option Letter
append_of bs =
    cond (nat_le 34 (length bs) && block_fits (drop 34 bs) (slice_index bs 33))
    (some (append (word_at bs 1) (word_at bs 9) (word_at bs 17) (word_at bs 25) (block_entries (drop 34 bs) (slice_index bs 33)))) none

abbrev pub append_response_of : List ℕ → Option Letter
append_response_of bs = cond (length bs == 17) (some (append_response (word_at bs 1) (word_at bs 9))) none

abbrev pub append_reject_of : List ℕ → Option Letter
append_reject_of bs = cond (length bs == 25) (some (append_reject (word_at bs 1) (word_at bs 9) (word_at bs 17))) none

abbrev pub request_vote_of : List ℕ → Option Letter
request_vote_of bs = cond (length bs == 25) (some (request_vote (word_at bs 1) (word_at bs 9) (word_at bs 17))) none

abbrev pub request_vote_response_of : List ℕ → Option Letter
request_vote_response_of bs =
    cond (length bs == 10 && nat_le (slice_index bs 9) 1) (some (request_vote_response (word_at bs 1) (slice_index bs 9 == 1))) none

abbrev pub term_notice_of : List ℕ → Option Letter
term_notice_of bs = cond (length bs == 9) (some (term_notice (word_at bs 1))) none

abbrev pub kind : List ℕ → ℕ
kind bs = slice_index bs 0

-- the letter that a row of bytes is, if it is one
unfoldable pub letter_of : List ℕ → Option Letter
letter_of bs =
    cond (kind bs == 1) (append_of bs)
    (cond (kind bs == 2) (append_response_of bs)
    (cond (kind bs == 3) (append_reject_of bs)
    (cond (kind bs == 4) (request_vote_of bs)
    (cond (kind bs == 5) (request_vote_response_of bs)
    (cond (kind bs == 6) (term_notice_of bs) none)))))

-- a letter that a machine can make: numbers of 64 bits, at most 15 entries, values of at most 256 bytes
abbrev pub LetterFits : Letter → Type 0
LetterFits (append t p q k es) = (t < 2 ^ 64) × (p < 2 ^ 64) × (q < 2 ^ 64) × (k < 2 ^ 64) × (length es ≤ 15) × EntriesFit es
LetterFits (append_response t i) = (t < 2 ^ 64) × (i < 2 ^ 64)
LetterFits (append_reject t p h) = (t < 2 ^ 64) × (p < 2 ^ 64) × (h < 2 ^ 64)
LetterFits (request_vote t i q) = (t < 2 ^ 64) × (i < 2 ^ 64) × (q < 2 ^ 64)
LetterFits (request_vote_response t b) = t < 2 ^ 64
LetterFits (term_notice t) = t < 2 ^ 64

-- THE ROUND TRIP: every such letter comes back from its bytes
abbrev pub RoundTrip : Type 0
RoundTrip = (l : Letter) → LetterFits l → letter_of (letter_bytes l) ≡ some l

-- its bytes are bytes, and fit the room of a letter
abbrev pub LettersShort : Type 0
LettersShort = (l : Letter) → LetterFits l → Bytes (letter_bytes l) × (length (letter_bytes l) ≤ 4096)

-- bytes that are a letter are the bytes of just that letter, and it is one that a machine can make
abbrev pub OneToOne : Type 0
OneToOne = (bs : List ℕ) (l : Letter) → Bytes bs → letter_of bs ≡ some l → (letter_bytes l ≡ bs) × LetterFits l
