-- A block of entries as bytes, as letters carry them: first a table with a row of ten bytes for each entry, then the values, one behind the other.
use Rattle.std.specs.Prelude.{◌≡◌, ℕ, zero, suc, ◌+◌, ◌-◌, ◌*◌, ◌^◌, ◌<◌, ◌≤◌, Bool, true, false, cond, ◌&&◌, List, [], ◌∷◌, ◌++◌, map, length, take, drop, Some, None, Option as Maybe, ◌==◌, nat_le}
use Rattle.std.proofs.Math.Option.{Option, none, some}
use Rattle.std.specs.List.{range_with_len}
use Rattle.raft_log.specs.Bytes.{Bytes, eight, two, word_at, pair_at}
use Rattle.raft_log.specs.Entries.{term_at, number_at}
use Rattle.raft_log.specs.Values.{value_at}

-- an entry: its term, and its value; a leader's empty entry has none
pub record Entry : Type 0 where
  pub term : ℕ
  pub content : Option (List ℕ)

-- the second number of a row: 0 for an empty entry, or else one more than the value's length
abbrev pub content_code : Option (List ℕ) → ℕ
content_code none = 0
content_code (some v) = suc (length v)

abbrev pub content_bytes : Option (List ℕ) → List ℕ
content_bytes none = []
content_bytes (some v) = v

-- the row of an entry: its term in eight bytes, the code of its content in two
abbrev pub row_bytes : Entry → List ℕ
row_bytes e = eight e.term ++ two (content_code e.content)

-- the rows of the entries
unfoldable pub table_bytes : List Entry → List ℕ
table_bytes [] = []
table_bytes (e ∷ es) = row_bytes e ++ table_bytes es

-- their values
unfoldable pub values_bytes : List Entry → List ℕ
values_bytes [] = []
values_bytes (e ∷ es) = content_bytes e.content ++ values_bytes es

-- the block of the entries
abbrev pub block_bytes : List Entry → List ℕ
block_bytes es = table_bytes es ++ values_bytes es

-- entries as a log holds them: values of at most 256 bytes
abbrev pub ContentFits : Option (List ℕ) → Type 0
ContentFits none = Unit {0}
ContentFits (some v) = (length v ≤ 256) × Bytes v

abbrev pub EntriesFit : List Entry → Type 0
EntriesFit [] = Unit {0}
EntriesFit (e ∷ es) = (e.term < 2 ^ 64) × ContentFits e.content × EntriesFit es

-- READING IN PLACE: the block bs has n entries, counted from 0
abbrev pub row_term : List ℕ → ℕ → ℕ
row_term bs i = word_at bs (10 * i)

abbrev pub row_code : List ℕ → ℕ → ℕ
row_code bs i = pair_at bs (10 * i + 8)

-- how many bytes the value of entry i has
abbrev pub row_length : List ℕ → ℕ → ℕ
row_length bs i = row_code bs i - 1

-- where the value of entry i begins: behind the table and the values before
unfoldable pub value_offset : List ℕ → ℕ → ℕ → ℕ
value_offset bs n zero = 10 * n
value_offset bs n (suc i) = value_offset bs n i + row_length bs i

abbrev pub content_of : ℕ → List ℕ → Option (List ℕ)
content_of zero v = none
content_of (suc k) v = some v

-- entry i
abbrev pub block_entry : List ℕ → ℕ → ℕ → Entry
block_entry bs n i = record { term = row_term bs i; content = content_of (row_code bs i) (take (row_length bs i) (drop (value_offset bs n i) bs)) }

-- all n entries
unfoldable pub block_entries : List ℕ → ℕ → List Entry
block_entries bs n = map (λ i. block_entry bs n i) (range_with_len 0 n)

-- does no value of the first i entries have more than 256 bytes?
unfoldable pub codes_fit : List ℕ → ℕ → Bool
codes_fit bs zero = true
codes_fit bs (suc i) = codes_fit bs i && nat_le (row_code bs i) 257

-- where the values of n entries end, if none has more than 256 bytes
abbrev pub ValuesEnd : List ℕ → ℕ → Maybe ℕ → Type 0
ValuesEnd bs n (Some end) = (codes_fit bs n ≡ true) × (end ≡ value_offset bs n n)
ValuesEnd bs n None = codes_fit bs n ≡ false

-- are the bytes bs a block of n entries, from the first byte to the last?
unfoldable pub block_fits : List ℕ → ℕ → Bool
block_fits bs n = nat_le n 15 && (nat_le (10 * n) (length bs) && (codes_fit bs n && value_offset bs n n == length bs))

-- the entries that the bytes are, if they are a block of n
abbrev pub BlockRead : List ℕ → ℕ → Maybe (List Entry) → Type 0
BlockRead bs n (Some es) = (block_fits bs n ≡ true) × (es ≡ block_entries bs n)
BlockRead bs n None = block_fits bs n ≡ false

-- what an entry holds, as a value that may be there
abbrev pub Holds : Entry → Maybe (List ℕ) → Type 0
Holds e (Some v) = (e.content ≡ some v) × (length v ≤ 256)
Holds e None = e.content ≡ none

-- THE LOG IN MEMORY as entries: one is empty if no value more stands up to it than up to the one before
abbrev pub log_content : List ℕ → ℕ → Option (List ℕ)
log_content m i = cond (number_at m i == number_at m (i - 1)) none (some (value_at m (number_at m i - 1)))

-- the slot of its value, if it has one
unfoldable pub slot_of : List ℕ → ℕ → Maybe ℕ
slot_of m i = cond (number_at m i == number_at m (i - 1)) None (Some (number_at m i - 1))

-- the value stands in that slot
abbrev pub SlotOf : List ℕ → ℕ → Maybe ℕ → Type 0
SlotOf m i (Some k) = (log_content m i ≡ some (value_at m k)) × (k < 4096)
SlotOf m i None = log_content m i ≡ none

abbrev pub log_entry : List ℕ → ℕ → Entry
log_entry m i = record { term = term_at m i; content = log_content m i }

-- the n entries from first on
unfoldable pub log_entries : List ℕ → ℕ → ℕ → List Entry
log_entries m first n = map (λ i. log_entry m i) (range_with_len first n)
