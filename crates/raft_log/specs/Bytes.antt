-- Numbers as bytes, the low byte first, and bytes put over others.
use Rattle.std.specs.Prelude.{ℕ, ◌+◌, ◌*◌, ◌/◌, ◌%◌, ◌^◌, ◌<◌, List, [], ◌∷◌, ◌++◌, length, take, drop, slice_index}

-- every element of a row is a byte
abbrev pub Bytes : List ℕ → Type 0
Bytes bs = (i : ℕ) → slice_index bs i < 256

-- every element of a row is a word
abbrev pub Words : List ℕ → Type 0
Words ws = (i : ℕ) → slice_index ws i < 2 ^ 64

-- a number below 2 ^ 64 as eight bytes
abbrev pub eight : ℕ → List ℕ
eight w =
    w % 256 ∷ w / 256 % 256 ∷ w / 65536 % 256 ∷ w / 16777216 % 256 ∷ w / 4294967296 % 256 ∷ w / 1099511627776 % 256 ∷ w / 281474976710656 % 256
    ∷ w / 72057594037927936 % 256 ∷ []

-- a number below 2 ^ 16 as two bytes
abbrev pub two : ℕ → List ℕ
two w = w % 256 ∷ w / 256 % 256 ∷ []

-- the number that the eight bytes from i on are
abbrev pub word_at : List ℕ → ℕ → ℕ
word_at bs i =
    slice_index bs i + slice_index bs (i + 1) * 256 + slice_index bs (i + 2) * 65536 + slice_index bs (i + 3) * 16777216 + slice_index bs (i + 4) * 4294967296
    + slice_index bs (i + 5) * 1099511627776 + slice_index bs (i + 6) * 281474976710656 + slice_index bs (i + 7) * 72057594037927936

-- the number that the two bytes from i on are
abbrev pub pair_at : List ℕ → ℕ → ℕ
pair_at bs i = slice_index bs i + slice_index bs (i + 1) * 256

-- out with the bytes bs from i on, and the rest as before
unfoldable pub laid : List ℕ → ℕ → List ℕ → List ℕ
laid out i bs = take i out ++ (bs ++ drop (i + length bs) out)
