-- Values in memory: a row holds a length of up to 256 and the bytes, eight to a word, the low byte first.
use Rattle.std.specs.Prelude.{ℕ, zero, suc, ◌+◌, ◌*◌, ◌/◌, ◌%◌, List, map, length, slice_index, slice_set}
use Rattle.std.specs.List.{range_with_len}
use Rattle.raft_log.specs.Layout.{at_most, value_row}

-- the byte at a place of a word, from the lowest
abbrev pub byte_in : ℕ → ℕ → ℕ
byte_in w zero = w % 256
byte_in w (suc zero) = w / 256 % 256
byte_in w (suc (suc zero)) = w / 65536 % 256
byte_in w (suc (suc (suc zero))) = w / 16777216 % 256
byte_in w (suc (suc (suc (suc zero)))) = w / 4294967296 % 256
byte_in w (suc (suc (suc (suc (suc zero))))) = w / 1099511627776 % 256
byte_in w (suc (suc (suc (suc (suc (suc zero)))))) = w / 281474976710656 % 256
byte_in w (suc (suc (suc (suc (suc (suc (suc r))))))) = w / 72057594037927936 % 256

-- the byte i of the words from base on
abbrev pub byte_at : List ℕ → ℕ → ℕ → ℕ
byte_at m base i = byte_in (slice_index m (base + i / 8)) (i % 8)

-- the first n bytes of the words from base on
abbrev pub bytes_at : List ℕ → ℕ → ℕ → List ℕ
bytes_at m base n = map (λ i. byte_at m base i) (range_with_len 0 n)

-- how long the value in slot k is
abbrev pub value_length : List ℕ → ℕ → ℕ
value_length m k = at_most (slice_index m (value_row k)) 256

-- the value in slot k
unfoldable pub value_at : List ℕ → ℕ → List ℕ
value_at m k = bytes_at m (value_row k + 1) (value_length m k)

-- the byte i of a row, 0 past its end
abbrev pub byte_or : List ℕ → ℕ → ℕ
byte_or v i = slice_index v i % 256

-- eight bytes as a word
abbrev pub word_of : List ℕ → ℕ → ℕ
word_of v j =
    byte_or v (8 * j) + 256 * (byte_or v (8 * j + 1) + 256 * (byte_or v (8 * j + 2) + 256 * (byte_or v (8 * j + 3)
    + 256 * (byte_or v (8 * j + 4) + 256 * (byte_or v (8 * j + 5) + 256 * (byte_or v (8 * j + 6) + 256 * byte_or v (8 * j + 7)))))))

-- the first n words of v put from base on
unfoldable pub words_put : List ℕ → ℕ → List ℕ → ℕ → List ℕ
words_put m base v zero = m
words_put m base v (suc j) = slice_set (words_put m base v j) (base + j) (word_of v j)

-- how many words so many bytes take
abbrev pub words_for : ℕ → ℕ
words_for n = (n + 7) / 8

-- memory with v in slot k
unfoldable pub value_put : List ℕ → ℕ → List ℕ → List ℕ
value_put m k v = words_put (slice_set m (value_row k) (length v)) (value_row k + 1) v (words_for (length v))
