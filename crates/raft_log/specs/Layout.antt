-- Where things stand in a machine's memory: 64 words of the machine's own, 8 of the log, a row of 2 for each entry, a row of 33 for each value.
use Rattle.std.specs.Prelude.{ℕ, ◌+◌, ◌*◌, cond, nat_lt}

-- the length of the whole memory
abbrev pub memory_words : ℕ
memory_words = 151626

-- the row of entry i, from 1: its term, and how many values stand up to it
abbrev pub entry_row : ℕ → ℕ
entry_row i = 70 + 2 * i

-- the row of the value in slot k, from 0: its length, and its words
abbrev pub value_row : ℕ → ℕ
value_row k = 16458 + 33 * k

-- what is read from memory is bounded, whatever stands there
abbrev pub at_most : ℕ → ℕ → ℕ
at_most n limit = cond (nat_lt n limit) n limit
