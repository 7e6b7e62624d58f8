-- The log that a memory stands for, as a list of entries, and which memories are well formed.
use Rattle.std.specs.Prelude.{◌≡◌, ℕ, zero, suc, ◌+◌, ◌-◌, ◌<◌, ◌≤◌, Bool, true, false, cond, List, [], ◌∷◌, ◌++◌, map, length, take, ◌==◌, slice_index, slice_index_or}
use Rattle.std.proofs.Math.Option.{Option, none, some}
use Rattle.std.specs.List.{range_with_len}
use Rattle.raft_log.specs.Layout.{memory_words, entry_row}
use Rattle.raft_log.specs.Values.{value_at}
use Rattle.raft_log.specs.Entries.{last_index, term_at, number_at}
use Rattle.raft_log.specs.Block.{Entry}

abbrev pub entry : ℕ → Option (List ℕ) → Entry
entry t o = record { term = t; content = o }

-- what an entry holds, by how many values stand up to the one before and up to it: the last of them, if it brings one
abbrev pub content_between : List ℕ → ℕ → ℕ → Option (List ℕ)
content_between m before upto = cond (upto == before) none (some (value_at m (upto - 1)))

-- the entry at place j, from 0: its index is one more
abbrev pub entry_of : List ℕ → ℕ → Entry
entry_of m j = entry (term_at m (suc j)) (content_between m (number_at m j) (number_at m (suc j)))

-- the first n entries
unfoldable pub entries_of : List ℕ → ℕ → List Entry
entries_of m n = map (λ j. entry_of m j) (range_with_len 0 n)

-- the whole log
unfoldable pub log_of : List ℕ → List Entry
log_of m = entries_of m (last_index m)

-- as many values stand up to an entry as up to the one before, or one more
pub record Rises (before upto : ℕ) : Type 0 where
  pub least : before ≤ upto
  pub most : upto ≤ suc before

-- the words of the entries are within their bounds, so that what is read is what is written, and the numbers rise one by one
pub record TidyEntries (m : List ℕ) : Type 0 where
  pub long : length m ≡ memory_words
  pub last : slice_index_or m 64 0 ≤ 8193
  pub counts : (i : ℕ) → 1 ≤ i → i ≤ last_index m → slice_index m (entry_row i + 1) ≤ 4096
  pub rises : (j : ℕ) → j < last_index m → Rises (number_at m j) (number_at m (suc j))

-- and so are those for what is decided and what was applied
pub record Tidy (m : List ℕ) : Type 0 where
  pub entries : TidyEntries m
  pub commit : slice_index_or m 65 0 ≤ last_index m
  pub applied : slice_index_or m 66 0 ≤ 4096

-- beyond a log's end stands an empty entry of term 0
abbrev pub no_entry : Entry
no_entry = entry 0 none

-- the entry at place i, from 0
abbrev pub entry_in : List Entry → ℕ → Entry
entry_in es i = slice_index_or es i no_entry

-- the term of the entry with index i, 0 of none
abbrev pub term_before : List Entry → ℕ → ℕ
term_before l zero = 0
term_before l (suc j) = (slice_index_or l j no_entry).term

abbrev pub is_none : Option (List ℕ) → Bool
is_none none = true
is_none (some v) = false

-- where a new leader's empty entry goes: over one that is last, or else behind all
abbrev pub renew_place : List Entry → ℕ
renew_place [] = 0
renew_place (e ∷ es) = cond (is_none (slice_index_or (e ∷ es) (length es) no_entry).content) (length es) (suc (length es))

-- the log with the empty entry of a new leader of term t last
unfoldable pub renewed : ℕ → List Entry → List Entry
renewed t l = take (renew_place l) l ++ entry t none ∷ []

abbrev pub with_content : Option (List ℕ) → List (List ℕ) → List (List ℕ)
with_content none vs = vs
with_content (some v) vs = v ∷ vs

-- the values that entries hold, in turn
unfoldable pub decisions : List Entry → List (List ℕ)
decisions [] = []
decisions (e ∷ es) = with_content e.content (decisions es)

-- what a memory can hold: a value of up to 256 bytes, or none
abbrev pub ValidContent : Option (List ℕ) → Type 0
ValidContent none = Unit {0}
ValidContent (some v) = (length v ≤ 256) × ((i : ℕ) → slice_index v i < 256)

abbrev pub Valid : List Entry → Type 0
Valid es = (j : ℕ) → j < length es → ValidContent (slice_index_or es j no_entry).content
