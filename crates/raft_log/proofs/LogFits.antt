-- The entries of a log in memory are entries that a letter can carry.
use Rattle.std.proofs.Common.{ℕ, zero, suc, ◌+◌, ◌-◌, ◌/◌, ◌%◌, ◌^◌, ◌<◌, ◌≤◌, eqb, List, [], ◌∷◌, map, length, get_or, arith}
use mathlib.Core.Option.{none, some}
use Rattle.std.specs.List.{range_with_len}
use Rattle.std.proofs.lemmas.Bool.{cond_both}
use Rattle.raft_log.specs.Layout.{entry_row, value_row}
use Rattle.raft_log.specs.Values.{byte_in, byte_at, value_length, value_at}
use Rattle.raft_log.specs.Entries.{in_log, term_at, number_at}
use Rattle.raft_log.specs.Bytes.{Bytes, Words}
use Rattle.raft_log.specs.Block.{ContentFits, EntriesFit, log_content, log_entry, log_entries}
use Rattle.raft_log.proofs.ValueLaws.{at_most_le}
use Rattle.raft_log.proofs.ByteLaws.{low, bytes_none, bytes_cons}
use Rattle.raft_log.proofs.BlockWrites.{length_value_at}

byte_small : (w k : ℕ) → byte_in w k < 256
byte_small w zero = low w
byte_small w (suc zero) = low (w / 256)
byte_small w (suc (suc zero)) = low (w / 65536)
byte_small w (suc (suc (suc zero))) = low (w / 16777216)
byte_small w (suc (suc (suc (suc zero)))) = low (w / 4294967296)
byte_small w (suc (suc (suc (suc (suc zero))))) = low (w / 1099511627776)
byte_small w (suc (suc (suc (suc (suc (suc zero)))))) = low (w / 281474976710656)
byte_small w (suc (suc (suc (suc (suc (suc (suc k))))))) = low (w / 72057594037927936)

bytes_map : (f : ℕ → ℕ) → ((i : ℕ) → f i < 256) → (xs : List ℕ) → Bytes (map f xs)
bytes_map f h [] = bytes_none
bytes_map f h (x ∷ xs) = bytes_cons (f x) (map f xs) (h x) (bytes_map f h xs)

pub bytes_value_at : (m : List ℕ) (k : ℕ) → Bytes (value_at m k)
unfolding value_at
bytes_value_at m k =
    bytes_map (λ i. byte_at m (value_row k + 1) i) (λ i. byte_small (get_or m (value_row k + 1 + i / 8) 0) (i % 8)) (range_with_len 0 (value_length m k))

pub value_at_short : (m : List ℕ) (k : ℕ) → length (value_at m k) ≤ 256
value_at_short m k = omega (arith, length_value_at m k, at_most_le (get_or m (value_row k) 0) 256)

pub term_small : (m : List ℕ) (i : ℕ) → Words m → term_at m i < 2 ^ 64
unfolding term_at
term_small m i w = cond_both (in_log m i) (get_or m (entry_row i) 0) 0 (λ x. x < 2 ^ 64) (λ e. w (entry_row i)) (λ e. omega arith)

content_fits : (m : List ℕ) (i : ℕ) → ContentFits (log_content m i)
content_fits m i =
    cond_both (eqb (number_at m i) (number_at m (i - 1))) none (some (value_at m (number_at m i - 1))) ContentFits (λ e. tt)
    (λ e. (value_at_short m (number_at m i - 1), bytes_value_at m (number_at m i - 1)))

rows_fit : (m : List ℕ) (f n : ℕ) → Words m → EntriesFit (map (λ i. log_entry m i) (range_with_len f n))
rows_fit m f zero w = tt
rows_fit m f (suc n) w = (term_small m f w, content_fits m f, rows_fit m (f + 1) n w)

pub log_entries_fit : (m : List ℕ) (f n : ℕ) → Words m → EntriesFit (log_entries m f n)
unfolding log_entries
log_entries_fit m f n w = rows_fit m f n w
