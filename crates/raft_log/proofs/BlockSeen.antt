-- The entries that the bytes of a block are, one by one.
use Rattle.std.proofs.Common.{◌≡◌, ℕ, ◌+◌, ◌-◌, ◌*◌, ◌<◌, ◌≤◌, true, ◌≢◌, List, length, take, drop, sym, ap, ◌∙◌, arith}
use mathlib.Core.Option.{none, some}
use Rattle.raft_log.specs.Block.{Entry, row_term, row_code, row_length, value_offset, block_entry, block_entries, block_fits}
use Rattle.raft_log.specs.View.{no_entry, entry_in}
use Rattle.raft_log.proofs.BlockReads.{fits}
use Rattle.raft_log.proofs.ConflictLaws.{length_block_entries, block_entries_at}
use Rattle.raft_log.proofs.TakeLaws.{row_there, value_cut, value_short, content_some, content_none}

module _ (es : List Entry) (bs : List ℕ) (n : ℕ) (view : block_entries bs n ≡ es) (ok : block_fits bs n ≡ true) where
  pub seen_length : n ≡ length es
  seen_length = sym (length_block_entries bs n) ∙ ap length view

  pub seen_few : n ≤ 15
  seen_few = (fits bs n ok).few

  pub seen_table : 10 * n ≤ length bs
  seen_table = (fits bs n ok).table

  module _ (i : ℕ) (less : i < length es) where
    pub seen_below : i < n
    seen_below = omega (arith, seen_length)

    pub seen_row : (i < 15) × (10 * i + 10 ≤ length bs)
    seen_row = row_there bs n i ok seen_below

    pub seen_at : entry_in es i ≡ block_entry bs n i
    seen_at = ap (λ xs. entry_in xs i) (sym view) ∙ block_entries_at bs n i no_entry seen_below

    pub seen_term : (entry_in es i).term ≡ row_term bs i
    seen_term = ap (λ (e : Entry). e.term) seen_at

    pub seen_empty : row_code bs i ≡ 0 → (entry_in es i).content ≡ none
    seen_empty e = ap (λ (e : Entry). e.content) seen_at ∙ content_none (row_code bs i) (take (row_length bs i) (drop (value_offset bs n i) bs)) e

    -- the value as it is cut out of the bytes
    pub seen_value : (a b : ℕ) → a ≡ value_offset bs n i → b ≡ row_length bs i → row_code bs i ≢ 0 →
        ((entry_in es i).content ≡ some (take (a + b - a) (drop a bs))) × (length (take (a + b - a) (drop a bs)) ≤ 256)
    seen_value a b p q ne =
        let cut = value_cut bs n i ok seen_below a b p q in (
          ap (λ (e : Entry). e.content) seen_at
              ∙ (content_some (row_code bs i) (take (row_length bs i) (drop (value_offset bs n i) bs)) ne ∙ ap some (sym cut)),
          omega (arith, ap length cut, value_short bs n i ok seen_below),
        )

    pub seen_within : value_offset bs n i + row_length bs i ≤ length bs
    seen_within = (fits bs n ok).within i seen_below
