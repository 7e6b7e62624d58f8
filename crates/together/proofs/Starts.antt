-- Memory at the start: all of it is 0.
use Rattle.std.proofs.Common.{◌≡◌, ℕ, zero, suc, true, eqb, get_or, refl, ap, ◌∙◌, inl, inr, arith}
use Rattle.std.proofs.lemmas.List.{get_or-replicate, get_or_past}
use Rattle.std.proofs.lemmas.Bool.{cases_lt}
use Rattle.raft_log.specs.Layout.{memory_words, at_most}
use Rattle.raft_log.specs.Entries.{last_index, applied_number, number_at, values}
use Rattle.raft_log.proofs.LogLaws.{number_none}
use Rattle.together.specs.House.{every}
use Rattle.together.specs.Promise.{all_small}
use Rattle.together.specs.Machine.{zeros, start}
use Rattle.together.proofs.Lengths.{length_zeros}

zeros_at : (n i : ℕ) → get_or (zeros n) i 0 ≡ 0
unfolding zeros
zeros_at n i = elim (cases_lt i n) [ inl l ↦ get_or-replicate n i 0 0 l | inr l ↦ get_or_past (zeros n) i 0 (omega (arith, length_zeros n)) ]

pub start_at : (i : ℕ) → get_or start i 0 ≡ 0
unfolding start
start_at i = zeros_at memory_words i

zeros_zero : (n : ℕ) → every (λ m. eqb m 0) (zeros n) ≡ true
unfolding zeros every
zeros_zero zero = refl
zeros_zero (suc n) = zeros_zero n

pub start_zero : every (λ m. eqb m 0) start ≡ true
unfolding start
start_zero = zeros_zero memory_words

small_zeros : (n : ℕ) → all_small (zeros n) ≡ true
unfolding zeros every all_small
small_zeros zero = refl
small_zeros (suc n) = small_zeros n

pub small_start : all_small start ≡ true
unfolding start
small_start = small_zeros memory_words

-- the log is empty, and nothing was applied
pub start_last : last_index start ≡ 0
unfolding last_index
start_last = ap (λ x. at_most x 8193) (start_at 64)

pub start_applied : applied_number start ≡ 0
unfolding applied_number
start_applied = ap (λ x. at_most x 4096) (start_at 66)

pub start_values : values start ≡ 0
start_values = ap (number_at start) start_last ∙ number_none start
