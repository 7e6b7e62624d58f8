-- The memory's length, and when a call of `step` fits.
use Rattle.std.proofs.Common.{◌≡◌, ℕ, List, length}
use lib.ListN.{length-replicate}
use Rattle.raft_log.specs.Layout.{memory_words}
use Rattle.together.specs.Machine.{zeros, start}
use Rattle.together.specs.Entry.{step_fits, lengths_fit, own}

pub length_zeros : (n : ℕ) → length (zeros n) ≡ n
unfolding zeros
length_zeros n = length-replicate n 0

pub length_start : length start ≡ memory_words
unfolding start
length_start = length_zeros memory_words

pub length_own : length own.start ≡ memory_words
unfolding own
length_own = length_start

pub fits_is : (m : List ℕ) (kind : ℕ) (bytes out : List ℕ) → step_fits m kind bytes out ≡ lengths_fit (length m) kind (length bytes) (length out)
unfolding step_fits
fits_is m kind bytes out = rw length_own
