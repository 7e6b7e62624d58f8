-- The memory's length, and when a call of `step` fits.
use Rattle.std.proofs.Common.{◌≡◌, ℕ, List, length}
use Rattle.raft_log.specs.Layout.{memory_words}
use Rattle.together.specs.Entry.{lengths_fit}
use Rattle.together.proofs.Lengths.{length_start}
use Rattle.together_several.specs.Entry.{step_fits, own}

pub length_own : length own.start ≡ memory_words
unfolding own
length_own = length_start

pub fits_is : (m : List ℕ) (kind : ℕ) (bytes out : List ℕ) → step_fits m kind bytes out ≡ lengths_fit (length m) kind (length bytes) (length out)
unfolding step_fits
fits_is m kind bytes out = rw length_own
