-- Answers to given rows of indexes, as statements about the definitions. Assumes nothing.
use Rattle.std.specs.Prelude.{◌≡◌, ℕ, List}
use Rattle.together.specs.Entry.{HalfSays, half_fits}
use Rattle.together.specs.declared.Reply.{Reply}

-- half of these indexes is answered so, and in no other way
unfoldable pub HalfIs : List ℕ → Reply → Type 0
HalfIs ks r = HalfSays ks (half_fits ks) r × ((s : Reply) → HalfSays ks (half_fits ks) s → s ≡ r)
