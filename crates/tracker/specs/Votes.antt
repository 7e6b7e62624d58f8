-- Who granted its vote and who refused. Assumes nothing: these are definitions.
use Rattle.std.specs.Prelude.{ℕ, Bool, true, false, cond, not, List, take, Some, None, count_by, Option, slice_index_or, slice_set}
use Rattle.tracker.specs.Majority.{vote_result}
use Rattle.tracker.specs.declared.majority.VoteResult.{VoteResult}

-- a voter's first answer stands
abbrev pub stands : Option Bool → Bool → Option Bool
stands None granted = Some granted
stands (Some first) granted = Some first

-- the answers after one more; a voter that there is no place for does not count
abbrev pub recorded : List (Option Bool) → ℕ → Bool → List (Option Bool)
recorded answers voter granted = slice_set answers voter (stands (slice_index_or answers voter None) granted)

-- whether an answer is there, and is this one
abbrev pub answers_so : Bool → Option Bool → Bool
answers_so granted None = false
answers_so granted (Some given) = cond granted given (not given)

-- how many of the first `size` voters gave this answer
abbrev pub count_of : Bool → List (Option Bool) → ℕ → ℕ
count_of granted answers size = count_by (answers_so granted) (take size answers)

-- how the vote of the first `size` voters stands
abbrev pub tally : List (Option Bool) → ℕ → VoteResult
tally answers size = vote_result size (count_of true answers size) (count_of false answers size)
