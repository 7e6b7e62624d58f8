-- Facts about the definitions: what they say of given numbers, and of all. Assumes nothing.
use Rattle.std.specs.Prelude.{◌≡◌, ℕ, ◌+◌, ◌*◌, ◌<◌, ◌≤◌, Bool, true, false, List, Option}
use Rattle.std.specs.List.{AllZip}
use Rattle.raft_log.specs.declared.Index.{Index}
use Rattle.tracker.specs.Majority.{Committed, CommittedSays}
use Rattle.tracker.specs.Votes.{recorded, count_of, tally}
use Rattle.tracker.specs.declared.majority.VoteResult.TheVariants.{Won, Lost}

-- this is the committed index, and no other is
unfoldable pub CommittedIs : List ℕ → Option Index → Type 0
CommittedIs indices r = CommittedSays indices r × ((s : Option Index) → CommittedSays indices s → s ≡ r)

-- while no voter loses anything the committed index does not fall
unfoldable pub CommittedRises : Type 0
CommittedRises = (earlier later : List ℕ) (j k : ℕ) → AllZip (λ a b. a ≤ b) earlier later → Committed earlier j → Committed later k → j ≤ k

-- a voter's second answer changes nothing
unfoldable pub Once : Type 0
Once = (answers : List (Option Bool)) (voter : ℕ) (first second : Bool) → recorded (recorded answers voter first) voter second ≡ recorded answers voter first

-- no more answers are counted than there are voters
unfoldable pub CountedOnce : Type 0
CountedOnce = (answers : List (Option Bool)) (size : ℕ) → count_of true answers size + count_of false answers size ≤ size

-- a vote is won only if more than half granted
unfoldable pub WonByMore : Type 0
WonByMore = (answers : List (Option Bool)) (size : ℕ) → 0 < size → tally answers size ≡ Won → size < 2 * count_of true answers size

-- a vote that is decided stays as it is, whoever answers later
unfoldable pub DecidedStays : Type 0
DecidedStays =
    (answers : List (Option Bool)) (size voter : ℕ) (granted : Bool) →
    (tally answers size ≡ Won → tally (recorded answers voter granted) size ≡ Won) × (tally answers size ≡ Lost → tally (recorded answers voter granted) size ≡ Lost)
