-- A run of three machines in which something is committed under each of two leaders, and the second renews an empty entry. Assumes nothing: these are definitions and a statement.
use Rattle.std.specs.Prelude.{◌≡◌, List, [], ◌∷◌, take}
use Rattle.std.proofs.Math.Option.{none, some}
use Rattle.protocol.specs.Log.{entry, decisions}
use Rattle.protocol.specs.History.{Committed}
use Rattle.protocol.specs.Cluster.{Cluster, start, enter, stand, vote, elect, propose, accept, ack, settle, stop, Action, act, after_all, AllPermitted}

-- machine 0 leads term 3 with 1's vote, takes proposal 7, and 1 accepts it; then the power of 0 goes
unfoldable pub first : List Action
first =
    act 0 (enter 3) ∷ act 0 settle ∷ act 0 (stand 3) ∷ act 0 (vote 3) ∷ act 1 (enter 3) ∷ act 1 settle ∷ act 1 (vote 3) ∷ act 0 (elect 3)
    ∷ act 0 (propose 3 7) ∷ act 0 settle ∷ act 0 (ack 3 2) ∷ act 1 (accept 3 0 (entry 3 none ∷ entry 3 (some 7) ∷ [])) ∷ act 1 settle ∷ act 1 (ack 3 2) ∷ act 0 stop ∷ []

-- 1 leads term 4 with 2's vote, but only its empty entry spreads; 2 renews that in term 5, with 1's vote, and takes proposal 8
unfoldable pub second : List Action
second =
    act 1 (enter 4) ∷ act 1 settle ∷ act 1 (stand 4) ∷ act 1 (vote 4) ∷ act 2 (enter 4) ∷ act 2 settle ∷ act 2 (vote 4) ∷ act 1 (elect 4) ∷ act 1 settle
    ∷ act 2 (accept 4 0 (entry 3 none ∷ entry 3 (some 7) ∷ entry 4 none ∷ [])) ∷ act 2 settle ∷ act 2 (ack 4 3)
    ∷ act 2 (enter 5) ∷ act 2 settle ∷ act 2 (stand 5) ∷ act 2 (vote 5) ∷ act 1 (enter 5) ∷ act 1 settle ∷ act 1 (vote 5) ∷ act 2 (elect 5)
    ∷ act 2 (propose 5 8) ∷ act 2 settle ∷ act 2 (ack 5 4) ∷ act 1 (accept 5 2 (entry 5 none ∷ entry 5 (some 8) ∷ [])) ∷ act 1 settle ∷ act 1 (ack 5 4) ∷ []

abbrev pub middle : Cluster
middle = after_all start first

abbrev pub end : Cluster
end = after_all middle second

pub record ExampleRun : Type 0 where
  pub first_permitted : AllPermitted 3 start first
  pub second_permitted : AllPermitted 3 middle second
  -- under the first leader the entry at place 1 is committed, under the last the one at 3
  pub first_committed : Committed 3 middle.history 3 1
  pub first_decides : decisions (take 2 (middle.history.lead 3)) ≡ 7 ∷ []
  pub second_committed : Committed 3 end.history 5 3
  pub second_decides : decisions (take 4 (end.history.lead 5)) ≡ 7 ∷ 8 ∷ []
  -- the empty entry of term 4 is renewed
  pub renewed : end.history.lead 5 ≡ entry 3 none ∷ entry 3 (some 7) ∷ entry 5 none ∷ entry 5 (some 8) ∷ []
