-- A run of three machines with stops: two leaders fall, a third renews an empty entry, and something is decided under the first and the last. Assumes nothing: these are definitions and a statement.
use Rattle.std.specs.Prelude.{◌≡◌, true, false, List, [], ◌∷◌}
use Rattle.std.proofs.Math.Option.{none, some}
use Rattle.protocol.specs.Log.{entry}
use Rattle.machine.specs.Machine.{Hint, Conf, append, request, vote, ack, reject, here, tick, receive, event, proposal, decided}
use Rattle.machine.specs.World.{World, whole, early, late, Item, power, input, run, AllAllowed, initial}

unfoldable pub three : Hint → Conf
three h = record { size = 3; wait = 3; batch = 4; room = 10; hint = h }

-- machine 0 times out; 1 leads term 1 with its vote, and takes proposal 0, which 0 acknowledges; then the power of 1 goes
unfoldable pub first : List Item
first =
    power 0
    ∷ power 1
    ∷ power 2
    ∷ input 0 (event tick) (whole false)
    ∷ input 0 (event tick) (whole false)
    ∷ input 0 (event tick) (whole true)
    ∷ input 1 (event (receive 0 (here 1))) (whole true)
    ∷ input 0 (event (receive 1 (request 1 0 0))) (whole false)
    ∷ input 1 (event (receive 0 (vote 1 true))) (whole true)
    ∷ input 1 (proposal 0) (whole true)
    ∷ input 0 (event (receive 1 (append 1 0 0 0 (entry 1 none ∷ entry 1 (some 0) ∷ [])))) (whole true)
    ∷ input 1 (event (receive 0 (ack 1 2))) (whole false)
    ∷ input 1 (event tick) early
    ∷ []

-- 0 leads term 3 with 2's vote; 2 stops just after it has all of 0's log and said so; then the power of 0 goes, before it knows; 2 and 1 have power again
unfoldable pub second : List Item
second =
    input 0 (event tick) (whole false)
    ∷ input 0 (event tick) (whole false)
    ∷ input 0 (event tick) (whole true)
    ∷ input 0 (event tick) (whole false)
    ∷ input 0 (event tick) (whole false)
    ∷ input 0 (event tick) (whole true)
    ∷ input 2 (event (receive 0 (request 3 2 1))) (whole true)
    ∷ input 0 (event (receive 2 (vote 3 true))) (whole true)
    ∷ input 2 (event (receive 0 (append 3 2 1 0 (entry 3 none ∷ [])))) (whole false)
    ∷ input 0 (event (receive 2 (reject 3 2 0))) (whole false)
    ∷ input 2 (event (receive 0 (append 3 0 0 0 (entry 1 none ∷ entry 1 (some 0) ∷ entry 3 none ∷ [])))) (late true 1)
    ∷ input 0 (event tick) early
    ∷ power 2
    ∷ power 1
    ∷ []

-- 1 stands in term 4 and is refused, since its log is behind; 2 leads term 5 with 1's vote, renews the empty entry, and takes proposal 1
unfoldable pub third : List Item
third =
    input 2 (event tick) (whole false)
    ∷ input 2 (event tick) (whole false)
    ∷ input 2 (event tick) (whole true)
    ∷ input 1 (event (receive 2 (here 4))) (whole true)
    ∷ input 2 (event (receive 1 (request 4 2 1))) (whole false)
    ∷ input 1 (event (receive 2 (vote 4 false))) (whole false)
    ∷ input 2 (event tick) (whole false)
    ∷ input 2 (event tick) (whole false)
    ∷ input 2 (event tick) (whole true)
    ∷ input 1 (event (receive 2 (request 5 3 3))) (whole true)
    ∷ input 2 (event (receive 1 (vote 5 true))) (whole true)
    ∷ input 2 (proposal 1) (whole true)
    ∷ input 1 (event (receive 2 (append 5 2 1 0 (entry 5 none ∷ entry 5 (some 1) ∷ [])))) (whole true)
    ∷ input 2 (event (receive 1 (ack 5 4))) (whole false)
    ∷ input 1 (event (receive 2 (append 5 4 5 4 []))) (whole false)
    ∷ []

abbrev pub after_first : Hint → World
after_first h = run (three h) initial first

abbrev pub after_second : Hint → World
after_second h = run (three h) (after_first h) second

abbrev pub after_third : Hint → World
after_third h = run (three h) (after_second h) third

-- of machines that hint by h
pub record ExampleRun (h : Hint) : Type 0 where
  pub first_allowed : AllAllowed (three h) initial first
  pub second_allowed : AllAllowed (three h) (after_first h) second
  pub third_allowed : AllAllowed (three h) (after_second h) third
  -- something is decided under the first leader, which falls and forgets that it is
  pub first_decides : decided ((after_first h).memory 1) ≡ 0 ∷ []
  pub first_falls : (after_first h).up 1 ≡ false
  pub forgets : decided ((after_second h).memory 1) ≡ []
  -- the second one falls too, and leaves an empty entry
  pub second_falls : (after_second h).up 0 ≡ false
  pub second_leaves : ((after_second h).memory 2).log ≡ entry 1 none ∷ entry 1 (some 0) ∷ entry 3 none ∷ []
  -- the last one renews it, and what was decided before is decided still
  pub renews : ((after_third h).memory 2).log ≡ entry 1 none ∷ entry 1 (some 0) ∷ entry 5 none ∷ entry 5 (some 1) ∷ []
  pub third_decides : decided ((after_third h).memory 2) ≡ 0 ∷ 1 ∷ []
  pub all_hear : decided ((after_third h).memory 1) ≡ 0 ∷ 1 ∷ []
  pub one_order : (after_third h).order ≡ 0 ∷ 1 ∷ []
