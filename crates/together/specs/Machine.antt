-- The machine: what it does at each event, on the words of its memory.
use Rattle.std.specs.Prelude.{ℕ, zero, suc, ◌+◌, ◌-◌, cond, List, [], ◌∷◌, ◌++◌, replicate, Some, None, Ok, Err, Option, Result}
use Rattle.raft_log.specs.Layout.{memory_words}
use Rattle.raft_log.specs.Values.{value_at}
use Rattle.raft_log.specs.Entries.{applied_number, decided}
use Rattle.solo.specs.declared.header.Role.{Role}
use Rattle.raft.specs.declared.header.Machine.{Machine}
use Rattle.raft.specs.declared.proposal.Refusal.{Refusal}
use Rattle.solo.specs.Header.{loaded, stored}
use Rattle.solo.specs.Power.{powered}
use Rattle.solo.specs.Election.{ticked}
use Rattle.solo.specs.Proposal.{proposed}
use Rattle.raft.specs.Proposal.{refusal_number}
use Rattle.solo.specs.Apply.{advanced}
use Rattle.raft.specs.Apply.{settled, due}
use Rattle.together.specs.House.{Command, propose, how_far}
use Rattle.together.specs.Promise.{Event, on, said, came, tick, next, Act, settle, applies, shows, done, refused, Step}

abbrev pub answer : List ℕ → Act → Step
answer m a = record { memory = m; act = a }

-- the next decision is applied, if one is due
abbrev pub apply_due : List ℕ → Machine Role → Option ℕ → Step
apply_due m x (Some k) = answer (advanced m x (k + 1)) (applies (k + 1) (value_at m k))
apply_due m x None = answer m done

-- what is due is done: memory is made safe first, then decisions are applied
unfoldable pub go_on : List ℕ → Step
go_on m = cond (loaded m).unsettled (answer (stored m (settled (loaded m))) settle) (apply_due m (loaded m) (due m))

abbrev pub after_proposal : List ℕ → Result (List ℕ) Refusal → Step
after_proposal m (Ok m₁) = go_on m₁
after_proposal m (Err why) = answer m (refused (refusal_number why))

abbrev pub said_step : List ℕ → Command → Step
said_step m (propose v) = after_proposal m (proposed m v)
said_step m how_far = answer m (shows (loaded m).since.0)

-- every event changes memory once, and then what is due is done, one act at a time
unfoldable pub own_step : List ℕ → Event → Step
own_step m (on i n) = go_on (powered m i n)
own_step m (said c) = said_step m c
own_step m (came i bs) = answer m done
own_step m tick = go_on (ticked m)
own_step m next = go_on m

unfoldable pub zeros : ℕ → List ℕ
zeros n = replicate n 0

-- memory at the start
unfoldable pub start : List ℕ
start = zeros memory_words

-- decisions k + 1, k + 2 .. of which there are n
unfoldable pub decisions_from : List ℕ → ℕ → ℕ → List Act
decisions_from m k zero = []
decisions_from m k (suc n) = applies (k + 1) (value_at m k) ∷ decisions_from m (k + 1) n

-- THE ACTS that are still to come
unfoldable pub acts : List ℕ → List Act
acts m = cond (loaded m).unsettled (settle ∷ []) [] ++ decisions_from m (applied_number m) (decided m - applied_number m)
