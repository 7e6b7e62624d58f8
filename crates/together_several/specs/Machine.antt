-- The machine of several: what it does at each event, on the words of its memory.
use Rattle.std.specs.Prelude.{ℕ, ◌+◌, ◌-◌, cond, List, [], ◌∷◌, ◌++◌, Some, None, Ok, Err, Option, Result}
use Rattle.std.proofs.Math.Option.{Option as Maybe, none}
use Rattle.raft_log.specs.Values.{value_at}
use Rattle.raft_log.specs.Entries.{applied_number, decided}
use Rattle.messages.specs.Letter.{Letter, letter_bytes, letter_of}
use Rattle.raft.specs.declared.header.Role.{Role}
use Rattle.raft.specs.declared.header.Machine.{Machine}
use Rattle.raft.specs.declared.proposal.Refusal.{Refusal}
use Rattle.raft.specs.Header.{loaded, stored}
use Rattle.raft.specs.Power.{powered}
use Rattle.raft.specs.Election.{ticked}
use Rattle.raft.specs.Proposal.{proposed, refusal_number}
use Rattle.raft.specs.Receive.{received_from_another}
use Rattle.raft.specs.Outbox.{Mail, mail_due, flown_to}
use Rattle.raft.specs.Apply.{settled, due, advanced}
use Rattle.together.specs.House.{Command, propose, how_far}
use Rattle.together.specs.Machine.{answer, decisions_from}
use Rattle.together.specs.Promise.{Event, on, said, came, tick, next, Act, flies, settle, applies, shows, done, refused, Step, are_bytes}

-- the next decision is applied, if one is due
abbrev pub apply_due : List ℕ → Machine Role → Option ℕ → Step
apply_due m x (Some k) = answer (advanced m x (k + 1)) (applies (k + 1) (value_at m k))
apply_due m x None = answer m done

-- the first letter that is due flies; then decisions are applied
abbrev pub send_due : List ℕ → Machine Role → List Mail → Step
send_due m x [] = apply_due m x (due m)
send_due m x (l ∷ ls) = answer (flown_to m l.to) (flies l.to (letter_bytes l.letter))

-- what is due is done: memory is made safe first, then letters fly, then decisions are applied
unfoldable pub go_on : List ℕ → Step
go_on m = cond (loaded m).unsettled (answer (stored m (settled (loaded m))) settle) (send_due m (loaded m) (mail_due m))

abbrev pub after_proposal : List ℕ → Result (List ℕ) Refusal → Step
after_proposal m (Ok m₁) = go_on m₁
after_proposal m (Err why) = answer m (refused (refusal_number why))

abbrev pub said_step : List ℕ → Command → Step
said_step m (propose v) = after_proposal m (proposed m v)
said_step m how_far = answer m (shows (loaded m).since.0)

-- the letter that came, if it is one
abbrev pub letter_come : List ℕ → Maybe Letter
letter_come bs = cond (are_bytes bs) (letter_of bs) none

-- every event changes memory once, and then what is due is done, one act at a time
unfoldable pub own_step : List ℕ → Event → Step
own_step m (on i n) = go_on (powered m i n)
own_step m (said c) = said_step m c
own_step m (came f bs) = go_on (received_from_another m f (letter_come bs))
own_step m tick = go_on (ticked m)
own_step m next = go_on m

-- the letters as they fly
unfoldable pub letters_from : List Mail → List Act
letters_from [] = []
letters_from (l ∷ ls) = flies l.to (letter_bytes l.letter) ∷ letters_from ls

-- THE ACTS that are still to come
unfoldable pub acts : List ℕ → List Act
acts m =
    cond (loaded m).unsettled (settle ∷ []) []
    ++ (letters_from (mail_due m) ++ decisions_from m (applied_number m) (decided m - applied_number m))
