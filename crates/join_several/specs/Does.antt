-- What an event makes of a memory, beside what it makes of the machine that the memory stands for. Assumes nothing: these are definitions.
use Rattle.std.specs.Prelude.{◌≡◌, ℕ, ◌≤◌, true, false, List, [], ◌∷◌, map, length}
use Rattle.raft_log.specs.Entries.{applied_number}
use Rattle.messages.specs.Letter.{Letter as Message, append as append_message, append_response, append_reject, request_vote, request_vote_response, term_notice}
use Rattle.raft.specs.Header.{loaded}
use Rattle.raft.specs.Outbox.{Mail, mail_due}
use Rattle.protocol.specs.Log.{decisions}
use Rattle.machine.specs.Machine.{Machine, Letter, append, request, vote, ack, reject, here, Out, out, Outcome}
use Rattle.join_several.specs.Stands.{lift_log, Stands}

-- a letter of the code as a letter of the theory
abbrev pub lift_letter : Message → Letter (List ℕ)
lift_letter (append_message t p q k es) = append t p q k (lift_log es)
lift_letter (append_response t i) = ack t i
lift_letter (append_reject t p h) = reject t p h
lift_letter (request_vote t i q) = request t i q
lift_letter (request_vote_response t b) = vote t b
lift_letter (term_notice t) = here t

abbrev pub lift_mail : Mail → Out (List ℕ)
lift_mail l = out l.to (lift_letter l.letter)

-- the letters that are due in memory
unfoldable pub posted : List ℕ → List (Out (List ℕ))
posted m = map lift_mail (mail_due m)

-- nothing is left to be done: no letter is due, and memory is safe
pub record Quiet (m : List ℕ) : Type 0 where
  pub none_due : mail_due m ≡ []
  pub settled : (loaded m).unsettled ≡ false

-- there is room in memory for the log of x
pub record Room (x : Machine (List ℕ)) : Type 0 where
  pub values : length (decisions x.log) ≤ 4096
  pub long : length x.log ≤ 8193

-- term and log, which must last, are as they were
pub record LastingSame (x y : Machine (List ℕ)) : Type 0 where
  pub term : x.term ≡ y.term
  pub log : x.log ≡ y.log

-- THE EVENT that made m₁ of m does what the theory does to x: the memory stands for the machine, the letters that are due are those that it sends, and memory is unsettled if anything
-- that must last has changed
pub record Does (n id : ℕ) (m m₁ : List ℕ) (x : Machine (List ℕ)) (d : Outcome (List ℕ)) : Type 0 where
  pub stands : Stands n id m₁ d.now
  pub sent : posted m₁ ≡ d.sent
  pub safe : (loaded m₁).unsettled ≡ false → LastingSame x d.now
  pub since : (loaded m₁).since ≡ (loaded m).since
  pub applied : applied_number m₁ ≡ applied_number m

-- what becomes of the letters that are due: others are due instead, or the same as before
pub data Told (m m₁ : List ℕ) (o : List (Out (List ℕ))) : Type 0 where
  says : (y : Out (List ℕ)) (ys : List (Out (List ℕ))) → o ≡ y ∷ ys → posted m₁ ≡ o → Told m m₁ o
  keeps : o ≡ [] → posted m₁ ≡ posted m → Told m m₁ o

-- the same of a letter's handling, which may come after a new term was entered
pub record Handles (n id : ℕ) (m m₁ : List ℕ) (x : Machine (List ℕ)) (d : Outcome (List ℕ)) : Type 0 where
  pub stands : Stands n id m₁ d.now
  pub told : Told m m₁ d.sent
  pub still_unsettled : (loaded m).unsettled ≡ true → (loaded m₁).unsettled ≡ true
  pub safe : (loaded m₁).unsettled ≡ false → LastingSame x d.now
  pub since : (loaded m₁).since ≡ (loaded m).since
  pub applied : applied_number m₁ ≡ applied_number m
