-- A machine and the letters it sends, whatever the entries of its log hold. Assumes nothing: these are definitions.
use Rattle.std.specs.Prelude.{ℕ, Bool, false, List, take}
use Rattle.protocol.specs.Log.{Log, decisions}

-- a way of hinting: what a machine that refuses an append answers, of its log's length, the term before each place of it, and the place and the term that the append named
abbrev pub Hint : Type 0
Hint = ℕ → (ℕ → ℕ) → ℕ → ℕ → ℕ

-- how many machines, ticks to a time-out, entries to a letter, values to a log, and the way of hinting
pub record Conf : Type 0 where
  pub size : ℕ
  pub wait : ℕ
  pub batch : ℕ
  pub room : ℕ
  pub hint : Hint

-- a candidate knows who voted for it; a leader what each machine has acknowledged (match), and what it is sent next
pub data Role : Type 0 where
  follower : Role
  candidate : (ℕ → Bool) → Role
  leader : (ℕ → ℕ) → (ℕ → ℕ) → Role

-- term, log and commit (how many first entries are known to be committed) last over a stop; role, heard (the leader of this term has spoken) and elapsed (ticks) do not
pub record Machine (A : Type 0) : Type 0 where
  pub term : ℕ
  pub role : Role
  pub heard : Bool
  pub elapsed : ℕ
  pub log : Log A
  pub commit : ℕ

abbrev pub machine : {A : Type 0} → ℕ → Role → Bool → ℕ → Log A → ℕ → Machine A
machine t r h e l k = record { term = t; role = r; heard = h; elapsed = e; log = l; commit = k }

pub data Letter (A : Type 0) : Type 0 where
  append : ℕ → ℕ → ℕ → ℕ → Log A → Letter A  -- term, entries before, term of the last of them, commit, entries
  request : ℕ → ℕ → ℕ → Letter A  -- for votes: term, length of the log, its last term
  vote : ℕ → Bool → Letter A  -- term, granted
  ack : ℕ → ℕ → Letter A  -- term, how many first entries
  reject : ℕ → ℕ → ℕ → Letter A  -- term, entries before, hint
  here : ℕ → Letter A  -- term: the sender has reached it

abbrev pub of_term : {A : Type 0} → Letter A → ℕ
of_term (append t p q k es) = t
of_term (request t len last) = t
of_term (vote t b) = t
of_term (ack t i) = t
of_term (reject t p h) = t
of_term (here t) = t

pub record Out (A : Type 0) : Type 0 where
  pub to : ℕ
  pub letter : Letter A

abbrev pub out : {A : Type 0} → ℕ → Letter A → Out A
out j l = record { to = j; letter = l }

-- what an event leaves: the machine, and letters that are due, in turn
pub record Outcome (A : Type 0) : Type 0 where
  pub now : Machine A
  pub sent : List (Out A)

abbrev pub outcome : {A : Type 0} → Machine A → List (Out A) → Outcome A
outcome m o = record { now = m; sent = o }

-- a tick, or a letter that came from a machine
pub data Event (A : Type 0) : Type 0 where
  tick : Event A
  receive : ℕ → Letter A → Event A

-- all that can happen to a machine that is up
pub data Input (A : Type 0) : Type 0 where
  event : Event A → Input A
  proposal : A → Input A

-- what a stop leaves, and what power makes of it
pub record Persistent (A : Type 0) : Type 0 where
  pub term : ℕ
  pub log : Log A
  pub commit : ℕ

abbrev pub persist : {A : Type 0} → Machine A → Persistent A
persist m = record { term = m.term; log = m.log; commit = m.commit }

abbrev pub restart : {A : Type 0} → Persistent A → Machine A
restart k = machine k.term follower false 0 k.log k.commit

-- what a machine holds for decided
unfoldable pub decided : {A : Type 0} → Machine A → List A
decided m = decisions (take m.commit m.log)
