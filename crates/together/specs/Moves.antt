-- What any kind of machine makes of an event, in parts that each kind has its own of.
use Rattle.std.specs.Prelude.{◌≡◌, ℕ, Bool, true, false, ◌&&◌, List, [], length, Ok, Err, Some, None, Option, Result, ◌==◌, nat_le}
use Rattle.raft_log.specs.Layout.{memory_words}
use Rattle.raft.specs.declared.proposal.Refusal.{Refusal}
use Rattle.raft.specs.Proposal.{refusal_number}
use Rattle.together.specs.declared.Told.{Told}
use Rattle.together.specs.declared.Told.TheVariants.{No}
use Rattle.together.specs.declared.engine.Event.{Event as Happening}
use Rattle.together.specs.declared.engine.Event.TheVariants.{Power, Propose, HowFar, Letter, Tick, GoOn}
use Rattle.together.specs.House.{Command, propose, how_far}
use Rattle.together.specs.Promise.{Event, on, said, came, tick, next, shows, refused, Step}
use Rattle.together.specs.Machine.{answer}
use Rattle.together.specs.Entry.{event_of, lengths_fit, Did}

-- what each event makes of a memory, and the act that is due then
pub record Moves : Type 0 where
  pub powered : List ℕ → ℕ → ℕ → List ℕ
  pub proposed : List ℕ → List ℕ → Result (List ℕ) Refusal
  pub since : List ℕ → ℕ
  pub ticked : List ℕ → List ℕ
  pub letter_taken : List ℕ → ℕ → List ℕ → Step
  pub gone_on : List ℕ → Step

abbrev pub after_proposal : Moves → List ℕ → Result (List ℕ) Refusal → Step
after_proposal p m (Ok m₁) = p.gone_on m₁
after_proposal p m (Err why) = answer m (refused (refusal_number why))

abbrev pub said_step : Moves → List ℕ → Command → Step
said_step p m (propose v) = after_proposal p m (p.proposed m v)
said_step p m how_far = answer m (shows (p.since m))

-- every event changes memory once, and then what is due is done, one act at a time
abbrev pub moved : Moves → List ℕ → Event → Step
moved p m (on i n) = p.gone_on (p.powered m i n)
moved p m (said c) = said_step p m c
moved p m (came f bs) = p.letter_taken m f bs
moved p m tick = p.gone_on (p.ticked m)
moved p m next = p.gone_on m

-- what a proposal answers, and memory then
abbrev pub ProposedBy : Moves → List ℕ → List ℕ → Result (Unit {0}) Refusal → List ℕ → Type 0
ProposedBy p m v (Ok u) m₁ = p.proposed m v ≡ Ok m₁
ProposedBy p m v (Err why) m₁ = (p.proposed m v ≡ Err why) × (m₁ ≡ m)

-- the event that happens
abbrev pub event_in : Happening → Event
event_in (Power i n) = on i.0 n.0
event_in (Propose v) = said (propose v.now)
event_in HowFar = said how_far
event_in (Letter f bs) = came f.0 bs.now
event_in Tick = tick
event_in GoOn = next

-- the bytes that come with an event
abbrev pub event_bytes : Event → List ℕ
event_bytes (said (propose v)) = v
event_bytes (said how_far) = []
event_bytes (came f bs) = bs
event_bytes (on i n) = []
event_bytes tick = []
event_bytes next = []

-- a step by the event itself is done: for a memory of the machine's own length, an event with up to 4,096 bytes, and at least 4,096 lent ones
abbrev pub event_fits : ℕ → Event → ℕ → Bool
event_fits words e lent = words == memory_words && (nat_le (length (event_bytes e)) 4096 && nat_le 4096 lent)

-- the event of a number up to 5
abbrev pub EventRead : (kind a b : ℕ) (bytes : List ℕ) → Option Happening → Type 0
EventRead kind a b bytes (Some e) = (nat_le kind 5 ≡ true) × (event_in e ≡ event_of kind a b bytes)
EventRead kind a b bytes None = nat_le kind 5 ≡ false

-- a step by the event's number
abbrev pub SteppedIf : Bool → Moves → List ℕ → Event → Told → (m₁ out out₁ : List ℕ) → Type 0
SteppedIf true p m e r m₁ out out₁ = Did (moved p m e) r m₁ out out₁
SteppedIf false p m e r m₁ out out₁ = (r ≡ No 0) × (m₁ ≡ m) × (out₁ ≡ out)

abbrev pub Stepped : Moves → (m : List ℕ) (kind a b : ℕ) (bytes out : List ℕ) → Told → (m₁ out₁ : List ℕ) → Type 0
Stepped p m kind a b bytes out r m₁ out₁ = SteppedIf (lengths_fit (length m) kind (length bytes) (length out)) p m (event_of kind a b bytes) r m₁ out out₁
