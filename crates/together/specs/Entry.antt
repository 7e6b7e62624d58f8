-- What the entry `half` answers, and how a step of the machine is told to its caller. Assumes nothing: these are definitions.
use Rattle.std.specs.Prelude.{◌≡◌, ℕ, ◌*◌, Bool, true, false, not, ◌&&◌, leb, List, ◌++◌, length, drop, ◌==◌, nat_eq, nat_le, nat_lt}
use Rattle.raft_log.specs.Layout.{memory_words}
use Rattle.together.specs.House.{pick, or, every, any, those, none_of, propose, how_far}
use Rattle.together.specs.declared.Reply.{Reply}
use Rattle.together.specs.declared.Reply.TheVariants.{Index, Refused}
use Rattle.together.specs.Promise.{Engine, Event, on, said, came, tick, next, Act, flies, settle, applies, shows, done, refused, Step}
use Rattle.together.specs.Machine.{own_step, start}
use Rattle.together.specs.declared.Told.{Told}
use Rattle.together.specs.declared.Told.TheVariants.{Flies, Settle, Applies, Shows, Done, No}

abbrev pub smaller : ℕ → ℕ → ℕ
smaller a b = pick (nat_lt a b) a b

-- more than half have at least k
abbrev pub half_have : List ℕ → ℕ → Bool
half_have ks k = nat_lt (length ks) (2 * length (those (λ j. leb k j) ks))

-- up to 1,024 of them: the largest that more than half have; refused with 1 if there are none, or more
unfoldable pub HalfSays : (ks : List ℕ) → Bool → Reply → Type 0
HalfSays ks true r = (k : ℕ) × (r ≡ Index k) × (any (nat_eq k) ks ≡ true) × (half_have ks k ≡ true) × (every (λ j. or (nat_le j k) (not (half_have ks j))) ks ≡ true)
HalfSays ks false r = r ≡ Refused 1

abbrev pub half_fits : List ℕ → Bool
half_fits ks = not (none_of ks) && nat_le (length ks) 1024

-- the machine itself
unfoldable pub own : Engine
own = record { start = start; step = own_step }

-- 0 start: which machine, of how many; 1 propose; 2 how far; 3 a letter, from whom; 4 a tick; 5 go on
unfoldable pub event_of : ℕ → ℕ → ℕ → List ℕ → Event
event_of k a b bytes =
    pick (k == 0) (on a b) (pick (k == 1) (said (propose bytes)) (pick (k == 2) (said how_far) (pick (k == 3) (came a bytes) (pick (k == 4) tick next))))

unfoldable pub ActTold : Act → Told → (out out₁ : List ℕ) → Type 0
ActTold (flies t bs) r out out₁ = (r ≡ Flies t (length bs)) × (out₁ ≡ bs ++ drop (length bs) out)
ActTold settle r out out₁ = (r ≡ Settle) × (out₁ ≡ out)
ActTold (applies k v) r out out₁ = (r ≡ Applies k (length v)) × (out₁ ≡ v ++ drop (length v) out)
ActTold (shows n) r out out₁ = (r ≡ Shows n) × (out₁ ≡ out)
ActTold done r out out₁ = (r ≡ Done) × (out₁ ≡ out)
ActTold (refused k) r out out₁ = (r ≡ No k) × (out₁ ≡ out)

-- one step: for memories of the machine's own length, up to 4,096 bytes, and at least 4,096 lent ones; for others number 0 is told and nothing is changed
unfoldable pub StepSays : (memory : List ℕ) (kind a b : ℕ) (bytes out : List ℕ) → Bool → Told → (memory₁ out₁ : List ℕ) → Type 0
StepSays memory kind a b bytes out true r memory₁ out₁ =
    (memory₁ ≡ (own.step memory (event_of kind a b bytes)).memory) × ActTold (own.step memory (event_of kind a b bytes)).act r out out₁
StepSays memory kind a b bytes out false r memory₁ out₁ = (r ≡ No 0) × (memory₁ ≡ memory) × (out₁ ≡ out)

-- the same by the event itself: for memories of the machine's own length, events with up to 4,096 bytes, and at least 4,096 lent ones; for others number 0 is told and nothing is changed
unfoldable pub EventSays : (memory : List ℕ) (e : Event) (out : List ℕ) → Bool → Told → (memory₁ out₁ : List ℕ) → Type 0
EventSays memory e out true r memory₁ out₁ = (memory₁ ≡ (own.step memory e).memory) × ActTold (own.step memory e).act r out out₁
EventSays memory e out false r memory₁ out₁ = (r ≡ No 0) × (memory₁ ≡ memory) × (out₁ ≡ out)

unfoldable pub step_fits : (memory : List ℕ) (kind : ℕ) (bytes out : List ℕ) → Bool
step_fits memory kind bytes out = length memory == length own.start && (nat_le kind 5 && (nat_le (length bytes) 4096 && nat_le 4096 (length out)))

-- how a step is told
abbrev pub Did : Step → Told → (memory₁ out out₁ : List ℕ) → Type 0
Did s r memory₁ out out₁ = (memory₁ ≡ s.memory) × ActTold s.act r out out₁

-- step_fits by the lengths alone
abbrev pub lengths_fit : ℕ → ℕ → ℕ → ℕ → Bool
lengths_fit words kind long lent = words == memory_words && (nat_le kind 5 && (nat_le long 4096 && nat_le 4096 lent))
