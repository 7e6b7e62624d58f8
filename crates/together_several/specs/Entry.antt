-- How a step of the machine of several is told to its caller. Assumes nothing: these are definitions.
use Rattle.std.specs.Prelude.{◌≡◌, ℕ, Bool, true, false, ◌&&◌, List, length, ◌==◌, nat_le}
use Rattle.together.specs.declared.Told.{Told}
use Rattle.together.specs.declared.Told.TheVariants.{No}
use Rattle.together.specs.Promise.{Engine, Event}
use Rattle.together.specs.Entry.{event_of, ActTold}
use Rattle.together.specs.Machine.{start}
use Rattle.together_several.specs.Machine.{own_step}

-- the machine itself
unfoldable pub own : Engine
own = record { start = start; step = own_step }

-- one step: for memories of the machine's own length, up to 4,096 bytes, and at least 4,096 lent ones; for others number 0 is told and nothing is changed
unfoldable pub StepSays : (memory : List ℕ) (kind a b : ℕ) (bytes out : List ℕ) → Bool → Told → (memory₁ out₁ : List ℕ) → Type 0
StepSays memory kind a b bytes out true r memory₁ out₁ =
    (memory₁ ≡ (own.step memory (event_of kind a b bytes)).memory) × ActTold (own.step memory (event_of kind a b bytes)).act r out out₁
StepSays memory kind a b bytes out false r memory₁ out₁ = (r ≡ No 0) × (memory₁ ≡ memory) × (out₁ ≡ out)

-- the same by the event itself: for memories of the machine's own length, events with up to 4,096 bytes, and at least 4,096 lent ones; for others number 0 is told and nothing is changed
unfoldable pub EventSays : (memory : List ℕ) (e : Event) (out : List ℕ) → Bool → Told → (memory₁ out₁ : List ℕ) → Type 0
EventSays memory e out true r memory₁ out₁ = (memory₁ ≡ (own.step memory e).memory) × ActTold (own.step memory e).act r out out₁
EventSays memory e out false r memory₁ out₁ = (r ≡ No 0) × (memory₁ ≡ memory) × (out₁ ≡ out)

unfoldable pub step_fits : (memory : List ℕ) (kind : ℕ) (bytes out : List ℕ) → Bool
step_fits memory kind bytes out = length memory == length own.start && (nat_le kind 5 && (nat_le (length bytes) 4096 && nat_le 4096 (length out)))
