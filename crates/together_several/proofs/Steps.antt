-- What the parts of a machine do at an event is what its step does.
use Rattle.std.proofs.Common.{◌≡◌, ℕ, Bool, true, false, List, Ok, Err, Result, refl, subst}
use Rattle.raft.specs.declared.proposal.Refusal.{Refusal}
use Rattle.together.specs.declared.Told.{Told}
use Rattle.together.specs.House.{propose, how_far}
use Rattle.together.specs.Promise.{Event, on, said, came, tick, next, Step}
use Rattle.together.specs.Entry.{event_of, Did}
use Rattle.together_several.specs.Machine.{own_step, after_proposal as after_own}
use Rattle.together_several.specs.Entry.{StepSays, EventSays, own}
use Rattle.together.specs.Moves.{moved, after_proposal, SteppedIf}
use Rattle.together_several.specs.Several.{several}

after_is : (m : List ℕ) (r : Result (List ℕ) Refusal) → after_proposal several m r ≡ after_own m r
after_is m (Ok m₁) = refl
after_is m (Err why) = refl

pub moved_is : (m : List ℕ) (e : Event) → moved several m e ≡ own.step m e
unfolding own own_step
moved_is m (on i n) = refl
moved_is m (said (propose v)) = after_is m (several.proposed m v)
moved_is m (said how_far) = refl
moved_is m (came f bs) = refl
moved_is m tick = refl
moved_is m next = refl

pub says : (m : List ℕ) (kind a b : ℕ) (bytes out : List ℕ) (fits : Bool) (r : Told) (m₁ out₁ : List ℕ) →
    SteppedIf fits several m (event_of kind a b bytes) r m₁ out out₁ → StepSays m kind a b bytes out fits r m₁ out₁
unfolding StepSays
says m kind a b bytes out true r m₁ out₁ h = subst (λ (s : Step). Did s r m₁ out out₁) (moved_is m (event_of kind a b bytes)) h
says m kind a b bytes out false r m₁ out₁ h = h

pub event_says : (m : List ℕ) (e : Event) (out : List ℕ) (fits : Bool) (r : Told) (m₁ out₁ : List ℕ) → SteppedIf fits several m e r m₁ out out₁ → EventSays m e out fits r m₁ out₁
unfolding EventSays
event_says m e out true r m₁ out₁ h = subst (λ (s : Step). Did s r m₁ out out₁) (moved_is m e) h
event_says m e out false r m₁ out₁ h = h
