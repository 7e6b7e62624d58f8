-- From "whatever happens keeps an invariant" to the main promise, for any engine and any invariant.
use Rattle.std.proofs.Common.{eqb, ◌≡◌, ℕ, suc, ◌+◌, ◌<◌, ◌≤◌, Bool, true, false, List, [], ◌∷◌, length, arith}
use Rattle.together.specs.Promise.{Engine, World, Thing, Item, whole, cut, proper, thing_ran, after_thing, applied_right, may_end, Calm, Right}
use Rattle.together.specs.House.{far}
use Rattle.together.specs.Promise.{machine, so_many, world, Steady, Whole}

-- how something goes that is not cut short: it ends as it may, what it applies is right, and the invariant holds of the world after
pub record WholeKept (e : Engine) (I : World → Type 0) (w : World) (t : Thing) : Type 0 where
  pub acts : ℕ
  pub order : List ℕ
  pub ends : may_end w t (thing_ran acts e w t) ≡ true
  pub right : applied_right w t (thing_ran acts e w t) order ≡ true
  pub kept : I (after_thing w t (thing_ran acts e w t) true order)

-- ... and with a stop after so many acts
pub record CutKept (e : Engine) (I : World → Type 0) (w : World) (t : Thing) (n : ℕ) : Type 0 where
  pub order : List ℕ
  pub right : applied_right w t (thing_ran n e w t) order ≡ true
  pub kept : I (after_thing w t (thing_ran n e w t) false order)

-- I k: the invariant after k things; at most 2^32 happen
pub record Keeps (calm : Bool) (e : Engine) (I : ℕ → World → Type 0) : Type 0 where
  pub settles : (k : ℕ) (w : World) → k ≤ 4294967296 → I k w → calm ≡ true → Calm e w
  pub whole_keeps : (k : ℕ) (w : World) (t : Thing) → k < 4294967296 → I k w → proper w t ≡ true → WholeKept e (I (suc k)) w t
  pub cut_keeps : (k : ℕ) (w : World) (t : Thing) (n : ℕ) → k < 4294967296 → I k w → proper w t ≡ true → CutKept e (I (suc k)) w t n

pub keeps_right :
    (calm : Bool) (e : Engine) (I : ℕ → World → Type 0) → Keeps calm e I → (is : List Item) (k : ℕ) (w : World) → k + length is ≤ 4294967296 → I k w →
    Right calm e w is
unfolding Right
keeps_right calm e I h [] k w l i = λ c. h.settles k w (omega arith) i c
keeps_right calm e I h (whole t ∷ is) k w l i = (
  λ c. h.settles k w (omega arith) i c,
  λ p. let g = h.whole_keeps k w t (omega arith) i p in
      (g.acts, g.order, g.ends, g.right, keeps_right calm e I h is (suc k) (after_thing w t (thing_ran g.acts e w t) true g.order) (omega arith) g.kept),
)
keeps_right calm e I h (cut t n ∷ is) k w l i = (
  λ c. h.settles k w (omega arith) i c,
  λ p. let g = h.cut_keeps k w t n (omega arith) i p in
      (g.order, g.right, keeps_right calm e I h is (suc k) (after_thing w t (thing_ran n e w t) false g.order) (omega arith) g.kept),
)

-- THE MAIN PROMISE of an engine that keeps an invariant of so many machines
pub keeps_whole : (e : Engine) (I : ℕ → ℕ → World → Type 0) → Steady e → ((many : ℕ) → Keeps (eqb many 1) e (I many)) →
    ((many : ℕ) → 1 ≤ many → many ≤ 7 → I many 0 (world (so_many many (machine [] e.start false (far 0 []))) [] [] [] [])) → Whole false e
unfolding Whole
keeps_whole e I s k f = (
  s,
  λ many is l₁ l₂ l₃. keeps_right (eqb many 1) e (I many) (k many) is 0 (world (so_many many (machine [] e.start false (far 0 []))) [] [] [] []) (omega arith) (f many l₁ l₂),
)
