-- What is right with calm is right without.
use Rattle.std.proofs.Common.{Bool, true, false, List, [], ◌∷◌, refl}
use Rattle.together.specs.Promise.{Engine, World, Item, whole, cut, Right, thing_ran, after_thing}

-- with calm promised always, it is promised whenever it is asked for
pub right_less : (calm : Bool) (e : Engine) (w : World) (is : List Item) → Right true e w is → Right calm e w is
unfolding Right
right_less calm e w [] r = λ asked. r refl
right_less calm e w (whole t ∷ is) r = (
  (λ asked. r.0 refl),
  (λ fit.
      let h = r.1 fit in
      (h.0, h.1, h.2, h.3, right_less calm e (after_thing w t (thing_ran h.0 e w t) true h.1) is h.4)),
)
right_less calm e w (cut t n ∷ is) r = (
  (λ asked. r.0 refl),
  (λ fit.
      let h = r.1 fit in
      (h.0, h.1, right_less calm e (after_thing w t (thing_ran n e w t) false h.0) is h.2)),
)
