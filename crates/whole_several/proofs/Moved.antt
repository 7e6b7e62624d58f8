-- From what an event did to one machine to the world after it.
use Rattle.std.proofs.Common.{◌≡◌, ℕ, suc, ◌<◌, ◌≤◌, Bool, true, false, not, ◌&&◌, eqb, ltb, ◌≢◌, List, [], ◌∷◌, ◌++◌, length, sym, refl, ap, ◌∙◌, subst, inl, inr, arith}
use Rattle.std.proofs.lemmas.List.{length_push}
use Rattle.std.proofs.lemmas.Bool.{lt-ltb, eq-eqb, ne_eqb, and_from, cases_eq, not_from_false, false≢true}
use Rattle.protocol.specs.Lists.{In, All, Apart, Begins}
use Rattle.protocol.proofs.Updates.{upd_same}
use Rattle.protocol.proofs.Lists.{all_both, begins_length}
use Rattle.machine.specs.Machine.{Out, Input}
use Rattle.machine.specs.Step.{step}
use Rattle.machine.specs.World.{World as Theory, Mail, post, whole, input, next, initial, RunsTo, Reachable}
use Rattle.machine.proofs.Terms.{TermsBelow}
use Rattle.machine.proofs.Steps.{order_ok, runs_trans}
use Rattle.join_several.specs.Stands.{conf}
use Rattle.together.specs.House.{pick, or, every, any, each, propose, how_far, Far, all_in_turn, far_after, all_apart, an_order, begins, by_order}
use Rattle.together.specs.Promise.{Letter, Ran, Machine, machine_at, set_machine, Flown, flown, World, Thing, power, says, delivers, ticks, to_whom, before, after_machine, with_proposal, after_thing, applied_right}
use Rattle.whole.proofs.Orders.{nth_front, at_set_same, at_set_other, length_set_machine}
use Rattle.whole_several.proofs.Joined.{Agrees, Rests, Safe, Carried, Boxes, Joined}

-- the order's conditions, as the theory and as the statements have them
pub every_all : (n : ℕ) (o : List ℕ) → All (λ p. p < n) o → every (λ j. ltb j n) o ≡ true
unfolding every
every_all n [] h = refl
every_all n (x ∷ xs) h = and_from (ltb x n) (every (λ j. ltb j n) xs) (lt-ltb x n h.0) (every_all n xs h.1)

any_none : (x : ℕ) (xs : List ℕ) → (In x xs → ⊥) → any (eqb x) xs ≡ false
unfolding any
any_none x [] h = refl
any_none x (y ∷ ys) h = ap (λ (b : Bool). or b (any (eqb x) ys)) (ne_eqb x y (λ e. h (inl (sym e)))) ∙ any_none x ys (λ i. h (inr i))

pub apart_all : (o : List ℕ) → Apart o → all_apart o ≡ true
unfolding all_apart
apart_all [] h = refl
apart_all (x ∷ xs) h = and_from (not (any (eqb x) xs)) (all_apart xs) (not_from_false (any (eqb x) xs) (any_none x xs h.0)) (apart_all xs h.1)

pub begins_true : (a b : List ℕ) → Begins a b → begins a b ≡ true
unfolding Begins begins
begins_true a b h = subst (λ (x : List ℕ). begins a x ≡ true) h.1 (front a h.0)
  where
    front : (xs ys : List ℕ) → begins xs (xs ++ ys) ≡ true
    front [] ys = refl
    front (x ∷ xs) ys = and_from (eqb x x) (begins xs (xs ++ ys)) (eq-eqb x x refl) (front xs ys)

-- what was proposed stays so
pub agrees_push : (ps : List (List ℕ)) (v : List ℕ) (g : ℕ → List ℕ) → Agrees g (ps ++ v ∷ []) → Agrees g ps
agrees_push ps v g h i l = h i (omega (arith, length_push ps v)) ∙ nth_front ps v i l

pub agrees_later : (ps : List (List ℕ)) (t : Thing) (e : ℕ) (g : ℕ → List ℕ) → Agrees g (with_proposal ps t e) → Agrees g ps
unfolding with_proposal
agrees_later ps (power h) e g a = a
agrees_later ps (says h (propose v)) e g a = by (or (eqb e 0) (eqb e 1000)) a
  where
    by : (b : Bool) → Agrees g (pick b (ps ++ v ∷ []) ps) → Agrees g ps
    by true a = agrees_push ps v g a
    by false a = a
agrees_later ps (says h how_far) e g a = a
agrees_later ps (delivers k) e g a = a
agrees_later ps (ticks h) e g a = a

-- WHAT AN EVENT DID to machine h, beside an item of the theory's world, or none; ps is what was proposed then, f how far the machine had come before
pub record Moved (n k h : ℕ) (ps : List (List ℕ)) (f : Far) (w : Theory) (r : Ran) (up : Bool) : Type 0 where
  pub to : Theory
  pub path : RunsTo (conf n) w to
  pub terms : TermsBelow to (suc k)
  pub proposals : length ps ≡ to.proposals
  pub others_up : (j : ℕ) → j ≢ h → to.up j ≡ w.up j
  pub others_memory : (j : ℕ) → j ≢ h → to.memory j ≡ w.memory j
  pub others_stable : (j : ℕ) → j ≢ h → to.stable j ≡ w.stable j
  pub this_up : to.up h ≡ up
  pub network : (l : Mail) → In l w.network → In l to.network
  pub grows : Begins w.order to.order
  pub turn : all_in_turn f r.did ≡ true
  pub by : every (by_order ps to.order) r.did ≡ true
  pub ever : (far_after f r.did).ever ≤ length to.order
  pub safe : Safe n ps (to.stable h) r.stable (far_after f r.did)
  pub rests : up ≡ true → Rests n h ps (to.memory h) r.memory (far_after f r.did)
  pub flew : All (Carried ps to) (flown h r.flew)

-- the same of an event that came to its end: it is the input e of the theory, and all its letters flew
pub record Became (n k h : ℕ) (ps : List (List ℕ)) (f : Far) (w : Theory) (r : Ran) (e : Input ℕ) : Type 0 where
  pub moved : Moved n k h ps f w r true
  pub settles : Bool
  pub is : moved.to ≡ next (conf n) w (input h e (whole settles))
  pub boxes : Boxes ps moved.to (flown h r.flew) (post h (step (conf n) h (w.memory h) e).sent)

-- the machine is what the theory makes of it; and where it sends nothing, nothing flew
module _ (n k h : ℕ) (ps : List (List ℕ)) (f : Far) (w : Theory) (r : Ran) (e : Input ℕ) (z : Became n k h ps f w r e) where
  pub became_now : z.moved.to.memory h ≡ (step (conf n) h (w.memory h) e).now
  became_now = ap (λ (y : Theory). y.memory h) z.is ∙ upd_same w.memory h (step (conf n) h (w.memory h) e).now

  pub became_silent : (step (conf n) h (w.memory h) e).sent ≡ [] → r.flew ≡ []
  unfolding each post
  became_silent q = none r.flew (subst (λ (os : List (Out ℕ)). Boxes ps z.moved.to (flown h r.flew) (post h os)) q z.boxes)
    where
      none : (ls : List Letter) → Boxes ps z.moved.to (flown h ls) [] → ls ≡ []
      none [] b = refl
      none (l ∷ ls) b = absurd b

-- what no event touched stays right as more is proposed
module _ (ps ps₁ : List (List ℕ)) (later : (g : ℕ → List ℕ) → Agrees g ps₁ → Agrees g ps) where
  pub safe_later : {n : ℕ} {k : Rattle.machine.specs.Machine.Persistent ℕ} {s : List ℕ} {f : Far} → Safe n ps k s f → Safe n ps₁ k s f
  safe_later z =
      record { tidy = z.tidy; small = z.small; log = λ g a. z.log g (later g a); commit = z.commit; term = z.term; low = z.low; reach = z.reach }

  pub rests_later : {n h : ℕ} {x : Rattle.machine.specs.Machine.Machine ℕ} {m : List ℕ} {f : Far} → Rests n h ps x m f → Rests n h ps₁ x m f
  rests_later z =
      let y = z.going in
      record {
        going = record { means = λ g a. y.means g (later g a); small = y.small; since = y.since; turn = y.turn; low = y.low; reach = y.reach; last = y.last };
        quiet = z.quiet;
        all = z.all;
      }

  module _ (w w₁ : Theory) (grown : (l : Mail) → In l w.network → In l w₁.network) where
    carried_later : (l : Flown) → Carried ps w l → Carried ps₁ w₁ l
    carried_later l z =
        record { message = z.message; letter = z.letter; bytes = z.bytes; reads = z.reads; fits = z.fits; flew = grown _ z.flew; means = λ g a. z.means g (later g a) }

    all_carried : (ls : List Flown) → All (Carried ps w) ls → All (Carried ps₁ w₁) ls
    all_carried [] h = tt
    all_carried (l ∷ ls) h = (carried_later l h.0, all_carried ls h.1)

module _
    (n k : ℕ) (v : World) (w : Theory) (j : Joined n k v w) (t : Thing) (r : Ran) (up : Bool) (here : to_whom v t < n)
    (z : Moved n k (to_whom v t) (with_proposal v.proposed t r.end) (before t (machine_at v.machines (to_whom v t))).how_it_got w r up) where
  abbrev ps₁ : List (List ℕ)
  ps₁ = with_proposal v.proposed t r.end

  abbrev old : Machine
  old = machine_at v.machines (to_whom v t)

  pub moved_reach : Reachable (conf n) z.to
  moved_reach = runs_trans (conf n) initial w z.to j.reach z.path

  -- what was applied is right
  pub moved_right : applied_right v t r z.to.order ≡ true
  moved_right =
      let ok = order_ok (conf n) z.to moved_reach in
      let below : every (λ i. ltb i (length ps₁)) z.to.order ≡ true = subst (λ (x : ℕ). every (λ i. ltb i x) z.to.order ≡ true) (sym z.proposals) (every_all z.to.proposals z.to.order ok.0) in
      let onward : begins v.order z.to.order ≡ true = subst (λ (x : List ℕ). begins x z.to.order ≡ true) (sym j.order) (begins_true w.order z.to.order z.grows) in
      and_from (all_in_turn (before t old).how_it_got r.did && every (by_order ps₁ z.to.order) r.did) (an_order ps₁ z.to.order && begins v.order z.to.order)
      (and_from (all_in_turn (before t old).how_it_got r.did) (every (by_order ps₁ z.to.order) r.did) z.turn z.by)
      (and_from (an_order ps₁ z.to.order) (begins v.order z.to.order)
      (and_from (every (λ i. ltb i (length ps₁)) z.to.order) (all_apart z.to.order) below (apart_all z.to.order ok.1)) onward)

  abbrev new : Machine
  new = after_machine t old r up

  abbrev ms : List Machine
  ms = set_machine v.machines (to_whom v t) new

  -- this machine, and any other
  is_new : (h : ℕ) → h ≡ to_whom v t → machine_at ms h ≡ new
  is_new h e = ap (machine_at ms) e ∙ at_set_same v.machines (to_whom v t) new (omega (arith, j.number))

  is_old : (h : ℕ) → h ≢ to_whom v t → machine_at ms h ≡ machine_at v.machines h
  is_old h d = at_set_other v.machines (to_whom v t) h new d

  pub moved_joined : Joined n (suc k) (after_thing v t r up z.to.order) z.to
  moved_joined =
      record {
        some_are = j.some_are;
        few = j.few;
        number = length_set_machine v.machines (to_whom v t) new ∙ j.number;
        reach = moved_reach;
        terms = z.terms;
        proposals = z.proposals;
        order = refl;
        wire = all_both (Carried ps₁ z.to) v.wire (flown (to_whom v t) r.flew) (all_carried v.proposed ps₁ later w z.to z.network v.wire j.wire) z.flew;
        up = λ h l. elim (cases_eq h (to_whom v t)) [ inl e ↦ up_new h e | inr d ↦ up_old h l d ];
        safe = λ h l. elim (cases_eq h (to_whom v t)) [ inl e ↦ safe_new h e | inr d ↦ safe_old h l d ];
        rests = λ h l u. elim (cases_eq h (to_whom v t)) [ inl e ↦ rests_new h e u | inr d ↦ rests_old h l d u ];
        ever = λ h l. elim (cases_eq h (to_whom v t)) [ inl e ↦ ever_new h e | inr d ↦ ever_old h l d ];
      }
    where
      later : (g : ℕ → List ℕ) → Agrees g ps₁ → Agrees g v.proposed
      later g a = agrees_later v.proposed t r.end g a

      up_new : (h : ℕ) → h ≡ to_whom v t → (machine_at ms h).up ≡ z.to.up h
      up_new h e = ap (λ (x : Machine). x.up) (is_new h e) ∙ (sym z.this_up ∙ ap z.to.up (sym e))

      up_old : (h : ℕ) → h < n → h ≢ to_whom v t → (machine_at ms h).up ≡ z.to.up h
      up_old h l d = ap (λ (x : Machine). x.up) (is_old h d) ∙ (j.up h l ∙ sym (z.others_up h d))

      safe_new : (h : ℕ) → h ≡ to_whom v t → Safe n ps₁ (z.to.stable h) (machine_at ms h).stable (machine_at ms h).how_it_got
      safe_new h e =
          subst (λ (x : Machine). Safe n ps₁ (z.to.stable h) x.stable x.how_it_got) (sym (is_new h e))
          (subst (λ (i : ℕ). Safe n ps₁ (z.to.stable i) new.stable new.how_it_got) (sym e) z.safe)

      safe_old : (h : ℕ) → h < n → h ≢ to_whom v t → Safe n ps₁ (z.to.stable h) (machine_at ms h).stable (machine_at ms h).how_it_got
      safe_old h l d =
          subst (λ (x : Machine). Safe n ps₁ (z.to.stable h) x.stable x.how_it_got) (sym (is_old h d))
          (subst (λ (x : Rattle.machine.specs.Machine.Persistent ℕ). Safe n ps₁ x (machine_at v.machines h).stable (machine_at v.machines h).how_it_got) (sym (z.others_stable h d))
          (safe_later v.proposed ps₁ later (j.safe h l)))

      memory_new : (b : Bool) → b ≡ true → up ≡ b → r.memory ≡ pick b r.memory []
      memory_new true e q = refl
      memory_new false e q = absurd (false≢true e)

      rests_new : (h : ℕ) → h ≡ to_whom v t → (machine_at ms h).up ≡ true → Rests n h ps₁ (z.to.memory h) (machine_at ms h).memory (machine_at ms h).how_it_got
      rests_new h e u =
          let is_up : up ≡ true = sym (ap (λ (x : Machine). x.up) (is_new h e)) ∙ u in
          subst (λ (x : Machine). Rests n h ps₁ (z.to.memory h) x.memory x.how_it_got) (sym (is_new h e))
          (subst (λ (i : ℕ). Rests n i ps₁ (z.to.memory i) new.memory new.how_it_got) (sym e)
          (subst (λ (x : List ℕ). Rests n (to_whom v t) ps₁ (z.to.memory (to_whom v t)) x new.how_it_got) (memory_new up is_up refl) (z.rests is_up)))

      rests_old : (h : ℕ) → h < n → h ≢ to_whom v t → (machine_at ms h).up ≡ true → Rests n h ps₁ (z.to.memory h) (machine_at ms h).memory (machine_at ms h).how_it_got
      rests_old h l d u =
          subst (λ (x : Machine). Rests n h ps₁ (z.to.memory h) x.memory x.how_it_got) (sym (is_old h d))
          (subst (λ (x : Rattle.machine.specs.Machine.Machine ℕ). Rests n h ps₁ x (machine_at v.machines h).memory (machine_at v.machines h).how_it_got) (sym (z.others_memory h d))
          (rests_later v.proposed ps₁ later (j.rests h l (sym (ap (λ (x : Machine). x.up) (is_old h d)) ∙ u))))

      ever_new : (h : ℕ) → h ≡ to_whom v t → (machine_at ms h).how_it_got.ever ≤ length z.to.order
      ever_new h e = subst (λ (x : Machine). x.how_it_got.ever ≤ length z.to.order) (sym (is_new h e)) z.ever

      ever_old : (h : ℕ) → h < n → h ≢ to_whom v t → (machine_at ms h).how_it_got.ever ≤ length z.to.order
      ever_old h l d =
          subst (λ (x : Machine). x.how_it_got.ever ≤ length z.to.order) (sym (is_old h d))
          (omega (arith, j.ever h l, begins_length w.order z.to.order z.grows, ap (λ (x : List ℕ). length x) j.order))
