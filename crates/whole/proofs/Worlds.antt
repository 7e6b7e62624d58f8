-- The world's invariant, and that whatever happens keeps it.
use Rattle.std.proofs.Common.{◌≡◌, ℕ, suc, ◌<◌, ◌≤◌, Bool, true, false, ◌&&◌, eqb, ltb, leb, ◌≢◌, List, [], ◌∷◌, ◌++◌, length, sym, refl, ap, ◌∙◌, subst, inl, inr, arith}
use Rattle.std.proofs.lemmas.Bool.{ltb-true, and_parts, and_from, cases_eq, false≢true}
use Rattle.solo.specs.Header.{loaded}
use Rattle.together.specs.House.{every, each, none_of, same, propose, how_far, Far, far, all_in_turn, by_order, an_order, begins, small_command}
use Rattle.together.specs.Promise.{on, Ran, runs, last_since, are_bytes, Machine, machine_at, set_machine, World, flown, flown_at, Thing, power, says, delivers, ticks, to_whom, event_for, proper, before, thing_ran, after_machine, with_proposal, after_thing, applied_right, may_end}
use Rattle.together.specs.Entry.{own}
use Rattle.whole.proofs.Kept.{WholeKept, CutKept}
use Rattle.whole.proofs.Holds.{Holds}
use Rattle.whole.proofs.Going.{Stable, Rests}
use Rattle.whole.proofs.Runs.{Went, Quiet, went_fine, grown_none, went_power, ends_power, went_tick, ends_tick, went_how_far, shown, went_propose, ends_propose}
use Rattle.together.proofs.Lists.{same_self}
use Rattle.whole.proofs.Orders.{at_set_same, at_set_other, length_set_machine}
use Rattle.whole.proofs.Plans.{quiet_ends}
use Rattle.whole.proofs.Orders.{machine_here}

-- acts that are enough for any event
abbrev pub enough : ℕ
enough = suc (suc 4098)

-- A MACHINE of the world: what is safe is right; and where power is there it is at rest between events
pub record Sound (many h k : ℕ) (ps : List (List ℕ)) (o : List ℕ) (x : Machine) : Type 0 where
  pub stable : Stable many h k ps o x.stable x.how_it_got
  pub ever : x.how_it_got.ever ≤ length o
  pub live : x.up ≡ true → Rests many h k ps o x.memory x.how_it_got

-- THE WORLD after k things
pub record Good (many k : ℕ) (w : World) : Type 0 where
  pub few : many ≤ 7
  pub number : length w.machines ≡ many
  pub wire : w.wire ≡ []
  pub ordered : an_order w.proposed w.order ≡ true
  pub short : length w.order ≤ length w.proposed
  pub all : (h : ℕ) → h < many → Sound many h k w.proposed w.order (machine_at w.machines h)

-- what no event touched stays right
module _ (many h k : ℕ) (ps ps₁ : List (List ℕ)) (o : List ℕ) (keep : (m : List ℕ) → Holds ps o m → Holds ps₁ o m) where
  stable_keep : (s : List ℕ) (f : Far) → Stable many h k ps o s f → Stable many h (suc k) ps₁ o s f
  stable_keep s f g = record { holds = keep s g.holds; applied = g.applied; term = omega (arith, g.term) }

  rests_keep : (m : List ℕ) (f : Far) → Rests many h k ps o m f → Rests many h (suc k) ps₁ o m f
  rests_keep m f r =
      let x = r.going in
      record {
        going = record { holds = keep m x.holds; size = x.size; id = x.id; leads = x.leads; term = omega (arith, x.term); since = x.since; turn = x.turn; low = x.low; reach = x.reach; ever = x.ever; reached = x.reached; settles = x.settles };
        still = r.still;
        all = r.all;
      }

  sound_keep : (x : Machine) → Sound many h k ps o x → Sound many h (suc k) ps₁ o x
  sound_keep x g =
      record {
        stable = stable_keep x.stable x.how_it_got g.stable;
        ever = g.ever;
        live = λ u. rests_keep x.memory x.how_it_got (g.live u);
      }

module _ (many k : ℕ) (w : World) (t : Thing) (r : Ran) (g : Good many k w) where
  abbrev ps₁ : List (List ℕ)
  ps₁ = with_proposal w.proposed t r.end

  abbrev old : Machine
  old = machine_at w.machines (to_whom w t)

  abbrev Gone : Type 0
  Gone = Went many (to_whom w t) (suc k) w.proposed w.order (before t old).how_it_got r ps₁

  pub right_is : (wt : Gone) → applied_right w t r wt.o₁ ≡ true
  right_is wt =
      and_from (all_in_turn (before t old).how_it_got r.did && every (by_order ps₁ wt.o₁) r.did) (an_order ps₁ wt.o₁ && begins w.order wt.o₁)
      (and_from (all_in_turn (before t old).how_it_got r.did) (every (by_order ps₁ wt.o₁) r.did) wt.turn wt.by)
      (and_from (an_order ps₁ wt.o₁) (begins w.order wt.o₁) wt.grown.ordered wt.grown.onward)

  changed : (up : Bool) (wt : Gone) → (up ≡ true → r.end ≢ 1000) → Sound many (to_whom w t) (suc k) ps₁ wt.o₁ (after_machine t old r up)
  changed true wt ne =
      record { stable = wt.stable; ever = wt.ever; live = λ u. elim wt.stays [ inl e ↦ absurd (ne refl e) | inr l ↦ l ] }
  changed false wt ne = record { stable = wt.stable; ever = wt.ever; live = λ u. absurd (false≢true u) }

  pub after_good : (up : Bool) → to_whom w t < many → (wt : Gone) → (up ≡ true → r.end ≢ 1000) → Good many (suc k) (after_thing w t r up wt.o₁)
  unfolding each
  after_good up to wt ne =
      record {
        few = g.few;
        number = length_set_machine w.machines (to_whom w t) (after_machine t old r up) ∙ g.number;
        wire = ap (λ a. a ++ flown (to_whom w t) r.flew) g.wire ∙ ap (flown (to_whom w t)) wt.flew;
        ordered = wt.grown.ordered;
        short = wt.grown.short;
        all = λ j l. elim (cases_eq j (to_whom w t)) [ inl e ↦ this j e | inr d ↦ other j l d ];
      }
    where
      ms : List Machine
      ms = set_machine w.machines (to_whom w t) (after_machine t old r up)

      this : (j : ℕ) → j ≡ to_whom w t → Sound many j (suc k) ps₁ wt.o₁ (machine_at ms j)
      this j e =
          subst (λ (i : ℕ). Sound many i (suc k) ps₁ wt.o₁ (machine_at ms i)) (sym e)
          (subst (λ (x : Machine). Sound many (to_whom w t) (suc k) ps₁ wt.o₁ x) (sym (at_set_same w.machines (to_whom w t) (after_machine t old r up) (omega (arith, g.number)))) (changed up wt ne))

      kept : (j : ℕ) → j < many → (w.order ≡ wt.o₁) × ((m : List ℕ) → Holds w.proposed w.order m → Holds ps₁ w.order m) → Sound many j (suc k) ps₁ wt.o₁ (machine_at w.machines j)
      kept j l same-order =
          subst (λ (o : List ℕ). Sound many j (suc k) ps₁ o (machine_at w.machines j)) same-order.0
          (sound_keep many j k w.proposed ps₁ w.order same-order.1 (machine_at w.machines j) (g.all j l))

      other : (j : ℕ) → j < many → j ≢ to_whom w t → Sound many j (suc k) ps₁ wt.o₁ (machine_at ms j)
      other j l d =
          subst (λ (x : Machine). Sound many j (suc k) ps₁ wt.o₁ x) (sym (at_set_other w.machines (to_whom w t) j (after_machine t old r up) d))
          (elim wt.grown.others [ inl e ↦ absurd (d (omega arith)) | inr keep ↦ kept j l keep ])

-- WHATEVER HAPPENS to a machine goes right
pub record GoesRight (many k : ℕ) (w : World) (t : Thing) : Type 0 where
  pub to : to_whom w t < many
  pub went : (n : ℕ) → Went many (to_whom w t) (suc k) w.proposed w.order (before t (machine_at w.machines (to_whom w t))).how_it_got (thing_ran n own w t) (with_proposal w.proposed t (thing_ran n own w t).end)
  pub ends : may_end w t (thing_ran enough own w t) ≡ true
  pub over : (thing_ran enough own w t).end ≢ 1000

ends_quiet : {r : Ran} → Quiet r → (eqb r.end 0 && none_of r.showed) ≡ true
ends_quiet {r} q = quiet_ends r q.over q.still

quiet_over : {r : Ran} → Quiet r → r.end ≢ 1000
quiet_over q = λ e. omega (arith, q.over, e)

module _ (many k : ℕ) (w : World) (g : Good many k w) where
  here : (h : ℕ) (u : Bool) → (ltb h (length w.machines) && u) ≡ true → (h < many) × (u ≡ true)
  here h u p = machine_here w.machines many h u g.number p

  power_right : (h : ℕ) → proper w (power h) ≡ true → GoesRight many k w (power h)
  unfolding proper to_whom event_for before with_proposal may_end
  power_right h p =
      let l = (here h _ p).0 in
      let x : Machine = machine_at w.machines h in
      let s = g.all h l in
      let st : Stable many h k w.proposed w.order x.stable (far x.how_it_got.ever []) = record { holds = s.stable.holds; applied = s.stable.applied; term = s.stable.term } in
      let q : Quiet (runs enough own x.stable x.stable (on h (length w.machines)) [] [] []) =
      subst (λ (n : ℕ). Quiet (runs enough own x.stable x.stable (on h n) [] [] [])) (sym g.number)
      (ends_power many h k w.proposed w.order g.ordered g.short x.stable x.how_it_got.ever st s.ever l g.few (suc 4098) (omega arith)) in
      record {
        to = l;
        went = λ n.
            subst (λ (j : ℕ). Went many h (suc k) w.proposed w.order (far x.how_it_got.ever []) (runs n own x.stable x.stable (on h j) [] [] []) w.proposed) (sym g.number)
            (went_power many h k w.proposed w.order g.ordered g.short x.stable x.how_it_got.ever st s.ever l g.few n);
        ends = ends_quiet q;
        over = quiet_over q;
      }

  tick_right : (h : ℕ) → proper w (ticks h) ≡ true → GoesRight many k w (ticks h)
  unfolding proper to_whom event_for before with_proposal may_end
  tick_right h p =
      let both = here h _ p in
      let x : Machine = machine_at w.machines h in
      let s = g.all h both.0 in
      let q = ends_tick many h k w.proposed w.order g.ordered g.short x.memory x.stable x.how_it_got (s.live both.1) s.stable (suc 4098) (omega arith) in
      record {
        to = both.0;
        went = λ n.
            went_fine many h (suc k) w.proposed w.order x.how_it_got _ w.proposed w.order (grown_none many h (suc k) w.proposed w.order g.ordered g.short)
            (went_tick many h k w.proposed w.order g.ordered g.short x.memory x.stable x.how_it_got (s.live both.1) s.stable n);
        ends = ends_quiet q;
        over = quiet_over q;
      }

  how_far_right : (h : ℕ) → proper w (says h how_far) ≡ true → GoesRight many k w (says h how_far)
  unfolding proper to_whom event_for before with_proposal may_end none_of
  how_far_right h p =
      let both = here h _ (and_parts (ltb h (length w.machines) && (machine_at w.machines h).up) (small_command how_far) p).0 in
      let x : Machine = machine_at w.machines h in
      let s = g.all h both.0 in
      let e = shown many h k w.proposed w.order g.ordered g.short x.memory x.stable x.how_it_got (s.live both.1) s.stable 4098 in
      record {
        to = both.0;
        went = went_how_far many h k w.proposed w.order g.ordered g.short x.memory x.stable x.how_it_got (s.live both.1) s.stable;
        ends =
            subst (λ (r : Ran). ((eqb r.end 0 && none_of r.did) && same r.showed (last_since x.how_it_got.since ∷ [])) ≡ true) (sym e)
            (subst (λ (a : ℕ). same ((loaded x.memory).since.0 ∷ []) (a ∷ []) ≡ true) (s.live both.1).going.since (same_self ((loaded x.memory).since.0 ∷ [])));
        over = subst (λ (r : Ran). r.end ≢ 1000) (sym e) (omega arith);
      }

  propose_right : (h : ℕ) (v : List ℕ) → proper w (says h (propose v)) ≡ true → GoesRight many k w (says h (propose v))
  unfolding proper to_whom event_for before with_proposal may_end small_command none_of
  propose_right h v p =
      let q = and_parts (ltb h (length w.machines) && (machine_at w.machines h).up) (leb (length v) 4096 && every (λ b. ltb b 256) v) p in
      let both = here h _ q.0 in
      let bs : are_bytes v ≡ true = (and_parts (leb (length v) 4096) (every (λ b. ltb b 256) v) q.1).1 in
      let x : Machine = machine_at w.machines h in
      let s = g.all h both.0 in
      let z = ends_propose many h k w.proposed w.order g.ordered g.short x.memory x.stable x.how_it_got (s.live both.1) s.stable v bs (suc 4098) (omega arith) in
      record {
        to = both.0;
        went = went_propose many h k w.proposed w.order g.ordered g.short x.memory x.stable x.how_it_got (s.live both.1) s.stable v bs;
        ends = rw z.still z.may;
        over = z.over;
      }

  -- no letter ever flew
  no_letter : (j : ℕ) → proper w (delivers j) ≡ true → ⊥
  unfolding proper
  no_letter j p =
      let q = (and_parts (ltb j (length w.wire) && ltb (flown_at w.wire j).what.to (length w.machines)) (machine_at w.machines (flown_at w.wire j).what.to).up p).0 in
      let l = ltb-true j (length w.wire) (and_parts (ltb j (length w.wire)) (ltb (flown_at w.wire j).what.to (length w.machines)) q).0 in
      let z : j < 0 = rw g.wire at l in
      omega arith

  pub goes_right : (t : Thing) → proper w t ≡ true → GoesRight many k w t
  goes_right (power h) p = power_right h p
  goes_right (says h (propose v)) p = propose_right h v p
  goes_right (says h how_far) p = how_far_right h p
  goes_right (delivers j) p = absurd (no_letter j p)
  goes_right (ticks h) p = tick_right h p

  pub whole_kept : (t : Thing) → proper w t ≡ true → WholeKept own (Good many (suc k)) w t
  whole_kept t p =
      let z = goes_right t p in
      record {
        acts = enough;
        order = (z.went enough).o₁;
        ends = z.ends;
        right = right_is many k w t (thing_ran enough own w t) g (z.went enough);
        kept = after_good many k w t (thing_ran enough own w t) g true z.to (z.went enough) (λ _. z.over);
      }

  pub cut_kept : (t : Thing) (n : ℕ) → proper w t ≡ true → CutKept own (Good many (suc k)) w t n
  cut_kept t n p =
      let z = goes_right t p in
      record {
        order = (z.went n).o₁;
        right = right_is many k w t (thing_ran n own w t) g (z.went n);
        kept = after_good many k w t (thing_ran n own w t) g false z.to (z.went n) (λ u. absurd (false≢true u));
      }
