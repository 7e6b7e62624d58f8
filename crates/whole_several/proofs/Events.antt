-- What is the same of all events of a machine; and a tick goes right, whole or cut short, and leaves the world joined with one of the theory.
use Rattle.std.proofs.Common.{◌≡◌, ℕ, zero, suc, ◌<◌, ◌≤◌, true, false, List, [], ◌∷◌, length, sym, refl, ap, ◌∙◌, subst, arith}
use Rattle.std.proofs.lemmas.List.{append-nil}
use Rattle.std.proofs.lemmas.Bool.{false≢true}
use Rattle.raft.specs.Election.{ticked}
use Rattle.protocol.specs.Lists.{All, Begins}
use Rattle.protocol.proofs.Updates.{upd_same, upd_other}
use Rattle.machine.specs.Machine.{of_term, tick as model_tick, Input, event}
use Rattle.machine.specs.Step.{step}
use Rattle.machine.specs.Maps.{map_machine, map_outcome}
use Rattle.machine.specs.World.{World as Theory, Mail, early, Item, input, Possible, Allowed, proposals_after, next as next_world, Reachable}
use Rattle.machine.proofs.Terms.{TermsBelow, terms_next}
use Rattle.machine.proofs.Steps.{runs_one, runs_none, order_grows}
use Rattle.join_several.specs.Stands.{conf}
use Rattle.join_several.specs.Does.{Does}
use Rattle.together.specs.House.{every, each, Far, all_in_turn, far_after, nth_value}
use Rattle.together.specs.Promise.{Event, tick, next, Ran, ran, runs, all_small, Machine, machine_at, World, Thing, ticks, to_whom, event_for, before, thing_ran, with_proposal, may_end}
use Rattle.together_several.specs.Machine.{own_step, acts}
use Rattle.together_several.specs.Entry.{own}
use Rattle.whole.proofs.Plans.{runs_event}
use Rattle.whole_several.proofs.Steady.{kept_ticked}
use Rattle.whole_several.proofs.Acts.{Fit, rest, own_planned}
use Rattle.whole_several.proofs.Joined.{Agrees, Rests, Safe, Joined}
use Rattle.whole_several.proofs.Moved.{Moved, Became, safe_later}
use Rattle.whole_several.proofs.Sent.{agrees_self}
use Rattle.whole_several.proofs.Made.{made, made_rest, made_ends, going_fit}
use Rattle.whole_several.proofs.Acted.{cut_moved, whole_became}
use Rattle.whole_several.proofs.Inputs.{tick_does}
use Rattle.whole.proofs.Plans.{run_none, quiet_ends}

-- acts that are enough for any event
abbrev pub enough : ℕ
enough = suc 4105

-- an event that changes memory to m₁ and goes on
pub run_made : (i : ℕ) (ev : Event) (m m₁ s : List ℕ) → Fit m₁ → own.step m ev ≡ own.step m₁ next → runs (suc i) own m s ev [] [] [] ≡ made (suc i) m₁ s
run_made i ev m m₁ s fit e = runs_event own Fit acts rest own_planned i ev m m₁ s fit e

pub terms_later : (w : Theory) (k : ℕ) → TermsBelow w k → TermsBelow w (suc k)
terms_later w k t = record { memory = λ j. omega (arith, t.memory j); stable = λ j. omega (arith, t.stable j); network = more w.network t.network }
  where
    more : (ms : List Mail) → All (λ m. of_term m.letter ≤ k) ms → All (λ m. of_term m.letter ≤ suc k) ms
    more [] h = tt
    more (m ∷ ms) h = (omega (arith, h.0), more ms h.1)

-- NOTHING IS DONE by machine h
module _ (n k h : ℕ) (w : Theory) (reach : Reachable (conf n) w) (terms : TermsBelow w k) (ps : List (List ℕ)) (f : Far) (s : List ℕ) (safe : Safe n ps (w.stable h) s f)
    (ever : f.ever ≤ length w.order) where
  -- and it stays up
  pub stays_moved : (m ss : List ℕ) (e : ℕ) → length ps ≡ w.proposals → w.up h ≡ true → Rests n h ps (w.memory h) m f → Moved n k h ps f w (ran m s [] [] ss e) true
  unfolding all_in_turn far_after every Begins each
  stays_moved m ss e count up r =
      record {
        to = w;
        path = runs_none (conf n) w;
        terms = terms_later w k terms;
        proposals = count;
        others_up = λ j ne. refl;
        others_memory = λ j ne. refl;
        others_stable = λ j ne. refl;
        this_up = up;
        network = λ l i. i;
        grows = ([], append-nil w.order);
        turn = refl;
        by = refl;
        ever = ever;
        safe = safe;
        rests = λ _. r;
        flew = tt;
      }

  -- and its power goes; what was proposed counts
  pub stops_moved : (ps₁ : List (List ℕ)) → ((g : ℕ → List ℕ) → Agrees g ps₁ → Agrees g ps) → (e : Input ℕ) → Possible w h e → length ps₁ ≡ proposals_after w.proposals e → w.up h ≡ true →
      (m ss : List ℕ) (end : ℕ) → Moved n k h ps₁ f w (ran m s [] [] ss end) false
  unfolding all_in_turn far_after every each
  stops_moved ps₁ later e possible count up m ss end =
      let a : Item = input h e early in
      let may : Allowed (conf n) w (input h e early) = (up, possible, tt) in
      record {
        to = next_world (conf n) w (input h e early);
        path = runs_one (conf n) w (input h e early) may;
        terms = terms_next (conf n) w (input h e early) k may terms;
        proposals = count;
        others_up = λ j ne. upd_other w.up h false j ne;
        others_memory = λ j ne. refl;
        others_stable = λ j ne. refl;
        this_up = upd_same w.up h false;
        network = λ l i. i;
        grows = order_grows (conf n) w (input h e early) reach may;
        turn = refl;
        by = refl;
        ever = ever;
        safe = safe_later ps ps₁ later safe;
        rests = λ u. absurd (false≢true u);
        flew = tt;
      }

-- what the machine answers
pub on_tick : (m : List ℕ) → own.step m tick ≡ own.step (ticked m) next
unfolding own own_step
on_tick m = refl

-- WHATEVER HAPPENS: how it goes whole, and cut short after i acts
pub record RightThing (n k : ℕ) (v : World) (w : Theory) (t : Thing) : Type 0 where
  pub here : to_whom v t < n
  pub whole : Moved n k (to_whom v t) (with_proposal v.proposed t (thing_ran enough own v t).end) (before t (machine_at v.machines (to_whom v t))).how_it_got w (thing_ran enough own v t) true
  pub ends : may_end v t (thing_ran enough own v t) ≡ true
  pub cut : (i : ℕ) → Moved n k (to_whom v t) (with_proposal v.proposed t (thing_ran i own v t).end) (before t (machine_at v.machines (to_whom v t))).how_it_got w (thing_ran i own v t) false

-- machine h of the world, which is up
module _ (n k : ℕ) (v : World) (w : Theory) (j : Joined n k v w) (low : k ≤ 8589934592) (h : ℕ) (there : h < n) (is_up : (machine_at v.machines h).up ≡ true) where
  abbrev x : Machine
  x = machine_at v.machines h

  abbrev ps : List (List ℕ)
  ps = v.proposed

  pub up : w.up h ≡ true
  up = sym (j.up h there) ∙ is_up

  pub at_rest : Rests n h ps (w.memory h) x.memory x.how_it_got
  at_rest = j.rests h there is_up

  pub is_safe : Safe n ps (w.stable h) x.stable x.how_it_got
  is_safe = j.safe h there

  pub ever : x.how_it_got.ever ≤ length w.order
  ever = omega (arith, j.ever h there, ap (λ (o : List ℕ). length o) j.order)

  pub fit_now : Fit x.memory
  fit_now = going_fit n h j.few ps (w.memory h) x.memory x.how_it_got at_rest.going

  pub nothing_later : (g : ℕ → List ℕ) → Agrees g ps → Agrees g ps
  nothing_later g a = a

  -- power goes before anything is done
  pub stopped : (m ss : List ℕ) (end : ℕ) → Moved n k h ps x.how_it_got w (ran m x.stable [] [] ss end) false
  stopped = stops_moved n k h w j.reach j.terms ps x.how_it_got x.stable is_safe ever ps nothing_later (event model_tick) tt j.proposals up

  pub stayed : (ss : List ℕ) (end : ℕ) → Moved n k h ps x.how_it_got w (ran x.memory x.stable [] [] ss end) true
  stayed ss end = stays_moved n k h w j.reach j.terms ps x.how_it_got x.stable is_safe ever x.memory ss end j.proposals up at_rest

  -- nothing is due
  pub idle : (i : ℕ) → made (suc i) x.memory x.stable ≡ ran x.memory x.stable [] [] [] 0
  idle i = made_rest i x.memory x.stable fit_now at_rest.quiet.settled at_rest.quiet.none_due at_rest.all

  -- an event that is an input of the theory
  module _ (e : Input ℕ) (possible : Possible w h e) (m₁ : List ℕ) (ev : Event) (changes : own.step x.memory ev ≡ own.step m₁ next)
      (ps₁ : List (List ℕ)) (later : (g : ℕ → List ℕ) → Agrees g ps₁ → Agrees g ps) (count : length ps₁ ≡ proposals_after w.proposals e)
      (does : (g : ℕ → List ℕ) → Agrees g ps₁ → Does n h x.memory m₁ (map_machine g (w.memory h)) (map_outcome g (step (conf n) h (w.memory h) e)))
      (small : all_small m₁ ≡ true) where
    fit_then : Fit m₁
    fit_then = record { long = (does (nth_value ps₁) (agrees_self ps₁)).stands.tidy.entries.long; small = small }

    pub event_runs : (i : ℕ) → runs (suc i) own x.memory x.stable ev [] [] [] ≡ made (suc i) m₁ x.stable
    event_runs i = run_made i ev x.memory m₁ x.stable fit_then changes

    pub event_cut : (i : ℕ) → Moved n k h ps₁ x.how_it_got w (runs (suc i) own x.memory x.stable ev [] [] []) false
    event_cut i =
        subst (λ (r : Ran). Moved n k h ps₁ x.how_it_got w r false) (sym (event_runs i))
        (cut_moved n h k j.few w j.reach j.terms up e possible ps ps₁ later x.memory m₁ x.stable x.how_it_got at_rest is_safe ever does small i count)

    pub event_became : Became n k h ps₁ x.how_it_got w (runs enough own x.memory x.stable ev [] [] []) e
    event_became =
        subst (λ (r : Ran). Became n k h ps₁ x.how_it_got w r e) (sym (event_runs 4105))
        (whole_became n h k j.few w j.reach j.terms up e possible ps ps₁ later x.memory m₁ x.stable x.how_it_got at_rest is_safe ever does small 4105 count (made_ends enough m₁ x.stable (omega arith)))

    pub event_whole : Moved n k h ps₁ x.how_it_got w (runs enough own x.memory x.stable ev [] [] []) true
    event_whole = event_became.moved

    pub event_ended : (runs enough own x.memory x.stable ev [] [] []).end ≡ 0
    event_ended = ap (λ (r : Ran). r.end) (event_runs 4105) ∙ made_ends enough m₁ x.stable (omega arith)

    pub event_silent : (runs enough own x.memory x.stable ev [] [] []).showed ≡ []
    event_silent = ap (λ (r : Ran). r.showed) (event_runs 4105)

  -- A TICK
  tick_so : (g : ℕ → List ℕ) → Agrees g ps → Does n h x.memory (ticked x.memory) (map_machine g (w.memory h)) (map_outcome g (step (conf n) h (w.memory h) (event model_tick)))
  tick_so = tick_does n h j.some_are j.few there w j.reach up ps x.memory at_rest.going.means at_rest.quiet (omega (arith, j.terms.memory h))

  tick_small : all_small (ticked x.memory) ≡ true
  tick_small = (kept_ticked x.memory).small at_rest.going.small

  pub tick_became : Became n k h ps x.how_it_got w (runs enough own x.memory x.stable tick [] [] []) (event model_tick)
  tick_became = event_became (event model_tick) tt (ticked x.memory) tick (on_tick x.memory) ps nothing_later j.proposals tick_so tick_small

  pub tick_right : RightThing n k v w (ticks h)
  unfolding to_whom event_for before with_proposal may_end
  tick_right =
      let whole-one = event_whole (event model_tick) tt (ticked x.memory) tick (on_tick x.memory) ps nothing_later j.proposals tick_so tick_small in
      record {
        here = there;
        whole = whole-one;
        ends = quiet_ends (runs enough own x.memory x.stable tick [] [] []) (event_ended (event model_tick) tt (ticked x.memory) tick (on_tick x.memory) ps nothing_later j.proposals tick_so tick_small)
            (event_silent (event model_tick) tt (ticked x.memory) tick (on_tick x.memory) ps nothing_later j.proposals tick_so tick_small);
        cut = cuts;
      }
    where
      cuts : (i : ℕ) → Moved n k h ps x.how_it_got w (runs i own x.memory x.stable tick [] [] []) false
      cuts zero = subst (λ (r : Ran). Moved n k h ps x.how_it_got w r false) (sym (run_none own x.memory x.stable tick)) (stopped x.memory [] 1000)
      cuts (suc i) = event_cut (event model_tick) tt (ticked x.memory) tick (on_tick x.memory) ps nothing_later j.proposals tick_so tick_small i
