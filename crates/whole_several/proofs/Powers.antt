-- Power that comes goes right, whole or cut short.
use Rattle.std.proofs.Common.{◌≡◌, ℕ, zero, suc, ◌+◌, ◌<◌, ◌≤◌, true, false, ltb, leb, ◌⊎◌, List, [], length, take, sym, refl, ap, ◌∙◌, subst, inl, inr, arith}
use Rattle.std.proofs.lemmas.List.{append-nil}
use Rattle.std.proofs.lemmas.Bool.{lt-ltb, le-leb, and_from, false≢true}
use Rattle.raft_log.specs.Entries.{applied_number, decided as decided_number}
use Rattle.raft.specs.Power.{belongs, powered}
use Rattle.raft.specs.Outbox.{Mail as DueMail, mail_due}
use Rattle.protocol.specs.Lists.{upd, All, Begins}
use Rattle.protocol.proofs.Updates.{upd_same, upd_other}
use Rattle.machine.specs.Machine.{Machine as Model, tick as model_tick, event, restart, decided}
use Rattle.machine.specs.Maps.{map_persistent}
use Rattle.machine.specs.World.{World as Theory, early, power as model_power, input, Allowed, next as next_world}
use Rattle.machine.proofs.Terms.{TermsBelow, terms_next}
use Rattle.machine.proofs.Steps.{runs_one, runs_none, runs_trans, order_grows, decided_stable}
use Rattle.join_several.specs.Stands.{conf}
use Rattle.join_several.proofs.Powers.{Powers, powered_stands}
use Rattle.together.specs.House.{every, each, none_of, Far, far, next_ok, all_in_turn, far_after, nth_value}
use Rattle.together.specs.Promise.{on, next, Letter as Wire, Ran, ran, runs, last_since, Machine, machine_at, flown, World, power, to_whom, event_for, before, with_proposal, may_end}
use Rattle.together_several.specs.Machine.{own_step}
use Rattle.together_several.specs.Entry.{own}
use Rattle.whole_several.proofs.Steady.{kept_powered}
use Rattle.whole_several.proofs.Acts.{Fit}
use Rattle.whole_several.proofs.Joined.{Agrees, Going, Rests, Safe, Carried, Joined}
use Rattle.whole_several.proofs.Moved.{Moved}
use Rattle.whole_several.proofs.Sent.{as_wire, agrees_self}
use Rattle.whole_several.proofs.Made.{made, made_ends, going_fit, Fine, made_fine}
use Rattle.whole_several.proofs.Views.{decided_is}
use Rattle.whole.proofs.Plans.{run_none}
use Rattle.whole_several.proofs.Events.{enough, run_made, terms_later, RightThing}

on_power : (s : List ℕ) (h many : ℕ) → own.step s (on h many) ≡ own.step (powered s h many) next
unfolding own own_step
on_power s h many = refl

-- POWER
module _ (n k : ℕ) (v : World) (w : Theory) (j : Joined n k v w) (h : ℕ) (there : h < n) (is_down : (machine_at v.machines h).up ≡ false) where
  abbrev y : Machine
  y = machine_at v.machines h

  abbrev s : List ℕ
  s = y.stable

  abbrev f₀ : Far
  f₀ = far y.how_it_got.ever []

  abbrev qs : List (List ℕ)
  qs = v.proposed

  safe₀ : Safe n qs (w.stable h) s f₀
  safe₀ = let z = j.safe h there in record { tidy = z.tidy; small = z.small; log = z.log; commit = z.commit; term = z.term; low = z.low; reach = z.reach }

  ever₀ : f₀.ever ≤ length w.order
  ever₀ = omega (arith, j.ever h there, ap (λ (o : List ℕ). length o) j.order)

  known : belongs h n ≡ true
  known = and_from (leb n 7) (ltb h n) (le-leb n 7 j.few) (lt-ltb h n there)

  abbrev m₃ : List ℕ
  m₃ = powered s h n

  powers : (g : ℕ → List ℕ) → Agrees g qs → Powers n h s (map_persistent g (w.stable h))
  powers g a = powered_stands n h s (map_persistent g (w.stable h)) safe₀.tidy (safe₀.log g a) safe₀.commit safe₀.term known j.some_are

  power₀ : Powers n h s (map_persistent (nth_value qs) (w.stable h))
  power₀ = powers (nth_value qs) (agrees_self qs)

  going₀ : Going n h qs (restart (w.stable h)) m₃ f₀
  unfolding next_ok last_since
  going₀ =
      let t = power₀.stands in
      let now : decided_number m₃ ≡ length (decided (restart (w.stable h))) = decided_is m₃ t.tidy (restart (w.stable h)) (nth_value qs) t.log t.commit in
      let was : decided_number s ≡ length (decided (restart (w.stable h))) = decided_is s safe₀.tidy (restart (w.stable h)) (nth_value qs) (safe₀.log (nth_value qs) (agrees_self qs)) safe₀.commit in
      let a = power₀.applied in
      record {
        means = λ g b. (powers g b).stands;
        small = (kept_powered s h n).small safe₀.small;
        since = power₀.since;
        turn =
            and_from (leb 1 (applied_number m₃ + 1)) (leb (applied_number m₃ + 1) (suc y.how_it_got.ever)) (le-leb 1 (applied_number m₃ + 1) (omega arith))
            (le-leb (applied_number m₃ + 1) (suc y.how_it_got.ever) (omega (arith, safe₀.reach)));
        low = omega (arith, safe₀.low);
        reach = omega (arith, safe₀.reach);
        last = λ l. let z : 0 ≡ applied_number m₃ = omega (arith, safe₀.low) in z;
      }

  fit₀ : Fit m₃
  fit₀ = going_fit n h j.few qs (restart (w.stable h)) m₃ f₀ going₀

  ordered₀ : Begins (decided (restart (w.stable h))) w.order
  ordered₀ = decided_stable (conf n) w h j.reach

  fine₀ : (i : ℕ) → Fine n h j.few qs (restart (w.stable h)) w.order ordered₀ (mail_due m₃) s f₀ (made (suc i) m₃ s)
  fine₀ i = made_fine n h j.few qs (restart (w.stable h)) w.order ordered₀ (suc i) m₃ s f₀ going₀ power₀.quiet.settled ever₀

  -- the world with power
  abbrev w₁ : Theory
  w₁ = next_world (conf n) w (model_power h)

  terms₁ : TermsBelow w₁ (suc k)
  terms₁ = terms_next (conf n) w (model_power h) k tt j.terms

  none_flew : (i : ℕ) → (made (suc i) m₃ s).flew ≡ []
  unfolding each
  none_flew i = (fine₀ i).flew ∙ (ap (λ (ls : List DueMail). each as_wire (take (fine₀ i).many ls)) power₀.quiet.none_due ∙ nothing (fine₀ i).many)
    where
      nothing : (a : ℕ) → each as_wire (take a []) ≡ []
      nothing zero = refl
      nothing (suc a) = refl

  power_runs : (i : ℕ) → runs (suc i) own s s (on h n) [] [] [] ≡ made (suc i) m₃ s
  power_runs i = run_made i (on h n) s m₃ s fit₀ (on_power s h n)

  stable₁ : (i : ℕ) → Safe n qs (w.stable h) (made (suc i) m₃ s).stable (far_after f₀ (made (suc i) m₃ s).did)
  stable₁ i =
      subst (λ (a : List ℕ). Safe n qs (w.stable h) a (far_after f₀ (made (suc i) m₃ s).did)) (sym (fine₀ i).stable)
      (record { tidy = safe₀.tidy; small = safe₀.small; log = safe₀.log; commit = safe₀.commit; term = safe₀.term; low = safe₀.low; reach = omega (arith, safe₀.reach, (fine₀ i).onward) })

  none_carried : (w₂ : Theory) (i : ℕ) → All (Carried qs w₂) (flown h (made (suc i) m₃ s).flew)
  unfolding each
  none_carried w₂ i = subst (λ (ls : List Wire). All (Carried qs w₂) (flown h ls)) (sym (none_flew i)) tt

  power_whole : (made enough m₃ s).end ≡ 0 → Moved n k h qs f₀ w (made enough m₃ s) true
  power_whole over =
      record {
        to = w₁;
        path = runs_one (conf n) w (model_power h) tt;
        terms = terms₁;
        proposals = j.proposals;
        others_up = λ i ne. upd_other w.up h true i ne;
        others_memory = λ i ne. upd_other w.memory h (restart (w.stable h)) i ne;
        others_stable = λ i ne. refl;
        this_up = upd_same w.up h true;
        network = λ l i. i;
        grows = order_grows (conf n) w (model_power h) j.reach tt;
        turn = (fine₀ 4105).turn;
        by = (fine₀ 4105).by;
        ever = (fine₀ 4105).ever;
        safe = stable₁ 4105;
        rests = λ _. subst (λ (a : Model ℕ). Rests n h qs a (made enough m₃ s).memory (far_after f₀ (made enough m₃ s).did)) (sym (upd_same w.memory h (restart (w.stable h)))) (at_end (fine₀ 4105).stays);
        flew = none_carried w₁ 4105;
      }
    where
      at_end : {P : Type 0} → ((made enough m₃ s).end ≡ 1000) ⊎ (((made enough m₃ s).end ≡ 0) × P × Rests n h qs (restart (w.stable h)) (made enough m₃ s).memory (far_after f₀ (made enough m₃ s).did)) →
          Rests n h qs (restart (w.stable h)) (made enough m₃ s).memory (far_after f₀ (made enough m₃ s).did)
      at_end (inl q) = absurd (omega (arith, q, over))
      at_end (inr q) = q.2

  -- it comes, and goes again
  abbrev w₂ : Theory
  w₂ = next_world (conf n) w₁ (input h (event model_tick) early)

  gone_again : Allowed (conf n) w₁ (input h (event model_tick) early)
  gone_again = (upd_same w.up h true, tt, tt)

  power_cut : (i : ℕ) → Moved n k h qs f₀ w (made (suc i) m₃ s) false
  power_cut i =
      record {
        to = w₂;
        path = runs_trans (conf n) w w₁ w₂ (runs_one (conf n) w (model_power h) tt) (runs_one (conf n) w₁ (input h (event model_tick) early) gone_again);
        terms = record { memory = terms₁.memory; stable = terms₁.stable; network = terms₁.network };
        proposals = j.proposals;
        others_up = λ a ne. upd_other (upd w.up h true) h false a ne ∙ upd_other w.up h true a ne;
        others_memory = λ a ne. upd_other w.memory h (restart (w.stable h)) a ne;
        others_stable = λ a ne. refl;
        this_up = upd_same (upd w.up h true) h false;
        network = λ l a. a;
        grows = order_grows (conf n) w (model_power h) j.reach tt;
        turn = (fine₀ i).turn;
        by = (fine₀ i).by;
        ever = (fine₀ i).ever;
        safe = stable₁ i;
        rests = λ u. absurd (false≢true u);
        flew = none_carried w₂ i;
      }

  -- power that goes before anything is done leaves the world as it was
  power_none : Moved n k h qs f₀ w (ran s s [] [] [] 1000) false
  unfolding all_in_turn far_after every Begins each
  power_none =
      record {
        to = w;
        path = runs_none (conf n) w;
        terms = terms_later w k j.terms;
        proposals = j.proposals;
        others_up = λ i ne. refl;
        others_memory = λ i ne. refl;
        others_stable = λ i ne. refl;
        this_up = sym (j.up h there) ∙ is_down;
        network = λ l i. i;
        grows = ([], append-nil w.order);
        turn = refl;
        by = refl;
        ever = ever₀;
        safe = safe₀;
        rests = λ u. absurd (false≢true u);
        flew = tt;
      }

  power_cuts : (i : ℕ) → Moved n k h qs f₀ w (runs i own s s (on h n) [] [] []) false
  power_cuts zero = subst (λ (r : Ran). Moved n k h qs f₀ w r false) (sym (run_none own s s (on h n))) power_none
  power_cuts (suc i) = subst (λ (r : Ran). Moved n k h qs f₀ w r false) (sym (power_runs i)) (power_cut i)

  pub power_right : RightThing n k v w (power h)
  unfolding to_whom event_for before with_proposal may_end none_of
  power_right =
      let over : (made enough m₃ s).end ≡ 0 = made_ends enough m₃ s (omega arith) in
      let is : runs enough own s s (on h (length v.machines)) [] [] [] ≡ made enough m₃ s = ap (λ (a : ℕ). runs enough own s s (on h a) [] [] []) j.number ∙ power_runs 4105 in
      record {
        here = there;
        whole = subst (λ (r : Ran). Moved n k h qs f₀ w r true) (sym is) (power_whole over);
        ends = rw (ap (λ (r : Ran). r.end) is ∙ over, ap (λ (r : Ran). r.showed) is);
        cut = λ i. subst (λ (a : ℕ). Moved n k h qs f₀ w (runs i own s s (on h a) [] [] []) false) (sym j.number) (power_cuts i);
      }
