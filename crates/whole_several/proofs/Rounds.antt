-- One machine alone, in calm: a round is a tick, and after at most ten it leads.
use Rattle.std.proofs.Common.{◌≡◌, ℕ, zero, suc, ◌+◌, ◌-◌, ◌≤◌, Bool, true, List, [], ◌∷◌, ◌++◌, length, sym, refl, ap, ◌∙◌, subst, arith}
use Rattle.std.proofs.lemmas.List.{append-nil, take_all}
use Rattle.raft_log.specs.Entries.{applied_number, decided as decided_number}
use Rattle.protocol.specs.Log.{decisions}
use Rattle.protocol.proofs.Lists.{begins_length}
use Rattle.machine.specs.Machine.{Machine as Model, event, tick as model_tick, decided}
use Rattle.machine.specs.World.{World as Theory}
use Rattle.machine.proofs.Steps.{commit_up}
use Rattle.machine.proofs.AloneHolds.{alone_decided, alone_order_up}
use Rattle.machine.proofs.Alone.{alone_tick_silent}
use Rattle.join_several.specs.Stands.{conf}
use Rattle.together.specs.House.{pick, each, Applied, Far}
use Rattle.together.specs.Promise.{tick, Letter as Wire, Ran, runs, last_since, Machine, machine_at, set_machine, World, world, Flown, flown, ticks, to_whom, event_for, proper, before, thing_ran, after_machine, with_proposal, after_thing, all_tick, all_come, round, rounds, most_applied}
use Rattle.together_several.specs.Entry.{own}
use Rattle.whole_several.proofs.Joined.{Rests, Joined}
use Rattle.whole_several.proofs.Moved.{Became, became_now, became_silent, moved_joined}
use Rattle.whole_several.proofs.Made.{going_decided}
use Rattle.whole_several.proofs.Lone.{Leads, Near, near_tick}
use Rattle.whole_several.proofs.Events.{enough, tick_became}
use Rattle.whole.proofs.Orders.{most_alone}

-- at rest all that is decided is applied
pub rests_since : (n h : ℕ) → n ≤ 7 → (ps : List (List ℕ)) (x : Model ℕ) (m : List ℕ) (f : Far) → Rests n h ps x m f → last_since f.since ≡ length (decided x)
rests_since n h few ps x m f r =
    let g = r.going in
    let all : applied_number m ≡ decided_number m = omega (arith, g.low, r.all) in
    g.last r.all ∙ (all ∙ going_decided n h few ps x m f g)

-- who holds all of its log for committed holds all of its values for decided
pub decided_all : (x : Model ℕ) → x.commit ≡ length x.log → decided x ≡ decisions x.log
unfolding decided
decided_all x e = ap decisions (take_all x.commit x.log (omega (arith, e)))

module _ (ps : List (List ℕ)) (fs : List Flown) where
  abbrev pub alone : Machine → List ℕ → List Applied → World
  alone x o ds = world (x ∷ []) fs ps o ds

  -- in calm the world's order stays as it was noted: the one that grows is the theory's
  pub record Lives (k : ℕ) (x : Machine) (ds : List Applied) (w : Theory) : Type 0 where
    pub joined : Joined 1 k (alone x w.order ds) w
    pub up : x.up ≡ true

  abbrev pub since : Machine → ℕ
  since x = last_since x.how_it_got.since

  module _ (k : ℕ) (x : Machine) (ds : List Applied) (w : Theory) (z : Lives k x ds w) where
    abbrev j : Joined 1 k (alone x w.order ds) w
    j = z.joined

    pub rests : Rests 1 0 ps (w.memory 0) x.memory x.how_it_got
    unfolding machine_at
    rests = j.rests 0 (omega arith) z.up

    pub model_up : w.up 0 ≡ true
    unfolding machine_at
    model_up = sym (j.up 0 (omega arith)) ∙ z.up

    pub within_log : (w.memory 0).commit ≤ length (w.memory 0).log
    within_log = commit_up (conf 1) w 0 j.reach model_up

    -- no more was ever applied than the order has
    pub most_of_one : most_applied (alone x w.order ds) ≤ length w.order
    unfolding machine_at
    most_of_one = most_alone x fs ps w.order ds (length w.order) (j.ever 0 (omega arith))

    -- a leader has applied all of the order
    pub leader_decided : Leads (w.memory 0) → decided (w.memory 0) ≡ decisions (w.memory 0).log
    leader_decided l = alone_decided (conf 1) w refl j.reach model_up l.acked l.nexts l.role

    pub leader_since : Leads (w.memory 0) → since x ≡ length (decisions (w.memory 0).log)
    leader_since l = rests_since 1 0 (omega arith) ps (w.memory 0) x.memory x.how_it_got rests ∙ ap (λ (vs : List ℕ). length vs) (leader_decided l)

    pub order_within : length w.order ≤ length (decisions (w.memory 0).log)
    order_within = begins_length w.order (decisions (w.memory 0).log) (alone_order_up (conf 1) w refl j.reach model_up)

    -- A TICK
    module _ (low : k ≤ 8589934592) where
      abbrev pub tick_ran : Ran
      tick_ran = runs enough own x.memory x.stable tick [] [] []

      abbrev pub next_machine : Machine
      next_machine = after_machine (ticks 0) x tick_ran true

      abbrev pub next_did : List Applied
      next_did = ds ++ tick_ran.did

      pub became : Became 1 k 0 ps x.how_it_got w tick_ran (event model_tick)
      unfolding machine_at
      became = tick_became 1 k (alone x w.order ds) w j low 0 (omega arith) z.up

      silent : tick_ran.flew ≡ []
      silent = became_silent 1 k 0 ps x.how_it_got w tick_ran (event model_tick) became (alone_tick_silent (conf 1) refl refl (w.memory 0))

      abbrev pub next_theory : Theory
      next_theory = became.moved.to

      -- the wire is as it was
      wire_same : fs ++ flown 0 tick_ran.flew ≡ fs
      unfolding each
      wire_same = ap (λ (ls : List Wire). fs ++ flown 0 ls) silent ∙ append-nil fs

      next_joined : Joined 1 (suc k) (world (next_machine ∷ []) (fs ++ flown 0 tick_ran.flew) ps next_theory.order next_did) next_theory
      unfolding to_whom before with_proposal machine_at set_machine
      next_joined = moved_joined 1 k (alone x w.order ds) w j (ticks 0) tick_ran true (omega arith) became.moved

      pub next_lives : Lives (suc k) next_machine next_did next_theory
      unfolding before
      next_lives =
          record {
            joined = subst (λ (ls : List Flown). Joined 1 (suc k) (world (next_machine ∷ []) ls ps next_theory.order next_did) next_theory) wire_same next_joined;
            up = refl;
          }

      pub next_near : (r : ℕ) → Near (suc r) (w.memory 0) → Near r (next_theory.memory 0)
      next_near r q = subst (λ (y : Model ℕ). Near r y) (sym (became_now 1 k 0 ps x.how_it_got w tick_ran (event model_tick) became)) (near_tick r (w.memory 0) within_log q)

      pub next_order : length w.order ≤ length next_theory.order
      next_order = begins_length w.order next_theory.order became.moved.grows

      -- A ROUND is a tick
      module _ (o : List ℕ) where
        proper_tick : proper (alone x o ds) (ticks 0) ≡ true
        unfolding proper machine_at
        proper_tick = z.up

        ticked_is : all_tick enough own (alone x o ds) 1 ≡ alone next_machine o next_did
        unfolding all_tick to_whom event_for before with_proposal machine_at set_machine
        ticked_is =
            ap (λ (b : Bool). pick b (after_thing (alone x o ds) (ticks 0) (thing_ran enough own (alone x o ds) (ticks 0)) true o) (alone x o ds)) proper_tick
            ∙ ap (λ (ls : List Flown). world (next_machine ∷ []) ls ps o next_did) wire_same

        pub round_next : round enough own (length fs) (alone x o ds) ≡ alone next_machine o next_did
        unfolding all_come
        round_next =
            let none : length fs - length fs ≡ 0 = omega arith in
            ap (all_come enough own (all_tick enough own (alone x o ds) 1) (length fs)) none ∙ ticked_is

  -- AFTER SO MANY ROUNDS
  pub record Waited (k : ℕ) (w : Theory) (o : List ℕ) (v : World) : Type 0 where
    pub x₁ : Machine
    pub ds₁ : List Applied
    pub w₁ : Theory
    pub is : v ≡ alone x₁ o ds₁
    pub lives : Lives k x₁ ds₁ w₁
    pub leads : Leads (w₁.memory 0)
    pub order : length w.order ≤ length w₁.order

  -- one round more
  earlier : (k k₁ : ℕ) (w w₁ : Theory) (o : List ℕ) (v v₁ : World) → k₁ ≡ k → v ≡ v₁ → length w.order ≤ length w₁.order → Waited k₁ w₁ o v₁ → Waited k w o v
  earlier k k₁ w w₁ o v v₁ many e more t =
      record {
        x₁ = t.x₁;
        ds₁ = t.ds₁;
        w₁ = t.w₁;
        is = e ∙ t.is;
        lives = subst (λ (i : ℕ). Lives i t.x₁ t.ds₁ t.w₁) many t.lives;
        leads = t.leads;
        order = omega (arith, t.order);
      }

  pub waits : (r k : ℕ) (x : Machine) (ds : List Applied) (w : Theory) (o : List ℕ) → k + r ≤ 8589934592 → Lives k x ds w → Near r (w.memory 0) →
      Waited (k + r) w o (rounds r enough own (length fs) (alone x o ds))
  unfolding rounds
  waits zero k x ds w o low z near =
      record { x₁ = x; ds₁ = ds; w₁ = w; is = refl; lives = subst (λ (i : ℕ). Lives i x ds w) (omega arith) z; leads = near; order = omega arith }
  waits (suc r) k x ds w o low z near =
      let b : k ≤ 8589934592 = omega arith in
      earlier (k + suc r) (suc k + r) w (next_theory k x ds w z b) o _ (rounds r enough own (length fs) (alone (next_machine k x ds w z b) o (next_did k x ds w z b))) (omega arith)
      (ap (rounds r enough own (length fs)) (round_next k x ds w z b o)) (next_order k x ds w z b)
      (waits r (suc k) (next_machine k x ds w z b) (next_did k x ds w z b) (next_theory k x ds w z b) o (omega arith) (next_lives k x ds w z b) (next_near k x ds w z b r near))
