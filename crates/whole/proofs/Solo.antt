-- One machine alone, in calm: after ten ticks it leads, and then what is proposed is decided and applied at once.
use Rattle.std.proofs.Common.{◌≡◌, ℕ, zero, suc, ◌+◌, ◌<◌, ◌≤◌, Bool, true, ◌&&◌, eqb, ltb, leb, ◌⊎◌, List, [], ◌∷◌, ◌++◌, length, Ok, sym, refl, ap, ◌∙◌, subst, inl, inr, arith}
use Rattle.std.proofs.lemmas.List.{length_push, get_or_push}
use Rattle.std.proofs.lemmas.Bool.{lt-ltb, le-leb, eq-eqb, eqb-true, and_from}
use Rattle.raft_log.specs.Values.{value_at}
use Rattle.raft_log.specs.Entries.{last_index, applied_number, values, decided, value_fits}
use Rattle.raft_log.proofs.AppendLaws.{roomy_last}
use Rattle.solo.specs.declared.header.Role.{Role}
use Rattle.solo.specs.declared.header.Role.TheVariants.{Follower, Candidate, Leader}
use Rattle.solo.specs.Header.{loaded}
use Rattle.solo.specs.Election.{ticked}
use Rattle.solo.specs.Proposal.{taken, proposed}
use Rattle.together.specs.House.{pick, every, any, each, same, propose, Applied, applied, far_after, nth_value}
use Rattle.together.specs.Promise.{Ran, runs, last_since, are_bytes, said, tick, Machine, machine_at, set_machine, World, world, flown, Flown, says, ticks, to_whom, event_for, proper, before, thing_ran, after_machine, with_proposal, after_thing, all_tick, all_come, round, rounds, all_got, most_applied, proposing, Takes, Calm}
use Rattle.together.specs.Machine.{acts}
use Rattle.together.specs.Entry.{own}
use Rattle.whole.proofs.Plans.{runs_event}
use Rattle.whole.proofs.Acts.{Long, rest, safe, safe_long, onward, own_planned}
use Rattle.whole.proofs.Holds.{holds_decided}
use Rattle.whole.proofs.Going.{made, made_role, made_first, Rests, Fine, Going}
use Rattle.whole.proofs.Events.{rests_applied, rests_since, tick_going}
use Rattle.whole.proofs.Runs.{on_tick, went_tick, ends_tick, went_fine, grown_none, taken_applied, taken_goes, taken_fine, taken_ends, taken_runs, taken_unsettled}
use Rattle.whole.proofs.Worlds.{enough, Sound, Good, after_good}
use Rattle.whole.proofs.Nearer.{left, Leads, nearer}
use Rattle.together.proofs.Lists.{or_left, any_later, same_self}
use Rattle.whole.proofs.Orders.{nth_last}
use Rattle.whole.proofs.Proposed.{leader_takes}
use Rattle.whole.proofs.Orders.{up_alone, one_machine}
use Rattle.whole.proofs.Orders.{most_alone, got_alone}

left_most : (m : List ℕ) → left (loaded m).role ≤ 10
left_most m = go (loaded m).role
  where
    go : (r : Role) → left r ≤ 10
    go (Follower e) = omega arith
    go (Candidate e) = omega arith
    go Leader = omega arith

module _ (ps : List (List ℕ)) (o : List ℕ) where
  abbrev lone : Machine → List Applied → World
  lone x ds = world (x ∷ []) [] ps o ds

  abbrev since : Machine → ℕ
  since x = last_since x.how_it_got.since

  module _ (k : ℕ) (x : Machine) (ds : List Applied) (g : Good 1 k (lone x ds)) (up : x.up ≡ true) where
    sound : Sound 1 0 k ps o x
    unfolding machine_at
    sound = g.all 0 (omega arith)

    pub rests : Rests 1 0 k ps o x.memory x.how_it_got
    rests = sound.live up

    -- all that is decided is applied
    pub since_all : since x ≡ length o
    since_all = rests_since 1 0 k ps o x.memory x.how_it_got rests

    pub most_of_one : most_applied (lone x ds) ≤ length o
    most_of_one = most_alone x [] ps o ds (length o) sound.ever

    -- A TICK
    proper_tick : proper (lone x ds) (ticks 0) ≡ true
    unfolding proper machine_at
    proper_tick = up

    abbrev ticked_ran : Ran
    ticked_ran = runs enough own x.memory x.stable tick [] [] []

    abbrev pub next_machine : Machine
    next_machine = after_machine (ticks 0) x ticked_ran true

    abbrev pub next_did : List Applied
    next_did = ds ++ ticked_ran.did

    fine : Fine 1 0 (suc k) ps o x.how_it_got ticked_ran
    fine = went_tick 1 0 k ps o g.ordered g.short x.memory x.stable x.how_it_got rests sound.stable enough

    round_is : round enough own 0 (lone x ds) ≡ after_thing (lone x ds) (ticks 0) (thing_ran enough own (lone x ds) (ticks 0)) true o
    unfolding all_tick all_come
    round_is = ap (λ b. pick b (after_thing (lone x ds) (ticks 0) (thing_ran enough own (lone x ds) (ticks 0)) true o) (lone x ds)) proper_tick

    after_is : after_thing (lone x ds) (ticks 0) (thing_ran enough own (lone x ds) (ticks 0)) true o ≡ lone next_machine next_did
    unfolding to_whom event_for before with_proposal machine_at set_machine each
    after_is = ap (λ fl. world (next_machine ∷ []) (flown 0 fl) ps o next_did) fine.flew

    pub round_next : round enough own 0 (lone x ds) ≡ lone next_machine next_did
    round_next = round_is ∙ after_is

    after_is_good : Good 1 (suc k) (after_thing (lone x ds) (ticks 0) (thing_ran enough own (lone x ds) (ticks 0)) true o)
    unfolding to_whom event_for before with_proposal machine_at
    after_is_good =
        after_good 1 k (lone x ds) (ticks 0) ticked_ran g true (omega arith)
        (went_fine 1 0 (suc k) ps o x.how_it_got ticked_ran ps o (grown_none 1 0 (suc k) ps o g.ordered g.short) fine)
        (λ _ e. omega (arith, (ends_tick 1 0 k ps o g.ordered g.short x.memory x.stable x.how_it_got rests sound.stable (suc 4098) (omega arith)).over, e))

    pub next_good : Good 1 (suc k) (lone next_machine next_did)
    next_good = subst (λ (w : World). Good 1 (suc k) w) after_is after_is_good

    -- the acts leave the role as the tick made it
    next_role : (loaded next_machine.memory).role ≡ (loaded (ticked x.memory)).role
    next_role =
        let long : Long (ticked x.memory) = (tick_going 1 0 k ps o x.memory x.how_it_got rests (suc k) (omega arith)).holds.long in
        ap (λ (r : Ran). (loaded r.memory).role) (runs_event own Long acts rest own_planned (suc 4098) tick x.memory (ticked x.memory) x.stable long (on_tick x.memory))
        ∙ made_role enough (ticked x.memory) x.stable long

    pub next_nearer : k < 18446744073709551615 → (left (loaded next_machine.memory).role < left (loaded x.memory).role) ⊎ Leads next_machine.memory
    next_nearer low =
        elim (nearer k ps o x.memory x.how_it_got rests low) [
          | inl l ↦ inl (rw next_role l)
          | inr e ↦ inr (next_role ∙ e)
        ]

    next_leads : Leads x.memory → k < 18446744073709551615 → Leads next_machine.memory
    next_leads l low = elim (next_nearer low) [ inl b ↦ absurd (omega (arith, ap left l)) | inr e ↦ e ]

  -- AFTER SO MANY ROUNDS
  pub record Waited (k r : ℕ) (x : Machine) (w : World) : Type 0 where
    pub x₁ : Machine
    pub ds₁ : List Applied
    pub is : w ≡ lone x₁ ds₁
    pub good : Good 1 (k + r) (lone x₁ ds₁)
    pub up : x₁.up ≡ true
    pub stays : Leads x.memory → Leads x₁.memory
    pub near : (left (loaded x₁.memory).role + r ≤ left (loaded x.memory).role) ⊎ Leads x₁.memory

  pub waits : (r k : ℕ) (x : Machine) (ds : List Applied) → k + r < 18446744073709551615 → Good 1 k (lone x ds) → x.up ≡ true → Waited k r x (rounds r enough own 0 (lone x ds))
  unfolding rounds
  waits zero k x ds low g u =
      record { x₁ = x; ds₁ = ds; is = refl; good = subst (λ (n : ℕ). Good 1 n (lone x ds)) (omega arith) g; up = u; stays = λ l. l; near = inl (omega arith) }
  waits (suc r) k x ds low g u =
      let y : Machine = next_machine k x ds g u in
      let es : List Applied = next_did k x ds g u in
      let t = waits r (suc k) y es (omega arith) (next_good k x ds g u) refl in
      let b : k < 18446744073709551615 = omega arith in
      record {
        x₁ = t.x₁;
        ds₁ = t.ds₁;
        is = ap (rounds r enough own 0) (round_next k x ds g u) ∙ t.is;
        good = subst (λ (n : ℕ). Good 1 n (lone t.x₁ t.ds₁)) (omega arith) t.good;
        up = t.up;
        stays = λ l. t.stays (next_leads k x ds g u l b);
        near =
            elim (next_nearer k x ds g u b) [
              | inl l ↦ elim t.near [ inl l₁ ↦ inl (omega arith) | inr e ↦ inr e ]
              | inr e ↦ inr (t.stays e)
            ];
      }

  -- WHAT IS PROPOSED to a leader is decided and applied at once
  module _ (k : ℕ) (x : Machine) (ds : List Applied) (g : Good 1 k (lone x ds)) (up : x.up ≡ true) (leads : Leads x.memory) (room : length ps < 4096) where
    abbrev m : List ℕ
    m = x.memory

    module _ (v : List ℕ) (short : length v ≤ 256) (bs : are_bytes v ≡ true) where
      r : Rests 1 0 k ps o m x.how_it_got
      r = rests k x ds g up

      fits : value_fits m (length v) ≡ true
      fits =
          let c = r.going.holds.count in
          and_from (leb (length v) 256) (ltb (last_index m) 8193 && ltb (values m) 4096) (le-leb (length v) 256 short)
          (and_from (ltb (last_index m) 8193) (ltb (values m) 4096)
          (lt-ltb (last_index m) 8193 (omega (arith, roomy_last m r.going.holds.roomy, g.short))) (lt-ltb (values m) 4096 (omega (arith, g.short))))

      abbrev m₁ : List ℕ
      m₁ = taken m (loaded m) v

      took_in : proposed m v ≡ Ok (taken m (loaded m) v)
      took_in = leader_takes m v short leads fits

      abbrev args : Ran
      args = runs enough own m x.stable (said (propose v)) [] [] []

      goes_on : Going 1 0 (suc k) (ps ++ v ∷ []) (o ++ length ps ∷ []) m₁ x.how_it_got
      goes_on = taken_goes 1 0 k ps o g.ordered g.short m x.stable x.how_it_got r (sound k x ds g up).stable v bs leads fits took_in

      unsettled : (loaded m₁).unsettled ≡ true
      unsettled = taken_unsettled 1 0 k ps o g.ordered g.short m x.stable x.how_it_got r (sound k x ds g up).stable v bs leads fits took_in

      runs_as : args ≡ made enough m₁ x.stable
      runs_as = taken_runs 1 0 k ps o g.ordered g.short m x.stable x.how_it_got r (sound k x ds g up).stable v bs leads fits took_in (suc 4098)

      fine_taken : Fine 1 0 (suc k) (ps ++ v ∷ []) (o ++ length ps ∷ []) x.how_it_got args
      fine_taken = taken_fine 1 0 k ps o g.ordered g.short m x.stable x.how_it_got r (sound k x ds g up).stable v bs leads fits took_in (suc 4098)

      over : args.end ≡ 0
      over = (taken_ends 1 0 k ps o g.ordered g.short m x.stable x.how_it_got r (sound k x ds g up).stable v bs leads fits took_in (suc 4098) (omega arith)).over

      long : Long m₁
      long = goes_on.holds.long

      at_last : applied_number m₁ ≡ length o
      at_last = taken_applied m v fits r.going.holds.long ∙ rests_applied 1 0 k ps o m x.how_it_got r

      more : applied_number m₁ < decided m₁
      more = omega (arith, at_last, holds_decided (ps ++ v ∷ []) (o ++ length ps ∷ []) m₁ goes_on.holds, length_push o (length ps))

      value_is : value_at m₁ (length o) ≡ v
      value_is =
          goes_on.holds.held (length o) (omega (arith, length_push o (length ps)))
          ∙ (ap (nth_value (ps ++ v ∷ [])) (get_or_push o (length ps) 0 (length o) refl) ∙ nth_last ps v)

      did_it : args.did ≡ applied (length o + 1) v ∷ (made 4098 (onward (safe m₁ long) (safe_long m₁ long)) (safe m₁ long)).did
      did_it =
          ap (λ (z : Ran). z.did) (runs_as ∙ made_first 4098 m₁ x.stable long unsettled more)
          ∙ ap (λ (a : Applied). a ∷ (made 4098 (onward (safe m₁ long) (safe_long m₁ long)) (safe m₁ long)).did)
          (ap (λ j. applied (j + 1) (value_at m₁ j)) at_last ∙ ap (applied (length o + 1)) value_is)

      far_on : last_since (far_after x.how_it_got args.did).since ≡ length o + 1
      far_on =
          elim fine_taken.stays [
            | inl e ↦ absurd (omega (arith, over, e))
            | inr e ↦ rests_since 1 0 (suc k) (ps ++ v ∷ []) (o ++ length ps ∷ []) args.memory (far_after x.how_it_got args.did) e.1 ∙ length_push o (length ps)
          ]

      abbrev p : Applied → Bool
      p a = eqb a.index (length o + 1) && same a.value v

      found : (es : List Applied) → any p (ds ++ applied (length o + 1) v ∷ es) ≡ true
      unfolding any
      found es =
          any_later p ds (applied (length o + 1) v ∷ es)
          (or_left (p (applied (length o + 1) v)) (any p es) (and_from (eqb (length o + 1) (length o + 1)) (same v v) (eq-eqb (length o + 1) (length o + 1) refl) (same_self v)))

      abbrev Got : World → Type 0
      Got w = (all_got w (length o + 1) ≡ true) × (any p w.all_did ≡ true)

      got_it : Got (rounds 0 enough own 0 (proposing enough own (lone x ds) 0 v))
      unfolding rounds to_whom event_for before machine_at set_machine every
      got_it = (
        and_from (leb (length o + 1) (last_since (far_after x.how_it_got args.did).since)) true (le-leb (length o + 1) _ (omega (arith, far_on))) refl,
        subst (λ (es : List Applied). any p (ds ++ es) ≡ true) (sym did_it) (found _),
      )

      ended : (thing_ran enough own (lone x ds) (says 0 (propose v))).end ≡ 0
      unfolding to_whom event_for before machine_at
      ended = over

    takes : Takes own enough (lone x ds)
    unfolding Takes machine_at
    takes =
        (0, up, λ v short bs. (enough, 0, length o + 1, ended v short bs, omega (arith, most_of_one k x ds g up), (got_it v short bs).0, (got_it v short bs).1))

  calm_lone : (k : ℕ) (x : Machine) (ds : List Applied) → k ≤ 4294967296 → Good 1 k (lone x ds) → Calm own (lone x ds)
  unfolding Calm every
  calm_lone k x ds low g e =
      let u = up_alone x [] ps o ds e in
      let t = waits 11 k x ds (omega arith) g u in
      let s : since t.x₁ ≡ length o = since_all (k + 11) t.x₁ t.ds₁ t.good t.up in
      let l : Leads t.x₁.memory = elim t.near [ inl b ↦ absurd (omega (arith, left_most x.memory)) | inr b ↦ b ] in (
        enough,
        11,
        subst (λ (w : World). all_got w (most_applied (lone x ds)) ≡ true) (sym t.is)
            (got_alone t.x₁ [] ps o t.ds₁ (most_applied (lone x ds)) (omega (arith, s, most_of_one k x ds g u))),
        λ room. subst (λ (w : World). Takes own enough w) (sym t.is) (takes (k + 11) t.x₁ t.ds₁ t.good t.up l room),
      )

-- one machine alone goes on in calm
pub calm_alone : (many k : ℕ) (w : World) → k ≤ 4294967296 → Good many k w → eqb many 1 ≡ true → Calm own w
calm_alone many k w low g e =
    let z : Good 1 k w = subst (λ (n : ℕ). Good n k w) (eqb-true many 1 e) g in
    one_machine (λ ms. Good 1 k (world ms w.wire w.proposed w.order w.all_did) → Calm own (world ms w.wire w.proposed w.order w.all_did)) w.machines z.number
    (λ x. subst (λ (fs : List Flown). Good 1 k (world (x ∷ []) fs w.proposed w.order w.all_did) → Calm own (world (x ∷ []) fs w.proposed w.order w.all_did)) (sym z.wire)
    (calm_lone w.proposed w.order k x w.all_did low)) z
