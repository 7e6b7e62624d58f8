-- Memory never grows, nor do its numbers beyond 64 bits.
use Rattle.std.proofs.Common.{◌≡◌, ℕ, ◌+◌, ◌-◌, ◌<◌, ◌≤◌, true, ◌&&◌, eqb, ltb, leb, List, length, get_or, Some, None, Ok, Err, Result, ◌∙◌, arith, lit≤}
use Rattle.std.proofs.lemmas.List.{length-set}
use Rattle.std.proofs.lemmas.Bool.{ltb-true, leb-true, and_parts, cond_both}
use Rattle.raft_log.specs.Entries.{last_index, applied_number, values, decided, value_fits, value_appended, empty_place, empty_fits, empty_appended, commit_raised, applied_set}
use Rattle.raft_log.proofs.LogLaws.{applied_most}
use Rattle.raft.specs.declared.header.Ticks.{Ticks}
use Rattle.solo.specs.declared.header.Role.{Role}
use Rattle.solo.specs.declared.header.Role.TheVariants.{Follower, Candidate, Leader}
use Rattle.raft.specs.declared.header.Machine.{Machine}
use Rattle.raft.specs.declared.proposal.Refusal.{Refusal}
use Rattle.solo.specs.Header.{role_word, elapsed_word, loaded, stored}
use Rattle.raft.specs.Header.{ticks}
use Rattle.solo.specs.Power.{powered}
use Rattle.raft.specs.Power.{belongs, restarted}
use Rattle.solo.specs.Election.{led, campaigned, term_entered, next_term_entered, waited, tick_as, ticked}
use Rattle.raft.specs.Header.{older, with_role, in_term}
use Rattle.raft.specs.Rows.{most_of}
use Rattle.raft.specs.Election.{owner}
use Rattle.solo.specs.Proposal.{own_acked, taken, proposed}
use Rattle.raft.specs.Proposal.{with_unsettled}
use Rattle.solo.specs.Apply.{advanced}
use Rattle.raft.specs.Apply.{settled, applied_up_to, due}
use Rattle.solo.proofs.HeaderLaws.{loaded_held, length_stored}
use Rattle.together.specs.House.{propose, how_far}
use Rattle.together.specs.Promise.{Steady, all_small, Event, on, said, came, tick, next, settle}
use Rattle.together.specs.Machine.{answer, apply_due, go_on, after_proposal, own_step}
use Rattle.together.specs.Entry.{own}
use Rattle.together.proofs.Lengths.{length_start}
use Rattle.raft.proofs.HeaderLaws.{older_most}
use Rattle.together.proofs.Starts.{start_zero}
use Rattle.together.proofs.Smalls.{limit, Kept, kept, then_kept, kept_set, small_word, flag_small, Small as SmallBy, in_term_small, with_role_small, unsettled_small, settled_small, applied_small}
use Rattle.together.proofs.KeptLogs.{emptied_kept, appended_kept, raised_kept, applied_kept}
use Rattle.whole.proofs.Asked.{KeptProposed, kept_asked}
use Rattle.whole.proofs.Proposed.{asked}

-- a struct whose numbers fit words
abbrev Small : Machine Role → Type 0
Small x = SmallBy elapsed_word x

role_small : (r : Role) → role_word r < limit
role_small (Follower e) = omega arith
role_small (Candidate e) = omega arith
role_small Leader = omega arith

kept_stored : (m : List ℕ) (x : Machine Role) → (all_small m ≡ true → Small x) → Kept m (stored m x)
unfolding stored
kept_stored m x s =
    record {
      long = simp length-set;
      small = λ h.
          let y = s h in
          (then_kept (then_kept (then_kept (then_kept (then_kept (then_kept (kept_set m 0 _ (λ _. y.size)) (kept_set _ 1 _ (λ _. y.id))) (kept_set _ 2 _ (λ _. y.term))) (kept_set _ 3 _ (λ _. role_small x.role))) (kept_set _ 4 _ (λ _. omega (arith, y.waits)))) (kept_set _ 5 _ (λ _. y.since))) (kept_set _ 6 _ (λ _. flag_small x.unsettled))
          ).small h;
    }

loaded_small : (m : List ℕ) → all_small m ≡ true → Small (loaded m)
unfolding loaded
loaded_small m h =
    record {
      size = cond_both (ltb 1 (get_or m 0 0)) (get_or m 0 0) 1 (λ x. x < limit) (λ _. small_word m 0 h) (λ _. omega arith);
      id = small_word m 1 h;
      term = small_word m 2 h;
      since = small_word m 5 h;
      waits = (loaded_held m).waits;
    }

-- THE EVENTS
kept_powered : (m : List ℕ) (i n : ℕ) → Kept m (powered m i n)
unfolding powered
kept_powered m i n =
    cond_both (belongs i n) (applied_set (stored m (restarted (loaded m) i n (Follower (ticks 0)))) (applied_number m - 1)) m (λ x. Kept m x)
    (λ e.
    let b = and_parts (leb n 7) (ltb i n) e in
    let low : n ≤ 7 = leb-true n 7 b.0 in
    let at : i < n = ltb-true i n b.1 in
    applied_kept m _ (applied_number m - 1)
    (kept_stored m (restarted (loaded m) i n (Follower (ticks 0))) (λ h. record { size = omega arith; id = omega arith; term = (loaded_small m h).term; since = omega arith; waits = omega arith }))
    (omega (arith, applied_most m)))
    (λ _. kept m)

module _ (m : List ℕ) (x : Machine Role) (small : all_small m ≡ true → Small x) where
  -- another term or role
  small_in : (t : ℕ) (r : Role) → t < limit → elapsed_word r ≤ 10 → all_small m ≡ true → Small (in_term x t r)
  small_in t r a b h = in_term_small elapsed_word x (small h) t r a b

  small_role : (r : Role) → elapsed_word r ≤ 10 → all_small m ≡ true → Small (with_role x r)
  small_role r b h = with_role_small elapsed_word x (small h) r b

  -- the struct is stored over what m became
  kept_over : (m₁ : List ℕ) (y : Machine Role) → Kept m m₁ → (all_small m ≡ true → Small y) → Kept m (stored m₁ y)
  kept_over m₁ y k s = record { long = length_stored m₁ y ∙ k.long; small = λ h. (kept_stored m₁ y (λ _. s h)).small (k.small h) }

  module _ (t : ℕ) (fits : t < limit) where
    kept_led : Kept m (led m x t)
    unfolding led
    kept_led =
        cond_both (empty_fits m) (stored (commit_raised (empty_appended m t) (empty_place m)) (in_term x t Leader)) (stored m (in_term x t (Follower (ticks 0)))) (λ y. Kept m y)
        (λ e. kept_over (commit_raised (empty_appended m t) (empty_place m)) (in_term x t Leader) (raised_kept m _ (empty_place m) (emptied_kept m m t (kept m) (λ _. fits) e)) (small_in t Leader fits (omega arith)))
        (λ _. kept_stored m _ (small_in t (Follower (ticks 0)) fits (omega arith)))

    kept_campaigned : Kept m (campaigned m x t)
    unfolding campaigned
    kept_campaigned =
        cond_both (most_of 1 x.size.0) (led m x t) (stored m (in_term x t (Candidate (ticks 0)))) (λ y. Kept m y) (λ _. kept_led)
        (λ _. kept_stored m _ (small_in t (Candidate (ticks 0)) fits (omega arith)))

    kept_entered : Kept m (term_entered m x t)
    unfolding term_entered
    kept_entered =
        cond_both (eqb (owner x.size.0 t) x.id.0) (campaigned m x t) (stored m (in_term x t (Follower (ticks 0)))) (λ y. Kept m y) (λ _. kept_campaigned)
        (λ _. kept_stored m _ (small_in t (Follower (ticks 0)) fits (omega arith)))

  kept_next : Kept m (next_term_entered m x)
  kept_next =
      cond_both (ltb x.term.0 18446744073709551615) (term_entered m x (x.term.0 + 1)) m (λ y. Kept m y)
      (λ e. kept_entered (x.term.0 + 1) (omega (arith, ltb-true x.term.0 18446744073709551615 e))) (λ _. kept m)

  kept_waited : (e : Ticks) (r : Role) → elapsed_word r ≤ 10 → Kept m (waited m x e r)
  kept_waited e r b =
      cond_both (ltb e.0 10) (stored m (with_role x r)) (next_term_entered m x) (λ y. Kept m y) (λ _. kept_stored m _ (small_role r b)) (λ _. kept_next)

  kept_tick : (r : Role) → Kept m (tick_as m x r)
  kept_tick (Follower e) = kept_waited (older e) (Follower (older e)) (older_most e)
  kept_tick (Candidate e) = kept_waited (older e) (Candidate (older e)) (older_most e)
  kept_tick Leader = kept m

  kept_own_ack : (m₁ : List ℕ) (i : ℕ) → Kept m m₁ → Kept m (own_acked m₁ x i)
  unfolding own_acked
  kept_own_ack m₁ i k =
      cond_both (most_of 1 x.size.0) (commit_raised m₁ i) m₁ (λ y. Kept m y) (λ _. raised_kept m m₁ i k) (λ _. k)

  kept_taken : (v : List ℕ) → value_fits m (length v) ≡ true → Kept m (taken m x v)
  unfolding taken
  kept_taken v f =
      let short : length v ≤ 256 = leb-true (length v) 256 (and_parts (leb (length v) 256) (ltb (last_index m) 8193 && ltb (values m) 4096) f).0 in
      kept_over _ (with_unsettled x) (kept_own_ack (value_appended m x.term.0 v) (last_index m + 1) (appended_kept m m x.term.0 v (kept m) (λ h. (small h).term) short))
      (λ h. unsettled_small elapsed_word x (small h))

kept_proposed : (m v : List ℕ) → KeptProposed m (proposed m v)
kept_proposed m v = kept_asked (λ f. kept_taken m (loaded m) (loaded_small m) v f) (asked m v)

kept_go_on : (m : List ℕ) → Kept m (go_on m).memory
unfolding go_on advanced
kept_go_on m =
    cond_both (loaded m).unsettled (answer (stored m (settled (loaded m))) settle) (apply_due m (loaded m) (due m)) (λ s. Kept m s.memory)
    (λ _. kept_stored m (settled (loaded m)) (λ h. settled_small elapsed_word (loaded m) (loaded_small m h)))
    (λ _. cond_both (ltb (applied_number m) (decided m)) (Some (applied_number m)) None (λ o. Kept m (apply_due m (loaded m) o).memory)
    (λ _. applied_kept m _ (applied_number m + 1)
    (kept_stored m (applied_up_to (loaded m) (applied_number m + 1)) (λ h. applied_small elapsed_word (loaded m) (loaded_small m h) (applied_number m + 1) (omega (arith, applied_most m))))
    (omega (arith, applied_most m)))
    (λ _. kept m))

kept_after : (m : List ℕ) (p : Result (List ℕ) Refusal) → KeptProposed m p → Kept m (after_proposal m p).memory
kept_after m (Ok m₁) k = then_kept k (kept_go_on m₁)
kept_after m (Err why) k = kept m

kept_step : (m : List ℕ) (ev : Event) → Kept m (own_step m ev).memory
unfolding own_step ticked
kept_step m (on i n) = then_kept (kept_powered m i n) (kept_go_on (powered m i n))
kept_step m (said (propose v)) = kept_after m (proposed m v) (kept_proposed m v)
kept_step m (said how_far) = kept m
kept_step m (came i bs) = kept m
kept_step m tick = then_kept (kept_tick m (loaded m) (loaded_small m) (loaded m).role) (kept_go_on (ticked m))
kept_step m next = kept_go_on m

pub steady : Steady own
unfolding Steady own
steady = (rw length_start (lit≤ tt), start_zero, λ m ev. ((kept_step m ev).long, (kept_step m ev).small))
