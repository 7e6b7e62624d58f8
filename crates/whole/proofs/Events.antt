-- What each event changes, in a machine whose log is what the order says.
use Rattle.std.proofs.Common.{◌≡◌, ℕ, suc, ◌+◌, ◌-◌, ◌<◌, ◌≤◌, true, eqb, ltb, leb, List, [], ◌∷◌, ◌++◌, length, sym, refl, ap, ◌∙◌, subst, arith}
use Rattle.std.proofs.lemmas.List.{length_push}
use Rattle.std.proofs.lemmas.Bool.{ltb-true, lt-ltb, le-leb, and_from, cond_both, cond-true, true≢false}
use Rattle.raft_log.specs.Entries.{last_index, applied_number, value_fits, value_appended, empty_place, empty_fits, empty_appended, commit_raised, applied_set}
use Rattle.raft_log.proofs.LogLaws.{applied_most, applied_set_entries, applied_set_commit, applied_set_applied, applied_set_other, length_applied_set, commit_raised_applied}
use Rattle.raft_log.proofs.AppendLaws.{appended_applied, empty_applied}
use Rattle.raft.specs.declared.header.Ticks.{Ticks}
use Rattle.solo.specs.declared.header.Role.{Role}
use Rattle.solo.specs.declared.header.Role.TheVariants.{Follower, Candidate, Leader}
use Rattle.raft.specs.declared.header.Machine.{Machine}
use Rattle.solo.specs.Header.{elapsed_word, loaded, stored}
use Rattle.raft.specs.Header.{ticks}
use Rattle.solo.specs.Power.{powered}
use Rattle.raft.specs.Power.{belongs, restarted}
use Rattle.solo.specs.Election.{led, campaigned, term_entered, next_term_entered, waited, tick_as, ticked}
use Rattle.raft.specs.Header.{older, with_role, in_term}
use Rattle.raft.specs.Rows.{most_of}
use Rattle.raft.specs.Election.{owner}
use Rattle.solo.specs.Proposal.{own_acked, taken}
use Rattle.raft.specs.Proposal.{with_unsettled}
use Rattle.solo.proofs.HeaderLaws.{Held, loaded_held, loaded_stored, loaded_alike, length_stored, stored_entries, stored_commit, stored_applied}
use Rattle.together.specs.House.{Far, far, next_ok, may_apply, an_order}
use Rattle.together.specs.Promise.{last_since, are_bytes}
use Rattle.whole.proofs.Acts.{Long, SameLog, stored_log}
use Rattle.whole.proofs.Holds.{Holds, holds_same, holds_led, holds_taken}
use Rattle.whole.proofs.Going.{Stable, Going, Rests}
use Rattle.raft.proofs.HeaderLaws.{older_most}

not_leader : {A : Type 0} (e : Ticks) → Follower e ≡ Leader → A
not_leader e q = absurd (let z : ◌≡◌ {A = ℕ} 0 1 = cc in omega arith)

candidate_no : {A : Type 0} (e : Ticks) → Candidate e ≡ Leader → A
candidate_no e q = absurd (let z : ◌≡◌ {A = ℕ} 0 1 = cc in omega arith)

-- a new struct over a log that is what a longer order says
module _ (many h k : ℕ) (ps : List (List ℕ)) (o : List ℕ) (m : List ℕ) (f : Far) (r : Rests many h k ps o m f) where
  -- at rest all was applied
  pub rests_applied : applied_number m ≡ length o
  rests_applied = omega (arith, r.going.low, r.all)

  pub rests_since : last_since f.since ≡ length o
  rests_since = r.going.reach r.all

  going_stored : (k₁ : ℕ) (ps₁ : List (List ℕ)) (o₁ m₀ : List ℕ) (y : Machine Role) → Holds ps₁ o₁ m₀ → applied_number m₀ ≡ applied_number m → length o ≤ length o₁ → Held y →
      y.size.0 ≡ many → y.id.0 ≡ h → (y.role ≡ Leader → many ≡ 1) → y.term.0 ≤ k₁ → y.since.0 ≡ (loaded m).since.0 → Going many h k₁ ps₁ o₁ (stored m₀ y) f
  going_stored k₁ ps₁ o₁ m₀ y hold a more held size id leads term since =
      let x = loaded_stored m₀ y hold.long held in
      let ap₀ : applied_number (stored m₀ y) ≡ length o = stored_applied m₀ y ∙ (a ∙ rests_applied) in
      record {
        holds = holds_same ps₁ o₁ m₀ (stored m₀ y) (length_stored m₀ y ∙ hold.long) (stored_log m₀ y) hold;
        size = ap (λ (z : Machine Role). z.size.0) x ∙ size;
        id = ap (λ (z : Machine Role). z.id.0) x ∙ id;
        leads = λ e. leads (sym (ap (λ (z : Machine Role). z.role) x) ∙ e);
        term = subst (λ (z : Machine Role). z.term.0 ≤ k₁) (sym x) term;
        since = ap (λ (z : Machine Role). z.since.0) x ∙ (since ∙ r.going.since);
        turn = subst (λ (j : ℕ). may_apply f (j + 1) ≡ true) (sym (stored_applied m₀ y ∙ a)) r.going.turn;
        low = omega arith;
        reach = λ l. omega (arith, rests_since);
        ever = omega (arith, r.going.ever);
        reached = r.going.reached;
        settles = λ _. omega (arith, rests_since, r.going.reached);
      }

  abbrev x : Machine Role
  x = loaded m

  -- A TICK: the order is as it was
  module _ (k₁ : ℕ) (later : k < k₁) where
    abbrev GoesOn : List ℕ → Type 0
    GoesOn m₁ = Going many h k₁ ps o m₁ f

    in_role : (y : Machine Role) → Held y → y.size.0 ≡ x.size.0 → y.id.0 ≡ x.id.0 → (y.role ≡ Leader → many ≡ 1) → y.term.0 ≤ k₁ → y.since.0 ≡ x.since.0 → GoesOn (stored m y)
    in_role y held size id leads term since =
        going_stored k₁ ps o m y r.going.holds refl (omega arith) held (size ∙ r.going.size) (id ∙ r.going.id) leads term since

    module _ (t : ℕ) (fits : t ≤ k₁) where
      new_term : (role : Role) → elapsed_word role ≤ 10 → (role ≡ Leader → many ≡ 1) → GoesOn (stored m (in_term x t role))
      new_term role waits leads = in_role (in_term x t role) (record { some = (loaded_held m).some; waits = waits }) refl refl leads fits refl

      leads_now : many ≡ 1 → GoesOn (led m x t)
      unfolding led
      leads_now one =
          cond_both (empty_fits m) (stored (commit_raised (empty_appended m t) (empty_place m)) (in_term x t Leader)) (stored m (in_term x t (Follower (ticks 0)))) (λ y. GoesOn y)
          (λ e.
          going_stored k₁ ps o (commit_raised (empty_appended m t) (empty_place m)) (in_term x t Leader) (holds_led ps o m t e r.going.holds)
          (commit_raised_applied (empty_appended m t) (empty_place m) ∙ empty_applied m t r.going.holds.long e) (omega arith)
          (record { some = (loaded_held m).some; waits = omega arith }) r.going.size r.going.id (λ _. one) fits refl)
          (λ _. new_term (Follower (ticks 0)) (omega arith) (not_leader (ticks 0)))

      stands : GoesOn (campaigned m x t)
      unfolding campaigned
      stands =
          cond_both (most_of 1 x.size.0) (led m x t) (stored m (in_term x t (Candidate (ticks 0)))) (λ y. GoesOn y)
          (λ e. leads_now (omega (arith, ltb-true x.size.0 2 e, r.going.size, (loaded_held m).some)))
          (λ _. new_term (Candidate (ticks 0)) (omega arith) (candidate_no (ticks 0)))

      enters : GoesOn (term_entered m x t)
      unfolding term_entered
      enters =
          cond_both (eqb (owner x.size.0 t) x.id.0) (campaigned m x t) (stored m (in_term x t (Follower (ticks 0)))) (λ y. GoesOn y) (λ _. stands)
          (λ _. new_term (Follower (ticks 0)) (omega arith) (not_leader (ticks 0)))

    stays : GoesOn m
    stays =
        let g = r.going in
        record { holds = g.holds; size = g.size; id = g.id; leads = g.leads; term = omega (arith, g.term); since = g.since; turn = g.turn; low = g.low; reach = g.reach; ever = g.ever; reached = g.reached; settles = g.settles }

    waits : (e : Ticks) (role : Role) → elapsed_word role ≤ 10 → (role ≡ Leader → many ≡ 1) → GoesOn (waited m x e role)
    waits e role w leads =
        cond_both (ltb e.0 10) (stored m (with_role x role)) (next_term_entered m x) (λ y. GoesOn y)
        (λ _. in_role (with_role x role) (record { some = (loaded_held m).some; waits = w }) refl refl leads (omega (arith, r.going.term)) refl)
        (λ _. cond_both (ltb x.term.0 18446744073709551615) (term_entered m x (x.term.0 + 1)) m (λ y. GoesOn y) (λ _. enters (x.term.0 + 1) (omega (arith, r.going.term))) (λ _. stays))

    ticks_as : (role : Role) → GoesOn (tick_as m x role)
    ticks_as (Follower e) = waits (older e) (Follower (older e)) (older_most e) (not_leader (older e))
    ticks_as (Candidate e) = waits (older e) (Candidate (older e)) (older_most e) (candidate_no (older e))
    ticks_as Leader = stays

    pub tick_going : Going many h k₁ ps o (ticked m) f
    unfolding ticked
    tick_going = ticks_as x.role

  -- A PROPOSAL is taken: it stands last in the order
  pub taken_going : (k₁ : ℕ) → k ≤ k₁ → an_order ps o ≡ true → (v : List ℕ) → (loaded m).role ≡ Leader → value_fits m (length v) ≡ true → are_bytes v ≡ true →
      Going many h k₁ (ps ++ v ∷ []) (o ++ length ps ∷ []) (taken m x v) f
  unfolding taken own_acked
  taken_going k₁ later ordered v leads fits bs =
      let one : many ≡ 1 = r.going.leads leads in
      let most : most_of 1 x.size.0 ≡ true = lt-ltb x.size.0 2 (omega (arith, r.going.size)) in
      let t : ℕ = x.term.0 in
      subst (λ (m₀ : List ℕ). Going many h k₁ (ps ++ v ∷ []) (o ++ length ps ∷ []) (stored m₀ (with_unsettled x)) f)
      (sym (cond-true (most_of 1 x.size.0) (commit_raised (value_appended m t v) (last_index m + 1)) (value_appended m t v) most))
      (going_stored k₁ (ps ++ v ∷ []) (o ++ length ps ∷ []) (commit_raised (value_appended m t v) (last_index m + 1)) (with_unsettled x)
      (holds_taken ps o ordered m v t fits bs r.going.holds)
      (commit_raised_applied (value_appended m t v) (last_index m + 1) ∙ appended_applied m t v r.going.holds.long fits) (omega (arith, length_push o (length ps)))
      (record { some = (loaded_held m).some; waits = (loaded_held m).waits }) r.going.size r.going.id (λ _. one) (omega (arith, r.going.term)) refl)

-- POWER COMES
module _ (many h k : ℕ) (ps : List (List ℕ)) (o : List ℕ) (s : List ℕ) (reach : ℕ) (g : Stable many h k ps o s (far reach [])) (ever : reach ≤ length o) (there : h < many) (few : many ≤ 7) where
  abbrev woken : Machine Role
  woken = restarted (loaded s) h many (Follower (ticks 0))

  abbrev m₀ : List ℕ
  m₀ = stored s woken

  woken_held : Held woken
  woken_held = record { some = omega arith; waits = omega arith }

  power_is : powered s h many ≡ applied_set m₀ (applied_number s - 1)
  unfolding powered
  power_is =
      cond-true (belongs h many) (applied_set m₀ (applied_number s - 1)) s (and_from (leb many 7) (ltb h many) (le-leb many 7 few) (lt-ltb h many there))

  power_long : Long m₀
  power_long = length_stored s woken ∙ g.holds.long

  abbrev m₁ : List ℕ
  m₁ = applied_set m₀ (applied_number s - 1)

  power_loaded : loaded m₁ ≡ woken
  power_loaded = loaded_alike m₀ m₁ (λ i l. applied_set_other m₀ (applied_number s - 1) i (omega arith)) ∙ loaded_stored s woken g.holds.long woken_held

  power_applied : applied_number m₁ ≡ applied_number s - 1
  power_applied = applied_set_applied m₀ (applied_number s - 1) power_long (omega (arith, applied_most s))

  power_log : SameLog s m₁
  power_log =
      let a = applied_set_entries m₀ (applied_number s - 1) in
      let b = stored_entries s woken in
      record {
        entries = record { last = a.last ∙ b.last; terms = λ i. a.terms i ∙ b.terms i; numbers = λ i. a.numbers i ∙ b.numbers i; held = λ i. a.held i ∙ b.held i };
        commit = applied_set_commit m₀ (applied_number s - 1) ∙ stored_commit s woken;
      }

  pub power_going : (k₁ : ℕ) → k ≤ k₁ → Going many h k₁ ps o (powered s h many) (far reach [])
  unfolding next_ok last_since
  power_going k₁ later =
      subst (λ (m : List ℕ). Going many h k₁ ps o m (far reach [])) (sym power_is)
      (record {
        holds = holds_same ps o s m₁ (length_applied_set m₀ (applied_number s - 1) ∙ power_long) power_log g.holds;
        size = ap (λ (z : Machine Role). z.size.0) power_loaded;
        id = ap (λ (z : Machine Role). z.id.0) power_loaded;
        leads = λ e. not_leader (ticks 0) (sym (ap (λ (z : Machine Role). z.role) power_loaded) ∙ e);
        term = subst (λ (z : Machine Role). z.term.0 ≤ k₁) (sym power_loaded) (omega (arith, g.term));
        since = ap (λ (z : Machine Role). z.since.0) power_loaded;
        turn =
            and_from (leb 1 (applied_number m₁ + 1)) (leb (applied_number m₁ + 1) (suc reach)) (le-leb 1 (applied_number m₁ + 1) (omega arith))
            (le-leb (applied_number m₁ + 1) (suc reach) (omega (arith, power_applied, g.applied)));
        low = omega (arith, power_applied, g.applied);
        reach = λ l. omega (arith, power_applied, g.applied);
        ever = ever;
        reached = omega arith;
        settles = λ u. absurd (true≢false (sym u ∙ ap (λ (z : Machine Role). z.unsettled) power_loaded));
      })

-- what is safe stays so as terms begin, and as more is proposed
pub stable_later : (many h k k₁ : ℕ) (ps : List (List ℕ)) (o s : List ℕ) (f : Far) → k ≤ k₁ → Stable many h k ps o s f → Stable many h k₁ ps o s f
stable_later many h k k₁ ps o s f l g = record { holds = g.holds; applied = g.applied; term = omega (arith, g.term) }
