-- With each tick one machine alone comes nearer to leading.
use Rattle.std.proofs.Common.{◌≡◌, ℕ, ◌+◌, ◌-◌, ◌%◌, ◌<◌, eqb, ltb, ◌⊎◌, List, sym, refl, ap, ◌∙◌, inl, inr, arith}
use Rattle.std.proofs.lemmas.Bool.{lt-ltb, le-ltb, eq-eqb, cond-true, cond-false, cases_lt}
use Rattle.raft_log.specs.Entries.{empty_fits, empty_place, empty_appended, commit_raised}
use Rattle.raft_log.proofs.LogLaws.{length_commit_raised}
use Rattle.raft_log.proofs.AppendLaws.{roomy_fits, length_empty}
use Rattle.raft.specs.declared.header.Ticks.{Ticks}
use Rattle.solo.specs.declared.header.Role.{Role}
use Rattle.solo.specs.declared.header.Role.TheVariants.{Follower, Candidate, Leader}
use Rattle.raft.specs.declared.header.Machine.{Machine}
use Rattle.solo.specs.Header.{elapsed_word, loaded, stored}
use Rattle.raft.specs.Header.{ticks}
use Rattle.solo.specs.Election.{led, campaigned, term_entered, next_term_entered, waited, tick_as, ticked}
use Rattle.raft.specs.Header.{older, with_role, in_term}
use Rattle.raft.specs.Rows.{most_of}
use Rattle.raft.specs.Election.{owner}
use Rattle.solo.proofs.HeaderLaws.{Held, loaded_held, loaded_stored}
use Rattle.together.specs.House.{Far}
use Rattle.whole.proofs.Acts.{Long}
use Rattle.whole.proofs.Going.{Rests}

-- how many ticks it still waits
abbrev pub left : Role → ℕ
left (Follower e) = 10 - e.0
left (Candidate e) = 10 - e.0
left Leader = 0

abbrev pub Leads : List ℕ → Type 0
Leads m = (loaded m).role ≡ Leader

module _ (k : ℕ) (ps : List (List ℕ)) (o : List ℕ) (m : List ℕ) (f : Far) (r : Rests 1 0 k ps o m f) (low : k < 18446744073709551615) where
  abbrev x : Machine Role
  x = loaded m

  long : Long m
  long = r.going.holds.long

  -- it leads as soon as it goes to a term
  leads_led : (t : ℕ) → Leads (led m x t)
  unfolding led
  leads_led t =
      let f₁ = roomy_fits m r.going.holds.roomy in
      ap (λ y. (loaded y).role) (cond-true (empty_fits m) (stored (commit_raised (empty_appended m t) (empty_place m)) (in_term x t Leader)) (stored m (in_term x t (Follower (ticks 0)))) f₁)
      ∙ ap (λ (y : Machine Role). y.role)
      (loaded_stored (commit_raised (empty_appended m t) (empty_place m)) (in_term x t Leader) (length_commit_raised (empty_appended m t) (empty_place m) ∙ (length_empty m t long f₁ ∙ long))
      (record { some = (loaded_held m).some; waits = omega arith }))

  leads_campaign : (t : ℕ) → Leads (campaigned m x t)
  unfolding campaigned
  leads_campaign t =
      ap (λ y. (loaded y).role) (cond-true (most_of 1 x.size.0) (led m x t) (stored m (in_term x t (Candidate (ticks 0)))) (lt-ltb x.size.0 2 (omega (arith, r.going.size))))
      ∙ leads_led t

  mine : (t : ℕ) → owner x.size.0 t ≡ x.id.0
  mine t = ap (λ n. t % n) r.going.size ∙ (let z : t % 1 ≡ 0 = omega arith in z ∙ sym r.going.id)

  leads_entered : (t : ℕ) → Leads (term_entered m x t)
  unfolding term_entered
  leads_entered t =
      ap (λ y. (loaded y).role) (cond-true (eqb (owner x.size.0 t) x.id.0) (campaigned m x t) (stored m (in_term x t (Follower (ticks 0)))) (eq-eqb (owner x.size.0 t) x.id.0 (mine t)))
      ∙ leads_campaign t

  leads_next : Leads (next_term_entered m x)
  leads_next =
      ap (λ y. (loaded y).role) (cond-true (ltb x.term.0 18446744073709551615) (term_entered m x (x.term.0 + 1)) m (lt-ltb x.term.0 18446744073709551615 (omega (arith, r.going.term))))
      ∙ leads_entered (x.term.0 + 1)

  -- it waits for one tick more, or leads
  abbrev Nearer : ℕ → List ℕ → Type 0
  Nearer n m₁ = left (loaded m₁).role < n ⊎ Leads m₁

  waits_nearer : (e : Ticks) (role : Ticks → Role) → ((y : Ticks) → left (role y) ≡ 10 - y.0) → ((y : Ticks) → elapsed_word (role y) ≡ y.0) → Nearer (10 - e.0) (waited m x (older e) (role (older e)))
  waits_nearer e role is word =
      elim (cases_lt (older e).0 10) [
        | inl l ↦
            let shape : waited m x (older e) (role (older e)) ≡ stored m (with_role x (role (older e))) =
            cond-true (ltb (older e).0 10) (stored m (with_role x (role (older e)))) (next_term_entered m x) (lt-ltb (older e).0 10 l) in
            let held : Held (with_role x (role (older e))) = record { some = (loaded_held m).some; waits = omega (arith, word (older e)) } in
            let now_role : (loaded (waited m x (older e) (role (older e)))).role ≡ role (older e) =
            ap (λ y. (loaded y).role) shape ∙ ap (λ (y : Machine Role). y.role) (loaded_stored m (with_role x (role (older e))) long held) in
            inl (rw (now_role, is (older e)) (shrinks l))
        | inr l ↦
            inr
            (ap (λ y. (loaded y).role) (cond-false (ltb (older e).0 10) (stored m (with_role x (role (older e)))) (next_term_entered m x) (le-ltb (older e).0 10 l)) ∙ leads_next)
      ]
    where
      shrinks : (older e).0 < 10 → 10 - (older e).0 < 10 - e.0
      shrinks l =
          elim (cases_lt e.0 10) [
            | inl b ↦ let q : older e ≡ ticks (e.0 + 1) = cond-true (ltb e.0 10) (ticks (e.0 + 1)) (ticks 10) (lt-ltb e.0 10 b) in
                let z : (older e).0 ≡ e.0 + 1 = ap (λ (y : Ticks). y.0) q in omega arith
            | inr b ↦ let q : older e ≡ ticks 10 = cond-false (ltb e.0 10) (ticks (e.0 + 1)) (ticks 10) (le-ltb e.0 10 b) in
                let z : (older e).0 ≡ 10 = ap (λ (y : Ticks). y.0) q in absurd (omega arith)
          ]

  tick_nearer : (role : Role) → x.role ≡ role → Nearer (left role) (tick_as m x role)
  tick_nearer (Follower e) q = waits_nearer e Follower (λ y. refl) (λ y. refl)
  tick_nearer (Candidate e) q = waits_nearer e Candidate (λ y. refl) (λ y. refl)
  tick_nearer Leader q = inr q

  pub nearer : (left (loaded (ticked m)).role < left (loaded m).role) ⊎ Leads (ticked m)
  unfolding ticked
  nearer = tick_nearer x.role refl
