-- The machine keeps to its plan: first memory is made safe, then what is decided is applied.
use Rattle.std.proofs.Common.{◌≡◌, ℕ, suc, ◌+◌, ◌-◌, ◌<◌, ◌≤◌, true, false, cond, List, [], ◌∷◌, ◌++◌, length, Some, None, sym, refl, ap, ◌∙◌, inl, inr, arith}
use Rattle.std.proofs.lemmas.Bool.{lt-ltb, le-ltb, cond-true, cond-false, cases_Bool, cases_lt}
use Rattle.raft_log.specs.Layout.{memory_words}
use Rattle.raft_log.specs.Values.{value_at}
use Rattle.raft_log.specs.Entries.{commit_index, applied_number, number_at, decided, applied_set}
use Rattle.raft_log.proofs.LogLaws.{number_most, SameEntries, applied_set_entries, applied_set_commit, applied_set_applied, applied_set_other, length_applied_set}
use Rattle.solo.specs.declared.header.Role.{Role}
use Rattle.raft.specs.declared.header.Machine.{Machine}
use Rattle.solo.specs.Header.{loaded, stored}
use Rattle.solo.specs.Apply.{advanced}
use Rattle.raft.specs.Apply.{settled, applied_up_to, due}
use Rattle.solo.proofs.HeaderLaws.{Held, loaded_held, loaded_stored, loaded_alike, length_stored, stored_entries, stored_commit, stored_applied}
use Rattle.together.specs.Promise.{settle, applies, done, next}
use Rattle.together.specs.Machine.{answer, apply_due, go_on, own_step, decisions_from, acts}
use Rattle.together.specs.Entry.{own}
use Rattle.together.proofs.Decisions.{same_decisions}
use Rattle.whole.proofs.Plans.{Planned, Turn, acting, ending, planned}

-- memories that the machine runs on
abbrev pub Long : List ℕ → Type 0
Long m = length m ≡ memory_words

-- memory after the first act that is due
unfoldable pub rest : List ℕ → List ℕ
rest m = (go_on m).memory

-- the log as it was, and as much of it decided
pub record SameLog (m m₁ : List ℕ) : Type 0 where
  pub entries : SameEntries m m₁
  pub commit : commit_index m₁ ≡ commit_index m

pub same_decided : (m m₁ : List ℕ) → SameLog m m₁ → decided m₁ ≡ decided m
same_decided m m₁ s = ap (number_at m₁) s.commit ∙ s.entries.numbers (commit_index m)

pub stored_log : (m : List ℕ) (x : Machine Role) → SameLog m (stored m x)
stored_log m x = record { entries = stored_entries m x; commit = stored_commit m x }

pub acts_still : (m : List ℕ) → (loaded m).unsettled ≡ false → acts m ≡ decisions_from m (applied_number m) (decided m - applied_number m)
unfolding acts
acts_still m u = ap (λ b. cond b (settle ∷ []) [] ++ decisions_from m (applied_number m) (decided m - applied_number m)) u

module _ (m : List ℕ) (long : Long m) where
  -- MEMORY IS MADE SAFE
  abbrev pub safe : List ℕ
  safe = stored m (settled (loaded m))

  settled_held : Held (settled (loaded m))
  settled_held = record { some = (loaded_held m).some; waits = (loaded_held m).waits }

  pub safe_loaded : loaded safe ≡ settled (loaded m)
  safe_loaded = loaded_stored m (settled (loaded m)) long settled_held

  pub safe_long : Long safe
  safe_long = length_stored m (settled (loaded m)) ∙ long

  pub go_settle : (loaded m).unsettled ≡ true → go_on m ≡ answer safe settle
  unfolding go_on
  go_settle u = cond-true (loaded m).unsettled (answer safe settle) (apply_due m (loaded m) (due m)) u

  pub acts_settle : (loaded m).unsettled ≡ true → acts m ≡ settle ∷ acts safe
  unfolding acts
  acts_settle u =
      rw (u, safe_loaded, stored_applied m (settled (loaded m)), same_decided m safe (stored_log m (settled (loaded m))), same_decisions m safe (stored_entries m (settled (loaded m))) (applied_number m) (decided m - applied_number m))

  -- A DECISION IS APPLIED
  abbrev pub onward : List ℕ
  onward = advanced m (loaded m) (applied_number m + 1)

  abbrev noted : Machine Role
  noted = applied_up_to (loaded m) (applied_number m + 1)

  noted_held : Held noted
  noted_held = record { some = (loaded_held m).some; waits = (loaded_held m).waits }

  pub onward_loaded : loaded onward ≡ noted
  unfolding advanced
  onward_loaded =
      loaded_alike (stored m noted) (applied_set (stored m noted) (applied_number m + 1)) (λ i l. applied_set_other (stored m noted) (applied_number m + 1) i (omega arith))
      ∙ loaded_stored m noted long noted_held

  pub onward_long : Long onward
  unfolding advanced
  onward_long = length_applied_set (stored m noted) (applied_number m + 1) ∙ (length_stored m noted ∙ long)

  pub onward_log : SameLog m onward
  unfolding advanced
  onward_log =
      let a = applied_set_entries (stored m noted) (applied_number m + 1) in
      let b = stored_entries m noted in
      record {
        entries = record { last = a.last ∙ b.last; terms = λ i. a.terms i ∙ b.terms i; numbers = λ i. a.numbers i ∙ b.numbers i; held = λ k. a.held k ∙ b.held k };
        commit = applied_set_commit (stored m noted) (applied_number m + 1) ∙ stored_commit m noted;
      }

  pub onward_applied : applied_number m < decided m → applied_number onward ≡ applied_number m + 1
  unfolding advanced
  onward_applied l =
      applied_set_applied (stored m noted) (applied_number m + 1) (length_stored m noted ∙ long) (omega (arith, number_most m (commit_index m)))

  module _ (still : (loaded m).unsettled ≡ false) where
    pub go_apply : applied_number m < decided m → go_on m ≡ answer onward (applies (applied_number m + 1) (value_at m (applied_number m)))
    unfolding go_on
    go_apply l =
        cond-false (loaded m).unsettled (answer safe settle) (apply_due m (loaded m) (due m)) still
        ∙ ap (λ b. apply_due m (loaded m) (cond b (Some (applied_number m)) None)) (lt-ltb (applied_number m) (decided m) l)

    go_done : decided m ≤ applied_number m → go_on m ≡ answer m done
    unfolding go_on
    go_done l =
        cond-false (loaded m).unsettled (answer safe settle) (apply_due m (loaded m) (due m)) still
        ∙ ap (λ b. apply_due m (loaded m) (cond b (Some (applied_number m)) None)) (le-ltb (applied_number m) (decided m) l)

    pub acts_apply : applied_number m < decided m → acts m ≡ applies (applied_number m + 1) (value_at m (applied_number m)) ∷ acts onward
    unfolding decisions_from
    acts_apply l =
        let k : ℕ = applied_number m in
        let more : decided m - k ≡ suc (decided m - (k + 1)) = omega arith in
        let u : (loaded onward).unsettled ≡ false = ap (λ (x : Machine Role). x.unsettled) onward_loaded ∙ still in
        let left : decisions_from onward (applied_number onward) (decided onward - applied_number onward) ≡ decisions_from m (k + 1) (decided m - (k + 1)) =
        rw (onward_applied l, same_decided m onward onward_log) (same_decisions m onward onward_log.entries (k + 1) (decided m - (k + 1))) in
        acts_still m still ∙ (ap (decisions_from m k) more ∙ sym (ap (λ x. applies (k + 1) (value_at m k) ∷ x) (acts_still onward u ∙ left)))

    pub acts_done : decided m ≤ applied_number m → acts m ≡ []
    unfolding acts decisions_from
    acts_done l = let none : decided m - applied_number m ≡ 0 = omega arith in rw (still, none)

-- the three ways that a memory can go on
pub data Goes (m : List ℕ) : Type 0 where
  settling : (loaded m).unsettled ≡ true → Goes m
  applying : (loaded m).unsettled ≡ false → applied_number m < decided m → Goes m
  resting : (loaded m).unsettled ≡ false → decided m ≤ applied_number m → Goes m

pub goes : (m : List ℕ) → Goes m
goes m =
    elim (cases_Bool (loaded m).unsettled) [
      | inl u ↦ settling u
      | inr u ↦ elim (cases_lt (applied_number m) (decided m)) [ inl l ↦ applying u l | inr l ↦ resting u l ]
    ]

pub own_next : (m : List ℕ) → own.step m next ≡ go_on m
unfolding own own_step
own_next m = refl

turn : (m : List ℕ) → Long m → Turn go_on Long acts m
turn m long = by (goes m)
  where
    by : Goes m → Turn go_on Long acts m
    by (settling u) = acting (safe m long) settle (safe_long m long) tt (go_settle m long u) (acts_settle m long u)
    by (applying u l) = acting (onward m long) (applies (applied_number m + 1) (value_at m (applied_number m))) (onward_long m long) tt (go_apply m long u l) (acts_apply m long u l)
    by (resting u l) = ending (go_done m long u l) (acts_done m long u l)

-- THE PLAN of the machine
pub own_planned : Planned own Long acts rest
unfolding rest
own_planned = planned own go_on Long acts own_next turn
