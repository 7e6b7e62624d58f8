-- Power comes back: memory stands for the machine that restarts with what was safe.
use Rattle.std.proofs.Common.{◌≡◌, ℕ, ◌-◌, ◌<◌, ◌≤◌, true, false, ltb, leb, List, length, get_or, sym, refl, ap, ◌∙◌, subst, arith}
use Rattle.std.proofs.lemmas.Bool.{leb-true, ltb-true, and_parts, cond-true}
use Rattle.raft_log.specs.Layout.{memory_words}
use Rattle.raft_log.specs.View.{log_of, Tidy}
use Rattle.raft_log.specs.Entries.{commit_index, applied_number, applied_set}
use Rattle.raft_log.proofs.LogLaws.{applied_most, applied_set_other, applied_set_commit, applied_set_applied}
use Rattle.raft_log.proofs.LogChanges.{header_log, header_tidy, applied_set_log, applied_set_tidy}
use Rattle.raft.specs.declared.header.Role.{Role}
use Rattle.raft.specs.declared.header.Role.TheVariants.{Follower}
use Rattle.raft.specs.declared.header.Machine.{Machine as Header}
use Rattle.raft.specs.Header.{ticks, loaded, stored}
use Rattle.raft.specs.Rows.{row_set}
use Rattle.raft.specs.Power.{belongs, restarted, powered}
use Rattle.raft.proofs.HeaderLaws.{Held, loaded_stored, loaded_alike, length_stored, stored_other}
use Rattle.raft.proofs.RowLaws.{row_put_same}
use Rattle.machine.specs.Machine.{Persistent, restart}
use Rattle.join_several.specs.Stands.{lift_log, RoleStands, Stands}
use Rattle.join_several.specs.Does.{Quiet}
use Rattle.join_several.proofs.Outs.{none_due}
use Rattle.join_several.proofs.Frames.{commit_alike, applied_alike, due_row_long, due_row_before, due_row_behind, stands_row}

-- WHAT POWER MAKES of a memory s in which k is safe
pub record Powers (n id : ℕ) (s : List ℕ) (k : Persistent (List ℕ)) : Type 0 where
  pub stands : Stands n id (powered s id n) (restart k)
  pub quiet : Quiet (powered s id n)
  pub since : (loaded (powered s id n)).since.0 ≡ 0
  pub applied : applied_number (powered s id n) ≡ applied_number s - 1

module _ (n id : ℕ) (s : List ℕ) (k : Persistent (List ℕ)) (tidy : Tidy s) (log : lift_log (log_of s) ≡ k.log) (commit : commit_index s ≡ k.commit)
    (term : (loaded s).term.0 ≡ k.term) (known : belongs id n ≡ true) (some : 1 ≤ n) where
  few : n ≤ 7
  few = leb-true n 7 (and_parts (leb n 7) (ltb id n) known).0

  low : id < n
  low = ltb-true id n (and_parts (leb n 7) (ltb id n) known).1

  abbrev h : Header Role
  h = restarted (loaded s) id n (Follower (ticks 0) false)

  held : Held h
  held = record { some = some; few = few; one = omega (arith, low, few); waits = omega arith }

  abbrev s₁ : List ℕ
  s₁ = stored s h

  abbrev s₂ : List ℕ
  s₂ = applied_set s₁ (applied_number s - 1)

  abbrev s₃ : List ℕ
  s₃ = row_set s₂ 29 (λ _. 0)

  long₁ : length s₁ ≡ memory_words
  long₁ = length_stored s h ∙ tidy.entries.long

  behind₁ : (i : ℕ) → 64 ≤ i → get_or s₁ i 0 ≡ get_or s i 0
  behind₁ i l = stored_other s h i (omega arith)

  back : applied_number s - 1 ≤ 4096
  back = omega (arith, applied_most s)

  loaded₂ : loaded s₂ ≡ h
  loaded₂ = loaded_alike s₁ s₂ (λ i l. applied_set_other s₁ (applied_number s - 1) i (omega arith)) ∙ loaded_stored s h tidy.entries.long held

  stands₂ : Stands n id s₂ (restart k)
  stands₂ =
      record {
        tidy = applied_set_tidy s₁ (applied_number s - 1) back (header_tidy s s₁ (length_stored s h) behind₁ tidy);
        size = ap (λ (y : Header Role). y.size.0) loaded₂;
        self = ap (λ (y : Header Role). y.id.0) loaded₂;
        term = ap (λ (y : Header Role). y.term.0) loaded₂ ∙ term;
        log = ap lift_log (applied_set_log s₁ (applied_number s - 1) ∙ header_log s s₁ (length_stored s h) behind₁) ∙ log;
        commit = applied_set_commit s₁ (applied_number s - 1) ∙ (commit_alike s s₁ (length_stored s h) behind₁ ∙ commit);
        role = role;
      }
    where
      role : RoleStands n s₂ (loaded s₂).role (restart k)
      role = subst (λ (y : Header Role). RoleStands n s₂ y.role (restart k)) (sym loaded₂) (record { role = refl; elapsed = refl; heard = refl })

  loaded₃ : loaded s₃ ≡ h
  loaded₃ = loaded_alike s₂ s₃ (λ i l. due_row_before s₂ (λ _. 0) i (omega arith)) ∙ loaded₂

  powered_is : powered s id n ≡ s₃
  unfolding powered
  powered_is = cond-true (belongs id n) s₃ s known

  powers₃ : (z : List ℕ) → z ≡ s₃ → (Stands n id z (restart k)) × (Quiet z) × ((loaded z).since.0 ≡ 0) × (applied_number z ≡ applied_number s - 1)
  powers₃ z e =
      subst (λ (y : List ℕ). (Stands n id y (restart k)) × (Quiet y) × ((loaded y).since.0 ≡ 0) × (applied_number y ≡ applied_number s - 1)) (sym e) (
        stands_row s₂ (λ _. 0) n id (restart k) few stands₂,
        record { none_due = none_due s₃ (λ j l. row_put_same s₂ 29 (λ _. 0) 7 j l (omega (arith, stands₂.tidy.entries.long))); settled = ap (λ (y : Header Role). y.unsettled) loaded₃ },
        ap (λ (y : Header Role). y.since.0) loaded₃,
        applied_alike s₂ s₃ (due_row_long s₂ (λ _. 0)) (λ i l. due_row_behind s₂ (λ _. 0) i (omega arith)) ∙ applied_set_applied s₁ (applied_number s - 1) long₁ back,
      )

  -- POWER CAME
  pub powered_stands : Powers n id s k
  powered_stands = let p = powers₃ (powered s id n) powered_is in record { stands = p.0; quiet = p.1; since = p.2; applied = p.3 }
