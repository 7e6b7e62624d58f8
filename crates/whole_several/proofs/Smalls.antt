-- The acts keep memory's length, and its words below 2 ^ 64.
use Rattle.std.proofs.Common.{◌≡◌, ℕ, ◌+◌, ◌<◌, ◌≤◌, true, ltb, List, [], ◌∷◌, Some, None, ◌∙◌, arith}
use Rattle.std.proofs.lemmas.List.{length-set}
use Rattle.std.proofs.lemmas.Bool.{cond_both}
use Rattle.raft_log.specs.Entries.{applied_number, decided}
use Rattle.raft_log.proofs.LogLaws.{applied_most}
use Rattle.raft.specs.declared.header.Role.{Role}
use Rattle.raft.specs.declared.header.Role.TheVariants.{Follower, Candidate, Leader}
use Rattle.raft.specs.declared.header.Machine.{Machine}
use Rattle.raft.specs.Header.{role_word, elapsed_word, heard_word, loaded, stored}
use Rattle.raft.specs.Outbox.{Mail, mail_due, flown_to}
use Rattle.raft.specs.Apply.{settled, applied_up_to, advanced}
use Rattle.raft.proofs.HeaderLaws.{loaded_held, length_stored}
use Rattle.together.specs.Promise.{all_small, settle}
use Rattle.together.specs.Machine.{answer}
use Rattle.together_several.specs.Machine.{apply_due, send_due, go_on}
use Rattle.together.proofs.Smalls.{limit, Kept, kept, then_kept, kept_set, small_word, flag_small, Small as SmallBy, settled_small, applied_small}
use Rattle.together.proofs.KeptLogs.{applied_kept}

-- a struct whose numbers fit words
abbrev pub Small : Machine Role → Type 0
Small x = SmallBy elapsed_word x

role_small : (r : Role) → role_word r < limit
role_small (Follower e h) = omega arith
role_small (Candidate e) = omega arith
role_small Leader = omega arith

heard_small : (r : Role) → heard_word r < limit
heard_small (Follower e h) = flag_small h
heard_small (Candidate e) = omega arith
heard_small Leader = omega arith

pub kept_stored : (m : List ℕ) (x : Machine Role) → (all_small m ≡ true → Small x) → Kept m (stored m x)
unfolding stored
kept_stored m x s =
    record {
      long = simp length-set;
      small = λ h.
          let y = s h in
          (then_kept (then_kept (then_kept (then_kept (then_kept (then_kept (then_kept (kept_set m 0 _ (λ _. y.size)) (kept_set _ 1 _ (λ _. y.id))) (kept_set _ 2 _ (λ _. y.term))) (kept_set _ 3 _ (λ _. role_small x.role))) (kept_set _ 4 _ (λ _. omega (arith, y.waits)))) (kept_set _ 5 _ (λ _. y.since))) (kept_set _ 6 _ (λ _. flag_small x.unsettled))) (kept_set _ 7 _ (λ _. heard_small x.role))
          ).small h;
    }

-- the struct is stored over what m became
pub kept_over : (m m₁ : List ℕ) (y : Machine Role) → Kept m m₁ → (all_small m ≡ true → Small y) → Kept m (stored m₁ y)
kept_over m m₁ y k s = record { long = length_stored m₁ y ∙ k.long; small = λ h. (kept_stored m₁ y (λ _. s h)).small (k.small h) }

pub loaded_small : (m : List ℕ) → all_small m ≡ true → Small (loaded m)
unfolding loaded
loaded_small m h =
    record {
      size = let l = (loaded_held m).few in omega arith;
      id = let l = (loaded_held m).one in omega arith;
      term = small_word m 2 h;
      since = small_word m 5 h;
      waits = (loaded_held m).waits;
    }

-- memory is made safe, a letter flies, a decision is applied
pub kept_settled : (m : List ℕ) → Kept m (stored m (settled (loaded m)))
kept_settled m = kept_stored m (settled (loaded m)) (λ h. settled_small elapsed_word (loaded m) (loaded_small m h))

pub kept_flown : (m : List ℕ) (j : ℕ) → Kept m (flown_to m j)
unfolding flown_to
kept_flown m j = kept_set m (29 + j) 0 (λ _. omega arith)

pub kept_advanced : (m : List ℕ) (k : ℕ) → k ≤ 4097 → Kept m (advanced m (loaded m) k)
unfolding advanced
kept_advanced m k l =
    applied_kept m _ k (kept_stored m (applied_up_to (loaded m) k) (λ h. applied_small elapsed_word (loaded m) (loaded_small m h) k (omega arith))) (omega arith)

kept_sent : (m : List ℕ) (ls : List Mail) → Kept m (send_due m (loaded m) ls).memory
kept_sent m [] =
    cond_both (ltb (applied_number m) (decided m)) (Some (applied_number m)) None (λ o. Kept m (apply_due m (loaded m) o).memory)
    (λ _. kept_advanced m (applied_number m + 1) (omega (arith, applied_most m))) (λ _. kept m)
kept_sent m (l ∷ ls) = kept_flown m l.to

-- EVERY ACT keeps memory so
pub kept_go_on : (m : List ℕ) → Kept m (go_on m).memory
unfolding go_on
kept_go_on m =
    cond_both (loaded m).unsettled (answer (stored m (settled (loaded m))) settle) (send_due m (loaded m) (mail_due m)) (λ s. Kept m s.memory) (λ _. kept_settled m)
    (λ _. kept_sent m (mail_due m))
