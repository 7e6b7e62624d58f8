-- Changes of memory that keep its length, and its words below 2 ^ 64, for machines in any kind of role.
use Rattle.std.proofs.Common.{◌≡◌, ℕ, zero, suc, ◌<◌, ◌≤◌, Bool, true, false, ltb, List, [], ◌∷◌, length, get_or, set, refl, ◌∙◌, arith}
use Rattle.std.proofs.lemmas.List.{length-set}
use Rattle.std.proofs.lemmas.Bool.{ltb-true, lt-ltb, and_parts}
use Rattle.raft_log.specs.Bytes.{Words}
use Rattle.raft.specs.declared.header.Machine.{Machine}
use Rattle.raft.specs.Header.{flag_word, with_role, in_term}
use Rattle.raft.specs.Proposal.{with_unsettled}
use Rattle.raft.specs.Apply.{settled, applied_up_to}
use Rattle.together.specs.House.{every}
use Rattle.together.specs.Promise.{all_small}
use Rattle.together.proofs.Lists.{every_set}

abbrev pub limit : ℕ
limit = 18446744073709551616

-- memory m₁ is as long as m, and its words are small if those of m are
pub record Kept (m m₁ : List ℕ) : Type 0 where
  pub long : length m₁ ≡ length m
  pub small : all_small m ≡ true → all_small m₁ ≡ true

pub kept : (m : List ℕ) → Kept m m
kept m = record { long = refl; small = λ h. h }

pub then_kept : {a b c : List ℕ} → Kept a b → Kept b c → Kept a c
then_kept p q = record { long = q.long ∙ p.long; small = λ h. q.small (p.small h) }

-- what a small memory holds is small
pub small_word : (m : List ℕ) (i : ℕ) → all_small m ≡ true → get_or m i 0 < limit
unfolding all_small every
small_word m i h = go m i h
  where
    go : (xs : List ℕ) (i : ℕ) → every (λ m. ltb m limit) xs ≡ true → get_or xs i 0 < limit
    go [] i h = omega arith
    go (x ∷ xs) zero h = ltb-true x limit (and_parts (ltb x limit) (every (λ m. ltb m limit) xs) h).0
    go (x ∷ xs) (suc i) h = go xs i (and_parts (ltb x limit) (every (λ m. ltb m limit) xs) h).1

pub small_words : (m : List ℕ) → all_small m ≡ true → Words m
small_words m h i = small_word m i h

pub kept_set : (m : List ℕ) (i x : ℕ) → (all_small m ≡ true → x < limit) → Kept m (set m i x)
unfolding all_small
kept_set m i x l = record { long = length-set m i x; small = λ h. every_set (λ y. ltb y limit) m i x (lt-ltb x limit (l h)) h }

pub flag_small : (b : Bool) → flag_word b < limit
flag_small true = omega arith
flag_small false = omega arith

-- A STRUCT whose numbers fit words; wait says how long a machine in a role has waited
pub record Small {R : Type 0} (wait : R → ℕ) (x : Machine R) : Type 0 where
  pub size : x.size.0 < limit
  pub id : x.id.0 < limit
  pub term : x.term.0 < limit
  pub since : x.since.0 < limit
  pub waits : wait x.role ≤ 10

module _ {R : Type 0} (wait : R → ℕ) (x : Machine R) (s : Small wait x) where
  -- another term or role
  pub in_term_small : (t : ℕ) (r : R) → t < limit → wait r ≤ 10 → Small wait (in_term x t r)
  in_term_small t r l w = record { size = s.size; id = s.id; term = l; since = s.since; waits = w }

  pub with_role_small : (r : R) → wait r ≤ 10 → Small wait (with_role x r)
  with_role_small r w = record { size = s.size; id = s.id; term = s.term; since = s.since; waits = w }

  -- unsettled, and settled again; a decision was applied
  pub unsettled_small : Small wait (with_unsettled x)
  unsettled_small = record { size = s.size; id = s.id; term = s.term; since = s.since; waits = s.waits }

  pub settled_small : Small wait (settled x)
  settled_small = record { size = s.size; id = s.id; term = s.term; since = s.since; waits = s.waits }

  pub applied_small : (k : ℕ) → k < limit → Small wait (applied_up_to x k)
  applied_small k l = record { size = s.size; id = s.id; term = s.term; since = l; waits = s.waits }
