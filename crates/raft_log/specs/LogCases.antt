-- Upstream's cases about logs, under their ids. A log is given by its terms; its entries are empty.
use Rattle.std.specs.Prelude.{◌≡◌, ℕ, ◌+◌, min, max, true, false, cond, List, [], ◌∷◌, map, length, Some, None}
use Rattle.std.proofs.Math.Option.{none}
use Rattle.raft_log.specs.Entries.{index}
use Rattle.raft_log.specs.Block.{Entry}
use Rattle.raft_log.specs.View.{entry}
use Rattle.raft_log.specs.Conflict.{has_term, is_up_to_date, conflict, merge}
use Rattle.raft_log.specs.Accept.{hint}

abbrev pub terms : List ℕ → List Entry
terms ts = map (λ t. entry t none) ts

-- 1:1 2:2 3:3
abbrev pub log_123 : List Entry
log_123 = terms (1 ∷ 2 ∷ 3 ∷ [])

-- at which index the log and what is offered behind p part
pub record ConflictCases : Type 0 where
  pub L001 : conflict log_123 0 [] ≡ None
  pub L002 : conflict log_123 0 (terms (1 ∷ 2 ∷ 3 ∷ [])) ≡ None
  pub L003 : conflict log_123 1 (terms (2 ∷ 3 ∷ [])) ≡ None
  pub L004 : conflict log_123 2 (terms (3 ∷ [])) ≡ None
  pub L005 : conflict log_123 0 (terms (1 ∷ 2 ∷ 3 ∷ 4 ∷ 4 ∷ [])) ≡ Some (index 4)
  pub L006 : conflict log_123 1 (terms (2 ∷ 3 ∷ 4 ∷ 4 ∷ [])) ≡ Some (index 4)
  pub L009 : conflict log_123 0 (terms (4 ∷ 4 ∷ [])) ≡ Some (index 1)
  pub L010 : conflict log_123 1 (terms (1 ∷ 4 ∷ 4 ∷ [])) ≡ Some (index 2)
  pub L011 : conflict log_123 2 (terms (1 ∷ 2 ∷ 4 ∷ 4 ∷ [])) ≡ Some (index 3)

-- is one that ends at an index with a term as far as the log?
pub record UpToDateCases : Type 0 where
  pub L012 : is_up_to_date log_123 2 4 ≡ true
  pub L013 : is_up_to_date log_123 3 4 ≡ true
  pub L014 : is_up_to_date log_123 4 4 ≡ true
  pub L015 : is_up_to_date log_123 2 2 ≡ false
  pub L016 : is_up_to_date log_123 3 2 ≡ false
  pub L017 : is_up_to_date log_123 4 2 ≡ false
  pub L018 : is_up_to_date log_123 2 3 ≡ false
  pub L019 : is_up_to_date log_123 3 3 ≡ true
  pub L020 : is_up_to_date log_123 4 3 ≡ true

-- an append to a log: up to where it is taken, 0 if it is not; what is decided then, and the log
pub record Outcome : Type 0 where
  pub last_new : ℕ
  pub committed : ℕ
  pub log : List Entry

abbrev pub outcome : ℕ → ℕ → List Entry → Outcome
outcome n c l = record { last_new = n; committed = c; log = l }

-- one decided, and an append to 1:1 2:2 3:3
abbrev pub append_123 : ℕ → ℕ → ℕ → List ℕ → Outcome
append_123 p q k ts =
    cond (has_term log_123 p q) (outcome (p + length ts) (max 1 (min k (p + length ts))) (merge log_123 p (terms ts))) (outcome 0 1 log_123)

pub record AppendCases : Type 0 where
  pub L025 : append_123 3 2 3 (4 ∷ []) ≡ outcome 0 1 log_123
  pub L026 : append_123 4 3 3 (4 ∷ []) ≡ outcome 0 1 log_123
  pub L027 : append_123 3 3 3 [] ≡ outcome 3 3 log_123
  pub L029 : append_123 3 3 2 [] ≡ outcome 3 2 log_123
  pub L030 : append_123 3 3 0 [] ≡ outcome 3 1 log_123
  pub L031 : append_123 0 0 3 [] ≡ outcome 0 1 log_123
  pub L032 : append_123 3 3 3 (4 ∷ []) ≡ outcome 4 3 (terms (1 ∷ 2 ∷ 3 ∷ 4 ∷ []))
  pub L033 : append_123 3 3 4 (4 ∷ []) ≡ outcome 4 4 (terms (1 ∷ 2 ∷ 3 ∷ 4 ∷ []))
  pub L034 : append_123 3 3 5 (4 ∷ []) ≡ outcome 4 4 (terms (1 ∷ 2 ∷ 3 ∷ 4 ∷ []))
  pub L035 : append_123 3 3 5 (4 ∷ 4 ∷ []) ≡ outcome 5 5 (terms (1 ∷ 2 ∷ 3 ∷ 4 ∷ 4 ∷ []))
  pub L037 : append_123 1 1 3 (4 ∷ []) ≡ outcome 2 2 (terms (1 ∷ 4 ∷ []))

-- where the logs may agree, of 1:1 2:2 asked for index 2 with term 1, and for index 3 with term 3
pub record HintCases : Type 0 where
  pub earlier : hint (terms (1 ∷ 2 ∷ [])) 2 1 ≡ 1
  pub shorter : hint (terms (1 ∷ 2 ∷ [])) 3 3 ≡ 2
