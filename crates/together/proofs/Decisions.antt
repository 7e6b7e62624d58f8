-- The decisions that are still to be applied.
use Rattle.std.proofs.Common.{◌≡◌, ℕ, zero, suc, ◌+◌, List, ◌∷◌, length, refl, ap, ◌∙◌}
use Rattle.raft_log.specs.Values.{value_at}
use Rattle.raft_log.proofs.LogLaws.{SameEntries}
use Rattle.together.specs.Promise.{applies}
use Rattle.together.specs.Machine.{decisions_from}

pub same_decisions : (m m₁ : List ℕ) → SameEntries m m₁ → (k n : ℕ) → decisions_from m₁ k n ≡ decisions_from m k n
unfolding decisions_from
same_decisions m m₁ s k zero = refl
same_decisions m m₁ s k (suc n) = ap (λ v. applies (k + 1) v ∷ decisions_from m₁ (k + 1) n) (s.held k) ∙ ap (λ x. applies (k + 1) (value_at m k) ∷ x) (same_decisions m m₁ s (k + 1) n)

pub decisions_many : (m : List ℕ) (k n : ℕ) → length (decisions_from m k n) ≡ n
unfolding decisions_from
decisions_many m k zero = refl
decisions_many m k (suc n) = ap suc (decisions_many m (k + 1) n)
