-- What is decided in a memory is what the machine that it stands for holds for decided.
use Rattle.std.proofs.Common.{◌≡◌, ℕ, ◌<◌, List, [], map, length, get_or, take, sym, ap, ◌∙◌, arith}
use Rattle.std.proofs.lemmas.List.{length-map, get_or-map}
use Rattle.raft_log.specs.Values.{value_at}
use Rattle.raft_log.specs.View.{log_of, Tidy, decisions as row_decisions}
use Rattle.raft_log.specs.Entries.{commit_index, decided as decided_number}
use Rattle.raft_log.proofs.LogLaws.{commit_most}
use Rattle.raft_log.proofs.ViewLaws.{number_counts, decision_at}
use Rattle.protocol.specs.Log.{decisions}
use Rattle.machine.specs.Machine.{Machine, decided}
use Rattle.machine.specs.Maps.{map_log}
use Rattle.machine.proofs.Maps.{decided_map}
use Rattle.join_several.specs.Stands.{lift_log}
use Rattle.join_several.proofs.Lifts.{lift_take, lift_decisions}

module _ (m : List ℕ) (tidy : Tidy m) (x : Machine ℕ) (g : ℕ → List ℕ) (log : lift_log (log_of m) ≡ map_log g x.log) (commit : commit_index m ≡ x.commit) where
  decisions_are : row_decisions (take (commit_index m) (log_of m)) ≡ map g (decided x)
  unfolding decided
  decisions_are =
      lift_decisions (take (commit_index m) (log_of m))
      ∙ (ap decisions (lift_take (commit_index m) (log_of m))
      ∙ ((λ i. decisions (take (commit i) (log i))) ∙ decided_map g x))

  -- as many are decided
  pub decided_is : decided_number m ≡ length (decided x)
  decided_is =
      sym (number_counts m tidy.entries (commit_index m) (commit_most m))
      ∙ (ap (λ (vs : List (List ℕ)). length vs) decisions_are ∙ length-map (decided x) g)

  -- and the same ones
  pub value_is : (k : ℕ) → k < decided_number m → value_at m k ≡ g (get_or (decided x) k 0)
  value_is k l =
      sym (decision_at m tidy.entries (commit_index m) k (commit_most m) l)
      ∙ (ap (λ (vs : List (List ℕ)). get_or vs k []) decisions_are ∙ get_or-map g (decided x) k 0 [] (omega (arith, decided_is)))
