-- What becomes of a proposal to the machine.
use Rattle.std.proofs.Common.{◌≡◌, ◌≤◌, ℕ, true, List, length, Ok, Err, refl, ap, inl, inr}
use Rattle.raft_log.specs.Entries.{value_fits}
use Rattle.raft.specs.declared.header.Role.{Role}
use Rattle.raft.specs.declared.header.Role.TheVariants.{Follower, Candidate, Leader}
use Rattle.raft.specs.declared.proposal.Refusal.TheVariants.{NotNow}
use Rattle.raft.specs.Header.{loaded}
use Rattle.raft.specs.Proposal.{taken, propose_as, proposed}
use Rattle.whole.proofs.Asked.{Asked, asked_by, taken_by, not_now_by}

abbrev pub Asks : List ℕ → List ℕ → Type 0
Asks m v = Asked m v ((loaded m).role ≡ Leader) (proposed m v) (taken m (loaded m) v)

pub asked : (m v : List ℕ) → Asks m v
unfolding proposed
asked m v = by (loaded m).role refl
  where
    by : (r : Role) → (loaded m).role ≡ r → Asks m v
    by (Follower w h) e = asked_by m v ((loaded m).role ≡ Leader) (propose_as m (loaded m) (loaded m).role v) (taken m (loaded m) v) (inl (ap (λ (r : Role). propose_as m (loaded m) r v) e))
    by (Candidate w) e = asked_by m v ((loaded m).role ≡ Leader) (propose_as m (loaded m) (loaded m).role v) (taken m (loaded m) v) (inl (ap (λ (r : Role). propose_as m (loaded m) r v) e))
    by Leader e = asked_by m v ((loaded m).role ≡ Leader) (propose_as m (loaded m) (loaded m).role v) (taken m (loaded m) v) (inr (e, ap (λ (r : Role). propose_as m (loaded m) r v) e))

-- who answers NotNow does not lead
pub asked_leads : (m v : List ℕ) → proposed m v ≡ Err NotNow → (loaded m).role ≡ Leader → ⊥
unfolding proposed
asked_leads m v n leads =
    not_now_by m v ((loaded m).role ≡ Leader) (propose_as m (loaded m) (loaded m).role v) (taken m (loaded m) v) (ap (λ (r : Role). propose_as m (loaded m) r v) leads) n

-- a leader with room takes it
pub leader_takes : (m v : List ℕ) → length v ≤ 256 → (loaded m).role ≡ Leader → value_fits m (length v) ≡ true → proposed m v ≡ Ok (taken m (loaded m) v)
unfolding proposed
leader_takes m v short leads f =
    taken_by m v ((loaded m).role ≡ Leader) (propose_as m (loaded m) (loaded m).role v) (taken m (loaded m) v) short (ap (λ (r : Role). propose_as m (loaded m) r v) leads) f
