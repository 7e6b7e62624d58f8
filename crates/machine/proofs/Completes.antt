-- If more than half are up and in one term, its leader has all that was ever held for decided. Assumes nothing.
use Rattle.std.proofs.Common.{◌≡◌, ℕ, ◌≤◌, Bool, true, ltb, List, length, take, sym, ap, ◌∙◌, subst, inl, inr, arith}
use Rattle.std.proofs.lemmas.List.{take_all}
use Rattle.std.proofs.lemmas.Bool.{ltb-true}
use Rattle.protocol.specs.Lists.{Begins}
use Rattle.protocol.specs.Log.{Log, Covers, decisions}
use Rattle.protocol.specs.History.{Majority, Committed, Front, Decided}
use Rattle.protocol.specs.State.{State}
use Rattle.protocol.specs.Cluster.{Cluster, Safe}
use Rattle.protocol.specs.Letters.{Commits}
use Rattle.protocol.proofs.Logs.{covers_content}
use Rattle.protocol.proofs.Quorums.{majorities_meet}
use Rattle.protocol.proofs.Commits.{lead_covers}
use Rattle.machine.specs.Machine.{Conf, Role, leader}
use Rattle.machine.specs.Step.{is_majority}
use Rattle.machine.specs.World.{World, Reachable}
use Rattle.machine.specs.Fits.{LeaderFits, RoleFits, Refines}
use Rattle.machine.proofs.Fits.{majority_true}
use Rattle.machine.specs.Theorems.{LeaderHasOrder}
use Rattle.machine.proofs.Decided.{take_begins, none_begins}
use Rattle.machine.proofs.Theorems.{reachable_refines}

-- in a cluster of the protocol: more than half are in term t now
module _ (n : ℕ) (d : Cluster) (sf : Safe n d) (t : ℕ) (up : ℕ → Bool) (most : Majority n up) (there : (j : ℕ) → up j ≡ true → (d.now j).term ≡ t) where
  -- nothing of a later term is committed: one of those in t would have acknowledged it, and be in that term or later
  none_later : (u m : ℕ) → Committed n d.history u m → u ≤ t
  none_later u m done =
      let b = majorities_meet n (λ j. ltb m (d.history.acked u j)) up done.most most in
      omega (arith, ((sf.now_sound b.0).acks u m (ltb-true m (d.history.acked u b.0) b.1)).reached, there b.0 b.2)

  front_lead : (xs : List ℕ) → d.history.elected t ≡ true → Front n d.history xs → Begins xs (decisions (d.history.lead t))
  front_lead xs led f =
      let s : Commits n d.history t f.upto = record { term = f.term; at = f.at; before = none_later f.term f.at f.done; done = f.done; reach = f.reach } in
      let v : Covers f.at (d.history.lead f.term) (d.history.lead t) = lead_covers n d.history sf.inv sf.elections t f.upto led s in
      subst (λ (x : List ℕ). Begins x (decisions (d.history.lead t))) (sym f.is)
      (subst (λ (l : Log ℕ). Begins (decisions (take f.upto (d.history.lead f.term))) (decisions l)) (take_all (length (d.history.lead t)) (d.history.lead t) (omega arith))
      (take_begins f.upto (length (d.history.lead t)) (d.history.lead f.term) (d.history.lead t) (omega (arith, f.reach, f.done.within)) (omega arith)
      (omega (arith, f.reach, v.long)) (λ i b. sym (covers_content f.at (d.history.lead f.term) (d.history.lead t) v i (omega (arith, f.reach))))))

  -- so the log of t's leader has all that is decided
  pub decided_lead : (xs : List ℕ) → d.history.elected t ≡ true → Decided n d.history xs → Begins xs (decisions (d.history.lead t))
  decided_lead xs led (inl e) = none_begins xs (decisions (d.history.lead t)) e
  decided_lead xs led (inr f) = front_lead xs led f

-- in a world: more than half are up and in term t, and so is its leader i
module _ (c : Conf) (w : World) (up : ℕ → Bool) (t i : ℕ) (a b : ℕ → ℕ) (k : Reachable c w) (most : is_majority c up ≡ true)
    (there : (j : ℕ) → up j ≡ true → (w.up j ≡ true) × ((w.memory j).term ≡ t)) (u : w.up i ≡ true) (e : (w.memory i).term ≡ t) (r : (w.memory i).role ≡ leader a b) where
  refined_lead : (d : Cluster) → Refines c w d → Begins w.order (decisions (w.memory i).log)
  refined_lead d hd =
      let fits : LeaderFits c.size d.history i (w.memory i).term (w.memory i).log a b =
      subst (λ (x : Role). RoleFits c.size d.history i (w.memory i).term (w.memory i).log x) r (hd.memory_fits i u).role in
      let now : (j : ℕ) → up j ≡ true → (d.now j).term ≡ t = λ j h. ap (λ (s : State). s.term) (hd.memory_fits j (there j h).0).now ∙ (there j h).1 in
      let led : d.history.elected t ≡ true = subst (λ (x : ℕ). d.history.elected x ≡ true) e fits.led in
      let is : d.history.lead t ≡ (w.memory i).log = ap d.history.lead (sym e) ∙ sym fits.log_is in
      subst (λ (l : Log ℕ). Begins w.order (decisions l)) is
      (decided_lead c.size d hd.safe t up (majority_true c up most) now w.order led hd.order_decided)

  leads_order : Begins w.order (decisions (w.memory i).log)
  leads_order = let s = reachable_refines c w k in refined_lead s.to s.refines

pub leader_has_order : LeaderHasOrder
leader_has_order = leads_order
