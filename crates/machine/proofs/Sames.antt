-- A log that an event leaves with the same length and the same terms is the log that it was. Assumes nothing.
use Rattle.std.proofs.Common.{◌≡◌, ℕ, ◌<◌, ◌≤◌, true, length, refl, subst, inl, arith}
use mathlib.Core.Option.{none}
use Rattle.std.proofs.lemmas.List.{ext_get_or}
use Rattle.protocol.specs.Log.{entry, Log, term_at}
use Rattle.protocol.specs.History.{History}
use Rattle.protocol.specs.Invariant.{Matching}
use Rattle.protocol.specs.State.{State, Sound}
use Rattle.protocol.specs.Cluster.{Cluster}
use Rattle.protocol.proofs.Lists.{begins_length}
use Rattle.protocol.proofs.Updates.{upd_same}
use Rattle.protocol.proofs.Grows.{matching_grows}
use Rattle.protocol.proofs.Runs.{moves_grow}
use Rattle.machine.specs.Machine.{Conf, Machine, Input, decided}
use Rattle.machine.specs.Step.{step}
use Rattle.machine.specs.World.{World, whole, input, Possible, next, At, Reachable}
use Rattle.machine.specs.Fits.{state_of, Refines}
use Rattle.machine.proofs.Agreeing.{matching_agree}
use Rattle.machine.proofs.Steps.{runs_one}
use Rattle.machine.proofs.Theorems.{runs_refine, reachable_refines, at_stable, events_extend}

-- two logs that match one history, with the same terms at all places, are the same
pub matching_same : (g : History) (l h : Log ℕ) → Matching g l → Matching g h → length l ≡ length h → ((i : ℕ) → i < length l → term_at l i ≡ term_at h i) → l ≡ h
matching_same g l h p q n t = ext_get_or (entry 0 none) l h n (λ i b. matching_agree g l h i p q b (omega arith) (t i b))

-- the log of a machine as it is, or as power would make it, matches
at_matching : (c : Conf) (w : World) (x : Cluster) → Refines c w x → (j : ℕ) (m : Machine ℕ) → At w j m → Matching x.history m.log
at_matching c w x hd j m a =
    let good : Sound c.size x.history j (state_of m) =
    subst (λ (z : State). Sound c.size x.history j z) (at_stable c w x hd j m a) (hd.safe.stable_sound j) in
    good.matching

-- both logs match the history after the event, since what matches goes on to match as it grows
pub same_log : (c : Conf) (w : World) (j : ℕ) (e : Input ℕ) → Reachable c w → w.up j ≡ true → Possible w j e →
    length (w.memory j).log ≡ length (step c j (w.memory j) e).now.log →
    ((i : ℕ) → i < length (w.memory j).log → term_at (w.memory j).log i ≡ term_at (step c j (w.memory j) e).now.log i) →
    (w.memory j).log ≡ (step c j (w.memory j) e).now.log
same_log c w j e k u p n t =
    let v = next c w (input j e (whole true)) in
    let s = reachable_refines c w k in
    let r = runs_refine c w v s.to s.refines (runs_one c w (input j e (whole true)) (u, p, tt)) in
    let old : Matching r.to.history (w.memory j).log =
    matching_grows s.to.history r.to.history (moves_grow c.size s.to r.to s.refines.safe r.path) (w.memory j).log
    (at_matching c w s.to s.refines j (w.memory j) (inl (u, refl))) in
    let new : Matching r.to.history (step c j (w.memory j) e).now.log =
    at_matching c v r.to r.refines j (step c j (w.memory j) e).now (inl (u, upd_same w.memory j (step c j (w.memory j) e).now)) in
    matching_same r.to.history (w.memory j).log (step c j (w.memory j) e).now.log old new n t

-- an event takes nothing back that was decided
pub step_extends : (c : Conf) (w : World) (j : ℕ) (e : Input ℕ) → Reachable c w → w.up j ≡ true → Possible w j e →
    length (decided (w.memory j)) ≤ length (decided (step c j (w.memory j) e).now)
step_extends c w j e k u p = begins_length (decided (w.memory j)) (decided (step c j (w.memory j) e).now) (events_extend c w j e k u p)
