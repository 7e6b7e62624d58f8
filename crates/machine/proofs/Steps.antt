-- The world after one item, and what is known of a machine after its input, however that ends. Assumes nothing.
use Rattle.std.proofs.Common.{◌≡◌, ℕ, ◌+◌, ◌*◌, ◌<◌, ◌≤◌, true, List, [], ◌∷◌, ◌++◌, length, sym, refl, ap, ◌∙◌, subst, inl, inr}
use Rattle.protocol.specs.Lists.{All, Apart, Begins}
use Rattle.protocol.specs.Log.{decisions}
use Rattle.protocol.proofs.Updates.{upd_same}
use Rattle.machine.specs.Machine.{Conf, Machine, Input, restart, decided}
use Rattle.machine.specs.Step.{step}
use Rattle.machine.specs.World.{World, Fate, whole, early, late, Item, input, Possible, Allowed, next, run, AllAllowed, initial, At, RunsTo, Reachable}
use Rattle.machine.proofs.Theorems.{reachable_refines, global_order, order_once, logs_stay_small}

-- one item more
pub runs_one : (c : Conf) (w : World) (a : Item) → Allowed c w a → RunsTo c w (next c w a)
runs_one c w a may = record { by = a ∷ []; may = (may, tt); is = refl }

pub runs_none : (c : Conf) (w : World) → RunsTo c w w
runs_none c w = record { by = []; may = tt; is = refl }

run_both : (c : Conf) (w : World) (xs ys : List Item) → run c w (xs ++ ys) ≡ run c (run c w xs) ys
run_both c w [] ys = refl
run_both c w (x ∷ xs) ys = run_both c (next c w x) xs ys

both_allowed : (c : Conf) (w : World) (xs ys : List Item) → AllAllowed c w xs → AllAllowed c (run c w xs) ys → AllAllowed c w (xs ++ ys)
both_allowed c w [] ys p q = q
both_allowed c w (x ∷ xs) ys p q = (p.0, both_allowed c (next c w x) xs ys p.1 q)

pub runs_trans : (c : Conf) (w v u : World) → RunsTo c w v → RunsTo c v u → RunsTo c w u
runs_trans c w v u p q =
    record {
      by = p.by ++ q.by;
      may = both_allowed c w p.by q.by p.may (subst (λ (y : World). AllAllowed c y q.by) (sym p.is) q.may);
      is = run_both c w p.by q.by ∙ ap (λ (y : World). run c y q.by) p.is ∙ q.is;
    }

pub next_reachable : (c : Conf) (w : World) (a : Item) → Reachable c w → Allowed c w a → Reachable c (next c w a)
next_reachable c w a k may = runs_trans c initial w (next c w a) k (runs_one c w a may)

-- the order
pub order_grows : (c : Conf) (w : World) (a : Item) → Reachable c w → Allowed c w a → Begins w.order (next c w a).order
order_grows c w a k may = (global_order c w (next c w a) k (runs_one c w a may)).0

pub order_ok : (c : Conf) (w : World) → Reachable c w → All (λ p. p < w.proposals) w.order × Apart w.order
order_ok c w k = order_once c w k

pub decided_up : (c : Conf) (w : World) (j : ℕ) → Reachable c w → w.up j ≡ true → Begins (decided (w.memory j)) w.order
decided_up c w j k u = (global_order c w w k (runs_none c w)).1 j (w.memory j) (inl (u, refl))

pub decided_stable : (c : Conf) (w : World) (j : ℕ) → Reachable c w → Begins (decided (restart (w.stable j))) w.order
decided_stable c w j k = (global_order c w w k (runs_none c w)).1 j (restart (w.stable j)) (inr refl)

-- no machine holds more for committed than its log has
pub commit_within : (c : Conf) (w : World) (j : ℕ) (m : Machine ℕ) → Reachable c w → At w j m → m.commit ≤ length m.log
commit_within c w j m k (inl h) =
    let s = reachable_refines c w k in
    subst (λ (y : Machine ℕ). y.commit ≤ length y.log) h.1 (s.refines.memory_fits j h.0).commit.long
commit_within c w j m k (inr h) =
    let s = reachable_refines c w k in
    subst (λ (y : Machine ℕ). y.commit ≤ length y.log) h (s.refines.stable_fits j).commit.long

pub commit_up : (c : Conf) (w : World) (j : ℕ) → Reachable c w → w.up j ≡ true → (w.memory j).commit ≤ length (w.memory j).log
commit_up c w j k u = commit_within c w j (w.memory j) k (inl (u, refl))

-- a machine's input may always be settled; then the machine stands in the next world
module _ (c : Conf) (w : World) (j : ℕ) (e : Input ℕ) (k : Reachable c w) (u : w.up j ≡ true) (p : Possible w j e) where
  settled_reachable : Reachable c (next c w (input j e (whole true)))
  settled_reachable = next_reachable c w (input j e (whole true)) k (u, p, tt)

  settled_at : At (next c w (input j e (whole true))) j (step c j (w.memory j) e).now
  settled_at = inl (u, upd_same w.memory j (step c j (w.memory j) e).now)

  pub step_small : (length (decisions (step c j (w.memory j) e).now.log) ≤ c.room) × (length (step c j (w.memory j) e).now.log ≤ 2 * c.room + 1)
  step_small = logs_stay_small c (next c w (input j e (whole true))) j (step c j (w.memory j) e).now settled_reachable settled_at

  pub step_commit : (step c j (w.memory j) e).now.commit ≤ length (step c j (w.memory j) e).now.log
  step_commit = commit_within c (next c w (input j e (whole true))) j (step c j (w.memory j) e).now settled_reachable settled_at

  settled_decided : Begins (decided (step c j (w.memory j) e).now) (next c w (input j e (whole true))).order
  settled_decided = (global_order c _ _ settled_reachable (runs_none c (next c w (input j e (whole true))))).1 j (step c j (w.memory j) e).now settled_at

  -- whether it is settled and what flies makes no odds to the order; only a stop before all that does
  pub step_decided : (f : Fate) → (f ≡ early → ⊥) → Begins (decided (step c j (w.memory j) e).now) (next c w (input j e f)).order
  step_decided (whole b) ne = settled_decided
  step_decided early ne = absurd (ne refl)
  step_decided (late b n) ne = settled_decided
