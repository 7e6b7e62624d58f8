-- What is stable between events is what is in memory, and no tick or proposal takes a value out of the log. Assumes nothing.
use Rattle.std.proofs.Common.{◌≡◌, ℕ, suc, ◌+◌, ◌≤◌, Bool, true, ◌&&◌, eqb, ltb, List, [], ◌∷◌, ◌++◌, length, sym, refl, ap, ◌∙◌, arith}
use mathlib.Core.Option.{some}
use Rattle.std.proofs.lemmas.List.{length-append}
use Rattle.protocol.specs.Log.{entry, Log, decisions}
use Rattle.protocol.specs.State.{State}
use Rattle.protocol.proofs.Updates.{pick_both}
use Rattle.protocol.proofs.Decisions.{decisions-++}
use Rattle.machine.specs.Machine.{Conf, Machine, Role, follower, candidate, leader, here, Out, Outcome, outcome, restart}
use Rattle.machine.specs.Step.{owner, is_majority, broadcast, request_of, become_leader, as_candidate, poll, as_follower, enter, ticked, reminder, tick_election, tick_as, on_tick, propose_as, append_proposal, on_proposal}
use Rattle.machine.specs.World.{World, Reachable}
use Rattle.machine.specs.Fits.{state_of}
use Rattle.machine.proofs.Theorems.{reachable_refines}
use Rattle.machine.proofs.Small.{renew_values}

-- between events a machine that is up has in memory the term and the log that a stop would leave
stable_state : (c : Conf) (w : World) (j : ℕ) → Reachable c w → w.up j ≡ true → state_of (restart (w.stable j)) ≡ state_of (w.memory j)
stable_state c w j k u =
    let s = reachable_refines c w k in
    sym (s.refines.stable_fits j).stable ∙ (s.refines.memory_fits j u).stable

pub stable_same : (c : Conf) (w : World) (j : ℕ) → Reachable c w → w.up j ≡ true → (w.stable j).log ≡ (w.memory j).log
stable_same c w j k u = ap (λ (z : State). z.log) (stable_state c w j k u)

-- what comes of a log has the same values
abbrev SameValues : {A : Type 0} → Log A → Outcome A → Type 0
SameValues l d = decisions d.now.log ≡ decisions l

poll_same : {A : Type 0} (c : Conf) (id : ℕ) (m : Machine A) (v : ℕ → Bool) (o : List (Out A)) → SameValues m.log (poll c id m v o)
unfolding poll become_leader
poll_same c id m v o =
    pick_both (SameValues m.log) (is_majority c v && ltb (m.elapsed + 2) c.wait) (become_leader c id m) (outcome (as_candidate m v) o)
    (λ _. renew_values m.term m.log) (λ _. refl)

enter_same : {A : Type 0} (c : Conf) (id : ℕ) (m : Machine A) (t : ℕ) (o : List (Out A)) → SameValues m.log (enter c id m t o)
unfolding enter
enter_same c id m t o =
    pick_both (SameValues m.log) (eqb (owner c t) id) (poll c id (as_follower m t) (λ j. eqb j id) (broadcast c id (λ _. request_of (as_follower m t)))) (outcome (as_follower m t) o)
    (λ _. poll_same c id (as_follower m t) (λ j. eqb j id) (broadcast c id (λ _. request_of (as_follower m t)))) (λ _. refl)

election_same : {A : Type 0} (c : Conf) (id : ℕ) (m : Machine A) → SameValues m.log (tick_election c id m)
election_same c id m =
    pick_both (SameValues m.log) (ltb (suc m.elapsed) c.wait) (outcome (ticked m) (reminder c id m m.role))
    (enter c id m (suc m.term) (broadcast c id (λ _. here (suc m.term)))) (λ _. refl)
    (λ _. enter_same c id m (suc m.term) (broadcast c id (λ _. here (suc m.term))))

tick_as_same : {A : Type 0} (c : Conf) (id : ℕ) (m : Machine A) (r : Role) → SameValues m.log (tick_as c id m r)
tick_as_same c id m follower = election_same c id m
tick_as_same c id m (candidate v) = election_same c id m
tick_as_same c id m (leader a b) = refl

-- a tick keeps the values of the log, in any cluster
pub tick_same : {A : Type 0} (c : Conf) (id : ℕ) (m : Machine A) → decisions (on_tick c id m).now.log ≡ decisions m.log
unfolding on_tick
tick_same c id m = tick_as_same c id m m.role

pub tick_values : {A : Type 0} (c : Conf) (id : ℕ) (m : Machine A) → length (decisions m.log) ≤ length (decisions (on_tick c id m).now.log)
tick_values c id m = omega (arith, ap length (tick_same c id m))

-- and a proposal keeps them too, with at most one behind them
abbrev MoreValues : {A : Type 0} → Log A → Outcome A → Type 0
MoreValues l d = length (decisions l) ≤ length (decisions d.now.log)

push_values : {A : Type 0} (l k : Log A) → length (decisions l) ≤ length (decisions (l ++ k))
push_values l k = omega (arith, ap length (decisions-++ l k), length-append (decisions l) (decisions k))

propose_values : {A : Type 0} (c : Conf) (id : ℕ) (m : Machine A) (v : A) (r : Role) → MoreValues m.log (propose_as c id m v r)
propose_values c id m v follower = omega arith
propose_values c id m v (candidate w) = omega arith
propose_values c id m v (leader a b) = push_values m.log (entry m.term (some v) ∷ [])

pub proposal_values : {A : Type 0} (c : Conf) (id : ℕ) (m : Machine A) (v : A) → length (decisions m.log) ≤ length (decisions (on_proposal c id m v).now.log)
unfolding on_proposal append_proposal
proposal_values c id m v =
    pick_both (MoreValues m.log) (ltb (length (decisions m.log)) c.room) (append_proposal c id m v) (outcome m []) (λ _. propose_values c id m v m.role) (λ _. omega arith)
