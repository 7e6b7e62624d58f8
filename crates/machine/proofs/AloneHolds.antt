-- A machine alone has in its log all that was ever decided, and while it leads it holds all of its log for decided. Assumes nothing.
use Rattle.std.proofs.Common.{◌≡◌, ℕ, suc, ◌+◌, ◌<◌, ◌≤◌, Bool, true, false, ◌&&◌, eqb, ltb, leb, List, [], ◌∷◌, ◌++◌, length, take, sym, refl, ap, ◌∙◌, subst, inl, inr, arith}
use mathlib.Core.Option.{some}
use Rattle.std.proofs.lemmas.List.{take_all}
use Rattle.std.proofs.lemmas.Bool.{both_ways, cases_Bool, cases_eq, and_parts, and_cases, ltb-true, ltb-false, eqb-false}
use Rattle.protocol.specs.Lists.{pick, upd, Begins}
use Rattle.protocol.specs.Log.{entry, Log, term_before, last_term, renew, Covers, decisions}
use Rattle.protocol.specs.History.{History, count, Majority, Committed, Front, Decided}
use Rattle.protocol.specs.Invariant.{Inv, Elections}
use Rattle.protocol.specs.State.{State, Sound}
use Rattle.protocol.proofs.Updates.{pick_both, upd_all, upd_same}
use Rattle.protocol.proofs.Logs.{covers_self, covers_content}
use Rattle.protocol.proofs.Decisions.{decisions_take, decisions_same}
use Rattle.protocol.proofs.States.{acked_front}
use Rattle.protocol.proofs.Complete.{complete}
use Rattle.machine.specs.Machine.{Conf, Machine, Role, follower, candidate, leader, Letter, append, request, vote, ack, reject, here, of_term, Out, out, Outcome, outcome, tick, receive, Input, event, proposal, restart, decided}
use Rattle.machine.specs.Step.{owner, is_majority, broadcast, request_of, majority_index, maybe_commit, become_leader, as_candidate, poll, as_follower, enter, ticked, reminder, tick_election, tick_as, on_tick, prev_matches, handle_append, matched, handle_ack, handle_reject, handle_as, handle, handle_old, enter_higher, handle_higher, on_letter, propose_as, append_proposal, on_proposal, step}
use Rattle.machine.specs.World.{World, whole, early, late, Item, power, input, next, run, initial, Reachable}
use Rattle.machine.specs.Fits.{state_of}
use Rattle.machine.proofs.Alone.{index_alone, renew_ends, push_ends}
use Rattle.machine.proofs.Decided.{none_begins}
use Rattle.machine.proofs.Worlds.{still_up, up_before}
use Rattle.machine.proofs.Theorems.{reachable_refines}
use Rattle.machine.proofs.Steps.{commit_up}
use Rattle.machine.proofs.Safes.{stable_same}

-- WHAT WAS COMMITTED, one machine alone acknowledged, so its log covers it
one_acked : (f : ℕ → Bool) → Majority 1 f → f 0 ≡ true
unfolding Majority count
one_acked f m =
    elim (cases_Bool (f 0)) [
      | inl e ↦ e
      | inr e ↦ absurd (let z : ◌≡◌ {A = ℕ} (pick (f 0) 1 0) 0 = ap (λ (b : Bool). pick {A = ℕ} b 1 0) e in omega (arith, m, z))
    ]

module _ (n : ℕ) (g : History) (inv : Inv g) (el : Elections n g) (j : ℕ) (s : State) (d : Sound n g j s) where
  acked_covers : (t m : ℕ) → Committed n g t m → m < g.acked t j → Covers m (g.lead t) s.log
  acked_covers t m done a =
      let h = d.acks t m a in
      elim (cases_eq s.term t) [
        | inl e ↦ covers_self m (g.lead t) s.log (h.now e).0 (λ i b. acked_front n g j s d t m e a i b)
        | inr ne ↦ h.later (omega (arith, ne, h.reached)) done.own_term (λ u lo hi k. complete n g inv el t m done u lo k)
      ]

  acked_begins : (xs : List ℕ) (f : Front n g xs) → f.at < g.acked f.term j → Begins xs (decisions s.log)
  acked_begins xs f a =
      let v = acked_covers f.term f.at f.done a in
      let e : decisions (take f.upto (g.lead f.term)) ≡ decisions (take f.upto s.log) =
      decisions_same f.upto (g.lead f.term) s.log (omega (arith, f.reach, f.done.within)) (omega (arith, f.reach, v.long))
      (λ i b. covers_content f.at (g.lead f.term) s.log v i (omega (arith, f.reach))) in
      let all : take (f.upto + length s.log) s.log ≡ s.log = take_all (f.upto + length s.log) s.log (omega arith) in
      subst (λ (ys : List ℕ). Begins ys (decisions s.log)) (sym (f.is ∙ e))
      (subst (λ (l : Log ℕ). Begins (decisions (take f.upto s.log)) (decisions l)) all (decisions_take s.log f.upto (f.upto + length s.log) (omega arith)))

order_begins : (n : ℕ) (g : History) (inv : Inv g) (el : Elections n g) (s : State) → n ≡ 1 → Sound n g 0 s → (xs : List ℕ) → Decided n g xs → Begins xs (decisions s.log)
order_begins n g inv el s one d xs (inl e) = none_begins xs (decisions s.log) e
order_begins n g inv el s one d xs (inr f) =
    let most : Majority 1 (λ j. ltb f.at (g.acked f.term j)) = subst (λ (k : ℕ). Majority k (λ j. ltb f.at (g.acked f.term j))) one f.done.most in
    acked_begins n g inv el 0 s d xs f (ltb-true f.at (g.acked f.term 0) (one_acked (λ j. ltb f.at (g.acked f.term j)) most))

-- so all of the order is in what a stop would leave, and in the log of the machine while it is up
pub alone_order : (c : Conf) (w : World) → c.size ≡ 1 → Reachable c w → Begins w.order (decisions (w.stable 0).log)
alone_order c w one k =
    let s = reachable_refines c w k in
    let g = s.to.history in
    let good : Sound c.size g 0 (state_of (restart (w.stable 0))) =
    subst (λ (z : State). Sound c.size g 0 z) (s.refines.stable_fits 0).stable (s.refines.safe.stable_sound 0) in
    order_begins c.size g s.refines.safe.inv s.refines.safe.elections (state_of (restart (w.stable 0))) one good w.order s.refines.order_decided

pub alone_order_up : (c : Conf) (w : World) → c.size ≡ 1 → Reachable c w → w.up 0 ≡ true → Begins w.order (decisions (w.memory 0).log)
alone_order_up c w one k u = subst (λ (l : Log ℕ). Begins w.order (decisions l)) (stable_same c w 0 k u) (alone_order c w one k)

-- WHO LEADS holds all of its log for committed
abbrev FullAs : Role → ℕ → ℕ → Type 0
FullAs follower len k = Unit {0}
FullAs (candidate v) len k = Unit {0}
FullAs (leader a b) len k = len ≤ k

abbrev pub Full : {A : Type 0} → Machine A → Type 0
Full m = FullAs m.role (length m.log) m.commit

commit_stays : {A : Type 0} (c : Conf) (t : ℕ) (l : Log A) (a : ℕ → ℕ) (k : ℕ) → k ≤ maybe_commit c t l a k
unfolding maybe_commit
commit_stays c t l a k =
    pick_both (λ x. k ≤ x) (ltb k (majority_index c a (length l)) && eqb (term_before l (majority_index c a (length l))) t) (majority_index c a (length l)) k
    (λ e. omega (arith, ltb-true k (majority_index c a (length l)) (and_parts (ltb k (majority_index c a (length l))) (eqb (term_before l (majority_index c a (length l))) t) e).0))
    (λ _. omega arith)

-- whatever comes to it, since what it has, more than half of one have
module _ (c : Conf) (one : c.size ≡ 1) where
  commit_all : {A : Type 0} (t : ℕ) (l : Log A) (a : ℕ → ℕ) (k : ℕ) → length l ≤ a 0 → last_term l ≡ t → length l ≤ maybe_commit c t l a k
  unfolding maybe_commit last_term
  commit_all t l a k h e =
      let x : majority_index c a (length l) ≡ length l = index_alone c one a (length l) h in
      pick_both (λ y. length l ≤ y) (ltb k (majority_index c a (length l)) && eqb (term_before l (majority_index c a (length l))) t) (majority_index c a (length l)) k (λ _. omega (arith, x))
      (λ z. elim (and_cases (ltb k (majority_index c a (length l))) (eqb (term_before l (majority_index c a (length l))) t) z) [
        | inl y ↦ omega (arith, x, ltb-false k (majority_index c a (length l)) y)
        | inr y ↦ absurd (eqb-false (term_before l (majority_index c a (length l))) t y (ap (term_before l) x ∙ e))
      ])

  leader_full : {A : Type 0} (m : Machine A) → Full (become_leader c 0 m).now
  unfolding become_leader
  leader_full m =
      let l = renew m.term m.log in
      let same : upd (λ _. 0) 0 (length l) 0 ≡ length l = upd_same (λ _. 0) 0 (length l) in
      commit_all m.term l (upd (λ _. 0) 0 (length l)) m.commit (omega (arith, same)) (renew_ends m.term m.log)

  poll_full : {A : Type 0} (m : Machine A) (v : ℕ → Bool) (o : List (Out A)) → Full (poll c 0 m v o).now
  unfolding poll
  poll_full {A} m v o =
      pick_both (λ (d : Outcome A). Full d.now) (is_majority c v && ltb (m.elapsed + 2) c.wait) (become_leader c 0 m) (outcome (as_candidate m v) o) (λ _. leader_full m) (λ _. tt)

  enter_full : {A : Type 0} (m : Machine A) (t : ℕ) (o : List (Out A)) → Full (enter c 0 m t o).now
  unfolding enter
  enter_full {A} m t o =
      pick_both (λ (d : Outcome A). Full d.now) (eqb (owner c t) 0) (poll c 0 (as_follower m t) (λ j. eqb j 0) (broadcast c 0 (λ _. request_of (as_follower m t))))
      (outcome (as_follower m t) o) (λ _. poll_full (as_follower m t) (λ j. eqb j 0) (broadcast c 0 (λ _. request_of (as_follower m t)))) (λ _. tt)

  election_full : {A : Type 0} (m : Machine A) → Full m → Full (tick_election c 0 m).now
  election_full {A} m h =
      pick_both (λ (d : Outcome A). Full d.now) (ltb (suc m.elapsed) c.wait) (outcome (ticked m) (reminder c 0 m m.role))
      (enter c 0 m (suc m.term) (broadcast c 0 (λ _. here (suc m.term)))) (λ _. h) (λ _. enter_full m (suc m.term) (broadcast c 0 (λ _. here (suc m.term))))

  tick_full : {A : Type 0} (m : Machine A) (r : Role) → Full m → Full (tick_as c 0 m r).now
  tick_full m follower h = election_full m h
  tick_full m (candidate v) h = election_full m h
  tick_full m (leader a b) h = h

  append_full : {A : Type 0} (f : ℕ) (m : Machine A) (p q k : ℕ) (es : Log A) → Full (handle_append c f m p q k es).now
  unfolding handle_append
  append_full {A} f m p q k es = pick_both (λ (d : Outcome A). Full d.now) (prev_matches m.log p q) _ _ (λ _. tt) (λ _. tt)

  ack_full : {A : Type 0} (f : ℕ) (m : Machine A) (i : ℕ) (a b : ℕ → ℕ) → Full m → length m.log ≤ m.commit → Full (handle_ack c 0 f m i a b).now
  unfolding handle_ack
  ack_full {A} f m i a b h k =
      pick_both (λ (d : Outcome A). Full d.now) (leb i (length m.log)) _ (outcome m [])
      (λ _. omega (arith, k, commit_stays c m.term m.log (matched a f i) m.commit)) (λ _. h)

  reject_full : {A : Type 0} (f : ℕ) (m : Machine A) (p q : ℕ) (a b : ℕ → ℕ) → Full m → length m.log ≤ m.commit → Full (handle_reject c f m p q a b).now
  unfolding handle_reject
  reject_full {A} f m p q a b h k = pick_both (λ (d : Outcome A). Full d.now) (eqb (suc p) (b f) && ltb (a f) p) _ (outcome m []) (λ _. k) (λ _. h)

  handle_full : {A : Type 0} (f : ℕ) (m : Machine A) (r : Role) (l : Letter A) → Full m → FullAs r (length m.log) m.commit → Full (handle_as c 0 f m r l).now
  handle_full f m follower (append t p q k es) h z = append_full f m p q k es
  handle_full f m (candidate v) (append t p q k es) h z = h
  handle_full f m (leader a b) (append t p q k es) h z = h
  handle_full f m follower (request t len last) h z = h
  handle_full f m (candidate v) (request t len last) h z = h
  handle_full f m (leader a b) (request t len last) h z = h
  handle_full f m follower (vote t g) h z = h
  handle_full {A} f m (candidate v) (vote t g) h z =
      pick_both (λ (d : Outcome A). Full d.now) g (poll c 0 m (upd v f true) []) (outcome m []) (λ _. poll_full m (upd v f true) []) (λ _. h)
  handle_full f m (leader a b) (vote t g) h z = h
  handle_full f m follower (ack t i) h z = h
  handle_full f m (candidate v) (ack t i) h z = h
  handle_full f m (leader a b) (ack t i) h z = ack_full f m i a b h z
  handle_full f m follower (reject t p q) h z = h
  handle_full f m (candidate v) (reject t p q) h z = h
  handle_full f m (leader a b) (reject t p q) h z = reject_full f m p q a b h z
  handle_full f m follower (here t) h z = h
  handle_full f m (candidate v) (here t) h z = h
  handle_full f m (leader a b) (here t) h z = h

  higher_full : {A : Type 0} (f : ℕ) (m : Machine A) (l : Letter A) → Full (handle_higher c 0 f m l).now
  higher_full f m l =
      let m1 = (enter_higher c 0 m (of_term l)).now in
      let h : Full m1 = enter_full m (of_term l) (out (owner c (of_term l)) (here (of_term l)) ∷ []) in
      handle_full f m1 m1.role l h h

  letter_full : {A : Type 0} (f : ℕ) (m : Machine A) (l : Letter A) → Full m → Full (on_letter c 0 f m l).now
  unfolding on_letter
  letter_full {A} f m l h =
      pick_both (λ (d : Outcome A). Full d.now) (ltb m.term (of_term l)) (handle_higher c 0 f m l) (pick (ltb (of_term l) m.term) (outcome m (handle_old f m l)) (handle c 0 f m l))
      (λ _. higher_full f m l)
      (λ _. pick_both (λ (d : Outcome A). Full d.now) (ltb (of_term l) m.term) (outcome m (handle_old f m l)) (handle c 0 f m l) (λ _. h) (λ _. handle_full f m m.role l h h))

  propose_full : {A : Type 0} (m : Machine A) (v : A) (r : Role) → Full m → Full (propose_as c 0 m v r).now
  propose_full m v follower h = h
  propose_full m v (candidate w) h = h
  propose_full m v (leader a b) h =
      let l = m.log ++ entry m.term (some v) ∷ [] in
      let same : upd a 0 (length l) 0 ≡ length l = upd_same a 0 (length l) in
      commit_all m.term l (upd a 0 (length l)) m.commit (omega (arith, same)) (push_ends m.term m.log v)

  proposal_full : {A : Type 0} (m : Machine A) (v : A) → Full m → Full (on_proposal c 0 m v).now
  unfolding on_proposal append_proposal
  proposal_full {A} m v h =
      pick_both (λ (d : Outcome A). Full d.now) (ltb (length (decisions m.log)) c.room) (append_proposal c 0 m v) (outcome m []) (λ _. propose_full m v m.role h) (λ _. h)

  pub step_full : {A : Type 0} (m : Machine A) (e : Input A) → Full m → Full (step c 0 m e).now
  unfolding on_tick
  step_full m (event tick) h = tick_full m m.role h
  step_full m (event (receive f l)) h = letter_full f m l h
  step_full m (proposal v) h = proposal_full m v h

  -- in a world: power makes a follower, and what comes to other machines leaves this one as it is
  abbrev FullWorld : World → Type 0
  FullWorld w = (i : ℕ) → i ≡ 0 → w.up i ≡ true → Full (w.memory i)

  step_full_at : (j : ℕ) → j ≡ 0 → (m : Machine ℕ) (e : Input ℕ) → Full m → Full (step c j m e).now
  step_full_at j z m e h = subst (λ (i : ℕ). Full (step c i m e).now) (sym z) (step_full m e h)

  next_full : (w : World) (a : Item) → FullWorld w → FullWorld (next c w a)
  next_full w (power j) h =
      upd_all w.memory j (restart (w.stable j)) (λ i m. i ≡ 0 → upd w.up j true i ≡ true → Full m) (λ _ _. tt) (λ i ne z y. h i z (up_before w j i ne y))
  next_full w (input j e (whole b)) h =
      upd_all w.memory j (step c j (w.memory j) e).now (λ i m. i ≡ 0 → w.up i ≡ true → Full m) (λ z y. step_full_at j z (w.memory j) e (h j z y)) (λ i ne z y. h i z y)
  next_full w (input j e early) h = λ i z y. h i z (still_up w j i y).1
  next_full w (input j e (late b k)) h = λ i z y. h i z (still_up w j i y).1

  run_full : (w : World) (more : List Item) → FullWorld w → FullWorld (run c w more)
  run_full w [] h = h
  run_full w (a ∷ more) h = run_full (next c w a) more (next_full w a h)

  initial_full : FullWorld initial
  unfolding initial
  initial_full i z y = absurd (both_ways false refl y)

  reachable_full : (w : World) → Reachable c w → FullWorld w
  reachable_full w k = subst (λ (y : World). FullWorld y) k.is (run_full initial k.by initial_full)

-- a leader alone, at any time: its log is committed, and decided, and has all of the order
module _ (c : Conf) (w : World) (one : c.size ≡ 1) (k : Reachable c w) (u : w.up 0 ≡ true) (a b : ℕ → ℕ) (e : (w.memory 0).role ≡ leader a b) where
  pub alone_commit : (w.memory 0).commit ≡ length (w.memory 0).log
  alone_commit =
      let h : length (w.memory 0).log ≤ (w.memory 0).commit =
      subst (λ (r : Role). FullAs r (length (w.memory 0).log) (w.memory 0).commit) e (reachable_full c one w k 0 refl u) in
      omega (arith, h, commit_up c w 0 k u)

  pub alone_decided : decided (w.memory 0) ≡ decisions (w.memory 0).log
  unfolding decided
  alone_decided = ap decisions (take_all (w.memory 0).commit (w.memory 0).log (omega (arith, alone_commit)))
