-- A machine alone: it is all of the majority, so what it has is committed at once, and it sends nothing. Assumes nothing.
use Rattle.std.proofs.Common.{◌≡◌, ℕ, zero, suc, ◌+◌, ◌*◌, ◌<◌, ◌≤◌, Bool, true, false, ◌&&◌, eqb, ltb, leb, List, [], ◌∷◌, ◌++◌, length, refl, ap, ◌∙◌, inl, inr, arith}
use mathlib.Core.Option.{some}
use Rattle.std.proofs.lemmas.Bool.{and_from, and_cases, lt-ltb, le-ltb, ltb-false, le-leb, eq-eqb, eqb-false}
use Rattle.protocol.specs.Lists.{pick, upd}
use Rattle.protocol.specs.Log.{entry, Log, term_before, last_term, renew, decisions}
use Rattle.protocol.specs.History.{count, owner as owner_of}
use Rattle.protocol.proofs.Updates.{pick_both, upd_same}
use Rattle.protocol.proofs.Logs.{term_same, push_length, push_last, last_some, renew_index_is, renew_length, renew_last}
use Rattle.machine.specs.Machine.{Conf, Machine, machine, Role, follower, candidate, leader, Letter, here, Out, out, Outcome, outcome}
use Rattle.machine.specs.Step.{owner, is_majority, to_others, broadcast, request_of, append_at, majority_index, maybe_commit, new_leader, become_leader, as_candidate, poll, as_follower, enter, ticked, reminder, tick_election, tick_as, on_tick, proposed, propose_as, append_proposal, on_proposal}

pick_true : {A : Type 0} (b : Bool) (x y : A) → b ≡ true → pick b x y ≡ x
pick_true b x y e = ap (λ (z : Bool). pick z x y) e

pick_false : {A : Type 0} (b : Bool) (x y : A) → b ≡ false → pick b x y ≡ y
pick_false b x y e = ap (λ (z : Bool). pick z x y) e

-- there is nobody to send to
pub to_nobody : {A : Type 0} (f : ℕ → Letter A) → to_others 0 f 1 ≡ []
unfolding to_others
to_nobody f = refl

-- one is more than half of one
module _ (c : Conf) (one : c.size ≡ 1) where
  owner_alone : (t : ℕ) → owner c t ≡ 0
  unfolding owner_of
  owner_alone t = ap (λ (n : ℕ). owner_of n t) one ∙ omega arith

  pub majority_alone : (f : ℕ → Bool) → f 0 ≡ true → is_majority c f ≡ true
  unfolding is_majority count
  majority_alone f e =
      let k : count f c.size ≡ 1 = ap (count f) one ∙ ap (λ (b : Bool). pick b 1 0) e in
      lt-ltb c.size (2 * count f c.size) (omega (arith, one, k))

  pub index_alone : (a : ℕ → ℕ) (k : ℕ) → k ≤ a 0 → majority_index c a k ≡ k
  unfolding majority_index
  index_alone a zero h = refl
  index_alone a (suc k) h = pick_true _ (suc k) (majority_index c a k) (majority_alone (λ j. leb (suc k) (a j)) (le-leb (suc k) (a 0) h))

  -- so a leader that has all of its log, which ends in its term, holds all for committed
  commit_alone : {A : Type 0} (t : ℕ) (l : Log A) (a : ℕ → ℕ) (k : ℕ) → k ≤ length l → length l ≤ a 0 → last_term l ≡ t → maybe_commit c t l a k ≡ length l
  unfolding maybe_commit last_term
  commit_alone t l a k b h e =
      let x : majority_index c a (length l) ≡ length l = index_alone a (length l) h in
      pick_both (λ (y : ℕ). y ≡ length l) (ltb k (majority_index c a (length l)) && eqb (term_before l (majority_index c a (length l))) t) (majority_index c a (length l)) k (λ _. x)
      (λ z. elim (and_cases (ltb k (majority_index c a (length l))) (eqb (term_before l (majority_index c a (length l))) t) z) [
        | inl y ↦ omega (arith, x, ltb-false k (majority_index c a (length l)) y)
        | inr y ↦ absurd (eqb-false (term_before l (majority_index c a (length l))) t y (ap (term_before l) x ∙ e))
      ])

  broadcast_alone : {A : Type 0} (f : ℕ → Letter A) → broadcast c 0 f ≡ []
  broadcast_alone f = ap (to_others 0 f) one ∙ to_nobody f

-- a tick that keeps the term keeps commit: this is so in any cluster
poll_term : {A : Type 0} (c : Conf) (id : ℕ) (m : Machine A) (v : ℕ → Bool) (o : List (Out A)) → (poll c id m v o).now.term ≡ m.term
unfolding poll become_leader
poll_term {A} c id m v o =
    pick_both (λ (d : Outcome A). d.now.term ≡ m.term) (is_majority c v && ltb (m.elapsed + 2) c.wait) (become_leader c id m) (outcome (as_candidate m v) o)
    (λ _. refl) (λ _. refl)

enter_term : {A : Type 0} (c : Conf) (id : ℕ) (m : Machine A) (t : ℕ) (o : List (Out A)) → (enter c id m t o).now.term ≡ t
unfolding enter
enter_term {A} c id m t o =
    pick_both (λ (d : Outcome A). d.now.term ≡ t) (eqb (owner c t) id) (poll c id (as_follower m t) (λ j. eqb j id) (broadcast c id (λ _. request_of (as_follower m t))))
    (outcome (as_follower m t) o) (λ _. poll_term c id (as_follower m t) (λ j. eqb j id) (broadcast c id (λ _. request_of (as_follower m t)))) (λ _. refl)

election_kept : {A : Type 0} (c : Conf) (id : ℕ) (m : Machine A) → m.term ≡ (tick_election c id m).now.term → m.commit ≡ (tick_election c id m).now.commit
election_kept {A} c id m =
    pick_both (λ (d : Outcome A). m.term ≡ d.now.term → m.commit ≡ d.now.commit) (ltb (suc m.elapsed) c.wait) (outcome (ticked m) (reminder c id m m.role))
    (enter c id m (suc m.term) (broadcast c id (λ _. here (suc m.term)))) (λ _ _. refl)
    (λ _ e. absurd (omega (arith, e, enter_term c id m (suc m.term) (broadcast c id (λ _. here (suc m.term))))))

tick_kept : {A : Type 0} (c : Conf) (id : ℕ) (m : Machine A) (r : Role) → m.term ≡ (tick_as c id m r).now.term → m.commit ≡ (tick_as c id m r).now.commit
tick_kept c id m follower e = election_kept c id m e
tick_kept c id m (candidate v) e = election_kept c id m e
tick_kept c id m (leader a b) e = refl

pub alone_tick_kept : {A : Type 0} (c : Conf) (id : ℕ) (m : Machine A) → m.term ≡ (on_tick c id m).now.term → m.commit ≡ (on_tick c id m).now.commit
unfolding on_tick
alone_tick_kept c id m e = tick_kept c id m m.role e

-- the log that a machine leads its next term with, when it is alone, and the machine then
abbrev pub own_log : {A : Type 0} → Machine A → Log A
own_log m = renew (suc m.term) m.log

abbrev pub own_leader : {A : Type 0} → Machine A → Machine A
own_leader m = machine (suc m.term) (leader (upd (λ _. 0) 0 (length (own_log m))) (λ _. length (own_log m))) false 0 (own_log m) (length (own_log m))

-- a leader alone that took v in
abbrev pub own_extended : {A : Type 0} → Machine A → A → Log A
own_extended m v = m.log ++ entry m.term (some v) ∷ []

abbrev pub own_proposed : {A : Type 0} → Machine A → A → (ℕ → ℕ) → (ℕ → ℕ) → Machine A
own_proposed m v a b = machine m.term (leader (upd a 0 (length (own_extended m v))) b) m.heard m.elapsed (own_extended m v) (length (own_extended m v))

pub renew_ends : {A : Type 0} (t : ℕ) (l : Log A) → last_term (renew t l) ≡ t
renew_ends t l = last_some (renew t l) _ (renew_length t l) ∙ term_same _ _ (renew_last t l)

pub push_ends : {A : Type 0} (t : ℕ) (l : Log A) (v : A) → last_term (l ++ entry t (some v) ∷ []) ≡ t
push_ends t l v = last_some (l ++ entry t (some v) ∷ []) (length l) (push_length l (entry t (some v))) ∙ term_same _ _ (push_last l (entry t (some v)) (length l) refl)

-- a proposal is refused by one that does not lead, and when the log is full: this is so in any cluster
refuse_as : {A : Type 0} (c : Conf) (id : ℕ) (m : Machine A) (v : A) (r : Role) → ((a b : ℕ → ℕ) → r ≡ leader a b → ⊥) → propose_as c id m v r ≡ outcome m []
refuse_as c id m v follower h = refl
refuse_as c id m v (candidate w) h = refl
refuse_as c id m v (leader a b) h = absurd (h a b refl)

pub other_refuses : {A : Type 0} (c : Conf) (id : ℕ) (m : Machine A) (v : A) → ((a b : ℕ → ℕ) → m.role ≡ leader a b → ⊥) → on_proposal c id m v ≡ outcome m []
unfolding on_proposal append_proposal
other_refuses {A} c id m v h =
    pick_both (λ (d : Outcome A). d ≡ outcome m []) (ltb (length (decisions m.log)) c.room) (append_proposal c id m v) (outcome m [])
    (λ _. refuse_as c id m v m.role h) (λ _. refl)

pub full_refuses : {A : Type 0} (c : Conf) (id : ℕ) (m : Machine A) (v : A) → c.room ≤ length (decisions m.log) → on_proposal c id m v ≡ outcome m []
unfolding on_proposal
full_refuses c id m v h =
    pick_false (ltb (length (decisions m.log)) c.room) (append_proposal c id m v) (outcome m []) (le-ltb (length (decisions m.log)) c.room h)

-- who does not lead waits or stands
other_tick : {A : Type 0} (c : Conf) (m : Machine A) (r : Role) → ((a b : ℕ → ℕ) → r ≡ leader a b → ⊥) → tick_as c 0 m r ≡ tick_election c 0 m
other_tick c m follower h = refl
other_tick c m (candidate v) h = refl
other_tick c m (leader a b) h = absurd (h a b refl)

module _ (c : Conf) (one : c.size ≡ 1) (ten : c.wait ≡ 10) where
  -- who enters its next term leads it at once
  enter_alone : {A : Type 0} (m : Machine A) (o : List (Out A)) → enter c 0 m (suc m.term) o ≡ become_leader c 0 (as_follower m (suc m.term))
  unfolding enter poll
  enter_alone m o =
      pick_true _ _ _ (eq-eqb (owner c (suc m.term)) 0 (owner_alone c one (suc m.term)))
      ∙ pick_true _ _ _ (and_from _ _ (majority_alone c one (λ j. eqb j 0) refl) (lt-ltb 2 c.wait (omega (arith, ten))))

  leader_alone : {A : Type 0} (m : Machine A) → m.commit ≤ length m.log → become_leader c 0 (as_follower m (suc m.term)) ≡ outcome (own_leader m) []
  unfolding become_leader
  leader_alone m b =
      let l = own_log m in
      let a : ℕ → ℕ = upd (λ _. 0) 0 (length l) in
      let same : a 0 ≡ length l = upd_same (λ _. 0) 0 (length l) in
      let k : maybe_commit c (suc m.term) l a m.commit ≡ length l =
      commit_alone c one (suc m.term) l a m.commit (omega (arith, b, renew_length (suc m.term) m.log, (renew_index_is m.log).high)) (omega (arith, same))
      (renew_ends (suc m.term) m.log) in
      λ i. outcome (machine (suc m.term) (leader a (λ _. length l)) false 0 l (k i))
      (broadcast_alone c one (λ _. append_at c (new_leader c 0 (as_follower m (suc m.term))) (length l)) i)

  -- a leader alone does nothing at a tick, and sends nothing
  pub alone_leader_tick : {A : Type 0} (m : Machine A) (a b : ℕ → ℕ) → m.role ≡ leader a b → on_tick c 0 m ≡ outcome m []
  unfolding on_tick
  alone_leader_tick m a b e = ap (tick_as c 0 m) e ∙ ap (outcome m) (broadcast_alone c one _)

  -- before its time it waits, and has nobody to remind
  pub alone_reminds_nobody : {A : Type 0} (m : Machine A) (r : Role) → reminder c 0 m r ≡ []
  alone_reminds_nobody {A} m follower =
      pick_both (λ (o : List (Out A)). o ≡ []) m.heard [] (pick (eqb (owner c m.term) 0) [] (out (owner c m.term) (here m.term) ∷ [])) (λ _. refl)
      (λ _. pick_true (eqb (owner c m.term) 0) [] (out (owner c m.term) (here m.term) ∷ []) (eq-eqb (owner c m.term) 0 (owner_alone c one m.term)))
  alone_reminds_nobody m (candidate v) = broadcast_alone c one _
  alone_reminds_nobody m (leader a b) = refl

  wait_election : {A : Type 0} (m : Machine A) → suc m.elapsed < 10 → tick_election c 0 m ≡ outcome (ticked m) []
  wait_election m h =
      pick_true (ltb (suc m.elapsed) c.wait) (outcome (ticked m) (reminder c 0 m m.role)) (enter c 0 m (suc m.term) (broadcast c 0 (λ _. here (suc m.term))))
      (lt-ltb (suc m.elapsed) c.wait (omega (arith, ten)))
      ∙ ap (outcome (ticked m)) (alone_reminds_nobody m m.role)

  lead_election : {A : Type 0} (m : Machine A) → 10 ≤ suc m.elapsed → m.commit ≤ length m.log → tick_election c 0 m ≡ outcome (own_leader m) []
  lead_election m h b =
      pick_false (ltb (suc m.elapsed) c.wait) (outcome (ticked m) (reminder c 0 m m.role)) (enter c 0 m (suc m.term) (broadcast c 0 (λ _. here (suc m.term))))
      (le-ltb (suc m.elapsed) c.wait (omega (arith, ten)))
      ∙ enter_alone m (broadcast c 0 (λ _. here (suc m.term)))
      ∙ leader_alone m b

  -- a tick of one that does not lead
  pub alone_waits : {A : Type 0} (m : Machine A) → ((a b : ℕ → ℕ) → m.role ≡ leader a b → ⊥) → suc m.elapsed < 10 → on_tick c 0 m ≡ outcome (ticked m) []
  unfolding on_tick
  alone_waits m other h = other_tick c m m.role other ∙ wait_election m h

  pub alone_elected : {A : Type 0} (m : Machine A) → ((a b : ℕ → ℕ) → m.role ≡ leader a b → ⊥) → 10 ≤ suc m.elapsed → m.commit ≤ length m.log →
      on_tick c 0 m ≡ outcome (own_leader m) []
  unfolding on_tick
  alone_elected m other h b = other_tick c m m.role other ∙ lead_election m h b

  -- whatever a tick does, nothing is sent
  election_silent : {A : Type 0} (m : Machine A) → (tick_election c 0 m).sent ≡ []
  unfolding become_leader
  election_silent {A} m =
      pick_both (λ (d : Outcome A). d.sent ≡ []) (ltb (suc m.elapsed) c.wait) (outcome (ticked m) (reminder c 0 m m.role))
      (enter c 0 m (suc m.term) (broadcast c 0 (λ _. here (suc m.term)))) (λ _. alone_reminds_nobody m m.role)
      (λ _. ap (λ (d : Outcome A). d.sent) (enter_alone m (broadcast c 0 (λ _. here (suc m.term)))) ∙ broadcast_alone c one _)

  tick_silent : {A : Type 0} (m : Machine A) (r : Role) → (tick_as c 0 m r).sent ≡ []
  tick_silent m follower = election_silent m
  tick_silent m (candidate v) = election_silent m
  tick_silent m (leader a b) = broadcast_alone c one _

  pub alone_tick_silent : {A : Type 0} (m : Machine A) → (on_tick c 0 m).sent ≡ []
  unfolding on_tick
  alone_tick_silent m = tick_silent m m.role

  -- a leader alone takes a proposal in, and holds it for committed at once
  take_in : {A : Type 0} (m : Machine A) (v : A) (a b : ℕ → ℕ) → m.commit ≤ length m.log → propose_as c 0 m v (leader a b) ≡ outcome (own_proposed m v a b) []
  take_in m v a b h =
      let l = own_extended m v in
      let same : upd a 0 (length l) 0 ≡ length l = upd_same a 0 (length l) in
      let k : maybe_commit c m.term l (upd a 0 (length l)) m.commit ≡ length l =
      commit_alone c one m.term l (upd a 0 (length l)) m.commit (omega (arith, h, push_length m.log (entry m.term (some v)))) (omega (arith, same))
      (push_ends m.term m.log v) in
      λ i. outcome (machine m.term (leader (upd a 0 (length l)) b) m.heard m.elapsed l (k i)) (broadcast_alone c one (λ j. append_at c (proposed c 0 m v a b) (b j)) i)

  pub alone_proposal : {A : Type 0} (m : Machine A) (v : A) (a b : ℕ → ℕ) → m.role ≡ leader a b → length (decisions m.log) < c.room → m.commit ≤ length m.log →
      on_proposal c 0 m v ≡ outcome (own_proposed m v a b) []
  unfolding on_proposal append_proposal
  alone_proposal m v a b e space h =
      pick_true (ltb (length (decisions m.log)) c.room) (append_proposal c 0 m v) (outcome m []) (lt-ltb (length (decisions m.log)) c.room space)
      ∙ ap (propose_as c 0 m v) e
      ∙ take_in m v a b h
