-- No event lowers commit or the term. Assumes nothing.
use Rattle.std.proofs.Common.{ℕ, suc, ◌+◌, ◌<◌, ◌≤◌, Bool, true, ◌&&◌, eqb, ltb, leb, List, [], ◌∷◌, length, arith}
use Rattle.std.proofs.lemmas.Bool.{and_parts, ltb-true}
use Rattle.protocol.specs.Lists.{pick, upd}
use Rattle.protocol.specs.Log.{Log, term_before, decisions}
use Rattle.protocol.specs.History.{owner}
use Rattle.protocol.proofs.Updates.{pick_both}
use Rattle.machine.specs.Machine.{Conf, Machine, Role, follower, candidate, leader, Letter, append, request, vote, ack, reject, here, of_term, Out, out, Outcome, outcome, tick, receive, Input, event, proposal}
use Rattle.machine.specs.Step.{is_majority, broadcast, request_of, majority_index, maybe_commit, become_leader, as_candidate, poll, as_follower, enter, ticked, reminder, tick_election, tick_as, on_tick, prev_matches, handle_append, matched, handle_ack, handle_reject, handle_as, handle, handle_old, enter_higher, handle_higher, on_letter, propose_as, append_proposal, on_proposal, step}
use Rattle.machine.specs.Theorems.{CommitRises, TermsRise}

maybe_commit_up : (c : Conf) (t : ℕ) (l : Log ℕ) (a : ℕ → ℕ) (k : ℕ) → k ≤ maybe_commit c t l a k
unfolding maybe_commit
maybe_commit_up c t l a k =
    pick_both (λ x. k ≤ x) (ltb k (majority_index c a (length l)) && eqb (term_before l (majority_index c a (length l))) t) (majority_index c a (length l)) k
    (λ e. omega (arith, ltb-true k (majority_index c a (length l)) (and_parts (ltb k (majority_index c a (length l))) (eqb (term_before l (majority_index c a (length l))) t) e).0))
    (λ _. omega arith)

-- what comes of m has commit k and term t or more
pub record Up (k t : ℕ) (d : Outcome ℕ) : Type 0 where
  pub commit : k ≤ d.now.commit
  pub term : t ≤ d.now.term

abbrev Ups : Machine ℕ → Outcome ℕ → Type 0
Ups m d = Up m.commit m.term d

same_up : (m : Machine ℕ) (o : List (Out ℕ)) → Ups m (outcome m o)
same_up m o = record { commit = omega arith; term = omega arith }

module _ (c : Conf) (j : ℕ) where
  leader_up : (m : Machine ℕ) → Ups m (become_leader c j m)
  unfolding become_leader
  leader_up m = record { commit = maybe_commit_up c m.term _ _ m.commit; term = omega arith }

  poll_up : (m : Machine ℕ) (v : ℕ → Bool) (o : List (Out ℕ)) → Ups m (poll c j m v o)
  unfolding poll
  poll_up m v o =
      pick_both (Ups m) (is_majority c v && ltb (m.elapsed + 2) c.wait) (become_leader c j m) (outcome (as_candidate m v) o) (λ _. leader_up m)
      (λ _. record { commit = omega arith; term = omega arith })

  enter_up : (m : Machine ℕ) (t : ℕ) (o : List (Out ℕ)) → Up m.commit t (enter c j m t o)
  unfolding enter
  enter_up m t o =
      pick_both (Up m.commit t) (eqb (owner c.size t) j) (poll c j (as_follower m t) (λ i. eqb i j) (broadcast c j (λ _. request_of (as_follower m t)))) (outcome (as_follower m t) o)
      (λ _. poll_up (as_follower m t) (λ i. eqb i j) (broadcast c j (λ _. request_of (as_follower m t)))) (λ _. record { commit = omega arith; term = omega arith })

  election_up : (m : Machine ℕ) → Ups m (tick_election c j m)
  election_up m =
      let r = enter_up m (suc m.term) (broadcast c j (λ _. here (suc m.term))) in
      pick_both (Ups m) (ltb (suc m.elapsed) c.wait) (outcome (ticked m) (reminder c j m m.role)) (enter c j m (suc m.term) (broadcast c j (λ _. here (suc m.term))))
      (λ _. record { commit = omega arith; term = omega arith }) (λ _. record { commit = r.commit; term = omega (arith, r.term) })

  tick_up : (m : Machine ℕ) (r : Role) → Ups m (tick_as c j m r)
  tick_up m follower = election_up m
  tick_up m (candidate v) = election_up m
  tick_up m (leader a b) = same_up m _

  append_up : (f : ℕ) (m : Machine ℕ) (p q k : ℕ) (es : Log ℕ) → Ups m (handle_append c f m p q k es)
  unfolding handle_append
  append_up f m p q k es =
      pick_both (Ups m) (prev_matches m.log p q) _ _ (λ _. record { commit = omega arith; term = omega arith }) (λ _. record { commit = omega arith; term = omega arith })

  ack_up : (f : ℕ) (m : Machine ℕ) (i : ℕ) (a b : ℕ → ℕ) → Ups m (handle_ack c j f m i a b)
  unfolding handle_ack
  ack_up f m i a b =
      pick_both (Ups m) (leb i (length m.log)) _ (outcome m []) (λ _. record { commit = maybe_commit_up c m.term m.log (matched a f i) m.commit; term = omega arith }) (λ _. same_up m [])

  reject_up : (f : ℕ) (m : Machine ℕ) (p h : ℕ) (a b : ℕ → ℕ) → Ups m (handle_reject c f m p h a b)
  unfolding handle_reject
  reject_up f m p h a b =
      pick_both (Ups m) (eqb (suc p) (b f) && ltb (a f) p) _ (outcome m []) (λ _. record { commit = omega arith; term = omega arith }) (λ _. same_up m [])

  handle_up : (f : ℕ) (m : Machine ℕ) (r : Role) (l : Letter ℕ) → Ups m (handle_as c j f m r l)
  handle_up f m follower (append t p q k es) = append_up f m p q k es
  handle_up f m (candidate v) (append t p q k es) = same_up m []
  handle_up f m (leader a b) (append t p q k es) = same_up m []
  handle_up f m follower (request t len last) = same_up m _
  handle_up f m (candidate v) (request t len last) = same_up m []
  handle_up f m (leader a b) (request t len last) = same_up m []
  handle_up f m follower (vote t g) = same_up m []
  handle_up f m (candidate v) (vote t g) = pick_both (Ups m) g (poll c j m (upd v f true) []) (outcome m []) (λ _. poll_up m (upd v f true) []) (λ _. same_up m [])
  handle_up f m (leader a b) (vote t g) = same_up m []
  handle_up f m follower (ack t i) = same_up m []
  handle_up f m (candidate v) (ack t i) = same_up m []
  handle_up f m (leader a b) (ack t i) = ack_up f m i a b
  handle_up f m follower (reject t p h) = same_up m []
  handle_up f m (candidate v) (reject t p h) = same_up m []
  handle_up f m (leader a b) (reject t p h) = reject_up f m p h a b
  handle_up f m follower (here t) = same_up m []
  handle_up f m (candidate v) (here t) = same_up m []
  handle_up f m (leader a b) (here t) = same_up m []

  higher_up : (f : ℕ) (m : Machine ℕ) (l : Letter ℕ) → m.term < of_term l → Ups m (handle_higher c j f m l)
  higher_up f m l b =
      let m1 = (enter_higher c j m (of_term l)).now in
      let r = enter_up m (of_term l) (out (owner c.size (of_term l)) (here (of_term l)) ∷ []) in
      let s = handle_up f m1 m1.role l in
      record { commit = omega (arith, r.commit, s.commit); term = omega (arith, r.term, s.term) }

  letter_up : (f : ℕ) (m : Machine ℕ) (l : Letter ℕ) → Ups m (on_letter c j f m l)
  unfolding on_letter
  letter_up f m l =
      pick_both (Ups m) (ltb m.term (of_term l)) (handle_higher c j f m l) (pick (ltb (of_term l) m.term) (outcome m (handle_old f m l)) (handle c j f m l))
      (λ e. higher_up f m l (ltb-true m.term (of_term l) e))
      (λ _. pick_both (Ups m) (ltb (of_term l) m.term) (outcome m (handle_old f m l)) (handle c j f m l) (λ _. same_up m _) (λ _. handle_up f m m.role l))

  propose_up : (m : Machine ℕ) (p : ℕ) (r : Role) → Ups m (propose_as c j m p r)
  propose_up m p follower = same_up m []
  propose_up m p (candidate v) = same_up m []
  propose_up m p (leader a b) = record { commit = maybe_commit_up c m.term _ _ m.commit; term = omega arith }

  proposal_up : (m : Machine ℕ) (p : ℕ) → Ups m (on_proposal c j m p)
  unfolding on_proposal append_proposal
  proposal_up m p = pick_both (Ups m) (ltb (length (decisions m.log)) c.room) (append_proposal c j m p) (outcome m []) (λ _. propose_up m p m.role) (λ _. same_up m [])

  pub step_up : (m : Machine ℕ) (e : Input ℕ) → Ups m (step c j m e)
  unfolding on_tick
  step_up m (event tick) = tick_up m m.role
  step_up m (event (receive f l)) = letter_up f m l
  step_up m (proposal p) = proposal_up m p

pub commit_rises : CommitRises
commit_rises c j m e = (step_up c j m e).commit

pub terms_rise : TermsRise
terms_rise c j m e = (step_up c j m e).term
