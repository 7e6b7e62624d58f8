-- Letters and proposals: all that a machine does is made of permitted moves. Assumes nothing.
use Rattle.std.proofs.Common.{◌≡◌, ℕ, suc, ◌+◌, ◌<◌, ◌≤◌, min, max, Bool, true, false, eqb, ltb, List, [], ◌∷◌, ◌++◌, length, sym, refl, ap, ◌∙◌, subst, inl, inr, arith}
use mathlib.Core.Option.{some}
use Rattle.std.proofs.lemmas.Bool.{and_parts, ltb-true, ltb-false, leb-true, eqb-true}
use Rattle.protocol.specs.Lists.{upd, All}
use Rattle.protocol.specs.Log.{entry, Log, term_before, merge, decisions}
use Rattle.protocol.specs.History.{owner, extended as extended_lead, after_propose, after_ack}
use Rattle.protocol.specs.State.{State, state, Sound, AcceptOk}
use Rattle.protocol.specs.Cluster.{Cluster, Safe, accept, propose}
use Rattle.protocol.specs.Letters.{TrueCommit, TrueAppend, TrueRequest, TrueVote, TrueAck}
use Rattle.protocol.proofs.Updates.{pick_both, upd_cases, upd_same, upd2_at}
use Rattle.protocol.proofs.Lists.{all_map}
use Rattle.protocol.proofs.Logs.{push_length}
use Rattle.protocol.proofs.Commits.{known_grows, known_commit, true_commit_grows}
use Rattle.protocol.proofs.Letters.{append_accept_ok, append_commit_known, ack_says}
use Rattle.protocol.proofs.Rows.{Row, row_trans, row_safe, row_grows, SettledAt, settled_acked, accept_row, accept_at, propose_row, propose_at}
use Rattle.machine.specs.Machine.{Conf, Machine, machine, Role, follower, candidate, leader, Letter, append, request, vote, ack, reject, here, of_term, Out, out, Outcome, outcome, tick, receive, event, proposal}
use Rattle.machine.specs.Step.{broadcast, request_of, become_leader, poll, as_follower, enter, hint, handle_append, handle_as, handle, handle_old, or_else, enter_higher, handle_higher, on_letter, extended, proposed, propose_as, append_proposal, on_proposal, step}
use Rattle.machine.specs.Fits.{TrueLetter, TrueOut, LeaderFits, RoleFits, state_of, Fits}
use Rattle.machine.proofs.Small.{propose_small}
use Rattle.machine.proofs.Fits.{true_letter_grows, fits_at}
use Rattle.machine.proofs.Leaders.{Result, quiet, result_safe, leading_commit, leading_fits, appends_to_all, ack_ok, reject_ok}
use Rattle.machine.proofs.Elections.{enter_ok, tick_ok, request_ok, vote_ok}

-- entries come
module _ (c : Conf) (x : Cluster) (f j k : ℕ) (sf : Safe c.size x) (nums : x.history.next ≤ k) (m : Machine ℕ) (d : Fits c.size x j m) (p q kk : ℕ) (es : Log ℕ)
    (s : TrueAppend c.size x.history m.term p q kk es) where
  module _ (low : p ≤ length m.log) (prev : term_before m.log p ≡ q) where
    ok : AcceptOk x.history m.term m.log p es
    ok = append_accept_ok c.size x.history m.term m.log p q kk es s low prev

    sound : Sound c.size x.history j (state_of m)
    sound = subst (λ (r : State). Sound c.size x.history j r) d.now (sf.now_sound j)

    takes : Result c x j k (outcome (machine m.term follower true 0 (merge m.log p es) (max m.commit (min kk (p + length es)))) (out f (ack m.term (p + length es)) ∷ []))
    takes =
        let at = fits_at c.size x j m d in
        let y = settled_acked x j (accept m.term p es) m.term (p + length es) in
        let row = accept_row c.size x j m.term m.log at sf p es ok in
        let there = accept_at c.size x j m.term m.log at sf p es ok in
        record {
          to = y;
          row = row;
          small = λ r. r;
          fits = record {
            now = there.now;
            stable = there.stable;
            commit = known_grows c.size x.history y.history (row_grows c.size j x y sf row) m.term m.term (max m.commit (min kk (p + length es))) (merge m.log p es)
                (omega arith) (append_commit_known c.size x.history sf.inv sf.elections j (state_of m) sound p q kk es s ok m.commit d.commit);
            role = tt;
          };
          sent = (ack_says x.history j m.term (p + length es), tt);
          numbers = nums;
        }

  append_ok : Result c x j k (handle_append c f m p q kk es)
  unfolding handle_append
  append_ok =
      pick_both (Result c x j k) _ _ _
      (λ e.
      let r = and_parts _ _ e in
      takes (leb-true _ _ r.0) (eqb-true _ _ r.1))
      (λ _. quiet c x j k (machine m.term follower true 0 m.log m.commit) (out f (reject m.term p (hint c m.log p q)) ∷ []) nums
      (record { now = d.now; stable = d.stable; commit = d.commit; role = tt }) (tt, tt))

-- a letter of the own term
module _ (c : Conf) (x : Cluster) (f j k : ℕ) (sf : Safe c.size x) (nums : x.history.next ≤ k) (m : Machine ℕ) (d : Fits c.size x j m) where
  no_move : Result c x j k (outcome m [])
  no_move = quiet c x j k m [] nums d tt

  handle_ok : (r : Role) (l : Letter ℕ) → RoleFits c.size x.history j m.term m.log r → of_term l ≡ m.term → TrueLetter c.size x.history f j l →
      Result c x j k (handle_as c j f m r l)
  handle_ok follower (append t p q kk es) s e y = append_ok c x f j k sf nums m d p q kk es (subst (λ (u : ℕ). TrueAppend c.size x.history u p q kk es) e y)
  handle_ok (candidate v) (append t p q kk es) s e y = no_move
  handle_ok (leader a b) (append t p q kk es) s e y = no_move
  handle_ok follower (request t len last) s e y = request_ok c x j k sf nums m d f len last (subst (λ (u : ℕ). owner c.size u ≡ f) e y.0) (subst (λ (u : ℕ). TrueRequest x.history u len last) e y.1)
  handle_ok (candidate v) (request t len last) s e y = no_move
  handle_ok (leader a b) (request t len last) s e y = no_move
  handle_ok follower (vote t g) s e y = no_move
  handle_ok (candidate v) (vote t true) s e y = vote_ok c x j k sf nums m d f v s (subst (λ (u : ℕ). TrueVote x.history f u true) e y.1)
  handle_ok (candidate v) (vote t false) s e y = no_move
  handle_ok (leader a b) (vote t g) s e y = no_move
  handle_ok follower (ack t i) s e y = no_move
  handle_ok (candidate v) (ack t i) s e y = no_move
  handle_ok (leader a b) (ack t i) s e y = ack_ok c x f j k sf nums m d a b s i (subst (λ (u : ℕ). TrueAck x.history f u i) e y)
  handle_ok follower (reject t p h) s e y = no_move
  handle_ok (candidate v) (reject t p h) s e y = no_move
  handle_ok (leader a b) (reject t p h) s e y = reject_ok c x f j k sf nums m d a b s p h
  handle_ok follower (here t) s e y = no_move
  handle_ok (candidate v) (here t) s e y = no_move
  handle_ok (leader a b) (here t) s e y = no_move

  old_true : (l : Letter ℕ) → All (TrueOut c.size x.history j) (handle_old f m l)
  old_true (append t p q kk es) = (tt, tt)
  old_true (request t len last) = (tt, tt)
  old_true (vote t b) = tt
  old_true (ack t i) = tt
  old_true (reject t p h) = tt
  old_true (here t) = (tt, tt)

-- the term that one enters
poll_term : (c : Conf) (j : ℕ) (m : Machine ℕ) (v : ℕ → Bool) (o : List (Out ℕ)) → (poll c j m v o).now.term ≡ m.term
unfolding poll become_leader
poll_term c j m v o =
    pick_both (λ (y : Outcome ℕ). y.now.term ≡ m.term) _ _ _ (λ _. refl) (λ _. refl)

pub enter_term : (c : Conf) (j : ℕ) (m : Machine ℕ) (t : ℕ) (o : List (Out ℕ)) → (enter c j m t o).now.term ≡ t
unfolding enter
enter_term c j m t o =
    pick_both (λ (y : Outcome ℕ). y.now.term ≡ t) _ _ _ (λ _. poll_term c j (as_follower m t) (λ i. eqb i j) (broadcast c j (λ _. request_of (as_follower m t)))) (λ _. refl)

pub else_all : (P : Out ℕ → Type 0) (xs ys : List (Out ℕ)) → All P xs → All P ys → All P (or_else xs ys)
else_all P [] ys h k = k
else_all P (x ∷ xs) ys h k = h

-- a letter of any term
module _ (c : Conf) (x : Cluster) (f j k : ℕ) (sf : Safe c.size x) (nums : x.history.next ≤ k) (m : Machine ℕ) (d : Fits c.size x j m) (l : Letter ℕ)
    (y : TrueLetter c.size x.history f j l) where
  higher_ok : m.term < of_term l → Result c x j k (handle_higher c j f m l)
  higher_ok b =
      let o : List (Out ℕ) = out (owner c.size (of_term l)) (here (of_term l)) ∷ [] in
      let one = enter_ok c x j k sf nums m d (of_term l) b o (λ h. (tt, tt)) in
      let m1 = (enter_higher c j m (of_term l)).now in
      let z = one.to in
      let sz = result_safe c x j k (enter c j m (of_term l) o) sf one in
      let two = handle_ok c z f j k sz one.numbers m1 one.fits m1.role l one.fits.role (sym (enter_term c j m (of_term l) o))
      (true_letter_grows c.size x.history z.history (row_grows c.size j x z sf one.row) f j l y) in
      let gr = row_grows c.size j z two.to sz two.row in
      record {
        to = two.to;
        row = row_trans c.size j x z two.to one.row two.row;
        small = λ r. two.small (one.small r);
        fits = two.fits;
        sent = else_all (TrueOut c.size two.to.history j) (handle c j f m1 l).sent (enter_higher c j m (of_term l)).sent two.sent
            (all_map (TrueOut c.size z.history j) (TrueOut c.size two.to.history j) (λ q w. true_letter_grows c.size z.history two.to.history gr j q.to q.letter w)
            (enter_higher c j m (of_term l)).sent one.sent);
        numbers = two.numbers;
      }

  letter_ok : Result c x j k (on_letter c j f m l)
  unfolding on_letter
  letter_ok =
      pick_both (Result c x j k) _ _ _
      (λ e. higher_ok (ltb-true _ _ e))
      (λ e. pick_both (Result c x j k) (ltb (of_term l) m.term) _ _
      (λ _. quiet c x j k m (handle_old f m l) nums d (old_true c x f j k sf nums m d l))
      (λ h. handle_ok c x f j k sf nums m d m.role l d.role (omega (arith, ltb-false m.term (of_term l) e, ltb-false (of_term l) m.term h)) y))

-- a proposal
module _ (c : Conf) (x : Cluster) (j p : ℕ) (sf : Safe c.size x) (nums : x.history.next ≤ p) (m : Machine ℕ) (d : Fits c.size x j m) where
  module _ (a b : ℕ → ℕ) (s : LeaderFits c.size x.history j m.term m.log a b) (space : length (decisions m.log) < c.room) where
    new_log : m.log ++ entry m.term (some p) ∷ [] ≡ extended_lead x.history m.term p
    new_log = ap (λ (l : Log ℕ). l ++ entry m.term (some p) ∷ []) s.log_is

    new_leader_fits : LeaderFits c.size (after_ack (after_propose x.history m.term p) j m.term (length (extended_lead x.history m.term p))) j m.term
        (m.log ++ entry m.term (some p) ∷ []) (upd a j (length (m.log ++ entry m.term (some p) ∷ []))) b
    new_leader_fits =
        let len = length (extended_lead x.history m.term p) in
        record {
          own = s.own;
          led = s.led;
          log_is = new_log ∙ sym (upd_same x.history.lead m.term (extended_lead x.history m.term p));
          acks = λ i. elim (upd_cases a j (length (m.log ++ entry m.term (some p) ∷ [])) i) [
            | inl h ↦ omega (
              arith,
              h.1,
              ap length new_log,
              upd2_at x.history.acked m.term j (max (x.history.acked m.term j) (length (extended_lead x.history m.term p))) m.term i refl h.0,
            )
            | inr h ↦ omega (arith, h.1, s.acks i, (row_grows c.size j x _ sf row).more_acks m.term i)
          ];
          high = λ i. omega (arith, s.high i, push_length m.log (entry m.term (some p)));
        }
      where
        row : Row c.size j x (settled_acked x j (propose m.term p) m.term (length (extended_lead x.history m.term p)))
        row = propose_row c.size x j m.term m.log (fits_at c.size x j m d) p s.own s.log_is (record { leads = s.led; new = nums })

    leader_ok : Result c x j (suc p) (propose_as c j m p (leader a b))
    leader_ok =
        let at = fits_at c.size x j m d in
        let y = settled_acked x j (propose m.term p) m.term (length (extended_lead x.history m.term p)) in
        let row = propose_row c.size x j m.term m.log at p s.own s.log_is (record { leads = s.led; new = nums }) in
        let sy = row_safe c.size j x y sf row in
        let there : SettledAt y j (state m.term (m.log ++ entry m.term (some p) ∷ [])) =
        subst (λ (l : Log ℕ). SettledAt y j (state m.term l)) (sym new_log) (propose_at c.size x j m.term m.log at p) in
        let a' : ℕ → ℕ = upd a j (length (m.log ++ entry m.term (some p) ∷ [])) in
        let commit : TrueCommit c.size y.history m.term m.commit =
        true_commit_grows c.size x.history y.history (row_grows c.size j x y sf row) m.term m.term m.commit (omega arith)
        (known_commit c.size x.history m.term m.commit m.log d.commit) in
        record {
          to = y;
          row = row;
          small = propose_small c.room x.history m.term p (subst (λ (l : Log ℕ). length (decisions l) < c.room) s.log_is space);
          fits = leading_fits c y j sy (extended m p) a' b there new_leader_fits commit;
          sent = appends_to_all c y j sy (proposed c j m p a b) a' b there new_leader_fits (leading_commit c y j sy (extended m p) a' b there new_leader_fits commit) b new_leader_fits.high;
          numbers = omega arith;
        }

  propose_as_ok : length (decisions m.log) < c.room → (r : Role) → RoleFits c.size x.history j m.term m.log r → Result c x j (suc p) (propose_as c j m p r)
  propose_as_ok space follower s = quiet c x j (suc p) m [] (omega arith) d tt
  propose_as_ok space (candidate v) s = quiet c x j (suc p) m [] (omega arith) d tt
  propose_as_ok space (leader a b) s = leader_ok a b s space

  proposal_ok : Result c x j (suc p) (on_proposal c j m p)
  unfolding on_proposal append_proposal
  proposal_ok =
      pick_both (Result c x j (suc p)) _ _ _
      (λ e. propose_as_ok (ltb-true _ _ e) m.role d.role) (λ _. quiet c x j (suc p) m [] (omega arith) d tt)

-- all that can happen: an event, and a proposal with a new number
pub event_ok : (c : Conf) (x : Cluster) (j k : ℕ) → Safe c.size x → x.history.next ≤ k → (m : Machine ℕ) → Fits c.size x j m → Result c x j k (step c j m (event tick))
event_ok c x j k sf nums m d = tick_ok c x j k sf nums m d

pub receive_ok : (c : Conf) (x : Cluster) (j k : ℕ) → Safe c.size x → x.history.next ≤ k → (m : Machine ℕ) → Fits c.size x j m → (f : ℕ) (l : Letter ℕ) →
    TrueLetter c.size x.history f j l → Result c x j k (step c j m (event (receive f l)))
receive_ok c x j k sf nums m d f l y = letter_ok c x f j k sf nums m d l y

pub propose_ok : (c : Conf) (x : Cluster) (j p : ℕ) → Safe c.size x → x.history.next ≤ p → (m : Machine ℕ) → Fits c.size x j m → Result c x j (suc p) (step c j m (proposal p))
propose_ok c x j p sf nums m d = proposal_ok c x j p sf nums m d
