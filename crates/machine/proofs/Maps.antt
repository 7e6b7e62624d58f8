-- A machine with mapped contents does the mapped thing. Assumes nothing.
use Rattle.std.proofs.Common.{◌≡◌, ℕ, zero, suc, pred, ◌+◌, min, max, Bool, true, not, ◌&&◌, ◌||◌, eqb, ltb, leb, List, [], ◌∷◌, ◌++◌, map, length, take, drop, sym, refl, ap, ◌∙◌}
use mathlib.Core.Option.{some}
use Rattle.std.proofs.lemmas.List.{length-map, map-append, take-map, drop-map}
use Rattle.protocol.specs.Lists.{pick, upd}
use Rattle.protocol.specs.Log.{entry, Log, term_before, renew, merge, decisions}
use Rattle.machine.specs.Machine.{Conf, Machine, machine, Role, follower, candidate, leader, Letter, append, request, vote, ack, reject, here, of_term, Out, out, Outcome, outcome, tick, receive, Input, event, proposal, decided}
use Rattle.machine.specs.Step.{owner, is_majority, is_up_to_date, to_others, broadcast, request_of, append_at, majority_index, maybe_commit, leading, renewed, new_leader, become_leader, as_candidate, poll, as_follower, enter, ticked, reminder, tick_election, tick_as, on_tick, prev_matches, hint, handle_append, matched, next_after, handle_ack, next_below, handle_reject, handle_as, handle, handle_old, or_else, enter_higher, handle_higher, on_letter, extended, proposed, propose_as, append_proposal, on_proposal, step}
use Rattle.machine.specs.Maps.{map_entry, map_log, map_machine, map_letter, map_out, map_outcome, map_input, StepNatural, DecidedNatural, StopNatural}
use Rattle.machine.proofs.MapLogs.{map_pick, log_length, term_before_map, last_term_map, renew_map, merge_map, decisions_map}

module _ {A B : Type 0} (f : A → B) where
  -- letters
  of_term_map : (l : Letter A) → of_term (map_letter f l) ≡ of_term l
  of_term_map (append t p q k es) = refl
  of_term_map (request t len last) = refl
  of_term_map (vote t b) = refl
  of_term_map (ack t i) = refl
  of_term_map (reject t p h) = refl
  of_term_map (here t) = refl

  others_map : (id : ℕ) (g : ℕ → Letter A) (h : ℕ → Letter B) → ((j : ℕ) → h j ≡ map_letter f (g j)) → (k : ℕ) → to_others id h k ≡ map (map_out f) (to_others id g k)
  unfolding to_others
  others_map id g h e zero = refl
  others_map id g h e (suc k) =
      let r = others_map id g h e k in
      let one : pick (eqb k id) [] (out k (h k) ∷ []) ≡ map (map_out f) (pick (eqb k id) [] (out k (g k) ∷ [])) =
      ap (λ (l : Letter B). pick (eqb k id) [] (out k l ∷ [])) (e k) ∙ sym (map_pick (map (map_out f)) (eqb k id) [] (out k (g k) ∷ [])) in
      (λ i. r i ++ one i) ∙ sym (map-append (map_out f) (to_others id g k) (pick (eqb k id) [] (out k (g k) ∷ [])))

  request_map : (m : Machine A) → request_of (map_machine f m) ≡ map_letter f (request_of m)
  request_map m = let len = log_length f m.log in let last = last_term_map f m.log in λ i. request m.term (len i) (last i)

  append_map : (c : Conf) (m : Machine A) (nx : ℕ) → append_at c (map_machine f m) nx ≡ map_letter f (append_at c m nx)
  append_map c m nx =
      let prev = term_before_map f m.log (pred nx) in
      let es : take c.batch (drop (pred nx) (map_log f m.log)) ≡ map_log f (take c.batch (drop (pred nx) m.log)) =
      ap (take c.batch) (drop-map (map_entry f) (pred nx) m.log) ∙ take-map (map_entry f) c.batch (drop (pred nx) m.log) in
      λ i. append m.term (pred nx) (prev i) m.commit (es i)

  requests_map : (c : Conf) (id : ℕ) (m : Machine A) → broadcast c id (λ _. request_of (map_machine f m)) ≡ map (map_out f) (broadcast c id (λ _. request_of m))
  requests_map c id m = others_map id (λ _. request_of m) (λ _. request_of (map_machine f m)) (λ _. request_map m) c.size

  -- what is sent by a machine m' that is the mapped m
  appends_map : (c : Conf) (id : ℕ) (m : Machine A) (m' : Machine B) → m' ≡ map_machine f m → (nx nx' : ℕ → ℕ) → ((j : ℕ) → nx' j ≡ nx j) →
      broadcast c id (λ j. append_at c m' (nx' j)) ≡ map (map_out f) (broadcast c id (λ j. append_at c m (nx j)))
  appends_map c id m m' e nx nx' same =
      others_map id (λ j. append_at c m (nx j)) (λ j. append_at c m' (nx' j))
      (λ j. ap (λ (x : Machine B). append_at c x (nx' j)) e ∙ ap (append_at c (map_machine f m)) (same j) ∙ append_map c m (nx j)) c.size

  -- leaders
  commit_map : (c : Conf) (t : ℕ) (l : Log A) (a : ℕ → ℕ) (k : ℕ) → maybe_commit c t (map_log f l) a k ≡ maybe_commit c t l a k
  unfolding maybe_commit
  commit_map c t l a k =
      let x : majority_index c a (length (map_log f l)) ≡ majority_index c a (length l) = ap (majority_index c a) (log_length f l) in
      let q : term_before (map_log f l) (majority_index c a (length (map_log f l))) ≡ term_before l (majority_index c a (length l)) =
      ap (term_before (map_log f l)) x ∙ term_before_map f l (majority_index c a (length l)) in
      λ i. pick (ltb k (x i) && eqb (q i) t) (x i) k

  leading_map : (c : Conf) (m : Machine A) (a b : ℕ → ℕ) → leading c (map_machine f m) a b ≡ map_machine f (leading c m a b)
  leading_map c m a b = let k = commit_map c m.term m.log a m.commit in λ i. machine m.term (leader a b) m.heard m.elapsed (map_log f m.log) (k i)

  new_leader_map : (c : Conf) (id : ℕ) (m : Machine A) → new_leader c id (map_machine f m) ≡ map_machine f (new_leader c id m)
  new_leader_map c id m =
      let r = renew_map f m.term m.log in
      let len : length (renew m.term (map_log f m.log)) ≡ length (renew m.term m.log) = ap length r ∙ log_length f (renew m.term m.log) in
      let one : new_leader c id (map_machine f m)
      ≡ leading c (map_machine f (renewed m)) (upd (λ _. 0) id (length (renew m.term m.log))) (λ _. length (renew m.term m.log)) =
      λ i. leading c (machine m.term m.role m.heard m.elapsed (r i) m.commit) (upd (λ _. 0) id (len i)) (λ _. len i) in
      one ∙ leading_map c (renewed m) (upd (λ _. 0) id (length (renew m.term m.log))) (λ _. length (renew m.term m.log))

  become_leader_map : (c : Conf) (id : ℕ) (m : Machine A) → become_leader c id (map_machine f m) ≡ map_outcome f (become_leader c id m)
  unfolding become_leader
  become_leader_map c id m =
      let now = new_leader_map c id m in
      let len : length (new_leader c id (map_machine f m)).log ≡ length (new_leader c id m).log =
      ap (λ (x : Machine B). length x.log) now ∙ log_length f (new_leader c id m).log in
      let sent = appends_map c id (new_leader c id m) (new_leader c id (map_machine f m)) now (λ _. length (new_leader c id m).log) (λ _. length (new_leader c id (map_machine f m)).log) (λ _. len) in
      λ i. outcome (now i) (sent i)

  -- terms and votes
  poll_map : (c : Conf) (id : ℕ) (m : Machine A) (v : ℕ → Bool) (o : List (Out A)) (o' : List (Out B)) → o' ≡ map (map_out f) o → poll c id (map_machine f m) v o' ≡ map_outcome f (poll c id m v o)
  unfolding poll
  poll_map c id m v o o' e =
      let won = become_leader_map c id m in
      (λ i. pick (is_majority c v && ltb (m.elapsed + 2) c.wait) (won i) (outcome (as_candidate (map_machine f m) v) (e i)))
      ∙ sym (map_pick (map_outcome f) (is_majority c v && ltb (m.elapsed + 2) c.wait) (become_leader c id m) (outcome (as_candidate m v) o))

  enter_map : (c : Conf) (id : ℕ) (m : Machine A) (t : ℕ) (o : List (Out A)) (o' : List (Out B)) → o' ≡ map (map_out f) o → enter c id (map_machine f m) t o' ≡ map_outcome f (enter c id m t o)
  unfolding enter
  enter_map c id m t o o' e =
      let own = poll_map c id (as_follower m t) (λ j. eqb j id) (broadcast c id (λ _. request_of (as_follower m t))) (broadcast c id (λ _. request_of (as_follower (map_machine f m) t)))
      (requests_map c id (as_follower m t)) in
      (λ i. pick (eqb (owner c t) id) (own i) (outcome (as_follower (map_machine f m) t) (e i)))
      ∙ sym (map_pick (map_outcome f) (eqb (owner c t) id) (poll c id (as_follower m t) (λ j. eqb j id) (broadcast c id (λ _. request_of (as_follower m t)))) (outcome (as_follower m t) o))

  reminder_map : (c : Conf) (id : ℕ) (m : Machine A) (r : Role) → reminder c id (map_machine f m) r ≡ map (map_out f) (reminder c id m r)
  reminder_map c id m follower =
      let rest : List (Out A) = pick (eqb (owner c m.term) id) [] (out (owner c m.term) (here m.term) ∷ []) in
      let inner : pick (eqb (owner c m.term) id) [] (out (owner c m.term) (here m.term) ∷ []) ≡ map (map_out f) rest =
      sym (map_pick (map (map_out f)) (eqb (owner c m.term) id) [] (out (owner c m.term) (here m.term) ∷ [])) in
      ap (pick m.heard []) inner ∙ sym (map_pick (map (map_out f)) m.heard [] rest)
  reminder_map c id m (candidate v) = requests_map c id m
  reminder_map c id m (leader a b) = refl

  election_map : (c : Conf) (id : ℕ) (m : Machine A) → tick_election c id (map_machine f m) ≡ map_outcome f (tick_election c id m)
  election_map c id m =
      let o : List (Out A) = broadcast c id (λ _. here (suc m.term)) in
      let o' : List (Out B) = broadcast c id (λ _. here (suc m.term)) in
      let up = enter_map c id m (suc m.term) o o' (others_map id (λ _. here (suc m.term)) (λ _. here (suc m.term)) (λ _. refl) c.size) in
      let rem = reminder_map c id m m.role in
      (λ i. pick (ltb (suc m.elapsed) c.wait) (outcome (ticked (map_machine f m)) (rem i)) (up i))
      ∙ sym (map_pick (map_outcome f) (ltb (suc m.elapsed) c.wait) (outcome (ticked m) (reminder c id m m.role)) (enter c id m (suc m.term) o))

  tick_map : (c : Conf) (id : ℕ) (m : Machine A) (r : Role) → tick_as c id (map_machine f m) r ≡ map_outcome f (tick_as c id m r)
  tick_map c id m follower = election_map c id m
  tick_map c id m (candidate v) = election_map c id m
  tick_map c id m (leader a b) = ap (outcome (map_machine f m)) (appends_map c id m (map_machine f m) refl b b (λ _. refl))

  -- letters of the own term
  handle_append_map : (c : Conf) (j : ℕ) (m : Machine A) (p q k : ℕ) (es : Log A) →
      handle_append c j (map_machine f m) p q k (map_log f es) ≡ map_outcome f (handle_append c j m p q k es)
  unfolding handle_append
  handle_append_map c j m p q k es =
      let len = log_length f m.log in
      let prev = term_before_map f m.log p in
      let l = merge_map f m.log p es in
      let n = log_length f es in
      let h : hint c (map_log f m.log) p q ≡ hint c m.log p q = λ i. c.hint (len i) (λ k. term_before_map f m.log k i) p q in
      (λ i. pick (leb p (len i) && eqb (prev i) q)
      (outcome (machine m.term follower true 0 (l i) (max m.commit (min k (p + n i)))) (out j (ack m.term (p + n i)) ∷ []))
      (outcome (machine m.term follower true 0 (map_log f m.log) m.commit) (out j (reject m.term p (h i)) ∷ [])))
      ∙ sym (map_pick (map_outcome f) (prev_matches m.log p q)
      (outcome (machine m.term follower true 0 (merge m.log p es) (max m.commit (min k (p + length es)))) (out j (ack m.term (p + length es)) ∷ []))
      (outcome (machine m.term follower true 0 m.log m.commit) (out j (reject m.term p (hint c m.log p q)) ∷ [])))

  handle_ack_map : (c : Conf) (id j : ℕ) (m : Machine A) (k : ℕ) (a b : ℕ → ℕ) → handle_ack c id j (map_machine f m) k a b ≡ map_outcome f (handle_ack c id j m k a b)
  unfolding handle_ack
  handle_ack_map c id j m k a b =
      let a' : ℕ → ℕ = matched a j k in
      let b' : ℕ → ℕ = upd b j (next_after a b j k) in
      let len = log_length f m.log in
      let now = leading_map c m a' b' in
      let raise = commit_map c m.term m.log a' m.commit in
      let all = appends_map c id (leading c m a' b') (leading c (map_machine f m) a' b') now b' b' (λ _. refl) in
      let one = append_map c m (next_after a b j k) in
      let alls : List (Out A) = broadcast c id (λ x. append_at c (leading c m a' b') (b' x)) in
      let ones : List (Out A) = pick (leb (next_after a b j k) (length m.log)) (out j (append_at c m (next_after a b j k)) ∷ []) [] in
      let first : pick (leb (next_after a b j k) (length (map_log f m.log))) (out j (append_at c (map_machine f m) (next_after a b j k)) ∷ []) [] ≡ map (map_out f) ones =
      (λ i. pick (leb (next_after a b j k) (len i)) (out j (one i) ∷ []) [])
      ∙ sym (map_pick (map (map_out f)) (leb (next_after a b j k) (length m.log)) (out j (append_at c m (next_after a b j k)) ∷ []) []) in
      let sent : pick (ltb m.commit (maybe_commit c m.term (map_log f m.log) a' m.commit)) (broadcast c id (λ x. append_at c (leading c (map_machine f m) a' b') (b' x)))
      (pick (leb (next_after a b j k) (length (map_log f m.log))) (out j (append_at c (map_machine f m) (next_after a b j k)) ∷ []) [])
      ≡ map (map_out f) (pick (ltb m.commit (maybe_commit c m.term m.log a' m.commit)) alls ones) =
      (λ i. pick (ltb m.commit (raise i)) (all i) (first i))
      ∙ sym (map_pick (map (map_out f)) (ltb m.commit (maybe_commit c m.term m.log a' m.commit)) alls ones) in
      (λ i. pick (leb k (len i)) (outcome (now i) (sent i)) (outcome (map_machine f m) []))
      ∙ sym (map_pick (map_outcome f) (leb k (length m.log))
      (outcome (leading c m a' b') (pick (ltb m.commit (maybe_commit c m.term m.log a' m.commit)) alls ones)) (outcome m []))

  handle_reject_map : (c : Conf) (j : ℕ) (m : Machine A) (p h : ℕ) (a b : ℕ → ℕ) → handle_reject c j (map_machine f m) p h a b ≡ map_outcome f (handle_reject c j m p h a b)
  unfolding handle_reject
  handle_reject_map c j m p h a b =
      let one = append_map c m (next_below a j p h) in
      let r : Role = leader a (upd b j (next_below a j p h)) in
      (λ i. pick (eqb (suc p) (b j) && ltb (a j) p) (outcome (machine m.term r m.heard m.elapsed (map_log f m.log) m.commit) (out j (one i) ∷ [])) (outcome (map_machine f m) []))
      ∙ sym (map_pick (map_outcome f) (eqb (suc p) (b j) && ltb (a j) p)
      (outcome (machine m.term r m.heard m.elapsed m.log m.commit) (out j (append_at c m (next_below a j p h)) ∷ [])) (outcome m []))

  up_to_date_map : (len last : ℕ) (l : Log A) → is_up_to_date len last (map_log f l) ≡ is_up_to_date len last l
  unfolding is_up_to_date
  up_to_date_map len last l = let e = last_term_map f l in let n = log_length f l in λ i. ltb (e i) last || (eqb (e i) last && leb (n i) len)

  handle_as_map : (c : Conf) (id j : ℕ) (m : Machine A) (r : Role) (l : Letter A) → handle_as c id j (map_machine f m) r (map_letter f l) ≡ map_outcome f (handle_as c id j m r l)
  handle_as_map c id j m follower (append t p q k es) = handle_append_map c j m p q k es
  handle_as_map c id j m (candidate v) (append t p q k es) = refl
  handle_as_map c id j m (leader a b) (append t p q k es) = refl
  handle_as_map c id j m follower (request t len last) =
      ap (λ (b : Bool). outcome (map_machine f m) (out j (vote m.term (b && not m.heard)) ∷ [])) (up_to_date_map len last m.log)
  handle_as_map c id j m (candidate v) (request t len last) = refl
  handle_as_map c id j m (leader a b) (request t len last) = refl
  handle_as_map c id j m follower (vote t g) = refl
  handle_as_map c id j m (candidate v) (vote t g) =
      ap (λ (x : Outcome B). pick g x (outcome (map_machine f m) [])) (poll_map c id m (upd v j true) [] [] refl) ∙ sym (map_pick (map_outcome f) g (poll c id m (upd v j true) []) (outcome m []))
  handle_as_map c id j m (leader a b) (vote t g) = refl
  handle_as_map c id j m follower (ack t i) = refl
  handle_as_map c id j m (candidate v) (ack t i) = refl
  handle_as_map c id j m (leader a b) (ack t i) = handle_ack_map c id j m i a b
  handle_as_map c id j m follower (reject t p h) = refl
  handle_as_map c id j m (candidate v) (reject t p h) = refl
  handle_as_map c id j m (leader a b) (reject t p h) = handle_reject_map c j m p h a b
  handle_as_map c id j m follower (here t) = refl
  handle_as_map c id j m (candidate v) (here t) = refl
  handle_as_map c id j m (leader a b) (here t) = refl

  handle_map : (c : Conf) (id j : ℕ) (m : Machine A) (l : Letter A) → handle c id j (map_machine f m) (map_letter f l) ≡ map_outcome f (handle c id j m l)
  handle_map c id j m l = handle_as_map c id j m m.role l

  -- letters of any term
  old_map : (j : ℕ) (m : Machine A) (l : Letter A) → handle_old j (map_machine f m) (map_letter f l) ≡ map (map_out f) (handle_old j m l)
  old_map j m (append t p q k es) = refl
  old_map j m (request t len last) = refl
  old_map j m (vote t b) = refl
  old_map j m (ack t i) = refl
  old_map j m (reject t p h) = refl
  old_map j m (here t) = refl

  else_map : (xs ys : List (Out A)) → or_else (map (map_out f) xs) (map (map_out f) ys) ≡ map (map_out f) (or_else xs ys)
  else_map [] ys = refl
  else_map (x ∷ xs) ys = refl

  higher_at : (c : Conf) (id j : ℕ) (m : Machine A) (l : Letter A) (t : ℕ) →
      outcome (handle c id j (enter_higher c id (map_machine f m) t).now (map_letter f l)).now
      (or_else (handle c id j (enter_higher c id (map_machine f m) t).now (map_letter f l)).sent (enter_higher c id (map_machine f m) t).sent)
      ≡ map_outcome f (outcome (handle c id j (enter_higher c id m t).now l).now (or_else (handle c id j (enter_higher c id m t).now l).sent (enter_higher c id m t).sent))
  higher_at c id j m l t =
      let e : enter_higher c id (map_machine f m) t ≡ map_outcome f (enter_higher c id m t) = enter_map c id m t (out (owner c t) (here t) ∷ []) (out (owner c t) (here t) ∷ []) refl in
      let h : handle c id j (enter_higher c id (map_machine f m) t).now (map_letter f l) ≡ map_outcome f (handle c id j (enter_higher c id m t).now l) =
      ap (λ (x : Outcome B). handle c id j x.now (map_letter f l)) e ∙ handle_map c id j (enter_higher c id m t).now l in
      (λ i. outcome (h i).now (or_else (h i).sent (e i).sent))
      ∙ ap (outcome (map_machine f (handle c id j (enter_higher c id m t).now l).now)) (else_map (handle c id j (enter_higher c id m t).now l).sent (enter_higher c id m t).sent)

  higher_map : (c : Conf) (id j : ℕ) (m : Machine A) (l : Letter A) → handle_higher c id j (map_machine f m) (map_letter f l) ≡ map_outcome f (handle_higher c id j m l)
  higher_map c id j m l =
      ap (λ (t : ℕ). outcome (handle c id j (enter_higher c id (map_machine f m) t).now (map_letter f l)).now
      (or_else (handle c id j (enter_higher c id (map_machine f m) t).now (map_letter f l)).sent (enter_higher c id (map_machine f m) t).sent)) (of_term_map l)
      ∙ higher_at c id j m l (of_term l)

  letter_map : (c : Conf) (id j : ℕ) (m : Machine A) (l : Letter A) → on_letter c id j (map_machine f m) (map_letter f l) ≡ map_outcome f (on_letter c id j m l)
  unfolding on_letter
  letter_map c id j m l =
      let t = of_term_map l in
      let up = higher_map c id j m l in
      let old = old_map j m l in
      let own = handle_map c id j m l in
      let inner : pick (ltb (of_term (map_letter f l)) m.term) (outcome (map_machine f m) (handle_old j (map_machine f m) (map_letter f l))) (handle c id j (map_machine f m) (map_letter f l))
      ≡ map_outcome f (pick (ltb (of_term l) m.term) (outcome m (handle_old j m l)) (handle c id j m l)) =
      (λ i. pick (ltb (t i) m.term) (outcome (map_machine f m) (old i)) (own i))
      ∙ sym (map_pick (map_outcome f) (ltb (of_term l) m.term) (outcome m (handle_old j m l)) (handle c id j m l)) in
      (λ i. pick (ltb m.term (t i)) (up i) (inner i))
      ∙ sym (map_pick (map_outcome f) (ltb m.term (of_term l)) (handle_higher c id j m l) (pick (ltb (of_term l) m.term) (outcome m (handle_old j m l)) (handle c id j m l)))

  -- proposals
  proposed_map : (c : Conf) (id : ℕ) (m : Machine A) (v : A) (a b : ℕ → ℕ) → proposed c id (map_machine f m) (f v) a b ≡ map_machine f (proposed c id m v a b)
  proposed_map c id m v a b =
      let l : map_log f m.log ++ entry m.term (some (f v)) ∷ [] ≡ map_log f (m.log ++ entry m.term (some v) ∷ []) = sym (map-append (map_entry f) m.log (entry m.term (some v) ∷ [])) in
      let len : length (map_log f m.log ++ entry m.term (some (f v)) ∷ []) ≡ length (m.log ++ entry m.term (some v) ∷ []) =
      ap length l ∙ log_length f (m.log ++ entry m.term (some v) ∷ []) in
      let one : proposed c id (map_machine f m) (f v) a b ≡ leading c (map_machine f (extended m v)) (upd a id (length (extended m v).log)) b =
      λ i. leading c (machine m.term m.role m.heard m.elapsed (l i) m.commit) (upd a id (len i)) b in
      one ∙ leading_map c (extended m v) (upd a id (length (extended m v).log)) b

  propose_map : (c : Conf) (id : ℕ) (m : Machine A) (v : A) (r : Role) → propose_as c id (map_machine f m) (f v) r ≡ map_outcome f (propose_as c id m v r)
  propose_map c id m v follower = refl
  propose_map c id m v (candidate w) = refl
  propose_map c id m v (leader a b) =
      let now = proposed_map c id m v a b in
      let sent = appends_map c id (proposed c id m v a b) (proposed c id (map_machine f m) (f v) a b) now b b (λ _. refl) in
      λ i. outcome (now i) (sent i)

  proposal_map : (c : Conf) (id : ℕ) (m : Machine A) (v : A) → on_proposal c id (map_machine f m) (f v) ≡ map_outcome f (on_proposal c id m v)
  unfolding on_proposal append_proposal
  proposal_map c id m v =
      let n : length (decisions (map_log f m.log)) ≡ length (decisions m.log) = ap length (decisions_map f m.log) ∙ length-map (decisions m.log) f in
      let p = propose_map c id m v m.role in
      (λ i. pick (ltb (n i) c.room) (p i) (outcome (map_machine f m) []))
      ∙ sym (map_pick (map_outcome f) (ltb (length (decisions m.log)) c.room) (append_proposal c id m v) (outcome m []))

  pub step_map : (c : Conf) (id : ℕ) (m : Machine A) (i : Input A) → step c id (map_machine f m) (map_input f i) ≡ map_outcome f (step c id m i)
  unfolding on_tick
  step_map c id m (event tick) = tick_map c id m m.role
  step_map c id m (event (receive j l)) = letter_map c id j m l
  step_map c id m (proposal v) = proposal_map c id m v

  pub decided_map : (m : Machine A) → decided (map_machine f m) ≡ map f (decided m)
  unfolding decided
  decided_map m = ap decisions (take-map (map_entry f) m.commit m.log) ∙ decisions_map f (take m.commit m.log)

pub step_natural : (A B : Type 0) → StepNatural A B
step_natural A B f c id m i = step_map f c id m i

pub decided_natural : (A B : Type 0) → DecidedNatural A B
decided_natural A B f m = decided_map f m

pub stop_natural : (A B : Type 0) → StopNatural A B
stop_natural A B = record { leaves = λ f m. refl; makes = λ f k. refl }
