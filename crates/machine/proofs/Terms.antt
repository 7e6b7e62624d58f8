-- Terms grow slowly: with each item by one at most, wherever a term stands. Assumes nothing.
use Rattle.std.proofs.Common.{ℕ, suc, ◌+◌, ◌≤◌, Bool, true, false, ◌&&◌, eqb, ltb, leb, List, [], ◌∷◌, ◌++◌, length, take, arith}
use Rattle.protocol.specs.Lists.{pick, upd, All}
use Rattle.protocol.specs.Log.{Log, decisions}
use Rattle.protocol.specs.History.{owner}
use Rattle.protocol.proofs.Updates.{pick_both, upd_all}
use Rattle.protocol.proofs.Lists.{all_map, all_both, all_take, all_in}
use Rattle.machine.specs.Machine.{Conf, Machine, Role, follower, candidate, leader, Letter, append, request, vote, ack, reject, here, of_term, Out, out, Outcome, outcome, tick, receive, Input, event, proposal, restart}
use Rattle.machine.specs.Step.{is_majority, broadcast, request_of, append_at, maybe_commit, leading, become_leader, as_candidate, poll, as_follower, enter, ticked, reminder, tick_election, tick_as, on_tick, prev_matches, handle_append, matched, next_after, handle_ack, handle_reject, handle_as, handle, handle_old, enter_higher, handle_higher, on_letter, propose_as, append_proposal, on_proposal, step}
use Rattle.machine.specs.World.{Mail, mail, post, World, whole, early, late, Item, power, input, Possible, Allowed, settled, next, initial}
use Rattle.machine.proofs.Fits.{all_others}
use Rattle.machine.proofs.Handlers.{else_all}

-- no term is above k: of a machine, of what a stop leaves, of a letter
pub record TermsBelow (w : World) (k : ℕ) : Type 0 where
  pub memory : (j : ℕ) → (w.memory j).term ≤ k
  pub stable : (j : ℕ) → (w.stable j).term ≤ k
  pub network : All (λ m. of_term m.letter ≤ k) w.network

pub terms_initial : TermsBelow initial 0
unfolding initial
terms_initial = record { memory = λ j. omega arith; stable = λ j. omega arith; network = tt }

-- what comes of an event has no term above k
abbrev Low : ℕ → Out ℕ → Type 0
Low k o = of_term o.letter ≤ k

record Slow (k : ℕ) (d : Outcome ℕ) : Type 0 where
  term : d.now.term ≤ k
  sent : All (Low k) d.sent

module _ (c : Conf) (j k : ℕ) where
  low_to_all : (f : ℕ → Letter ℕ) → ((i : ℕ) → of_term (f i) ≤ k) → All (Low k) (broadcast c j f)
  low_to_all f h = all_others (Low k) j f h c.size

  same_slow : (m : Machine ℕ) (o : List (Out ℕ)) → m.term ≤ k → All (Low k) o → Slow k (outcome m o)
  same_slow m o b h = record { term = b; sent = h }

  -- elections
  leader_slow : (m : Machine ℕ) → m.term ≤ k → Slow k (become_leader c j m)
  unfolding become_leader
  leader_slow m b = record { term = b; sent = low_to_all _ (λ i. b) }

  poll_slow : (m : Machine ℕ) (v : ℕ → Bool) (o : List (Out ℕ)) → m.term ≤ k → All (Low k) o → Slow k (poll c j m v o)
  unfolding poll
  poll_slow m v o b h =
      pick_both (Slow k) (is_majority c v && ltb (m.elapsed + 2) c.wait) (become_leader c j m) (outcome (as_candidate m v) o)
      (λ _. leader_slow m b) (λ _. record { term = b; sent = h })

  enter_slow : (m : Machine ℕ) (t : ℕ) (o : List (Out ℕ)) → t ≤ k → All (Low k) o → Slow k (enter c j m t o)
  unfolding enter
  enter_slow m t o b h =
      pick_both (Slow k) (eqb (owner c.size t) j) (poll c j (as_follower m t) (λ i. eqb i j) (broadcast c j (λ _. request_of (as_follower m t)))) (outcome (as_follower m t) o)
      (λ _. poll_slow (as_follower m t) (λ i. eqb i j) _ b (low_to_all _ (λ i. b))) (λ _. record { term = b; sent = h })

  reminder_slow : (m : Machine ℕ) (r : Role) → m.term ≤ k → All (Low k) (reminder c j m r)
  reminder_slow m follower b =
      pick_both (All (Low k)) m.heard [] _ (λ _. tt)
      (λ _. pick_both (All (Low k)) (eqb (owner c.size m.term) j) [] (out (owner c.size m.term) (here m.term) ∷ []) (λ _. tt) (λ _. (b, tt)))
  reminder_slow m (candidate v) b = low_to_all _ (λ i. b)
  reminder_slow m (leader a n) b = tt

  -- at a tick, the next term may be entered
  election_slow : (m : Machine ℕ) → suc m.term ≤ k → Slow k (tick_election c j m)
  election_slow m b =
      let b' : m.term ≤ k = omega arith in
      pick_both (Slow k) (ltb (suc m.elapsed) c.wait) (outcome (ticked m) (reminder c j m m.role)) (enter c j m (suc m.term) (broadcast c j (λ _. here (suc m.term))))
      (λ _. record { term = b'; sent = reminder_slow m m.role b' }) (λ _. enter_slow m (suc m.term) _ b (low_to_all _ (λ i. b)))

  tick_slow : (m : Machine ℕ) (r : Role) → suc m.term ≤ k → Slow k (tick_as c j m r)
  tick_slow m follower b = election_slow m b
  tick_slow m (candidate v) b = election_slow m b
  tick_slow m (leader a n) b = let b' : m.term ≤ k = omega arith in record { term = b'; sent = low_to_all _ (λ i. b') }

  -- a letter of the own term
  append_slow : (f : ℕ) (m : Machine ℕ) (p q n : ℕ) (es : Log ℕ) → m.term ≤ k → Slow k (handle_append c f m p q n es)
  unfolding handle_append
  append_slow f m p q n es b = pick_both (Slow k) (prev_matches m.log p q) _ _ (λ _. record { term = b; sent = (b, tt) }) (λ _. record { term = b; sent = (b, tt) })

  -- all hear of a commit, or else one gets what it lacks
  ack_sent_slow : (g h : Bool) (f x : ℕ) (m m' : Machine ℕ) (n : ℕ → ℕ) → m.term ≤ k → m'.term ≤ k →
      All (Low k) (pick g (broadcast c j (λ i. append_at c m' (n i))) (pick h (out f (append_at c m x) ∷ []) []))
  ack_sent_slow g h f x m m' n b b' =
      pick_both (All (Low k)) g (broadcast c j (λ i. append_at c m' (n i))) (pick h (out f (append_at c m x) ∷ []) []) (λ _. low_to_all _ (λ i. b'))
      (λ _. pick_both (All (Low k)) h (out f (append_at c m x) ∷ []) [] (λ _. (b, tt)) (λ _. tt))

  ack_slow : (f : ℕ) (m : Machine ℕ) (i : ℕ) (a n : ℕ → ℕ) → m.term ≤ k → Slow k (handle_ack c j f m i a n)
  unfolding handle_ack
  ack_slow f m i a n b =
      pick_both (Slow k) (leb i (length m.log)) _ (outcome m [])
      (λ _. record {
        term = b;
        sent = ack_sent_slow (ltb m.commit (maybe_commit c m.term m.log (matched a f i) m.commit)) (leb (next_after a n f i) (length m.log)) f (next_after a n f i) m
            (leading c m (matched a f i) (upd n f (next_after a n f i))) (upd n f (next_after a n f i)) b b;
      })
      (λ _. same_slow m [] b tt)

  reject_slow : (f : ℕ) (m : Machine ℕ) (p h : ℕ) (a n : ℕ → ℕ) → m.term ≤ k → Slow k (handle_reject c f m p h a n)
  unfolding handle_reject
  reject_slow f m p h a n b = pick_both (Slow k) (eqb (suc p) (n f) && ltb (a f) p) _ (outcome m []) (λ _. record { term = b; sent = (b, tt) }) (λ _. same_slow m [] b tt)

  handle_slow : (f : ℕ) (m : Machine ℕ) (r : Role) (l : Letter ℕ) → m.term ≤ k → Slow k (handle_as c j f m r l)
  handle_slow f m follower (append t p q n es) b = append_slow f m p q n es b
  handle_slow f m (candidate v) (append t p q n es) b = same_slow m [] b tt
  handle_slow f m (leader a g) (append t p q n es) b = same_slow m [] b tt
  handle_slow f m follower (request t len last) b = same_slow m _ b (b, tt)
  handle_slow f m (candidate v) (request t len last) b = same_slow m [] b tt
  handle_slow f m (leader a g) (request t len last) b = same_slow m [] b tt
  handle_slow f m follower (vote t g) b = same_slow m [] b tt
  handle_slow f m (candidate v) (vote t g) b = pick_both (Slow k) g (poll c j m (upd v f true) []) (outcome m []) (λ _. poll_slow m (upd v f true) [] b tt) (λ _. same_slow m [] b tt)
  handle_slow f m (leader a g) (vote t h) b = same_slow m [] b tt
  handle_slow f m follower (ack t i) b = same_slow m [] b tt
  handle_slow f m (candidate v) (ack t i) b = same_slow m [] b tt
  handle_slow f m (leader a g) (ack t i) b = ack_slow f m i a g b
  handle_slow f m follower (reject t p h) b = same_slow m [] b tt
  handle_slow f m (candidate v) (reject t p h) b = same_slow m [] b tt
  handle_slow f m (leader a g) (reject t p h) b = reject_slow f m p h a g b
  handle_slow f m follower (here t) b = same_slow m [] b tt
  handle_slow f m (candidate v) (here t) b = same_slow m [] b tt
  handle_slow f m (leader a g) (here t) b = same_slow m [] b tt

  old_slow : (f : ℕ) (m : Machine ℕ) (l : Letter ℕ) → m.term ≤ k → All (Low k) (handle_old f m l)
  old_slow f m (append t p q n es) b = (b, tt)
  old_slow f m (request t len last) b = (b, tt)
  old_slow f m (vote t g) b = tt
  old_slow f m (ack t i) b = tt
  old_slow f m (reject t p h) b = tt
  old_slow f m (here t) b = (b, tt)

  -- a letter of any term
  higher_slow : (f : ℕ) (m : Machine ℕ) (l : Letter ℕ) → of_term l ≤ k → Slow k (handle_higher c j f m l)
  higher_slow f m l b =
      let m1 = (enter_higher c j m (of_term l)).now in
      let r = enter_slow m (of_term l) (out (owner c.size (of_term l)) (here (of_term l)) ∷ []) b (b, tt) in
      let s = handle_slow f m1 m1.role l r.term in
      record { term = s.term; sent = else_all (Low k) _ _ s.sent r.sent }

  letter_slow : (f : ℕ) (m : Machine ℕ) (l : Letter ℕ) → m.term ≤ k → of_term l ≤ k → Slow k (on_letter c j f m l)
  unfolding on_letter
  letter_slow f m l b h =
      pick_both (Slow k) (ltb m.term (of_term l)) (handle_higher c j f m l) (pick (ltb (of_term l) m.term) (outcome m (handle_old f m l)) (handle c j f m l))
      (λ _. higher_slow f m l h)
      (λ _. pick_both (Slow k) (ltb (of_term l) m.term) (outcome m (handle_old f m l)) (handle c j f m l)
      (λ _. same_slow m _ b (old_slow f m l b)) (λ _. handle_slow f m m.role l b))

  -- a proposal
  propose_slow : (m : Machine ℕ) (p : ℕ) (r : Role) → m.term ≤ k → Slow k (propose_as c j m p r)
  propose_slow m p follower b = same_slow m [] b tt
  propose_slow m p (candidate v) b = same_slow m [] b tt
  propose_slow m p (leader a n) b = record { term = b; sent = low_to_all _ (λ i. b) }

  proposal_slow : (m : Machine ℕ) (p : ℕ) → m.term ≤ k → Slow k (on_proposal c j m p)
  unfolding on_proposal append_proposal
  proposal_slow m p b =
      pick_both (Slow k) (ltb (length (decisions m.log)) c.room) (append_proposal c j m p) (outcome m []) (λ _. propose_slow m p m.role b) (λ _. same_slow m [] b tt)

-- letters that fly
post_low : (k j : ℕ) (os : List (Out ℕ)) → All (Low k) os → All (λ m. of_term m.letter ≤ k) (post j os)
unfolding post
post_low k j [] h = tt
post_low k j (o ∷ os) h = (h.0, post_low k j os h.1)

-- one item
module _ (c : Conf) (w : World) (k : ℕ) (low : TermsBelow w k) where
  step_slow : (j : ℕ) (e : Input ℕ) → Possible w j e → Slow (suc k) (step c j (w.memory j) e)
  unfolding on_tick
  step_slow j (event tick) p = tick_slow c j (suc k) (w.memory j) (w.memory j).role (omega (arith, low.memory j))
  step_slow j (event (receive f l)) p =
      let b : of_term l ≤ k = all_in (λ (m : Mail). of_term m.letter ≤ k) (mail f j l) w.network low.network p in
      letter_slow c j (suc k) f (w.memory j) l (omega (arith, low.memory j)) (omega arith)
  step_slow j (proposal p) e = proposal_slow c j (suc k) (w.memory j) p (omega (arith, low.memory j))

  network_low : All (λ m. of_term m.letter ≤ suc k) w.network
  network_low = all_map (λ m. of_term m.letter ≤ k) (λ m. of_term m.letter ≤ suc k) (λ m b. omega arith) w.network low.network

  module _ (j : ℕ) (e : Input ℕ) (p : Possible w j e) where
    settled_low : (b : Bool) → (settled b (step c j (w.memory j) e).now (w.stable j)).term ≤ suc k
    settled_low true = (step_slow j e p).term
    settled_low false = omega (arith, low.stable j)

    memory_low : (i : ℕ) → (upd w.memory j (step c j (w.memory j) e).now i).term ≤ suc k
    memory_low = upd_all w.memory j (step c j (w.memory j) e).now (λ i m. m.term ≤ suc k) (step_slow j e p).term (λ i ne. omega (arith, low.memory i))

    stable_low : (b : Bool) (i : ℕ) → (upd w.stable j (settled b (step c j (w.memory j) e).now (w.stable j)) i).term ≤ suc k
    stable_low b = upd_all w.stable j (settled b (step c j (w.memory j) e).now (w.stable j)) (λ i m. m.term ≤ suc k) (settled_low b) (λ i ne. omega (arith, low.stable i))

    letters_low : (os : List (Out ℕ)) → All (Low (suc k)) os → All (λ m. of_term m.letter ≤ suc k) (w.network ++ post j os)
    letters_low os h = all_both (λ m. of_term m.letter ≤ suc k) w.network (post j os) network_low (post_low (suc k) j os h)

  item_low : (a : Item) → Allowed c w a → TermsBelow (next c w a) (suc k)
  item_low (power j) may =
      record {
        memory = upd_all w.memory j (restart (w.stable j)) (λ i m. m.term ≤ suc k) (omega (arith, low.stable j)) (λ i ne. omega (arith, low.memory i));
        stable = λ i. omega (arith, low.stable i);
        network = network_low;
      }
  item_low (input j e (whole b)) may =
      record { memory = memory_low j e may.1; stable = stable_low j e may.1 b; network = letters_low j e may.1 (step c j (w.memory j) e).sent (step_slow j e may.1).sent }
  item_low (input j e early) may = record { memory = λ i. omega (arith, low.memory i); stable = λ i. omega (arith, low.stable i); network = network_low }
  item_low (input j e (late b n)) may =
      record {
        memory = λ i. omega (arith, low.memory i);
        stable = stable_low j e may.1 b;
        network = letters_low j e may.1 (take n (step c j (w.memory j) e).sent) (all_take (Low (suc k)) n (step c j (w.memory j) e).sent (step_slow j e may.1).sent);
      }

pub terms_next : (c : Conf) (w : World) (a : Item) (k : ℕ) → Allowed c w a → TermsBelow w k → TermsBelow (next c w a) (suc k)
terms_next c w a k may low = item_low c w k low a may
