-- What a machine does at a tick, with a letter and with a proposal: what changes, and what is sent. Assumes nothing: these are definitions.
use Rattle.std.specs.Prelude.{ℕ, zero, suc, pred, ◌+◌, ◌*◌, min, max, Bool, true, false, not, ◌&&◌, ◌||◌, leb, List, [], ◌∷◌, ◌++◌, length, take, drop, ◌==◌, nat_eq, nat_le, nat_lt}
use Rattle.std.proofs.Math.Option.{some}
use Rattle.protocol.specs.Lists.{pick, upd}
use Rattle.protocol.specs.Log.{entry, Log, term_before, last_term, renew, merge, decisions}
use Rattle.protocol.specs.History.{count, owner as owner_of}
use Rattle.machine.specs.Machine.{Conf, Role, follower, candidate, leader, Machine, machine, Letter, append, request, vote, ack, reject, here, of_term, Out, out, Outcome, outcome, Event, tick, receive, Input, event, proposal}

-- who may stand in term t
abbrev pub owner : Conf → ℕ → ℕ
owner c t = owner_of c.size t

-- more than half
unfoldable pub is_majority : Conf → (ℕ → Bool) → Bool
is_majority c f = nat_lt c.size (2 * count f c.size)

-- is a log with this length and last term at least as far as the log l?
unfoldable pub is_up_to_date : {A : Type 0} → ℕ → ℕ → Log A → Bool
is_up_to_date len last l = nat_lt (last_term l) last || (last_term l == last && nat_le (length l) len)

-- a letter to each of the first k machines but the one itself
unfoldable pub to_others : {A : Type 0} → ℕ → (ℕ → Letter A) → ℕ → List (Out A)
to_others id f zero = []
to_others id f (suc k) = to_others id f k ++ pick (k == id) [] (out k (f k) ∷ [])

abbrev pub broadcast : {A : Type 0} → Conf → ℕ → (ℕ → Letter A) → List (Out A)
broadcast c id f = to_others id f c.size

abbrev pub request_of : {A : Type 0} → Machine A → Letter A
request_of m = request m.term (length m.log) (last_term m.log)

-- the append to one that is to get entry number `next`, counted from 1
abbrev pub append_at : {A : Type 0} → Conf → Machine A → ℕ → Letter A
append_at c m next = append m.term (pred next) (term_before m.log (pred next)) m.commit (take c.batch (drop (pred next) m.log))

-- the largest number up to k that more than half have
unfoldable pub majority_index : Conf → (ℕ → ℕ) → ℕ → ℕ
majority_index c a zero = 0
majority_index c a (suc k) = pick (is_majority c (λ j. leb (suc k) (a j))) (suc k) (majority_index c a k)

-- commit k, raised to what more than half have, if the entry there is of the leader's own term
unfoldable pub maybe_commit : {A : Type 0} → Conf → ℕ → Log A → (ℕ → ℕ) → ℕ → ℕ
maybe_commit c t l a k =
    pick (nat_lt k (majority_index c a (length l)) && term_before l (majority_index c a (length l)) == t) (majority_index c a (length l)) k

-- a leader that knows a of what each has, and sends b next
abbrev pub leading : {A : Type 0} → Conf → Machine A → (ℕ → ℕ) → (ℕ → ℕ) → Machine A
leading c m a b = machine m.term (leader a b) m.heard m.elapsed m.log (maybe_commit c m.term m.log a m.commit)

abbrev pub renewed : {A : Type 0} → Machine A → Machine A
renewed m = machine m.term m.role m.heard m.elapsed (renew m.term m.log) m.commit

abbrev pub new_leader : {A : Type 0} → Conf → ℕ → Machine A → Machine A
new_leader c id m = leading c (renewed m) (upd (λ _. 0) id (length (renewed m).log)) (λ _. length (renewed m).log)

unfoldable pub become_leader : {A : Type 0} → Conf → ℕ → Machine A → Outcome A
become_leader c id m = outcome (new_leader c id m) (broadcast c id (λ _. append_at c (new_leader c id m) (length (new_leader c id m).log)))

abbrev pub as_candidate : {A : Type 0} → Machine A → (ℕ → Bool) → Machine A
as_candidate m v = machine m.term (candidate v) m.heard m.elapsed m.log m.commit

-- with the votes v: lead if they are enough and it is early enough, or else wait for more
unfoldable pub poll : {A : Type 0} → Conf → ℕ → Machine A → (ℕ → Bool) → List (Out A) → Outcome A
poll c id m v o = pick (is_majority c v && nat_lt (m.elapsed + 2) c.wait) (become_leader c id m) (outcome (as_candidate m v) o)

abbrev pub as_follower : {A : Type 0} → Machine A → ℕ → Machine A
as_follower m t = machine t follower false 0 m.log m.commit

-- a new term: its owner stands with its own vote, any other says the letters o
unfoldable pub enter : {A : Type 0} → Conf → ℕ → Machine A → ℕ → List (Out A) → Outcome A
enter c id m t o =
    pick (owner c t == id) (poll c id (as_follower m t) (λ j. nat_eq j id) (broadcast c id (λ _. request_of (as_follower m t)))) (outcome (as_follower m t) o)

abbrev pub ticked : {A : Type 0} → Machine A → Machine A
ticked m = machine m.term m.role m.heard (suc m.elapsed) m.log m.commit

-- a letter that may have been lost is said again
abbrev pub reminder : {A : Type 0} → Conf → ℕ → Machine A → Role → List (Out A)
reminder c id m follower = pick m.heard [] (pick (owner c m.term == id) [] (out (owner c m.term) (here m.term) ∷ []))
reminder c id m (candidate v) = broadcast c id (λ _. request_of m)
reminder c id m (leader a b) = []

abbrev pub tick_election : {A : Type 0} → Conf → ℕ → Machine A → Outcome A
tick_election c id m =
    pick (nat_lt (suc m.elapsed) c.wait) (outcome (ticked m) (reminder c id m m.role))
    (enter c id m (suc m.term) (broadcast c id (λ _. here (suc m.term))))

abbrev pub tick_as : {A : Type 0} → Conf → ℕ → Machine A → Role → Outcome A
tick_as c id m follower = tick_election c id m
tick_as c id m (candidate v) = tick_election c id m
tick_as c id m (leader a b) = outcome m (broadcast c id (λ j. append_at c m (b j)))

unfoldable pub on_tick : {A : Type 0} → Conf → ℕ → Machine A → Outcome A
on_tick c id m = tick_as c id m m.role

-- the log l reaches to p, and what stands before p is of term q
abbrev pub prev_matches : {A : Type 0} → Log A → ℕ → ℕ → Bool
prev_matches l p q = nat_le p (length l) && term_before l p == q

-- an index at which the logs may agree
abbrev pub hint : {A : Type 0} → Conf → Log A → ℕ → ℕ → ℕ
hint c l p q = c.hint (length l) (term_before l) p q

unfoldable pub handle_append : {A : Type 0} → Conf → ℕ → Machine A → ℕ → ℕ → ℕ → Log A → Outcome A
handle_append c f m p q k es =
    pick (prev_matches m.log p q)
    (outcome (machine m.term follower true 0 (merge m.log p es) (max m.commit (min k (p + length es)))) (out f (ack m.term (p + length es)) ∷ []))
    (outcome (machine m.term follower true 0 m.log m.commit) (out f (reject m.term p (hint c m.log p q)) ∷ []))

-- f has acknowledged i: its match, and what it is sent next, rise and never fall
abbrev pub matched : (ℕ → ℕ) → ℕ → ℕ → ℕ → ℕ
matched a f i = upd a f (max (a f) i)

abbrev pub next_after : (ℕ → ℕ) → (ℕ → ℕ) → ℕ → ℕ → ℕ
next_after a b f i = max (b f) (suc (max (a f) i))

-- if commit rises, all hear of it; or else f gets what it lacks
unfoldable pub handle_ack : {A : Type 0} → Conf → ℕ → ℕ → Machine A → ℕ → (ℕ → ℕ) → (ℕ → ℕ) → Outcome A
handle_ack c id f m i a b =
    pick (nat_le i (length m.log))
    (outcome (leading c m (matched a f i) (upd b f (next_after a b f i)))
    (pick (nat_lt m.commit (maybe_commit c m.term m.log (matched a f i) m.commit))
    (broadcast c id (λ j. append_at c (leading c m (matched a f i) (upd b f (next_after a b f i))) (upd b f (next_after a b f i) j)))
    (pick (nat_le (next_after a b f i) (length m.log)) (out f (append_at c m (next_after a b f i)) ∷ []) [])))
    (outcome m [])

-- what f is sent next falls to the hint, never to its match or below
abbrev pub next_below : (ℕ → ℕ) → ℕ → ℕ → ℕ → ℕ
next_below a f p h = max (suc (a f)) (min p (suc h))

unfoldable pub handle_reject : {A : Type 0} → Conf → ℕ → Machine A → ℕ → ℕ → (ℕ → ℕ) → (ℕ → ℕ) → Outcome A
handle_reject c f m p h a b =
    pick (suc p == b f && nat_lt (a f) p)
    (outcome (machine m.term (leader a (upd b f (next_below a f p h))) m.heard m.elapsed m.log m.commit) (out f (append_at c m (next_below a f p h)) ∷ []))
    (outcome m [])

-- a letter of the own term, by role
abbrev pub handle_as : {A : Type 0} → Conf → ℕ → ℕ → Machine A → Role → Letter A → Outcome A
handle_as c id f m follower (append t p q k es) = handle_append c f m p q k es
handle_as c id f m (candidate v) (append t p q k es) = outcome m []
handle_as c id f m (leader a b) (append t p q k es) = outcome m []
handle_as c id f m follower (request t len last) = outcome m (out f (vote m.term (is_up_to_date len last m.log && not m.heard)) ∷ [])
handle_as c id f m (candidate v) (request t len last) = outcome m []
handle_as c id f m (leader a b) (request t len last) = outcome m []
handle_as c id f m follower (vote t g) = outcome m []
handle_as c id f m (candidate v) (vote t g) = pick g (poll c id m (upd v f true) []) (outcome m [])
handle_as c id f m (leader a b) (vote t g) = outcome m []
handle_as c id f m follower (ack t i) = outcome m []
handle_as c id f m (candidate v) (ack t i) = outcome m []
handle_as c id f m (leader a b) (ack t i) = handle_ack c id f m i a b
handle_as c id f m follower (reject t p h) = outcome m []
handle_as c id f m (candidate v) (reject t p h) = outcome m []
handle_as c id f m (leader a b) (reject t p h) = handle_reject c f m p h a b
handle_as c id f m follower (here t) = outcome m []
handle_as c id f m (candidate v) (here t) = outcome m []
handle_as c id f m (leader a b) (here t) = outcome m []

abbrev pub handle : {A : Type 0} → Conf → ℕ → ℕ → Machine A → Letter A → Outcome A
handle c id f m l = handle_as c id f m m.role l

-- of a lower term: who asks is told the own
abbrev pub handle_old : {A : Type 0} → ℕ → Machine A → Letter A → List (Out A)
handle_old f m (append t p q k es) = out f (here m.term) ∷ []
handle_old f m (request t len last) = out f (here m.term) ∷ []
handle_old f m (vote t b) = []
handle_old f m (ack t i) = []
handle_old f m (reject t p h) = []
handle_old f m (here t) = out f (here m.term) ∷ []

abbrev pub or_else : {A : Type 0} → List (Out A) → List (Out A) → List (Out A)
or_else [] o = o
or_else (x ∷ xs) o = x ∷ xs

-- of a higher term: enter it first
abbrev pub enter_higher : {A : Type 0} → Conf → ℕ → Machine A → ℕ → Outcome A
enter_higher c id m t = enter c id m t (out (owner c t) (here t) ∷ [])

abbrev pub handle_higher : {A : Type 0} → Conf → ℕ → ℕ → Machine A → Letter A → Outcome A
handle_higher c id f m l =
    outcome (handle c id f (enter_higher c id m (of_term l)).now l).now
    (or_else (handle c id f (enter_higher c id m (of_term l)).now l).sent (enter_higher c id m (of_term l)).sent)

unfoldable pub on_letter : {A : Type 0} → Conf → ℕ → ℕ → Machine A → Letter A → Outcome A
on_letter c id f m l =
    pick (nat_lt m.term (of_term l)) (handle_higher c id f m l) (pick (nat_lt (of_term l) m.term) (outcome m (handle_old f m l)) (handle c id f m l))

-- a leader takes a proposal in
abbrev pub extended : {A : Type 0} → Machine A → A → Machine A
extended m v = machine m.term m.role m.heard m.elapsed (m.log ++ entry m.term (some v) ∷ []) m.commit

abbrev pub proposed : {A : Type 0} → Conf → ℕ → Machine A → A → (ℕ → ℕ) → (ℕ → ℕ) → Machine A
proposed c id m v a b = leading c (extended m v) (upd a id (length (extended m v).log)) b

abbrev pub propose_as : {A : Type 0} → Conf → ℕ → Machine A → A → Role → Outcome A
propose_as c id m v follower = outcome m []
propose_as c id m v (candidate w) = outcome m []
propose_as c id m v (leader a b) = outcome (proposed c id m v a b) (broadcast c id (λ j. append_at c (proposed c id m v a b) (b j)))

unfoldable pub append_proposal : {A : Type 0} → Conf → ℕ → Machine A → A → Outcome A
append_proposal c id m v = propose_as c id m v m.role

-- it is refused by one that does not lead, and when the log is full
unfoldable pub on_proposal : {A : Type 0} → Conf → ℕ → Machine A → A → Outcome A
on_proposal c id m v = pick (nat_lt (length (decisions m.log)) c.room) (append_proposal c id m v) (outcome m [])

abbrev pub on_event : {A : Type 0} → Conf → ℕ → Machine A → Event A → Outcome A
on_event c id m tick = on_tick c id m
on_event c id m (receive f l) = on_letter c id f m l

abbrev pub step : {A : Type 0} → Conf → ℕ → Machine A → Input A → Outcome A
step c id m (event e) = on_event c id m e
step c id m (proposal v) = on_proposal c id m v
