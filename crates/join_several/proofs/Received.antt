-- A letter that comes: what the machine's memory makes of it is what the theory does.
use Rattle.std.proofs.Common.{◌≡◌, ℕ, ◌<◌, ◌≤◌, Bool, true, false, cond, not, ◌&&◌, eqb, ltb, ◌≢◌, List, [], length, sym, refl, ap, ◌∙◌, subst}
use mathlib.Core.Option.{some}
use Rattle.std.proofs.lemmas.Bool.{lt-ltb, ne_eqb, and_from, not_from_false, cond-true, both_ways}
use Rattle.raft_log.specs.Block.{Entry as Row}
use Rattle.raft_log.specs.View.{log_of, Valid}
use Rattle.raft_log.specs.Conflict.{Agreeing}
use Rattle.messages.specs.Letter.{Letter as Message, append as append_message, append_response, append_reject, request_vote, request_vote_response, term_notice}
use Rattle.raft.specs.declared.header.Role.{Role as Kind}
use Rattle.raft.specs.declared.header.Role.TheVariants.{Follower, Candidate, Leader}
use Rattle.raft.specs.Header.{loaded}
use Rattle.raft.specs.Election.{term_entered}
use Rattle.raft.specs.Outbox.{mail_due}
use Rattle.raft.specs.Receive.{letter_term, append_as, vote_as, response_as, reject_as, handle_with, handled, old_taken, taken_by_term, another, received_from_another}
use Rattle.protocol.specs.Lists.{pick}
use Rattle.machine.specs.Machine.{Machine, Role, follower, candidate, leader, of_term, Out, Outcome, outcome}
use Rattle.machine.specs.Step.{handle_as, handle, handle_old, or_else, enter_higher, on_letter}
use Rattle.join_several.specs.Stands.{conf, Leads, RoleStands, Stands}
use Rattle.join_several.specs.Does.{lift_letter, posted, Quiet, Room, Does, Told, says, keeps, Handles}
use Rattle.join_several.proofs.Outs.{posted_quiet}
use Rattle.join_several.proofs.Appends.{append_handled}
use Rattle.join_several.proofs.Elections.{NotLeader, entered_by_letter}
use Rattle.join_several.proofs.Acks.{ack_handled, reject_handled}
use Rattle.join_several.proofs.Votes.{vote_handled}
use Rattle.join_several.proofs.Requests.{nothing_handled, by_role, request_handled, old_handled}

-- what the entries of an append must be: such as memory can hold, and those of the log wherever the terms are equal
abbrev pub Fitting : List ℕ → Message → Type 0
Fitting m (append_message t p q k es) = Valid es × Agreeing (log_of m) p es
Fitting m (append_response t i) = Unit {0}
Fitting m (append_reject t p h) = Unit {0}
Fitting m (request_vote t i q) = Unit {0}
Fitting m (request_vote_response t b) = Unit {0}
Fitting m (term_notice t) = Unit {0}

-- what is decided is in the log
abbrev pub Reached : Machine (List ℕ) → Type 0
Reached x = x.commit ≤ length x.log

-- no letter is due
abbrev NoneDue : List ℕ → Type 0
NoneDue m = mail_due m ≡ []

fitting_same : (m m₁ : List ℕ) (l : Message) → log_of m₁ ≡ log_of m → Fitting m l → Fitting m₁ l
fitting_same m m₁ (append_message t p q k es) e h = (h.0, subst (λ (r : List Row). Agreeing r p es) (sym e) h.1)
fitting_same m m₁ (append_response t i) e h = tt
fitting_same m m₁ (append_reject t p w) e h = tt
fitting_same m m₁ (request_vote t i q) e h = tt
fitting_same m m₁ (request_vote_response t b) e h = tt
fitting_same m m₁ (term_notice t) e h = tt

term_lift : (l : Message) → of_term (lift_letter l) ≡ letter_term l
term_lift (append_message t p q k es) = refl
term_lift (append_response t i) = refl
term_lift (append_reject t p h) = refl
term_lift (request_vote t i q) = refl
term_lift (request_vote_response t b) = refl
term_lift (term_notice t) = refl

-- what was done with no letter due before
does_quiet : (n id : ℕ) (m m₁ : List ℕ) (x : Machine (List ℕ)) (d : Outcome (List ℕ)) → Quiet m → Handles n id m m₁ x d → Does n id m m₁ x d
does_quiet n id m m₁ x d q h = record { stands = h.stands; sent = sent h.told; safe = h.safe; since = h.since; applied = h.applied }
  where
    sent : Told m m₁ d.sent → posted m₁ ≡ d.sent
    sent (says y ys e p) = p
    sent (keeps e p) = p ∙ (posted_quiet m q.none_due ∙ sym e)

-- one that does not lead stands for none that leads
low_leads : (n : ℕ) (m : List ℕ) (x : Machine (List ℕ)) (kind : Kind) → NotLeader x.role → kind ≡ Leader → RoleStands n m kind x → ⊥
low_leads n m x kind low e r =
    let y : Leads n m x = subst (λ (z : Kind). RoleStands n m z x) e r in
    subst (λ (z : Role). NotLeader z) y.role low

does_by :
    (n id : ℕ) (m m₁ m₂ : List ℕ) (x : Machine (List ℕ)) (d d₁ : Outcome (List ℕ)) → m₁ ≡ m₂ → d ≡ d₁ → Does n id m m₂ x d₁ → Does n id m m₁ x d
does_by n id m m₁ m₂ x d d₁ e g h = subst (λ (y : List ℕ). Does n id m y x d) (sym e) (subst (λ (o : Outcome (List ℕ)). Does n id m m₂ x o) (sym g) h)

module _ (n id f : ℕ) (many : 2 ≤ n) (few : n ≤ 7) (own : id < n) (sender : f < n) (other : f ≢ id) where
  -- A LETTER OF THE OWN TERM, by the role in memory; a leader has none due from before
  module _ (m : List ℕ) (x : Machine (List ℕ)) (s : Stands n id m x) (calm : (loaded m).role ≡ Leader → NoneDue m) where
    abbrev does : Role → Message → Outcome (List ℕ)
    does r l = handle_as (conf n) id f x r (lift_letter l)

    abbrev now_by : (m₁ : List ℕ) (r : Role) (l : Message) → x.role ≡ r → Handles n id m m₁ x (does r l) → Handles n id m m₁ x (does x.role l)
    now_by m₁ r l e h = by_role n id m x f few sender s m₁ r (lift_letter l) e h

    still : Handles n id m m x (outcome x [])
    still = nothing_handled n id m x s

    append_by : (t p q k : ℕ) (es : List Row) (kind : Kind) → RoleStands n m kind x → Valid es → Agreeing (log_of m) p es →
        Room (does x.role (append_message t p q k es)).now → Reached (does x.role (append_message t p q k es)).now →
        Handles n id m (append_as m (loaded m) kind f p q k es) x (does x.role (append_message t p q k es))
    append_by t p q k es (Follower e h) r valid agree room reach =
        now_by _ follower (append_message t p q k es) r.role
        (append_handled n id m x f p q k es few sender s valid agree (subst (λ (z : Role). Room (does z (append_message t p q k es)).now) r.role room)
        (subst (λ (z : Role). Reached (does z (append_message t p q k es)).now) r.role reach))
    append_by t p q k es (Candidate e) r valid agree room reach = now_by m (candidate r.votes) (append_message t p q k es) r.role still
    append_by t p q k es Leader r valid agree room reach = now_by m (leader r.acked r.next) (append_message t p q k es) r.role still

    response_by : (t i : ℕ) (kind : Kind) → (loaded m).role ≡ kind → RoleStands n m kind x →
        Handles n id m (response_as m (loaded m) kind f i) x (does x.role (append_response t i))
    response_by t i (Follower e h) g r = now_by m follower (append_response t i) r.role still
    response_by t i (Candidate e) g r = now_by m (candidate r.votes) (append_response t i) r.role still
    response_by t i Leader g r = now_by _ (leader r.acked r.next) (append_response t i) r.role (ack_handled n id f few sender other m x r.acked r.next s g r.role i (calm g))

    reject_by : (t p h : ℕ) (kind : Kind) → (loaded m).role ≡ kind → RoleStands n m kind x → Handles n id m (reject_as m kind f p h) x (does x.role (append_reject t p h))
    reject_by t p h (Follower e w) g r = now_by m follower (append_reject t p h) r.role still
    reject_by t p h (Candidate e) g r = now_by m (candidate r.votes) (append_reject t p h) r.role still
    reject_by t p h Leader g r = now_by _ (leader r.acked r.next) (append_reject t p h) r.role (reject_handled n id f few sender other m x r.acked r.next s g r.role p h)

    vote_by : (t : ℕ) (b : Bool) (kind : Kind) → (loaded m).role ≡ kind → RoleStands n m kind x → Room (does x.role (request_vote_response t b)).now →
        Handles n id m (vote_as m (loaded m) kind f b) x (does x.role (request_vote_response t b))
    vote_by t b (Follower e h) g r room = now_by m follower (request_vote_response t b) r.role still
    vote_by t true (Candidate e) g r room =
        now_by _ (candidate r.votes) (request_vote_response t true) r.role
        (vote_handled n id f few sender other m x e r.votes s g r.role (subst (λ (z : Role). Room (does z (request_vote_response t true)).now) r.role room))
    vote_by t false (Candidate e) g r room = now_by m (candidate r.votes) (request_vote_response t false) r.role still
    vote_by t b Leader g r room = now_by m (leader r.acked r.next) (request_vote_response t b) r.role still

    notice_by : (t : ℕ) (kind : Kind) → RoleStands n m kind x → Handles n id m m x (does x.role (term_notice t))
    notice_by t (Follower e h) r = now_by m follower (term_notice t) r.role still
    notice_by t (Candidate e) r = now_by m (candidate r.votes) (term_notice t) r.role still
    notice_by t Leader r = now_by m (leader r.acked r.next) (term_notice t) r.role still

    own_handled : (l : Message) → Fitting m l → Room (does x.role l).now → Reached (does x.role l).now → Handles n id m (handle_with m (loaded m) f l) x (does x.role l)
    own_handled (append_message t p q k es) fit room reach = append_by t p q k es (loaded m).role s.role fit.0 fit.1 room reach
    own_handled (append_response t i) fit room reach = response_by t i (loaded m).role refl s.role
    own_handled (append_reject t p h) fit room reach = reject_by t p h (loaded m).role refl s.role
    own_handled (request_vote t i q) fit room reach = request_handled n id m x f few sender s t i q
    own_handled (request_vote_response t b) fit room reach = vote_by t b (loaded m).role refl s.role room
    own_handled (term_notice t) fit room reach = notice_by t (loaded m).role s.role

  -- A LETTER OF A HIGHER TERM: it is entered first
  module _ (m : List ℕ) (x : Machine (List ℕ)) (s : Stands n id m x) (l : Message) (fit : Fitting m l) where
    abbrev there : List ℕ
    there = term_entered m (loaded m) (letter_term l) false

    abbrev entering : Outcome (List ℕ)
    entering = enter_higher (conf n) id x (letter_term l)

    abbrev handling : Outcome (List ℕ)
    handling = handle (conf n) id f entering.now (lift_letter l)

    abbrev higher : Outcome (List ℕ)
    higher = outcome handling.now (or_else handling.sent entering.sent)

    higher_does : Room handling.now → Reached handling.now → Does n id m (handled there f l) x higher
    unfolding handled
    higher_does room reach =
        let r = entered_by_letter n id m x (letter_term l) many few own s in
        let e = r.enters in
        let h : Handles n id there (handle_with there (loaded there) f l) entering.now handling =
        own_handled there entering.now e.stands (λ g. absurd (low_leads n there entering.now (loaded there).role r.low g e.stands.role)) l (fitting_same m there l r.rows fit) room reach in
        record {
          stands = h.stands;
          sent = sent e.sent handling.sent h.told;
          safe = λ u. absurd (both_ways _ u (h.still_unsettled e.unsettled));
          since = h.since ∙ e.since;
          applied = h.applied ∙ e.applied;
        }
      where
        sent : posted there ≡ entering.sent → (o : List (Out (List ℕ))) → Told there (handle_with there (loaded there) f l) o →
            posted (handle_with there (loaded there) f l) ≡ or_else o entering.sent
        sent before o (says y ys e p) = p ∙ (e ∙ sym (ap (λ (r : List (Out (List ℕ))). or_else r entering.sent) e))
        sent before o (keeps e p) = p ∙ (before ∙ sym (ap (λ (r : List (Out (List ℕ))). or_else r entering.sent) e))

    -- A LETTER OF ANY TERM, with none due before
    abbrev by_term : ℕ → Outcome (List ℕ)
    by_term t =
        pick (ltb x.term t)
        (outcome (handle (conf n) id f (enter_higher (conf n) id x t).now (lift_letter l)).now
        (or_else (handle (conf n) id f (enter_higher (conf n) id x t).now (lift_letter l)).sent (enter_higher (conf n) id x t).sent))
        (pick (ltb t x.term) (outcome x (handle_old f x (lift_letter l))) (handle (conf n) id f x (lift_letter l)))

    on_letter_by : on_letter (conf n) id f x (lift_letter l) ≡ by_term (letter_term l)
    unfolding on_letter
    on_letter_by = ap by_term (term_lift l)

    abbrev from : Bool → Bool → List ℕ
    from a b = cond a (handled there f l) (cond b (old_taken m f l) (handle_with m (loaded m) f l))

    received_by : received_from_another m f (some l) ≡ from (ltb x.term (letter_term l)) (ltb (letter_term l) x.term)
    unfolding received_from_another
    received_by =
        let size = s.size in
        let self = s.self in
        let term = s.term in
        let one : another (loaded m) f ≡ true =
        (λ i. ltb f (size i) && not (eqb f (self i))) ∙ and_from (ltb f n) (not (eqb f id)) (lt-ltb f n sender) (not_from_false (eqb f id) (ne_eqb f id other)) in
        cond-true (another (loaded m) f) (taken_by_term m (loaded m) f l) m one ∙ (λ i. from (ltb (term i) (letter_term l)) (ltb (letter_term l) (term i)))

    abbrev goal : Bool → Bool → Outcome (List ℕ)
    goal a b = pick a higher (pick b (outcome x (handle_old f x (lift_letter l))) (handle (conf n) id f x (lift_letter l)))

    received_with :
        Quiet m → Room (on_letter (conf n) id f x (lift_letter l)).now → Reached (on_letter (conf n) id f x (lift_letter l)).now →
        Does n id m (received_from_another m f (some l)) x (on_letter (conf n) id f x (lift_letter l))
    received_with q room reach =
        does_by n id m _ _ x _ _ received_by on_letter_by
        (go (ltb x.term (letter_term l)) (ltb (letter_term l) x.term) (subst (λ (o : Outcome (List ℕ)). Room o.now) on_letter_by room)
        (subst (λ (o : Outcome (List ℕ)). Reached o.now) on_letter_by reach))
      where
        go : (a b : Bool) → Room (goal a b).now → Reached (goal a b).now → Does n id m (from a b) x (goal a b)
        go true b r k = higher_does r k
        go false true r k = does_quiet n id m _ x _ q (old_handled n id m x f few sender s l)
        go false false r k = does_quiet n id m _ x _ q (own_handled m x s (λ _. q.none_due) l fit r k)

-- A LETTER FROM ANOTHER MACHINE does what the theory does, where its entries are such as the log's, and what comes of it has room and holds no more for decided than the log has
pub received_does :
    (n id f : ℕ) (m : List ℕ) (x : Machine (List ℕ)) → 2 ≤ n → n ≤ 7 → id < n → f < n → f ≢ id → Stands n id m x → Quiet m → (l : Message) → Fitting m l →
    Room (on_letter (conf n) id f x (lift_letter l)).now → Reached (on_letter (conf n) id f x (lift_letter l)).now →
    Does n id m (received_from_another m f (some l)) x (on_letter (conf n) id f x (lift_letter l))
received_does n id f m x many few own sender other s q l fit room reach = received_with n id f many few own sender other m x s l fit q room reach
