-- What a letter does: one of a higher term is entered first, one of a lower term is told the own, and one of the own term is handled by the machine's role.
use Rattle.std.specs.Prelude.{ℕ, ◌+◌, Bool, true, false, cond, not, ◌&&◌, ◌||◌, ◌==◌, List, length, is_some, nat_le, nat_lt}
use Rattle.std.proofs.Math.Option.{Option, none, some}
use Rattle.raft_log.specs.Block.{Entry}
use Rattle.raft_log.specs.View.{log_of}
use Rattle.raft_log.specs.Conflict.{conflict, is_up_to_date}
use Rattle.raft_log.specs.Accept.{accepts, accepted, hint}
use Rattle.messages.specs.Letter.{Letter, append, append_response, append_reject, request_vote, request_vote_response, term_notice}
use Rattle.raft.specs.declared.header.Role.{Role}
use Rattle.raft.specs.declared.header.Role.TheVariants.{Follower, Candidate, Leader}
use Rattle.raft.specs.declared.header.Machine.{Machine}
use Rattle.raft.specs.declared.say.Due.TheVariants.{TellTerm, Accept, Reject}
use Rattle.raft.specs.Header.{ticks, machine, loaded, stored}
use Rattle.raft.specs.Say.{said_to, answered}
use Rattle.raft.specs.Election.{term_entered, vote_taken, vote_due}
use Rattle.raft.specs.Progress.{ack_taken, reject_taken}

-- the term of a letter
abbrev pub letter_term : Letter → ℕ
letter_term (append t p q k es) = t
letter_term (append_response t i) = t
letter_term (append_reject t p h) = t
letter_term (request_vote t i q) = t
letter_term (request_vote_response t b) = t
letter_term (term_notice t) = t

-- it heard from the leader of its term; a log that changed has to be made safe
abbrev pub heard_from : Machine Role → Bool → Machine Role
heard_from x changed = machine x.size.0 x.id.0 x.term.0 (Follower (ticks 0) true) x.since.0 (x.unsettled || changed)

-- does the log lack any of es behind p?
abbrev pub log_changes : List ℕ → ℕ → List Entry → Bool
log_changes m p es = nat_le p 8193 && is_some (conflict (log_of m) p es)

-- an append: taken, and answered with how far the logs agree; or refused, with a hint
unfoldable pub append_taken : List ℕ → Machine Role → ℕ → ℕ → ℕ → ℕ → List Entry → List ℕ
append_taken m x f p q k es =
    cond (accepts m p q es) (answered (stored (accepted m p k es) (heard_from x (log_changes m p es))) f Accept (p + length es) 0)
    (answered (stored m (heard_from x false)) f Reject p (hint (log_of m) p q))

abbrev pub append_as : List ℕ → Machine Role → Role → ℕ → ℕ → ℕ → ℕ → List Entry → List ℕ
append_as m x (Follower e heard) f p q k es = append_taken m x f p q k es
append_as m x (Candidate e) f p q k es = m
append_as m x Leader f p q k es = m

-- a vote is granted by a follower that has not heard from a leader, to a log that is as far as its own
abbrev pub request_as : List ℕ → Role → ℕ → ℕ → ℕ → List ℕ
request_as m (Follower e heard) f i q = said_to m f (vote_due (is_up_to_date (log_of m) i q && not heard))
request_as m (Candidate e) f i q = m
request_as m Leader f i q = m

abbrev pub vote_as : List ℕ → Machine Role → Role → ℕ → Bool → List ℕ
vote_as m x (Follower e heard) f b = m
vote_as m x (Candidate e) f b = cond b (vote_taken m x e f) m
vote_as m x Leader f b = m

abbrev pub response_as : List ℕ → Machine Role → Role → ℕ → ℕ → List ℕ
response_as m x (Follower e heard) f i = m
response_as m x (Candidate e) f i = m
response_as m x Leader f i = ack_taken m x f i

abbrev pub reject_as : List ℕ → Role → ℕ → ℕ → ℕ → List ℕ
reject_as m (Follower e heard) f p h = m
reject_as m (Candidate e) f p h = m
reject_as m Leader f p h = reject_taken m f p h

-- a letter of the own term
abbrev pub handle_with : List ℕ → Machine Role → ℕ → Letter → List ℕ
handle_with m x f (append t p q k es) = append_as m x x.role f p q k es
handle_with m x f (append_response t i) = response_as m x x.role f i
handle_with m x f (append_reject t p h) = reject_as m x.role f p h
handle_with m x f (request_vote t i q) = request_as m x.role f i q
handle_with m x f (request_vote_response t b) = vote_as m x x.role f b
handle_with m x f (term_notice t) = m

unfoldable pub handled : List ℕ → ℕ → Letter → List ℕ
handled m f l = handle_with m (loaded m) f l

-- a letter of a lower term: who asks is told the own
abbrev pub old_taken : List ℕ → ℕ → Letter → List ℕ
old_taken m f (append t p q k es) = said_to m f TellTerm
old_taken m f (append_response t i) = m
old_taken m f (append_reject t p h) = m
old_taken m f (request_vote t i q) = said_to m f TellTerm
old_taken m f (request_vote_response t b) = m
old_taken m f (term_notice t) = said_to m f TellTerm

abbrev pub taken_by_term : List ℕ → Machine Role → ℕ → Letter → List ℕ
taken_by_term m x f l =
    cond (nat_lt x.term.0 (letter_term l)) (handled (term_entered m x (letter_term l) false) f l)
    (cond (nat_lt (letter_term l) x.term.0) (old_taken m f l) (handle_with m x f l))

-- memory after a letter from f came; a sender that is none of the machines changes nothing
abbrev pub letter_taken : List ℕ → Machine Role → ℕ → Option Letter → List ℕ
letter_taken m x f none = m
letter_taken m x f (some l) = cond (nat_lt f x.size.0) (taken_by_term m x f l) m

unfoldable pub received : List ℕ → ℕ → Option Letter → List ℕ
received m f l = letter_taken m (loaded m) f l

-- is f another machine of the cluster?
abbrev pub another : Machine Role → ℕ → Bool
another x f = nat_lt f x.size.0 && not (f == x.id.0)

-- memory after a letter came that is taken from another machine alone
abbrev pub letter_from : List ℕ → Machine Role → ℕ → Option Letter → List ℕ
letter_from m x f none = m
letter_from m x f (some l) = cond (another x f) (taken_by_term m x f l) m

unfoldable pub received_from_another : List ℕ → ℕ → Option Letter → List ℕ
received_from_another m f l = letter_from m (loaded m) f l
