-- A letter that changes nothing but what is due: a request for a vote, a letter of a lower term, and one that is of no use.
use Rattle.std.proofs.Common.{◌≡◌, ℕ, ◌<◌, ◌≤◌, Bool, true, false, not, ◌&&◌, List, [], ◌∷◌, sym, refl, ap, ◌∙◌, subst, arith}
use Rattle.raft_log.specs.View.{log_of}
use Rattle.raft_log.specs.Conflict.{is_up_to_date as row_up_to_date}
use Rattle.messages.specs.Letter.{Letter as Message, append as append_message, append_response, append_reject, request_vote, request_vote_response, term_notice}
use Rattle.raft.specs.declared.header.Role.{Role as Kind}
use Rattle.raft.specs.declared.header.Role.TheVariants.{Follower, Candidate, Leader}
use Rattle.raft.specs.declared.header.Machine.{Machine as Header}
use Rattle.raft.specs.declared.say.Due.{Due}
use Rattle.raft.specs.declared.say.Due.TheVariants.{TellTerm}
use Rattle.raft.specs.Header.{loaded}
use Rattle.raft.specs.Say.{said_to}
use Rattle.raft.specs.Election.{vote_due}
use Rattle.raft.specs.Receive.{request_as, old_taken}
use Rattle.protocol.specs.Log.{Log}
use Rattle.machine.specs.Machine.{Machine, Role, follower, candidate, leader, Letter, request, vote, here, out, outcome}
use Rattle.machine.specs.Step.{is_up_to_date, handle_as, handle_old}
use Rattle.join_several.specs.Stands.{conf, RoleStands, Stands}
use Rattle.join_several.specs.Does.{lift_letter, says, keeps, Handles}
use Rattle.join_several.proofs.Frames.{stands_said}
use Rattle.join_several.proofs.Lifts.{lift_up_to_date}
use Rattle.join_several.proofs.Outs.{letter_of, posted_to}
use Rattle.join_several.proofs.Answered.{said_loaded, said_applied}

-- nothing is done
pub nothing_handled : (n id : ℕ) (m : List ℕ) (x : Machine (List ℕ)) → Stands n id m x → Handles n id m m x (outcome x [])
nothing_handled n id m x s =
    record { stands = s; told = keeps refl refl; still_unsettled = λ u. u; safe = λ u. record { term = refl; log = refl }; since = refl; applied = refl }

-- only a letter is said
pub said_handled :
    (n id : ℕ) (m : List ℕ) (x : Machine (List ℕ)) (f : ℕ) (d : Due) (y : Letter (List ℕ)) → n ≤ 7 → f < n → Stands n id m x → letter_of m d f ≡ y →
    Handles n id m (said_to m f d) x (outcome x (out f y ∷ []))
said_handled n id m x f d y few sender s e =
    record {
      stands = stands_said m f d n id x few s;
      told = says (out f y) [] refl (posted_to m s.tidy.entries.long f d (omega arith) ∙ ap (λ (z : Letter (List ℕ)). out f z ∷ []) e);
      still_unsettled = λ u. ap (λ (h : Header Kind). h.unsettled) (said_loaded m f d) ∙ u;
      safe = λ u. record { term = refl; log = refl };
      since = ap (λ (h : Header Kind). h.since) (said_loaded m f d);
      applied = said_applied m f d;
    }

vote_letter : (m : List ℕ) (f : ℕ) (b : Bool) → letter_of m (vote_due b) f ≡ vote (loaded m).term.0 b
vote_letter m f true = refl
vote_letter m f false = refl

module _ (n id : ℕ) (m : List ℕ) (x : Machine (List ℕ)) (f : ℕ) (few : n ≤ 7) (sender : f < n) (s : Stands n id m x) where
  -- by what the theory knows as the role
  pub by_role : (m₁ : List ℕ) (r : Role) (l : Letter (List ℕ)) → x.role ≡ r → Handles n id m m₁ x (handle_as (conf n) id f x r l) → Handles n id m m₁ x (handle_as (conf n) id f x x.role l)
  by_role m₁ r l e h = subst (λ (z : Role). Handles n id m m₁ x (handle_as (conf n) id f x z l)) (sym e) h

  -- A REQUEST
  request_by : (t i q : ℕ) (k : Kind) → RoleStands n m k x → Handles n id m (request_as m k f i q) x (handle_as (conf n) id f x x.role (request t i q))
  request_by t i q (Follower e h) r =
      let up : row_up_to_date (log_of m) i q ≡ is_up_to_date i q x.log = lift_up_to_date (log_of m) i q ∙ ap (λ (l : Log (List ℕ)). is_up_to_date i q l) s.log in
      let heard = r.heard in
      let term = s.term in
      by_role (said_to m f (vote_due (row_up_to_date (log_of m) i q && not h))) follower (request t i q) r.role
      (said_handled n id m x f (vote_due (row_up_to_date (log_of m) i q && not h)) (vote x.term (is_up_to_date i q x.log && not x.heard)) few sender s
      (vote_letter m f (row_up_to_date (log_of m) i q && not h) ∙ (λ j. vote (term j) (up j && not (heard j)))))
  request_by t i q (Candidate e) r = by_role m (candidate r.votes) (request t i q) r.role (nothing_handled n id m x s)
  request_by t i q Leader r = by_role m (leader r.acked r.next) (request t i q) r.role (nothing_handled n id m x s)

  pub request_handled : (t i q : ℕ) → Handles n id m (request_as m (loaded m).role f i q) x (handle_as (conf n) id f x x.role (request t i q))
  request_handled t i q = request_by t i q (loaded m).role s.role

  -- A LETTER OF A LOWER TERM
  told_term : Handles n id m (said_to m f TellTerm) x (outcome x (out f (here x.term) ∷ []))
  told_term = said_handled n id m x f TellTerm (here x.term) few sender s (ap here s.term)

  pub old_handled : (l : Message) → Handles n id m (old_taken m f l) x (outcome x (handle_old f x (lift_letter l)))
  old_handled (append_message t p q k es) = told_term
  old_handled (append_response t i) = nothing_handled n id m x s
  old_handled (append_reject t p h) = nothing_handled n id m x s
  old_handled (request_vote t i q) = told_term
  old_handled (request_vote_response t b) = nothing_handled n id m x s
  old_handled (term_notice t) = told_term
