-- The promises about runs of moves. Assumes nothing.
use Rattle.std.proofs.Common.{◌≡◌, ℕ, pred, ◌≤◌, true, take, sym, refl, subst, inl, inr, arith}
use Rattle.std.proofs.lemmas.Bool.{both_ways, cases_eq}
use Rattle.protocol.specs.History.{History}
use Rattle.protocol.specs.Invariant.{Inv}
use Rattle.protocol.specs.State.{State, state, Sound}
use Rattle.protocol.specs.Cluster.{elect, stop, after}
use Rattle.protocol.specs.Theorems.{LeaderCompleteness, OneOrder, DecidedOnce, OneLeader, CommittedStays, MayApply, AckedHeld, StopRestores, PromisesLast, LettersStayTrue, LettersPermit}
use Rattle.protocol.proofs.Updates.{upd_same}
use Rattle.protocol.proofs.Logs.{take_same, covers_of}
use Rattle.protocol.proofs.Matches.{ack_within}
use Rattle.protocol.proofs.Grows.{committed_grows, committed_same, decided_grows}
use Rattle.protocol.proofs.States.{acked_front}
use Rattle.protocol.proofs.Complete.{complete}
use Rattle.protocol.proofs.Orders.{decided_alike, decided_once_below}
use Rattle.protocol.proofs.Commits.{true_commit_grows, learn, known_decided}
use Rattle.protocol.proofs.Letters.{true_append_grows, true_request_grows, true_vote_grows, true_ack_grows, request_vote_ok, vote_says, append_accept_ok, append_commit_known}
use Rattle.protocol.proofs.Rows.{vote_permitted, accept_row}
use Rattle.protocol.proofs.Runs.{reachable_safe, leads_safe, move_safe, moves_grow}

pub leader_completeness : LeaderCompleteness
leader_completeness n c d t m v r l done e b =
    let sf = reachable_safe n c r in
    let sd = leads_safe n c d sf l in
    let gr = moves_grow n c d sf l in
    covers_of m (d.history.lead t) (c.history.lead t) (d.history.cand v) (λ i k. sym (gr.front t i done.led (omega (arith, done.within))))
    (complete n d.history sd.inv sd.elections t m (committed_grows c.history d.history gr n t m done) v b e)

pub one_order : OneOrder
one_order n c d xs ys r l p q =
    let sf = reachable_safe n c r in
    let sd = leads_safe n c d sf l in
    decided_alike n d.history sd.inv sd.elections xs ys (decided_grows c.history d.history (moves_grow n c d sf l) n xs p) q

pub decided_once : DecidedOnce
decided_once n c xs r f = decided_once_below n c.history c.history.next xs (reachable_safe n c r).fresh (omega arith) f

pub one_leader : OneLeader
one_leader n c d j i t r ok l again =
    let sf = reachable_safe n c r in
    let led : (after c j (elect t)).history.elected t ≡ true = upd_same c.history.elected t true in
    let gr = moves_grow n (after c j (elect t)) d (move_safe n c j sf (elect t) ok) l in
    both_ways (d.history.elected t) again.ok.open_yet (gr.led t led)

pub committed_stays : CommittedStays
committed_stays n c d t m r l done =
    let gr = moves_grow n c d (reachable_safe n c r) l in
    (committed_grows c.history d.history gr n t m done, committed_same c.history d.history gr n t m done)

pub may_apply : MayApply
may_apply n c t k l r says holds =
    let sf = reachable_safe n c r in
    let known = learn n c.history sf.inv sf.elections t k k l (omega arith) says holds in
    (known, known_decided n c.history t k l known)

pub acked_take : (n : ℕ) (g : History) (j : ℕ) (s : State) → Inv g → Sound n g j s → (t k : ℕ) → s.term ≡ t → k ≤ g.acked t j → take k s.log ≡ take k (g.lead t)
acked_take n g j s inv d t k e a =
    elim (cases_eq k 0) [
      | inl z ↦ take_same k s.log (g.lead t) (omega arith) (omega arith) (λ i b. absurd (omega arith))
      | inr z ↦
          take_same k s.log (g.lead t) (omega (arith, ((d.acks t (pred k) (omega arith)).now e).0)) (omega (arith, ack_within g inv t j))
          (λ i b. acked_front n g j s d t (pred k) e (omega arith) i (omega arith))
    ]

pub acked_held : AckedHeld
acked_held n c t k j s r d e a = acked_take n c.history j s (reachable_safe n c r).inv d t k e a

pub stop_restores : StopRestores
stop_restores n c j r = (upd_same c.now j (c.stable j), refl, move_safe n c j (reachable_safe n c r) stop tt)

pub promises_last : PromisesLast
promises_last n c j t r =
    let d = (reachable_safe n c r).stable_sound j in
    record { stood = d.stands t; voted = d.votes t; acked = λ m a. (d.acks t m a).reached }

pub letters_stay_true : LettersStayTrue
letters_stay_true =
    record {
      append = λ n g h t p q k es gr d. true_append_grows g h gr n t p q k es d;
      request = λ g h t len last gr d. true_request_grows g h gr t len last d;
      vote = λ g h f t b gr d. true_vote_grows g h gr f t b d;
      ack = λ g h f t k gr d. true_ack_grows g h gr f t k d;
      commit = λ n g h t u k gr b d. true_commit_grows n g h gr t u k b d;
    }

pub letters_permit : LettersPermit
letters_permit =
    record {
      on_request = λ n c j t l len last now stable d open_yet far.
          (vote_permitted n c j t l (record { now = now; stable = stable }) (request_vote_ok c.history t l len last d open_yet far), vote_says c.history j t);
      on_append = λ n c j t l p q k es sf now stable d low prev.
          (accept_row n c j t l (record { now = now; stable = stable }) sf p es (append_accept_ok n c.history t l p q k es d low prev)).path;
      on_commit = λ n c j t l p q k i es sf now d low prev kn.
          append_commit_known n c.history sf.inv sf.elections j (state t l) (subst (λ (s : State). Sound n c.history j s) now (sf.now_sound j)) p q k es d
          (append_accept_ok n c.history t l p q k es d low prev) i kn;
    }
