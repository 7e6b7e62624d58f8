-- Rows of moves of one machine, as its events make them: from a state that is stable to one that is stable. Assumes nothing.
use Rattle.std.proofs.Common.{◌≡◌, ℕ, ◌+◌, ◌<◌, true, false, [], ◌∷◌, length, sym, refl, ap, ◌∙◌, subst, inr, arith}
use Rattle.protocol.specs.Log.{Log, entry_at, last_term, renew, UpToDate, merge}
use Rattle.protocol.specs.History.{History, Grows, owner, extended}
use Rattle.protocol.specs.State.{State, state, Sound, HoldsFirst, StandOk, VoteOk, ElectOk, ProposeOk, AcceptOk}
use Rattle.protocol.specs.Cluster.{Cluster, Move, enter, stand, vote, elect, propose, accept, ack, settle, stop, Permitted, after, act, LeadsTo, Safe}
use Rattle.protocol.proofs.Updates.{upd_same, upd_other}
use Rattle.protocol.proofs.States.{accept_holds}
use Rattle.protocol.proofs.Runs.{leads_refl, leads_trans, leads_safe, moves_grow}

-- all but machine j, and the terms that it owns, is left as it was
pub record Spares (n j : ℕ) (x y : Cluster) : Type 0 where
  pub now : (i : ℕ) → (i ≡ j → ⊥) → y.now i ≡ x.now i
  pub stable : (i : ℕ) → (i ≡ j → ⊥) → y.stable i ≡ x.stable i
  pub elected : (t : ℕ) → (owner n t ≡ j → ⊥) → y.history.elected t ≡ x.history.elected t
  pub lead : (t : ℕ) → (owner n t ≡ j → ⊥) → y.history.lead t ≡ x.history.lead t

move_spares : (n : ℕ) (x : Cluster) (j : ℕ) (m : Move) → Permitted n x j m → Spares n j x (after x j m)
move_spares n x j (enter t) ok = record { now = λ i ne. upd_other x.now j (state t (x.now j).log) i ne; stable = λ i ne. refl; elected = λ u ne. refl; lead = λ u ne. refl }
move_spares n x j (stand t) ok = record { now = λ i ne. refl; stable = λ i ne. refl; elected = λ u ne. refl; lead = λ u ne. refl }
move_spares n x j (vote t) ok = record { now = λ i ne. refl; stable = λ i ne. refl; elected = λ u ne. refl; lead = λ u ne. refl }
move_spares n x j (elect t) ok =
    record {
      now = λ i ne. upd_other x.now j (state t (renew t (x.history.cand t))) i ne;
      stable = λ i ne. refl;
      elected = λ u ne. upd_other x.history.elected t true u (λ q. ne (ap (owner n) q ∙ ok.own));
      lead = λ u ne. upd_other x.history.lead t (renew t (x.history.cand t)) u (λ q. ne (ap (owner n) q ∙ ok.own));
    }
move_spares n x j (propose t p) ok =
    record {
      now = λ i ne. upd_other x.now j (state t (extended x.history t p)) i ne;
      stable = λ i ne. refl;
      elected = λ u ne. refl;
      lead = λ u ne. upd_other x.history.lead t (extended x.history t p) u (λ q. ne (ap (owner n) q ∙ ok.own));
    }
move_spares n x j (accept t p es) ok = record { now = λ i ne. upd_other x.now j (state t (merge (x.now j).log p es)) i ne; stable = λ i ne. refl; elected = λ u ne. refl; lead = λ u ne. refl }
move_spares n x j (ack t k) ok = record { now = λ i ne. refl; stable = λ i ne. refl; elected = λ u ne. refl; lead = λ u ne. refl }
move_spares n x j settle ok = record { now = λ i ne. refl; stable = λ i ne. upd_other x.stable j (x.now j) i ne; elected = λ u ne. refl; lead = λ u ne. refl }
move_spares n x j stop ok = record { now = λ i ne. upd_other x.now j (x.stable j) i ne; stable = λ i ne. refl; elected = λ u ne. refl; lead = λ u ne. refl }

-- a row of permitted moves of machine j
pub record Row (n j : ℕ) (x y : Cluster) : Type 0 where
  pub path : LeadsTo n x y
  pub spares : Spares n j x y

pub row_refl : (n j : ℕ) (x : Cluster) → Row n j x x
row_refl n j x = record { path = leads_refl n x; spares = record { now = λ i ne. refl; stable = λ i ne. refl; elected = λ t ne. refl; lead = λ t ne. refl } }

pub row_one : (n : ℕ) (x : Cluster) (j : ℕ) (m : Move) → Permitted n x j m → Row n j x (after x j m)
row_one n x j m ok = record { path = record { by = act j m ∷ []; may = (ok, tt); is = refl }; spares = move_spares n x j m ok }

pub row_trans : (n j : ℕ) (x y z : Cluster) → Row n j x y → Row n j y z → Row n j x z
row_trans n j x y z a b =
    record {
      path = leads_trans n x y z a.path b.path;
      spares = record {
        now = λ i ne. b.spares.now i ne ∙ a.spares.now i ne;
        stable = λ i ne. b.spares.stable i ne ∙ a.spares.stable i ne;
        elected = λ t ne. b.spares.elected t ne ∙ a.spares.elected t ne;
        lead = λ t ne. b.spares.lead t ne ∙ a.spares.lead t ne;
      };
    }

pub row_safe : (n j : ℕ) (x y : Cluster) → Safe n x → Row n j x y → Safe n y
row_safe n j x y sf r = leads_safe n x y sf r.path

pub row_grows : (n j : ℕ) (x y : Cluster) → Safe n x → Row n j x y → Grows x.history y.history
row_grows n j x y sf r = moves_grow n x y sf r.path

-- machine j is in the state s, and that is stable
pub record SettledAt (x : Cluster) (j : ℕ) (s : State) : Type 0 where
  pub now : x.now j ≡ s
  pub stable : x.stable j ≡ s

settles : (x : Cluster) (j : ℕ) (s : State) → x.now j ≡ s → SettledAt (after x j settle) j s
settles x j s e = record { now = e; stable = upd_same x.stable j (x.now j) ∙ e }

term_of : (a b : State) → a ≡ b → a.term ≡ b.term
term_of a b e = ap (λ (x : State). x.term) e

log_of : (a b : State) → a ≡ b → a.log ≡ b.log
log_of a b e = ap (λ (x : State). x.log) e

-- a leader holds all of its own log
pub holds_own : (g : History) (t : ℕ) (l : Log ℕ) → g.elected t ≡ true → l ≡ g.lead t → HoldsFirst g t (length l) l
holds_own g t l led is =
    record { led = led; within = omega (arith, ap length is); long = omega arith; same = λ i b. ap (λ (x : Log ℕ). entry_at x i) is }

-- it acknowledges what it holds
ack_row : (n : ℕ) (x : Cluster) (j t k : ℕ) (l : Log ℕ) → SettledAt x j (state t l) → HoldsFirst x.history t k l → Row n j x (after x j (ack t k))
ack_row n x j t k l at h =
    row_one n x j (ack t k)
    (record {
      there = term_of _ _ at.now;
      holds = subst (λ (y : Log ℕ). HoldsFirst x.history t k y) (sym (log_of _ _ at.now)) h;
      term_stable = term_of _ _ at.stable;
      log_stable = subst (λ (y : Log ℕ). HoldsFirst x.history t k y) (sym (log_of _ _ at.stable)) h;
    })

-- a move that changes the state, then it is stable, then what it holds is acknowledged
abbrev pub settled_acked : Cluster → ℕ → Move → ℕ → ℕ → Cluster
settled_acked x j m t k = after (after (after x j m) j settle) j (ack t k)

settled_ack_row : (n : ℕ) (x : Cluster) (j : ℕ) (m : Move) (t k : ℕ) (l : Log ℕ) → Permitted n x j m → (after x j m).now j ≡ state t l → HoldsFirst (after x j m).history t k l →
    Row n j x (settled_acked x j m t k)
settled_ack_row n x j m t k l ok e h =
    let y = after x j m in
    let z = after (after x j m) j settle in
    row_trans n j x z (after z j (ack t k)) (row_trans n j x y z (row_one n x j m ok) (row_one n y j settle tt)) (ack_row n z j t k l (settles y j (state t l) e) h)

settled_ack_at : (x : Cluster) (j : ℕ) (m : Move) (t k : ℕ) (l : Log ℕ) → (after x j m).now j ≡ state t l → SettledAt (settled_acked x j m t k) j (state t l)
settled_ack_at x j m t k l e =
    let r = settles (after x j m) j (state t l) e in
    record { now = r.now; stable = r.stable }

module _ (n : ℕ) (x : Cluster) (j t : ℕ) (l : Log ℕ) (at : SettledAt x j (state t l)) where
  there : (x.now j).term ≡ t
  there = term_of _ _ at.now

  log_is : (x.now j).log ≡ l
  log_is = log_of _ _ at.now

  -- it enters a later term
  pub enter_row : (u : ℕ) → t < u → Row n j x (after (after x j (enter u)) j settle)
  enter_row u b =
      row_trans n j x (after x j (enter u)) (after (after x j (enter u)) j settle) (row_one n x j (enter u) (omega (arith, there))) (row_one n (after x j (enter u)) j settle tt)

  pub enter_at : (u : ℕ) → SettledAt (after (after x j (enter u)) j settle) j (state u l)
  enter_at u = settles (after x j (enter u)) j (state u l) (upd_same x.now j (state u (x.now j).log) ∙ ap (state u) log_is)

  -- it votes
  pub vote_permitted : VoteOk x.history t l → Permitted n x j (vote t)
  vote_permitted ok =
      record { there = there; ok = subst (λ (y : Log ℕ). VoteOk x.history t y) (sym log_is) ok; term_stable = omega (arith, term_of _ _ at.stable) }

  pub vote_row : VoteOk x.history t l → Row n j x (after x j (vote t))
  vote_row ok = row_one n x j (vote t) (vote_permitted ok)

  -- it stands, with its own vote
  pub stand_cand : (after x j (stand t)).history.cand t ≡ l
  stand_cand = upd_same x.history.cand t (x.now j).log ∙ log_is

  own_vote_ok : x.history.elected t ≡ false → VoteOk (after x j (stand t)).history t (x.now j).log
  unfolding UpToDate
  own_vote_ok open_yet =
      let e = upd_same x.history.cand t (x.now j).log in
      record { stands = upd_same x.history.stood t true; open_yet = open_yet; up_to_date = inr (ap last_term (sym e), omega (arith, ap length e)) }

  pub stand_row : StandOk n x.history j t → x.history.elected t ≡ false → Row n j x (after (after x j (stand t)) j (vote t))
  stand_row ok open_yet =
      row_trans n j x (after x j (stand t)) (after (after x j (stand t)) j (vote t))
      (row_one n x j (stand t) (record { there = there; ok = ok; term_stable = omega (arith, term_of _ _ at.stable) }))
      (row_one n (after x j (stand t)) j (vote t) (record { there = there; ok = own_vote_ok open_yet; term_stable = omega (arith, term_of _ _ at.stable) }))

  pub stand_at : SettledAt (after (after x j (stand t)) j (vote t)) j (state t l)
  stand_at = record { now = at.now; stable = at.stable }

  -- it is elected
  pub elect_row : owner n t ≡ j → l ≡ x.history.cand t → ElectOk n x.history t → Row n j x (settled_acked x j (elect t) t (length (renew t (x.history.cand t))))
  elect_row own is ok =
      settled_ack_row n x j (elect t) t (length (renew t (x.history.cand t))) (renew t (x.history.cand t))
      (record { there = there; own = own; log_is = log_is ∙ is; ok = ok }) (upd_same x.now j (state t (renew t (x.history.cand t))))
      (holds_own (after x j (elect t)).history t (renew t (x.history.cand t)) (upd_same x.history.elected t true) (sym (upd_same x.history.lead t (renew t (x.history.cand t)))))

  pub elect_at : SettledAt (settled_acked x j (elect t) t (length (renew t (x.history.cand t)))) j (state t (renew t (x.history.cand t)))
  elect_at = settled_ack_at x j (elect t) t (length (renew t (x.history.cand t))) (renew t (x.history.cand t)) (upd_same x.now j (state t (renew t (x.history.cand t))))

  -- it takes a proposal in
  pub propose_row : (p : ℕ) → owner n t ≡ j → l ≡ x.history.lead t → ProposeOk x.history t p →
      Row n j x (settled_acked x j (propose t p) t (length (extended x.history t p)))
  propose_row p own is ok =
      settled_ack_row n x j (propose t p) t (length (extended x.history t p)) (extended x.history t p)
      (record { there = there; own = own; log_is = log_is ∙ is; ok = ok }) (upd_same x.now j (state t (extended x.history t p)))
      (holds_own (after x j (propose t p)).history t (extended x.history t p) ok.leads (sym (upd_same x.history.lead t (extended x.history t p))))

  pub propose_at : (p : ℕ) → SettledAt (settled_acked x j (propose t p) t (length (extended x.history t p))) j (state t (extended x.history t p))
  propose_at p = settled_ack_at x j (propose t p) t (length (extended x.history t p)) (extended x.history t p) (upd_same x.now j (state t (extended x.history t p)))

  -- it accepts entries, and acknowledges as far as they reach
  module _ (sf : Safe n x) (p : ℕ) (es : Log ℕ) (ok : AcceptOk x.history t l p es) where
    accepted : (after x j (accept t p es)).now j ≡ state t (merge l p es)
    accepted = upd_same x.now j (state t (merge (x.now j).log p es)) ∙ ap (λ (y : Log ℕ). state t (merge y p es)) log_is

    pub accept_row : Row n j x (settled_acked x j (accept t p es) t (p + length es))
    accept_row =
        settled_ack_row n x j (accept t p es) t (p + length es) (merge l p es)
        (record { there = there; ok = subst (λ (y : Log ℕ). AcceptOk x.history t y p es) (sym log_is) ok }) accepted
        (accept_holds n x.history j (state t l) (subst (λ (s : State). Sound n x.history j s) at.now (sf.now_sound j)) sf.inv p es ok)

    pub accept_at : SettledAt (settled_acked x j (accept t p es) t (p + length es)) j (state t (merge l p es))
    accept_at = settled_ack_at x j (accept t p es) t (p + length es) (merge l p es) accepted
