-- The start is safe, and every permitted move keeps it so. Assumes nothing.
use Rattle.std.proofs.Common.{◌≡◌, ℕ, true, false, List, [], ◌∷◌, ◌++◌, sym, refl, ap, ◌∙◌, subst, inl, inr, arith}
use Rattle.std.proofs.lemmas.Bool.{both_ways, cases_eq}
use Rattle.protocol.specs.Lists.{upd}
use Rattle.protocol.specs.Log.{Log, renew, merge}
use Rattle.protocol.specs.History.{History, no_history, Grows, extended, after_stand, after_vote, after_elect, after_propose, after_ack}
use Rattle.protocol.specs.Invariant.{Inv, Elections, Fresh}
use Rattle.protocol.specs.State.{State, state, Sound}
use Rattle.protocol.specs.Cluster.{Cluster, start, Move, enter, stand, vote, elect, propose, accept, ack, settle, stop, Permitted, becomes, records, after, Action, after_all, AllPermitted, LeadsTo, Reachable, Safe}
use Rattle.protocol.specs.Theorems.{StartSafe, MovesKeepSafe, OthersStaySound, MovesGrow}
use Rattle.protocol.proofs.Updates.{upd_all, upd_same}
use Rattle.protocol.proofs.Quorums.{majority_mono}
use Rattle.protocol.proofs.Grows.{grows_refl, grows_trans}
use Rattle.protocol.proofs.States.{enter_sound, adopt_sound, accept_sound}
use Rattle.protocol.proofs.Stand.{stand_grows, stand_inv, stand_bears, stand_other}
use Rattle.protocol.proofs.Vote.{vote_grows, vote_inv, vote_bears, vote_other}
use Rattle.protocol.proofs.Elect.{elect_grows, elect_inv, elect_elections, elect_bears}
use Rattle.protocol.proofs.Propose.{propose_grows, propose_inv, propose_bears}
use Rattle.protocol.proofs.Ack.{ack_grows, ack_inv, ack_bears, ack_other}
use Rattle.protocol.proofs.Fresh.{start_fresh, elect_fresh, propose_fresh}

none_sound : (n j : ℕ) → Sound n no_history j (state 0 [])
unfolding no_history
none_sound n j =
    record {
      matching = λ i b. absurd (omega arith);
      below = λ i b. absurd (omega arith);
      stands = λ t o e. absurd (both_ways false refl e);
      votes = λ t e. absurd (both_ways false refl e);
      acks = λ t m a. absurd (omega arith);
    }

none_inv : Inv no_history
unfolding no_history
none_inv =
    record {
      match_lead = λ t e. absurd (both_ways false refl e);
      match_cand = λ t e. absurd (both_ways false refl e);
      cand_below = λ t i e. absurd (both_ways false refl e);
      stood_first = λ t e. e;
      leads = λ t e. absurd (both_ways false refl e);
      vote_stood = λ t j e. e;
      ack_led = λ t j m a. absurd (omega arith);
      ack_long = λ t j m a. absurd (omega arith);
      vote_cover = λ v j t m y. absurd (both_ways false refl y);
    }

none_elections : (n : ℕ) → Elections n no_history
unfolding no_history
none_elections n = record { most = λ t e. absurd (both_ways false refl e) }

pub start_safe : StartSafe
unfolding start
start_safe n = record { inv = none_inv; elections = none_elections n; fresh = start_fresh; now_sound = none_sound n; stable_sound = none_sound n }

-- a history that grew, and who was elected is as it was
same_elections : (n : ℕ) (g h : History) → Grows g h → ((t : ℕ) → h.elected t ≡ g.elected t) → Elections n g → Elections n h
same_elections n g h gr same el =
    record { most = λ t e. majority_mono n (g.voted t) (h.voted t) (λ j y. gr.voted_on t j y) (el.most t (sym (same t) ∙ e)) }

module _ (n : ℕ) (c : Cluster) (j : ℕ) (sf : Safe n c) where
  -- machine j's states, and the others', bear a new history
  all_bear : (h : History) (x : ℕ → State) → ((i : ℕ) → Sound n c.history i (x i)) → (Sound n c.history j (x j) → Sound n h j (x j)) →
      ((i : ℕ) → (i ≡ j → ⊥) → (r : State) → Sound n c.history i r → Sound n h i r) → (i : ℕ) → Sound n h i (x i)
  all_bear h x d own other i =
      elim (cases_eq i j) [
        | inl e ↦ subst (λ (k : ℕ). Sound n h k (x k)) (sym e) (own (d j))
        | inr ne ↦ other i ne (x i) (d i)
      ]

  -- and a new state
  now_with : (h : History) (s : State) → Sound n h j s → ((i : ℕ) → (i ≡ j → ⊥) → Sound n h i (c.now i)) → (i : ℕ) → Sound n h i (upd c.now j s i)
  now_with h s d other = upd_all c.now j s (λ i x. Sound n h i x) d other

  -- its state, in the term that a move names
  there_sound : (h : History) (t : ℕ) → (c.now j).term ≡ t → Sound n h j (c.now j) → Sound n h j (state t (c.now j).log)
  there_sound h t e d = subst (λ (x : ℕ). Sound n h j (state x (c.now j).log)) e d

  adopts : (h : History) (t : ℕ) (l : Log ℕ) → Inv h → h.elected t ≡ true → h.lead t ≡ l → (c.now j).term ≡ t → Sound n h j (c.now j) → Sound n h j (state t l)
  adopts h t l ih led is e d =
      subst (λ (x : Log ℕ). Sound n h j (state t x)) is (adopt_sound n h j (state t (c.now j).log) (there_sound h t e d) ih led)

  pub move_grows : (m : Move) → Permitted n c j m → Grows c.history (after c j m).history
  move_grows (enter t) ok = grows_refl c.history
  move_grows (stand t) ok = stand_grows n c.history j (state t (c.now j).log) sf.inv ok.ok
  move_grows (vote t) ok = vote_grows n c.history j (state t (c.now j).log) sf.inv ok.ok
  move_grows (elect t) ok = elect_grows n c.history t sf.inv ok.ok
  move_grows (propose t p) ok = propose_grows n c.history t p sf.inv ok.ok
  move_grows (accept t p es) ok = grows_refl c.history
  move_grows (ack t k) ok = ack_grows n c.history j t k sf.inv ok.holds.led ok.holds.within
  move_grows settle ok = grows_refl c.history
  move_grows stop ok = grows_refl c.history

  pub move_other : (m : Move) → Permitted n c j m → (i : ℕ) → (i ≡ j → ⊥) → (r : State) → Sound n c.history i r → Sound n (after c j m).history i r
  move_other (enter t) ok i ne r d = d
  move_other (stand t) ok i ne r d = stand_other n c.history j (state t (c.now j).log) sf.inv ok.ok i ne r d
  move_other (vote t) ok i ne r d = vote_other n c.history j (state t (c.now j).log) sf.inv ok.ok i ne r d
  move_other (elect t) ok i ne r d = elect_bears n c.history t sf.inv ok.ok i r d
  move_other (propose t p) ok i ne r d = propose_bears n c.history t p sf.inv ok.ok i r d
  move_other (accept t p es) ok i ne r d = d
  move_other (ack t k) ok i ne r d = ack_other n c.history j t k sf.inv ok.holds.led ok.holds.within i ne r d
  move_other settle ok i ne r d = d
  move_other stop ok i ne r d = d

  -- the history is as it was, and j has a new state
  only_state : (s : State) → Sound n c.history j s → Safe n (becomes c j c.history s)
  only_state s d =
      record { inv = sf.inv; elections = sf.elections; fresh = sf.fresh; now_sound = now_with c.history s d (λ i ne. sf.now_sound i); stable_sound = sf.stable_sound }

  -- the history grew by what j said, and its states bear it
  only_history : (h : History) → Inv h → Elections n h → Fresh h → ((i : ℕ) → (i ≡ j → ⊥) → (r : State) → Sound n c.history i r → Sound n h i r) →
      Sound n h j (c.now j) → Sound n h j (c.stable j) → Safe n (records c h)
  only_history h ih el fr other now stable =
      record {
        inv = ih;
        elections = el;
        fresh = fr;
        now_sound = all_bear h c.now sf.now_sound (λ _. now) other;
        stable_sound = all_bear h c.stable sf.stable_sound (λ _. stable) other;
      }

  -- the history grew by what every state bears, and j adopts its leader's log
  leader_moves : (h : History) (t : ℕ) (l : Log ℕ) → Inv h → Elections n h → Fresh h → ((i : ℕ) (r : State) → Sound n c.history i r → Sound n h i r) →
      h.elected t ≡ true → h.lead t ≡ l → (c.now j).term ≡ t → Safe n (becomes c j h (state t l))
  leader_moves h t l ih el fr bears led is e =
      record {
        inv = ih;
        elections = el;
        fresh = fr;
        now_sound = now_with h (state t l) (adopts h t l ih led is e (bears j (c.now j) (sf.now_sound j))) (λ i ne. bears i (c.now i) (sf.now_sound i));
        stable_sound = λ i. bears i (c.stable i) (sf.stable_sound i);
      }

  pub move_safe : (m : Move) → Permitted n c j m → Safe n (after c j m)
  move_safe (enter t) ok = only_state (state t (c.now j).log) (enter_sound n c.history j (c.now j) (sf.now_sound j) t ok)
  move_safe (stand t) ok =
      let s : State = state t (c.now j).log in
      let h = after_stand c.history t (c.now j).log in
      only_history h (stand_inv n c.history j s sf.inv ok.ok (there_sound c.history t ok.there (sf.now_sound j)))
      (same_elections n c.history h (move_grows (stand t) ok) (λ u. refl) sf.elections) (record { low = sf.fresh.low; apart = sf.fresh.apart }) (move_other (stand t) ok)
      (stand_bears n c.history j s sf.inv ok.ok (c.now j) (omega (arith, ok.there)) (sf.now_sound j))
      (stand_bears n c.history j s sf.inv ok.ok (c.stable j) ok.term_stable (sf.stable_sound j))
  move_safe (vote t) ok =
      let s : State = state t (c.now j).log in
      let h = after_vote c.history j t in
      only_history h (vote_inv n c.history j s sf.inv ok.ok (there_sound c.history t ok.there (sf.now_sound j)))
      (same_elections n c.history h (move_grows (vote t) ok) (λ u. refl) sf.elections) (record { low = sf.fresh.low; apart = sf.fresh.apart }) (move_other (vote t) ok)
      (vote_bears n c.history j s sf.inv ok.ok (c.now j) (omega (arith, ok.there)) (sf.now_sound j))
      (vote_bears n c.history j s sf.inv ok.ok (c.stable j) ok.term_stable (sf.stable_sound j))
  move_safe (elect t) ok =
      leader_moves (after_elect c.history t) t (renew t (c.history.cand t)) (elect_inv n c.history t sf.inv ok.ok)
      (elect_elections n c.history t sf.inv ok.ok sf.elections) (elect_fresh n c.history t sf.inv ok.ok sf.fresh)
      (elect_bears n c.history t sf.inv ok.ok) (upd_same c.history.elected t true) (upd_same c.history.lead t (renew t (c.history.cand t))) ok.there
  move_safe (propose t p) ok =
      let h = after_propose c.history t p in
      leader_moves h t (extended c.history t p) (propose_inv n c.history t p sf.inv ok.ok)
      (same_elections n c.history h (move_grows (propose t p) ok) (λ u. refl) sf.elections) (propose_fresh c.history t p ok.ok sf.fresh)
      (propose_bears n c.history t p sf.inv ok.ok) ok.ok.leads (upd_same c.history.lead t (extended c.history t p)) ok.there
  move_safe (accept t p es) ok =
      only_state (state t (merge (c.now j).log p es))
      (accept_sound n c.history j (state t (c.now j).log) (there_sound c.history t ok.there (sf.now_sound j)) sf.inv p es ok.ok)
  move_safe (ack t k) ok =
      let h = after_ack c.history j t k in
      only_history h (ack_inv n c.history j t k sf.inv ok.holds.led ok.holds.within (λ v y. omega (arith, ok.there, (sf.now_sound j).votes v y)))
      (same_elections n c.history h (move_grows (ack t k) ok) (λ u. refl) sf.elections) (record { low = sf.fresh.low; apart = sf.fresh.apart }) (move_other (ack t k) ok)
      (ack_bears n c.history j t k sf.inv ok.holds.led ok.holds.within (c.now j) ok.there ok.holds (sf.now_sound j))
      (ack_bears n c.history j t k sf.inv ok.holds.led ok.holds.within (c.stable j) ok.term_stable ok.log_stable (sf.stable_sound j))
  move_safe settle ok =
      record {
        inv = sf.inv;
        elections = sf.elections;
        fresh = sf.fresh;
        now_sound = sf.now_sound;
        stable_sound = upd_all c.stable j (c.now j) (λ i x. Sound n c.history i x) (sf.now_sound j) (λ i ne. sf.stable_sound i);
      }
  move_safe stop ok = only_state (c.stable j) (sf.stable_sound j)

pub moves_keep_safe : MovesKeepSafe
moves_keep_safe n c j m sf ok = move_safe n c j sf m ok

pub others_stay_sound : OthersStaySound
others_stay_sound n c j m i s sf ok ne d = move_other n c j sf m ok i ne s d

-- rows of moves
all_safe : (n : ℕ) (c : Cluster) (more : List Action) → Safe n c → AllPermitted n c more → Safe n (after_all c more)
all_safe n c [] sf ok = sf
all_safe n c (a ∷ more) sf ok = all_safe n (after c a.who a.what) more (move_safe n c a.who sf a.what ok.0) ok.1

all_grow : (n : ℕ) (c : Cluster) (more : List Action) → Safe n c → AllPermitted n c more → Grows c.history (after_all c more).history
all_grow n c [] sf ok = grows_refl c.history
all_grow n c (a ∷ more) sf ok =
    grows_trans c.history (after c a.who a.what).history (after_all (after c a.who a.what) more).history (move_grows n c a.who sf a.what ok.0)
    (all_grow n (after c a.who a.what) more (move_safe n c a.who sf a.what ok.0) ok.1)

pub leads_safe : (n : ℕ) (c d : Cluster) → Safe n c → LeadsTo n c d → Safe n d
leads_safe n c d sf l = subst (λ (x : Cluster). Safe n x) l.is (all_safe n c l.by sf l.may)

pub moves_grow : MovesGrow
moves_grow n c d sf l = subst (λ (x : Cluster). Grows c.history x.history) l.is (all_grow n c l.by sf l.may)

pub reachable_safe : (n : ℕ) (c : Cluster) → Reachable n c → Safe n c
reachable_safe n c r = leads_safe n start c (start_safe n) r

pub leads_refl : (n : ℕ) (c : Cluster) → LeadsTo n c c
leads_refl n c = record { by = []; may = tt; is = refl }

all_both : (n : ℕ) (c : Cluster) (xs ys : List Action) → AllPermitted n c xs → AllPermitted n (after_all c xs) ys → AllPermitted n c (xs ++ ys)
all_both n c [] ys p q = q
all_both n c (x ∷ xs) ys p q = (p.0, all_both n (after c x.who x.what) xs ys p.1 q)

after_both : (c : Cluster) (xs ys : List Action) → after_all c (xs ++ ys) ≡ after_all (after_all c xs) ys
after_both c [] ys = refl
after_both c (x ∷ xs) ys = after_both (after c x.who x.what) xs ys

pub leads_trans : (n : ℕ) (c d e : Cluster) → LeadsTo n c d → LeadsTo n d e → LeadsTo n c e
leads_trans n c d e a b =
    record {
      by = a.by ++ b.by;
      may = all_both n c a.by b.by a.may (subst (λ (x : Cluster). AllPermitted n x b.by) (sym a.is) b.may);
      is = after_both c a.by b.by ∙ ap (λ (x : Cluster). after_all x b.by) a.is ∙ b.is;
    }
