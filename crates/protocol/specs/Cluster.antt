-- A history, and of each machine its state and what of it is stable; what may happen, one thing after another. Assumes nothing: these are definitions.
use Rattle.std.specs.Prelude.{◌≡◌, ℕ, ◌<◌, ◌≤◌, List, [], ◌∷◌}
use Rattle.protocol.specs.Lists.{upd}
use Rattle.protocol.specs.Log.{Log, renew, merge}
use Rattle.protocol.specs.History.{History, no_history, owner, extended, after_stand, after_vote, after_elect, after_propose, after_ack}
use Rattle.protocol.specs.Invariant.{Inv, Elections, Fresh}
use Rattle.protocol.specs.State.{State, state, Sound, HoldsFirst, StandOk, VoteOk, ElectOk, ProposeOk, AcceptOk}

pub record Cluster : Type 0 where
  pub history : History
  pub now : ℕ → State
  pub stable : ℕ → State

unfoldable pub start : Cluster
start = record { history = no_history; now = λ _. state 0 []; stable = λ _. state 0 [] }

-- what machine j does, in a term: each is one move
pub data Move : Type 0 where
  enter : ℕ → Move  -- a later term
  stand : ℕ → Move  -- its own term
  vote : ℕ → Move  -- for the one who stands
  elect : ℕ → Move  -- it has the votes, and begins with its empty entry
  propose : ℕ → ℕ → Move  -- it leads, and takes a proposal in
  accept : ℕ → ℕ → Log ℕ → Move  -- entries of the leader, from a place on
  ack : ℕ → ℕ → Move  -- so many first entries of the leader's log
  settle : Move  -- its state is stable from now on
  stop : Move  -- its power went: its state is again what was stable

-- a term is stable before one stands or votes in it, and entries before they are acknowledged
pub record StandPermitted (n : ℕ) (g : History) (j t : ℕ) (now stable : State) : Type 0 where
  pub there : now.term ≡ t
  pub ok : StandOk n g j t
  pub term_stable : t ≤ stable.term

pub record VotePermitted (g : History) (t : ℕ) (now stable : State) : Type 0 where
  pub there : now.term ≡ t
  pub ok : VoteOk g t now.log
  pub term_stable : t ≤ stable.term

pub record ElectPermitted (n : ℕ) (g : History) (j t : ℕ) (now : State) : Type 0 where
  pub there : now.term ≡ t
  pub own : owner n t ≡ j
  pub log_is : now.log ≡ g.cand t
  pub ok : ElectOk n g t

pub record ProposePermitted (n : ℕ) (g : History) (j t p : ℕ) (now : State) : Type 0 where
  pub there : now.term ≡ t
  pub own : owner n t ≡ j
  pub log_is : now.log ≡ g.lead t
  pub ok : ProposeOk g t p

pub record AcceptPermitted (g : History) (t p : ℕ) (es : Log ℕ) (now : State) : Type 0 where
  pub there : now.term ≡ t
  pub ok : AcceptOk g t now.log p es

pub record AckPermitted (g : History) (t k : ℕ) (now stable : State) : Type 0 where
  pub there : now.term ≡ t
  pub holds : HoldsFirst g t k now.log
  pub term_stable : stable.term ≡ t
  pub log_stable : HoldsFirst g t k stable.log

abbrev pub Permitted : ℕ → Cluster → ℕ → Move → Type 0
Permitted n c j (enter t) = (c.now j).term < t
Permitted n c j (stand t) = StandPermitted n c.history j t (c.now j) (c.stable j)
Permitted n c j (vote t) = VotePermitted c.history t (c.now j) (c.stable j)
Permitted n c j (elect t) = ElectPermitted n c.history j t (c.now j)
Permitted n c j (propose t p) = ProposePermitted n c.history j t p (c.now j)
Permitted n c j (accept t p es) = AcceptPermitted c.history t p es (c.now j)
Permitted n c j (ack t k) = AckPermitted c.history t k (c.now j) (c.stable j)
Permitted n c j settle = Unit {0}
Permitted n c j stop = Unit {0}

-- history is g, and machine j is in the state s
abbrev pub becomes : Cluster → ℕ → History → State → Cluster
becomes c j g s = record { history = g; now = upd c.now j s; stable = c.stable }

abbrev pub records : Cluster → History → Cluster
records c g = record { history = g; now = c.now; stable = c.stable }

abbrev pub after : Cluster → ℕ → Move → Cluster
after c j (enter t) = becomes c j c.history (state t (c.now j).log)
after c j (stand t) = records c (after_stand c.history t (c.now j).log)
after c j (vote t) = records c (after_vote c.history j t)
after c j (elect t) = becomes c j (after_elect c.history t) (state t (renew t (c.history.cand t)))
after c j (propose t p) = becomes c j (after_propose c.history t p) (state t (extended c.history t p))
after c j (accept t p es) = becomes c j c.history (state t (merge (c.now j).log p es))
after c j (ack t k) = records c (after_ack c.history j t k)
after c j settle = record { history = c.history; now = c.now; stable = upd c.stable j (c.now j) }
after c j stop = becomes c j c.history (c.stable j)

pub record Action : Type 0 where
  pub who : ℕ
  pub what : Move

abbrev pub act : ℕ → Move → Action
act j m = record { who = j; what = m }

abbrev pub after_all : Cluster → List Action → Cluster
after_all c [] = c
after_all c (a ∷ more) = after_all (after c a.who a.what) more

abbrev pub AllPermitted : ℕ → Cluster → List Action → Type 0
AllPermitted n c [] = Unit {0}
AllPermitted n c (a ∷ more) = Permitted n c a.who a.what × AllPermitted n (after c a.who a.what) more

-- a row of permitted moves leads from c to d
pub record LeadsTo (n : ℕ) (c d : Cluster) : Type 0 where
  pub by : List Action
  pub may : AllPermitted n c by
  pub is : after_all c by ≡ d

abbrev pub Reachable : ℕ → Cluster → Type 0
Reachable n c = LeadsTo n start c

-- the invariant: the history is right, and all that a machine has, or would have after a stop, fits it
pub record Safe (n : ℕ) (c : Cluster) : Type 0 where
  pub inv : Inv c.history
  pub elections : Elections n c.history
  pub fresh : Fresh c.history
  pub now_sound : (j : ℕ) → Sound n c.history j (c.now j)
  pub stable_sound : (j : ℕ) → Sound n c.history j (c.stable j)
