-- What is promised of machines in any world. Assumes nothing: these are statements.
use Rattle.std.specs.Prelude.{◌≡◌, ℕ, ◌+◌, ◌*◌, ◌<◌, ◌≤◌, Bool, true, length, take, slice_index}
use Rattle.protocol.specs.Lists.{In, All, Apart, Begins, Alike}
use Rattle.protocol.specs.Log.{content_at, decisions}
use Rattle.protocol.specs.Cluster.{Cluster, start}
use Rattle.machine.specs.Machine.{vote, Conf, Machine, leader, Input, restart, decided}
use Rattle.machine.specs.Step.{is_majority, step}
use Rattle.machine.specs.World.{mail, World, Item, Possible, Allowed, next, initial, At, RunsTo, Reachable}
use Rattle.machine.specs.Fits.{Refines, RefinesAfter}

-- the start is a world of the start of the protocol, and whatever may happen is a row of permitted moves, after which each letter that flew is true
abbrev pub InitialRefines : Type 0
InitialRefines = (c : Conf) → Refines c initial start

abbrev pub ItemsAreMoves : Type 0
ItemsAreMoves = (c : Conf) (w : World) (d : Cluster) (a : Item) → Refines c w d → Allowed c w a → RefinesAfter c w (next c w a) d

-- there is an order that only grows at its end, and all that any machine holds for decided begins it
abbrev pub GlobalOrder : Type 0
GlobalOrder =
    (c : Conf) (w v : World) → Reachable c w → RunsTo c w v →
    Begins w.order v.order × ((j : ℕ) (m : Machine ℕ) → At w j m → Begins (decided m) w.order)

-- the order has only proposals that were made, and none twice
abbrev pub OrderOnce : Type 0
OrderOnce = (c : Conf) (w : World) → Reachable c w → All (λ p. p < w.proposals) w.order × Apart w.order

-- what one holds for decided, and what any holds for decided then or later, are of one order
abbrev pub Agree : Type 0
Agree =
    (c : Conf) (w v : World) (i j : ℕ) (m m' : Machine ℕ) → Reachable c w → RunsTo c w v → At w i m → At v j m' → Alike (decided m) (decided m')

-- entry by entry
abbrev pub SamePlaces : Type 0
SamePlaces =
    (c : Conf) (w v : World) (i j : ℕ) (m m' : Machine ℕ) (x : ℕ) → Reachable c w → RunsTo c w v → At w i m → At v j m' → x < m.commit → x < m'.commit →
    content_at m.log x ≡ content_at m'.log x

-- a decision's number says which it is, for all and at all times
abbrev pub SameNumbers : Type 0
SameNumbers =
    (c : Conf) (w v : World) (i j : ℕ) (m m' : Machine ℕ) (d : ℕ) → Reachable c w → RunsTo c w v → At w i m → At v j m' → d < length (decided m) → d < length (decided m') →
    slice_index (decided m) d ≡ slice_index (decided m') d

-- who holds more entries for committed has all that any other had
abbrev pub Further : Type 0
Further =
    (c : Conf) (w v : World) (i j : ℕ) (m m' : Machine ℕ) → Reachable c w → RunsTo c w v → At w i m → At v j m' → m.commit ≤ m'.commit →
    Begins (decided m) (decided m')

-- no two lead in one term, at whatever times
abbrev pub OneLeader : Type 0
OneLeader =
    (c : Conf) (w v : World) (i j : ℕ) (a b a' b' : ℕ → ℕ) → Reachable c w → RunsTo c w v → w.up i ≡ true → v.up j ≡ true → (w.memory i).role ≡ leader a b →
    (v.memory j).role ≡ leader a' b' → (w.memory i).term ≡ (v.memory j).term → i ≡ j

-- while more than half are up and in one term, the leader of that term has all that any machine ever held for decided
abbrev pub LeaderHasOrder : Type 0
LeaderHasOrder =
    (c : Conf) (w : World) (up : ℕ → Bool) (t i : ℕ) (a b : ℕ → ℕ) → Reachable c w → is_majority c up ≡ true → ((j : ℕ) → up j ≡ true → (w.up j ≡ true) × ((w.memory j).term ≡ t)) →
    w.up i ≡ true → (w.memory i).term ≡ t → (w.memory i).role ≡ leader a b → Begins w.order (decisions (w.memory i).log)

-- in one term a machine votes for one only, over any stop
abbrev pub OneVote : Type 0
OneVote =
    (c : Conf) (w v : World) (f a b t : ℕ) → Reachable c w → RunsTo c w v → In (mail f a (vote t true)) w.network → In (mail f b (vote t true)) v.network → a ≡ b

-- an event never lowers the term, and never lowers commit
abbrev pub TermsRise : Type 0
TermsRise = (c : Conf) (j : ℕ) (m : Machine ℕ) (e : Input ℕ) → m.term ≤ (step c j m e).now.term

abbrev pub CommitRises : Type 0
CommitRises = (c : Conf) (j : ℕ) (m : Machine ℕ) (e : Input ℕ) → m.commit ≤ (step c j m e).now.commit

-- a machine's term only rises, over any stop
abbrev pub TermsLast : Type 0
TermsLast = (c : Conf) (w v : World) (j : ℕ) (m m' : Machine ℕ) → Reachable c w → RunsTo c w v → At w j m → At v j m' → m.term ≤ m'.term

-- an event of a machine that is up only adds to what it holds for decided
abbrev pub EventsExtend : Type 0
EventsExtend =
    (c : Conf) (w : World) (j : ℕ) (e : Input ℕ) → Reachable c w → w.up j ≡ true → Possible w j e → Begins (decided (w.memory j)) (decided (step c j (w.memory j) e).now)

-- what is stable is at most what is in memory, and only grows
abbrev pub StableGrows : Type 0
StableGrows =
    (c : Conf) (w v : World) (j : ℕ) → Reachable c w → RunsTo c w v →
    Begins (decided (restart (w.stable j))) (decided (restart (v.stable j))) × (w.up j ≡ true → Begins (decided (restart (w.stable j))) (decided (w.memory j)))

-- what a leader holds for acknowledged by one that is up and in its term, that one has
abbrev pub AcksHeld : Type 0
AcksHeld =
    (c : Conf) (w : World) (i j : ℕ) (a b : ℕ → ℕ) → Reachable c w → w.up i ≡ true → w.up j ≡ true → (w.memory i).role ≡ leader a b → (w.memory j).term ≡ (w.memory i).term →
    take (a j) (w.memory j).log ≡ take (a j) (w.memory i).log

-- logs stay small: no more values than there is room for, and one more empty entry than that
abbrev pub LogsStaySmall : Type 0
LogsStaySmall = (c : Conf) (w : World) (j : ℕ) (m : Machine ℕ) → Reachable c w → At w j m → (length (decisions m.log) ≤ c.room) × (length m.log ≤ 2 * c.room + 1)
