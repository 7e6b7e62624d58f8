-- What may happen to machines one thing after the other, and what is promised of all that ever happened beside the main promise. Assumes nothing: these are definitions and statements.
use Rattle.std.specs.Prelude.{◌≡◌, ℕ, ◌+◌, ◌<◌, ◌≤◌, true, false, List, [], ◌∷◌, length}
use Rattle.std.proofs.Math.Option.{some}
use Rattle.messages.specs.Letter.{request_vote_response, letter_of}
use Rattle.raft.specs.Header.{loaded}
use Rattle.protocol.specs.Lists.{In}
use Rattle.together.specs.House.{pick, Applied, far}
use Rattle.together.specs.Promise.{Machine, machine, machine_at, so_many, Flown, World, world, Item, whole, cut, proper, thing_ran, after_thing}
use Rattle.together_several.specs.Entry.{own}

-- acts that end any event
abbrev pub enough : ℕ
enough = 4106

-- one thing happens, whole or cut short; what is not proper does not. The order is not looked at
unfoldable pub happens : World → Item → World
happens v (whole t) = pick (proper v t) (after_thing v t (thing_ran enough own v t) true v.order) v
happens v (cut t n) = pick (proper v t) (after_thing v t (thing_ran n own v t) false v.order) v

unfoldable pub history : World → List Item → World
history v [] = v
history v (i ∷ is) = history (happens v i) is

-- all machines before their first start
abbrev pub first_world : ℕ → World
first_world many = world (so_many many (machine [] own.start false (far 0 []))) [] [] [] []

abbrev pub after : ℕ → List Item → World
after many is = history (first_world many) is

-- what was ever applied as the same number, by whichever machine and whenever, is the same
unfoldable pub SameNumber : Type 0
SameNumber =
    (many : ℕ) (is : List Item) → 1 ≤ many → many ≤ 7 → length is ≤ 4294967296 → (a b : Applied) → In a (after many is).all_did → In b (after many is).all_did → a.index ≡ b.index →
    a.value ≡ b.value

-- a machine never votes for two in one term: all letters that ever flew are on the wire
unfoldable pub OneVote : Type 0
OneVote =
    (many : ℕ) (is : List Item) → 1 ≤ many → many ≤ 7 → length is ≤ 4294967296 → (x y : Flown) (t : ℕ) → In x (after many is).wire → In y (after many is).wire → x.by_whom ≡ y.by_whom →
    letter_of x.what.bytes ≡ some (request_vote_response t true) → letter_of y.what.bytes ≡ some (request_vote_response t true) → x.what.to ≡ y.what.to

-- the term of a machine: as it is, or as power would make it
abbrev pub term_of : Machine → ℕ
term_of x = (loaded (pick x.up x.memory x.stable)).term.0

-- a machine never lowers its term, over any stop
unfoldable pub TermsLast : Type 0
TermsLast =
    (many : ℕ) (is js : List Item) (h : ℕ) → 1 ≤ many → many ≤ 7 → length is + length js ≤ 4294967296 → h < many →
    term_of (machine_at (after many is).machines h) ≤ term_of (machine_at (history (after many is) js).machines h)
