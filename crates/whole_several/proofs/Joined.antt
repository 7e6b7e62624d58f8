-- The world of the statements beside a world of the theory: what each machine's memory stands for, what is safe, and what flew. Assumes nothing: these are definitions.
use Rattle.std.proofs.Common.{◌≡◌, ℕ, ◌+◌, ◌<◌, ◌≤◌, true, List, [], ◌∷◌, length}
use mathlib.Core.Option.{some}
use Rattle.raft_log.specs.View.{log_of, Tidy}
use Rattle.raft_log.specs.Entries.{commit_index, applied_number, decided as decided_number}
use Rattle.messages.specs.Letter.{Letter as Message, letter_of, LetterFits}
use Rattle.raft.specs.Header.{loaded}
use Rattle.protocol.specs.Lists.{In, All}
use Rattle.machine.specs.Machine.{Machine, Letter, Persistent}
use Rattle.machine.specs.Maps.{map_log, map_machine, map_letter}
use Rattle.machine.specs.World.{World as Theory, Mail, mail, Reachable}
use Rattle.machine.proofs.Terms.{TermsBelow}
use Rattle.join_several.specs.Stands.{conf, lift_log, Stands}
use Rattle.join_several.specs.Does.{lift_letter, Quiet}
use Rattle.together.specs.House.{nth_value, Far, may_apply}
use Rattle.together.specs.Promise.{are_bytes, all_small, machine_at, Flown, World, last_since}

-- values for the numbers of proposals: those that were proposed, and any for the others
abbrev pub Agrees : (ℕ → List ℕ) → List (List ℕ) → Type 0
Agrees g ps = (i : ℕ) → i < length ps → g i ≡ nth_value ps i

-- MEMORY m of machine h stands for x, whose entries hold numbers of the proposals ps
abbrev pub Means : ℕ → ℕ → List (List ℕ) → List ℕ → Machine ℕ → Type 0
Means n h ps m x = (g : ℕ → List ℕ) → Agrees g ps → Stands n h m (map_machine g x)

-- in the midst of an event: what is applied next is in turn, and no more was applied than is decided
pub record Going (n h : ℕ) (ps : List (List ℕ)) (x : Machine ℕ) (m : List ℕ) (f : Far) : Type 0 where
  pub means : Means n h ps m x
  pub small : all_small m ≡ true
  pub since : (loaded m).since.0 ≡ last_since f.since
  pub turn : may_apply f (applied_number m + 1) ≡ true
  pub low : applied_number m ≤ decided_number m
  pub reach : applied_number m ≤ f.ever
  pub last : decided_number m ≤ applied_number m → last_since f.since ≡ applied_number m

-- at rest: nothing is due
pub record Rests (n h : ℕ) (ps : List (List ℕ)) (x : Machine ℕ) (m : List ℕ) (f : Far) : Type 0 where
  pub going : Going n h ps x m f
  pub quiet : Quiet m
  pub all : decided_number m ≤ applied_number m

-- WHAT IS SAFE in s is k, and no more is noted there as applied than was
pub record Safe (n : ℕ) (ps : List (List ℕ)) (k : Persistent ℕ) (s : List ℕ) (f : Far) : Type 0 where
  pub tidy : Tidy s
  pub small : all_small s ≡ true
  pub log : (g : ℕ → List ℕ) → Agrees g ps → lift_log (log_of s) ≡ map_log g k.log
  pub commit : commit_index s ≡ k.commit
  pub term : (loaded s).term.0 ≡ k.term
  pub low : applied_number s ≤ decided_number s
  pub reach : applied_number s ≤ f.ever

-- A LETTER on the wire is one that flew in the theory's world
pub record Carried (ps : List (List ℕ)) (w : Theory) (l : Flown) : Type 0 where
  pub message : Message
  pub letter : Letter ℕ
  pub bytes : are_bytes l.what.bytes ≡ true
  pub reads : letter_of l.what.bytes ≡ some message
  pub fits : LetterFits message
  pub flew : In (mail l.by_whom l.what.to letter) w.network
  pub means : (g : ℕ → List ℕ) → Agrees g ps → lift_letter message ≡ map_letter g letter

-- letters on the wire, beside those that flew in the theory's world, in the same order
pub record Boxed (ps : List (List ℕ)) (w : Theory) (l : Flown) (m : Mail) : Type 0 where
  pub carried : Carried ps w l
  pub same : mail l.by_whom l.what.to carried.letter ≡ m

abbrev pub Boxes : List (List ℕ) → Theory → List Flown → List Mail → Type 0
Boxes ps w [] [] = Unit {0}
Boxes ps w [] (m ∷ ms) = ⊥
Boxes ps w (l ∷ ls) [] = ⊥
Boxes ps w (l ∷ ls) (m ∷ ms) = Boxed ps w l m × Boxes ps w ls ms

-- THE WORLD after k things, of n machines
pub record Joined (n k : ℕ) (v : World) (w : Theory) : Type 0 where
  pub some_are : 1 ≤ n
  pub few : n ≤ 7
  pub number : length v.machines ≡ n
  pub reach : Reachable (conf n) w
  pub terms : TermsBelow w k
  pub proposals : length v.proposed ≡ w.proposals
  pub order : v.order ≡ w.order
  pub wire : All (Carried v.proposed w) v.wire
  pub up : (h : ℕ) → h < n → (machine_at v.machines h).up ≡ w.up h
  pub safe : (h : ℕ) → h < n → Safe n v.proposed (w.stable h) (machine_at v.machines h).stable (machine_at v.machines h).how_it_got
  pub rests : (h : ℕ) → h < n → (machine_at v.machines h).up ≡ true → Rests n h v.proposed (w.memory h) (machine_at v.machines h).memory (machine_at v.machines h).how_it_got
  pub ever : (h : ℕ) → h < n → (machine_at v.machines h).how_it_got.ever ≤ length v.order
