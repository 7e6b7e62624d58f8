-- What a change leaves of what memory stands for, where nothing bounds what a leader holds for acknowledged and sends next.
use Rattle.std.proofs.Common.{◌≡◌, ℕ, ◌+◌, ◌<◌, ◌≤◌, eqb, List, length, get_or, sym, ap, ◌∙◌, subst, arith}
use Rattle.std.proofs.lemmas.List.{length-set}
use Rattle.raft_log.specs.View.{log_of, Tidy}
use Rattle.raft_log.specs.Entries.{commit_index}
use Rattle.raft_log.proofs.LogChanges.{header_log, header_tidy}
use Rattle.raft.specs.declared.header.Role.{Role as Kind}
use Rattle.raft.specs.declared.header.Role.TheVariants.{Follower, Candidate, Leader}
use Rattle.raft.specs.declared.header.Machine.{Machine as Header}
use Rattle.raft.specs.declared.say.Due.{Due}
use Rattle.raft.specs.Header.{loaded, stored}
use Rattle.raft.specs.Rows.{row_set}
use Rattle.raft.specs.Say.{said_to_others, said_to, answered}
use Rattle.raft.proofs.HeaderLaws.{Held, loaded_stored, length_stored, stored_other}
use Rattle.machine.specs.Machine.{leader, Machine}
use Rattle.join_several.specs.Stands.{lift_log, Follows, Stood, RoleStands, Stands}
use Rattle.join_several.proofs.Frames.{commit_alike, loaded_same, due_row_long, due_row_before, due_row_behind, answered_other}

-- what a leader knows, with any numbers in its rows
pub record LeadsLoosely (n : ℕ) (m : List ℕ) (x : Machine (List ℕ)) : Type 0 where
  pub acked : ℕ → ℕ
  pub next : ℕ → ℕ
  pub role : x.role ≡ leader acked next
  pub matched : (j : ℕ) → j < n → get_or m (15 + j) 0 ≡ acked j
  pub sent : (j : ℕ) → j < n → get_or m (22 + j) 0 ≡ next j

abbrev pub RoleStandsLoosely : ℕ → List ℕ → Kind → Machine (List ℕ) → Type 0
RoleStandsLoosely n m (Follower e h) x = Follows e.0 h x
RoleStandsLoosely n m (Candidate e) x = Stood n m e.0 x
RoleStandsLoosely n m Leader x = LeadsLoosely n m x

-- MEMORY m of machine id of n stands loosely for x
pub record StandsLoosely (n id : ℕ) (m : List ℕ) (x : Machine (List ℕ)) : Type 0 where
  pub tidy : Tidy m
  pub size : (loaded m).size.0 ≡ n
  pub self : (loaded m).id.0 ≡ id
  pub term : (loaded m).term.0 ≡ x.term
  pub log : lift_log (log_of m) ≡ x.log
  pub commit : commit_index m ≡ x.commit
  pub role : RoleStandsLoosely n m (loaded m).role x

-- a memory that stands for x does so loosely
role_loosely : (n : ℕ) (m : List ℕ) (k : Kind) (x : Machine (List ℕ)) → RoleStands n m k x → RoleStandsLoosely n m k x
role_loosely n m (Follower e h) x r = r
role_loosely n m (Candidate e) x r = r
role_loosely n m Leader x r = record { acked = r.acked; next = r.next; role = r.role; matched = r.matched; sent = r.sent }

pub stands_loosely : (n id : ℕ) (m : List ℕ) (x : Machine (List ℕ)) → Stands n id m x → StandsLoosely n id m x
stands_loosely n id m x s =
    record { tidy = s.tidy; size = s.size; self = s.self; term = s.term; log = s.log; commit = s.commit; role = role_loosely n m (loaded m).role x s.role }

-- the rows of votes and progress are as they were
pub role_alike :
    (n : ℕ) (m m₁ : List ℕ) (k : Kind) (x : Machine (List ℕ)) → n ≤ 7 → ((i : ℕ) → 8 ≤ i → i < 29 → get_or m₁ i 0 ≡ get_or m i 0) → RoleStandsLoosely n m k x →
    RoleStandsLoosely n m₁ k x
role_alike n m m₁ (Follower e h) x few same r = r
role_alike n m m₁ (Candidate e) x few same r =
    record { votes = r.votes; role = r.role; elapsed = r.elapsed; counted = λ j l. ap (eqb 1) (same (8 + j) (omega arith) (omega arith)) ∙ r.counted j l }
role_alike n m m₁ Leader x few same r =
    record {
      acked = r.acked;
      next = r.next;
      role = r.role;
      matched = λ j l. same (15 + j) (omega arith) (omega arith) ∙ r.matched j l;
      sent = λ j l. same (22 + j) (omega arith) (omega arith) ∙ r.sent j l;
    }

-- OTHER WORDS BEFORE THE LOG: what memory stands for then
stands_from :
    (n id : ℕ) (m m₁ : List ℕ) (y : Header Kind) (x : Machine (List ℕ)) → length m₁ ≡ length m → ((i : ℕ) → 64 ≤ i → get_or m₁ i 0 ≡ get_or m i 0) → loaded m₁ ≡ y →
    Tidy m → y.size.0 ≡ n → y.id.0 ≡ id → y.term.0 ≡ x.term → lift_log (log_of m) ≡ x.log → commit_index m ≡ x.commit → RoleStandsLoosely n m₁ y.role x → StandsLoosely n id m₁ x
stands_from n id m m₁ y x long behind e tidy size self term log commit role =
    record {
      tidy = header_tidy m m₁ long behind tidy;
      size = ap (λ (z : Header Kind). z.size.0) e ∙ size;
      self = ap (λ (z : Header Kind). z.id.0) e ∙ self;
      term = ap (λ (z : Header Kind). z.term.0) e ∙ term;
      log = ap lift_log (header_log m m₁ long behind) ∙ log;
      commit = commit_alike m m₁ long behind ∙ commit;
      role = subst (λ (k : Kind). RoleStandsLoosely n m₁ k x) (sym (ap (λ (z : Header Kind). z.role) e)) role;
    }

-- A CHANGE OF THE WORDS 29 to 63, which hold the letters that are due, leaves what memory stands for
module _ (m m₁ : List ℕ) (long : length m₁ ≡ length m) (before : (i : ℕ) → i < 29 → get_or m₁ i 0 ≡ get_or m i 0) (behind : (i : ℕ) → 64 ≤ i → get_or m₁ i 0 ≡ get_or m i 0) where
  pub stands_alike : (n id : ℕ) (x : Machine (List ℕ)) → n ≤ 7 → StandsLoosely n id m x → StandsLoosely n id m₁ x
  stands_alike n id x few s =
      stands_from n id m m₁ (loaded m) x long behind (loaded_same m m₁ long before behind) s.tidy s.size s.self s.term s.log s.commit
      (role_alike n m m₁ (loaded m).role x few (λ i a b. before i b) s.role)

-- letters that are due
pub stands_row : (m : List ℕ) (f : ℕ → ℕ) (n id : ℕ) (x : Machine (List ℕ)) → n ≤ 7 → StandsLoosely n id m x → StandsLoosely n id (row_set m 29 f) x
stands_row m f n id x few s = stands_alike m (row_set m 29 f) (due_row_long m f) (due_row_before m f) (λ i l. due_row_behind m f i (omega arith)) n id x few s

pub stands_said_others : (m : List ℕ) (h : Header Kind) (d : Due) (n id : ℕ) (x : Machine (List ℕ)) → n ≤ 7 → StandsLoosely n id m x → StandsLoosely n id (said_to_others m h d) x
unfolding said_to_others
stands_said_others m h d n id x few s = stands_row m _ n id x few s

pub stands_said : (m : List ℕ) (j : ℕ) (d : Due) (n id : ℕ) (x : Machine (List ℕ)) → n ≤ 7 → StandsLoosely n id m x → StandsLoosely n id (said_to m j d) x
unfolding said_to
stands_said m j d n id x few s = stands_row m _ n id x few s

length_answered : (m : List ℕ) (j : ℕ) (d : Due) (a b : ℕ) → length (answered m j d a b) ≡ length (said_to m j d)
unfolding answered
length_answered m j d a b = simp length-set

pub stands_answered : (m : List ℕ) (j : ℕ) (d : Due) (a b n id : ℕ) (x : Machine (List ℕ)) → n ≤ 7 → StandsLoosely n id m x → StandsLoosely n id (answered m j d a b) x
stands_answered m j d a b n id x few s =
    stands_alike (said_to m j d) (answered m j d a b) (length_answered m j d a b) (λ i l. answered_other m j d a b i (omega arith) (omega arith))
    (λ i l. answered_other m j d a b i (omega arith) (omega arith)) n id x few (stands_said m j d n id x few s)

-- A NEW STRUCT over a memory whose log and rows are right
pub stands_stored :
    (n id : ℕ) (m : List ℕ) (y : Header Kind) (x : Machine (List ℕ)) → n ≤ 7 → Tidy m → Held y → y.size.0 ≡ n → y.id.0 ≡ id → y.term.0 ≡ x.term →
    lift_log (log_of m) ≡ x.log → commit_index m ≡ x.commit → RoleStandsLoosely n m y.role x → StandsLoosely n id (stored m y) x
stands_stored n id m y x few tidy held size self term log commit role =
    stands_from n id m (stored m y) y x (length_stored m y) (λ i l. stored_other m y i (omega arith)) (loaded_stored m y tidy.entries.long held) tidy size self term log commit
    (role_alike n m (stored m y) y.role x few (λ i a b. stored_other m y i a) role)
