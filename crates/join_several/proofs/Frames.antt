-- What a change leaves of what memory stands for.
use Rattle.std.proofs.Common.{◌≡◌, ℕ, ◌+◌, ◌<◌, ◌≤◌, eqb, ◌≢◌, List, length, get_or, set, sym, ap, ◌∙◌, subst, arith}
use Rattle.std.proofs.lemmas.List.{length-set, get_or-set_other}
use Rattle.raft_log.specs.View.{log_of, Tidy}
use Rattle.raft_log.specs.Entries.{commit_index, applied_number}
use Rattle.raft_log.proofs.LogLaws.{same_entries, same_commit, same_applied}
use Rattle.raft_log.proofs.LogChanges.{header_log, header_tidy}
use Rattle.raft.specs.declared.header.Role.{Role as Kind}
use Rattle.raft.specs.declared.header.Role.TheVariants.{Follower, Candidate, Leader}
use Rattle.raft.specs.declared.header.Machine.{Machine as Header}
use Rattle.raft.specs.declared.say.Due.{Due}
use Rattle.raft.specs.Header.{loaded, stored}
use Rattle.raft.specs.Rows.{row_set}
use Rattle.raft.specs.Say.{said_to_others, said_to, answered}
use Rattle.raft.proofs.HeaderLaws.{Held, loaded_stored, loaded_alike, length_stored, stored_other}
use Rattle.raft.proofs.RowLaws.{length_row_put, row_put_other}
use Rattle.machine.specs.Machine.{Machine}
use Rattle.join_several.specs.Stands.{lift_log, RoleStands, Stands}

-- the rows of votes and progress are as they were
pub role_alike : (n : ℕ) (m m₁ : List ℕ) (k : Kind) (x : Machine (List ℕ)) → n ≤ 7 → ((i : ℕ) → 8 ≤ i → i < 29 → get_or m₁ i 0 ≡ get_or m i 0) → RoleStands n m k x → RoleStands n m₁ k x
role_alike n m m₁ (Follower e h) x few same r = r
role_alike n m m₁ (Candidate e) x few same r =
    record { votes = r.votes; role = r.role; elapsed = r.elapsed; counted = λ j l. ap (eqb 1) (same (8 + j) (omega arith) (omega arith)) ∙ r.counted j l }
role_alike n m m₁ Leader x few same r =
    record {
      acked = r.acked;
      next = r.next;
      role = r.role;
      matched = λ j l. same (15 + j) (omega arith) (omega arith) ∙ r.matched j l;
      sent = λ j l. same (22 + j) (omega arith) (omega arith) ∙ r.sent j l;
      acked_most = r.acked_most;
      next_most = r.next_most;
    }

-- the log and how much of it is decided
module _ (m m₁ : List ℕ) (long : length m₁ ≡ length m) (behind : (i : ℕ) → 64 ≤ i → get_or m₁ i 0 ≡ get_or m i 0) where
  pub commit_alike : commit_index m₁ ≡ commit_index m
  commit_alike = same_commit m m₁ (same_entries m m₁ (behind 64 (omega arith)) (λ i l. behind i (omega arith))) (behind 65 (omega arith))

  pub applied_alike : applied_number m₁ ≡ applied_number m
  applied_alike = same_applied m m₁ (behind 66 (omega arith))

-- OTHER WORDS BEFORE THE LOG: what memory stands for then
pub stands_from :
    (n id : ℕ) (m m₁ : List ℕ) (y : Header Kind) (x : Machine (List ℕ)) → length m₁ ≡ length m → ((i : ℕ) → 64 ≤ i → get_or m₁ i 0 ≡ get_or m i 0) → loaded m₁ ≡ y →
    Tidy m → y.size.0 ≡ n → y.id.0 ≡ id → y.term.0 ≡ x.term → lift_log (log_of m) ≡ x.log → commit_index m ≡ x.commit → RoleStands n m₁ y.role x → Stands n id m₁ x
stands_from n id m m₁ y x long behind e tidy size self term log commit role =
    record {
      tidy = header_tidy m m₁ long behind tidy;
      size = ap (λ (z : Header Kind). z.size.0) e ∙ size;
      self = ap (λ (z : Header Kind). z.id.0) e ∙ self;
      term = ap (λ (z : Header Kind). z.term.0) e ∙ term;
      log = ap lift_log (header_log m m₁ long behind) ∙ log;
      commit = commit_alike m m₁ long behind ∙ commit;
      role = subst (λ (k : Kind). RoleStands n m₁ k x) (sym (ap (λ (z : Header Kind). z.role) e)) role;
    }

-- A CHANGE OF THE WORDS 29 to 63, which hold the letters that are due, leaves what memory stands for
module _ (m m₁ : List ℕ) (long : length m₁ ≡ length m) (before : (i : ℕ) → i < 29 → get_or m₁ i 0 ≡ get_or m i 0) (behind : (i : ℕ) → 64 ≤ i → get_or m₁ i 0 ≡ get_or m i 0) where
  pub loaded_same : loaded m₁ ≡ loaded m
  loaded_same = loaded_alike m m₁ (λ i l. before i (omega arith))

  pub stands_alike : (n id : ℕ) (x : Machine (List ℕ)) → n ≤ 7 → Stands n id m x → Stands n id m₁ x
  stands_alike n id x few s =
      stands_from n id m m₁ (loaded m) x long behind loaded_same s.tidy s.size s.self s.term s.log s.commit (role_alike n m m₁ (loaded m).role x few (λ i a b. before i b) s.role)

-- letters that are due
module _ (m : List ℕ) (f : ℕ → ℕ) where
  pub due_row_long : length (row_set m 29 f) ≡ length m
  due_row_long = length_row_put m 29 f 7

  pub due_row_before : (i : ℕ) → i < 29 → get_or (row_set m 29 f) i 0 ≡ get_or m i 0
  due_row_before i l = row_put_other m 29 f 7 i (λ j b. omega arith)

  pub due_row_behind : (i : ℕ) → 36 ≤ i → get_or (row_set m 29 f) i 0 ≡ get_or m i 0
  due_row_behind i l = row_put_other m 29 f 7 i (λ j b. omega arith)

  pub stands_row : (n id : ℕ) (x : Machine (List ℕ)) → n ≤ 7 → Stands n id m x → Stands n id (row_set m 29 f) x
  stands_row n id x few s = stands_alike m (row_set m 29 f) due_row_long due_row_before (λ i l. due_row_behind i (omega arith)) n id x few s

pub stands_said_others : (m : List ℕ) (h : Header Kind) (d : Due) (n id : ℕ) (x : Machine (List ℕ)) → n ≤ 7 → Stands n id m x → Stands n id (said_to_others m h d) x
unfolding said_to_others
stands_said_others m h d n id x few s = stands_row m _ n id x few s

pub stands_said : (m : List ℕ) (j : ℕ) (d : Due) (n id : ℕ) (x : Machine (List ℕ)) → n ≤ 7 → Stands n id m x → Stands n id (said_to m j d) x
unfolding said_to
stands_said m j d n id x few s = stands_row m _ n id x few s

pub answered_other : (m : List ℕ) (j : ℕ) (d : Due) (a b i : ℕ) → i ≢ 36 → i ≢ 37 → get_or (answered m j d a b) i 0 ≡ get_or (said_to m j d) i 0
unfolding answered
answered_other m j d a b i p q = get_or-set_other (set (said_to m j d) 36 a) 37 i b 0 q ∙ get_or-set_other (said_to m j d) 36 i a 0 p

length_answered : (m : List ℕ) (j : ℕ) (d : Due) (a b : ℕ) → length (answered m j d a b) ≡ length (said_to m j d)
unfolding answered
length_answered m j d a b = simp length-set

pub stands_answered : (m : List ℕ) (j : ℕ) (d : Due) (a b n id : ℕ) (x : Machine (List ℕ)) → n ≤ 7 → Stands n id m x → Stands n id (answered m j d a b) x
stands_answered m j d a b n id x few s =
    stands_alike (said_to m j d) (answered m j d a b) (length_answered m j d a b) (λ i l. answered_other m j d a b i (omega arith) (omega arith))
    (λ i l. answered_other m j d a b i (omega arith) (omega arith)) n id x few (stands_said m j d n id x few s)

-- A NEW STRUCT over a memory whose log and rows are right
pub stands_stored :
    (n id : ℕ) (m : List ℕ) (y : Header Kind) (x : Machine (List ℕ)) → n ≤ 7 → Tidy m → Held y → y.size.0 ≡ n → y.id.0 ≡ id → y.term.0 ≡ x.term →
    lift_log (log_of m) ≡ x.log → commit_index m ≡ x.commit → RoleStands n m y.role x → Stands n id (stored m y) x
stands_stored n id m y x few tidy held size self term log commit role =
    stands_from n id m (stored m y) y x (length_stored m y) (λ i l. stored_other m y i (omega arith)) (loaded_stored m y tidy.entries.long held) tidy size self term log commit
    (role_alike n m (stored m y) y.role x few (λ i a b. stored_other m y i a) role)
