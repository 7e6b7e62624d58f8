-- What is stored is loaded, and the log is as it was.
use Rattle.std.proofs.Common.{◌≡◌, ℕ, ◌<◌, ◌≤◌, cond, eqb, List, length, get_or, refl, ap, arith}
use Rattle.std.proofs.lemmas.List.{length-set}
use Rattle.std.proofs.lemmas.Bool.{cond_both}
use Rattle.raft_log.specs.Layout.{memory_words, at_most}
use Rattle.raft_log.specs.Entries.{commit_index, applied_number}
use Rattle.raft_log.proofs.ValueLaws.{at_most_le, at_most_same}
use Rattle.raft_log.proofs.LogLaws.{SameEntries, same_entries, same_commit, same_applied}
use Rattle.solo.specs.declared.header.Role.{Role}
use Rattle.solo.specs.declared.header.Role.TheVariants.{Follower, Candidate, Leader}
use Rattle.raft.specs.declared.header.Machine.{Machine}
use Rattle.solo.specs.Header.{role_of, role_word, elapsed_word, loaded, stored}
use Rattle.raft.specs.Header.{ticks, flag_word}
use Rattle.raft.proofs.HeaderLaws.{at_least_same, at_least_le, flag_back, seven_other, word_0, word_1, word_2, word_3, word_4, word_5, word_6}

-- a struct that memory can hold as it is
pub record Held (x : Machine Role) : Type 0 where
  pub some : 1 ≤ x.size.0
  pub waits : elapsed_word x.role ≤ 10

role_back : (r : Role) → elapsed_word r ≤ 10 → role_of (role_word r) (elapsed_word r) ≡ r
role_back (Follower e) l = ap (λ n. Follower (ticks n)) (at_most_same e.0 10 l)
role_back (Candidate e) l = ap (λ n. Candidate (ticks n)) (at_most_same e.0 10 l)
role_back Leader l = refl

pub length_stored : (m : List ℕ) (x : Machine Role) → length (stored m x) ≡ length m
unfolding stored
length_stored m x = simp length-set

module _ (m : List ℕ) (x : Machine Role) where
  pub stored_other : (i : ℕ) → 7 ≤ i → get_or (stored m x) i 0 ≡ get_or m i 0
  unfolding stored
  stored_other i l = seven_other m x.size.0 x.id.0 x.term.0 (role_word x.role) (elapsed_word x.role) x.since.0 (flag_word x.unsettled) i l

  pub loaded_stored : length m ≡ memory_words → Held x → loaded (stored m x) ≡ x
  unfolding loaded stored
  loaded_stored long h =
      rw (
        word_0 m _ _ _ _ _ _ _ long,
        word_1 m _ _ _ _ _ _ _ long,
        word_2 m _ _ _ _ _ _ _ long,
        word_3 m _ _ _ _ _ _ _ long,
        word_4 m _ _ _ _ _ _ _ long,
        word_5 m _ _ _ _ _ _ _ long,
        word_6 m _ _ _ _ _ _ _ long,
        at_least_same x.size.0 1 h.some,
        role_back x.role h.waits,
        flag_back x.unsettled,
      )

-- the header is in the first seven words
pub loaded_alike : (m m₁ : List ℕ) → ((i : ℕ) → i < 7 → get_or m₁ i 0 ≡ get_or m i 0) → loaded m₁ ≡ loaded m
unfolding loaded
loaded_alike m m₁ h =
    rw (h 0 (omega arith), h 1 (omega arith), h 2 (omega arith), h 3 (omega arith), h 4 (omega arith), h 5 (omega arith), h 6 (omega arith))

role_waits : (w e : ℕ) → elapsed_word (role_of w e) ≤ 10
role_waits w e =
    cond_both (eqb w 1) (Candidate (ticks (at_most e 10))) (cond (eqb w 2) Leader (Follower (ticks (at_most e 10)))) (λ r. elapsed_word r ≤ 10) (λ _. at_most_le e 10)
    (λ _. cond_both (eqb w 2) Leader (Follower (ticks (at_most e 10))) (λ r. elapsed_word r ≤ 10) (λ _. omega arith) (λ _. at_most_le e 10))

pub loaded_held : (m : List ℕ) → Held (loaded m)
unfolding loaded
loaded_held m = record { some = at_least_le (get_or m 0 0) 1; waits = role_waits (get_or m 3 0) (get_or m 4 0) }

-- the log does not change
module _ (m : List ℕ) (x : Machine Role) where
  pub stored_entries : SameEntries m (stored m x)
  stored_entries = same_entries m (stored m x) (stored_other m x 64 (omega arith)) (λ i l. stored_other m x i (omega arith))

  pub stored_commit : commit_index (stored m x) ≡ commit_index m
  stored_commit = same_commit m (stored m x) stored_entries (stored_other m x 65 (omega arith))

  pub stored_applied : applied_number (stored m x) ≡ applied_number m
  stored_applied = same_applied m (stored m x) (stored_other m x 66 (omega arith))
