-- What a leader holds for decided: the row of matches in memory gives the commit of the theory.
use Rattle.std.proofs.Common.{◌≡◌, ℕ, zero, suc, ◌+◌, ◌*◌, ◌<◌, ◌≤◌, Bool, true, false, cond, ◌&&◌, eqb, ltb, leb, ◌≢◌, List, length, get_or, take, drop, set, count_by, sym, refl, ap, ◌∙◌, inl, inr, add-one, arith}
use Rattle.std.proofs.lemmas.List.{length-take-le, length-drop, get_or-drop}
use Rattle.std.proofs.lemmas.List.Sums.{count_by_more_yes, count_by_more_no}
use Rattle.std.proofs.lemmas.Bool.{cond-false, cond_both, cases_Bool, cases_lt, lt-ltb, le-ltb, and_left}
use Rattle.raft_log.specs.Layout.{memory_words}
use Rattle.raft_log.specs.View.{log_of, Tidy}
use Rattle.raft_log.specs.Entries.{last_index, commit_index, applied_number, term_at, commit_rises, commit_raised}
use Rattle.raft_log.proofs.LogLaws.{same_applied, length_commit_raised, commit_raised_other, commit_raised_up}
use Rattle.raft_log.proofs.LogChanges.{commit_raised_log, commit_raised_tidy}
use Rattle.tracker.specs.Majority.{reached}
use Rattle.raft.specs.Rows.{most_of, majority_below}
use Rattle.raft.specs.Commit.{quorum_index, maybe_committed}
use Rattle.protocol.specs.Lists.{pick}
use Rattle.protocol.specs.Log.{Log, term_before}
use Rattle.protocol.specs.History.{count}
use Rattle.machine.specs.Step.{is_majority, majority_index, maybe_commit}
use Rattle.join_several.specs.Stands.{conf, lift_log}
use Rattle.join_several.proofs.Lifts.{lift_last, lift_before, cond_pick}

-- COUNTING along a row of memory is counting machines
pub count_row :
    (p : ℕ → Bool) (f : ℕ → Bool) (m : List ℕ) (base n : ℕ) → base + n ≤ length m → ((j : ℕ) → j < n → p (get_or m (base + j) 0) ≡ f j) →
    count_by p (take n (drop base m)) ≡ count f n
unfolding count
count_row p f m base zero l h = refl
count_row p f m base (suc n) l h =
    let less = count_row p f m base n (omega arith) (λ j b. h j (omega arith)) in
    let at : p (get_or (drop base m) n 0) ≡ f n = ap p (get_or-drop base m n 0) ∙ h n (omega arith) in
    let in_row : n < length (drop base m) = omega (arith, length-drop base m) in
    let next : count_by p (take (suc n) (drop base m)) ≡ count_by p (take (n + 1) (drop base m)) = ap (λ (k : ℕ). count_by p (take k (drop base m))) (sym (add-one n)) in
    elim (cases_Bool (f n)) [
      | inl e ↦
          next ∙ (count_by_more_yes p (drop base m) n 0 in_row (at ∙ e) ∙ (add-one (count_by p (take n (drop base m)))
          ∙ (ap suc less ∙ ap (λ (b : Bool). pick b (suc (count f n)) (count f n)) (sym e))))
      | inr e ↦ next ∙ (count_by_more_no p (drop base m) n 0 in_row (at ∙ e) ∙ (less ∙ ap (λ (b : Bool). pick b (suc (count f n)) (count f n)) (sym e)))
    ]

pub row_length : (m : List ℕ) (base n : ℕ) → base + n ≤ length m → length (take n (drop base m)) ≡ n
row_length m base n l = length-take-le n (drop base m) (omega (arith, length-drop base m))

-- THE INDEX that more than half have
module _ (m : List ℕ) (n : ℕ) (a : ℕ → ℕ) (fits : 15 + n ≤ length m) (row : (j : ℕ) → j < n → get_or m (15 + j) 0 ≡ a j) where
  most_same : (k : ℕ) → most_of (reached (take n (drop 15 m)) k) (length (take n (drop 15 m))) ≡ is_majority (conf n) (λ j. leb k (a j))
  unfolding reached is_majority
  most_same k =
      let len = row_length m 15 n fits in
      let num = count_row (leb k) (λ j. leb k (a j)) m 15 n fits (λ j b. ap (leb k) (row j b)) in
      λ i. ltb (len i) (2 * num i)

  pub majority_same : (k : ℕ) → majority_below (take n (drop 15 m)) k ≡ majority_index (conf n) a k
  unfolding majority_below majority_index
  majority_same zero = refl
  majority_same (suc k) =
      cond_pick (most_of (reached (take n (drop 15 m)) (suc k)) (length (take n (drop 15 m)))) (suc k) (majority_below (take n (drop 15 m)) k)
      ∙ (ap (λ (b : Bool). pick b (suc k) (majority_below (take n (drop 15 m)) k)) (most_same (suc k))
      ∙ ap (pick (is_majority (conf n) (λ j. leb (suc k) (a j))) (suc k)) (majority_same k))

pub majority_most : (ks : List ℕ) (k : ℕ) → majority_below ks k ≤ k
unfolding majority_below
majority_most ks zero = omega arith
majority_most ks (suc k) =
    cond_both (most_of (reached ks (suc k)) (length ks)) (suc k) (majority_below ks k) (λ (x : ℕ). x ≤ suc k) (λ _. omega arith) (λ _. omega (arith, majority_most ks k))

-- WHAT IS DECIDED changes nothing but its own word
module _ (m : List ℕ) (n t : ℕ) where
  pub maybe_length : length (maybe_committed m n t) ≡ length m
  unfolding maybe_committed
  maybe_length =
      cond_both (eqb (term_at m (quorum_index m n)) t) (commit_raised m (quorum_index m n)) m (λ (x : List ℕ). length x ≡ length m)
      (λ _. length_commit_raised m (quorum_index m n)) (λ _. refl)

  pub maybe_other : (j : ℕ) → j ≢ 65 → get_or (maybe_committed m n t) j 0 ≡ get_or m j 0
  unfolding maybe_committed
  maybe_other j ne =
      cond_both (eqb (term_at m (quorum_index m n)) t) (commit_raised m (quorum_index m n)) m (λ (x : List ℕ). get_or x j 0 ≡ get_or m j 0)
      (λ _. commit_raised_other m (quorum_index m n) j ne) (λ _. refl)

  pub maybe_log : log_of (maybe_committed m n t) ≡ log_of m
  unfolding maybe_committed
  maybe_log =
      cond_both (eqb (term_at m (quorum_index m n)) t) (commit_raised m (quorum_index m n)) m (λ (x : List ℕ). log_of x ≡ log_of m)
      (λ _. commit_raised_log m (quorum_index m n)) (λ _. refl)

  pub maybe_tidy : Tidy m → Tidy (maybe_committed m n t)
  unfolding maybe_committed
  maybe_tidy d =
      cond_both (eqb (term_at m (quorum_index m n)) t) (commit_raised m (quorum_index m n)) m (λ (x : List ℕ). Tidy x) (λ _. commit_raised_tidy m (quorum_index m n) d) (λ _. d)

  pub maybe_applied : applied_number (maybe_committed m n t) ≡ applied_number m
  maybe_applied = same_applied m (maybe_committed m n t) (maybe_other 66 (omega arith))

-- a commit that is as far already
raised_less : (m : List ℕ) (i : ℕ) → i ≤ commit_index m → commit_raised m i ≡ m
unfolding commit_raised
raised_less m i l = cond-false (commit_rises m i) (set m 65 i) m (and_left (ltb (commit_index m) i) (leb i (last_index m)) (le-ltb (commit_index m) i l))

raised_is : (m : List ℕ) (i : ℕ) → length m ≡ memory_words → i ≤ last_index m → commit_index (commit_raised m i) ≡ pick (ltb (commit_index m) i) i (commit_index m)
raised_is m i long b =
    elim (cases_lt (commit_index m) i) [
      | inl l ↦ commit_raised_up m i long (omega arith) b ∙ ap (λ (x : Bool). pick x i (commit_index m)) (sym (lt-ltb (commit_index m) i l))
      | inr l ↦ ap commit_index (raised_less m i l) ∙ ap (λ (x : Bool). pick x i (commit_index m)) (sym (le-ltb (commit_index m) i l))
    ]

-- both tests of the theory
pick_and : (b c : Bool) (i k : ℕ) → cond c (pick b i k) k ≡ pick (b && c) i k
pick_and true true i k = refl
pick_and true false i k = refl
pick_and false true i k = refl
pick_and false false i k = refl

ap_cond : {A B : Type 0} (f : A → B) (b : Bool) (x y : A) → f (cond b x y) ≡ cond b (f x) (f y)
ap_cond f true x y = refl
ap_cond f false x y = refl

-- THE COMMIT IS THE THEORY'S
module _ (m : List ℕ) (n t : ℕ) (l : Log (List ℕ)) (a : ℕ → ℕ) (few : n ≤ 7) (tidy : Tidy m) (same : lift_log (log_of m) ≡ l)
    (row : (j : ℕ) → j < n → get_or m (15 + j) 0 ≡ a j) where
  quorum_same : quorum_index m n ≡ majority_index (conf n) a (length l)
  quorum_same = majority_same m n a (omega (arith, tidy.entries.long)) row (last_index m) ∙ ap (majority_index (conf n) a) (lift_last m l same)

  term_same : term_at m (quorum_index m n) ≡ term_before l (majority_index (conf n) a (length l))
  term_same = lift_before m l same (quorum_index m n) ∙ ap (term_before l) quorum_same

  pub maybe_commit_same : commit_index (maybe_committed m n t) ≡ maybe_commit (conf n) t l a (commit_index m)
  unfolding maybe_committed maybe_commit
  maybe_commit_same =
      ap_cond commit_index (eqb (term_at m (quorum_index m n)) t) (commit_raised m (quorum_index m n)) m
      ∙ (ap (λ (x : ℕ). cond (eqb (term_at m (quorum_index m n)) t) x (commit_index m))
      (raised_is m (quorum_index m n) tidy.entries.long (majority_most (take n (drop 15 m)) (last_index m)))
      ∙ (pick_and (ltb (commit_index m) (quorum_index m n)) (eqb (term_at m (quorum_index m n)) t) (quorum_index m n) (commit_index m)
      ∙ (λ i. pick (ltb (commit_index m) (quorum_same i) && eqb (term_same i) t) (quorum_same i) (commit_index m))))
