-- The committed index of a row is the largest number that more than half have got to.
use Rattle.std.proofs.Common.{◌≡◌, ℕ, zero, suc, ◌+◌, ◌-◌, ◌*◌, ◌≤◌, ltb, List, length, take, drop, Option, Some, None, sym, ap, ◌∙◌, inl, inr, arith, length-drop, length-take}
use Rattle.raft_log.specs.declared.Index.{Index}
use Rattle.raft_log.specs.Layout.{memory_words}
use Rattle.raft_log.specs.Entries.{last_index}
use Rattle.std.specs.Option.{unwrap_or}
use Rattle.std.proofs.lemmas.Bool.{lt-ltb, le-ltb, ltb-true, cond-true, cond-false, cases_lt, cases_Bool}
use Rattle.raft_log.specs.Layout.{at_most}
use Rattle.raft_log.proofs.ValueLaws.{at_most_same}
use Rattle.tracker.specs.Majority.{reached, Committed, CommittedSays}
use Rattle.tracker.proofs.Quorums.{reached_falls}
use Rattle.raft.specs.Rows.{most_of, majority_below}
use Rattle.raft.specs.Commit.{quorum_index}

pub majority_is : (ks : List ℕ) (c b : ℕ) → Committed ks c → majority_below ks b ≡ at_most c b
unfolding majority_below
majority_is ks c zero q = sym (cond-false (ltb c 0) c 0 (le-ltb c 0 (omega arith)))
majority_is ks c (suc b) q =
    elim (cases_lt c (suc b)) [
      | inl l ↦
          elim (cases_Bool (most_of (reached ks (suc b)) (length ks))) [
            | inl e ↦ absurd (omega (arith, q.largest (suc b) (ltb-true (length ks) (2 * reached ks (suc b)) e)))
            | inr e ↦
                cond-false (most_of (reached ks (suc b)) (length ks)) (suc b) (majority_below ks b) e
                ∙ (majority_is ks c b q ∙ (at_most_same c b (omega arith) ∙ sym (at_most_same c (suc b) (omega arith))))
          ]
      | inr l ↦
          let more = reached_falls ks (suc b) c l in
          cond-true (most_of (reached ks (suc b)) (length ks)) (suc b) (majority_below ks b) (lt-ltb (length ks) (2 * reached ks (suc b)) (omega (arith, q.quorum)))
          ∙ sym (cond-false (ltb c (suc b)) c (suc b) (le-ltb c (suc b) l))
    ]

row_width : (n : ℕ) → 15 + n - 15 ≡ n
row_width n = omega arith

-- of a row that gave an index, up to the log's last
pub quorum_some : (m : List ℕ) (n r l : ℕ) (i : Index) → CommittedSays (take (15 + n - 15) (drop 15 m)) (Some i) → r ≡ at_most i.0 l → l ≡ last_index m → r ≡ quorum_index m n
unfolding CommittedSays
quorum_some m n r l i q e el =
    e ∙ (ap (at_most i.0) el ∙ (sym (majority_is (take (15 + n - 15) (drop 15 m)) i.0 (last_index m) q.1) ∙ ap (λ k. majority_below (take k (drop 15 m)) (last_index m)) (row_width n)))

-- the row of one machine or more gives one
pub quorum_none : (m : List ℕ) (n : ℕ) → length m ≡ memory_words → 1 ≤ n → n ≤ 7 → CommittedSays (take (15 + n - 15) (drop 15 m)) None → ⊥
unfolding CommittedSays
quorum_none m n long some few q =
    let l : length (take (15 + n - 15) (drop 15 m)) ≡ n = simp (length-take, length-drop) (omega arith) in
    elim q [ inl e ↦ omega arith | inr e ↦ omega arith ]

pub quorum : (m : List ℕ) (n r l : ℕ) (most : Option Index) → length m ≡ memory_words → 1 ≤ n → n ≤ 7 → CommittedSays (take (15 + n - 15) (drop 15 m)) most →
    r ≡ at_most (unwrap_or most (record { 0 = 0 })).0 l → l ≡ last_index m → r ≡ quorum_index m n
quorum m n r l (Some i) long some few q e el = quorum_some m n r l i q e el
quorum m n r l None long some few q e el = absurd (quorum_none m n long some few q)
