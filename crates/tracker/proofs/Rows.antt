-- A row of indexes has one committed index, numbers show which, and it does not fall.
use Rattle.std.proofs.Common.{◌≡◌, ℕ, suc, ◌*◌, ◌≤◌, ◌<◌, Bool, true, not, ◌&&◌, ◌==◌, nat_le, nat_lt, List, [], length, get_or, Contains, Some, None, Option, refl, ap, subst, inl, inr, arith}
use Rattle.std.proofs.lemmas.List.Elements.{length_all_zip, Contains-get_or}
use Rattle.std.proofs.lemmas.Bool.{cases_lt}
use Rattle.std.proofs.lemmas.Bool.Decides.{nat_tests}
use Rattle.raft_log.specs.declared.Index.{Index}
use Rattle.tracker.specs.Majority.{quorum_has, reached, Quorum, CommittedSays}
use Rattle.tracker.specs.Cases.{CommittedIs, CommittedRises}
use Rattle.tracker.specs.Progress.{index}
use Rattle.tracker.proofs.Quorums.{reached_falls, reached_rises}

some_or_none : (indices : List ℕ) (k : Index) → CommittedSays indices (Some k) → CommittedSays indices None → ⊥
unfolding CommittedSays
some_or_none indices k a (inl e) = omega (arith, a.1.one_of.1)
some_or_none indices k a (inr l) = omega (arith, a.0)

one_committed : (indices : List ℕ) (r s : Option Index) → CommittedSays indices r → CommittedSays indices s → s ≡ r
unfolding CommittedSays
one_committed indices (Some j) (Some k) a b =
    let up : j.0 ≤ k.0 = b.1.largest j.0 a.1.quorum in
    let down : k.0 ≤ j.0 = a.1.largest k.0 b.1.quorum in
    let e : k.0 ≡ j.0 = omega arith in
    ap (λ n. Some (index n)) e
one_committed indices (Some j) None a b = absurd (some_or_none indices j a b)
one_committed indices None (Some k) a b = absurd (some_or_none indices k b a)
one_committed indices None None a b = refl

-- k stands at place i, more than half have got to k, and no more than half to the one after
abbrev pub shows : List ℕ → ℕ → ℕ → Bool
shows indices k i = nat_le (length indices) 1024 && nat_lt i (length indices) && (get_or indices i 0 == k) && quorum_has indices k && not (quorum_has indices (suc k))

pub committed_is : (indices : List ℕ) (k i : ℕ) → shows indices k i ≡ true → CommittedIs indices (Some (index k))
unfolding CommittedIs CommittedSays
committed_is indices k i shown = (is, λ s h. one_committed indices (Some (index k)) s is h)
  where
    few : length indices ≤ 1024
    few = grind (arith, nat_tests)

    inside : i < length indices
    inside = grind (arith, nat_tests)

    at : get_or indices i 0 ≡ k
    at = grind (arith, nat_tests)

    more : Quorum indices k
    more = grind (arith, nat_tests)

    no_more : 2 * reached indices (suc k) ≤ length indices
    no_more = grind (arith, nat_tests)

    top : (j : ℕ) → Quorum indices j → j ≤ k
    top j q = elim (cases_lt k j) [ inl above ↦ absurd (omega (arith, no_more, reached_falls indices (suc k) j (omega arith))) | inr low ↦ low ]

    is : CommittedSays indices (Some (index k))
    is = (few, record { one_of = subst (Contains indices) at (Contains-get_or indices i 0 inside); quorum = more; largest = top })

pub committed_none : CommittedIs [] None
unfolding CommittedIs CommittedSays
committed_none = (inl refl, λ s h. one_committed [] None s (inl refl) h)

pub committed_rises : CommittedRises
unfolding CommittedRises
committed_rises earlier later j k up a b =
    b.largest j (omega (arith, a.quorum, reached_rises earlier later j up, length_all_zip (λ x y. x ≤ y) earlier later up))
