-- The committed index as the entry's answer has it.
use Rattle.std.proofs.Common.{◌≡◌, ℕ, ◌*◌, ◌<◌, ◌≤◌, Bool, true, false, not, eqb, leb, ◌⊎◌, List, [], ◌∷◌, length, get_or, Some, None, sym, refl, ap, ◌∙◌, subst, inl, inr, arith}
use Rattle.std.proofs.lemmas.List.Elements.{at_from_Contains}
use Rattle.std.proofs.lemmas.List.Sums.{length-filter}
use Rattle.std.proofs.lemmas.Bool.{ltb-true, lt-ltb, le-leb, lt-leb, eq-eqb}
use Rattle.tracker.specs.Majority.{reached, Quorum, CommittedSays}
use Rattle.raft_log.specs.declared.Index.{Index as LogIndex}
use Rattle.together.specs.House.{or, those, none_of}
use Rattle.together.proofs.Lists.{those_kept, any_at, every_from}
use Rattle.together.specs.Entry.{half_have, half_fits, HalfSays}
use Rattle.together.specs.declared.Reply.TheVariants.{Index, Refused}

those_reached : (k : ℕ) (ks : List ℕ) → length (those (λ j. leb k j) ks) ≡ reached ks k
unfolding reached
those_reached k ks = ap length (those_kept (λ j. leb k j) ks) ∙ length-filter (leb k) ks

half_from : (ks : List ℕ) (k : ℕ) → Quorum ks k → half_have ks k ≡ true
half_from ks k q = lt-ltb (length ks) (2 * length (those (λ j. leb k j) ks)) (omega (arith, those_reached k ks))

quorum_from : (ks : List ℕ) (k : ℕ) → half_have ks k ≡ true → Quorum ks k
quorum_from ks k h = omega (arith, those_reached k ks, ltb-true (length ks) (2 * length (those (λ j. leb k j) ks)) h)

none_larger : (ks : List ℕ) (k : ℕ) → ((j : ℕ) → Quorum ks j → j ≤ k) → (j : ℕ) → or (leb j k) (not (half_have ks j)) ≡ true
none_larger ks k top j = go (half_have ks j) refl
  where
    go : (t : Bool) → half_have ks j ≡ t → or (leb j k) (not t) ≡ true
    go true h = ap (λ b. or b false) (le-leb j k (top j (quorum_from ks j h)))
    go false h = at (leb j k)
      where
        at : (b : Bool) → or b true ≡ true
        at true = refl
        at false = refl

fits_some : (ks : List ℕ) → 0 < length ks → length ks ≤ 1024 → half_fits ks ≡ true
unfolding none_of
fits_some [] l s = absurd (omega arith)
fits_some (k ∷ ks) l s = le-leb (length (k ∷ ks)) 1024 s

fits_none : (ks : List ℕ) → (length ks ≡ 0) ⊎ (1024 < length ks) → half_fits ks ≡ false
unfolding none_of
fits_none [] h = refl
fits_none (k ∷ ks) (inl e) = absurd (omega arith)
fits_none (k ∷ ks) (inr l) = lt-leb (length (k ∷ ks)) 1024 l

pub says_index : (ks : List ℕ) (k : LogIndex) → CommittedSays ks (Some k) → HalfSays ks (half_fits ks) (Index k.0)
unfolding CommittedSays HalfSays
says_index ks k (small, c) =
    let has = at_from_Contains ks k.0 c.one_of in
    subst (λ t. HalfSays ks t (Index k.0)) (sym (fits_some ks (omega (arith, has.1)) small)) (
      k.0,
      refl,
      any_at (eqb k.0) ks 0 has.0 has.1 (eq-eqb k.0 (get_or ks has.0 0) (sym (has.2 0))),
      half_from ks k.0 c.quorum,
      every_from (λ j. or (leb j k.0) (not (half_have ks j))) (none_larger ks k.0 c.largest) ks,
    )

pub says_refused : (ks : List ℕ) → CommittedSays ks None → HalfSays ks (half_fits ks) (Refused 1)
unfolding CommittedSays HalfSays
says_refused ks h = subst (λ t. HalfSays ks t (Refused 1)) (sym (fits_none ks h)) refl
