-- What becomes of a proposal, and how its event may end, for machines in any kind of role.
use Rattle.std.proofs.Common.{◌≡◌, ℕ, ◌<◌, ◌≤◌, Bool, true, false, cond, ◌&&◌, eqb, ltb, leb, ◌⊎◌, List, [], ◌∷◌, ◌++◌, length, Ok, Err, Result, sym, refl, ◌∙◌, subst, inl, inr, arith}
use Rattle.std.proofs.lemmas.Bool.{ltb-true, ltb-false, lt-ltb, le-ltb, le-leb, leb-false, and_cases, cond-true, cond-false, cases_Bool}
use Rattle.raft_log.specs.Entries.{last_index, values, value_fits}
use Rattle.raft.specs.declared.proposal.Refusal.{Refusal}
use Rattle.raft.specs.declared.proposal.Refusal.TheVariants.{NotNow, TooLong, Full}
use Rattle.raft.specs.Proposal.{refusal_number}
use Rattle.together.specs.House.{pick, or}
use Rattle.together.proofs.Lists.{no_way}
use Rattle.together.proofs.Smalls.{Kept}

-- why a proposal is refused
abbrev pub Why : List ℕ → ℕ → Refusal → Type 0
Why m long NotNow = long ≤ 256
Why m long TooLong = 256 < long
Why m long Full = (long ≤ 256) × (value_fits m long ≡ false)

-- WHAT BECOMES OF IT: p is memory after it, or why not, and t memory as a leader takes it
pub data Asked (m v : List ℕ) (leads : Type 0) (p : Result (List ℕ) Refusal) (t : List ℕ) : Type 0 where
  turned_away : (why : Refusal) → Why m (length v) why → p ≡ Err why → Asked m v leads p t
  taken_in : leads → value_fits m (length v) ≡ true → p ≡ Ok t → Asked m v leads p t

module _ (m v : List ℕ) (leads : Type 0) (q : Result (List ℕ) Refusal) (t : List ℕ) where
  abbrev pub if_short : Result (List ℕ) Refusal
  if_short = cond (ltb 256 (length v)) (Err TooLong) q

  abbrev pub if_room : Result (List ℕ) Refusal
  if_room = cond (value_fits m (length v)) (Ok t) (Err Full)

  -- by q, what a machine answers to a value that is not too long
  pub asked_by : (q ≡ Err NotNow) ⊎ (leads × (q ≡ if_room)) → Asked m v leads if_short t
  asked_by a =
      elim (cases_Bool (ltb 256 (length v))) [
        | inl b ↦ turned_away TooLong (ltb-true 256 (length v) b) (cond-true (ltb 256 (length v)) (Err TooLong) q b)
        | inr b ↦ by_role b a
      ]
    where
      by_role : ltb 256 (length v) ≡ false → (q ≡ Err NotNow) ⊎ (leads × (q ≡ if_room)) → Asked m v leads if_short t
      by_role b (inl e) = turned_away NotNow (ltb-false 256 (length v) b) (cond-false (ltb 256 (length v)) (Err TooLong) q b ∙ e)
      by_role b (inr l) =
          elim (cases_Bool (value_fits m (length v))) [
            | inl f ↦ taken_in l.0 f (cond-false (ltb 256 (length v)) (Err TooLong) q b ∙ (l.1 ∙ cond-true (value_fits m (length v)) (Ok t) (Err Full) f))
            | inr f ↦
                turned_away Full (ltb-false 256 (length v) b, f) (cond-false (ltb 256 (length v)) (Err TooLong) q b ∙ (l.1 ∙ cond-false (value_fits m (length v)) (Ok t) (Err Full) f))
          ]

  -- a leader with room takes it
  pub taken_by : length v ≤ 256 → q ≡ if_room → value_fits m (length v) ≡ true → if_short ≡ Ok t
  taken_by short e f =
      cond-false (ltb 256 (length v)) (Err TooLong) q (le-ltb 256 (length v) short) ∙ (e ∙ cond-true (value_fits m (length v)) (Ok t) (Err Full) f)

  -- who answers as a leader answers no NotNow
  pub not_now_by : q ≡ if_room → if_short ≡ Err NotNow → ⊥
  not_now_by e n =
      elim (cases_Bool (ltb 256 (length v))) [
        | inl b ↦ let z : Err TooLong ≡ Err NotNow = sym (cond-true (ltb 256 (length v)) (Err TooLong) q b) ∙ n in no_way cc
        | inr b ↦ by_room (sym (cond-false (ltb 256 (length v)) (Err TooLong) q b ∙ e) ∙ n)
      ]
    where
      by_room : if_room ≡ Err NotNow → ⊥
      by_room k =
          elim (cases_Bool (value_fits m (length v))) [
            | inl f ↦ let z : Ok t ≡ Err NotNow = sym (cond-true (value_fits m (length v)) (Ok t) (Err Full) f) ∙ k in no_way cc
            | inr f ↦ let z : Err Full ≡ Err NotNow = sym (cond-false (value_fits m (length v)) (Ok t) (Err Full) f) ∙ k in no_way cc
          ]

-- memory after a proposal that was taken is kept small
abbrev pub KeptProposed : List ℕ → Result (List ℕ) Refusal → Type 0
KeptProposed m (Ok m₁) = Kept m m₁
KeptProposed m (Err why) = Unit {0}

pub kept_asked : {m v t : List ℕ} {leads : Type 0} {p : Result (List ℕ) Refusal} → (value_fits m (length v) ≡ true → Kept m t) → Asked m v leads p t → KeptProposed m p
kept_asked {m} k (turned_away why w e) = subst (λ (p : Result (List ℕ) Refusal). KeptProposed m p) (sym e) tt
kept_asked {m} k (taken_in l f e) = subst (λ (p : Result (List ℕ) Refusal). KeptProposed m p) (sym e) (k f)

-- where there is no room, the log or the values are full
pub full_by : (m : List ℕ) (long : ℕ) → value_fits m long ≡ false → long ≤ 256 → (8193 ≤ last_index m) ⊎ (4096 ≤ values m)
full_by m long f l =
    elim (and_cases (leb long 256) (ltb (last_index m) 8193 && ltb (values m) 4096) f) [
      | inl a ↦ absurd (omega (arith, leb-false long 256 a))
      | inr b ↦
          elim (and_cases (ltb (last_index m) 8193) (ltb (values m) 4096) b) [
            | inl c ↦ inl (ltb-false (last_index m) 8193 c)
            | inr c ↦ inr (ltb-false (values m) 4096 c)
          ]
    ]

-- how its event may end, where so many were proposed before
abbrev pub ends_as : ℕ → ℕ → ℕ → Bool
ends_as long many e = pick (ltb 256 long) (eqb e 6) (or (eqb e 0) (or (eqb e 3) (eqb e 7 && leb 4096 many)))

pub refused_ends : (m : List ℕ) (long many : ℕ) → (value_fits m long ≡ false → long ≤ 256 → 4096 ≤ many) → (why : Refusal) → Why m long why → ends_as long many (refusal_number why) ≡ true
refused_ends m long many full NotNow w = rw (le-ltb 256 long w)
refused_ends m long many full TooLong w = rw (lt-ltb 256 long w)
refused_ends m long many full Full w = rw (le-ltb 256 long w.0, le-leb 4096 many (full w.1 w.0))

-- what counts as proposed when its event ended so: it does unless it was refused
abbrev pub with_it : List (List ℕ) → List ℕ → ℕ → List (List ℕ)
with_it ps v e = pick (or (eqb e 0) (eqb e 1000)) (ps ++ v ∷ []) ps

pub refused_counts : (ps : List (List ℕ)) (v : List ℕ) (why : Refusal) → with_it ps v (refusal_number why) ≡ ps
refused_counts ps v NotNow = refl
refused_counts ps v TooLong = refl
refused_counts ps v Full = refl
