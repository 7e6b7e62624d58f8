-- A row is set one word at a time.
use Rattle.std.proofs.Common.{◌≡◌, ℕ, zero, suc, ◌+◌, ◌-◌, ◌<◌, ◌≤◌, ◌≢◌, List, length, get_or, set, sym, refl, ap, ◌∙◌, inl, inr, add-one, arith}
use Rattle.std.proofs.lemmas.List.{length-set, get_or-set_same, get_or-set_other, ext_get_or}
use Rattle.std.proofs.lemmas.Bool.{cases_eq, cases_lt}
use Rattle.raft.specs.declared.rows.Row.{Row}
use Rattle.raft.specs.declared.rows.Row.TheVariants.{Votes, Matched, Next, Due}
use Rattle.raft.specs.Rows.{row_at, row_put, row_set, SetBy}

-- each row has its seven words in memory
pub within : (row : Row) → row_at row ≤ 57
within Votes = omega arith
within Matched = omega arith
within Next = omega arith
within Due = omega arith

pub row_put_more : (m : List ℕ) (base : ℕ) (f : ℕ → ℕ) (j : ℕ) → row_put m base f (j + 1) ≡ set (row_put m base f j) (base + j) (f j)
unfolding row_put
row_put_more m base f j = ap (row_put m base f) (add-one j)

pub length_row_put : (m : List ℕ) (base : ℕ) (f : ℕ → ℕ) (n : ℕ) → length (row_put m base f n) ≡ length m
unfolding row_put
length_row_put m base f zero = refl
length_row_put m base f (suc n) = length-set (row_put m base f n) (base + n) (f n) ∙ length_row_put m base f n

-- a word of no machine is as it was
pub row_put_other : (m : List ℕ) (base : ℕ) (f : ℕ → ℕ) (n i : ℕ) → ((j : ℕ) → j < n → i ≢ base + j) → get_or (row_put m base f n) i 0 ≡ get_or m i 0
unfolding row_put
row_put_other m base f zero i h = refl
row_put_other m base f (suc n) i h = get_or-set_other (row_put m base f n) (base + n) i (f n) 0 (h n (omega arith)) ∙ row_put_other m base f n i (λ j l. h j (omega arith))

pub row_put_same : (m : List ℕ) (base : ℕ) (f : ℕ → ℕ) (n j : ℕ) → j < n → base + n ≤ length m → get_or (row_put m base f n) (base + j) 0 ≡ f j
unfolding row_put
row_put_same m base f zero j l r = absurd (omega arith)
row_put_same m base f (suc n) j l r =
    elim (cases_eq j n) [
      | inl e ↦ rw e (get_or-set_same (row_put m base f n) (base + n) (f n) 0 (omega (arith, length_row_put m base f n)))
      | inr ne ↦ get_or-set_other (row_put m base f n) (base + n) (base + j) (f n) 0 (omega arith) ∙ row_put_same m base f n j (omega arith) (omega arith)
    ]

-- a row of which each word is known
pub row_is : (m m₁ : List ℕ) (row : ℕ) (f : ℕ → ℕ) → row + 7 ≤ length m → SetBy m row (λ j w. w ≡ f j) m₁ → m₁ ≡ row_set m row f
row_is m m₁ row f room s =
    ext_get_or 0 m₁ (row_set m row f) (s.long ∙ sym (length_row_put m row f 7)) (λ i l.
    elim (cases_lt i row) [
      | inl before ↦ s.kept i (λ j b. omega arith) ∙ sym (row_put_other m row f 7 i (λ j b. omega arith))
      | inr from ↦
          elim (cases_lt i (row + 7)) [
            | inl within ↦
                let at : i ≡ row + (i - row) = omega arith in
                let less : i - row < 7 = omega arith in
                ap (λ k. get_or m₁ k 0) at ∙ (s.said (i - row) less ∙ (sym (row_put_same m row f 7 (i - row) less room) ∙ ap (λ k. get_or (row_set m row f) k 0) (sym at)))
            | inr behind ↦ s.kept i (λ j b. omega arith) ∙ sym (row_put_other m row f 7 i (λ j b. omega arith))
          ]
    ])
