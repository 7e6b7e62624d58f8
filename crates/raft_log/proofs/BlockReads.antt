-- A table that is read one more row at a time.
use Rattle.std.proofs.Common.{◌≡◌, ℕ, zero, suc, ◌+◌, ◌*◌, ◌<◌, ◌≤◌, true, false, ◌&&◌, eqb, leb, List, length, refl, inl, inr, add-one, arith}
use Rattle.std.proofs.lemmas.Bool.{leb-true, eqb-true, le-leb, lt-leb, and_parts, and_from, and_left, and_right, cases_eq}
use Rattle.raft_log.specs.Block.{row_code, row_length, value_offset, codes_fit, block_fits}

pub value_offset_none : (bs : List ℕ) (n : ℕ) → value_offset bs n 0 ≡ 10 * n
unfolding value_offset
value_offset_none bs n = refl

pub value_offset_more : (bs : List ℕ) (n i : ℕ) → value_offset bs n (i + 1) ≡ value_offset bs n i + row_length bs i
unfolding value_offset
value_offset_more bs n i = rw (add-one i)

pub codes_fit_none : (bs : List ℕ) → codes_fit bs 0 ≡ true
unfolding codes_fit
codes_fit_none bs = refl

pub codes_fit_more : (bs : List ℕ) (i : ℕ) → codes_fit bs i ≡ true → row_code bs i ≤ 257 → codes_fit bs (i + 1) ≡ true
unfolding codes_fit
codes_fit_more bs i h l = rw add-one (and_from (codes_fit bs i) (leb (row_code bs i) 257) h (le-leb (row_code bs i) 257 l))

-- one value too long is enough
pub codes_fit_stop : (bs : List ℕ) (n i : ℕ) → i < n → 257 < row_code bs i → codes_fit bs n ≡ false
unfolding codes_fit
codes_fit_stop bs zero i l h = absurd (omega arith)
codes_fit_stop bs (suc n) i l h =
    elim (cases_eq i n) [
      | inl e ↦ and_right (codes_fit bs n) (leb (row_code bs n) 257) (lt-leb (row_code bs n) 257 (rw e at h))
      | inr ne ↦ and_left (codes_fit bs n) (leb (row_code bs n) 257) (codes_fit_stop bs n i (omega arith) h)
    ]

pub code_fits : (bs : List ℕ) (n i : ℕ) → codes_fit bs n ≡ true → i < n → row_code bs i ≤ 257
unfolding codes_fit
code_fits bs zero i h l = absurd (omega arith)
code_fits bs (suc n) i h l =
    let both = and_parts (codes_fit bs n) (leb (row_code bs n) 257) h in
    elim (cases_eq i n) [
      | inl e ↦ rw e (leb-true (row_code bs n) 257 both.1)
      | inr ne ↦ code_fits bs n i both.0 (omega arith)
    ]

-- the values stand one behind the other
pub value_offset_rises : (bs : List ℕ) (n i j : ℕ) → i ≤ j → value_offset bs n i ≤ value_offset bs n j
unfolding value_offset
value_offset_rises bs n i zero l = let e : i ≡ 0 = omega arith in rw e (omega arith)
value_offset_rises bs n i (suc j) l =
    elim (cases_eq i (suc j)) [
      | inl e ↦ rw e (omega arith)
      | inr ne ↦ omega (arith, value_offset_rises bs n i j (omega arith))
    ]

-- what a block that fits says
pub record Fits (bs : List ℕ) (n : ℕ) : Type 0 where
  pub few : n ≤ 15
  pub table : 10 * n ≤ length bs
  pub codes : (i : ℕ) → i < n → row_code bs i ≤ 257
  pub end : value_offset bs n n ≡ length bs
  pub within : (i : ℕ) → i < n → value_offset bs n i + row_length bs i ≤ length bs

pub fits : (bs : List ℕ) (n : ℕ) → block_fits bs n ≡ true → Fits bs n
unfolding block_fits
fits bs n h =
    let p₀ = and_parts (leb n 15) (leb (10 * n) (length bs) && (codes_fit bs n && eqb (value_offset bs n n) (length bs))) h in
    let p₁ = and_parts (leb (10 * n) (length bs)) (codes_fit bs n && eqb (value_offset bs n n) (length bs)) p₀.1 in
    let p₂ = and_parts (codes_fit bs n) (eqb (value_offset bs n n) (length bs)) p₁.1 in
    let e : value_offset bs n n ≡ length bs = eqb-true (value_offset bs n n) (length bs) p₂.1 in
    record {
      few = leb-true n 15 p₀.0;
      table = leb-true (10 * n) (length bs) p₁.0;
      codes = λ i l. code_fits bs n i p₂.0 l;
      end = e;
      within = λ i l. omega (arith, value_offset_more bs n i, value_offset_rises bs n (i + 1) n (omega arith));
    }
