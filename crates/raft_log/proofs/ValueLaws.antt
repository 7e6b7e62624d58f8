-- A value that was put into a slot is read there, and no other slot changes.
use Rattle.std.proofs.Common.{◌≡◌, ℕ, zero, suc, ◌+◌, ◌*◌, ◌/◌, ◌%◌, ◌<◌, ◌≤◌, ltb, ◌≢◌, List, length, get_or, set, sym, refl, ap, ◌∙◌, inl, inr, arith}
use Rattle.std.proofs.lemmas.List.{length-set, get_or-set_same, get_or-set_other, ext_get_or}
use Rattle.std.proofs.lemmas.List.FromFn.{length-map-range_with_len, get_or-map-range_with_len}
use Rattle.std.proofs.lemmas.Bool.{ltb-true, ltb-false, cond_both, cases_eq, cases_order}
use Rattle.raft_log.specs.Layout.{memory_words, at_most, value_row}
use Rattle.raft_log.specs.Values.{byte_in, byte_at, bytes_at, value_length, value_at, byte_or, word_of, words_put, words_for, value_put}
use Rattle.raft_log.specs.Bytes.{Bytes}

pub at_most_le : (n limit : ℕ) → at_most n limit ≤ limit
at_most_le n limit = cond_both (ltb n limit) n limit (λ x. x ≤ limit) (λ e. omega (arith, ltb-true n limit e)) (λ e. omega arith)

pub at_most_same : (n limit : ℕ) → n ≤ limit → at_most n limit ≡ n
at_most_same n limit h = cond_both (ltb n limit) n limit (λ x. x ≡ n) (λ e. refl) (λ e. omega (arith, ltb-false n limit e))

-- the words from a up to b are the same
abbrev pub Alike : List ℕ → List ℕ → ℕ → ℕ → Type 0
Alike m m₁ a b = (i : ℕ) → a ≤ i → i < b → get_or m₁ i 0 ≡ get_or m i 0

bytes_alike : (m m₁ : List ℕ) (base n : ℕ) → n ≤ 256 → Alike m m₁ base (base + 32) → bytes_at m₁ base n ≡ bytes_at m base n
bytes_alike m m₁ base n s h =
    ext_get_or 0 (bytes_at m₁ base n) (bytes_at m base n) (length-map-range_with_len (λ i. byte_at m₁ base i) 0 n ∙ sym (length-map-range_with_len (λ i. byte_at m base i) 0 n))
    (λ i l₁. let l : i < n = omega (arith, length-map-range_with_len (λ i. byte_at m₁ base i) 0 n) in
    get_or-map-range_with_len (λ i. byte_at m₁ base i) 0 n i i 0 l (omega arith)
    ∙ (ap (λ w. byte_in w (i % 8)) (h (base + i / 8) (omega arith) (omega arith)) ∙ sym (get_or-map-range_with_len (λ i. byte_at m base i) 0 n i i 0 l (omega arith))))

pub value_alike : (m m₁ : List ℕ) (k : ℕ) → Alike m m₁ (value_row k) (value_row k + 33) → value_at m₁ k ≡ value_at m k
unfolding value_at
value_alike m m₁ k h =
    let l : value_length m₁ k ≡ value_length m k = ap (λ x. at_most x 256) (h (value_row k) (omega arith) (omega arith)) in
    bytes_alike m m₁ (value_row k + 1) (value_length m₁ k) (at_most_le (get_or m₁ (value_row k) 0) 256) (λ i a b. h i (omega arith) (omega arith))
    ∙ ap (bytes_at m (value_row k + 1)) l

pub length_words_put : (m : List ℕ) (base : ℕ) (v : List ℕ) (n : ℕ) → length (words_put m base v n) ≡ length m
unfolding words_put
length_words_put m base v zero = refl
length_words_put m base v (suc n) = length-set (words_put m base v n) (base + n) (word_of v n) ∙ length_words_put m base v n

words_put_other : (m : List ℕ) (base : ℕ) (v : List ℕ) (n i : ℕ) → ((j : ℕ) → j < n → i ≢ base + j) → get_or (words_put m base v n) i 0 ≡ get_or m i 0
unfolding words_put
words_put_other m base v zero i h = refl
words_put_other m base v (suc n) i h =
    get_or-set_other (words_put m base v n) (base + n) i (word_of v n) 0 (h n (omega arith)) ∙ words_put_other m base v n i (λ j l. h j (omega arith))

words_put_same : (m : List ℕ) (base : ℕ) (v : List ℕ) (n j : ℕ) → j < n → base + n ≤ length m → get_or (words_put m base v n) (base + j) 0 ≡ word_of v j
unfolding words_put
words_put_same m base v zero j l r = absurd (omega arith)
words_put_same m base v (suc n) j l r =
    elim (cases_eq j n) [
      | inl e ↦ rw e (get_or-set_same (words_put m base v n) (base + n) (word_of v n) 0 (omega (arith, length_words_put m base v n)))
      | inr ne ↦ get_or-set_other (words_put m base v n) (base + n) (base + j) (word_of v n) 0 (omega arith) ∙ words_put_same m base v n j (omega arith) (omega arith)
    ]

pub length_value_put : (m : List ℕ) (k : ℕ) (v : List ℕ) → length (value_put m k v) ≡ length m
unfolding value_put
length_value_put m k v = length_words_put (set m (value_row k) (length v)) (value_row k + 1) v (words_for (length v)) ∙ length-set m (value_row k) (length v)

-- only the words of the slot change
pub value_put_before : (m : List ℕ) (k : ℕ) (v : List ℕ) (i : ℕ) → i < value_row k → get_or (value_put m k v) i 0 ≡ get_or m i 0
unfolding value_put
value_put_before m k v i l =
    words_put_other (set m (value_row k) (length v)) (value_row k + 1) v (words_for (length v)) i (λ j b. omega arith)
    ∙ get_or-set_other m (value_row k) i (length v) 0 (omega arith)

pub value_put_behind : (m : List ℕ) (k : ℕ) (v : List ℕ) (i : ℕ) → length v ≤ 256 → value_row k + 33 ≤ i → get_or (value_put m k v) i 0 ≡ get_or m i 0
unfolding value_put
value_put_behind m k v i s l =
    words_put_other (set m (value_row k) (length v)) (value_row k + 1) v (words_for (length v)) i (λ j b. omega arith)
    ∙ get_or-set_other m (value_row k) i (length v) 0 (omega arith)

pub value_put_other : (m : List ℕ) (k : ℕ) (v : List ℕ) (j : ℕ) → length v ≤ 256 → j ≢ k → value_at (value_put m k v) j ≡ value_at m j
value_put_other m k v j s ne =
    elim (cases_order j k) [
      | inl e ↦ absurd (ne e)
      | inr o ↦
          elim o [
            | inl l ↦ value_alike m (value_put m k v) j (λ i a b. value_put_before m k v i (omega arith))
            | inr l ↦ value_alike m (value_put m k v) j (λ i a b. value_put_behind m k v i s (omega arith))
          ]
    ]

-- the bytes of a word of eight bytes
module _ (a b c d e f g h : ℕ) where
  abbrev eight : ℕ
  eight = a + 256 * (b + 256 * (c + 256 * (d + 256 * (e + 256 * (f + 256 * (g + 256 * h))))))

  byte_0 : a < 256 → eight % 256 ≡ a
  byte_0 l₀ = omega arith

  byte_1 : a < 256 → b < 256 → eight / 256 % 256 ≡ b
  byte_1 l₀ l₁ = omega arith

  byte_2 : a < 256 → b < 256 → c < 256 → eight / 65536 % 256 ≡ c
  byte_2 l₀ l₁ l₂ = omega arith

  byte_3 : a < 256 → b < 256 → c < 256 → d < 256 → eight / 16777216 % 256 ≡ d
  byte_3 l₀ l₁ l₂ l₃ = omega arith

  byte_4 : a < 256 → b < 256 → c < 256 → d < 256 → e < 256 → eight / 4294967296 % 256 ≡ e
  byte_4 l₀ l₁ l₂ l₃ l₄ = omega arith

  byte_5 : a < 256 → b < 256 → c < 256 → d < 256 → e < 256 → f < 256 → eight / 1099511627776 % 256 ≡ f
  byte_5 l₀ l₁ l₂ l₃ l₄ l₅ = omega arith

  byte_6 : a < 256 → b < 256 → c < 256 → d < 256 → e < 256 → f < 256 → g < 256 → eight / 281474976710656 % 256 ≡ g
  byte_6 l₀ l₁ l₂ l₃ l₄ l₅ l₆ = omega arith

  byte_7 : a < 256 → b < 256 → c < 256 → d < 256 → e < 256 → f < 256 → g < 256 → h < 256 → eight / 72057594037927936 % 256 ≡ h
  byte_7 l₀ l₁ l₂ l₃ l₄ l₅ l₆ l₇ = omega arith

module _ (v : List ℕ) (j : ℕ) where
  low : (i : ℕ) → byte_or v i < 256
  low i = omega arith

  abbrev at : ℕ → ℕ
  at r = byte_or v (8 * j + r)

  byte_in_word : (r : ℕ) → r < 8 → byte_in (word_of v j) r ≡ byte_or v (8 * j + r)
  byte_in_word zero l = byte_0 (byte_or v (8 * j)) (at 1) (at 2) (at 3) (at 4) (at 5) (at 6) (at 7) (low _) ∙ ap (byte_or v) (omega arith)
  byte_in_word (suc zero) l = byte_1 (byte_or v (8 * j)) (at 1) (at 2) (at 3) (at 4) (at 5) (at 6) (at 7) (low _) (low _)
  byte_in_word (suc (suc zero)) l = byte_2 (byte_or v (8 * j)) (at 1) (at 2) (at 3) (at 4) (at 5) (at 6) (at 7) (low _) (low _) (low _)
  byte_in_word (suc (suc (suc zero))) l = byte_3 (byte_or v (8 * j)) (at 1) (at 2) (at 3) (at 4) (at 5) (at 6) (at 7) (low _) (low _) (low _) (low _)
  byte_in_word (suc (suc (suc (suc zero)))) l =
      byte_4 (byte_or v (8 * j)) (at 1) (at 2) (at 3) (at 4) (at 5) (at 6) (at 7) (low _) (low _) (low _) (low _) (low _)
  byte_in_word (suc (suc (suc (suc (suc zero))))) l =
      byte_5 (byte_or v (8 * j)) (at 1) (at 2) (at 3) (at 4) (at 5) (at 6) (at 7) (low _) (low _) (low _) (low _) (low _) (low _)
  byte_in_word (suc (suc (suc (suc (suc (suc zero)))))) l =
      byte_6 (byte_or v (8 * j)) (at 1) (at 2) (at 3) (at 4) (at 5) (at 6) (at 7) (low _) (low _) (low _) (low _) (low _) (low _) (low _)
  byte_in_word (suc (suc (suc (suc (suc (suc (suc zero))))))) l =
      byte_7 (byte_or v (8 * j)) (at 1) (at 2) (at 3) (at 4) (at 5) (at 6) (at 7) (low _) (low _) (low _) (low _) (low _) (low _) (low _) (low _)
  byte_in_word (suc (suc (suc (suc (suc (suc (suc (suc r)))))))) l = absurd (omega arith)

module _ (m : List ℕ) (k : ℕ) (v : List ℕ) (long : length m ≡ memory_words) (room : k < 4096) (short : length v ≤ 256) (bytes : Bytes v) where
  put_length : get_or (value_put m k v) (value_row k) 0 ≡ length v
  unfolding value_put
  put_length =
      words_put_other (set m (value_row k) (length v)) (value_row k + 1) v (words_for (length v)) (value_row k) (λ j b. omega arith)
      ∙ get_or-set_same m (value_row k) (length v) 0 (omega arith)

  put_byte : (i : ℕ) → i < length v → byte_at (value_put m k v) (value_row k + 1) i ≡ get_or v i 0
  unfolding value_put
  put_byte i l =
      let w = words_put_same (set m (value_row k) (length v)) (value_row k + 1) v (words_for (length v)) (i / 8) (omega arith) (simp length-set (omega arith)) in
      let e : 8 * (i / 8) + i % 8 ≡ i = omega arith in
      let s : byte_or v i ≡ get_or v i 0 = omega (arith, bytes i) in
      ap (λ x. byte_in x (i % 8)) w ∙ (byte_in_word v (i / 8) (i % 8) (omega arith) ∙ (ap (byte_or v) e ∙ s))

  pub value_put_same : value_at (value_put m k v) k ≡ v
  unfolding value_at
  value_put_same =
      let f : ℕ → ℕ = λ i. byte_at (value_put m k v) (value_row k + 1) i in
      let n : value_length (value_put m k v) k ≡ length v = ap (λ x. at_most x 256) put_length ∙ at_most_same (length v) 256 short in
      ap (bytes_at (value_put m k v) (value_row k + 1)) n
      ∙ ext_get_or 0 (bytes_at (value_put m k v) (value_row k + 1) (length v)) v (length-map-range_with_len f 0 (length v))
      (λ i l₁. let l : i < length v = omega (arith, length-map-range_with_len f 0 (length v)) in get_or-map-range_with_len f 0 (length v) i i 0 l (omega arith) ∙ put_byte i l)
