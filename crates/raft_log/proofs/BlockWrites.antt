-- A block that is written one more row, value or word at a time.
use Rattle.std.proofs.Common.{◌≡◌, ℕ, zero, suc, ◌+◌, ◌*◌, ◌/◌, ◌%◌, ◌<◌, ◌≤◌, List, [], ◌∷◌, ◌++◌, map, length, get_or, take, sym, refl, ap, ◌∙◌, add-zero, zero-add, arith}
use mathlib.Core.Option.{Option, none, some}
use Rattle.std.specs.List.{range_with_len}
use Rattle.std.proofs.lemmas.List.{append_assoc, append-nil, length-append, map-append}
use Rattle.std.proofs.lemmas.List.FromFn.{length-map-range_with_len, take-map-range_with_len, map-range_with_len_more}
use Rattle.raft_log.specs.Layout.{value_row}
use Rattle.raft_log.specs.Values.{byte_in, byte_at, bytes_at, value_length, value_at}
use Rattle.raft_log.specs.Bytes.{eight, two, laid}
use Rattle.raft_log.specs.Block.{Entry, content_code, content_bytes, row_bytes, table_bytes, values_bytes, block_bytes, log_content, log_entry, log_entries}
use Rattle.raft_log.proofs.ByteLaws.{laid_none, laid_more}

-- WORDS of a value
counting_append : (a n k : ℕ) → range_with_len a (n + k) ≡ range_with_len a n ++ range_with_len (a + n) k
counting_append a zero k = rw (zero-add k, add-zero a)
counting_append a (suc n) k =
    let e : suc n + k ≡ suc (n + k) = omega arith in
    let b : a + 1 + n ≡ a + suc n = omega arith in
    rw (e, counting_append (a + 1) n k, b)

byte_of : (m : List ℕ) (base j k i : ℕ) → i ≡ 8 * j + k → k < 8 → byte_at m base i ≡ byte_in (get_or m (base + j) 0) k
byte_of m base j k i e l =
    let q : i / 8 ≡ j = omega arith in
    let r : i % 8 ≡ k = omega arith in
    ap (λ x. byte_in (get_or m (base + x) 0) (i % 8)) q ∙ ap (byte_in (get_or m (base + j) 0)) r

word_bytes : (m : List ℕ) (base j : ℕ) → map (λ i. byte_at m base i) (range_with_len (8 * j) 8) ≡ eight (get_or m (base + j) 0)
word_bytes m base j =
    let b₀ = byte_of m base j 0 (8 * j) (omega arith) (omega arith) in
    let b₁ = byte_of m base j 1 (8 * j + 1) (omega arith) (omega arith) in
    let b₂ = byte_of m base j 2 (8 * j + 1 + 1) (omega arith) (omega arith) in
    let b₃ = byte_of m base j 3 (8 * j + 1 + 1 + 1) (omega arith) (omega arith) in
    let b₄ = byte_of m base j 4 (8 * j + 1 + 1 + 1 + 1) (omega arith) (omega arith) in
    let b₅ = byte_of m base j 5 (8 * j + 1 + 1 + 1 + 1 + 1) (omega arith) (omega arith) in
    let b₆ = byte_of m base j 6 (8 * j + 1 + 1 + 1 + 1 + 1 + 1) (omega arith) (omega arith) in
    let b₇ = byte_of m base j 7 (8 * j + 1 + 1 + 1 + 1 + 1 + 1 + 1) (omega arith) (omega arith) in
    cc

-- the first bytes of one word more
pub bytes_more : (m : List ℕ) (base j r : ℕ) → r ≤ 8 → bytes_at m base (8 * j + r) ≡ bytes_at m base (8 * j) ++ take r (eight (get_or m (base + j) 0))
bytes_more m base j r l =
    let f : ℕ → ℕ = λ i. byte_at m base i in
    ap (map f) (counting_append 0 (8 * j) r)
    ∙ (map-append f (range_with_len 0 (8 * j)) (range_with_len (0 + 8 * j) r)
    ∙ ap (λ t. map f (range_with_len 0 (8 * j)) ++ t)
    (ap (λ a. map f (range_with_len a r)) (zero-add (8 * j)) ∙ (sym (take-map-range_with_len f (8 * j) 8 r l) ∙ ap (take r) (word_bytes m base j))))

pub length_bytes : (m : List ℕ) (base n : ℕ) → length (bytes_at m base n) ≡ n
length_bytes m base n = length-map-range_with_len (λ i. byte_at m base i) 0 n

-- so many bytes of the words from base on were written
pub words_none : (m out : List ℕ) (base i : ℕ) → out ≡ laid out i (bytes_at m base (8 * 0))
words_none m out base i = sym (laid_none out i)

pub words_more : (m out o o₁ : List ℕ) (base i j r : ℕ) → r ≤ 8 → i + 8 * j ≤ length out → o ≡ laid out i (bytes_at m base (8 * j)) →
    o₁ ≡ laid o (i + 8 * j) (take r (eight (get_or m (base + j) 0))) → o₁ ≡ laid out i (bytes_at m base (8 * j + r))
words_more m out o o₁ base i j r s l e e₁ =
    e₁
    ∙ (ap (λ x. laid x (i + 8 * j) (take r (eight (get_or m (base + j) 0)))) e
    ∙ (laid_more out i (i + 8 * j) (bytes_at m base (8 * j)) (take r (eight (get_or m (base + j) 0))) (ap (λ n. i + n) (length_bytes m base (8 * j))) l
    ∙ ap (laid out i) (sym (bytes_more m base j r s))))

-- CONTENTS
pub length_value_at : (m : List ℕ) (k : ℕ) → length (value_at m k) ≡ value_length m k
unfolding value_at
length_value_at m k = length_bytes m (value_row k + 1) (value_length m k)

pub code_none : (c : Option (List ℕ)) → c ≡ none → 0 ≡ content_code c
code_none c e = sym (ap content_code e)

pub code_some : (c : Option (List ℕ)) (m : List ℕ) (k n : ℕ) → c ≡ some (value_at m k) → n ≡ value_length m k → n + 1 ≡ content_code c
code_some c m k n e l =
    let s : n + 1 ≡ suc (length (value_at m k)) = omega (arith, length_value_at m k) in
    s ∙ sym (ap content_code e)

-- a value, or nothing, was put from i on
pub record Put (out : List ℕ) (i : ℕ) (bs : List ℕ) (end : ℕ) (o : List ℕ) : Type 0 where
  pub end_is : end ≡ i + length bs
  pub is : o ≡ laid out i bs

pub put_none : (c : Option (List ℕ)) (out : List ℕ) (i : ℕ) → c ≡ none → Put out i (content_bytes c) i out
put_none c out i e = rw e (record { end_is = omega arith; is = sym (laid_none out i) })

pub put_some : (c : Option (List ℕ)) (out v : List ℕ) (i end : ℕ) (o : List ℕ) → c ≡ some v → end ≡ i + length v → o ≡ laid out i v → Put out i (content_bytes c) end o
put_some c out v i end o e l h = rw e (record { end_is = l; is = h })

pub slot_put : (m out o : List ℕ) (k n i : ℕ) → n ≡ value_length m k → o ≡ laid out i (bytes_at m (value_row k + 1) n) → Put out i (value_at m k) (i + n) o
unfolding value_at
slot_put m out o k n i e h =
    record {
      end_is = omega (arith, length_bytes m (value_row k + 1) (value_length m k));
      is = h ∙ ap (λ x. laid out i (bytes_at m (value_row k + 1) x)) e;
    }

-- ROWS
pub row_put : (out o o₁ : List ℕ) (i t k : ℕ) (e : Entry) → i + 10 ≤ length out → t ≡ e.term → k ≡ content_code e.content →
    o ≡ laid out i (eight t) → o₁ ≡ laid o (i + 8) (two k) → o₁ ≡ laid out i (row_bytes e)
row_put out o o₁ i t k e l et ek h h₁ =
    h₁
    ∙ (ap (λ x. laid x (i + 8) (two k)) h
    ∙ (laid_more out i (i + 8) (eight t) (two k) refl (omega arith)
    ∙ (ap (λ x. laid out i (eight x ++ two k)) et ∙ ap (λ x. laid out i (eight e.term ++ two x)) ek)))

pub table_push : (es : List Entry) (e : Entry) → table_bytes (es ++ e ∷ []) ≡ table_bytes es ++ row_bytes e
unfolding table_bytes
table_push [] e = append-nil (row_bytes e)
table_push (x ∷ es) e = ap (λ t. row_bytes x ++ t) (table_push es e) ∙ sym (append_assoc (row_bytes x) (table_bytes es) (row_bytes e))

pub values_push : (es : List Entry) (e : Entry) → values_bytes (es ++ e ∷ []) ≡ values_bytes es ++ content_bytes e.content
unfolding values_bytes
values_push [] e = append-nil (content_bytes e.content)
values_push (x ∷ es) e =
    ap (λ t. content_bytes x.content ++ t) (values_push es e)
    ∙ sym (append_assoc (content_bytes x.content) (values_bytes es) (content_bytes e.content))

pub length_table : (es : List Entry) → length (table_bytes es) ≡ 10 * length es
unfolding table_bytes
length_table [] = refl
length_table (e ∷ es) = omega (arith, length-append (row_bytes e) (table_bytes es), length_table es)

pub length_log_entries : (m : List ℕ) (f n : ℕ) → length (log_entries m f n) ≡ n
unfolding log_entries
length_log_entries m f n = length-map-range_with_len (λ i. log_entry m i) f n

log_entries_more : (m : List ℕ) (f i : ℕ) → log_entries m f (i + 1) ≡ log_entries m f i ++ log_entry m (f + i) ∷ []
unfolding log_entries
log_entries_more m f i = map-range_with_len_more (λ k. log_entry m k) f i (f + i) refl

pub table_none : (m out : List ℕ) (f i : ℕ) → out ≡ laid out i (table_bytes (log_entries m f 0))
unfolding log_entries table_bytes
table_none m out f i = sym (laid_none out i)

pub table_more : (m out o o₁ : List ℕ) (f i j : ℕ) → i + 10 * j ≤ length out → o ≡ laid out i (table_bytes (log_entries m f j)) →
    o₁ ≡ laid o (i + 10 * j) (row_bytes (log_entry m (f + j))) → o₁ ≡ laid out i (table_bytes (log_entries m f (j + 1)))
table_more m out o o₁ f i j l e e₁ =
    let n : i + length (table_bytes (log_entries m f j)) ≡ i + 10 * j = omega (arith, length_table (log_entries m f j), length_log_entries m f j) in
    e₁
    ∙ (ap (λ x. laid x (i + 10 * j) (row_bytes (log_entry m (f + j)))) e
    ∙ (laid_more out i (i + 10 * j) (table_bytes (log_entries m f j)) (row_bytes (log_entry m (f + j))) n l
    ∙ ap (laid out i) (sym (ap table_bytes (log_entries_more m f j) ∙ table_push (log_entries m f j) (log_entry m (f + j))))))

pub values_none : (m out : List ℕ) (f i : ℕ) → Put out i (values_bytes (log_entries m f 0)) i out
unfolding log_entries values_bytes
values_none m out f i = record { end_is = omega arith; is = sym (laid_none out i) }

pub values_more : (m out o o₁ : List ℕ) (f i j end end₁ : ℕ) → end ≤ length out → Put out i (values_bytes (log_entries m f j)) end o →
    Put o end (content_bytes (log_content m (f + j))) end₁ o₁ → Put out i (values_bytes (log_entries m f (j + 1))) end₁ o₁
values_more m out o o₁ f i j end end₁ l p p₁ =
    let more : values_bytes (log_entries m f (j + 1)) ≡ values_bytes (log_entries m f j) ++ content_bytes (log_content m (f + j)) =
    ap values_bytes (log_entries_more m f j) ∙ values_push (log_entries m f j) (log_entry m (f + j)) in
    record {
      end_is = omega (arith, ap length more, length-append (values_bytes (log_entries m f j)) (content_bytes (log_content m (f + j))), p.end_is, p₁.end_is);
      is =
          p₁.is
          ∙ (ap (λ x. laid x end (content_bytes (log_content m (f + j)))) p.is
          ∙ (laid_more out i end (values_bytes (log_entries m f j)) (content_bytes (log_content m (f + j))) (sym p.end_is) l ∙ ap (laid out i) (sym more)));
    }

-- the whole block
pub block_put : (out o o₁ : List ℕ) (es : List Entry) (n i end : ℕ) → length es ≡ n → i + 10 * n ≤ length out → o ≡ laid out i (table_bytes es) →
    Put o (i + 10 * n) (values_bytes es) end o₁ → Put out i (block_bytes es) end o₁
block_put out o o₁ es n i end c l e p =
    record {
      end_is = omega (arith, length-append (table_bytes es) (values_bytes es), length_table es, p.end_is);
      is =
          p.is
          ∙ (ap (λ x. laid x (i + 10 * n) (values_bytes es)) e ∙ laid_more out i (i + 10 * n) (table_bytes es) (values_bytes es) (omega (arith, length_table es)) l);
    }
