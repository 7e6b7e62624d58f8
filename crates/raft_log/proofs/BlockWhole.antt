-- Bytes that are a block are the bytes of its entries, and those are entries that a log can hold.
use Rattle.std.proofs.Common.{◌≡◌, ℕ, zero, suc, ◌+◌, ◌-◌, ◌*◌, ◌<◌, ◌≤◌, true, List, [], ◌∷◌, ◌++◌, map, length, take, drop, sym, refl, ap, ◌∙◌, add-zero, arith}
use mathlib.Core.Option.{Option, none, some}
use Rattle.std.specs.List.{range_with_len}
use Rattle.std.proofs.lemmas.List.{append_assoc, append-nil, length-drop, length-take-le, take-append-drop, drop-drop, drop_all}
use Rattle.std.proofs.lemmas.List.FromFn.{length-map-range_with_len}
use Rattle.raft_log.specs.Bytes.{Bytes, eight, two}
use Rattle.raft_log.specs.Block.{Entry, content_code, content_bytes, row_bytes, table_bytes, values_bytes, block_bytes, ContentFits, EntriesFit, row_term, row_code, row_length, value_offset, content_of, block_entry, block_entries, block_fits}
use Rattle.raft_log.proofs.ByteLaws.{eight_at, two_at, word_small, bytes_none, bytes_append, bytes_take, bytes_drop, bytes_eight, bytes_two}
use Rattle.raft_log.proofs.BlockReads.{value_offset_none, value_offset_more, Fits, fits}

code_again : (k : ℕ) (v : List ℕ) → length v ≡ k - 1 → content_code (content_of k v) ≡ k
code_again zero v e = refl
code_again (suc k) v e = omega arith

content_again : (k : ℕ) (xs : List ℕ) → content_bytes (content_of k (take (k - 1) xs)) ≡ take (k - 1) xs
content_again zero xs = refl
content_again (suc k) xs = refl

content_fits : (k : ℕ) (v : List ℕ) → k ≤ 257 → length v ≡ k - 1 → Bytes v → ContentFits (content_of k v)
content_fits zero v s e b = tt
content_fits (suc k) v s e b = (omega arith, b)

module _ (bs : List ℕ) (n : ℕ) (b : Bytes bs) (f : Fits bs n) where
  abbrev entry : ℕ → Entry
  entry i = block_entry bs n i

  abbrev value : ℕ → List ℕ
  value i = take (row_length bs i) (drop (value_offset bs n i) bs)

  length_value : (i : ℕ) → i < n → length (value i) ≡ row_length bs i
  length_value i l = length-take-le (row_length bs i) (drop (value_offset bs n i) bs) (omega (arith, f.within i l, length-drop (value_offset bs n i) bs))

  row_again : (i : ℕ) → i < n → row_bytes (entry i) ++ drop (10 * i + 10) bs ≡ drop (10 * i) bs
  row_again i l =
      let c : content_code (entry i).content ≡ row_code bs i = code_again (row_code bs i) (value i) (length_value i l) in
      let e : 10 * i + 10 ≡ 10 * i + 8 + 2 = omega arith in
      let long : 10 * i + 10 ≤ length bs = omega (arith, f.table) in
      ap (λ k. (eight (row_term bs i) ++ two k) ++ drop (10 * i + 10) bs) c
      ∙ (append_assoc (eight (row_term bs i)) (two (row_code bs i)) (drop (10 * i + 10) bs)
      ∙ (ap (λ k. eight (row_term bs i) ++ (two (row_code bs i) ++ drop k bs)) e
      ∙ (ap (λ t. eight (row_term bs i) ++ t) (two_at bs (10 * i + 8) b (omega arith)) ∙ eight_at bs (10 * i) b (omega arith))))

  table_again : (a k : ℕ) → a + k ≤ n → table_bytes (map (λ i. entry i) (range_with_len a k)) ++ drop (10 * (a + k)) bs ≡ drop (10 * a) bs
  unfolding table_bytes
  table_again a zero l = rw add-zero
  table_again a (suc k) l =
      let e : 10 * (a + suc k) ≡ 10 * (a + 1 + k) = omega arith in
      let e₁ : 10 * (a + 1) ≡ 10 * a + 10 = omega arith in
      let rest : List ℕ = table_bytes (map (λ i. entry i) (range_with_len (a + 1) k)) in
      ap (λ j. (row_bytes (entry a) ++ rest) ++ drop j bs) e
      ∙ (append_assoc (row_bytes (entry a)) rest (drop (10 * (a + 1 + k)) bs)
      ∙ (ap (λ t. row_bytes (entry a) ++ t) (table_again (a + 1) k (omega arith) ∙ ap (λ j. drop j bs) e₁) ∙ row_again a (omega arith)))

  value_again : (i : ℕ) → content_bytes (entry i).content ++ drop (value_offset bs n (i + 1)) bs ≡ drop (value_offset bs n i) bs
  value_again i =
      ap (λ t. t ++ drop (value_offset bs n (i + 1)) bs) (content_again (row_code bs i) (drop (value_offset bs n i) bs))
      ∙ (ap (λ t. value i ++ t) (ap (λ j. drop j bs) (value_offset_more bs n i) ∙ sym (drop-drop (row_length bs i) (value_offset bs n i) bs))
      ∙ take-append-drop (row_length bs i) (drop (value_offset bs n i) bs))

  values_again : (a k : ℕ) → values_bytes (map (λ i. entry i) (range_with_len a k)) ++ drop (value_offset bs n (a + k)) bs ≡ drop (value_offset bs n a) bs
  unfolding values_bytes
  values_again a zero = rw add-zero
  values_again a (suc k) =
      let e : a + suc k ≡ a + 1 + k = omega arith in
      let rest : List ℕ = values_bytes (map (λ i. entry i) (range_with_len (a + 1) k)) in
      ap (λ j. (content_bytes (entry a).content ++ rest) ++ drop (value_offset bs n j) bs) e
      ∙ (append_assoc (content_bytes (entry a).content) rest (drop (value_offset bs n (a + 1 + k)) bs)
      ∙ (ap (λ t. content_bytes (entry a).content ++ t) (values_again (a + 1) k) ∙ value_again a))

  block_again : block_bytes (block_entries bs n) ≡ bs
  unfolding block_entries
  block_again =
      let es : List Entry = map (λ i. entry i) (range_with_len 0 n) in
      let z : 0 + n ≡ n = omega arith in
      let v : values_bytes es ≡ drop (10 * n) bs =
      sym (append-nil (values_bytes es))
      ∙ (ap (λ t. values_bytes es ++ t) (sym (drop_all (value_offset bs n (0 + n)) bs (omega (arith, ap (value_offset bs n) z, f.end))))
      ∙ (values_again 0 n ∙ ap (λ j. drop j bs) (value_offset_none bs n))) in
      ap (λ t. table_bytes es ++ t) (v ∙ ap (λ j. drop (10 * j) bs) (sym z)) ∙ table_again 0 n (omega arith)

  entries_again : (a k : ℕ) → a + k ≤ n → EntriesFit (map (λ i. entry i) (range_with_len a k))
  entries_again a zero l = tt
  entries_again a (suc k) l = (
    word_small bs (10 * a) b,
    content_fits (row_code bs a) (value a) (f.codes a (omega arith)) (length_value a (omega arith))
        (bytes_take (drop (value_offset bs n a) bs) (row_length bs a) (bytes_drop bs (value_offset bs n a) b)),
    entries_again (a + 1) k (omega arith),
  )

-- the entries of a block are written as that block
pub block_whole : (bs : List ℕ) (n : ℕ) → Bytes bs → block_fits bs n ≡ true → block_bytes (block_entries bs n) ≡ bs
block_whole bs n b h = block_again bs n b (fits bs n h)

pub length_block_entries : (bs : List ℕ) (n : ℕ) → length (block_entries bs n) ≡ n
unfolding block_entries
length_block_entries bs n = length-map-range_with_len (λ i. block_entry bs n i) 0 n

pub entries_fit : (bs : List ℕ) (n : ℕ) → Bytes bs → block_fits bs n ≡ true → EntriesFit (block_entries bs n)
unfolding block_entries
entries_fit bs n b h = entries_again bs n b (fits bs n h) 0 n (omega arith)

-- the bytes of entries are bytes
table_all : (es : List Entry) → Bytes (table_bytes es)
unfolding table_bytes
table_all [] = bytes_none
table_all (e ∷ es) = bytes_append (row_bytes e) (table_bytes es) (bytes_append (eight e.term) (two (content_code e.content)) (bytes_eight e.term) (bytes_two (content_code e.content))) (table_all es)

content_all : (c : Option (List ℕ)) → ContentFits c → Bytes (content_bytes c)
content_all none f = bytes_none
content_all (some v) f = f.1

values_all : (es : List Entry) → EntriesFit es → Bytes (values_bytes es)
unfolding values_bytes
values_all [] f = bytes_none
values_all (e ∷ es) f = bytes_append (content_bytes e.content) (values_bytes es) (content_all e.content f.1) (values_all es f.2)

pub block_all : (es : List Entry) → EntriesFit es → Bytes (block_bytes es)
block_all es f = bytes_append (table_bytes es) (values_bytes es) (table_all es) (values_all es f)
