-- A block of entries that was written is read as those entries.
use Rattle.std.proofs.Common.{◌≡◌, ℕ, zero, suc, ◌+◌, ◌-◌, ◌*◌, ◌<◌, ◌≤◌, true, ◌&&◌, eqb, leb, List, [], ◌∷◌, ◌++◌, map, length, get_or, take, drop, sym, refl, ap, ◌∙◌, arith}
use mathlib.Core.Option.{Option, none, some}
use Rattle.std.specs.List.{range_with_len}
use Rattle.std.proofs.lemmas.List.{append_assoc, length-append, take-append-drop, take_at, drop_at, drop-drop, take_all, take_more, drop_more, ext_get_or}
use Rattle.std.proofs.lemmas.List.FromFn.{length-map-range_with_len, get_or-map-range_with_len}
use Rattle.std.proofs.lemmas.Bool.{le-leb, eq-eqb, and_from}
use Rattle.raft_log.specs.Bytes.{word_at, pair_at}
use Rattle.raft_log.specs.Block.{Entry, content_code, content_bytes, row_bytes, table_bytes, values_bytes, block_bytes, ContentFits, EntriesFit, row_term, row_code, row_length, value_offset, content_of, block_entry, block_entries, codes_fit, block_fits}
use Rattle.raft_log.proofs.ByteLaws.{word_drop, pair_drop}
use Rattle.raft_log.proofs.BlockReads.{value_offset_none, value_offset_more, codes_fit_none, codes_fit_more}
use Rattle.raft_log.proofs.BlockWrites.{values_push, length_table}

abbrev pub no_entry : Entry
no_entry = record { term = 0; content = none }

pub content_short : (c : Option (List ℕ)) → ContentFits c → content_code c ≤ 257
content_short none f = omega arith
content_short (some v) f = omega arith

-- ROWS are read where they were written
pub row_term_back : (es : List Entry) (rest : List ℕ) (i : ℕ) → EntriesFit es → i < length es → row_term (table_bytes es ++ rest) i ≡ (get_or es i no_entry).term
unfolding table_bytes
row_term_back [] rest i f l = absurd (omega arith)
row_term_back (e ∷ es) rest zero f l = omega arith
row_term_back (e ∷ es) rest (suc i) f l =
    let p : 10 * suc i ≡ 10 + 10 * i = omega arith in
    ap (word_at ((row_bytes e ++ table_bytes es) ++ rest)) p
    ∙ (sym (word_drop ((row_bytes e ++ table_bytes es) ++ rest) 10 (10 * i)) ∙ row_term_back es rest i f.2 (omega arith))

pub row_code_back : (es : List Entry) (rest : List ℕ) (i : ℕ) → EntriesFit es → i < length es →
    row_code (table_bytes es ++ rest) i ≡ content_code (get_or es i no_entry).content
unfolding table_bytes
row_code_back [] rest i f l = absurd (omega arith)
row_code_back (e ∷ es) rest zero f l = omega (arith, content_short e.content f.1)
row_code_back (e ∷ es) rest (suc i) f l =
    let p : 10 * suc i + 8 ≡ 10 + (10 * i + 8) = omega arith in
    ap (pair_at ((row_bytes e ++ table_bytes es) ++ rest)) p
    ∙ (sym (pair_drop ((row_bytes e ++ table_bytes es) ++ rest) 10 (10 * i + 8)) ∙ row_code_back es rest i f.2 (omega arith))

pub entry_fits : (es : List Entry) (i : ℕ) → EntriesFit es → i < length es → ContentFits (get_or es i no_entry).content
entry_fits [] i f l = absurd (omega arith)
entry_fits (e ∷ es) zero f l = f.1
entry_fits (e ∷ es) (suc i) f l = entry_fits es i f.2 (omega arith)

code_length : (c : Option (List ℕ)) → content_code c - 1 ≡ length (content_bytes c)
code_length none = refl
code_length (some v) = omega arith

-- VALUES begin where those before end
values_append : (xs ys : List Entry) → values_bytes (xs ++ ys) ≡ values_bytes xs ++ values_bytes ys
unfolding values_bytes
values_append [] ys = refl
values_append (x ∷ xs) ys =
    ap (λ t. content_bytes x.content ++ t) (values_append xs ys) ∙ sym (append_assoc (content_bytes x.content) (values_bytes xs) (values_bytes ys))

values_take_more : (es : List Entry) (i : ℕ) → i < length es → values_bytes (take (i + 1) es) ≡ values_bytes (take i es) ++ content_bytes (get_or es i no_entry).content
values_take_more es i l = ap values_bytes (take_more es i no_entry l) ∙ values_push (take i es) (get_or es i no_entry)

values_none : values_bytes [] ≡ []
unfolding values_bytes
values_none = refl

values_drop : (es : List Entry) (i : ℕ) → i < length es → values_bytes (drop i es) ≡ content_bytes (get_or es i no_entry).content ++ values_bytes (drop (i + 1) es)
unfolding values_bytes
values_drop es i l = ap values_bytes (drop_more es i no_entry l)

module _ (es : List Entry) (f : EntriesFit es) where
  abbrev bs : List ℕ
  bs = block_bytes es

  abbrev n : ℕ
  n = length es

  row_length_back : (i : ℕ) → i < n → row_length bs i ≡ length (content_bytes (get_or es i no_entry).content)
  row_length_back i l = ap (λ k. k - 1) (row_code_back es (values_bytes es) i f l) ∙ code_length (get_or es i no_entry).content

  offset_back : (i : ℕ) → i ≤ n → value_offset bs n i ≡ 10 * n + length (values_bytes (take i es))
  offset_back zero l = value_offset_none bs n ∙ omega (arith, ap length values_none)
  offset_back (suc i) l =
      let e : i + 1 ≡ suc i = omega arith in
      let o : value_offset bs n (i + 1) ≡ 10 * n + length (values_bytes (take (i + 1) es)) =
      omega (
        arith,
        value_offset_more bs n i,
        offset_back i (omega arith),
        row_length_back i (omega arith),
        ap length (values_take_more es i (omega arith)),
        length-append (values_bytes (take i es)) (content_bytes (get_or es i no_entry).content),
      ) in
      rw e at o

  value_back : (i : ℕ) → i < n → take (row_length bs i) (drop (value_offset bs n i) bs) ≡ content_bytes (get_or es i no_entry).content
  value_back i l =
      let k : ℕ = length (values_bytes (take i es)) in
      let whole : values_bytes es ≡ values_bytes (take i es) ++ values_bytes (drop i es) =
      sym (ap values_bytes (take-append-drop i es)) ∙ values_append (take i es) (drop i es) in
      let d : drop (value_offset bs n i) bs ≡ values_bytes (drop i es) =
      ap (λ x. drop x bs) (offset_back i (omega arith))
      ∙ (sym (drop-drop k (10 * n) bs)
      ∙ (ap (drop k) (drop_at (table_bytes es) (values_bytes es) (10 * n) (length_table es))
      ∙ (ap (drop k) whole ∙ drop_at (values_bytes (take i es)) (values_bytes (drop i es)) k refl))) in
      ap (take (row_length bs i)) (d ∙ values_drop es i l)
      ∙ take_at (content_bytes (get_or es i no_entry).content) (values_bytes (drop (i + 1) es)) (row_length bs i) (sym (row_length_back i l))

  content_back : (c : Option (List ℕ)) (k : ℕ) (v : List ℕ) → k ≡ content_code c → v ≡ content_bytes c → content_of k v ≡ c
  content_back none k v e h = rw e
  content_back (some x) k v e h = rw (e, h)

  entry_back : (i : ℕ) → i < n → block_entry bs n i ≡ get_or es i no_entry
  entry_back i l =
      let e : Entry = get_or es i no_entry in
      let t : row_term bs i ≡ e.term = row_term_back es (values_bytes es) i f l in
      let c : content_of (row_code bs i) (take (row_length bs i) (drop (value_offset bs n i) bs)) ≡ e.content =
      content_back e.content (row_code bs i) (take (row_length bs i) (drop (value_offset bs n i) bs)) (row_code_back es (values_bytes es) i f l) (value_back i l) in
      let at : ℕ → Option (List ℕ) → Entry = λ x y. record { term = x; content = y } in
      ap (λ x. at x (content_of (row_code bs i) (take (row_length bs i) (drop (value_offset bs n i) bs)))) t ∙ ap (at e.term) c

  -- the entries of the block are those that were written
  pub entries_back : block_entries bs n ≡ es
  unfolding block_entries
  entries_back =
      let g : ℕ → Entry = λ i. block_entry bs n i in
      ext_get_or no_entry (map g (range_with_len 0 n)) es (length-map-range_with_len g 0 n)
      (λ i l₁. let l : i < n = omega (arith, length-map-range_with_len g 0 n) in get_or-map-range_with_len g 0 n i i no_entry l (omega arith) ∙ entry_back i l)

  codes_back : (i : ℕ) → i ≤ n → codes_fit bs i ≡ true
  codes_back zero l = codes_fit_none bs
  codes_back (suc i) l =
      let e : i + 1 ≡ suc i = omega arith in
      let s : row_code bs i ≤ 257 =
      omega (arith, row_code_back es (values_bytes es) i f (omega arith), content_short (get_or es i no_entry).content (entry_fits es i f (omega arith))) in
      rw e at (codes_fit_more bs i (codes_back i (omega arith)) s)

  -- and it is a block from its first byte to its last
  pub fits_back : n ≤ 15 → block_fits bs n ≡ true
  unfolding block_fits
  fits_back few =
      let long : length bs ≡ 10 * n + length (values_bytes es) = length-append (table_bytes es) (values_bytes es) ∙ omega (arith, length_table es) in
      let end : value_offset bs n n ≡ length bs = omega (arith, offset_back n (omega arith), ap (λ x. length (values_bytes x)) (take_all n es (omega arith))) in
      and_from (leb n 15) (leb (10 * n) (length bs) && (codes_fit bs n && eqb (value_offset bs n n) (length bs))) (le-leb n 15 few)
      (and_from (leb (10 * n) (length bs)) (codes_fit bs n && eqb (value_offset bs n n) (length bs)) (le-leb (10 * n) (length bs) (omega arith))
      (and_from (codes_fit bs n) (eqb (value_offset bs n n) (length bs)) (codes_back n (omega arith)) (eq-eqb (value_offset bs n n) (length bs) end)))

content_bytes_short : (c : Option (List ℕ)) → ContentFits c → length (content_bytes c) ≤ 256
content_bytes_short none f = omega arith
content_bytes_short (some v) f = f.0

values_short : (es : List Entry) → EntriesFit es → length (values_bytes es) ≤ 256 * length es
unfolding values_bytes
values_short [] f = omega arith
values_short (e ∷ es) f =
    omega (arith, length-append (content_bytes e.content) (values_bytes es), content_bytes_short e.content f.1, values_short es f.2)

-- a block fits a letter
pub block_short : (es : List Entry) → EntriesFit es → length (block_bytes es) ≤ 266 * length es
block_short es f = omega (arith, length-append (table_bytes es) (values_bytes es), length_table es, values_short es f)
