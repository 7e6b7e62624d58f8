-- Entries of a block that are put behind the last.
use Rattle.std.proofs.Common.{◌≡◌, ℕ, zero, suc, ◌+◌, ◌-◌, ◌*◌, ◌<◌, ◌≤◌, true, ◌&&◌, ltb, leb, ◌≢◌, List, ◌∷◌, length, take, drop, is_some, Some, None, Option as Maybe, Bor, sym, refl, ap, ◌∙◌, subst, arith}
use mathlib.Core.Option.{Option, none, some}
use mir.Val.{bool_byte}
use Rattle.std.proofs.lemmas.List.{drop_more, drop_all, length-drop, length-take-le}
use Rattle.std.proofs.lemmas.Bool.{leb-true, le-leb, lt-ltb, and_parts, and_from}
use Rattle.raft_log.specs.Layout.{memory_words}
use Rattle.raft_log.specs.Entries.{last_index, number_at, values, entry_pushed, value_fits, value_appended}
use Rattle.raft_log.specs.Block.{Entry, Holds, row_length, value_offset, content_of, block_fits}
use Rattle.raft_log.specs.View.{no_entry, entry_in, with_content, decisions}
use Rattle.raft_log.specs.Accept.{truncated, content_taken, entry_taken, entries_taken, entries_fit}
use Rattle.raft_log.proofs.LogLaws.{number_most}
use Rattle.raft_log.proofs.AppendLaws.{length_pushed, pushed_last, pushed_values, length_appended, appended_last, appended_values}
use Rattle.raft_log.proofs.BlockReads.{fits}
use Rattle.raft_log.proofs.LogChanges.{truncated_last, truncated_values}

-- what an entry of a block holds
pub content_some : (n : ℕ) (v : List ℕ) → n ≢ 0 → content_of n v ≡ some v
content_some zero v ne = absurd (ne refl)
content_some (suc n) v ne = refl

pub content_none : (n : ℕ) (v : List ℕ) → n ≡ 0 → content_of n v ≡ none
content_none n v e = ap (λ k. content_of k v) e

-- what an entry without a value does, and one with a value
pub taken_empty : (m : List ℕ) (e : Entry) → e.content ≡ none → entry_taken m e ≡ entry_pushed m (last_index m + 1) e.term (values m)
unfolding entry_taken
taken_empty m e h = ap (content_taken m e.term) h

pub taken_value : (m : List ℕ) (e : Entry) (v : List ℕ) → e.content ≡ some v → entry_taken m e ≡ value_appended m e.term v
unfolding entry_taken
taken_value m e v h = ap (content_taken m e.term) h

-- ROOM for the entries of a block from i on
module _ (m : List ℕ) (e : Entry) (es : List Entry) where
  pub fit_entry : entries_fit m (e ∷ es) ≡ true → last_index m + suc (length es) ≤ 8193
  unfolding entries_fit
  fit_entry h =
      leb-true (last_index m + suc (length es)) 8193 (and_parts (leb (last_index m + suc (length es)) 8193) (leb (values m + length (decisions (e ∷ es))) 4096) h).0

  pub fit_values : entries_fit m (e ∷ es) ≡ true → values m + length (with_content e.content (decisions es)) ≤ 4096
  unfolding entries_fit decisions
  fit_values h =
      leb-true (values m + length (with_content e.content (decisions es))) 4096
      (and_parts (leb (last_index m + suc (length es)) 8193) (leb (values m + length (with_content e.content (decisions es))) 4096) h).1

pub entries_fit_from : (m : List ℕ) (es : List Entry) → last_index m + length es ≤ 8193 → values m + length (decisions es) ≤ 4096 → entries_fit m es ≡ true
unfolding entries_fit
entries_fit_from m es a b =
    and_from (leb (last_index m + length es) 8193) (leb (values m + length (decisions es)) 4096) (le-leb (last_index m + length es) 8193 a)
    (le-leb (values m + length (decisions es)) 4096 b)

-- a value of up to 256 bytes, or none
abbrev pub Short : Option (List ℕ) → Type 0
Short none = Unit {0}
Short (some v) = length v ≤ 256

-- ONE ENTRY MORE leaves room for the rest
pub record Took (m m₁ : List ℕ) (o : Option (List ℕ)) : Type 0 where
  pub long : length m₁ ≡ length m
  pub last : last_index m₁ ≡ suc (last_index m)
  pub held : (vs : List (List ℕ)) → values m₁ + length vs ≡ values m + length (with_content o vs)

pub value_room : (m v : List ℕ) → length v ≤ 256 → last_index m < 8193 → values m < 4096 → value_fits m (length v) ≡ true
value_room m v s a b =
    and_from (leb (length v) 256) (ltb (last_index m) 8193 && ltb (values m) 4096) (le-leb (length v) 256 s)
    (and_from (ltb (last_index m) 8193) (ltb (values m) 4096) (lt-ltb (last_index m) 8193 a) (lt-ltb (values m) 4096 b))

pub took :
    (m : List ℕ) (t : ℕ) (o : Option (List ℕ)) (vs : List (List ℕ)) → length m ≡ memory_words → Short o → last_index m < 8193 →
    values m + length (with_content o vs) ≤ 4096 → Took m (content_taken m t o) o
took m t none vs long s a b =
    let one : 1 ≤ last_index m + 1 = omega arith in
    let room : last_index m + 1 ≤ 8193 = omega arith in
    record {
      long = length_pushed m (last_index m + 1) t (values m) long one room;
      last = omega (arith, pushed_last m (last_index m + 1) t (values m) long one room);
      held = λ vs. omega (arith, pushed_values m (last_index m + 1) t (values m) long one room (number_most m (last_index m)));
    }
took m t (some v) vs long s a b =
    let f = value_room m v s a (omega arith) in
    record {
      long = length_appended m t v long f;
      last = omega (arith, appended_last m t v long f);
      held = λ vs. omega (arith, appended_values m t v long f);
    }

-- THE BLOCK'S ENTRY i
module _ (bs : List ℕ) (n i : ℕ) (ok : block_fits bs n ≡ true) (less : i < n) where
  pub row_there : (i < 15) × (10 * i + 10 ≤ length bs)
  row_there = let f = fits bs n ok in (omega (arith, f.few), omega (arith, f.table))

  pub value_length : length (take (row_length bs i) (drop (value_offset bs n i) bs)) ≡ row_length bs i
  value_length = length-take-le (row_length bs i) (drop (value_offset bs n i) bs) (omega (arith, length-drop (value_offset bs n i) bs, (fits bs n ok).within i less))

  pub value_short : length (take (row_length bs i) (drop (value_offset bs n i) bs)) ≤ 256
  value_short = omega (arith, value_length, (fits bs n ok).codes i less)

  -- as the code cuts it out
  pub value_cut : (a b : ℕ) → a ≡ value_offset bs n i → b ≡ row_length bs i → take (a + b - a) (drop a bs) ≡ take (row_length bs i) (drop (value_offset bs n i) bs)
  value_cut a b p q =
      let r : a + b - a ≡ row_length bs i = omega arith in
      ap (λ k. take k (drop a bs)) r ∙ ap (λ k. take (row_length bs i) (drop k bs)) p

-- ENTRY i of those that there is room for
module _ (m : List ℕ) (es : List Entry) (i : ℕ) (less : i < length es) (room : entries_fit m (drop i es) ≡ true) where
  room_here : entries_fit m (entry_in es i ∷ drop (i + 1) es) ≡ true
  room_here = ap (entries_fit m) (sym (drop_more es i no_entry less)) ∙ room

  pub entry_room : last_index m < 8193
  entry_room = omega (arith, fit_entry m (entry_in es i) (drop (i + 1) es) room_here)

  values_room : values m + length (with_content (entry_in es i).content (decisions (drop (i + 1) es))) ≤ 4096
  values_room = fit_values m (entry_in es i) (drop (i + 1) es) room_here

  pub value_slot : (v : List ℕ) → (entry_in es i).content ≡ some v → values m < 4096
  value_slot v e =
      let h : values m + suc (length (decisions (drop (i + 1) es))) ≤ 4096 =
      subst (λ (o : Option (List ℕ)). values m + length (with_content o (decisions (drop (i + 1) es))) ≤ 4096) e values_room in
      omega arith

  entry_took : Short (entry_in es i).content → length m ≡ memory_words → Took m (entry_taken m (entry_in es i)) (entry_in es i).content
  unfolding entry_taken
  entry_took short long = took m (entry_in es i).term (entry_in es i).content (decisions (drop (i + 1) es)) long short entry_room values_room

  -- there is room for the rest
  pub rest_room : Short (entry_in es i).content → length m ≡ memory_words → entries_fit (entry_taken m (entry_in es i)) (drop (i + 1) es) ≡ true
  rest_room short long =
      let k = entry_took short long in
      entries_fit_from (entry_taken m (entry_in es i)) (drop (i + 1) es)
      (omega (arith, k.last, fit_entry m (entry_in es i) (drop (i + 1) es) room_here))
      (omega (arith, k.held (decisions (drop (i + 1) es)), values_room))

pub short_none : (o : Option (List ℕ)) → o ≡ none → Short o
short_none o e = subst Short (sym e) tt

pub short_some : (o : Option (List ℕ)) (v : List ℕ) → o ≡ some v → length v ≤ 256 → Short o
short_some o v e s = subst Short (sym e) s

pub taken_more : (m : List ℕ) (es : List Entry) (i : ℕ) → i < length es → entries_taken m (drop i es) ≡ entries_taken (entry_taken m (entry_in es i)) (drop (i + 1) es)
unfolding entries_taken
taken_more m es i l = ap (entries_taken m) (drop_more es i no_entry l)

pub taken_all : (m : List ℕ) (es : List Entry) (i : ℕ) → length es ≤ i → entries_taken m (drop i es) ≡ m
unfolding entries_taken
taken_all m es i l = ap (entries_taken m) (drop_all i es l)

-- HOW MANY VALUES the entries from i on have
module _ (es : List Entry) (i : ℕ) (less : i < length es) where
  counted : length (decisions (drop i es)) ≡ length (with_content (entry_in es i).content (decisions (drop (i + 1) es)))
  unfolding decisions
  counted = ap (λ xs. length (decisions xs)) (drop_more es i no_entry less)

  counted_none : (entry_in es i).content ≡ none → length (decisions (drop i es)) ≡ length (decisions (drop (i + 1) es))
  counted_none e = counted ∙ ap (λ o. length (with_content o (decisions (drop (i + 1) es)))) e

  counted_some : (v : List ℕ) → (entry_in es i).content ≡ some v → length (decisions (drop i es)) ≡ suc (length (decisions (drop (i + 1) es)))
  counted_some v e = counted ∙ ap (λ o. length (with_content o (decisions (drop (i + 1) es)))) e

  -- one more where the entry holds a value
  pub counted_held :
      (held : Maybe (Bor (List ℕ))) → (elim held as (λ _. Type 0) [ Some v ↦ Holds (entry_in es i) (Some v.now) | None ↦ Holds (entry_in es i) None ])
      → bool_byte (is_some held) + length (decisions (drop (i + 1) es)) ≡ length (decisions (drop i es))
  counted_held (Some v) h = omega (arith, counted_some v.now h.0)
  counted_held None h = omega (arith, counted_none h)

pub counted_all : (es : List Entry) (i : ℕ) → length es ≤ i → length (decisions (drop i es)) ≡ 0
unfolding decisions
counted_all es i l = ap (λ xs. length (decisions xs)) (drop_all i es l)

-- BEFORE THE CUT the room behind it is known
pub room_read :
    (m : List ℕ) (k : ℕ) (es : List Entry) (s : ℕ) → length m ≡ memory_words → k ≤ last_index m →
    entries_fit (truncated m k) (drop s es) ≡ (leb (k + (length es - s)) 8193 && leb (number_at m k + length (decisions (drop s es))) 4096)
unfolding entries_fit
room_read m k es s long within =
    cc (length-drop s es, truncated_last m k long within, truncated_values m k long within)
