-- The letters that are due in memory, as the theory's letters.
use Rattle.std.proofs.Common.{◌≡◌, ℕ, zero, suc, pred, ◌+◌, ◌-◌, ◌<◌, ◌≤◌, Bool, true, false, cond, not, ◌&&◌, eqb, ltb, ◌≢◌, List, [], ◌∷◌, ◌++◌, map, length, get_or, take, drop, set, Some, None, Option, sym, refl, ap, ◌∙◌, subst, inl, inr, add-one, arith}
use Rattle.std.proofs.lemmas.List.{append-nil, append_assoc, map-append, length-set, length-drop, take_all, get_or-set_same, get_or-set_other}
use Rattle.std.proofs.lemmas.Bool.{cases_eq, eq-eqb, ne_eqb, lt-ltb, le-ltb, and_left, cond-true, cond-false, cond_both, ltb-true, ltb-false}
use Rattle.raft_log.specs.Layout.{memory_words, at_most}
use Rattle.raft_log.specs.Block.{Entry as Row, log_entries}
use Rattle.raft_log.specs.View.{log_of}
use Rattle.raft_log.specs.Entries.{last_index, commit_index, term_at}
use Rattle.raft_log.proofs.ValueLaws.{at_most_same}
use Rattle.raft_log.proofs.LogLaws.{SameEntries, same_entries, same_commit}
use Rattle.raft_log.proofs.ViewLaws.{length_log, log_entries_part}
use Rattle.raft.specs.declared.header.Role.{Role as Kind}
use Rattle.raft.specs.declared.header.Role.TheVariants.{Follower, Candidate, Leader}
use Rattle.raft.specs.declared.header.Machine.{Machine as Header}
use Rattle.raft.specs.declared.say.Due.{Due}
use Rattle.raft.specs.declared.say.Due.TheVariants.{Append, RequestVote, TellTerm, Grant, Deny, Accept, Reject}
use Rattle.raft.specs.Header.{loaded}
use Rattle.raft.specs.Rows.{row_set, only, others}
use Rattle.raft.specs.Say.{due_word, said_to_others, said_to, answered}
use Rattle.raft.specs.Say.{due_of}
use Rattle.raft.specs.Outbox.{Mail, mail_due, due_to, prev_of, count_of, letter_made, mail_at, mail_from}
use Rattle.raft.proofs.HeaderLaws.{loaded_alike}
use Rattle.raft.proofs.RowLaws.{row_put_same}
use Rattle.raft.proofs.Mails.{letter_alike, mails_alike}
use Rattle.protocol.specs.Lists.{pick}
use Rattle.protocol.specs.Log.{Log, term_before, last_term}
use Rattle.machine.specs.Machine.{Machine, Role, follower, candidate, leader, Letter, append, request, vote, ack, reject, here, Out, out}
use Rattle.machine.specs.Step.{to_others, request_of, append_at}
use Rattle.join_several.specs.Stands.{conf, lift_log, Leads, RoleStands, Stands}
use Rattle.join_several.specs.Does.{lift_letter, lift_mail, posted}
use Rattle.join_several.proofs.Frames.{due_row_long, due_row_before, due_row_behind}
use Rattle.join_several.proofs.Lifts.{lift_take, lift_drop}
use Rattle.join_several.proofs.Lifts.{lift_last, lift_before}

-- pieces g 0, g 1 .. one behind the other: from the front, and by the last
unfoldable front : {X : Type 0} → (ℕ → List X) → ℕ → ℕ → List X
front g j zero = []
front g j (suc n) = g j ++ front g (suc j) n

unfoldable back : {X : Type 0} → (ℕ → List X) → ℕ → List X
back g zero = []
back g (suc n) = back g n ++ g n

back_front : {X : Type 0} (g : ℕ → List X) (n j k : ℕ) → k ≡ j + n → back g j ++ front g j n ≡ back g k
unfolding front back
back_front g zero j k e = let same : j ≡ k = omega arith in append-nil (back g j) ∙ ap (back g) same
back_front g (suc n) j k e = sym (append_assoc (back g j) (g j) (front g (suc j) n)) ∙ back_front g n (suc j) k (omega arith)

back_cong : {X : Type 0} (g h : ℕ → List X) (n : ℕ) → ((j : ℕ) → j < n → g j ≡ h j) → back g n ≡ back h n
unfolding back
back_cong g h zero same = refl
back_cong g h (suc n) same =
    let r = back_cong g h n (λ j l. same j (omega arith)) in
    let s = same n (omega arith) in
    λ i. r i ++ s i

-- what comes behind n is empty
back_short : {X : Type 0} (g : ℕ → List X) (n k : ℕ) → n ≤ k → ((j : ℕ) → n ≤ j → j < k → g j ≡ []) → back g k ≡ back g n
unfolding back
back_short g n zero l none = let e : 0 ≡ n = omega arith in ap (back g) e
back_short {X} g n (suc k) l none =
    elim (cases_eq n (suc k)) [
      | inl e ↦ ap (back g) (sym e)
      | inr ne ↦
          ap (λ (y : List X). back g k ++ y) (none k (omega arith) (omega arith))
          ∙ (append-nil (back g k) ∙ back_short g n k (omega arith) (λ j a b. none j a (omega arith)))
    ]

-- all but one are empty
back_one : {X : Type 0} (g : ℕ → List X) (k j : ℕ) → j < k → ((i : ℕ) → i < k → i ≢ j → g i ≡ []) → back g k ≡ g j
unfolding back
back_one {X} g k j l none =
    back_short g (suc j) k (omega arith) (λ i a b. none i b (omega arith))
    ∙ ap (λ (y : List X). y ++ g j) (back_short g 0 j (omega arith) (λ i a b. none i (omega arith) (omega arith)))

-- the letter that is due to machine j, if any
abbrev piece : List ℕ → ℕ → List (Out (List ℕ))
piece m j = map lift_mail (mail_at m (loaded m) j (due_to m j))

pieces_front : (m : List ℕ) (n j : ℕ) → map lift_mail (mail_from m j n) ≡ front (piece m) j n
unfolding mail_from front
pieces_front m zero j = refl
pieces_front m (suc n) j =
    map-append lift_mail (mail_at m (loaded m) j (due_to m j)) (mail_from m (suc j) n)
    ∙ ap (λ (y : List (Out (List ℕ))). piece m j ++ y) (pieces_front m n (suc j))

front_first : {X : Type 0} (g : ℕ → List X) (n : ℕ) → front g 0 n ≡ back g n
unfolding back
front_first g n = back_front g n 0 n (omega arith)

posted_pieces : (m : List ℕ) → posted m ≡ back (piece m) 7
unfolding posted
posted_pieces m = pieces_front m 7 0 ∙ front_first (piece m) 7

-- a word that is 0 says that none is due, any other says which
due_known : (d : Due) → due_of (due_word d) ≡ Some d
due_known Append = refl
due_known RequestVote = refl
due_known TellTerm = refl
due_known Grant = refl
due_known Deny = refl
due_known Accept = refl
due_known Reject = refl

-- the letter of kind d to j that memory m makes
abbrev pub letter_of : List ℕ → Due → ℕ → Letter (List ℕ)
letter_of m d j = lift_letter (letter_made m (loaded m) j d)

piece_none : (m : List ℕ) (j : ℕ) → get_or m (29 + j) 0 ≡ 0 → piece m j ≡ []
piece_none m j e = ap (λ (w : ℕ). map lift_mail (mail_at m (loaded m) j (due_of w))) e

piece_some : (m : List ℕ) (j : ℕ) (d : Due) → get_or m (29 + j) 0 ≡ due_word d → piece m j ≡ out j (letter_of m d j) ∷ []
piece_some m j d e = ap (λ (w : ℕ). map lift_mail (mail_at m (loaded m) j (due_of w))) e ∙ ap (λ (o : Option Due). map lift_mail (mail_at m (loaded m) j o)) (due_known d)

-- NONE IS DUE
pub posted_none : (m : List ℕ) → ((j : ℕ) → j < 7 → get_or m (29 + j) 0 ≡ 0) → posted m ≡ []
unfolding back
posted_none m none = posted_pieces m ∙ back_short (piece m) 0 7 (omega arith) (λ j a b. piece_none m j (none j b))

pub posted_quiet : (m : List ℕ) → mail_due m ≡ [] → posted m ≡ []
unfolding posted
posted_quiet m e = ap (λ (ls : List Mail). map lift_mail ls) e

none_mapped : (ls : List Mail) → map lift_mail ls ≡ [] → ls ≡ []
none_mapped [] e = refl
none_mapped (l ∷ ls) e = let n = ap length e in absurd (omega arith)

pub none_due : (m : List ℕ) → ((j : ℕ) → j < 7 → get_or m (29 + j) 0 ≡ 0) → mail_due m ≡ []
unfolding posted
none_due m none = none_mapped (mail_due m) (posted_none m none)

-- whether any is due is said by their words alone
module _ (m m₁ : List ℕ) (words : (j : ℕ) → j < 7 → get_or m₁ (29 + j) 0 ≡ get_or m (29 + j) 0) where
  none_from : (j n : ℕ) → j + n ≤ 7 → mail_from m j n ≡ [] → mail_from m₁ j n ≡ []
  unfolding mail_from
  none_from j zero l e = refl
  none_from j (suc n) l e = by (due_to m j) refl e (none_from (suc j) n (omega arith))
    where
      by : (o : Option Due) → due_to m j ≡ o → mail_at m (loaded m) j o ++ mail_from m (suc j) n ≡ [] → (mail_from m (suc j) n ≡ [] → mail_from m₁ (suc j) n ≡ []) →
          mail_at m₁ (loaded m₁) j (due_to m₁ j) ++ mail_from m₁ (suc j) n ≡ []
      by None q e rest =
          ap (λ (o : Option Due). mail_at m₁ (loaded m₁) j o ++ mail_from m₁ (suc j) n) (ap due_of (words j (omega arith)) ∙ q) ∙ rest e
      by (Some d) q e rest = let k = ap length e in absurd (omega arith)

  pub none_alike : mail_due m ≡ [] → mail_due m₁ ≡ []
  none_alike e = none_from 0 7 (omega arith) e

-- ONE IS DUE
pub posted_one :
    (m : List ℕ) (j : ℕ) (d : Due) → j < 7 → get_or m (29 + j) 0 ≡ due_word d → ((i : ℕ) → i < 7 → i ≢ j → get_or m (29 + i) 0 ≡ 0) → posted m ≡ out j (letter_of m d j) ∷ []
posted_one m j d l e none = posted_pieces m ∙ (back_one (piece m) 7 j l (λ i a b. piece_none m i (none i a b)) ∙ piece_some m j d e)

-- to the others
others_back : (id : ℕ) (f : ℕ → Letter (List ℕ)) (n : ℕ) → to_others id f n ≡ back (λ j. pick (eqb j id) [] (out j (f j) ∷ [])) n
unfolding to_others back
others_back id f zero = refl
others_back id f (suc n) = ap (λ (y : List (Out (List ℕ))). y ++ pick (eqb n id) [] (out n (f n) ∷ [])) (others_back id f n)

pub to_others_cong : (id : ℕ) (f g : ℕ → Letter (List ℕ)) (n : ℕ) → ((j : ℕ) → j < n → f j ≡ g j) → to_others id f n ≡ to_others id g n
unfolding to_others
to_others_cong id f g zero same = refl
to_others_cong id f g (suc n) same =
    let r = to_others_cong id f g n (λ j l. same j (omega arith)) in
    let s = same n (omega arith) in
    λ i. r i ++ pick (eqb n id) [] (out n (s i) ∷ [])

pub posted_all :
    (m : List ℕ) (n id : ℕ) (d : Due) → n ≤ 7 → ((j : ℕ) → j < 7 → get_or m (29 + j) 0 ≡ cond (ltb j n && not (eqb j id)) (due_word d) 0) →
    posted m ≡ to_others id (letter_of m d) n
posted_all m n id d few word =
    posted_pieces m
    ∙ (back_short (piece m) n 7 few (λ j a b. piece_none m j (word j b ∙ cond-false (ltb j n && not (eqb j id)) (due_word d) 0 (and_left (ltb j n) (not (eqb j id)) (le-ltb j n a))))
    ∙ (back_cong (piece m) (λ j. pick (eqb j id) [] (out j (letter_of m d j) ∷ [])) n (λ j l. one j l) ∙ sym (others_back id (letter_of m d) n)))
  where
    -- machine j of n
    here_word : (j : ℕ) → j < n → get_or m (29 + j) 0 ≡ cond (not (eqb j id)) (due_word d) 0
    here_word j l = word j (omega arith) ∙ ap (λ (b : Bool). cond (b && not (eqb j id)) (due_word d) 0) (lt-ltb j n l)

    by : (j : ℕ) (b : Bool) → get_or m (29 + j) 0 ≡ cond (not b) (due_word d) 0 → piece m j ≡ pick b [] (out j (letter_of m d j) ∷ [])
    by j true e = piece_none m j e
    by j false e = piece_some m j d e

    one : (j : ℕ) → j < n → piece m j ≡ pick (eqb j id) [] (out j (letter_of m d j) ∷ [])
    one j l = by j (eqb j id) (here_word j l)

-- MEMORIES WITH THE SAME LETTERS: the log, the term, and the words 22 to 28, 36 and 37 are the same
module _ (m m₁ : List ℕ) (term : (loaded m₁).term.0 ≡ (loaded m).term.0) (next : (i : ℕ) → 22 ≤ i → i < 29 → get_or m₁ i 0 ≡ get_or m i 0)
    (first : get_or m₁ 36 0 ≡ get_or m 36 0) (second : get_or m₁ 37 0 ≡ get_or m 37 0) (behind : (i : ℕ) → 64 ≤ i → get_or m₁ i 0 ≡ get_or m i 0) where
  entries : SameEntries m m₁
  entries = same_entries m m₁ (behind 64 (omega arith)) (λ i l. behind i (omega arith))

  commit : commit_index m₁ ≡ commit_index m
  commit = same_commit m m₁ entries (behind 65 (omega arith))

  letters_same : (d : Due) (j : ℕ) → j < 7 → letter_of m₁ d j ≡ letter_of m d j
  letters_same d j l = ap lift_letter (letter_alike m m₁ entries commit term next first second d j l)

  -- and so are the words of what is due
  posted_same : ((i : ℕ) → i < 7 → get_or m₁ (29 + i) 0 ≡ get_or m (29 + i) 0) → posted m₁ ≡ posted m
  unfolding posted
  posted_same words = ap (λ (ls : List Mail). map lift_mail ls) (mails_alike m m₁ entries commit term next first second 0 7 (omega arith) (λ i a b. words i b))

pub posted_alike :
    (m m₁ : List ℕ) → (loaded m₁).term.0 ≡ (loaded m).term.0 → ((i : ℕ) → 22 ≤ i → i < 38 → get_or m₁ i 0 ≡ get_or m i 0) → ((i : ℕ) → 64 ≤ i → get_or m₁ i 0 ≡ get_or m i 0) → posted m₁ ≡ posted m
posted_alike m m₁ term words behind =
    posted_same m m₁ term (λ i a b. words i a (omega arith)) (words 36 (omega arith) (omega arith)) (words 37 (omega arith) (omega arith)) behind (λ i l. words (29 + i) (omega arith) (omega arith))

-- WHAT IS SAID IS DUE
module _ (m : List ℕ) (long : length m ≡ memory_words) where
  -- a row of what is due leaves the letters themselves
  row_letters : (f : ℕ → ℕ) (d : Due) (j : ℕ) → j < 7 → letter_of (row_set m 29 f) d j ≡ letter_of m d j
  row_letters f =
      letters_same m (row_set m 29 f) (ap (λ (y : Header Kind). y.term.0) (loaded_alike m (row_set m 29 f) (λ i l. due_row_before m f i (omega arith))))
      (λ i a b. due_row_before m f i b) (due_row_behind m f 36 (omega arith)) (due_row_behind m f 37 (omega arith)) (λ i l. due_row_behind m f i (omega arith))

  row_word : (f : ℕ → ℕ) (j : ℕ) → j < 7 → get_or (row_set m 29 f) (29 + j) 0 ≡ f j
  row_word f j l = row_put_same m 29 f 7 j l (omega arith)

  pub posted_others :
      (h : Header Kind) (n id : ℕ) (d : Due) → n ≤ 7 → h.size.0 ≡ n → h.id.0 ≡ id → posted (said_to_others m h d) ≡ to_others id (letter_of m d) n
  unfolding said_to_others
  posted_others h n id d few size self =
      posted_all (row_set m 29 (others h (due_word d))) n id d few
      (λ j l. row_word (others h (due_word d)) j l ∙ (λ i. cond (ltb j (size i) && not (eqb j (self i))) (due_word d) 0))
      ∙ to_others_cong id (letter_of (row_set m 29 (others h (due_word d))) d) (letter_of m d) n (λ j l. row_letters (others h (due_word d)) d j (omega arith))

  only_here : (j w : ℕ) → j < 7 → get_or (row_set m 29 (only j w)) (29 + j) 0 ≡ w
  only_here j w l = row_word (only j w) j l ∙ cond-true (eqb j j) w 0 (eq-eqb j j refl)

  only_there : (j w i : ℕ) → i < 7 → i ≢ j → get_or (row_set m 29 (only j w)) (29 + i) 0 ≡ 0
  only_there j w i l ne = row_word (only j w) i l ∙ cond-false (eqb i j) w 0 (ne_eqb i j ne)

  pub posted_to : (j : ℕ) (d : Due) → j < 7 → posted (said_to m j d) ≡ out j (letter_of m d j) ∷ []
  unfolding said_to
  posted_to j d l =
      posted_one (row_set m 29 (only j (due_word d))) j d l (only_here j (due_word d) l) (λ i a b. only_there j (due_word d) i a b)
      ∙ ap (λ (y : Letter (List ℕ)). out j y ∷ []) (row_letters (only j (due_word d)) d j l)

  -- an answer, with its two numbers
  module _ (j : ℕ) (l : j < 7) (d : Due) (a b : ℕ) where
    abbrev row : List ℕ
    row = row_set m 29 (only j (due_word d))

    abbrev with_numbers : List ℕ
    with_numbers = set (set row 36 a) 37 b

    row_long : length row ≡ memory_words
    row_long = due_row_long m (only j (due_word d)) ∙ long

    other : (i : ℕ) → i ≢ 36 → i ≢ 37 → get_or with_numbers i 0 ≡ get_or row i 0
    other i p q = get_or-set_other (set row 36 a) 37 i b 0 q ∙ get_or-set_other row 36 i a 0 p

    pub answered_one : posted (answered m j d a b) ≡ out j (letter_of (answered m j d a b) d j) ∷ []
    unfolding answered said_to
    answered_one =
        posted_one with_numbers j d l (other (29 + j) (omega arith) (omega arith) ∙ only_here j (due_word d) l)
        (λ i p q. other (29 + i) (omega arith) (omega arith) ∙ only_there j (due_word d) i p q)

    pub answered_term : (loaded (answered m j d a b)).term.0 ≡ (loaded m).term.0
    unfolding answered said_to
    answered_term =
        ap (λ (y : Header Kind). y.term.0) (loaded_alike m with_numbers (λ i p. other i (omega arith) (omega arith) ∙ due_row_before m (only j (due_word d)) i (omega arith)))

    pub answered_first : get_or (answered m j d a b) 36 0 ≡ a
    unfolding answered said_to
    answered_first = get_or-set_other (set row 36 a) 37 36 b 0 (omega arith) ∙ get_or-set_same row 36 a 0 (omega (arith, row_long))

    pub answered_second : get_or (answered m j d a b) 37 0 ≡ b
    unfolding answered said_to
    answered_second = get_or-set_same (set row 36 a) 37 b 0 (omega (arith, row_long, length-set row 36 a))

  pub posted_accept : (j a b : ℕ) → j < 7 → posted (answered m j Accept a b) ≡ out j (ack (loaded m).term.0 a) ∷ []
  posted_accept j a b l =
      let t = answered_term j l Accept a b in
      let p = answered_first j l Accept a b in
      answered_one j l Accept a b ∙ (λ i. out j (ack (t i) (p i)) ∷ [])

  pub posted_reject : (j a b : ℕ) → j < 7 → posted (answered m j Reject a b) ≡ out j (reject (loaded m).term.0 a b) ∷ []
  posted_reject j a b l =
      let t = answered_term j l Reject a b in
      let p = answered_first j l Reject a b in
      let q = answered_second j l Reject a b in
      answered_one j l Reject a b ∙ (λ i. out j (reject (t i) (p i) (q i)) ∷ [])

-- THE LETTERS of a memory whose log, term and commit are those of the machine x
module _ (m : List ℕ) (x : Machine (List ℕ)) (term : (loaded m).term.0 ≡ x.term) (log : lift_log (log_of m) ≡ x.log) where
  log_last_term : term_at m (last_index m) ≡ last_term x.log
  unfolding last_term
  log_last_term = lift_before m x.log log (last_index m) ∙ ap (term_before x.log) (lift_last m x.log log)

  pub request_made : (j : ℕ) → letter_of m RequestVote j ≡ request_of x
  request_made j = let k = lift_last m x.log log in let q = log_last_term in λ i. request (term i) (k i) (q i)

  take_capped : (l : List Row) (k : ℕ) → take (at_most (length l) k) l ≡ take k l
  take_capped l k =
      cond_both (ltb (length l) k) (length l) k (λ (w : ℕ). take w l ≡ take k l)
      (λ e. take_all (length l) l (omega arith) ∙ sym (take_all k l (omega (arith, ltb-true (length l) k e)))) (λ e. refl)

  entries_part : (p : ℕ) → p ≤ last_index m → lift_log (log_entries m (p + 1) (at_most (last_index m - p) 15)) ≡ take 15 (drop p x.log)
  entries_part p l =
      let long : last_index m - p ≡ length (drop p (log_of m)) = omega (arith, length-drop p (log_of m), length_log m) in
      let fits : p + at_most (last_index m - p) 15 ≤ last_index m =
      cond_both (ltb (last_index m - p) 15) (last_index m - p) 15 (λ (w : ℕ). p + w ≤ last_index m) (λ e. omega arith) (λ e. omega (arith, ltb-false (last_index m - p) 15 e)) in
      ap (λ (k : ℕ). lift_log (log_entries m k (at_most (last_index m - p) 15))) (add-one p)
      ∙ (ap lift_log (log_entries_part m p (at_most (last_index m - p) 15) fits)
      ∙ (ap (λ (k : ℕ). lift_log (take (at_most k 15) (drop p (log_of m)))) long
      ∙ (ap lift_log (take_capped (drop p (log_of m)) 15)
      ∙ (lift_take 15 (drop p (log_of m))
      ∙ (ap (take 15) (lift_drop p (log_of m)) ∙ ap (λ (r : Log (List ℕ)). take 15 (drop p r)) log)))))

  pub append_made : (n j k : ℕ) → commit_index m ≡ x.commit → get_or m (22 + j) 0 ≡ k → k ≤ suc (length x.log) → letter_of m Append j ≡ append_at (conf n) x k
  append_made n j k commit next most =
      let low : pred k ≤ last_index m = omega (arith, lift_last m x.log log) in
      let e : prev_of m j ≡ pred k =
      ap (λ (w : ℕ). at_most (w - 1) (last_index m)) next ∙ (ap (λ (w : ℕ). at_most w (last_index m)) (omega arith) ∙ at_most_same (pred k) (last_index m) low) in
      let q : term_at m (prev_of m j) ≡ term_before x.log (pred k) = ap (term_at m) e ∙ lift_before m x.log log (pred k) in
      let es : lift_log (log_entries m (prev_of m j + 1) (count_of m j)) ≡ take 15 (drop (pred k) x.log) =
      ap (λ (p : ℕ). lift_log (log_entries m (p + 1) (at_most (last_index m - p) 15))) e ∙ entries_part (pred k) low in
      λ i. append (term i) (e i) (q i) (commit i) (es i)

-- A MACHINE THAT LEADS stands in memory as a leader
abbrev pub next_of : Role → ℕ → ℕ
next_of follower = λ _. 0
next_of (candidate v) = λ _. 0
next_of (leader a b) = b

abbrev IsLeader : Role → Type 0
IsLeader follower = ⊥
IsLeader (candidate v) = ⊥
IsLeader (leader a b) = Unit {0}

pub leads_stands : (n : ℕ) (m : List ℕ) (k : Kind) (x : Machine (List ℕ)) (a b : ℕ → ℕ) → x.role ≡ leader a b → RoleStands n m k x → Leads n m x
leads_stands n m (Follower e h) x a b is r = absurd (subst (λ (y : Role). IsLeader y) (sym is ∙ r.role) tt)
leads_stands n m (Candidate e) x a b is r = absurd (subst (λ (y : Role). IsLeader y) (sym is ∙ r.role) tt)
leads_stands n m Leader x a b is r = r

-- THE LETTERS of a memory that stands for x
module _ (n id : ℕ) (m : List ℕ) (x : Machine (List ℕ)) (s : Stands n id m x) where
  pub made_request : (j : ℕ) → letter_of m RequestVote j ≡ request_of x
  made_request = request_made m x s.term s.log

  pub made_here : (j : ℕ) → letter_of m TellTerm j ≡ here x.term
  made_here j = ap here s.term

  pub made_grant : (j : ℕ) → letter_of m Grant j ≡ vote x.term true
  made_grant j = ap (λ (t : ℕ). vote t true) s.term

  pub made_deny : (j : ℕ) → letter_of m Deny j ≡ vote x.term false
  made_deny j = ap (λ (t : ℕ). vote t false) s.term

  pub made_append : (a b : ℕ → ℕ) → x.role ≡ leader a b → (j : ℕ) → j < n → letter_of m Append j ≡ append_at (conf n) x (b j)
  made_append a b is j l =
      let r = leads_stands n m (loaded m).role x a b is s.role in
      let same : r.next j ≡ b j = ap (λ (y : Role). next_of y j) (sym r.role ∙ is) in
      append_made m x s.term s.log n j (b j) s.commit (r.sent j l ∙ same) (omega (arith, r.next_most j l))
