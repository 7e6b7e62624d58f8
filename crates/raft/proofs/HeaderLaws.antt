-- What is stored is loaded, and the rest of memory is as it was.
use Rattle.std.proofs.Common.{◌≡◌, ℕ, ◌+◌, ◌<◌, ◌≤◌, Bool, true, false, cond, eqb, ltb, ◌≢◌, List, length, get_or, set, refl, ap, ◌∙◌, arith}
use Rattle.std.proofs.lemmas.List.{length-set, get_or-set_same, get_or-set_other}
use Rattle.std.proofs.lemmas.Bool.{ltb-true, ltb-false, cond_both}
use Rattle.raft_log.specs.Layout.{memory_words, at_most}
use Rattle.raft_log.proofs.ValueLaws.{at_most_le, at_most_same}
use Rattle.raft.specs.declared.header.Ticks.{Ticks}
use Rattle.raft.specs.declared.header.Role.{Role}
use Rattle.raft.specs.declared.header.Role.TheVariants.{Follower, Candidate, Leader}
use Rattle.raft.specs.declared.header.Machine.{Machine}
use Rattle.raft.specs.Header.{at_least, ticks, older, size_of, role_of, role_word, elapsed_word, heard_word, flag_of, flag_word, loaded, stored}

-- a struct that memory can hold as it is
pub record Held (x : Machine Role) : Type 0 where
  pub some : 1 ≤ x.size.0
  pub few : x.size.0 ≤ 7
  pub one : x.id.0 ≤ 6
  pub waits : elapsed_word x.role ≤ 10

pub at_least_same : (n limit : ℕ) → limit ≤ n → at_least n limit ≡ n
at_least_same n limit h = cond_both (ltb limit n) n limit (λ x. x ≡ n) (λ e. refl) (λ e. omega (arith, ltb-false limit n e))

pub at_least_le : (n limit : ℕ) → limit ≤ at_least n limit
at_least_le n limit = cond_both (ltb limit n) n limit (λ x. limit ≤ x) (λ e. omega (arith, ltb-true limit n e)) (λ e. omega arith)

size_back : (n : ℕ) → 1 ≤ n → n ≤ 7 → size_of n ≡ n
size_back n a b = ap (λ k. at_most k 7) (at_least_same n 1 a) ∙ at_most_same n 7 b

size_some : (w : ℕ) → 1 ≤ size_of w
size_some w = cond_both (ltb (at_least w 1) 7) (at_least w 1) 7 (λ x. 1 ≤ x) (λ _. at_least_le w 1) (λ _. omega arith)

pub flag_back : (b : Bool) → flag_of (flag_word b) ≡ b
flag_back true = refl
flag_back false = refl

role_back : (r : Role) → elapsed_word r ≤ 10 → role_of (role_word r) (elapsed_word r) (heard_word r) ≡ r
role_back (Follower e h) l = ap (λ n. Follower (ticks n) (flag_of (flag_word h))) (at_most_same e.0 10 l) ∙ ap (Follower e) (flag_back h)
role_back (Candidate e) l = ap (λ n. Candidate (ticks n)) (at_most_same e.0 10 l)
role_back Leader l = refl

-- one tick more is no more than an election's time
pub older_most : (e : Ticks) → (older e).0 ≤ 10
older_most e = cond_both (ltb e.0 10) (ticks (e.0 + 1)) (ticks 10) (λ t. t.0 ≤ 10) (λ l. omega (arith, ltb-true e.0 10 l)) (λ _. omega arith)

-- SEVEN WORDS that are set in turn, of a machine in any role
past : (l : List ℕ) (i j v : ℕ) → i < j → get_or (set l j v) i 0 ≡ get_or l i 0
past l i j v b = get_or-set_other l j i v 0 (omega arith)

module _ (m : List ℕ) (a b c d e f g : ℕ) where
  abbrev s₀ : List ℕ
  s₀ = set m 0 a

  abbrev s₁ : List ℕ
  s₁ = set s₀ 1 b

  abbrev s₂ : List ℕ
  s₂ = set s₁ 2 c

  abbrev s₃ : List ℕ
  s₃ = set s₂ 3 d

  abbrev s₄ : List ℕ
  s₄ = set s₃ 4 e

  abbrev s₅ : List ℕ
  s₅ = set s₄ 5 f

  abbrev pub seven : List ℕ
  seven = set s₅ 6 g

  pub seven_other : (i : ℕ) → 7 ≤ i → get_or seven i 0 ≡ get_or m i 0
  seven_other i l =
      let n₀ : i ≢ 0 = omega arith in
      let n₁ : i ≢ 1 = omega arith in
      let n₂ : i ≢ 2 = omega arith in
      let n₃ : i ≢ 3 = omega arith in
      let n₄ : i ≢ 4 = omega arith in
      let n₅ : i ≢ 5 = omega arith in
      let n₆ : i ≢ 6 = omega arith in
      simp get_or-set_other

  module _ (long : length m ≡ memory_words) where
    word : (l : List ℕ) (i v : ℕ) → length l ≡ memory_words → i < 7 → get_or (set l i v) i 0 ≡ v
    word l i v n k = get_or-set_same l i v 0 (omega arith)

    pub word_6 : get_or seven 6 0 ≡ g
    word_6 = word s₅ 6 _ (simp length-set long) (omega arith)

    pub word_5 : get_or seven 5 0 ≡ f
    word_5 = past s₅ 5 6 _ (omega arith) ∙ word s₄ 5 _ (simp length-set long) (omega arith)

    pub word_4 : get_or seven 4 0 ≡ e
    word_4 = past s₅ 4 6 _ (omega arith) ∙ (past s₄ 4 5 _ (omega arith) ∙ word s₃ 4 _ (simp length-set long) (omega arith))

    pub word_3 : get_or seven 3 0 ≡ d
    word_3 = past s₅ 3 6 _ (omega arith) ∙ (past s₄ 3 5 _ (omega arith) ∙ (past s₃ 3 4 _ (omega arith) ∙ word s₂ 3 _ (simp length-set long) (omega arith)))

    pub word_2 : get_or seven 2 0 ≡ c
    word_2 =
        past s₅ 2 6 _ (omega arith) ∙ (past s₄ 2 5 _ (omega arith) ∙ (past s₃ 2 4 _ (omega arith) ∙ (past s₂ 2 3 _ (omega arith) ∙ word s₁ 2 _ (simp length-set long) (omega arith))))

    pub word_1 : get_or seven 1 0 ≡ b
    word_1 =
        past s₅ 1 6 _ (omega arith) ∙ (past s₄ 1 5 _ (omega arith) ∙ (past s₃ 1 4 _ (omega arith) ∙ (past s₂ 1 3 _ (omega arith) ∙ (past s₁ 1 2 _ (omega arith) ∙ word s₀ 1 _ (simp length-set long) (omega arith)))))

    pub word_0 : get_or seven 0 0 ≡ a
    word_0 =
        past s₅ 0 6 _ (omega arith) ∙ (past s₄ 0 5 _ (omega arith) ∙ (past s₃ 0 4 _ (omega arith) ∙ (past s₂ 0 3 _ (omega arith) ∙ (past s₁ 0 2 _ (omega arith) ∙ (past s₀ 0 1 _ (omega arith) ∙ word m 0 _ long (omega arith))))))

-- WHAT IS STORED
pub length_stored : (m : List ℕ) (x : Machine Role) → length (stored m x) ≡ length m
unfolding stored
length_stored m x = simp length-set

module _ (m : List ℕ) (x : Machine Role) where
  abbrev first_words : List ℕ
  first_words = seven m x.size.0 x.id.0 x.term.0 (role_word x.role) (elapsed_word x.role) x.since.0 (flag_word x.unsettled)

  pub stored_other : (i : ℕ) → 8 ≤ i → get_or (stored m x) i 0 ≡ get_or m i 0
  unfolding stored
  stored_other i l =
      get_or-set_other first_words 7 i (heard_word x.role) 0 (omega arith)
      ∙ seven_other m x.size.0 x.id.0 x.term.0 (role_word x.role) (elapsed_word x.role) x.since.0 (flag_word x.unsettled) i (omega arith)

  pub loaded_stored : length m ≡ memory_words → Held x → loaded (stored m x) ≡ x
  unfolding loaded stored
  loaded_stored long h =
      let front : (i : ℕ) → i < 7 → get_or (set first_words 7 (heard_word x.role)) i 0 ≡ get_or first_words i 0 = λ i l. past first_words i 7 (heard_word x.role) l in
      let heard : get_or (set first_words 7 (heard_word x.role)) 7 0 ≡ heard_word x.role = get_or-set_same first_words 7 (heard_word x.role) 0 (omega (arith, long_words)) in
      rw (
        front 0 (omega arith),
        front 1 (omega arith),
        front 2 (omega arith),
        front 3 (omega arith),
        front 4 (omega arith),
        front 5 (omega arith),
        front 6 (omega arith),
        heard,
        word_0 m _ _ _ _ _ _ _ long,
        word_1 m _ _ _ _ _ _ _ long,
        word_2 m _ _ _ _ _ _ _ long,
        word_3 m _ _ _ _ _ _ _ long,
        word_4 m _ _ _ _ _ _ _ long,
        word_5 m _ _ _ _ _ _ _ long,
        word_6 m _ _ _ _ _ _ _ long,
        size_back x.size.0 h.some h.few,
        at_most_same x.id.0 6 h.one,
        role_back x.role h.waits,
        flag_back x.unsettled,
      )
    where
      long_words : length first_words ≡ memory_words
      long_words = simp length-set long

-- the header is in the first eight words
pub loaded_alike : (m m₁ : List ℕ) → ((i : ℕ) → i < 8 → get_or m₁ i 0 ≡ get_or m i 0) → loaded m₁ ≡ loaded m
unfolding loaded
loaded_alike m m₁ h =
    rw (h 0 (omega arith), h 1 (omega arith), h 2 (omega arith), h 3 (omega arith), h 4 (omega arith), h 5 (omega arith), h 6 (omega arith), h 7 (omega arith))

role_waits : (w e h : ℕ) → elapsed_word (role_of w e h) ≤ 10
role_waits w e h =
    cond_both (eqb w 1) (Candidate (ticks (at_most e 10))) (cond (eqb w 2) Leader (Follower (ticks (at_most e 10)) (flag_of h))) (λ r. elapsed_word r ≤ 10) (λ _. at_most_le e 10)
    (λ _. cond_both (eqb w 2) Leader (Follower (ticks (at_most e 10)) (flag_of h)) (λ r. elapsed_word r ≤ 10) (λ _. omega arith) (λ _. at_most_le e 10))

pub loaded_held : (m : List ℕ) → Held (loaded m)
unfolding loaded
loaded_held m =
    record { some = size_some (get_or m 0 0); few = at_most_le (at_least (get_or m 0 0) 1) 7; one = at_most_le (get_or m 1 0) 6; waits = role_waits (get_or m 3 0) (get_or m 4 0) (get_or m 7 0) }
