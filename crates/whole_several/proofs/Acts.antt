-- The machine keeps to its plan: first memory is made safe, then letters fly, then what is decided is applied.
use Rattle.std.proofs.Common.{◌≡◌, ℕ, suc, ◌+◌, ◌-◌, ◌<◌, ◌≤◌, Bool, true, false, cond, leb, ◌≢◌, List, [], ◌∷◌, ◌++◌, length, get_or, Some, None, sym, refl, ap, ◌∙◌, subst, inl, inr, arith}
use Rattle.std.proofs.lemmas.Bool.{lt-ltb, le-ltb, le-leb, and_from, cond-true, cond-false, cases_Bool, cases_lt}
use Rattle.raft_log.specs.Layout.{memory_words}
use Rattle.raft_log.specs.Values.{value_at}
use Rattle.raft_log.specs.Entries.{commit_index, applied_number, decided, applied_set}
use Rattle.raft_log.proofs.LogLaws.{number_most, applied_most, same_applied, applied_set_applied, applied_set_other, length_applied_set}
use Rattle.messages.specs.Letter.{letter_bytes}
use Rattle.messages.proofs.RoundTrip.{letter_all, letter_short}
use Rattle.raft.specs.declared.header.Role.{Role}
use Rattle.raft.specs.declared.header.Machine.{Machine}
use Rattle.raft.specs.Header.{loaded, stored}
use Rattle.raft.specs.Outbox.{Mail, mail_due, flown_to}
use Rattle.raft.specs.Apply.{settled, applied_up_to, due, advanced}
use Rattle.raft.proofs.HeaderLaws.{Held, loaded_held, loaded_stored, loaded_alike, length_stored, stored_other}
use Rattle.together.specs.Promise.{all_small, are_bytes, Act, flies, settle, applies, done, next}
use Rattle.together.specs.Machine.{answer, decisions_from}
use Rattle.together_several.specs.Machine.{apply_due, send_due, go_on, own_step, letters_from, acts}
use Rattle.together_several.specs.Entry.{own}
use Rattle.whole.proofs.Plans.{PlannedAct, Planned, Turn, acting, ending, planned}
use Rattle.together.proofs.Lists.{are_bytes_from}
use Rattle.together.proofs.Smalls.{Kept}
use Rattle.together.proofs.Decisions.{same_decisions}
use Rattle.whole_several.proofs.Smalls.{kept_settled, kept_flown, kept_advanced}
use Rattle.whole_several.proofs.Mails.{Still, still_entries, still_decided, mail_same, still_flown, flown_loaded, flown_applied, Flies, flies_first, MailsFit, mail_fits}

-- memories that the machine runs on
pub record Fit (m : List ℕ) : Type 0 where
  pub long : length m ≡ memory_words
  pub small : all_small m ≡ true

pub kept_fit : (m m₁ : List ℕ) → Kept m m₁ → Fit m → Fit m₁
kept_fit m m₁ k f = record { long = k.long ∙ f.long; small = k.small f.small }

-- memory after the first act that is due
unfoldable pub rest : List ℕ → List ℕ
rest m = (go_on m).memory

-- what is to be applied
abbrev pub applying_now : List ℕ → List Act
applying_now m = decisions_from m (applied_number m) (decided m - applied_number m)

same_applying : (m m₁ : List ℕ) → Still m m₁ → applied_number m₁ ≡ applied_number m → applying_now m₁ ≡ applying_now m
same_applying m m₁ s e =
    ap (λ (k : ℕ). decisions_from m₁ k (decided m₁ - k)) e
    ∙ (ap (λ (d : ℕ). decisions_from m₁ (applied_number m) (d - applied_number m)) (still_decided m m₁ s)
    ∙ same_decisions m m₁ (still_entries m m₁ s) (applied_number m) (decided m - applied_number m))

acts_is : (m : List ℕ) (b : Bool) (ls : List Mail) → (loaded m).unsettled ≡ b → mail_due m ≡ ls → acts m ≡ cond b (settle ∷ []) [] ++ (letters_from ls ++ applying_now m)
unfolding acts
acts_is m b ls u e =
    ap (λ (b : Bool). cond b (settle ∷ []) [] ++ (letters_from (mail_due m) ++ applying_now m)) u
    ∙ ap (λ (ls : List Mail). cond b (settle ∷ []) [] ++ (letters_from ls ++ applying_now m)) e

module _ (m : List ℕ) (long : length m ≡ memory_words) where
  -- MEMORY IS MADE SAFE
  abbrev pub safe : List ℕ
  safe = stored m (settled (loaded m))

  settled_held : Held (settled (loaded m))
  settled_held = let h = loaded_held m in record { some = h.some; few = h.few; one = h.one; waits = h.waits }

  pub safe_loaded : loaded safe ≡ settled (loaded m)
  safe_loaded = loaded_stored m (settled (loaded m)) long settled_held

  pub safe_still : Still m safe
  safe_still =
      record {
        long = length_stored m (settled (loaded m));
        size = ap (λ (x : Machine Role). x.size) safe_loaded;
        id = ap (λ (x : Machine Role). x.id) safe_loaded;
        term = ap (λ (x : Machine Role). x.term) safe_loaded;
        role = ap (λ (x : Machine Role). x.role) safe_loaded;
        rows = λ i a b. stored_other m (settled (loaded m)) i a;
        behind = λ i a b. stored_other m (settled (loaded m)) i (omega arith);
      }

  pub safe_applied : applied_number safe ≡ applied_number m
  safe_applied = same_applied m safe (stored_other m (settled (loaded m)) 66 (omega arith))

  pub safe_since : (loaded safe).since ≡ (loaded m).since
  safe_since = ap (λ (x : Machine Role). x.since) safe_loaded

  pub safe_settled : (loaded safe).unsettled ≡ false
  safe_settled = ap (λ (x : Machine Role). x.unsettled) safe_loaded

  -- the letters are the same
  pub settled_mail : mail_due safe ≡ mail_due m
  settled_mail = mail_same m safe safe_still 0 7 (omega arith) (λ i a b. stored_other m (settled (loaded m)) (29 + i) (omega arith))

  pub go_settle : (loaded m).unsettled ≡ true → go_on m ≡ answer safe settle
  unfolding go_on
  go_settle u = cond-true (loaded m).unsettled (answer safe settle) (send_due m (loaded m) (mail_due m)) u

  pub acts_settle : (loaded m).unsettled ≡ true → acts m ≡ settle ∷ acts safe
  acts_settle u =
      acts_is m true (mail_due m) u refl
      ∙ sym (ap (λ (x : List Act). settle ∷ x)
      (acts_is safe false (mail_due m) safe_settled settled_mail ∙ ap (λ (x : List Act). letters_from (mail_due m) ++ x) (same_applying m safe safe_still safe_applied)))

  -- A LETTER FLIES
  module _ (still : (loaded m).unsettled ≡ false) (l : Mail) (ls : List Mail) (due-first : mail_due m ≡ l ∷ ls) where
    abbrev pub flown : List ℕ
    flown = flown_to m l.to

    flies_now : Flies m 0 7 l ls
    flies_now = flies_first m long 0 7 (omega arith) l ls due-first

    pub flown_still : Still m flown
    flown_still = still_flown m l.to flies_now.most

    pub flown_mail : mail_due flown ≡ ls
    flown_mail = flies_now.left

    pub flown_same : applied_number flown ≡ applied_number m
    flown_same = flown_applied m l.to flies_now.most

    pub go_fly : go_on m ≡ answer flown (flies l.to (letter_bytes l.letter))
    unfolding go_on
    go_fly =
        cond-false (loaded m).unsettled (answer safe settle) (send_due m (loaded m) (mail_due m)) still
        ∙ ap (λ (x : List Mail). send_due m (loaded m) x) due-first

    pub acts_fly : acts m ≡ flies l.to (letter_bytes l.letter) ∷ acts flown
    unfolding letters_from
    acts_fly =
        let u : (loaded flown).unsettled ≡ false = ap (λ (x : Machine Role). x.unsettled) (flown_loaded m l.to) ∙ still in
        acts_is m false (l ∷ ls) still due-first
        ∙ sym (ap (λ (x : List Act). flies l.to (letter_bytes l.letter) ∷ x)
        (acts_is flown false ls u flown_mail ∙ ap (λ (x : List Act). letters_from ls ++ x) (same_applying m flown flown_still flown_same)))

  -- A DECISION IS APPLIED
  abbrev pub onward : List ℕ
  onward = advanced m (loaded m) (applied_number m + 1)

  abbrev noted : Machine Role
  noted = applied_up_to (loaded m) (applied_number m + 1)

  noted_held : Held noted
  noted_held = let h = loaded_held m in record { some = h.some; few = h.few; one = h.one; waits = h.waits }

  pub onward_loaded : loaded onward ≡ noted
  unfolding advanced
  onward_loaded =
      loaded_alike (stored m noted) (applied_set (stored m noted) (applied_number m + 1)) (λ i l. applied_set_other (stored m noted) (applied_number m + 1) i (omega arith))
      ∙ loaded_stored m noted long noted_held

  pub onward_other : (i : ℕ) → 8 ≤ i → i ≢ 66 → get_or onward i 0 ≡ get_or m i 0
  unfolding advanced
  onward_other i a b = applied_set_other (stored m noted) (applied_number m + 1) i b ∙ stored_other m noted i a

  onward_long : length onward ≡ length m
  unfolding advanced
  onward_long = length_applied_set (stored m noted) (applied_number m + 1) ∙ length_stored m noted

  pub onward_still : Still m onward
  onward_still =
      record {
        long = onward_long;
        size = ap (λ (x : Machine Role). x.size) onward_loaded;
        id = ap (λ (x : Machine Role). x.id) onward_loaded;
        term = ap (λ (x : Machine Role). x.term) onward_loaded;
        role = ap (λ (x : Machine Role). x.role) onward_loaded;
        rows = λ i a b. onward_other i a (omega arith);
        behind = λ i a b. onward_other i (omega arith) b;
      }

  pub onward_mail : mail_due onward ≡ mail_due m
  onward_mail = mail_same m onward onward_still 0 7 (omega arith) (λ i a b. onward_other (29 + i) (omega arith) (omega arith))

  pub onward_applied : applied_number m < decided m → applied_number onward ≡ applied_number m + 1
  unfolding advanced
  onward_applied l =
      applied_set_applied (stored m noted) (applied_number m + 1) (length_stored m noted ∙ long) (omega (arith, number_most m (commit_index m)))

  module _ (still : (loaded m).unsettled ≡ false) (none_due : mail_due m ≡ []) where
    go_last : go_on m ≡ apply_due m (loaded m) (due m)
    unfolding go_on
    go_last =
        cond-false (loaded m).unsettled (answer safe settle) (send_due m (loaded m) (mail_due m)) still
        ∙ ap (λ (x : List Mail). send_due m (loaded m) x) none_due

    acts_last : acts m ≡ applying_now m
    unfolding letters_from
    acts_last = acts_is m false [] still none_due

    pub go_apply : applied_number m < decided m → go_on m ≡ answer onward (applies (applied_number m + 1) (value_at m (applied_number m)))
    go_apply l = go_last ∙ ap (λ b. apply_due m (loaded m) (cond b (Some (applied_number m)) None)) (lt-ltb (applied_number m) (decided m) l)

    pub go_done : decided m ≤ applied_number m → go_on m ≡ answer m done
    go_done l = go_last ∙ ap (λ b. apply_due m (loaded m) (cond b (Some (applied_number m)) None)) (le-ltb (applied_number m) (decided m) l)

    pub acts_apply : applied_number m < decided m → acts m ≡ applies (applied_number m + 1) (value_at m (applied_number m)) ∷ acts onward
    unfolding decisions_from letters_from
    acts_apply l =
        let k : ℕ = applied_number m in
        let more : decided m - k ≡ suc (decided m - (k + 1)) = omega arith in
        let u : (loaded onward).unsettled ≡ false = ap (λ (x : Machine Role). x.unsettled) onward_loaded ∙ still in
        let left : applying_now onward ≡ decisions_from m (k + 1) (decided m - (k + 1)) =
        rw (onward_applied l, still_decided m onward onward_still) (same_decisions m onward (still_entries m onward onward_still) (k + 1) (decided m - (k + 1))) in
        acts_last
        ∙ (ap (decisions_from m k) more ∙ sym (ap (λ (x : List Act). applies (k + 1) (value_at m k) ∷ x) (acts_is onward false [] u (onward_mail ∙ none_due) ∙ left)))

    pub acts_done : decided m ≤ applied_number m → acts m ≡ []
    unfolding decisions_from
    acts_done l = let none : decided m - applied_number m ≡ 0 = omega arith in acts_last ∙ ap (decisions_from m (applied_number m)) none

-- THE FOUR WAYS that a memory can go on
pub data Goes (m : List ℕ) : Type 0 where
  settling : (loaded m).unsettled ≡ true → Goes m
  flying : (loaded m).unsettled ≡ false → (l : Mail) (ls : List Mail) → mail_due m ≡ l ∷ ls → Goes m
  applying : (loaded m).unsettled ≡ false → mail_due m ≡ [] → applied_number m < decided m → Goes m
  resting : (loaded m).unsettled ≡ false → mail_due m ≡ [] → decided m ≤ applied_number m → Goes m

pub goes : (m : List ℕ) → Goes m
goes m = elim (cases_Bool (loaded m).unsettled) [ inl u ↦ settling u | inr u ↦ by (mail_due m) refl u ]
  where
    by : (ls : List Mail) → mail_due m ≡ ls → (loaded m).unsettled ≡ false → Goes m
    by [] e u = elim (cases_lt (applied_number m) (decided m)) [ inl l ↦ applying u e l | inr l ↦ resting u e l ]
    by (l ∷ ls) e u = flying u l ls e

-- a letter that is due may fly
pub may_fly : (m : List ℕ) → all_small m ≡ true → (l : Mail) (ls : List Mail) → mail_due m ≡ l ∷ ls → PlannedAct (flies l.to (letter_bytes l.letter))
may_fly m small l ls e =
    let f : MailsFit (l ∷ ls) = subst (λ (x : List Mail). MailsFit x) e (mail_fits m small) in
    let bs : List ℕ = letter_bytes l.letter in
    and_from (leb (length bs) 4096) (are_bytes bs) (le-leb (length bs) 4096 (letter_short l.letter f.1)) (are_bytes_from bs (letter_all l.letter f.1))

pub own_next : (m : List ℕ) → own.step m next ≡ go_on m
unfolding own own_step
own_next m = refl

turn : (m : List ℕ) → Fit m → Turn go_on Fit acts m
turn m fit = by (goes m)
  where
    long : length m ≡ memory_words
    long = fit.long

    by : Goes m → Turn go_on Fit acts m
    by (settling u) = acting (safe m long) settle (kept_fit m (safe m long) (kept_settled m) fit) tt (go_settle m long u) (acts_settle m long u)
    by (flying u l ls e) =
        acting (flown m long u l ls e) (flies l.to (letter_bytes l.letter)) (kept_fit m (flown m long u l ls e) (kept_flown m l.to) fit) (may_fly m fit.small l ls e) (go_fly m long u l ls e)
        (acts_fly m long u l ls e)
    by (applying u e l) =
        acting (onward m long) (applies (applied_number m + 1) (value_at m (applied_number m)))
        (kept_fit m (onward m long) (kept_advanced m (applied_number m + 1) (omega (arith, applied_most m))) fit) tt (go_apply m long u e l) (acts_apply m long u e l)
    by (resting u e l) = ending (go_done m long u e l) (acts_done m long u e l)

-- THE PLAN of the machine
pub own_planned : Planned own Fit acts rest
unfolding rest
own_planned = planned own go_on Fit acts own_next turn
