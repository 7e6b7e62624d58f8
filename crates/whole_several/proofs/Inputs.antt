-- Each event of a machine does to its memory what the same input does to the theory's machine.
use Rattle.std.proofs.Common.{◌≡◌, ℕ, zero, suc, ◌+◌, ◌<◌, ◌≤◌, Bool, true, false, ◌≢◌, List, [], ◌∷◌, ◌++◌, length, get_or, sym, refl, ap, ◌∙◌, subst, arith}
use mathlib.Core.Option.{Option, none, some}
use Rattle.std.proofs.lemmas.List.{length-map, length_push}
use Rattle.std.proofs.lemmas.Bool.{true≢false}
use Rattle.raft_log.specs.Block.{Entry as Row, EntriesFit, ContentFits}
use Rattle.raft_log.specs.View.{log_of, no_entry, Valid, ValidContent}
use Rattle.raft_log.specs.Conflict.{Agreeing}
use Rattle.raft_log.specs.Entries.{value_fits}
use Rattle.messages.specs.Letter.{Letter as Message, append as append_message, append_response, append_reject, request_vote, request_vote_response, term_notice, LetterFits}
use Rattle.raft.specs.declared.header.Role.TheVariants.{Leader}
use Rattle.raft.specs.Header.{loaded}
use Rattle.raft.specs.Election.{ticked}
use Rattle.raft.specs.Proposal.{taken}
use Rattle.raft.specs.Receive.{received_from_another}
use Rattle.protocol.specs.Lists.{In}
use Rattle.protocol.specs.Log.{Entry, Log, entry_at, term_at, decisions}
use Rattle.machine.specs.Machine.{Letter, append, request, vote, ack, reject, here, Outcome, tick, receive, Input, event, proposal}
use Rattle.machine.specs.Step.{step}
use Rattle.machine.specs.Maps.{map_entry, map_log, map_machine, map_letter, map_input, map_outcome}
use Rattle.machine.specs.World.{World as Theory, mail, Possible, Reachable}
use Rattle.machine.proofs.MapLogs.{log_length, decisions_map, entry_map}
use Rattle.machine.proofs.Maps.{step_map}
use Rattle.machine.proofs.Steps.{step_small, step_commit}
use Rattle.machine.proofs.Agreeing.{appends_agree}
use Rattle.join_several.specs.Stands.{conf, lift_entry, lift_log, Stands}
use Rattle.join_several.specs.Does.{lift_letter, Room, Does}
use Rattle.join_several.proofs.Ticks.{ticked_does}
use Rattle.join_several.proofs.Proposals.{taken_does}
use Rattle.join_several.proofs.Received.{Fitting, received_does}
use Rattle.join_several.proofs.Lifts.{lift_at, lift_length}
use Rattle.together.specs.House.{nth_value}
use Rattle.whole.proofs.Orders.{nth_last}
use Rattle.whole_several.proofs.Joined.{Agrees}
use Rattle.whole_several.proofs.Sent.{agrees_self}

-- machine h of n in the world w, with the input e
module _ (n h : ℕ) (w : Theory) (reach : Reachable (conf n) w) (up : w.up h ≡ true) (e : Input ℕ) (possible : Possible w h e) where
  abbrev d : Outcome ℕ
  d = step (conf n) h (w.memory h) e

  -- there is room for the log that comes of it
  pub room_then : (g : ℕ → List ℕ) → Room (map_outcome g d).now
  room_then g =
      let s = step_small (conf n) w h e reach up possible in
      record {
        values = omega (arith, s.0, ap (λ (xs : List (List ℕ)). length xs) (decisions_map g d.now.log), length-map (decisions d.now.log) g);
        long = omega (arith, s.1, log_length g d.now.log);
      }

  pub reached_then : (g : ℕ → List ℕ) → (map_outcome g d).now.commit ≤ length (map_outcome g d).now.log
  reached_then g = omega (arith, step_commit (conf n) w h e reach up possible, log_length g d.now.log)

  -- what is done to a machine with values is what is done to the one with numbers
  pub does_mapped : (g : ℕ → List ℕ) (m m₁ : List ℕ) (i : Input (List ℕ)) → map_input g e ≡ i →
      (Room (step (conf n) h (map_machine g (w.memory h)) i).now → (step (conf n) h (map_machine g (w.memory h)) i).now.commit ≤ length (step (conf n) h (map_machine g (w.memory h)) i).now.log →
      Does n h m m₁ (map_machine g (w.memory h)) (step (conf n) h (map_machine g (w.memory h)) i)) → Does n h m m₁ (map_machine g (w.memory h)) (map_outcome g d)
  does_mapped g m m₁ i q f =
      let same : step (conf n) h (map_machine g (w.memory h)) i ≡ map_outcome g d = ap (step (conf n) h (map_machine g (w.memory h))) (sym q) ∙ step_map g (conf n) h (w.memory h) e in
      subst (λ (y : Outcome (List ℕ)). Does n h m m₁ (map_machine g (w.memory h)) y) same
      (f (subst (λ (y : Outcome (List ℕ)). Room y.now) (sym same) (room_then g)) (subst (λ (y : Outcome (List ℕ)). y.now.commit ≤ length y.now.log) (sym same) (reached_then g)))

module _ (n h : ℕ) (least : 1 ≤ n) (few : n ≤ 7) (there : h < n) (w : Theory) (reach : Reachable (conf n) w) (up : w.up h ≡ true) (ps : List (List ℕ)) (m : List ℕ)
    (stands : (g : ℕ → List ℕ) → Agrees g ps → Stands n h m (map_machine g (w.memory h))) (quiet : Rattle.join_several.specs.Does.Quiet m) where
  -- A TICK
  pub tick_does : (w.memory h).term < 18446744073709551615 → (g : ℕ → List ℕ) → Agrees g ps →
      Does n h m (ticked m) (map_machine g (w.memory h)) (map_outcome g (step (conf n) h (w.memory h) (event tick)))
  tick_does low g a =
      does_mapped n h w reach up (event tick) tt g m (ticked m) (event tick) refl
      (λ room _. ticked_does n h m (map_machine g (w.memory h)) least few there (stands g a) quiet (omega (arith, (stands g a).term)) room)

  -- A PROPOSAL that a leader takes: it is given the next number
  pub propose_does : (v : List ℕ) → length ps ≡ w.proposals → (loaded m).role ≡ Leader → value_fits m (length v) ≡ true → ((i : ℕ) → get_or v i 0 < 256) →
      (g : ℕ → List ℕ) → Agrees g (ps ++ v ∷ []) → Agrees g ps →
      Does n h m (taken m (loaded m) v) (map_machine g (w.memory h)) (map_outcome g (step (conf n) h (w.memory h) (proposal w.proposals)))
  propose_does v count leads fits bytes g b a =
      let it : g w.proposals ≡ v = ap g (sym count) ∙ (b (length ps) (omega (arith, length_push ps v)) ∙ nth_last ps v) in
      does_mapped n h w reach up (proposal w.proposals) refl g m (taken m (loaded m) v) (proposal v) (ap proposal it)
      (λ room _. taken_does n h m (map_machine g (w.memory h)) v few there (stands g a) leads fits bytes)

-- A LETTER THAT CAME
-- entries that fit a letter are such as a memory can hold
valid_fit : (es : List Row) → EntriesFit es → Valid es
valid_fit [] f j l = absurd (omega arith)
valid_fit (e ∷ es) f zero l = one e.content f.1
  where
    one : (o : Option (List ℕ)) → ContentFits o → ValidContent o
    one none c = tt
    one (some v) c = c
valid_fit (e ∷ es) f (suc j) l = valid_fit es f.2 j (omega arith)

-- the parts of an append
abbrev is_append : {A : Type 0} → Letter A → Bool
is_append (append t p q k es) = true
is_append (request t i q) = false
is_append (vote t b) = false
is_append (ack t i) = false
is_append (reject t p h) = false
is_append (here t) = false

abbrev place : {A : Type 0} → Letter A → ℕ
place (append t p q k es) = p
place (request t i q) = 0
place (vote t b) = 0
place (ack t i) = 0
place (reject t p h) = 0
place (here t) = 0

abbrev entries : {A : Type 0} → Letter A → Log A
entries (append t p q k es) = es
entries (request t i q) = []
entries (vote t b) = []
entries (ack t i) = []
entries (reject t p h) = []
entries (here t) = []

same_rows : (a b : Row) → lift_entry a ≡ lift_entry b → a ≡ b
same_rows a b e = λ i. record { term = (e i).term; content = (e i).content }

-- rows of values that stand for logs of numbers agree where those do
module _ (g : ℕ → List ℕ) (rows es : List Row) (l ls : Log ℕ) (p : ℕ) (log : lift_log rows ≡ map_log g l) (own : lift_log es ≡ map_log g ls)
    (agree : (i : ℕ) → i < length ls → p + i < length l → term_at l (p + i) ≡ term_at ls i → entry_at l (p + i) ≡ entry_at ls i) where
  row_at : (xs : List Row) (ys : Log ℕ) → lift_log xs ≡ map_log g ys → (j : ℕ) → lift_entry (get_or xs j no_entry) ≡ map_entry g (entry_at ys j)
  row_at xs ys e j = sym (lift_at xs j) ∙ (ap (λ (z : Log (List ℕ)). entry_at z j) e ∙ entry_map g ys j)

  rows_agree : Agreeing rows p es
  rows_agree i a b terms =
      let x = row_at rows l log (p + i) in
      let y = row_at es ls own i in
      let long : length rows ≡ length l = sym (lift_length rows) ∙ (ap (λ (z : Log (List ℕ)). length z) log ∙ log_length g l) in
      let short : length es ≡ length ls = sym (lift_length es) ∙ (ap (λ (z : Log (List ℕ)). length z) own ∙ log_length g ls) in
      let same : term_at l (p + i) ≡ term_at ls i = sym (ap (λ (z : Entry (List ℕ)). z.term) x) ∙ (terms ∙ ap (λ (z : Entry (List ℕ)). z.term) y) in
      same_rows (get_or rows (p + i) no_entry) (get_or es i no_entry) (x ∙ (ap (map_entry g) (agree i (omega arith) (omega arith) same) ∙ sym y))

module _ (n h : ℕ) (few : n ≤ 7) (there : h < n) (w : Theory) (reach : Reachable (conf n) w) (up : w.up h ≡ true) (ps : List (List ℕ)) (m : List ℕ)
    (stands : (g : ℕ → List ℕ) → Agrees g ps → Stands n h m (map_machine g (w.memory h))) (quiet : Rattle.join_several.specs.Does.Quiet m)
    (f : ℕ) (sender : f < n) (other : f ≢ h) (letter : Letter ℕ) (flew : In (mail f h letter) w.network) where
  -- its entries agree with the log, since they flew
  append_agrees : (t p q k : ℕ) (es : List Row) (l : Letter ℕ) → In (mail f h l) w.network → lift_letter (append_message t p q k es) ≡ map_letter (nth_value ps) l → Agreeing (log_of m) p es
  append_agrees t p q k es (append t₁ p₁ q₁ k₁ ls) i e =
      let at : p₁ ≡ p = sym (ap place e) in
      rows_agree (nth_value ps) (log_of m) es (w.memory h).log ls p (stands (nth_value ps) (agrees_self ps)).log (ap entries e)
      (subst (λ (z : ℕ). (j : ℕ) → j < length ls → z + j < length (w.memory h).log → term_at (w.memory h).log (z + j) ≡ term_at ls j → entry_at (w.memory h).log (z + j) ≡ entry_at ls j) at
      (appends_agree (conf n) w reach h f t₁ p₁ q₁ k₁ ls up i))
  append_agrees t p q k es (request t₁ j q₁) i e = absurd (true≢false (ap is_append e))
  append_agrees t p q k es (vote t₁ b) i e = absurd (true≢false (ap is_append e))
  append_agrees t p q k es (ack t₁ j) i e = absurd (true≢false (ap is_append e))
  append_agrees t p q k es (reject t₁ p₁ j) i e = absurd (true≢false (ap is_append e))
  append_agrees t p q k es (here t₁) i e = absurd (true≢false (ap is_append e))

  fitting : (l : Message) → LetterFits l → lift_letter l ≡ map_letter (nth_value ps) letter → Fitting m l
  fitting (append_message t p q k es) f e = (valid_fit es f.5, append_agrees t p q k es letter flew e)
  fitting (append_response t i) f e = tt
  fitting (append_reject t p i) f e = tt
  fitting (request_vote t i q) f e = tt
  fitting (request_vote_response t b) f e = tt
  fitting (term_notice t) f e = tt

  pub letter_does : (l : Message) → LetterFits l → ((g : ℕ → List ℕ) → Agrees g ps → lift_letter l ≡ map_letter g letter) → (g : ℕ → List ℕ) → Agrees g ps →
      Does n h m (received_from_another m f (some l)) (map_machine g (w.memory h)) (map_outcome g (step (conf n) h (w.memory h) (event (receive f letter))))
  letter_does l fits means g a =
      does_mapped n h w reach up (event (receive f letter)) flew g m (received_from_another m f (some l)) (event (receive f (lift_letter l))) (ap (λ (z : Letter (List ℕ)). event (receive f z)) (sym (means g a)))
      (λ room reached. received_does n h f m (map_machine g (w.memory h)) (omega arith) few there sender other (stands g a) quiet l (fitting l fits (means (nth_value ps) (agrees_self ps))) room reached)
