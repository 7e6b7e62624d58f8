-- What holds of all that ever happened: the same number is the same everywhere, one vote in a term, terms that only rise.
use Rattle.std.proofs.Common.{◌≡◌, ℕ, zero, suc, ◌+◌, ◌-◌, ◌<◌, ◌≤◌, Bool, true, false, ◌&&◌, leb, List, [], ◌∷◌, ◌++◌, length, get_or, sym, refl, ap, ◌∙◌, subst, inl, inr, arith}
use mathlib.Core.Option.{Option, none, some}
use Rattle.std.proofs.lemmas.Bool.{leb-true, le-leb, and_parts, and_from, cases_Bool, false≢true}
use Rattle.messages.specs.Letter.{Letter as Message, request_vote_response, letter_of}
use Rattle.protocol.specs.Lists.{In, All, Begins}
use Rattle.protocol.proofs.Lists.{begins_at, begins_length, all_in}
use Rattle.raft.specs.Header.{loaded}
use Rattle.machine.specs.Machine.{Machine as Model, Letter, append, request, vote, ack, reject, here, restart}
use Rattle.machine.specs.Maps.{map_letter}
use Rattle.machine.specs.World.{World as Theory, mail, initial, RunsTo, At}
use Rattle.machine.proofs.Steps.{runs_none, runs_trans, order_ok}
use Rattle.machine.proofs.Theorems.{one_vote}
use Rattle.machine.proofs.Stable.{terms_last}
use Rattle.join_several.specs.Stands.{conf}
use Rattle.join_several.specs.Does.{lift_letter}
use Rattle.together.specs.House.{pick, every, same, Applied, nth_value, by_order}
use Rattle.together.specs.Promise.{machine_at, Flown, World, world, Thing, power, says, delivers, ticks, to_whom, event_for, proper, before, thing_ran, Ran, with_proposal, after_thing, Item, whole, cut}
use Rattle.together.proofs.Lists.{every_append, same_equal}
use Rattle.together_several.specs.Entry.{own}
use Rattle.whole_several.specs.History.{enough, happens, history, first_world, after, term_of, SameNumber, OneVote, TermsLast}
use Rattle.whole_several.proofs.Joined.{Agrees, Carried, Joined}
use Rattle.whole_several.proofs.Moved.{Moved, agrees_later, moved_joined}
use Rattle.whole_several.proofs.Sent.{agrees_self}
use Rattle.whole_several.proofs.Events.{terms_later}
use Rattle.whole_several.proofs.Worlds.{thing_right}
use Rattle.whole_several.proofs.Main.{first_joined}

-- a world with another order noted
abbrev with_order : World → List ℕ → World
with_order v o = world v.machines v.wire v.proposed o v.all_did

-- what happens does not look at the order
same_proper : (v : World) (o : List ℕ) (t : Thing) → proper (with_order v o) t ≡ proper v t
unfolding proper
same_proper v o (power h) = refl
same_proper v o (says h c) = refl
same_proper v o (delivers k) = refl
same_proper v o (ticks h) = refl

same_ran : (v : World) (o : List ℕ) (t : Thing) (n : ℕ) → thing_ran n own (with_order v o) t ≡ thing_ran n own v t
unfolding to_whom event_for
same_ran v o (power h) n = refl
same_ran v o (says h c) n = refl
same_ran v o (delivers k) n = refl
same_ran v o (ticks h) n = refl

same_after : (v : World) (o p : List ℕ) (t : Thing) (r : Ran) (b : Bool) → after_thing (with_order v o) t r b p ≡ with_order (after_thing v t r b v.order) p
unfolding to_whom
same_after v o p (power h) r b = refl
same_after v o p (says h c) r b = refl
same_after v o p (delivers k) r b = refl
same_after v o p (ticks h) r b = refl

-- what was applied is by the order, also as the order grows and more is proposed
module _ (ps ps₁ : List (List ℕ)) (later : (g : ℕ → List ℕ) → Agrees g ps₁ → Agrees g ps) (o o₁ : List ℕ) (grows : Begins o o₁) (below : (i : ℕ) → i < length o → get_or o i 0 < length ps) where
  by_one : (a : Applied) → by_order ps o a ≡ true → by_order ps₁ o₁ a ≡ true
  by_one a e =
      let i : ℕ = a.index in
      let p = and_parts (leb 1 a.index && leb a.index (length o)) (same a.value (nth_value ps (get_or o (a.index - 1) 0))) e in
      let q = and_parts (leb 1 a.index) (leb a.index (length o)) p.0 in
      let least = leb-true 1 a.index q.0 in
      let most = leb-true a.index (length o) q.1 in
      let here : get_or o (a.index - 1) 0 ≡ get_or o₁ (a.index - 1) 0 = begins_at 0 o o₁ (a.index - 1) (omega arith) grows in
      let value : nth_value ps (get_or o (a.index - 1) 0) ≡ nth_value ps₁ (get_or o₁ (a.index - 1) 0) =
      sym (later (nth_value ps₁) (agrees_self ps₁) (get_or o (a.index - 1) 0) (below (a.index - 1) (omega arith))) ∙ ap (nth_value ps₁) here in
      and_from (leb 1 a.index && leb a.index (length o₁)) (same a.value (nth_value ps₁ (get_or o₁ (a.index - 1) 0)))
      (and_from (leb 1 a.index) (leb a.index (length o₁)) q.0 (le-leb a.index (length o₁) (omega (arith, begins_length o o₁ grows))))
      (subst (λ (x : List ℕ). same a.value x ≡ true) value p.1)

  by_all : (as₁ : List Applied) → every (by_order ps o) as₁ ≡ true → every (by_order ps₁ o₁) as₁ ≡ true
  unfolding every
  by_all [] e = refl
  by_all (a ∷ as₁) e =
      let p = and_parts (by_order ps o a) (every (by_order ps o) as₁) e in
      and_from (by_order ps₁ o₁ a) (every (by_order ps₁ o₁) as₁) (by_one a p.0) (by_all as₁ p.1)

every_in : (p : Applied → Bool) (as₁ : List Applied) (a : Applied) → every p as₁ ≡ true → In a as₁ → p a ≡ true
unfolding every
every_in p [] a e i = absurd i
every_in p (b ∷ bs) a e (inl q) = subst (λ (x : Applied). p x ≡ true) q (and_parts (p b) (every p bs) e).0
every_in p (b ∷ bs) a e (inr i) = every_in p bs a (and_parts (p b) (every p bs) e).1 i

below_all : (n : ℕ) (o : List ℕ) → All (λ p. p < n) o → (i : ℕ) → i < length o → get_or o i 0 < n
below_all n [] h i l = absurd (omega arith)
below_all n (x ∷ xs) h zero l = h.0
below_all n (x ∷ xs) h (suc i) l = below_all n xs h.1 i (omega arith)

-- THE WORLD THAT HAS COME goes beside one of the theory that comes of w₀
pub record Came (n k : ℕ) (w₀ : Theory) (v : World) : Type 0 where
  pub beside : Theory
  pub joined : Joined n k (with_order v beside.order) beside
  pub path : RunsTo (conf n) w₀ beside
  pub by : every (by_order v.proposed beside.order) v.all_did ≡ true

module _ (n k : ℕ) (w₀ : Theory) (v : World) (low : k ≤ 8589934592) (z : Came n k w₀ v) where
  -- an event, by what it did
  moved_came : (t : Thing) (i : ℕ) (b : Bool) → to_whom (with_order v z.beside.order) t < n →
      Moved n k (to_whom (with_order v z.beside.order) t) (with_proposal v.proposed t (thing_ran i own (with_order v z.beside.order) t).end)
      (before t (machine_at v.machines (to_whom (with_order v z.beside.order) t))).how_it_got z.beside (thing_ran i own (with_order v z.beside.order) t) b →
      Came n (suc k) w₀ (after_thing v t (thing_ran i own v t) b v.order)
  moved_came t i b there m =
      let u : World = with_order v z.beside.order in
      let r : Ran = thing_ran i own (with_order v z.beside.order) t in
      let w₁ : Theory = m.to in
      let ps₁ : List (List ℕ) = with_proposal v.proposed t (thing_ran i own (with_order v z.beside.order) t).end in
      let ok = (order_ok (conf n) z.beside z.joined.reach).0 in
      let below : (j : ℕ) → j < length z.beside.order → get_or z.beside.order j 0 < length v.proposed =
      subst (λ (a : ℕ). (j : ℕ) → j < length z.beside.order → get_or z.beside.order j 0 < a) (sym z.joined.proposals) (below_all z.beside.proposals z.beside.order ok) in
      let did : every (by_order ps₁ m.to.order) (v.all_did ++ r.did) ≡ true =
      every_append (by_order ps₁ m.to.order) v.all_did r.did
      (by_all v.proposed ps₁ (agrees_later v.proposed t r.end) z.beside.order m.to.order m.grows below v.all_did z.by) m.by in
      subst (λ (y : Ran). Came n (suc k) w₀ (after_thing v t y b v.order)) (same_ran v z.beside.order t i)
      (record {
        beside = m.to;
        joined = subst (λ (y : World). Joined n (suc k) y m.to) (same_after v z.beside.order m.to.order t r b)
            (moved_joined n k (with_order v z.beside.order) z.beside z.joined t r b there m);
        path = runs_trans (conf n) w₀ z.beside m.to z.path m.path;
        by = did;
      })

  later : Came n (suc k) w₀ v
  later =
      let j = z.joined in
      record {
        beside = z.beside;
        joined = record {
          some_are = j.some_are;
          few = j.few;
          number = j.number;
          reach = j.reach;
          terms = terms_later z.beside k j.terms;
          proposals = j.proposals;
          order = j.order;
          wire = j.wire;
          up = j.up;
          safe = j.safe;
          rests = j.rests;
          ever = j.ever;
        };
        path = z.path;
        by = z.by;
      }

  pub next_came : (i : Item) → Came n (suc k) w₀ (happens v i)
  unfolding happens
  next_came (whole t) =
      elim (cases_Bool (proper v t)) [
        | inl p ↦
            let q = thing_right n k (with_order v z.beside.order) z.beside z.joined low t (same_proper v z.beside.order t ∙ p) in
            subst (λ (b : Bool). Came n (suc k) w₀ (pick b (after_thing v t (thing_ran enough own v t) true v.order) v)) (sym p) (moved_came t enough true q.here q.whole)
        | inr p ↦ subst (λ (b : Bool). Came n (suc k) w₀ (pick b (after_thing v t (thing_ran enough own v t) true v.order) v)) (sym p) later
      ]
  next_came (cut t a) =
      elim (cases_Bool (proper v t)) [
        | inl p ↦
            let q = thing_right n k (with_order v z.beside.order) z.beside z.joined low t (same_proper v z.beside.order t ∙ p) in
            subst (λ (b : Bool). Came n (suc k) w₀ (pick b (after_thing v t (thing_ran a own v t) false v.order) v)) (sym p) (moved_came t a false q.here (q.cut a))
        | inr p ↦ subst (λ (b : Bool). Came n (suc k) w₀ (pick b (after_thing v t (thing_ran a own v t) false v.order) v)) (sym p) later
      ]

pub history_came : (n : ℕ) (w₀ : Theory) (is : List Item) (k : ℕ) (v : World) → k + length is ≤ 8589934592 → Came n k w₀ v → Came n (k + length is) w₀ (history v is)
unfolding history
history_came n w₀ [] k v l z = subst (λ (a : ℕ). Came n a w₀ v) (let e : k ≡ k + 0 = omega arith in e) z
history_came n w₀ (i ∷ is) k v l z =
    subst (λ (a : ℕ). Came n a w₀ (history (happens v i) is)) (let e : suc k + length is ≡ k + suc (length is) = omega arith in e)
    (history_came n w₀ is (suc k) (happens v i) (omega arith) (next_came n k w₀ v (omega arith) z i))

start_came : (n : ℕ) → 1 ≤ n → n ≤ 7 → Came n 0 initial (first_world n)
unfolding every initial
start_came n least few = record { beside = initial; joined = first_joined n least few; path = runs_none (conf n) initial; by = refl }

-- THE SAME NUMBER is the same everywhere
by_value : (ps : List (List ℕ)) (o : List ℕ) (a : Applied) → by_order ps o a ≡ true → a.value ≡ nth_value ps (get_or o (a.index - 1) 0)
by_value ps o a e =
    same_equal a.value (nth_value ps (get_or o (a.index - 1) 0)) (and_parts (leb 1 a.index && leb a.index (length o)) (same a.value (nth_value ps (get_or o (a.index - 1) 0))) e).1

pub same_number : SameNumber
unfolding SameNumber
same_number many is least few low a b i j e =
    let z = history_came many initial is 0 (first_world many) (omega arith) (start_came many least few) in
    let v : World = after many is in
    by_value (after many is).proposed z.beside.order a (every_in (by_order (after many is).proposed z.beside.order) (after many is).all_did a z.by i)
    ∙ (ap (λ (k : ℕ). nth_value (after many is).proposed (get_or z.beside.order (k - 1) 0)) e
    ∙ sym (by_value (after many is).proposed z.beside.order b (every_in (by_order (after many is).proposed z.beside.order) (after many is).all_did b z.by j)))

-- ONE VOTE in a term
abbrev known : Option Message → Message → Message
known none d = d
known (some m) d = m

-- a vote on the wire is one that flew in the theory's world
vote_flew : (n k : ℕ) (v : World) (w : Theory) → Joined n k v w → (x : Flown) (t : ℕ) → In x v.wire → letter_of x.what.bytes ≡ some (request_vote_response t true) →
    In (mail x.by_whom x.what.to (vote t true)) w.network
vote_flew n k v w j x t i e =
    let c = all_in (Carried v.proposed w) x v.wire j.wire i in
    let m : c.message ≡ request_vote_response t true = ap (λ (o : Option Message). known o c.message) (sym c.reads ∙ e) in
    let l : map_letter (nth_value v.proposed) c.letter ≡ vote t true = sym (c.means (nth_value v.proposed) (agrees_self v.proposed)) ∙ ap lift_letter m in
    subst (λ (y : Letter ℕ). In (mail x.by_whom x.what.to y) w.network) (unmapped c.letter l) c.flew
  where
    is_vote : Letter (List ℕ) → Bool
    is_vote (append t p q k es) = false
    is_vote (request t len last) = false
    is_vote (vote t b) = true
    is_vote (ack t i) = false
    is_vote (reject t p h) = false
    is_vote (here t) = false

    term_in : Letter (List ℕ) → ℕ
    term_in (append t p q k es) = 0
    term_in (request t len last) = 0
    term_in (vote t b) = t
    term_in (ack t i) = 0
    term_in (reject t p h) = 0
    term_in (here t) = 0

    given : Letter (List ℕ) → Bool
    given (append t p q k es) = false
    given (request t len last) = false
    given (vote t b) = b
    given (ack t i) = false
    given (reject t p h) = false
    given (here t) = false

    unmapped : (y : Letter ℕ) → map_letter (nth_value v.proposed) y ≡ vote t true → y ≡ vote t true
    unmapped (append a p q k es) e = absurd (false≢true (ap is_vote e))
    unmapped (request a len last) e = absurd (false≢true (ap is_vote e))
    unmapped (vote a b) e = λ i. vote (term_in (e i)) (given (e i))
    unmapped (ack a i) e = absurd (false≢true (ap is_vote e))
    unmapped (reject a p h) e = absurd (false≢true (ap is_vote e))
    unmapped (here a) e = absurd (false≢true (ap is_vote e))

pub one_vote_ever : OneVote
unfolding OneVote
one_vote_ever many is least few low x y t i j who e f =
    let z = history_came many initial is 0 (first_world many) (omega arith) (start_came many least few) in
    let w : Theory = z.beside in
    let v : World = with_order (after many is) z.beside.order in
    let a = vote_flew many (0 + length is) (with_order (after many is) z.beside.order) z.beside z.joined x t i e in
    let b = vote_flew many (0 + length is) (with_order (after many is) z.beside.order) z.beside z.joined y t j f in
    one_vote (conf many) z.beside z.beside x.by_whom x.what.to y.what.to t z.joined.reach (runs_none (conf many) z.beside) a
    (subst (λ (h : ℕ). In (mail h y.what.to (vote t true)) z.beside.network) (sym who) b)

-- TERMS only rise
term_at : (n k : ℕ) (v : World) (w : Theory) → Joined n k v w → (h : ℕ) → h < n → (m : Model ℕ) × (At w h m) × (term_of (machine_at v.machines h) ≡ m.term)
term_at n k v w j h l =
    elim (cases_Bool (machine_at v.machines h).up) [
      | inl u ↦ (
        w.memory h,
        inl (sym (j.up h l) ∙ u, refl),
        ap (λ (b : Bool). (loaded (pick b (machine_at v.machines h).memory (machine_at v.machines h).stable)).term.0) u
            ∙ ((j.rests h l u).going.means (nth_value v.proposed) (agrees_self v.proposed)).term,
      )
      | inr u ↦ (
        restart (w.stable h),
        inr refl,
        ap (λ (b : Bool). (loaded (pick b (machine_at v.machines h).memory (machine_at v.machines h).stable)).term.0) u ∙ (j.safe h l).term,
      )
    ]

pub terms_ever : TermsLast
unfolding TermsLast
terms_ever many is js h least few low there =
    let z = history_came many initial is 0 (first_world many) (omega arith) (start_came many least few) in
    let z₀ : Came many (0 + length is) z.beside (after many is) = record { beside = z.beside; joined = z.joined; path = runs_none (conf many) z.beside; by = z.by } in
    let y = history_came many z.beside js (0 + length is) (after many is) (omega arith) z₀ in
    let a = term_at many (0 + length is) (with_order (after many is) z.beside.order) z.beside z.joined h there in
    let b = term_at many (0 + length is + length js) (with_order (history (after many is) js) y.beside.order) y.beside y.joined h there in
    omega (arith, a.2, b.2, terms_last (conf many) z.beside y.beside h a.0 b.0 z.joined.reach y.path a.1 b.1)
