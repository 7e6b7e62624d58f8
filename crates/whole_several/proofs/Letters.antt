-- A letter that comes goes right, whole or cut short.
use Rattle.std.proofs.Common.{◌≡◌, ℕ, zero, suc, ◌<◌, ◌≤◌, true, false, not, ◌&&◌, eqb, ltb, ◌≢◌, List, [], ◌∷◌, length, sym, refl, ap, ◌∙◌, subst, inl, inr, arith}
use mathlib.Core.Option.{Option as Maybe, none, some}
use Rattle.std.proofs.lemmas.Bool.{ltb-true, eq-eqb, and_parts, cases_Bool, cond-true, cond-false, not-true, false≢true}
use Rattle.messages.specs.Letter.{Letter as Message, letter_of}
use Rattle.raft.specs.Header.{loaded}
use Rattle.raft.specs.Receive.{another, taken_by_term, received_from_another}
use Rattle.protocol.specs.Lists.{In, All}
use Rattle.machine.specs.Machine.{receive, Input, event}
use Rattle.machine.specs.World.{World as Theory, mail}
use Rattle.together.specs.House.{none_of, nth_value}
use Rattle.together.specs.Promise.{came, next, Ran, ran, runs, are_bytes, Machine, machine_at, Flown, flown_at, World, delivers, to_whom, event_for, before, with_proposal, may_end}
use Rattle.together_several.specs.Machine.{go_on, letter_come, own_step}
use Rattle.together_several.specs.Entry.{own}
use Rattle.whole_several.proofs.Steady.{kept_received}
use Rattle.whole_several.proofs.Joined.{Carried, Joined}
use Rattle.whole_several.proofs.Moved.{Moved}
use Rattle.whole_several.proofs.Sent.{agrees_self}
use Rattle.whole_several.proofs.Inputs.{letter_does}
use Rattle.whole.proofs.Plans.{run_none, quiet_ends}
use Rattle.whole_several.proofs.Events.{enough, run_made, RightThing, up, fit_now, stopped, stayed, idle, event_cut, event_whole, event_ended, event_silent, nothing_later}

on_letter : (m : List ℕ) (f : ℕ) (bs : List ℕ) (o : Maybe Message) → letter_come bs ≡ o → own.step m (came f bs) ≡ own.step (received_from_another m f o) next
unfolding own own_step
on_letter m f bs o e = ap (λ (l : Maybe Message). go_on (received_from_another m f l)) e

-- a letter of none of the others
received_none : (m : List ℕ) (f : ℕ) (l : Message) → another (loaded m) f ≡ false → received_from_another m f (some l) ≡ m
unfolding received_from_another
received_none m f l ne = cond-false (another (loaded m) f) (taken_by_term m (loaded m) f l) m ne

-- machine h of the world, which is up
module _ (n k : ℕ) (v : World) (w : Theory) (j : Joined n k v w) (low : k ≤ 8589934592) (h : ℕ) (there : h < n) (is_up : (machine_at v.machines h).up ≡ true) where
  abbrev x : Machine
  x = machine_at v.machines h

  abbrev ps : List (List ℕ)
  ps = v.proposed

  -- A LETTER, which is one on the wire
  module _ (i : ℕ) (to : (flown_at v.wire i).what.to ≡ h) (carried : Carried ps w (flown_at v.wire i)) where
    abbrev f : ℕ
    f = (flown_at v.wire i).by_whom

    abbrev bs : List ℕ
    bs = (flown_at v.wire i).what.bytes

    come : letter_come bs ≡ some carried.message
    come = cond-true (are_bytes bs) (letter_of bs) none carried.bytes ∙ carried.reads

    abbrev m₁ : List ℕ
    m₁ = received_from_another x.memory f (some carried.message)

    changes : own.step x.memory (came f bs) ≡ own.step m₁ next
    changes = on_letter x.memory f bs (some carried.message) come

    -- how it goes
    record LetterGoes : Type 0 where
      whole : Moved n k h ps x.how_it_got w (runs enough own x.memory x.stable (came f bs) [] [] []) true
      over : (runs enough own x.memory x.stable (came f bs) [] [] []).end ≡ 0
      silent : (runs enough own x.memory x.stable (came f bs) [] [] []).showed ≡ []
      cut : (i : ℕ) → Moved n k h ps x.how_it_got w (runs (suc i) own x.memory x.stable (came f bs) [] [] []) false

    -- from none of the others it changes nothing
    ignored : another (loaded x.memory) f ≡ false → LetterGoes
    ignored ne =
        let same_memory : m₁ ≡ x.memory = unchanged ne in
        let goes : (a : ℕ) → runs (suc a) own x.memory x.stable (came f bs) [] [] [] ≡ ran x.memory x.stable [] [] [] 0 =
        λ a. run_made a (came f bs) x.memory x.memory x.stable (fit_now n k v w j low h there is_up) (changes ∙ ap (λ (y : List ℕ). own.step y next) same_memory) ∙ idle n k v w j low h there is_up a in
        record {
          whole = subst (λ (r : Ran). Moved n k h ps x.how_it_got w r true) (sym (goes 4105)) (stayed n k v w j low h there is_up [] 0);
          over = ap (λ (r : Ran). r.end) (goes 4105);
          silent = ap (λ (r : Ran). r.showed) (goes 4105);
          cut = λ a. subst (λ (r : Ran). Moved n k h ps x.how_it_got w r false) (sym (goes a)) (stopped n k v w j low h there is_up x.memory [] 0);
        }
      where
        unchanged : another (loaded x.memory) f ≡ false → m₁ ≡ x.memory
        unchanged ne = received_none x.memory f carried.message ne

    taken_up : another (loaded x.memory) f ≡ true → LetterGoes
    taken_up is =
        let t = (j.rests h there is_up).going.means (nth_value ps) (agrees_self ps) in
        let both = and_parts (ltb f (loaded x.memory).size.0) (not (eqb f (loaded x.memory).id.0)) is in
        let sender : f < n = omega (arith, ltb-true f (loaded x.memory).size.0 both.0, t.size) in
        let other : f ≢ h = λ e. false≢true (sym (not-true (eqb f (loaded x.memory).id.0) both.1) ∙ eq-eqb f (loaded x.memory).id.0 (e ∙ sym t.self)) in
        let flew : In (mail f h carried.letter) w.network = subst (λ (a : ℕ). In (mail f a carried.letter) w.network) to carried.flew in
        let does = letter_does n h j.few there w j.reach (up n k v w j low h there is_up) ps x.memory (j.rests h there is_up).going.means (j.rests h there is_up).quiet f sender other carried.letter flew carried.message carried.fits carried.means in
        let small = (kept_received x.memory f carried.message carried.fits).small (j.rests h there is_up).going.small in
        let e : Input ℕ = event (receive f carried.letter) in
        record {
          whole = event_whole n k v w j low h there is_up (event (receive f carried.letter)) flew m₁ (came f bs) changes ps (nothing_later n k v w j low h there is_up) j.proposals does small;
          over = event_ended n k v w j low h there is_up (event (receive f carried.letter)) flew m₁ (came f bs) changes ps (nothing_later n k v w j low h there is_up) j.proposals does small;
          silent = event_silent n k v w j low h there is_up (event (receive f carried.letter)) flew m₁ (came f bs) changes ps (nothing_later n k v w j low h there is_up) j.proposals does small;
          cut = event_cut n k v w j low h there is_up (event (receive f carried.letter)) flew m₁ (came f bs) changes ps (nothing_later n k v w j low h there is_up) j.proposals does small;
        }

    letter_goes : LetterGoes
    letter_goes = elim (cases_Bool (another (loaded x.memory) f)) [ inl is ↦ taken_up is | inr ne ↦ ignored ne ]

    letter_cuts : (a : ℕ) → Moved n k h ps x.how_it_got w (runs a own x.memory x.stable (came f bs) [] [] []) false
    letter_cuts zero = subst (λ (r : Ran). Moved n k h ps x.how_it_got w r false) (sym (run_none own x.memory x.stable (came f bs))) (stopped n k v w j low h there is_up x.memory [] 1000)
    letter_cuts (suc a) = letter_goes.cut a

    letter_ends : (eqb (runs enough own x.memory x.stable (came f bs) [] [] []).end 0 && none_of (runs enough own x.memory x.stable (came f bs) [] [] []).showed) ≡ true
    letter_ends = quiet_ends (runs enough own x.memory x.stable (came f bs) [] [] []) letter_goes.over letter_goes.silent

-- A LETTER on the wire comes to the machine that it was sent to
carried_at : (ps : List (List ℕ)) (w : Theory) (ls : List Flown) (i : ℕ) → All (Carried ps w) ls → i < length ls → Carried ps w (flown_at ls i)
unfolding flown_at
carried_at ps w [] i h l = absurd (omega arith)
carried_at ps w (y ∷ ys) zero h l = h.0
carried_at ps w (y ∷ ys) (suc i) h l = carried_at ps w ys i h.1 (omega arith)

module _ (n k : ℕ) (v : World) (w : Theory) (j : Joined n k v w) (low : k ≤ 8589934592) where
  pub letter_right : (i : ℕ) → i < length v.wire → (there : (flown_at v.wire i).what.to < n) → (is_up : (machine_at v.machines (flown_at v.wire i).what.to).up ≡ true) →
      RightThing n k v w (delivers i)
  unfolding to_whom event_for before with_proposal may_end
  letter_right i l there is_up =
      let h : ℕ = (flown_at v.wire i).what.to in
      let c = carried_at v.proposed w v.wire i j.wire l in
      record {
        here = there;
        whole = (letter_goes n k v w j low (flown_at v.wire i).what.to there is_up i refl c).whole;
        ends = letter_ends n k v w j low (flown_at v.wire i).what.to there is_up i refl c;
        cut = letter_cuts n k v w j low (flown_at v.wire i).what.to there is_up i refl c;
      }
