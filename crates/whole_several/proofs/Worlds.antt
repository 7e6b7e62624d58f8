-- Whatever happens leaves the world joined with one of the theory.
use Rattle.std.proofs.Common.{◌≡◌, ℕ, suc, ◌<◌, ◌≤◌, Bool, true, false, not, ◌&&◌, ltb, leb, length, arith}
use Rattle.std.proofs.lemmas.Bool.{ltb-true, and_parts, not-true}
use Rattle.machine.specs.World.{World as Theory}
use Rattle.together.specs.House.{every, propose, how_far, small_command}
use Rattle.together.specs.Promise.{machine_at, flown_at, World, Thing, power, says, delivers, ticks, proper, thing_ran}
use Rattle.together_several.specs.Entry.{own}
use Rattle.whole.proofs.Kept.{WholeKept, CutKept}
use Rattle.whole_several.proofs.Joined.{Joined}
use Rattle.whole_several.proofs.Moved.{moved_right, moved_joined}
use Rattle.whole_several.proofs.Events.{enough, RightThing, tick_right}
use Rattle.whole_several.proofs.Commands.{how_far_right, propose_right}
use Rattle.whole_several.proofs.Letters.{letter_right}
use Rattle.whole_several.proofs.Powers.{power_right}
use Rattle.whole.proofs.Orders.{machine_here}

-- THE INVARIANT: the world is joined with a world of the theory
abbrev pub Good : ℕ → ℕ → World → Type 0
Good n k v = (w : Theory) × Joined n k v w

module _ (n k : ℕ) (v : World) (w : Theory) (j : Joined n k v w) (low : k ≤ 8589934592) where
  here : (h : ℕ) (u : Bool) → (ltb h (length v.machines) && u) ≡ true → (h < n) × (u ≡ true)
  here h u p = machine_here v.machines n h u j.number p

  pub thing_right : (t : Thing) → proper v t ≡ true → RightThing n k v w t
  unfolding proper small_command
  thing_right (power h) p = let q = here h (not (machine_at v.machines h).up) p in power_right n k v w j h q.0 (not-true (machine_at v.machines h).up q.1)
  thing_right (says h (propose c)) p =
      let a = and_parts (ltb h (length v.machines) && (machine_at v.machines h).up) (leb (length c) 4096 && every (λ b. ltb b 256) c) p in
      let q = here h (machine_at v.machines h).up a.0 in
      propose_right n k v w j low h q.0 q.1 c (and_parts (leb (length c) 4096) (every (λ b. ltb b 256) c) a.1).1
  thing_right (says h how_far) p =
      let q = here h (machine_at v.machines h).up (and_parts (ltb h (length v.machines) && (machine_at v.machines h).up) (small_command how_far) p).0 in
      how_far_right n k v w j low h q.0 q.1
  thing_right (delivers i) p =
      let a = and_parts (ltb i (length v.wire) && ltb (flown_at v.wire i).what.to (length v.machines)) (machine_at v.machines (flown_at v.wire i).what.to).up p in
      let b = and_parts (ltb i (length v.wire)) (ltb (flown_at v.wire i).what.to (length v.machines)) a.0 in
      letter_right n k v w j low i (ltb-true i (length v.wire) b.0) (omega (arith, ltb-true (flown_at v.wire i).what.to (length v.machines) b.1, j.number)) a.1
  thing_right (ticks h) p = let q = here h (machine_at v.machines h).up p in tick_right n k v w j low h q.0 q.1

  pub whole_kept : (t : Thing) → proper v t ≡ true → WholeKept own (Good n (suc k)) v t
  whole_kept t p =
      let z = thing_right t p in
      record {
        acts = enough;
        order = z.whole.to.order;
        ends = z.ends;
        right = moved_right n k v w j t (thing_ran enough own v t) true z.here z.whole;
        kept = (z.whole.to, moved_joined n k v w j t (thing_ran enough own v t) true z.here z.whole);
      }

  pub cut_kept : (t : Thing) (i : ℕ) → proper v t ≡ true → CutKept own (Good n (suc k)) v t i
  cut_kept t i p =
      let z = thing_right t p in
      record {
        order = (z.cut i).to.order;
        right = moved_right n k v w j t (thing_ran i own v t) false z.here (z.cut i);
        kept = ((z.cut i).to, moved_joined n k v w j t (thing_ran i own v t) false z.here (z.cut i));
      }
