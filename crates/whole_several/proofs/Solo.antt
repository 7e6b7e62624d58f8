-- One machine alone, in calm: it comes to lead, and then what is proposed is decided and applied at once.
use Rattle.std.proofs.Common.{◌≡◌, ℕ, ◌+◌, ◌-◌, ◌<◌, ◌≤◌, Bool, true, ◌&&◌, eqb, leb, ◌≢◌, List, [], ◌∷◌, ◌++◌, length, get_or, sym, refl, ap, ◌∙◌, subst, inl, inr, arith}
use mathlib.Core.Option.{some}
use Rattle.std.proofs.lemmas.List.{length_push, get_or_push}
use Rattle.std.proofs.lemmas.Bool.{le-leb, eq-eqb, and_parts, and_from, cases_Bool, cases_eq, false≢true}
use Rattle.raft_log.specs.Entries.{value_fits}
use Rattle.raft.specs.declared.header.Role.{Role as Kind}
use Rattle.raft.specs.declared.header.Role.TheVariants.{Follower, Candidate, Leader}
use Rattle.raft.specs.Header.{loaded}
use Rattle.protocol.specs.Log.{entry, decisions}
use Rattle.protocol.proofs.Decisions.{decisions_none, decisions_some, decisions-++}
use Rattle.protocol.proofs.Lists.{begins_at}
use Rattle.machine.specs.Machine.{Machine as Model, Outcome, proposal, decided}
use Rattle.machine.specs.Maps.{map_machine}
use Rattle.machine.specs.World.{World as Theory, initial}
use Rattle.machine.proofs.Alone.{own_proposed, alone_proposal}
use Rattle.machine.proofs.Counts.{counts}
use Rattle.machine.proofs.Steps.{runs_trans, decided_up}
use Rattle.join_several.specs.Stands.{conf, RoleStands, Stands}
use Rattle.together.specs.House.{every, any, same, propose, Applied, Far, got_to, far_after, nth_value, by_order}
use Rattle.together.specs.Promise.{last_since, are_bytes, said, Ran, runs, Machine, machine_at, set_machine, World, world, Flown, says, to_whom, event_for, before, thing_ran, rounds, all_got, most_applied, proposing, Takes, Calm}
use Rattle.together_several.specs.Entry.{own}
use Rattle.whole_several.proofs.Joined.{Joined}
use Rattle.whole_several.proofs.Moved.{Became, became_now}
use Rattle.together.proofs.Lists.{or_left, or_right, any_later}
use Rattle.whole.proofs.Orders.{nth_last}
use Rattle.whole_several.proofs.Sent.{agrees_self}
use Rattle.whole_several.proofs.Events.{enough}
use Rattle.whole_several.proofs.Commands.{full_why, taken_became, taken_over}
use Rattle.whole_several.proofs.Lone.{is_leader, Leads}
use Rattle.whole_several.proofs.Worlds.{Good}
use Rattle.whole_several.proofs.Rounds.{rests_since, decided_all, alone, Lives, rests, model_up, within_log, most_of_one, leader_since, order_within, waits}
use Rattle.whole_several.proofs.Proposed.{leader_takes}
use Rattle.whole.proofs.Orders.{up_alone, one_machine}
use Rattle.whole.proofs.Orders.{got_alone}

-- WHAT WAS APPLIED LAST was applied as the order has it
module _ (ps : List (List ℕ)) (o : List ℕ) (k : ℕ) (v : List ℕ) (is : nth_value ps (get_or o (k - 1) 0) ≡ v) where
  abbrev pub is_it : Applied → Bool
  is_it a = eqb a.index k && same a.value v

  pub last_did : (f : Far) (as₁ : List Applied) → every (by_order ps o) as₁ ≡ true → last_since (far_after f as₁).since ≡ k → last_since f.since ≢ k → any is_it as₁ ≡ true
  unfolding every any far_after last_since
  last_did f [] by e ne = absurd (ne e)
  last_did f (a ∷ as₁) by e ne =
      let b = and_parts (by_order ps o a) (every (by_order ps o) as₁) by in
      elim (cases_eq a.index k) [
        | inl q ↦ or_left (is_it a) (any is_it as₁) (this q b.0)
        | inr q ↦ or_right (is_it a) (any is_it as₁) (last_did (got_to f a.index) as₁ b.1 e q)
      ]
    where
      this : a.index ≡ k → by_order ps o a ≡ true → is_it a ≡ true
      this q b =
          let s = (and_parts (leb 1 a.index && leb a.index (length o)) (same a.value (nth_value ps (get_or o (a.index - 1) 0))) b).1 in
          let u : nth_value ps (get_or o (a.index - 1) 0) ≡ v = ap (λ (i : ℕ). nth_value ps (get_or o (i - 1) 0)) q ∙ is in
          and_from (eqb a.index k) (same a.value v) (eq-eqb a.index k q) (subst (λ (y : List ℕ). same a.value y ≡ true) u s)

-- a memory that stands for a leader leads
pub leads_memory : (n h : ℕ) (m : List ℕ) (x : Model ℕ) (g : ℕ → List ℕ) → Stands n h m (map_machine g x) → Leads x → (loaded m).role ≡ Leader
leads_memory n h m x g s l = by (loaded m).role s.role
  where
    by : (t : Kind) → RoleStands n m t (map_machine g x) → t ≡ Leader
    by (Follower e b) q = absurd (false≢true (ap is_leader (sym q.role ∙ l.role)))
    by (Candidate e) q = absurd (false≢true (ap is_leader (sym q.role ∙ l.role)))
    by Leader q = refl

-- WHAT IS PROPOSED to a leader that is alone
module _ (ps : List (List ℕ)) (fs : List Flown) (k : ℕ) (x : Machine) (ds : List Applied) (w : Theory) (z : Lives ps fs k x ds w) (low : k ≤ 8589934592) (leads : Leads (w.memory 0))
    (room : length ps < 4096) where
  abbrev y : Model ℕ
  y = w.memory 0

  abbrev values_now : List ℕ
  values_now = decisions (w.memory 0).log

  abbrev many : ℕ
  many = length (decisions (w.memory 0).log)

  -- all that was ever applied
  most_low : most_applied (alone ps fs x w.order ds) ≤ many
  most_low = omega (arith, most_of_one ps fs k x ds w z, order_within ps fs k x ds w z)

  role_now : (loaded x.memory).role ≡ Leader
  role_now = leads_memory 1 0 x.memory y (nth_value ps) ((rests ps fs k x ds w z).going.means (nth_value ps) (agrees_self ps)) leads

  module _ (v : List ℕ) (short : length v ≤ 256) (bytes : are_bytes v ≡ true) where
    abbrev args : Ran
    args = runs enough own x.memory x.stable (said (propose v)) [] [] []

    fits : value_fits x.memory (length v) ≡ true
    unfolding machine_at
    fits =
        elim (cases_Bool (value_fits x.memory (length v))) [
          | inl f ↦ f
          | inr f ↦ absurd (omega (arith, full_why 1 k (alone ps fs x w.order ds) w z.joined low 0 (omega arith) z.up v bytes f short))
        ]

    became : Became 1 k 0 (ps ++ v ∷ []) x.how_it_got w args (proposal w.proposals)
    unfolding machine_at
    became =
        taken_became 1 k (alone ps fs x w.order ds) w z.joined low 0 (omega arith) z.up v bytes role_now fits (leader_takes x.memory v short role_now fits)

    over : args.end ≡ 0
    unfolding machine_at
    over = taken_over 1 k (alone ps fs x w.order ds) w z.joined low 0 (omega arith) z.up v bytes role_now fits (leader_takes x.memory v short role_now fits)

    -- the theory's machine then has it as its last value, and holds all for decided
    abbrev then : Theory
    then = became.moved.to

    now_is : then.memory 0 ≡ own_proposed y w.proposals leads.acked leads.nexts
    now_is =
        let few : many < 4096 = omega (arith, (counts (conf 1) w 0 y z.joined.reach (inl (model_up ps fs k x ds w z, refl))).0, z.joined.proposals) in
        became_now 1 k 0 (ps ++ v ∷ []) x.how_it_got w args (proposal w.proposals) became
        ∙ ap (λ (d : Outcome ℕ). d.now)
        (alone_proposal (conf 1) refl refl y w.proposals leads.acked leads.nexts leads.role few (within_log ps fs k x ds w z))

    decided_then : decided (then.memory 0) ≡ values_now ++ w.proposals ∷ []
    decided_then =
        ap decided now_is
        ∙ (decided_all (own_proposed y w.proposals leads.acked leads.nexts) refl
        ∙ (decisions-++ y.log (entry y.term (some w.proposals) ∷ [])
        ∙ ap (λ (vs : List ℕ). values_now ++ vs) (decisions_some (entry y.term (some w.proposals)) [] w.proposals refl ∙ ap (λ (vs : List ℕ). w.proposals ∷ vs) decisions_none)))

    abbrev far_then : Far
    far_then = far_after x.how_it_got args.did

    far_on : last_since far_then.since ≡ many + 1
    far_on =
        rests_since 1 0 (omega arith) (ps ++ v ∷ []) (then.memory 0) args.memory far_then (became.moved.rests refl)
        ∙ (ap (λ (vs : List ℕ). length vs) decided_then ∙ length_push values_now w.proposals)

    -- and so has the order
    order_has : nth_value (ps ++ v ∷ []) (get_or then.order (many + 1 - 1) 0) ≡ v
    order_has =
        let at : many + 1 - 1 ≡ many = omega arith in
        let more : many < length (decided (then.memory 0)) = omega (arith, ap (λ (vs : List ℕ). length vs) decided_then, length_push values_now w.proposals) in
        let ordered = decided_up (conf 1) then 0 (runs_trans (conf 1) initial w then z.joined.reach became.moved.path) became.moved.this_up in
        let there : get_or then.order many 0 ≡ length ps =
        sym (begins_at 0 (decided (then.memory 0)) then.order many more ordered)
        ∙ (ap (λ (vs : List ℕ). get_or vs many 0) decided_then ∙ (get_or_push values_now w.proposals 0 many refl ∙ sym z.joined.proposals)) in
        ap (λ (i : ℕ). nth_value (ps ++ v ∷ []) (get_or then.order i 0)) at ∙ (ap (nth_value (ps ++ v ∷ [])) there ∙ nth_last ps v)

    -- so it was applied
    applied_it : any (λ a. eqb a.index (many + 1) && same a.value v) (ds ++ args.did) ≡ true
    applied_it =
        any_later (is_it (ps ++ v ∷ []) then.order (many + 1) v order_has) ds args.did
        (last_did (ps ++ v ∷ []) then.order (many + 1) v order_has x.how_it_got args.did became.moved.by far_on
        (λ e. omega (arith, leader_since ps fs k x ds w z leads)))

    -- the world then, whatever order it notes
    module _ (o : List ℕ) where
      abbrev Got : World → Type 0
      Got u = (all_got u (many + 1) ≡ true) × (any (λ a. eqb a.index (many + 1) && same a.value v) u.all_did ≡ true)

      ended : (thing_ran enough own (alone ps fs x o ds) (says 0 (propose v))).end ≡ 0
      unfolding to_whom event_for before machine_at
      ended = over

      got_it : Got (rounds 0 enough own (length fs) (proposing enough own (alone ps fs x o ds) 0 v))
      unfolding rounds to_whom event_for before machine_at set_machine every
      got_it = (
        and_from (leb (many + 1) (last_since far_then.since)) true (le-leb (many + 1) (last_since far_then.since) (omega (arith, far_on))) refl,
        applied_it,
      )

  takes : (o : List ℕ) → Takes own enough (alone ps fs x o ds)
  unfolding Takes machine_at
  takes o =
      (0, z.up, λ v short bs. (enough, 0, many + 1, ended v short bs o, omega (arith, most_low), (got_it v short bs o).0, (got_it v short bs o).1))

-- CALM
module _ (ps : List (List ℕ)) (fs : List Flown) where
  -- what any ever got to, a leader has applied since its start
  leader_got : (k : ℕ) (x : Machine) (ds : List Applied) (w : Theory) (o : List ℕ) (i : ℕ) → Lives ps fs k x ds w → Leads (w.memory 0) → i ≤ length w.order → all_got (alone ps fs x o ds) i ≡ true
  leader_got k x ds w o i z l b = got_alone x fs ps o ds i (omega (arith, leader_since ps fs k x ds w z l, order_within ps fs k x ds w z))

  calm_lone : (k : ℕ) (x : Machine) (o : List ℕ) (ds : List Applied) (w : Theory) → k ≤ 4294967296 → Joined 1 k (alone ps fs x o ds) w → Calm own (alone ps fs x o ds)
  unfolding Calm
  calm_lone k x o ds w low j e =
      let u = up_alone x fs ps o ds e in
      let z : Lives ps fs k x ds w = record { joined = subst (λ (p : List ℕ). Joined 1 k (alone ps fs x p ds) w) j.order j; up = u } in
      let t = waits ps fs 10 k x ds w o (omega arith) z (inr (omega arith)) in (
        enough,
        10,
        subst (λ (v : World). all_got v (most_applied (alone ps fs x o ds)) ≡ true) (sym t.is)
            (leader_got (k + 10) t.x₁ t.ds₁ t.w₁ o (most_applied (alone ps fs x o ds)) t.lives t.leads (omega (arith, most_of_one ps fs k x ds w z, t.order))),
        λ room. subst (λ (v : World). Takes own enough v) (sym t.is) (takes ps fs (k + 10) t.x₁ t.ds₁ t.w₁ t.lives (omega arith) t.leads room o),
      )

-- one machine alone goes on in calm
pub calm_alone : (k : ℕ) (v : World) → k ≤ 4294967296 → Good 1 k v → Calm own v
calm_alone k v low g =
    one_machine (λ ms. Joined 1 k (world ms v.wire v.proposed v.order v.all_did) g.0 → Calm own (world ms v.wire v.proposed v.order v.all_did)) v.machines g.1.number
    (λ x. calm_lone v.proposed v.wire k x v.order v.all_did g.0 low) g.1
