-- An event of a machine that is up, beside the same input of the theory's world: whole, or cut short.
use Rattle.std.proofs.Common.{◌≡◌, ℕ, zero, suc, ◌+◌, ◌≤◌, Bool, true, false, ◌⊎◌, List, [], ◌∷◌, length, take, sym, refl, ap, ◌∙◌, subst, inl, inr, arith}
use Rattle.std.proofs.lemmas.List.{take_all}
use Rattle.std.proofs.lemmas.Bool.{false≢true}
use Rattle.raft_log.specs.Entries.{decided as decided_number}
use Rattle.raft.specs.Header.{loaded}
use Rattle.raft.specs.Outbox.{Mail as DueMail, mail_due}
use Rattle.protocol.specs.Lists.{upd, In, All, Begins}
use Rattle.protocol.specs.Log.{Log, term_at}
use Rattle.protocol.proofs.Updates.{upd_same, upd_other}
use Rattle.protocol.proofs.Lists.{begins_length}
use Rattle.machine.specs.Machine.{Machine, Out, Outcome, Input, Persistent, persist, decided}
use Rattle.machine.specs.Step.{step}
use Rattle.machine.specs.Maps.{map_machine, map_outcome}
use Rattle.machine.specs.World.{World as Theory, Mail, post, longer, Fate, whole, early, late, Item, input, Possible, Unchanged, Settles, Allowed, proposals_after, settled, next, Reachable}
use Rattle.machine.proofs.MapLogs.{term_map, log_length}
use Rattle.machine.proofs.Terms.{TermsBelow, terms_next}
use Rattle.machine.proofs.Steps.{runs_one, order_grows, step_decided}
use Rattle.machine.proofs.Sames.{same_log, step_extends}
use Rattle.join_several.specs.Stands.{conf}
use Rattle.join_several.specs.Does.{posted, Does}
use Rattle.together.specs.House.{pick, each, nth_value, Far, may_apply, far_after}
use Rattle.together.specs.Promise.{all_small, Letter as Wire, Ran, flown}
use Rattle.whole_several.proofs.Mails.{MailsFit, mail_fits}
use Rattle.whole_several.proofs.Acts.{Fit, safe, safe_still, safe_settled, settled_mail}
use Rattle.whole_several.proofs.Moved.{Moved, Became}
use Rattle.whole_several.proofs.Joined.{Agrees, Going, Rests, Safe, Carried, Boxes}
use Rattle.whole_several.proofs.Sent.{MailFits, as_wire, agrees_self, in_left, in_right, carried_all, boxes_all}
use Rattle.whole_several.proofs.Made.{made, made_settle, going_fit, going_decided, safe_going, Fine, made_fine}
use Rattle.whole_several.proofs.Views.{decided_is}

in_take : (h : ℕ) (k : ℕ) (os : List (Out ℕ)) (l : Mail) → In l (post h (take k os)) → In l (post h os)
unfolding post
in_take h zero os l i = absurd i
in_take h (suc k) [] l i = absurd i
in_take h (suc k) (o ∷ os) l (inl e) = inl e
in_take h (suc k) (o ∷ os) l (inr i) = inr (in_take h k os l i)

mails_all : (ls : List DueMail) → MailsFit ls → All MailFits ls
mails_all [] f = tt
mails_all (l ∷ ls) f = (f.1, mails_all ls f.2)

abbrev is_early : Fate → Bool
is_early (whole b) = false
is_early early = true
is_early (late b k) = false

-- machine h of n, which stands for x in the world w, gets the input e
module _
    (n h k : ℕ) (few : n ≤ 7) (w : Theory) (reach : Reachable (conf n) w) (terms : TermsBelow w k) (up : w.up h ≡ true) (e : Input ℕ) (possible : Possible w h e)
    (ps ps₁ : List (List ℕ)) (later : (g : ℕ → List ℕ) → Agrees g ps₁ → Agrees g ps)
    (m m₁ s : List ℕ) (f : Far) (r : Rests n h ps (w.memory h) m f) (safe-before : Safe n ps (w.stable h) s f) (ever : f.ever ≤ length w.order)
    (does : (g : ℕ → List ℕ) → Agrees g ps₁ → Does n h m m₁ (map_machine g (w.memory h)) (map_outcome g (step (conf n) h (w.memory h) e))) (small : all_small m₁ ≡ true) where
  abbrev d : Outcome ℕ
  d = step (conf n) h (w.memory h) e

  abbrev g₀ : ℕ → List ℕ
  g₀ = nth_value ps₁

  did : Does n h m m₁ (map_machine g₀ (w.memory h)) (map_outcome g₀ d)
  did = does g₀ (agrees_self ps₁)

  -- where memory is safe already, term and log are as they were
  pub unchanged : (loaded m₁).unsettled ≡ false → Unchanged (w.memory h) d.now
  unchanged u =
      let q = did.safe u in
      let long : length (w.memory h).log ≡ length d.now.log = sym (log_length g₀ (w.memory h).log) ∙ (ap (λ (l : Log (List ℕ)). length l) q.log ∙ log_length g₀ d.now.log) in
      record {
        term = q.term;
        log = same_log (conf n) w h e reach up possible long
            (λ i l. sym (term_map g₀ (w.memory h).log i) ∙ (ap (λ (y : Log (List ℕ)). term_at y i) q.log ∙ term_map g₀ d.now.log i));
      }

  settles : (b : Bool) → (loaded m₁).unsettled ≡ b → Settles b (w.memory h) d.now
  settles true u = tt
  settles false u = unchanged u

  -- memory goes on as the machine that the step makes
  pub going : Going n h ps₁ d.now m₁ f
  going =
      let g = r.going in
      let t = did.stands in
      let before = going_decided n h few ps (w.memory h) m f g in
      let now : decided_number m₁ ≡ length (decided d.now) = decided_is m₁ t.tidy d.now g₀ t.log t.commit in
      let more = step_extends (conf n) w h e reach up possible in
      record {
        means = λ v a. (does v a).stands;
        small = small;
        since = ap (λ (z : _). z.0) did.since ∙ g.since;
        turn = subst (λ (i : ℕ). may_apply f (i + 1) ≡ true) (sym did.applied) g.turn;
        low = omega (arith, g.low, did.applied);
        reach = omega (arith, g.reach, did.applied);
        last = λ l. g.last (omega (arith, did.applied)) ∙ sym did.applied;
      }

  abbrev fit : Fit m₁
  fit = going_fit n h few ps₁ d.now m₁ f going

  -- the order then
  abbrev o : List ℕ
  o = longer w.order (decided d.now)

  pub ordered : Begins (decided d.now) o
  ordered = step_decided (conf n) w h e reach up possible (whole true) (λ q. false≢true (ap is_early q))

  order_up : length w.order ≤ length o
  order_up = begins_length w.order o (order_grows (conf n) w (input h e (whole true)) reach (up, possible, tt))

  abbrev stable_then : Bool → List ℕ
  stable_then b = pick b (safe m₁ fit.long) s

  -- what the acts make
  pub acted : (b : Bool) → (loaded m₁).unsettled ≡ b → (i : ℕ) → Fine n h few ps₁ d.now o ordered (mail_due m₁) (stable_then b) f (made (suc i) m₁ s)
  acted true u i =
      let m₂ : List ℕ = safe m₁ fit.long in
      let z = made_fine n h few ps₁ d.now o ordered i (safe m₁ fit.long) (safe m₁ fit.long) f (safe_going n h few ps₁ d.now m₁ f fit going) (safe_settled m₁ fit.long) (omega (arith, ever, order_up)) in
      subst (λ (y : Ran). Fine n h few ps₁ d.now o ordered (mail_due m₁) (safe m₁ fit.long) f y) (sym (made_settle i m₁ s fit u))
      (subst (λ (ls : List DueMail). Fine n h few ps₁ d.now o ordered ls (safe m₁ fit.long) f (made i (safe m₁ fit.long) (safe m₁ fit.long))) (settled_mail m₁ fit.long) z)
  acted false u i = made_fine n h few ps₁ d.now o ordered (suc i) m₁ s f going u (omega (arith, ever, order_up))

  -- what is safe then
  safe_after : (b : Bool) → (loaded m₁).unsettled ≡ b → (f₁ : Far) → f.ever ≤ f₁.ever → Safe n ps₁ (pick b (persist d.now) (w.stable h)) (stable_then b) f₁
  safe_after true u f₁ l =
      let q = safe_still m₁ fit.long in
      let g = safe_going n h few ps₁ d.now m₁ f fit going in
      let t = g.means g₀ (agrees_self ps₁) in
      record {
        tidy = t.tidy;
        small = g.small;
        log = λ v a. (g.means v a).log;
        commit = t.commit;
        term = t.term;
        low = g.low;
        reach = omega (arith, g.reach);
      }
  safe_after false u f₁ l =
      let z = safe-before in
      record { tidy = z.tidy; small = z.small; log = λ v a. z.log v (later v a); commit = z.commit; term = z.term; low = z.low; reach = omega (arith, z.reach) }

  -- THE EVENT AS ITEMS: cut short after i acts, at least one
  module _ (i : ℕ) where
    abbrev b₀ : Bool
    b₀ = (loaded m₁).unsettled

    abbrev fine : Fine n h few ps₁ d.now o ordered (mail_due m₁) (stable_then b₀) f (made (suc i) m₁ s)
    fine = acted b₀ refl i

    abbrev r₁ : Ran
    r₁ = made (suc i) m₁ s

    -- the letters on the wire, in a world that has them
    sent_so : (w₁ : Theory) → ((l : Mail) → In l (post h (take fine.many d.sent)) → In l w₁.network) → All (Carried ps₁ w₁) (flown h r₁.flew)
    unfolding posted
    sent_so w₁ has =
        subst (λ (ls : _). All (Carried ps₁ w₁) (flown h ls)) (sym fine.flew)
        (carried_all h ps₁ w₁ fine.many (mail_due m₁) d.sent (λ v a. (does v a).sent) (mails_all (mail_due m₁) (mail_fits m₁ small)) has)

    abbrev cut_item : Item
    cut_item = input h e (late b₀ fine.many)

    abbrev cut_world : Theory
    cut_world = next (conf n) w cut_item

    cut_allowed : Allowed (conf n) w cut_item
    cut_allowed = (up, possible, settles b₀ refl)

    abbrev whole_item : Item
    whole_item = input h e (whole b₀)

    abbrev whole_world : Theory
    whole_world = next (conf n) w whole_item

    whole_allowed : Allowed (conf n) w whole_item
    whole_allowed = (up, possible, settles b₀ refl)

    stable_is : (x : Persistent ℕ) → settled b₀ d.now (w.stable h) ≡ pick b₀ (persist d.now) (w.stable h)
    stable_is x = by b₀
      where
        by : (b : Bool) → settled b d.now (w.stable h) ≡ pick b (persist d.now) (w.stable h)
        by true = refl
        by false = refl

    safe_so : Safe n ps₁ (upd w.stable h (settled b₀ d.now (w.stable h)) h) r₁.stable (far_after f r₁.did)
    safe_so =
        subst (λ (y : Persistent ℕ). Safe n ps₁ y r₁.stable (far_after f r₁.did)) (sym (upd_same w.stable h (settled b₀ d.now (w.stable h)) ∙ stable_is (w.stable h)))
        (subst (λ (y : List ℕ). Safe n ps₁ (pick b₀ (persist d.now) (w.stable h)) y (far_after f r₁.did)) (sym fine.stable) (safe_after b₀ refl (far_after f r₁.did) fine.onward))

    module _ (count : length ps₁ ≡ proposals_after w.proposals e) where
      -- cut short
      pub cut_moved : Moved n k h ps₁ f w r₁ false
      cut_moved =
          record {
            to = cut_world;
            path = runs_one (conf n) w cut_item cut_allowed;
            terms = terms_next (conf n) w cut_item k cut_allowed terms;
            proposals = count;
            others_up = λ j ne. upd_other w.up h false j ne;
            others_memory = λ j ne. refl;
            others_stable = λ j ne. upd_other w.stable h (settled b₀ d.now (w.stable h)) j ne;
            this_up = upd_same w.up h false;
            network = λ l q. in_left l w.network (post h (take fine.many d.sent)) q;
            grows = order_grows (conf n) w cut_item reach cut_allowed;
            turn = fine.turn;
            by = fine.by;
            ever = fine.ever;
            safe = safe_so;
            rests = λ q. absurd (false≢true q);
            flew = sent_so cut_world (λ l q. in_right l w.network (post h (take fine.many d.sent)) q);
          }

      -- whole
      pub whole_moved : r₁.end ≡ 0 → Moved n k h ps₁ f w r₁ true
      whole_moved ended =
          record {
            to = whole_world;
            path = runs_one (conf n) w whole_item whole_allowed;
            terms = terms_next (conf n) w whole_item k whole_allowed terms;
            proposals = count;
            others_up = λ j ne. refl;
            others_memory = λ j ne. upd_other w.memory h d.now j ne;
            others_stable = λ j ne. upd_other w.stable h (settled b₀ d.now (w.stable h)) j ne;
            this_up = up;
            network = λ l q. in_left l w.network (post h d.sent) q;
            grows = order_grows (conf n) w whole_item reach whole_allowed;
            turn = fine.turn;
            by = fine.by;
            ever = fine.ever;
            safe = safe_so;
            rests = λ q. subst (λ (y : Machine ℕ). Rests n h ps₁ y r₁.memory (far_after f r₁.did)) (sym (upd_same w.memory h d.now)) (at_rest fine.stays);
            flew = sent_so whole_world (λ l q. in_right l w.network (post h d.sent) (in_take h fine.many d.sent l q));
          }
        where
          at_rest : {P : Type 0} → (r₁.end ≡ 1000) ⊎ ((r₁.end ≡ 0) × P × Rests n h ps₁ d.now r₁.memory (far_after f r₁.did)) → Rests n h ps₁ d.now r₁.memory (far_after f r₁.did)
          at_rest (inl q) = absurd (omega (arith, q, ended))
          at_rest (inr q) = q.2

      -- all its letters flew
      whole_boxes : r₁.end ≡ 0 → (w₁ : Theory) → ((l : Mail) → In l (post h d.sent) → In l w₁.network) → Boxes ps₁ w₁ (flown h r₁.flew) (post h d.sent)
      unfolding posted
      whole_boxes ended w₁ has =
          subst (λ (ls : List Wire). Boxes ps₁ w₁ (flown h ls) (post h d.sent)) (sym (fine.flew ∙ ap (each as_wire) (take_all fine.many (mail_due m₁) (all_of fine.stays))))
          (boxes_all h ps₁ w₁ (mail_due m₁) d.sent (λ v a. (does v a).sent) (mails_all (mail_due m₁) (mail_fits m₁ small)) has)
        where
          all_of : {P : Type 0} → (r₁.end ≡ 1000) ⊎ ((r₁.end ≡ 0) × (length (mail_due m₁) ≤ fine.many) × P) → length (mail_due m₁) ≤ fine.many
          all_of (inl q) = absurd (omega (arith, q, ended))
          all_of (inr q) = q.1

      pub whole_became : r₁.end ≡ 0 → Became n k h ps₁ f w r₁ e
      unfolding whole_moved
      whole_became ended =
          record { moved = whole_moved ended; settles = b₀; is = refl; boxes = whole_boxes ended whole_world (λ l q. in_right l w.network (post h d.sent) q) }
