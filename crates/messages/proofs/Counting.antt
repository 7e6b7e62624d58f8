-- A letter that was read, with how many entries it has in their place.
use Rattle.std.proofs.Common.{◌≡◌, ℕ, ◌≤◌, true, List, length, drop, sym, ap, ◌∙◌, subst, arith}
use mathlib.Core.Option.{some}
use Rattle.raft_log.specs.Bytes.{Bytes}
use Rattle.raft_log.specs.Block.{Entry, block_entries, block_fits}
use Rattle.raft_log.proofs.BlockLaws.{entries_back, fits_back}
use Rattle.messages.specs.declared.Message.{Message}
use Rattle.messages.specs.declared.Message.TheVariants.{Append, AppendResponse, AppendReject, RequestVote, RequestVoteResponse, TermNotice}
use Rattle.messages.specs.Letter.{append, letter_bytes, letter_of}
use Rattle.messages.specs.Message.{letter_in, letter_at, HasBlock, counted}
use Rattle.messages.proofs.OneToOne.{one_to_one}

-- its entries stand in the block behind its numbers
module _ (bs : List ℕ) (b : Bytes bs) where
  block_at : (t p q k : ℕ) (es : List Entry) → letter_of bs ≡ some (append t p q k es) →
      (34 ≤ length bs) × (block_fits (drop 34 bs) (length es) ≡ true) × (es ≡ block_entries (drop 34 bs) (length es))
  unfolding letter_bytes
  block_at t p q k es h =
      let o = one_to_one bs (append t p q k es) b h in
      subst (λ (x : List ℕ). (34 ≤ length x) × (block_fits (drop 34 x) (length es) ≡ true) × (es ≡ block_entries (drop 34 x) (length es))) o.0
      (omega arith, fits_back es o.1.5 o.1.4, sym (entries_back es o.1.5))

  read_at : (r : Message (List Entry)) → letter_of bs ≡ some (letter_in r) → (letter_of bs ≡ some (letter_at bs (counted r))) × HasBlock bs (counted r)
  read_at (Append t p q k es) h =
      let e = block_at t.0 p.0 q.0 k.0 es h in
      (h ∙ ap (λ x. some (append t.0 p.0 q.0 k.0 x)) e.2, (e.0, e.1))
  read_at (AppendResponse t i) h = (h, tt)
  read_at (AppendReject t p k) h = (h, tt)
  read_at (RequestVote t i q) h = (h, tt)
  read_at (RequestVoteResponse t v) h = (h, tt)
  read_at (TermNotice t) h = (h, tt)

  pub counted_at : (r : Message (List Entry)) (s : Message ℕ) → s ≡ counted r → letter_of bs ≡ some (letter_in r) → (letter_of bs ≡ some (letter_at bs s)) × HasBlock bs s
  counted_at r s e h = subst (λ (x : Message ℕ). (letter_of bs ≡ some (letter_at bs x)) × HasBlock bs x) (sym e) (read_at r h)
