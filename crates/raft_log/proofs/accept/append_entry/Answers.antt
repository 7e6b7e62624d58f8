use Rattle.std.proofs.Common.{◌≡◌, ◌+◌, List, ℕ, length, drop, ap, ◌∙◌, arith}
use Rattle.raft_log.specs.Layout.{memory_words}
use Rattle.raft_log.specs.View.{entry_in}
use Rattle.raft_log.specs.Accept.{entry_taken, entries_fit}
use Rattle.raft_log.proofs.TakeLaws.{entry_room, value_slot, taken_empty, taken_value, rest_room, short_none, short_some}
use Rattle.raft_log.proofs.accept.append_entry.Goals as goal

pub push_value-requires : goal.push_value-requires
push_value-requires c = (
  entry_room c.args.memory.now c.args.block.now c.args.i c.requires.within c.requires.room,
  (value_slot c.args.memory.now c.args.block.now c.args.i c.requires.within c.requires.room c.in-Some.value.now c.in-Some.ensures.0, c.in-Some.ensures.1),
)

pub push_empty-requires : goal.push_empty-requires
push_empty-requires c = entry_room c.args.memory.now c.args.block.now c.args.i c.requires.within c.requires.room

pub returns-in-Some : goal.returns-in-Some
returns-in-Some c =
    let e = taken_value c.args.memory.now (entry_in c.args.block.now c.args.i) c.in-Some.value.now c.in-Some.ensures.0 in
    let taken : c.push_value.new.memory ≡ entry_taken c.args.memory.now (entry_in c.args.block.now c.args.i) = cc in
    let long : length c.args.memory.now ≡ memory_words = omega arith in
    record {
      taken = taken;
      room =
          ap (λ (m : List ℕ). entries_fit m (drop (c.args.i + 1) c.args.block.now)) taken
          ∙ rest_room c.args.memory.now c.args.block.now c.args.i c.requires.within c.requires.room
          (short_some (entry_in c.args.block.now c.args.i).content c.in-Some.value.now c.in-Some.ensures.0 c.in-Some.ensures.1) long;
    }

pub returns-in-None : goal.returns-in-None
returns-in-None c =
    let e = taken_empty c.args.memory.now (entry_in c.args.block.now c.args.i) c.in-None.ensures in
    let taken : c.push_empty.new.memory ≡ entry_taken c.args.memory.now (entry_in c.args.block.now c.args.i) = cc in
    let long : length c.args.memory.now ≡ memory_words = omega arith in
    record {
      taken = taken;
      room =
          ap (λ (m : List ℕ). entries_fit m (drop (c.args.i + 1) c.args.block.now)) taken
          ∙ rest_room c.args.memory.now c.args.block.now c.args.i c.requires.within c.requires.room
          (short_none (entry_in c.args.block.now c.args.i).content c.in-None.ensures) long;
    }
