use Rattle.std.proofs.Common.{◌≡◌, length, arith, rules}
use Rattle.raft_log.specs.Layout.{memory_words}
use Rattle.raft_log.proofs.LogLaws.{last_most}
use Rattle.raft_log.proofs.TakeLaws.{room_read}
use Rattle.raft_log.proofs.accept.has_room.Goals as goal

pub overflow_add-entries : goal.overflow_add-entries
overflow_add-entries c = omega (arith, last_most c.args.memory.now, c.requires.known)

pub returns-then-entries-le-MAX_ENTRIES : goal.returns-then-entries-le-MAX_ENTRIES
returns-then-entries-le-MAX_ENTRIES c =
    let long : length c.args.memory.now ≡ memory_words = omega arith in
    let e = room_read c.args.memory.now c.args.index.0 c.args.block.now c.args.start long c.requires.known in
    search rules

pub returns-else-entries-le-MAX_ENTRIES : goal.returns-else-entries-le-MAX_ENTRIES
returns-else-entries-le-MAX_ENTRIES c =
    let long : length c.args.memory.now ≡ memory_words = omega arith in
    let e = room_read c.args.memory.now c.args.index.0 c.args.block.now c.args.start long c.requires.known in
    search rules
