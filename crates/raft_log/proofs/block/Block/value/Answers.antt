use Rattle.std.proofs.Common.{◌≡◌, ◌≢◌, arith}
use Rattle.raft_log.specs.Block.{row_code}
use Rattle.raft_log.proofs.BlockSeen.{seen_length, seen_few, seen_table, seen_row, seen_empty, seen_value, seen_within}
use Rattle.raft_log.proofs.block.Block.value.Goals as goal

pub entry_code-requires : goal.entry_code-requires
entry_code-requires c = (seen_row c.args.self.now c.self.inside.bytes.now c.self.inside.count c.self.view_is c.self.invariant c.args.i c.requires).1

pub returns-then-entry_code-eq0 : goal.returns-then-entry_code-eq0
returns-then-entry_code-eq0 c =
    let z : row_code c.self.inside.bytes.now c.args.i ≡ 0 = omega arith in
    seen_empty c.args.self.now c.self.inside.bytes.now c.self.inside.count c.self.view_is c.self.invariant c.args.i c.requires z

pub value_offset-start-requires : goal.value_offset-start-requires
value_offset-start-requires c =
    let n = seen_length c.args.self.now c.self.inside.bytes.now c.self.inside.count c.self.view_is c.self.invariant in (
      seen_few c.args.self.now c.self.inside.bytes.now c.self.inside.count c.self.view_is c.self.invariant,
      (seen_table c.args.self.now c.self.inside.bytes.now c.self.inside.count c.self.view_is c.self.invariant, omega (arith, n, c.requires)),
    )

pub entry_length-requires : goal.entry_length-requires
entry_length-requires c = (seen_row c.args.self.now c.self.inside.bytes.now c.self.inside.count c.self.view_is c.self.invariant c.args.i c.requires).1

pub overflow_add-result : goal.overflow_add-result
overflow_add-result c =
    omega (arith, seen_within c.args.self.now c.self.inside.bytes.now c.self.inside.count c.self.view_is c.self.invariant c.args.i c.requires)

pub slice_bounds-result-end : goal.slice_bounds-result-end
slice_bounds-result-end c =
    omega (arith, seen_within c.args.self.now c.self.inside.bytes.now c.self.inside.count c.self.view_is c.self.invariant c.args.i c.requires)

pub returns : goal.returns
returns c =
    let ne : row_code c.self.inside.bytes.now c.args.i ≢ 0 = omega arith in
    seen_value c.args.self.now c.self.inside.bytes.now c.self.inside.count c.self.view_is c.self.invariant c.args.i c.requires
    c.value_offset-start.result c.entry_length.result c.value_offset-start.ensures.is c.entry_length.ensures.is ne
