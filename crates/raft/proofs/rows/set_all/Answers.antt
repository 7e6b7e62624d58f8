use Rattle.std.proofs.Common.{arith, rules}
use Rattle.raft.specs.Rows.{row_at}
use Rattle.raft.proofs.RowLaws.{within, row_is}
use Rattle.raft.proofs.rows.set_all.Goals as goal

pub returns : goal.returns
returns c =
    let e = c.set_row.ensures in
    row_is c.args.memory.now c.set_row.new.memory (row_at c.args.row) (λ _. c.args.word) (omega (arith, within c.args.row))
    (record { long = e.long; said = λ j l. let w = e.said j l in search rules; kept = e.kept })
