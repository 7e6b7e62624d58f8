use Rattle.std.proofs.Common.{◌≡◌, ◌+◌, ◌-◌, take, arith, rules}
use Rattle.std.proofs.lemmas.List.{length-take-le}
use Rattle.raft_log.specs.Bytes.{eight}
use Rattle.raft_log.proofs.ByteLaws.{part_laid}
use Rattle.raft_log.proofs.values.put_part.Goals as goal

pub returns : goal.returns
returns c =
    let e : c.copy_from_slice.new.self ≡ take c.args.count (eight c.args.word) = search rules in
    part_laid c.args.out.now c.args.at (c.args.at + c.args.count - c.args.at) c.copy_from_slice.new.self (take c.args.count (eight c.args.word))
    e (omega (arith, length-take-le c.args.count (eight c.args.word) (omega arith)))
