use Rattle.std.proofs.Common.{◌≡◌, ◌∷◌, take}
use Rattle.std.specs.List.{flat_map}
use Rattle.raft_log.specs.Bytes.{eight, laid}
use Rattle.messages.specs.Kind.{kind_byte}
use Rattle.messages.proofs.encoder.put_numbers.Given as goal

abbrev pub invariant-loop-i : goal.invariant-loop-i
invariant-loop-i g l = l.out ≡ laid l.fn.out 0 (kind_byte l.fn.kind ∷ flat_map eight (take l.i l.numbers))
