use Rattle.std.proofs.Common.{◌≡◌, true, take}
use Rattle.together.specs.Promise.{are_bytes}
use Rattle.together_several.proofs.several.see_bytes.Given as goal

abbrev pub invariant-loop-byte : goal.invariant-loop-byte
invariant-loop-byte l = are_bytes (take l.byte-index l.bytes) ≡ true
