use Rattle.std.proofs.Common.{refl}
use Rattle.together.specs.House.{every, any, those, none_of}
use Rattle.together.specs.Entry.{HalfSays}
use Rattle.together.proofs.Rows.{half_is}
use Rattle.together.proofs.half_rows.Goals as goal

pub returns : goal.returns
unfolding HalfSays every any those none_of
returns c =
    record {
      five = half_is _ _ (2, refl, refl, refl, refl);
      one = half_is _ _ (5, refl, refl, refl, refl);
      two = half_is _ _ (3, refl, refl, refl, refl);
      none = half_is _ _ refl;
    }
