use Rattle.std.proofs.Common.{refl}
use Rattle.tracker.specs.Majority.{reached}
use Rattle.tracker.proofs.Rows.{committed_is, committed_none}
use Rattle.tracker.proofs.theorems.committed_rows.Goals as goal

pub returns : goal.returns
unfolding reached
returns c =
    record {
      five = committed_is _ 2 0 refl;
      one = committed_is _ 5 0 refl;
      two = committed_is _ 3 0 refl;
      none = committed_none;
      m009 = committed_is _ 5 1 refl;
      m010 = committed_is _ 6 2 refl;
      m015 = committed_is _ 103 2 refl;
      m016 = committed_is _ 102 1 refl;
    }
