use Rattle.std.proofs.Common.{refl}
use Rattle.raft_log.specs.Conflict.{is_up_to_date}
use Rattle.raft_log.proofs.cases.up_to_date_cases.Goals as goal

pub returns : goal.returns
unfolding is_up_to_date
returns c = record { L012 = refl; L013 = refl; L014 = refl; L015 = refl; L016 = refl; L017 = refl; L018 = refl; L019 = refl; L020 = refl }
