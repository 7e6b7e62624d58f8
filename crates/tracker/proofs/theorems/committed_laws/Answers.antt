use Rattle.tracker.proofs.Rows.{committed_rises}
use Rattle.tracker.proofs.theorems.committed_laws.Goals as goal

pub returns : goal.returns
returns c = record { rises = committed_rises }
