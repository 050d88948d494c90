-- One record is written, and the place behind it is one record further.
use Rattle.acts_law.proofs.Reports.{written_one}
use Rattle.acts_reports.proofs.telling.tell.Goals as goal

pub returns : goal.returns
returns c = search written_one
