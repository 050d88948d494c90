-- The ref report is written behind the slab report, where there is one.
use Rattle.acts_law.specs.Acts.{clock_reports}
use Rattle.acts_law.proofs.Reports.{only_leaves, only_then}
use borrow.Author.Rules.{rules}
use Rattle.acts_reports.proofs.telling.tell_clock.Goals as goal

ruleset answers = (rules, only_leaves, only_then)

pub returns : goal.returns
unfolding clock_reports
returns c = search answers
