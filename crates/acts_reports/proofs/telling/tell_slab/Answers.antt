-- Each return is one case: the percent is the old one and nothing is written, or one report of the new band is.
use Rattle.acts_law.proofs.Reports.{only_none, only_one, slab_one, alike, apart}
use borrow.Author.Rules.{rules}
use Rattle.acts_reports.proofs.telling.tell_slab.Goals as goal

ruleset answers = (rules, only_none, only_one, slab_one, alike, apart)

pub returns-then-percent_now : goal.returns-then-percent_now
returns-then-percent_now c = search answers
