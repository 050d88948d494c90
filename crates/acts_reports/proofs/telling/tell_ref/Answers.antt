-- Each return is one case: the value is the old one and nothing is written, or one report is.
use Rattle.acts_law.proofs.Reports.{only_none, only_one}
use borrow.Author.Rules.{rules}
use Rattle.acts_reports.proofs.telling.tell_ref.Goals as goal

ruleset answers = (rules, only_none, only_one)

pub returns-then-old-reference : goal.returns-then-old-reference
returns-then-old-reference c = search answers
