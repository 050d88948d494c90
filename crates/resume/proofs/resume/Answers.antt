-- Row 1 by the lengths, then what the bytes say.
use borrow.Author.Rules.{rules}
use Rattle.resume_law.proofs.Lays.{tables-long, short-tables, long-resumed}
use Rattle.resume.proofs.resume.Goals as goal

ruleset answers = (rules, tables-long, short-tables, long-resumed)

pub returns-then-not-is_long : goal.returns-then-not-is_long
returns-then-not-is_long c = search answers

pub rebuild-requires : goal.rebuild-requires
rebuild-requires c = search answers

pub returns : goal.returns
returns c = search answers
