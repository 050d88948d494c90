-- Each return is one case: something lent is too short, or the lines are taken.
use Rattle.feed_law.proofs.Calls.{took_none, took_lines}
use borrow.Author.Rules.{rules}
use Rattle.feed.proofs.lines.take_lines.Goals as goal

ruleset answers = (rules, took_none, took_lines)

pub returns-then-not-is_roomy : goal.returns-then-not-is_roomy
returns-then-not-is_roomy c = search answers

pub returns : goal.returns
returns c = search answers
