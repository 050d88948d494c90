-- The settings open a session or are refused.
use borrow.Author.Rules.{rules}
use Rattle.resume_law.proofs.Lays.{no-buys, no-sells, settings-fine, settings-turned}
use Rattle.resume.proofs.from_settings.Goals as goal

ruleset answers = (rules, no-buys, no-sells, settings-fine, settings-turned)

pub from_opening-requires : goal.from_opening-requires
from_opening-requires c = search answers

pub returns-in-Ok : goal.returns-in-Ok
returns-in-Ok c = search answers

pub returns-in-Err : goal.returns-in-Err
returns-in-Err c = search answers
