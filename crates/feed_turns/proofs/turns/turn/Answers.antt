-- One arm for each place at which the run can stand: settings are due, an event is due, or nothing is.
use borrow.Author.Rules.{rules}
use Rattle.feed_law.proofs.Taking.{most_awaiting, most_trading, turn_settings, turn_event, turn_over}
use Rattle.feed_turns.proofs.turns.turn.Goals as goal

ruleset answers = (rules, most_awaiting, most_trading, turn_settings, turn_event, turn_over)

pub returns-in-Awaiting : goal.returns-in-Awaiting
returns-in-Awaiting c = search answers

pub returns-in-Trading : goal.returns-in-Trading
returns-in-Trading c = search answers
