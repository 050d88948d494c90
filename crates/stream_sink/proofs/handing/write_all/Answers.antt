-- Before each turn the first bytes were handed on; a sink that is shut ends it.
use Rattle.stream_law.proofs.Writes.{writing_start, writing_ends, writing_on, writing_stops, writing_fits, writing_less}
use borrow.Author.Rules.{rules}
use Rattle.stream_sink.proofs.handing.write_all.Goals as goal

ruleset answers = (rules, writing_start, writing_ends, writing_on, writing_stops, writing_fits, writing_less)

pub loop-at-init : goal.loop-at-init
loop-at-init c = search answers

pub returns-then-not-is_open : goal.returns-then-not-is_open
returns-then-not-is_open c = search answers

pub loop-at-preserved : goal.loop-at-preserved
loop-at-preserved c = search answers
