-- What came so far stands in the buffer, and the source has led there.
use Rattle.stream_source.proofs.Fills.{fill_start, fill_on, fill-fits, fill-there, fill-ends, fill_fails, fill_full}
use borrow.Author.Rules.{rules}
use Rattle.stream_source.proofs.fill.Goals as goal

ruleset answers = (rules, fill_start, fill_on, fill-fits, fill-there, fill-ends, fill_fails, fill_full)

pub loop-at-preserved : goal.loop-at-preserved
loop-at-preserved c = search answers
