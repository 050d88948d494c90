-- Two slices may be too short; otherwise the bytes and the end are taken, and what they come to is written.
use borrow.Author.Rules.{rules}
use Rattle.desk_law.proofs.TextFeeds.{feed_no-run, feed_no-counts, feed_laid}
use Rattle.desk.proofs.texts.kakoludar_end.Goals as goal

ruleset answers = (rules, feed_no-run, feed_no-counts, feed_laid)

pub returns-then-run-lt-RUN : goal.returns-then-run-lt-RUN
returns-then-run-lt-RUN c = search answers

pub returns-then-counts-lt-COUNTS : goal.returns-then-counts-lt-COUNTS
returns-then-counts-lt-COUNTS c = search answers

pub returns : goal.returns
returns c = search answers
