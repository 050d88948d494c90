-- The writer's line is printed, and the count is how many bytes it wrote.
use borrow.Author.Rules.{rules}
use Rattle.feed_law.proofs.Prints.{writes_prints}
use Rattle.feed_law.specs.Texts.{refused_text}
use Rattle.feed_prints.proofs.printing.tell_refused.Goals as goal

pub returns : goal.returns
unfolding refused_text
returns c = writes_prints (search rules) c.write_refused.ensures _ c.unwrap_or.ensures
