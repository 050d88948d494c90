-- The day of the descriptors that there are was kept.
use mathlib.Core.Path.{sym, ◌∙◌}
use Rattle.stream_law.proofs.Keeping.{opened_some}
use borrow.Author.Rules.{rules}
use Rattle.stream_keep.proofs.keep_both.Goals as goal

pub returns : goal.returns
returns c = opened_some (sym c.opened.ensures ∙ c.in-Some.is) (search rules)
