-- What `all` answers of a slice is whether every size of it is sound.
use mathlib.Core.Path.{◌∙◌}
use borrow.Author.Rules.{rules}
use borrow.Author.Tests.{tests}
use Rattle.std.proofs.lemmas.Iterator.{YieldsList-from_slice}
use Rattle.std.proofs.lemmas.Iterator.Search.{all_from_yields_List}
use Rattle.terms.specs.Numbers.{is_lots}
use Rattle.soundness_law.proofs.Lists.{every_all}
use Rattle.soundness.proofs.numbers.sizes_sound.Goals as goal

pub returns : goal.returns
returns c =
    all_from_yields_List is_lots _ _ _ c.all.ensures.ran (YieldsList-from_slice c.args.lots.now cc) (λ x b q k. search (rules, tests))
    ∙ every_all is_lots c.args.lots.now
