-- What `all` answers of a slice is whether every price of it is sound.
use mathlib.Core.Path.{◌∙◌}
use borrow.Author.Rules.{rules}
use borrow.Author.Tests.{tests}
use Rattle.std.proofs.lemmas.Iterator.{YieldsList-from_slice}
use Rattle.std.proofs.lemmas.Iterator.Search.{all_from_yields_List}
use Rattle.soundness_law.specs.Sound.{price_sound}
use Rattle.soundness_law.proofs.Lists.{every_all}
use Rattle.soundness.proofs.numbers.prices_sound.Goals as goal

pub returns : goal.returns
returns c =
    all_from_yields_List (price_sound c.args.tick) _ _ _ c.all.ensures.ran (YieldsList-from_slice c.args.prices.now cc) (λ x b q k. search (rules, tests))
    ∙ every_all (price_sound c.args.tick) c.args.prices.now
