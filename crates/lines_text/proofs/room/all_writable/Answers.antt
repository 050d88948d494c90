-- The call goes through the numbers as the definition does.
use mathlib.Core.Path.{◌∙◌}
use Rattle.std.proofs.Common.{rules, tests}
use Rattle.std.proofs.lemmas.Iterator.{YieldsList-from_slice}
use Rattle.std.proofs.lemmas.Iterator.Search.{all_from_yields_List}
use Rattle.lines_text_law.proofs.Fills.{writable, writable-all}
use Rattle.lines_text.proofs.room.all_writable.Goals as goal

pub returns : goal.returns
returns c =
    let ns = c.args.numbers.now in
    all_from_yields_List writable _ _ _ c.all.ensures.ran (YieldsList-from_slice ns cc) (λ x b q k. search (rules, tests)) ∙ writable-all ns
