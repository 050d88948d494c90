-- All four tests are joined in the order of the definition.
use Rattle.std.proofs.Common.{rules, ◌≡◌}
use Rattle.terms.specs.Truth.{◌⊓◌}
use Rattle.terms.specs.Numbers.{is_price, is_lots, is_number}
use Rattle.terms.specs.Options.{of_any}
use Rattle.refusal.proofs.rows.numbers_right.Goals as goal

pub returns : goal.returns
unfolding ◌⊓◌
returns c =
    let sized : c.is_none_or-sized.result ≡ of_any is_lots c.args.p.lots = search rules in
    let priced : c.is_none_or-priced.result ≡ of_any is_price c.args.p.price = search rules in
    let named : c.is_none_or-named.result ≡ of_any is_number c.args.p.number = search rules in
    rw (sized, priced, named, c.is_time-time.ensures)
