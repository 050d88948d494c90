-- Document 01, "Book and report room" and "Events": the numbers of report kinds and of reasons.
use Rattle.std.specs.Prelude.{ℕ}
use Rattle.terms.specs.declared.Said.{Said}
use Rattle.terms.specs.declared.Said.TheVariants.{Accept, Trade, Convert, Cancel, Slab, Ref, Close}
use Rattle.terms.specs.declared.Why.{Why}
use Rattle.terms.specs.declared.Why.TheVariants.{Asked, Immediate, OutOfRange, OutsideBand, DayEnd}

-- "Kinds: 1 accept, 2 trade, 3 convert, 4 cancel, 5 slab, 6 ref, 7 close"
abbrev pub kind_of : Said → ℕ
kind_of (Accept number) = 1
kind_of (Trade deal) = 2
kind_of (Convert order) = 3
kind_of (Cancel ended) = 4
kind_of (Slab band) = 5
kind_of (Ref price) = 6
kind_of (Close closing) = 7

-- "Cancel removes a resting order, why 1"; "ioc is cancelled, why 2"; "out of range: cancel the remainder, why 3"; "If that price
-- is outside the band it is cancelled, why 4"; close "cancels all, ... why 5"
abbrev pub why_of : Why → ℕ
why_of Asked = 1
why_of Immediate = 2
why_of OutOfRange = 3
why_of OutsideBand = 4
why_of DayEnd = 5
