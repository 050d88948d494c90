-- What an act carries, listed once: the rows of the table are tests of these parts.
use Rattle.std.specs.Prelude.{ℕ, Option, Some, None, true, false}
use Rattle.terms.specs.declared.Act.{Act}
use Rattle.terms.specs.declared.Act.TheVariants.{Enter, Withdraw, Under, Clock, Finish}
use Rattle.terms.specs.declared.Kind.{Kind}
use Rattle.terms.specs.declared.Kind.TheVariants.{Limit, Market}
use Rattle.terms.specs.declared.parts.Parts.{Parts}

-- the limit price of an order; a market order has none
abbrev pub limit_of : Kind → Option ℕ
limit_of (Limit price) = Some price
limit_of Market = None

abbrev pub carries : Act → Parts
carries (Enter n) =
    record {
      entry = Some n;
      number = None;
      lots = Some n.lots;
      price = limit_of n.kind;
      ticked = limit_of n.kind;
      limit = limit_of n.kind;
      closes = false;
    }
carries (Withdraw number) = record { entry = None; number = Some number; lots = None; price = None; ticked = None; limit = None; closes = false }
carries (Under price) = record { entry = None; number = None; lots = None; price = Some price; ticked = None; limit = None; closes = false }
carries Clock = record { entry = None; number = None; lots = None; price = None; ticked = None; limit = None; closes = false }
carries (Finish settle) = record { entry = None; number = None; lots = None; price = Some settle; ticked = Some settle; limit = None; closes = true }
