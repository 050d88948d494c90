-- Document 01, "Events": matching, the reports of trades, and the remainder.
use Rattle.std.specs.Prelude.{ℕ, ◌-◌, Bool, true, false, cond, ◌&&◌, not, List, [], ◌∷◌, leb, ltb, eqb}
use Rattle.terms.specs.declared.Side.{Side}
use Rattle.terms.specs.declared.Side.TheVariants.{Buy, Sell}
use Rattle.terms.specs.declared.Kind.{Kind}
use Rattle.terms.specs.declared.Kind.TheVariants.{Limit, Market}
use Rattle.terms.specs.declared.Life.{Life}
use Rattle.terms.specs.declared.Life.TheVariants.{AllDay, Ioc}
use Rattle.terms.specs.declared.Order.{Order}
use Rattle.terms.specs.declared.Band.{Band}
use Rattle.terms.specs.declared.Deal.{Deal}
use Rattle.terms.specs.declared.Why.TheVariants.{Immediate, OutOfRange, OutsideBand}
use Rattle.terms.specs.declared.Report.{Report}
use Rattle.terms.specs.declared.Said.{Said}
use Rattle.terms.specs.declared.Said.TheVariants.{Trade, Convert, Cancel}
use Rattle.rules_law.specs.declared.Range.{Range}
use Rattle.rules_law.specs.Reference.{in_range}
use Rattle.rules_law.specs.Mark.{beyond_mark}
use Rattle.rules_law.specs.Slabs.{in_band}
use Rattle.book_law.specs.declared.Fate.{Fate}
use Rattle.book_law.specs.declared.Fate.TheVariants.{Done, Rests, Turns, Ends}
use Rattle.book_law.specs.Priority.{insert}

-- ---- matching

-- the order that comes in, with the range in which it may trade
pub record Taker : Type 0 where
  pub side : Side
  pub kind : Kind
  pub range : Range

abbrev pub taker : Side → Kind → Range → Taker
taker side kind range = record { side = side; kind = kind; range = range }

-- "the best counter order fits the limit": a buy's limit is at least the counter price, a sell's at most
abbrev pub fits_limit : Side → ℕ → ℕ → Bool
fits_limit Buy limit price = leb price limit
fits_limit Sell limit price = leb limit price

-- a market order has no limit
abbrev pub fits : Side → Kind → ℕ → Bool
fits side (Limit limit) price = fits_limit side limit price
fits side Market price = true

-- "market, already traded, and beyond its mark": `first` is the price of its first trade, 0 before it
abbrev pub beyond : Side → Kind → ℕ → ℕ → Bool
beyond side (Limit limit) first price = false
beyond side Market first price = not (eqb first 0) && beyond_mark side first price

-- the price of the order's first trade, once it has traded at this price
abbrev pub first_after : ℕ → ℕ → ℕ
first_after first price = cond (eqb first 0) price first

-- a part of an order, of so many lots: what it trades, or what it keeps
abbrev pub part : Order → ℕ → Order
part o lots = record { number = o.number; price = o.price; lots = lots }

-- what a sweep comes to: the parts of counter orders that traded, best first; the counter orders afterwards; the lots left of the
-- incoming order; and whether the sweep ended because the next price was out of range
pub record Swept : Type 0 where
  pub fills : List Order
  pub rest : List Order
  pub left : ℕ
  pub out : Bool

-- the sweep ends here without a further trade
abbrev pub stopped : Bool → ℕ → List Order → Swept
stopped out lots os = record { fills = []; rest = os; left = lots; out = out }

-- the first counter order has more lots than the incoming order has left: it trades these and keeps the others
abbrev pub cut_short : ℕ → Order → List Order → Swept
cut_short lots o os = record { fills = part o lots ∷ []; rest = part o (o.lots - lots) ∷ os; left = 0; out = false }

-- the first counter order trades all its lots, and the sweep goes on
abbrev pub taken_whole : Order → Swept → Swept
taken_whole o w = record { fills = o ∷ w.fills; rest = w.rest; left = w.left; out = w.out }

-- "While lots remain and the best counter order fits the limit: out of range: cancel the remainder, why 3; market, already traded,
-- and beyond its mark: stop ...; else trade", at the resting price. Every order is tested for the range before the mark.
unfoldable pub sweep : Taker → ℕ → ℕ → List Order → Swept
sweep q first lots [] = stopped false lots []
sweep q first lots (o ∷ os) =
    cond (eqb lots 0) (stopped false lots (o ∷ os))
    (cond (not (fits q.side q.kind o.price)) (stopped false lots (o ∷ os))
    (cond (not (in_range q.range o.price)) (stopped true lots (o ∷ os))
    (cond (beyond q.side q.kind first o.price) (stopped false lots (o ∷ os))
    (cond (ltb lots o.lots) (cut_short lots o os)
    (taken_whole o (sweep q (first_after first o.price) (lots - o.lots) os))))))

-- ---- the reports of the trades

abbrev pub report_at : ℕ → Said → Report
report_at time said = record { time = time; said = said }

-- the trade of the incoming order `number` on that side with a counter order, of which f is the part that traded
abbrev pub deal_of : Side → ℕ → Order → Deal
deal_of Buy number f = record { buy = number; sell = f.number; lots = f.lots; price = f.price }
deal_of Sell number f = record { buy = f.number; sell = number; lots = f.lots; price = f.price }

-- a trade report for each fill, all with the event's time
unfoldable pub trade_reports : ℕ → Side → ℕ → List Order → List Report
trade_reports time side number [] = []
trade_reports time side number (f ∷ fs) = report_at time (Trade (deal_of side number f)) ∷ trade_reports time side number fs

-- ---- the remainder

-- "at its own last trade price; if it had none", at the price given instead
unfoldable pub own_last_or : ℕ → List Order → ℕ
own_last_or other [] = other
own_last_or other (f ∷ fs) = own_last_or f.price fs

-- "ioc is cancelled, why 2. A day limit rests. A day market order becomes a limit at its own last trade price ... If that price is
-- outside the band it is cancelled, why 4."
abbrev pub fate_of_left : Life → Kind → Band → ℕ → Fate
fate_of_left Ioc kind band price = Ends Immediate
fate_of_left AllDay (Limit limit) band price = Rests limit
fate_of_left AllDay Market band price = cond (in_band band price) (Turns price) (Ends OutsideBand)

-- "out of range: cancel the remainder, why 3". `last` is the session's last trade price, "else ... previous settlement".
unfoldable pub fate_of : Life → Kind → Band → ℕ → Swept → Fate
fate_of life kind band last w =
    cond (eqb w.left 0) Done
    (cond w.out (Ends OutOfRange) (fate_of_left life kind band (own_last_or last w.fills)))

-- a remainder that rests, or turns into a limit, takes its place among the orders of its own side
abbrev pub settled : Side → ℕ → ℕ → Fate → List Order → List Order
settled side number left Done os = os
settled side number left (Rests price) os = insert side (record { number = number; price = price; lots = left }) os
settled side number left (Turns price) os = insert side (record { number = number; price = price; lots = left }) os
settled side number left (Ends why) os = os

-- "then convert or cancel"
abbrev pub fate_reports : ℕ → ℕ → ℕ → Fate → List Report
fate_reports time number left Done = []
fate_reports time number left (Rests price) = []
fate_reports time number left (Turns price) = report_at time (Convert (record { number = number; price = price; lots = left })) ∷ []
fate_reports time number left (Ends why) = report_at time (Cancel (record { number = number; lots = left; why = why })) ∷ []
