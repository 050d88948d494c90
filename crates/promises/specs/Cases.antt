-- Document 01, "Proved small cases": one table, in which each row is a question and its answer.
use Rattle.std.specs.Prelude.{ℕ, ◌≡◌, Bool, cond, not, List, [], ◌∷◌}
use Rattle.terms.specs.declared.Settings.{Settings}
use Rattle.terms.specs.declared.Category.{Category}
use Rattle.terms.specs.declared.Category.TheVariants.{Sensitive, Gems}
use Rattle.terms.specs.declared.Side.{Side}
use Rattle.terms.specs.declared.Side.TheVariants.{Buy}
use Rattle.terms.specs.declared.Kind.TheVariants.{Limit}
use Rattle.terms.specs.declared.Life.TheVariants.{AllDay}
use Rattle.terms.specs.declared.Act.TheVariants.{Enter}
use Rattle.terms.specs.declared.Event.{Event}
use Rattle.terms.specs.declared.Order.{Order}
use Rattle.terms.specs.Refusals.{code_of}
use Rattle.rules_law.specs.Slabs.{slab_of}
use Rattle.rules_law.specs.Reference.{range_of, in_range}
use Rattle.rules_law.specs.Mark.{beyond_mark}
use Rattle.rules_law.specs.Close.{in_half_hour, close_price}
use Rattle.state_law.specs.Now.{band_now}
use Rattle.state_law.specs.Opening.{opened_session}
use Rattle.state_law.specs.Trades.{with_trades}
use Rattle.state_law.specs.Day.{opened}
use Rattle.engine_law.specs.Outcome.{outcome}
use Rattle.lines_reading_law.specs.Answers.{read_code, read_settings, read_event}

-- settings with this category, base and tick; previous close and settlement are the base, and no underlying is known
abbrev pub contract : Category → ℕ → ℕ → Settings
contract category base tick =
    record { category = category; base = base; close = base; settle = base; tick = tick; length = 3600000; days = 0; under = 0 }

-- what can be asked
pub data Question : Type 0 where
  -- the number of the refusal of a day's first order, a buy of one lot at that limit; 0 where it is accepted
  FirstBuy : Category → ℕ → ℕ → ℕ → Question
  -- the ends of the band at the opening
  BandOf : Category → ℕ → ℕ → Question
  -- whether a price is in range of a reference
  InRange : Category → ℕ → ℕ → Question
  -- the close price at this tick, after one-lot trades at these prices
  CloseAfter : ℕ → List ℕ → Question
  -- whether a trade at that time is in the half hour of a day of that length
  InHalfHour : ℕ → ℕ → Question
  -- whether a price is within the mark of a first trade
  WithinMark : Side → ℕ → ℕ → Question
  -- the answers to some bytes read as a line of settings and as a line of an event, by their numbers; 0 for a whole line
  Lines : List ℕ → Question

abbrev pub limit_buy : ℕ → Event
limit_buy price = record { time = 0; act = Enter (record { side = Buy; kind = Limit price; life = AllDay; lots = 1 }) }

abbrev pub one_lots : List ℕ → List Order
one_lots [] = []
one_lots (p ∷ ps) = record { number = 1; price = p; lots = 1 } ∷ one_lots ps

-- 1 for yes, 0 for no
abbrev pub yes : Bool → List ℕ
yes b = cond b 1 0 ∷ []

-- what the definitions answer
abbrev pub answer_to : Question → List ℕ
answer_to (FirstBuy category base tick price) = code_of (outcome (opened (contract category base tick)) (limit_buy price)).verdict ∷ []
answer_to (BandOf category base tick) =
    (band_now (opened_session (contract category base tick))).low ∷ (band_now (opened_session (contract category base tick))).high ∷ []
answer_to (InRange category reference price) = yes (in_range (range_of (slab_of category) reference) price)
answer_to (CloseAfter tick prices) = close_price tick tick (with_trades (opened_session (contract Gems tick tick)) (one_lots prices)).tape ∷ []
answer_to (InHalfHour length time) = yes (in_half_hour length time)
answer_to (WithinMark side first price) = yes (not (beyond_mark side first price))
answer_to (Lines bytes) = read_code (read_settings bytes) ∷ read_code (read_event bytes) ∷ []

pub record Case : Type 0 where
  pub asks : Question
  pub answer : List ℕ

abbrev pub case : Question → List ℕ → Case
case asks answer = record { asks = asks; answer = answer }

abbrev pub five_and_five : List ℕ
five_and_five = 100 ∷ 100 ∷ 100 ∷ 100 ∷ 100 ∷ 101 ∷ 101 ∷ 101 ∷ 101 ∷ 101 ∷ []

-- the table
abbrev pub small_cases : List Case
small_cases =
    case (FirstBuy Gems 10000 5 10300) (0 ∷ [])  -- P1
    ∷ case (FirstBuy Gems 10000 5 10305) (8 ∷ [])  -- P2
    ∷ case (FirstBuy Gems 10000 5 10307) (7 ∷ [])  -- P3
    ∷ case (BandOf Sensitive 1003 1) (973 ∷ 1033 ∷ [])  -- P4
    ∷ case (InRange Gems 10225 10375) (1 ∷ [])  -- P5
    ∷ case (InRange Gems 10225 10380) (0 ∷ [])  -- P6
    ∷ case (CloseAfter 1 five_and_five) (101 ∷ [])  -- P7
    ∷ case (InHalfHour 3600000 1800000) (1 ∷ [])  -- P8
    ∷ case (InHalfHour 3600000 1799999) (0 ∷ [])  -- P9
    ∷ case (WithinMark Buy 10150 10350) (1 ∷ [])  -- P10
    ∷ case (WithinMark Buy 10150 10355) (0 ∷ [])  -- P11
    ∷ case (Lines []) (14 ∷ 14 ∷ [])  -- P12
    ∷ []

-- the definitions answer each row as the table says
abbrev pub AllAnswered : List Case → Type 0
AllAnswered [] = Unit {0}
AllAnswered (c ∷ cs) = (answer_to c.asks ≡ c.answer) × AllAnswered cs

abbrev pub SmallCases : Type 0
SmallCases = AllAnswered small_cases
