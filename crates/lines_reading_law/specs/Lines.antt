-- Document 01, "Session lines": the line of settings, and of each event. A form is a line with # where a number stands.
use Rattle.std.specs.Prelude.{ℕ, List, [], ◌∷◌, ◌++◌}
use Rattle.std.specs.Option.{option_to_list}
use Rattle.terms.specs.declared.Category.{Category}
use Rattle.terms.specs.declared.Category.TheVariants.{Broad, Narrow, Sensitive, Energy, Metals, Precious, Gems, Other}
use Rattle.terms.specs.declared.Settings.{Settings}
use Rattle.terms.specs.declared.Side.{Side}
use Rattle.terms.specs.declared.Side.TheVariants.{Buy, Sell}
use Rattle.terms.specs.declared.Kind.{Kind}
use Rattle.terms.specs.declared.Kind.TheVariants.{Limit, Market}
use Rattle.terms.specs.declared.Life.{Life}
use Rattle.terms.specs.declared.Life.TheVariants.{AllDay, Ioc}
use Rattle.terms.specs.declared.Act.{Act}
use Rattle.terms.specs.declared.Act.TheVariants.{Enter, Withdraw, Under, Clock, Finish}
use Rattle.terms.specs.declared.Event.{Event}
use Rattle.terms.specs.Carried.{carries}
use Rattle.lines_text_law.specs.Text.{bytes}
use Rattle.lines_text_law.specs.Forms.{fill}
use Rattle.lines_text_law.specs.Reading.{LineOf}

-- ---- settings: "First `cat=gems base=10000 close=10000 settle=10000 tick=5 len=3600000 days=0 under=0`"

-- the categories by their names in "Slabs"
abbrev pub category_word : Category → List ℕ
category_word Broad = bytes "broad"
category_word Narrow = bytes "narrow"
category_word Sensitive = bytes "sensitive"
category_word Energy = bytes "energy"
category_word Metals = bytes "metals"
category_word Precious = bytes "precious"
category_word Gems = bytes "gems"
category_word Other = bytes "other"

unfoldable pub numbers_form : List ℕ
numbers_form = bytes " base=# close=# settle=# tick=# len=# days=# under=#\n"

abbrev pub settings_form : Category → List ℕ
settings_form c = bytes "cat=" ++ (category_word c ++ numbers_form)

abbrev pub settings_figures : Settings → List ℕ
settings_figures g = g.base ∷ g.close ∷ g.settle ∷ g.tick ∷ g.length ∷ g.days ∷ g.under ∷ []

unfoldable pub render_settings : Settings → List ℕ
render_settings g = fill (settings_form g.category) (settings_figures g)

-- ---- events: "then events as in the listing"

abbrev pub side_word : Side → List ℕ
side_word Buy = bytes "buy"
side_word Sell = bytes "sell"

-- "Market lines have no price"
abbrev pub order_form : Kind → Life → List ℕ
order_form (Limit price) AllDay = bytes " kind=limit life=day qty=# price=#\n"
order_form (Limit price) Ioc = bytes " kind=limit life=ioc qty=# price=#\n"
order_form Market AllDay = bytes " kind=market life=day qty=#\n"
order_form Market Ioc = bytes " kind=market life=ioc qty=#\n"

-- "under is `t=5 do=under price=900`; clock is `t=5 do=clock`"
abbrev pub act_form : Act → List ℕ
act_form (Enter o) = side_word o.side ++ order_form o.kind o.life
act_form (Withdraw number) = bytes "cancel id=#\n"
act_form (Under price) = bytes "under price=#\n"
act_form Clock = bytes "clock\n"
act_form (Finish settle) = bytes "close settle=#\n"

-- the numbers that stand in it: those that the act carries, an order's number, its lots, a price
abbrev pub act_figures : Act → List ℕ
act_figures a = option_to_list (carries a).number ++ (option_to_list (carries a).lots ++ option_to_list (carries a).price)

-- "t=# do=", with which every event line begins
abbrev pub act_head : List ℕ
act_head = bytes "t=# do="

abbrev pub event_form : Act → List ℕ
event_form a = act_head ++ act_form a

abbrev pub event_figures : Event → List ℕ
event_figures e = e.time ∷ act_figures e.act

unfoldable pub render_event : Event → List ℕ
render_event e = fill (event_form e.act) (event_figures e)

-- ---- which bytes are the line of which value

abbrev pub SettingsLine : Settings → List ℕ → Type 0
SettingsLine = LineOf render_settings settings_figures

abbrev pub EventLine : Event → List ℕ → Type 0
EventLine = LineOf render_event event_figures
