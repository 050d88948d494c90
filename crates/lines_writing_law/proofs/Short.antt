-- The lines of settings, events and reports are no longer than a line room.
use Prim.Native.Nat.{◌≤◌}
use native.Mathlib.Omega.{arith}
use mathlib.Core.List.{◌++◌}
use lib.ListN.{length}
use Rattle.terms.specs.declared.Act.{Act}
use Rattle.terms.specs.declared.Act.TheVariants.{Enter, Withdraw, Under, Clock, Finish}
use Rattle.terms.specs.declared.Category.{Category}
use Rattle.terms.specs.declared.Category.TheVariants.{Broad, Narrow, Sensitive, Energy, Metals, Precious, Gems, Other}
use Rattle.terms.specs.declared.Event.{Event}
use Rattle.terms.specs.declared.Kind.{Kind}
use Rattle.terms.specs.declared.Kind.TheVariants.{Limit, Market}
use Rattle.terms.specs.declared.Life.{Life}
use Rattle.terms.specs.declared.Life.TheVariants.{AllDay, Ioc}
use Rattle.terms.specs.declared.Report.{Report}
use Rattle.terms.specs.declared.Said.{Said}
use Rattle.terms.specs.declared.Said.TheVariants.{Accept, Trade, Convert, Cancel, Slab, Ref, Close}
use Rattle.terms.specs.declared.Settings.{Settings}
use Rattle.terms.specs.declared.Side.{Side}
use Rattle.terms.specs.declared.Side.TheVariants.{Buy, Sell}
use Rattle.terms.specs.Sizes.{line_room}
use Rattle.lines_text_law.specs.Forms.{longest}
use Rattle.lines_text_law.proofs.Fills.{fill-length}
use Rattle.lines_reading_law.specs.Lines.{act_head, side_word, order_form, event_form, event_figures, render_event, numbers_form, settings_form, settings_figures, render_settings}
use Rattle.lines_writing_law.specs.Lines.{report_form, report_figures, render_report}

order-short : (side : Side) (kind : Kind) (life : Life) → longest (act_head ++ (side_word side ++ order_form kind life)) ≤ line_room
unfolding longest
order-short Buy (Limit price) AllDay = omega arith
order-short Buy (Limit price) Ioc = omega arith
order-short Buy Market AllDay = omega arith
order-short Buy Market Ioc = omega arith
order-short Sell (Limit price) AllDay = omega arith
order-short Sell (Limit price) Ioc = omega arith
order-short Sell Market AllDay = omega arith
order-short Sell Market Ioc = omega arith

act-short : (a : Act) → longest (event_form a) ≤ line_room
unfolding longest
act-short (Enter n) = order-short n.side n.kind n.life
act-short (Withdraw number) = omega arith
act-short (Under price) = omega arith
act-short Clock = omega arith
act-short (Finish settle) = omega arith

pub event-short : (e : Event) → length (render_event e) ≤ line_room
unfolding render_event
event-short e = omega (arith, fill-length (event_form e.act) (event_figures e), act-short e.act)

category_short : (c : Category) → longest (settings_form c) ≤ line_room
unfolding longest numbers_form
category_short Broad = omega arith
category_short Narrow = omega arith
category_short Sensitive = omega arith
category_short Energy = omega arith
category_short Metals = omega arith
category_short Precious = omega arith
category_short Gems = omega arith
category_short Other = omega arith

pub settings-short : (g : Settings) → length (render_settings g) ≤ line_room
unfolding render_settings
settings-short g = omega (arith, fill-length (settings_form g.category) (settings_figures g), category_short g.category)

said-short : (s : Said) → longest (report_form s) ≤ line_room
unfolding longest
said-short (Accept number) = omega arith
said-short (Trade d) = omega arith
said-short (Convert o) = omega arith
said-short (Cancel e) = omega arith
said-short (Slab b) = omega arith
said-short (Ref price) = omega arith
said-short (Close c) = omega arith

pub report_short : (p : Report) → length (render_report p) ≤ line_room
unfolding render_report
report_short p = omega (arith, fill-length (report_form p.said) (report_figures p), said-short p.said)
