-- Document 01, "Session lines": the lines that are written and never read: those of reports, and the program's own.
use Rattle.std.specs.Prelude.{ℕ, List, [], ◌∷◌, ◌++◌, take}
use Rattle.std.specs.Option.{option_to_list}
use Rattle.terms.specs.declared.Entry.{Entry}
use Rattle.terms.specs.declared.Said.{Said}
use Rattle.terms.specs.declared.Said.TheVariants.{Accept, Trade, Convert, Cancel, Slab, Ref, Close}
use Rattle.terms.specs.declared.Report.{Report}
use Rattle.terms.specs.declared.Refusal.{Refusal}
use Rattle.tables.specs.Records.{fields_of}
use Rattle.terms.specs.Refusals.{number_of}
use Rattle.terms.specs.Carried.{limit_of}
use Rattle.lines_text_law.specs.Text.{bytes}
use Rattle.lines_text_law.specs.Forms.{fill, holes}

-- ---- orders: the numbers of an order's line

abbrev pub order_figures : ℕ → Entry → List ℕ
order_figures time o = time ∷ o.lots ∷ option_to_list (limit_of o.kind)

-- ---- reports: "fields are time, kind, then order numbers, lots, paise or reason"

abbrev pub said_form : Said → List ℕ
said_form (Accept number) = bytes "accept id=#\n"
said_form (Trade deal) = bytes "trade buy=# sell=# qty=# price=#\n"
said_form (Convert order) = bytes "convert id=# qty=# price=#\n"
said_form (Cancel ended) = bytes "cancel id=# qty=# why=#\n"
said_form (Slab band) = bytes "slab low=# high=#\n"
said_form (Ref price) = bytes "ref price=#\n"
said_form (Close closing) = bytes "close price=# base=#\n"

-- the numbers of a report's line: the fields of its record, one for each # of its form
abbrev pub said_figures : Said → List ℕ
said_figures s = take (holes (said_form s)) (fields_of s)

-- "t=# say=", with which every report line begins
abbrev pub said_head : List ℕ
said_head = bytes "t=# say="

abbrev pub report_form : Said → List ℕ
report_form s = said_head ++ said_form s

abbrev pub report_figures : Report → List ℕ
report_figures r = r.time ∷ said_figures r.said

unfoldable pub render_report : Report → List ℕ
render_report r = fill (report_form r.said) (report_figures r)

-- ---- the program's own lines

-- "A refused event prints `t=5 say=refuse code=8` with its own time"
abbrev pub refused_figures : ℕ → Refusal → List ℕ
refused_figures time r = time ∷ number_of r ∷ []

unfoldable pub render_refused : ℕ → Refusal → List ℕ
render_refused time r = fill (bytes "t=# say=refuse code=#\n") (refused_figures time r)

-- "a bad line prints `say=bad code=15 at=3`, the place counted from that line's start"
abbrev pub bad_figures : Refusal → ℕ → List ℕ
bad_figures r place = number_of r ∷ place ∷ []

unfoldable pub render_bad : Refusal → ℕ → List ℕ
render_bad r place = fill (bytes "say=bad code=# at=#\n") (bad_figures r place)
