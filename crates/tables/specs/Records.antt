-- Document 01, "Book and report room": "520 reports of six: kind, time, then fields in the order below, unused ones zero". The fields
-- and their order are those of the printed lines.
use Rattle.std.specs.Prelude.{ℕ, List, [], ◌∷◌, ◌++◌}
use Rattle.terms.specs.declared.Report.{Report}
use Rattle.terms.specs.declared.Said.{Said}
use Rattle.terms.specs.declared.Said.TheVariants.{Accept, Trade, Convert, Cancel, Slab, Ref, Close}
use Rattle.terms.specs.Reports.{kind_of, why_of}

-- the four numbers after kind and time
abbrev pub fields_of : Said → List ℕ
fields_of (Accept number) = number ∷ 0 ∷ 0 ∷ 0 ∷ []
fields_of (Trade d) = d.buy ∷ d.sell ∷ d.lots ∷ d.price ∷ []
fields_of (Convert o) = o.number ∷ o.lots ∷ o.price ∷ 0 ∷ []
fields_of (Cancel e) = e.number ∷ e.lots ∷ why_of e.why ∷ 0 ∷ []
fields_of (Slab b) = b.low ∷ b.high ∷ 0 ∷ 0 ∷ []
fields_of (Ref price) = price ∷ 0 ∷ 0 ∷ 0 ∷ []
fields_of (Close c) = c.price ∷ c.base ∷ 0 ∷ 0 ∷ []

-- a report as its six numbers
unfoldable pub record_of : Report → List ℕ
record_of r = kind_of r.said ∷ r.time ∷ fields_of r.said

-- reports one after the other, as they stand in the room
unfoldable pub records_of : List Report → List ℕ
records_of [] = []
records_of (r ∷ rs) = record_of r ++ records_of rs
