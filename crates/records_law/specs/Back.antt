-- Document 01, "Book and report room": a report read back from the six numbers of its record.
use Rattle.std.specs.Prelude.{ℕ, ◌≡◌, cond, List, [], ◌∷◌, get_or, eqb, Option, Some, None}
use Rattle.terms.specs.declared.Report.{Report}
use Rattle.terms.specs.declared.Said.{Said}
use Rattle.terms.specs.declared.Said.TheVariants.{Accept, Trade, Convert, Cancel, Slab, Ref, Close}
use Rattle.terms.specs.declared.Why.{Why}
use Rattle.terms.specs.declared.Why.TheVariants.{Asked, Immediate, OutOfRange, OutsideBand, DayEnd}
use Rattle.tables.specs.Records.{record_of}
use Rattle.tables.specs.Same.{are_same}

-- the contract: the answer is the report whose record the numbers are, or says that no report has them
abbrev pub RecordRead : List ℕ → Option Report → Type 0
RecordRead numbers (Some r) = numbers ≡ record_of r
RecordRead numbers None = (r : Report) → numbers ≡ record_of r → ⊥

-- ---- the same answer computed

-- the reason with this number; a number that is none's is taken for the last
abbrev pub why_by : ℕ → Why
why_by n = cond (eqb n 1) Asked (cond (eqb n 2) Immediate (cond (eqb n 3) OutOfRange (cond (eqb n 4) OutsideBand DayEnd)))

-- what a report of this kind says by its four fields, a row for each kind; a number that is no kind's is taken for the last
unfoldable pub said_by : ℕ → ℕ → ℕ → ℕ → ℕ → Said
said_by kind a b c d =
    cond (eqb kind 1) (Accept a)
    (cond (eqb kind 2) (Trade (record { buy = a; sell = b; lots = c; price = d }))
    (cond (eqb kind 3) (Convert (record { number = a; price = c; lots = b }))
    (cond (eqb kind 4) (Cancel (record { number = a; lots = b; why = why_by c }))
    (cond (eqb kind 5) (Slab (record { low = a; high = b }))
    (cond (eqb kind 6) (Ref a)
    (Close (record { price = a; base = b })))))))

-- the report, where the numbers are its record
abbrev pub report_if : Report → List ℕ → Option Report
report_if r numbers = cond (are_same (record_of r) numbers) (Some r) None

-- the report that six numbers stand for
unfoldable pub report_from : ℕ → ℕ → ℕ → ℕ → ℕ → ℕ → Option Report
report_from kind time a b c d = report_if (record { time = time; said = said_by kind a b c d }) (kind ∷ time ∷ a ∷ b ∷ c ∷ d ∷ [])

-- the first six of some numbers
abbrev pub six_in : List ℕ → List ℕ
six_in ns = get_or ns 0 0 ∷ get_or ns 1 0 ∷ get_or ns 2 0 ∷ get_or ns 3 0 ∷ get_or ns 4 0 ∷ get_or ns 5 0 ∷ []

-- the report that the first six of some numbers stand for
abbrev pub report_in : List ℕ → Option Report
report_in ns = report_from (get_or ns 0 0) (get_or ns 1 0) (get_or ns 2 0) (get_or ns 3 0) (get_or ns 4 0) (get_or ns 5 0)
