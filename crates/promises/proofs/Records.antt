-- A record determines its report: two lists of equally many reports with the same records are equal.
use native.Mathlib.Omega.{arith}
use mathlib.Core.Path.{◌≡◌, refl, sym, ap, ◌∙◌}
use mathlib.Core.List.{List, [], ◌∷◌}
use lib.ListN.{length, drop}
use lib.Seq.{drop_at}
use Rattle.std.specs.Prelude.{Option, Some, None}
use Rattle.terms.specs.declared.Report.{Report}
use Rattle.tables.specs.Lengths.{record_length}
use Rattle.tables.specs.Records.{record_of, records_of}
use Rattle.tables.proofs.Records.{length-record}
use Rattle.records_law.specs.Back.{report_in}
use Rattle.records_law.proofs.Told.{told-front}

-- the report that was read, or another where none was
abbrev told_or : Report → Option Report → Report
told_or other (Some r) = r
told_or other None = other

pub records_tell : (rs rs' : List Report) → length rs ≡ length rs' → records_of rs ≡ records_of rs' → rs ≡ rs'
unfolding records_of
records_tell [] [] n e = refl
records_tell [] (r ∷ rs) n e = absurd (omega arith)
records_tell (r ∷ rs) [] n e = absurd (omega arith)
records_tell (r ∷ rs) (s ∷ ss) n e =
    let one : r ≡ s = ap (told_or r) (sym (told-front r (records_of rs)) ∙ (ap report_in e ∙ told-front s (records_of ss))) in
    let behind : records_of rs ≡ records_of ss =
    sym (drop_at (record_of r) (records_of rs) record_length (length-record r))
    ∙ (ap (drop record_length) e ∙ drop_at (record_of s) (records_of ss) record_length (length-record s)) in
    let rest : rs ≡ ss = records_tell rs ss (omega arith) behind in
    λ i. one i ∷ rest i
