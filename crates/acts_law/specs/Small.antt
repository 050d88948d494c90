-- Document 01, "Session lines": reports that can be written. 17 refuses "a number above 999,999,999 to be written".
use Rattle.std.specs.Prelude.{List, [], ◌∷◌}
use Rattle.terms.specs.declared.Report.{Report}
use Rattle.terms.specs.Numbers.{Writable}
use Rattle.tables.specs.Records.{record_of}

-- the six numbers of the report's record can be written
abbrev pub SmallReport : Report → Type 0
SmallReport r = Writable (record_of r)

-- each report can be written
unfoldable pub SmallReports : List Report → Type 0
SmallReports [] = Unit {0}
SmallReports (r ∷ rs) = SmallReport r × SmallReports rs
