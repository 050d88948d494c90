-- The outcome of an event: refused by the first row that applies with nothing changed, or accepted with the day after it and its reports.
use Rattle.std.specs.Prelude.{List, [], ◌∷◌, ◌++◌, Ok, Err}
use Rattle.terms.specs.declared.Event.{Event}
use Rattle.terms.specs.declared.Report.{Report}
use Rattle.terms.specs.Refusals.{Verdict}
use Rattle.state_law.specs.Day.{Day}
use Rattle.refusal_law.specs.Refusals.{refusal_of}
use Rattle.acts_law.specs.Acts.{Acted, act}

pub record Outcome : Type 0 where
  pub verdict : Verdict
  pub day : Day
  pub reports : List Report

-- "All refusals return the number and the session given, and write nothing."
abbrev pub decided : Verdict → Day → Acted → Outcome
decided (Ok _) d a = record { verdict = Ok tt; day = a.day; reports = a.reports }
decided (Err r) d a = record { verdict = Err r; day = d; reports = [] }

unfoldable pub outcome : Day → Event → Outcome
outcome d e = decided (refusal_of d e) d (act d e)

-- ---- a run of events, each on the day that the last one left

unfoldable pub after : Day → List Event → Day
after d [] = d
after d (e ∷ es) = after (outcome d e).day es

unfoldable pub told : Day → List Event → List Report
told d [] = []
told d (e ∷ es) = (outcome d e).reports ++ told (outcome d e).day es
