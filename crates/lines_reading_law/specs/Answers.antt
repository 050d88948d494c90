-- What the two readers answer, by the paper's numbers.
use Rattle.std.specs.Prelude.{ℕ, List, Result}
use Rattle.terms.specs.declared.Event.{Event}
use Rattle.terms.specs.declared.Settings.{Settings}
use Rattle.terms.specs.declared.Refusal.TheVariants.{LineUnfinished, LineWrong}
use Rattle.terms.specs.Refusals.{number_of}
use Rattle.lines_text_law.specs.declared.LineError.{LineError}
use Rattle.lines_text_law.specs.declared.Parsed.{Parsed}
use Rattle.lines_text_law.specs.Grammar.{LineAnswer, whole, unfinished, wrong}
use Rattle.lines_text_law.specs.Reading.{answered, ReadAs}
use Rattle.lines_text_law.specs.code.Pieces.{at}
use Rattle.lines_reading_law.specs.Lines.{SettingsLine, EventLine}
use Rattle.lines_reading_law.specs.Grammars.{settings_grammar, event_grammar}

-- the paper's number of an answer: 14 unfinished, 15 wrong, 0 for a line
abbrev pub read_code : {E : Type 0} → LineAnswer E → ℕ
read_code (whole e n) = 0
read_code unfinished = number_of LineUnfinished
read_code (wrong n) = number_of LineWrong

-- and the number that it carries: how many bytes a line takes; for 15, "line wrong; returns the place"
abbrev pub count_of : {E : Type 0} → LineAnswer E → ℕ
count_of (whole e n) = n
count_of unfinished = 0
count_of (wrong n) = n

-- THE CONTRACTS of the two readers: the answer is the right one for the bytes
abbrev pub EventRead : List ℕ → Result (Parsed Event) LineError → Type 0
EventRead bytes r = ReadAs EventLine bytes (answered r)

abbrev pub SettingsRead : List ℕ → Result (Parsed Settings) LineError → Type 0
SettingsRead bytes r = ReadAs SettingsLine bytes (answered r)

-- the right answers, computed by the grammars
unfoldable pub read_event : List ℕ → LineAnswer Event
read_event bytes = at bytes event_grammar 0

unfoldable pub read_settings : List ℕ → LineAnswer Settings
read_settings bytes = at bytes settings_grammar 0
