-- A refusal is that of an unfinished line just where it has its number.
use mathlib.Core.Path.{◌≡◌, refl, ◌∙◌}
use denote.Enum.Bare.{sameb}
use Rattle.terms.specs.declared.Refusal.{Refusal}
use Rattle.terms.specs.declared.Refusal.TheVariants.{SmallRoom, Unsound, Closed, NumberRange, TimeBack, OutOfHours, OffTick, OutsideBand, NotResting, SideFull, DayFull, SettingsRange, SettingsOffTick, LineUnfinished, LineWrong, SmallLineRoom, NumberLong, LineRefused}
use Rattle.terms.specs.contracts.Refusal.{the_type}
use Rattle.resume_law.specs.Pieces.{is_unbegun}
use Rattle.stream_keep.proofs.is_unbegun.Goals as goal

told_by_number : (q : Refusal) → sameb the_type q LineUnfinished ≡ is_unbegun q
told_by_number SmallRoom = refl
told_by_number Unsound = refl
told_by_number Closed = refl
told_by_number NumberRange = refl
told_by_number TimeBack = refl
told_by_number OutOfHours = refl
told_by_number OffTick = refl
told_by_number OutsideBand = refl
told_by_number NotResting = refl
told_by_number SideFull = refl
told_by_number DayFull = refl
told_by_number SettingsRange = refl
told_by_number SettingsOffTick = refl
told_by_number LineUnfinished = refl
told_by_number LineWrong = refl
told_by_number SmallLineRoom = refl
told_by_number NumberLong = refl
told_by_number LineRefused = refl

pub returns : goal.returns
returns c = c.eq.ensures ∙ told_by_number c.args.refusal
