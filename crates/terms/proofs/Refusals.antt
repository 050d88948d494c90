-- Every refusal has its number in the paper's table, so a verdict has number 0 only where nothing applies.
use Prim.Native.Nat.{◌≤◌}
use native.Mathlib.Omega.{arith}
use mathlib.Core.Path.{◌≡◌, refl}
use Rattle.std.specs.Prelude.{Ok, Err}
use Rattle.terms.specs.declared.Refusal.{Refusal}
use Rattle.terms.specs.declared.Refusal.TheVariants.{SmallRoom, Unsound, Closed, NumberRange, TimeBack, OutOfHours, OffTick, OutsideBand, NotResting, SideFull, DayFull, SettingsRange, SettingsOffTick, LineUnfinished, LineWrong, SmallLineRoom, NumberLong, LineRefused}
use Rattle.terms.specs.Refusals.{Verdict, number_of, code_of}

-- the numbers of refusals run from 1 to 22
pub refusal-number : (r : Refusal) → (1 ≤ number_of r) × (number_of r ≤ 22)
refusal-number SmallRoom = (omega arith, omega arith)
refusal-number Unsound = (omega arith, omega arith)
refusal-number Closed = (omega arith, omega arith)
refusal-number NumberRange = (omega arith, omega arith)
refusal-number TimeBack = (omega arith, omega arith)
refusal-number OutOfHours = (omega arith, omega arith)
refusal-number OffTick = (omega arith, omega arith)
refusal-number OutsideBand = (omega arith, omega arith)
refusal-number NotResting = (omega arith, omega arith)
refusal-number SideFull = (omega arith, omega arith)
refusal-number DayFull = (omega arith, omega arith)
refusal-number SettingsRange = (omega arith, omega arith)
refusal-number SettingsOffTick = (omega arith, omega arith)
refusal-number LineUnfinished = (omega arith, omega arith)
refusal-number LineWrong = (omega arith, omega arith)
refusal-number SmallLineRoom = (omega arith, omega arith)
refusal-number NumberLong = (omega arith, omega arith)
refusal-number LineRefused = (omega arith, omega arith)

pub code_fine : (v : Verdict) → code_of v ≡ 0 → v ≡ Ok tt
code_fine (Ok _) e = refl
code_fine (Err r) e = absurd (omega (arith, (refusal-number r).0))
