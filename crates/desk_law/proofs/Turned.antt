-- Numbers that are no session's are refused by 2, "session not sound", and numbers that are no event's by 4, "a number of the event out of
-- its range", if no earlier row applies.
use Prim.Native.Nat.{ℕ}
use mathlib.Core.Path.{◌≡◌}
use mathlib.Core.Bool.{false}
use mathlib.Core.List.{List}
use Rattle.std.specs.Prelude.{None}
use Rattle.terms.specs.Truth.{◌⊓◌}
use Rattle.terms.specs.Numbers.{is_time}
use Rattle.soundness_law.specs.Sound.{sound, day_in}
use Rattle.soundness_law.proofs.Days.{fixed_unsound}
use Rattle.refusal_law.specs.Refusals.{numbers_right}
use Rattle.desk_packing_law.specs.Sessions.{is_session, session_from}
use Rattle.desk_packing_law.specs.Events.{found_in, event_from}

pub no-session_unsound : (ns buys sells : List ℕ) → is_session ns ≡ false → sound (day_in (session_from ns) buys sells) ≡ false
unfolding session_from
no-session_unsound ns buys sells h = rw h (fixed_unsound buys sells)

pub no-event-out : (ns : List ℕ) → found_in ns ≡ None → (is_time (event_from ns).time ⊓ numbers_right (event_from ns).act) ≡ false
unfolding event_from ◌⊓◌
no-event-out ns h = rw h
