-- ORDER NUMBERS ARE GIVEN IN ORDER OF ACCEPTANCE FROM 1, never twice: the numbers of all reports of acceptance are 1, 2, .. to the last.
use Rattle.std.specs.Prelude.{◌≡◌, List}
use Rattle.terms.specs.declared.Settings.{Settings}
use Rattle.terms.specs.declared.Event.{Event}
use Rattle.state_law.specs.Day.{opened}
use Rattle.acts_law.specs.Asked.{accepts, numbers_to}
use Rattle.engine_law.specs.Outcome.{after, told}

abbrev pub GivenInOrder : Type 0
GivenInOrder = (g : Settings) (es : List Event) → accepts (told (opened g) es) ≡ numbers_to (after (opened g) es).session.live.given
