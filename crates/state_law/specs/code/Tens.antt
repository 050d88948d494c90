-- A session in code has two arrays of ten numbers; in the definitions these are lists, of which this says that they have ten.
use Rattle.std.specs.Prelude.{◌≡◌, length}
use Rattle.state_law.specs.declared.Session.{Session}

pub record Ten (s : Session) : Type 0 where
  pub prices : length s.tape.prices ≡ 10
  pub sizes : length s.tape.sizes ≡ 10
