-- What the contract of `come_back` says of a text that is lent: all of it comes back; and where a read fails behind its last byte, that is told,
-- unless a bad line is.
use Prim.Native.Nat.{ℕ, ◌<◌}
use mathlib.Core.Path.{◌≡◌}
use mathlib.Core.Bool.{Bool, true, false}
use mathlib.Core.List.{List}
use lib.ListN.{length, drop}
use Rattle.resume_law.specs.declared.Back.{Back}
use Rattle.resume_law.specs.Pieces.{too_many, BackAs}
use Rattle.resume_law.proofs.Known.{WholeBack, BadBack, whole_back, broken_back}
use Rattle.stream_law.specs.declared.Source.{Source}
use Rattle.stream_law.specs.Sources.{Gives}

module _ (given : List ℕ) (at : ℕ) (buys sells : List ℕ) (r : Back) (few : length (drop at given) < too_many) where
  of_text : (b : List ℕ) (w : Bool) → Gives given (Source.Text at) b w → b ≡ drop at given
  of_text b true g = g
  of_text b false g = absurd g

  pub text_back : BackAs (Gives given (Source.Text at)) buys sells r → WholeBack (drop at given) buys sells r
  text_back k = whole_back (Gives given (Source.Text at)) (drop at given) buys sells r of_text few (λ b g. g) k

  of_broken : (b : List ℕ) (w : Bool) → Gives given (Source.Broken at) b w → b ≡ drop at given
  of_broken b true g = absurd g
  of_broken b false g = g

  pub broken-told : BackAs (Gives given (Source.Broken at)) buys sells r → r.read ≡ true → BadBack (drop at given) buys sells r
  broken-told k read = broken_back (Gives given (Source.Broken at)) (drop at given) buys sells r of_broken few (λ b g. g) k read
