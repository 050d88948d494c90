-- If the half hour's count of trades is bounded, so are its lots.
use Prim.Native.Nat.{ℕ, ◌*◌, ◌≤◌}
use native.Mathlib.Omega.{arith}
use mathlib.Core.Path.{◌≡◌}
use mathlib.Core.Bool.{not, false}
use borrow.Author.Tests.{not-false, leb-true}
use lib.Dec.{leb}
use Rattle.terms.specs.Truth.{between}
use Rattle.terms.specs.Sizes.{lots_most, trades_most}
use Rattle.terms.proofs.Logic.{between_facts}

pub lots_bounded : (count trades lots : ℕ) → trades ≤ trades_most → not (leb count trades) ≡ false → not (between count lots (lots_most * count)) ≡ false → lots ≤ lots_most * trades_most
lots_bounded count trades lots h e f =
    let p = between_facts count lots (lots_most * count) (not-false _ f) in
    let q = leb-true count trades (not-false _ e) in
    omega arith
