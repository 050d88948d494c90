-- Three stores in a row write one run.
use Prim.Native.Nat.{suc, ◌+◌}
use mathlib.Core.Path.{◌≡◌}
use mathlib.Core.List.{[], ◌∷◌}
use native.Mathlib.Omega.{arith}
use Rattle.tables.proofs.Puts.{sets_put}
use Rattle.tables.proofs.flat.store3.Goals as goal

pub returns : goal.returns
returns c =
    let e : c.args.at + 1 ≡ suc c.args.at = omega arith in
    let f : c.args.at + 2 ≡ suc (suc c.args.at) = omega arith in
    rw (e, f) (sets_put (c.args.a ∷ c.args.b ∷ c.args.c ∷ []) c.args.t.now c.args.at (omega arith))
