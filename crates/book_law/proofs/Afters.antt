-- What a caller knows of a side's table after an insertion or a removal: how many orders it holds, and which.
use Prim.Native.Nat.{ℕ, ◌+◌, ◌-◌, ◌<◌}
use native.Mathlib.Omega.{arith}
use mathlib.Core.Path.{◌≡◌}
use mathlib.Core.Bool.{true}
use mathlib.Core.List.{List}
use Rattle.terms.specs.declared.Order.{Order}
use Rattle.terms.specs.declared.Side.{Side}
use Rattle.terms.specs.Sizes.{slots}
use Rattle.tables.specs.Tables.{decode, table_of, Holds}
use Rattle.tables.proofs.Slots.{length-decode}
use Rattle.tables.proofs.Whole.{After, after}
use Rattle.book_law.specs.Priority.{insert, rests, removed}
use Rattle.book_law.proofs.Over.{length-insert, length_removed}

module _ (n : ℕ) (t : List ℕ) (h : Holds n t) (u : List ℕ) where
  pub after-add : (side : Side) (o : Order) → n < slots → u ≡ table_of (insert side o (decode n t)) t → After (n + 1) (insert side o (decode n t)) t u
  after-add side o g e =
      after (n + 1) (insert side o (decode n t)) t u e (omega (arith, length-insert side o (decode n t), length-decode n t)) (omega arith) h.long

  pub after_remove : (number : ℕ) → rests number (decode n t) ≡ true → u ≡ table_of (removed number (decode n t)) t → After (n - 1) (removed number (decode n t)) t u
  after_remove number r e =
      after (n - 1) (removed number (decode n t)) t u e (omega (arith, length_removed number (decode n t) r, length-decode n t)) (omega (arith, h.few)) h.long
