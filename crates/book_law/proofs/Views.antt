-- The view of a side is the numbers of its live orders where both tables are long enough and the count fits; where a table is short it is empty.
use Prim.Native.Nat.{ℕ, ◌≤◌, ◌<◌}
use native.Mathlib.Omega.{arith}
use borrow.Author.Tests.{le-ltb, lt-ltb}
use mathlib.Core.Path.{◌≡◌, sym}
use mathlib.Core.List.{List, []}
use lib.Dec.{ltb}
use lib.ListN.{length}
use Rattle.terms.specs.declared.Side.{Side}
use Rattle.terms.specs.declared.Side.TheVariants.{Buy, Sell}
use Rattle.terms.specs.Sizes.{slots}
use Rattle.tables.specs.Lengths.{table_length}
use Rattle.terms.proofs.Logic.{cases}
use Rattle.tables.specs.Tables.{decode, encode}
use Rattle.tables.proofs.Slots.{encode-decode}
use Rattle.book_law.specs.View.{live_part, named, view_of}

live_orders : (n : ℕ) (t : List ℕ) → n ≤ slots → table_length ≤ length t → live_part n t ≡ encode (decode n t)
live_orders n t h g = rw (le-ltb slots n h) (sym (encode-decode n t (omega arith)))

pub view_orders : (side : Side) (buys sells : List ℕ) (buying selling : ℕ) → buying ≤ slots → selling ≤ slots → table_length ≤ length buys → table_length ≤ length sells →
    view_of side buys sells buying selling ≡ encode (named side (decode buying buys) (decode selling sells))
unfolding view_of
view_orders Buy buys sells buying selling h k f g = rw (le-ltb (length buys) table_length f, le-ltb (length sells) table_length g) (live_orders buying buys h f)
view_orders Sell buys sells buying selling h k f g = rw (le-ltb (length buys) table_length f, le-ltb (length sells) table_length g) (live_orders selling sells k g)

-- "for .. a short table, its result is the empty part", whichever of them is short
pub short-buys : (side : Side) (buys sells : List ℕ) (buying selling : ℕ) → length buys < table_length → view_of side buys sells buying selling ≡ []
unfolding view_of
short-buys side buys sells buying selling h = rw (lt-ltb (length buys) table_length h)

pub short-sells : (side : Side) (buys sells : List ℕ) (buying selling : ℕ) → length sells < table_length → view_of side buys sells buying selling ≡ []
unfolding view_of
short-sells side buys sells buying selling h =
    cases (ltb (length buys) table_length) (λ e. rw e) (λ e. rw (e, lt-ltb (length sells) table_length h))
