-- What it means that bytes are put into a lent room.
use Rattle.std.specs.Prelude.{ℕ, ◌+◌, ◌≤◌, ◌≡◌, List, length, get_or, drop}
use Rattle.terms.specs.Sizes.{written_most}
use Rattle.terms.specs.Numbers.{Writable}
use Rattle.tables.specs.Put.{put}
use Rattle.lines_text_law.specs.declared.Spot.{Spot}
use Rattle.lines_text_law.specs.Forms.{piece, taken, fill, holes}

-- d' is d with bs put at place n, and r is the place after it
pub record Put (d : List ℕ) (n : ℕ) (bs d' : List ℕ) (r : ℕ) : Type 0 where
  pub next : r ≡ n + length bs
  pub laid : d' ≡ put d n bs

-- the same from one spot to another, with so many numbers used on the way
pub record PutFrom (d : List ℕ) (from : Spot) (bs : List ℕ) (count : ℕ) (d' : List ℕ) (to : Spot) : Type 0 where
  pub there : Put d from.at bs d' to.at
  pub used : to.used ≡ from.used + count

-- a form fits at a spot: the room can hold its line, there are enough numbers for it, and each of them can be written
pub record Fits (d : List ℕ) (from : Spot) (f ns : List ℕ) : Type 0 where
  pub within : from.at + length (fill f (drop from.used ns)) ≤ length d
  pub enough : from.used + holes f ≤ length ns
  pub writable : Writable ns

-- what one byte of a form stands for fits at a spot
pub record PieceFits (d : List ℕ) (from : Spot) (c : ℕ) (ns : List ℕ) : Type 0 where
  pub within : from.at + length (piece c (get_or ns from.used 0)) ≤ length d
  pub enough : from.used + taken c ≤ length ns
  pub writable : get_or ns from.used 0 ≤ written_most
