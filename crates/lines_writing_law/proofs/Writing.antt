-- A writer answers in three ways, each of them right; and a form that is put in two parts is put as one.
use Prim.Native.Nat.{ℕ, ◌≤◌, ◌<◌}
use native.Mathlib.Omega.{arith}
use native.Mathlib.Nat.{zero-add}
use mathlib.Core.Path.{◌≡◌, sym, ap, ◌∙◌}
use mathlib.Core.Bool.{Bool, true, false, not}
use mathlib.Core.List.{List, ◌++◌}
use lib.ListN.{length, drop}
use borrow.Author.Rules.{rules}
use borrow.Author.Tests.{le-leb, lt-leb, not-true, not-false}
use Rattle.std.specs.Prelude.{Ok, Err}
use Rattle.terms.specs.declared.Refusal.TheVariants.{SmallLineRoom, NumberLong}
use Rattle.terms.specs.Sizes.{line_room}
use Rattle.terms.specs.Refusals.{first_failed}
use Rattle.tables.specs.Put.{put}
use Rattle.lines_text_law.specs.Numerals.{all_writable}
use Rattle.lines_text_law.specs.Forms.{fill, holes}
use Rattle.lines_text_law.specs.declared.Spot.{Spot}
use Rattle.lines_text_law.specs.code.Room.{Put, PutFrom, Fits}
use Rattle.lines_text_law.proofs.Rooms.{then}
use Rattle.lines_text_law.proofs.Fills.{fill-length, fill-append, tested_writable}
use Rattle.lines_writing_law.specs.Writes.{line_verdict, Writes, Formed}

-- ---- the three ways to answer

module _ (d line ns : List ℕ) where
  pub refused-room : length d < line_room → Writes d line ns (Err SmallLineRoom) d
  unfolding line_verdict first_failed
  refused-room h = record { answer = rw (lt-leb line_room (length d) h); laid = rw (lt-leb line_room (length d) h) }

  pub refused-number : line_room ≤ length d → all_writable ns ≡ false → Writes d line ns (Err NumberLong) d
  unfolding line_verdict first_failed
  refused-number h k = record { answer = rw (le-leb line_room (length d) h, k); laid = rw (le-leb line_room (length d) h, k) }

  pub written : {d' : List ℕ} {r : ℕ} → line_room ≤ length d → all_writable ns ≡ true → Put d 0 line d' r → Writes d line ns (Ok r) d'
  unfolding line_verdict first_failed put
  written h k p =
      record {
        answer = rw (le-leb line_room (length d) h, k) (ap Ok (p.next ∙ zero-add (length line)));
        laid = rw (le-leb line_room (length d) h, k) p.laid;
      }

-- what code knows where a test let it go on, and where it stopped it
pub passed : (r x : Bool) → r ≡ x → not r ≡ false → x ≡ true
passed r x e t = sym e ∙ not-false r t

pub stopped : (r x : Bool) → r ≡ x → not r ≡ true → x ≡ false
stopped r x e t = sym e ∙ not-true r t

-- ---- a form in two parts

abbrev start : Spot
start = record { at = 0; used = 0 }

module _ {d h t ns : List ℕ} (formed : Formed h t ns) (large : line_room ≤ length d) (fine : all_writable ns ≡ true) where
  pub head_fits : Fits d start h ns
  head_fits =
      let s = formed.short in
      let e = formed.enough in
      record { within = omega (arith, fill-length h ns); enough = omega arith; writable = tested_writable ns fine }

  -- the second part fits behind the first, and then both are put
  module _ {d₁ : List ℕ} {middle : Spot} (head : PutFrom d start (fill h ns) (holes h) d₁ middle) (same : length d₁ ≡ length d) where
    pub tail_fits : Fits d₁ middle t ns
    tail_fits =
        let s = formed.short in
        let e = formed.enough in
        let n = head.there.next in
        let u = head.used in
        record {
          within = omega (arith, fill-length h ns, fill-length t (drop middle.used ns));
          enough = omega arith;
          writable = tested_writable ns fine;
        }

    pub both_put : {d₂ : List ℕ} {end : Spot} → PutFrom d₁ middle (fill t (drop middle.used ns)) (holes t) d₂ end → Put d 0 (fill (h ++ t) ns) d₂ end.at
    both_put tail =
        let s = formed.short in
        let e : middle.used ≡ holes h = head.used ∙ zero-add (holes h) in
        rw (fill-append h t ns) (then (omega (arith, fill-length h ns)) head.there (rw e at tail.there))

-- rules for each answer of `write`: `search writer`
pub ruleset writer = (rules, passed, stopped, refused-room, refused-number, head_fits, tail_fits, both_put, written)
