-- THE PIECES OF AN INPUT: however it is cut, the same is printed.
use Rattle.std.specs.Prelude.{ℕ, ◌≤◌, ◌<◌, ◌≡◌, List, [], ◌++◌, length, drop}
use Rattle.terms.specs.Sizes.{line_room}
use Rattle.feed_law.specs.declared.Stage.{Stage}
use Rattle.feed_law.specs.declared.Stop.{Stop}
use Rattle.feed_law.specs.Texts.{text_most}
use Rattle.feed_law.specs.Worlds.{World}
use Rattle.feed_law.specs.Turns.{Fed, printed_from, fed_in, end_behind}

module _ {W : Type 0} (on : World W) where
  -- Some bytes are fed, and others may follow: what is printed now, and what is then printed for the bytes that are left and those that
  -- follow, is what is printed for all of them at once. So it never matters how the input is cut, nor how large the output room is.
  abbrev pub PiecesPrintTheWhole : Type 0
  PiecesPrintTheWhole =
      (left : ℕ) (stage : Stage) (w : W) (bytes more : List ℕ) →
      let f : Fed W = fed_in on (length bytes) left stage w bytes in
      printed_from on stage w (bytes ++ more) ≡ f.text ++ printed_from on f.stage f.world (drop f.used bytes ++ more)

  -- some bytes are fed and no others follow: the lines that there is room for are taken, then the end is told
  abbrev pub fed_to_end : ℕ → Stage → W → List ℕ → Fed W
  fed_to_end left stage w bytes = end_behind on left (length bytes) (fed_in on (length bytes) left stage w bytes)

  -- What is printed now, and what is then printed for the bytes that are left, is what is printed for all of them; and unless the room must
  -- be emptied first, the run is over and nothing is left to be printed. This holds whatever the bytes are: whole lines, the start of a line,
  -- or bytes that begin none.
  abbrev pub EndPrintsTheRest : Type 0
  EndPrintsTheRest =
      (left : ℕ) (stage : Stage) (w : W) (bytes : List ℕ) →
      let f : Fed W = fed_to_end left stage w bytes in
      (printed_from on stage w bytes ≡ f.text ++ printed_from on f.stage f.world (drop f.used bytes))
      × ((f.stop ≡ Stop.Full → ⊥) → (f.stop ≡ Stop.Over) × (printed_from on f.stage f.world (drop f.used bytes) ≡ []))

  -- In a room that can hold whatever an event prints, something is always taken before the room must be emptied.
  abbrev pub RoomMakesProgress : Type 0
  RoomMakesProgress =
      (left : ℕ) (stage : Stage) (w : W) (bytes : List ℕ) → text_most ≤ left →
      ((fed_in on (length bytes) left stage w bytes).stop ≡ Stop.Full → 0 < (fed_in on (length bytes) left stage w bytes).used)
      × ((fed_to_end left stage w bytes).stop ≡ Stop.Full → 0 < (fed_to_end left stage w bytes).used)

  -- What is kept for the next piece is the start of a line, and no line is longer than 128 bytes. A longer one is told as bad as soon as its
  -- bytes show it, wherever the pieces are cut.
  abbrev pub StartsAreShort : Type 0
  StartsAreShort =
      (left : ℕ) (stage : Stage) (w : W) (bytes : List ℕ) →
      let f : Fed W = fed_in on (length bytes) left stage w bytes in
      f.stop ≡ Stop.Waits → length (drop f.used bytes) ≤ line_room
