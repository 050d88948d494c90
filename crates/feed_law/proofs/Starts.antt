-- A feed takes no more bytes than there are, and what it leaves is the start of a line, which is short.
use Prim.Native.Nat.{ℕ, ◌≤◌}
use native.Mathlib.Omega.{arith}
use mathlib.Core.Path.{◌≡◌, refl}
use mathlib.Core.List.{List}
use lib.ListN.{length, drop, length-drop}
use lib.Seq.{drop-drop}
use lib.Dec.{ltb}
use Rattle.terms.specs.Sizes.{line_room}
use Rattle.terms.proofs.Logic.{by}
use Rattle.feed_law.specs.declared.Stage.{Stage}
use Rattle.feed_law.specs.declared.Stop.{Stop}
use Rattle.feed_law.specs.Worlds.{World}
use Rattle.feed_law.specs.Turns.{Turn, Fed, turn_of, ahead, fed_in, end_by}
use Rattle.feed_law.specs.Pieces.{StartsAreShort}
use Rattle.feed_law.proofs.Going.{fed_by_lem}
use Rattle.feed_law.proofs.First.{turn_within, turn_waits}

not_full : Stop.Full ≡ Stop.Waits → ⊥
not_full p = let z : ◌≡◌ {A = ℕ} 0 1 = cc in omega arith

module _ {W : Type 0} (on : World W) where
  abbrev Left : List ℕ → Fed W → Type 0
  Left xs f = (f.used ≤ length xs) × (f.stop ≡ Stop.Waits → length (drop f.used xs) ≤ line_room)

  more_left : (stage : Stage) (w : W) (xs : List ℕ) (f : Fed W) →
      let t : Turn W = turn_of on stage w xs in Left (drop t.used xs) f → Left xs (ahead on t f)
  more_left stage w xs f k =
      let t : Turn W = turn_of on stage w xs in
      let d = turn_within on stage w xs in
      let l = length-drop t.used xs in
      (omega (arith, k.0), rw (← drop-drop f.used t.used xs) k.1)

  left_by : (left : ℕ) (stage : Stage) (w : W) (xs : List ℕ) → Left xs (fed_in on (length xs) left stage w xs)
  left_by left stage w xs =
      fed_by_lem on (λ left stage w xs f. Left xs f) (λ left stage w xs h. (omega arith, (λ _. omega arith))) (λ left stage w xs h. (omega arith, (λ s. absurd (not_full s))))
      (λ left stage w xs h z. (omega arith, (λ s. (turn_waits on stage w xs z s).1))) (λ left stage w xs f u k. more_left stage w xs f k)
      (length xs) left stage w xs (omega arith)

  pub starts_short : StartsAreShort on
  starts_short left stage w xs = (left_by left stage w xs).1

  pub taken-there : (left : ℕ) (stage : Stage) (w : W) (xs : List ℕ) → (fed_in on (length xs) left stage w xs).used ≤ length xs
  taken-there left stage w xs = (left_by left stage w xs).0

  -- the end takes no further line
  pub end-used : (s : Stop) (left rest : ℕ) (f : Fed W) → (end_by on s left rest f).used ≡ f.used
  end-used Stop.Waits left rest f = by (λ (x : Fed W). x.used ≡ f.used) (ltb left line_room) _ _ (λ _. refl) (λ _. refl)
  end-used Stop.Full left rest f = refl
  end-used Stop.Over left rest f = refl
  end-used (Stop.Refused r) left rest f = refl

  -- nor does it change what the lines act on
  pub end-world : (s : Stop) (left rest : ℕ) (f : Fed W) → (end_by on s left rest f).world ≡ f.world
  end-world Stop.Waits left rest f = by (λ (x : Fed W). x.world ≡ f.world) (ltb left line_room) _ _ (λ _. refl) (λ _. refl)
  end-world Stop.Full left rest f = refl
  end-world Stop.Over left rest f = refl
  end-world (Stop.Refused r) left rest f = refl
