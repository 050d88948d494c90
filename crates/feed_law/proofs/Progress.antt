-- In a room that can hold whatever an event prints, every call takes a line where there is one.
use Prim.Native.Nat.{ℕ, ◌+◌, ◌-◌, ◌≤◌, ◌<◌}
use native.Mathlib.Omega.{arith}
use mathlib.Core.Path.{◌≡◌, refl, sym, ◌∙◌}
use mathlib.Core.List.{List}
use lib.ListN.{length}
use lib.Dec.{ltb, eqb}
use borrow.Author.Tests.{ltb-true, eqb-true, eqb-false}
use Rattle.terms.specs.Sizes.{line_room}
use Rattle.terms.proofs.Logic.{by, cases}
use Rattle.feed_law.specs.declared.Stage.{Stage}
use Rattle.feed_law.specs.declared.Stop.{Stop}
use Rattle.feed_law.specs.Texts.{text_most, most_at}
use Rattle.feed_law.specs.Worlds.{World}
use Rattle.feed_law.specs.Turns.{Fed, turn_of, stop_at, fed_in, end_by, end_behind}
use Rattle.feed_law.specs.Pieces.{RoomMakesProgress}
use Rattle.feed_law.proofs.Going.{fed_by_lem}
use Rattle.feed_law.proofs.First.{turn_waits}
use Rattle.feed_law.proofs.Starts.{end-used}

not_full : (stage : Stage) → stop_at stage ≡ Stop.Full → ⊥
not_full Stage.Awaiting p = let z : ◌≡◌ {A = ℕ} 0 1 = cc in omega arith
not_full Stage.Trading p = let z : ◌≡◌ {A = ℕ} 0 1 = cc in omega arith
not_full Stage.Over p = let z : ◌≡◌ {A = ℕ} 0 1 = cc in omega arith

most-small : (stage : Stage) → most_at stage ≤ text_most
most-small Stage.Awaiting = omega arith
most-small Stage.Trading = omega arith
most-small Stage.Over = omega arith

module _ {W : Type 0} (on : World W) where
  -- where no line was taken, the room was too short or nothing was printed
  record Moves (left : ℕ) (f : Fed W) : Type 0 where
    full : f.stop ≡ Stop.Full → text_most ≤ left → 0 < f.used
    silent : f.stop ≡ Stop.Waits → f.used ≡ 0 → length f.text ≡ 0

  some : (n m : ℕ) → (n ≡ 0 → ⊥) → 0 < n + m
  some n m h = omega (arith, h)

  none : (n m : ℕ) → (n ≡ 0 → ⊥) → n + m ≡ 0 → ⊥
  none n m h e = h (omega arith)

  moves : (left : ℕ) (stage : Stage) (w : W) (xs : List ℕ) → Moves left (fed_in on (length xs) left stage w xs)
  moves left stage w xs =
      fed_by_lem on (λ left stage w xs f. Moves left f) (λ left stage w xs h. record { full = λ e k. absurd (not_full stage e); silent = λ _ _. refl })
      (λ left stage w xs h. record { full = λ e k. absurd (let m = most-small stage in omega arith); silent = λ _ _. refl })
      (λ left stage w xs h z.
      record { full = λ e k. absurd (not_full (turn_of on stage w xs).stage e); silent = λ s _. (turn_waits on stage w xs z s).0 })
      (λ left stage w xs f u k.
      record { full = λ e k. some (turn_of on stage w xs).used f.used u; silent = λ s e. absurd (none (turn_of on stage w xs).used f.used u e) })
      (length xs) left stage w xs (omega arith)

  -- where the end has no room to be told, something was taken before
  waited : (left : ℕ) (f : Fed W) → text_most ≤ left → (f.used ≡ 0 → length f.text ≡ 0) → left - length f.text < line_room → 0 < f.used
  waited left f k h c =
      cases (eqb f.used 0) (λ e. let n = h (eqb-true f.used 0 e) in absurd (omega arith)) (λ e. let n = eqb-false f.used 0 e in omega (arith, n))

  ended : (left rest : ℕ) (f : Fed W) → Moves left f → text_most ≤ left → (s : Stop) → f.stop ≡ s →
      (end_by on s (left - length f.text) rest f).stop ≡ Stop.Full → 0 < f.used
  ended left rest f m k Stop.Waits e o =
      by (λ (x : Fed W). x.stop ≡ Stop.Full → 0 < f.used) (ltb (left - length f.text) line_room) _ _
      (λ b _. waited left f k (λ u. m.silent e u) (ltb-true (left - length f.text) line_room b)) (λ b x. absurd (not_full Stage.Over x)) o
  ended left rest f m k Stop.Full e o = m.full e k
  ended left rest f m k Stop.Over e o = absurd (not_full Stage.Over (sym e ∙ o))
  ended left rest f m k (Stop.Refused r) e o = absurd (let z : ◌≡◌ {A = ℕ} 0 1 = cc in omega arith)

  pub progress : RoomMakesProgress on
  unfolding end_behind
  progress left stage w xs k =
      let f : Fed W = fed_in on (length xs) left stage w xs in
      let m = moves left stage w xs in
      ((λ e. m.full e k), (λ e. rw (end-used on f.stop (left - length f.text) (length xs - f.used) f) (ended left (length xs - f.used) f m k f.stop refl e)))
