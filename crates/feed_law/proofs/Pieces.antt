-- Bytes that are fed in pieces print what they print when they are fed whole.
use Prim.Native.Nat.{ℕ, ◌+◌, ◌-◌, ◌≤◌}
use native.Mathlib.Omega.{arith}
use mathlib.Core.Path.{◌≡◌, refl, sym, ap, ◌∙◌, subst}
use mathlib.Core.List.{List, [], ◌++◌, append_assoc, append-nil}
use lib.ListN.{length, drop, length-drop}
use lib.Seq.{drop-drop}
use lib.Dec.{ltb}
use Rattle.terms.specs.Sizes.{line_room}
use Rattle.terms.proofs.Logic.{by}
use Rattle.feed_law.specs.declared.Stage.{Stage}
use Rattle.feed_law.specs.declared.Stop.{Stop}
use Rattle.feed_law.specs.Texts.{end_text}
use Rattle.feed_law.specs.Worlds.{World}
use Rattle.feed_law.specs.Turns.{Turn, Fed, turn_of, printing, printed_from, stop_at, lastly, ahead, fed_in, finished, end_by, end_behind}
use Rattle.feed_law.specs.Pieces.{PiecesPrintTheWhole, EndPrintsTheRest}
use Rattle.feed_law.proofs.Says.{printing-quiet, none_said, over-silent, said-last, said-line}
use Rattle.feed_law.proofs.Going.{fed_by_lem}

not_both : {s : Stop} → s ≡ Stop.Full → s ≡ Stop.Waits → ⊥
not_both p q = let z : ◌≡◌ {A = ℕ} 0 1 = cc in omega arith

module _ {W : Type 0} (on : World W) where
  -- what is printed for the whole is what a feed of its first bytes prints, and then what is printed for the bytes that are left
  abbrev Whole : Stage → W → List ℕ → List ℕ → Fed W → Type 0
  Whole stage w xs ys f = printed_from on stage w (xs ++ ys) ≡ f.text ++ printed_from on f.stage f.world (drop f.used xs ++ ys)

  module _ (stage : Stage) (w : W) (xs ys : List ℕ) where
    abbrev t : Turn W
    t = turn_of on stage w xs

    line : printed_from on stage w (xs ++ ys) ≡ t.text ++ printed_from on t.stage t.world (drop t.used xs ++ ys)
    line = said-line on printing printing-quiet stage w xs ys

    -- no whole line is left
    last-whole : t.used ≡ 0 → Whole stage w xs ys (lastly on t)
    last-whole z = line ∙ ap (λ (n : ℕ). t.text ++ printed_from on t.stage t.world (drop n xs ++ ys)) z

    more-whole : (f : Fed W) → Whole t.stage t.world (drop t.used xs) ys f → Whole stage w xs ys (ahead on t f)
    more-whole f k =
        line
        ∙ ap (λ (x : List ℕ). t.text ++ x) k
        ∙ sym (append_assoc t.text f.text (printed_from on f.stage f.world (drop f.used (drop t.used xs) ++ ys)))
        ∙ rw (drop-drop f.used t.used xs)

  pub pieces : PiecesPrintTheWhole on
  pieces left stage w bytes more =
      fed_by_lem on (λ left stage w xs f. Whole stage w xs more f) (λ left stage w xs h. refl) (λ left stage w xs h. refl)
      (λ left stage w xs h z. last-whole stage w xs more z) (λ left stage w xs f u k. more-whole stage w xs more f k) (length bytes) left stage w bytes
      (omega arith)

  -- ---- the end

  -- unless the room must be emptied first, what is left to be printed is what the end prints
  abbrev pub Rest : List ℕ → Fed W → Type 0
  Rest xs f = (f.stop ≡ Stop.Full → ⊥) → printed_from on f.stage f.world (drop f.used xs) ≡ end_text f.stage (length xs - f.used)

  module _ (stage : Stage) (w : W) (xs : List ℕ) where
    abbrev t₁ : Turn W
    t₁ = turn_of on stage w xs

    last_rest : t₁.used ≡ 0 → printed_from on t₁.stage t₁.world xs ≡ end_text t₁.stage (length xs - 0)
    last_rest u = let all : length xs - 0 ≡ length xs = omega arith in rw all (said-last on printing printing-quiet stage w xs u)

    ahead-rest : (f : Fed W) → Rest (drop t₁.used xs) f → Rest xs (ahead on t₁ f)
    ahead-rest f k went =
        let l = length-drop t₁.used xs in
        let n : length (drop t₁.used xs) - f.used ≡ length xs - (t₁.used + f.used) = omega arith in
        rw (← drop-drop f.used t₁.used xs, ← n) (k went)

  none_rest : (stage : Stage) (w : W) (xs : List ℕ) → length xs ≤ 0 → printed_from on stage w xs ≡ end_text stage (length xs - 0)
  none_rest stage w xs h = let n : length xs - 0 ≡ length xs = omega arith in rw n (none_said on printing printing-quiet (length xs) stage w xs h)

  pub lines_rest : (left : ℕ) (stage : Stage) (w : W) (xs : List ℕ) → Rest xs (fed_in on (length xs) left stage w xs)
  lines_rest left stage w xs =
      fed_by_lem on (λ left stage w xs f. Rest xs f) (λ left stage w xs h _. none_rest stage w xs h) (λ left stage w xs h went. absurd (went refl))
      (λ left stage w xs h z _. last_rest stage w xs z) (λ left stage w xs f u k. ahead-rest stage w xs f k)
      (length xs) left stage w xs (omega arith)

  -- the lines stopped because the room must be emptied, or for the reason that goes with where the run stands
  data Stopped (f : Fed W) : Type 0 where
    full : f.stop ≡ Stop.Full → Stopped f
    stands : f.stop ≡ stop_at f.stage → Stopped f

  ahead-stopped : (t : Turn W) (f : Fed W) → Stopped f → Stopped (ahead on t f)
  ahead-stopped t f (full e) = full e
  ahead-stopped t f (stands e) = stands e

  stopped : (left : ℕ) (stage : Stage) (w : W) (xs : List ℕ) → Stopped (fed_in on (length xs) left stage w xs)
  stopped left stage w xs =
      fed_by_lem on (λ left stage w xs f. Stopped f) (λ left stage w xs h. stands refl) (λ left stage w xs h. full refl) (λ left stage w xs h z. stands refl)
      (λ left stage w xs f u k. ahead-stopped (turn_of on stage w xs) f k) (length xs) left stage w xs (omega arith)

  pub stands-there : (left : ℕ) (stage : Stage) (w : W) (xs : List ℕ) → let f : Fed W = fed_in on (length xs) left stage w xs in
      (f.stop ≡ Stop.Full → ⊥) → f.stop ≡ stop_at f.stage
  stands-there left stage w xs went = go (stopped left stage w xs)
    where
      go : Stopped (fed_in on (length xs) left stage w xs) → (fed_in on (length xs) left stage w xs).stop ≡ stop_at (fed_in on (length xs) left stage w xs).stage
      go (full e) = absurd (went e)
      go (stands e) = e

  -- the lines and the end behind them print what is printed for all the bytes
  module _ (left : ℕ) (stage : Stage) (w : W) (xs : List ℕ) (f : Fed W)
      (lines : printed_from on stage w xs ≡ f.text ++ printed_from on f.stage f.world (drop f.used xs)) (end : Rest xs f) where
    abbrev Told : Fed W → Type 0
    Told x =
        (printed_from on stage w xs ≡ x.text ++ printed_from on x.stage x.world (drop x.used xs))
        × ((x.stop ≡ Stop.Full → ⊥) → (x.stop ≡ Stop.Over) × (printed_from on x.stage x.world (drop x.used xs) ≡ []))

    abbrev ended : Stop → Fed W
    ended s = end_by on s (left - length f.text) (length xs - f.used) f

    told-finished : (f.stop ≡ Stop.Full → ⊥) → Told (finished on (length xs - f.used) f)
    told-finished went =
        let silent = over-silent on printing printing-quiet f.world (drop f.used xs) in (
          lines
              ∙ ap (λ (x : List ℕ). f.text ++ x) (end went)
              ∙ sym (append-nil (f.text ++ end_text f.stage (length xs - f.used)))
              ∙ ap (λ (x : List ℕ). (f.text ++ end_text f.stage (length xs - f.used)) ++ x) (sym silent),
          (λ _. (refl, silent)),
        )

    told-waits : f.stop ≡ Stop.Waits → Told (ended Stop.Waits)
    told-waits e =
        by Told (ltb (left - length f.text) line_room) _ _ (λ b. (lines, (λ went. absurd (went refl)))) (λ b. told-finished (λ full. not_both full e))

    told-stage : (s : Stage) → f.stage ≡ s → f.stop ≡ stop_at s → Told (ended (stop_at s))
    told-stage Stage.Awaiting e q = told-waits q
    told-stage Stage.Trading e q = told-waits q
    told-stage Stage.Over e q = (lines, (λ _. (q, rw e (over-silent on printing printing-quiet f.world (drop f.used xs)))))

    told_by : Stopped f → Told (ended f.stop)
    told_by (full e) = subst (λ (s : Stop). Told (ended s)) (sym e) (lines, (λ went. absurd (went e)))
    told_by (stands e) = subst (λ (s : Stop). Told (ended s)) (sym e) (told-stage f.stage refl e)

  pub end_prints_rest : EndPrintsTheRest on
  unfolding end_behind
  end_prints_rest left stage w xs =
      let f : Fed W = fed_in on (length xs) left stage w xs in
      told_by left stage w xs f (rw (append-nil xs, append-nil (drop f.used xs)) at (pieces left stage w xs [])) (lines_rest left stage w xs)
      (stopped left stage w xs)
