-- Each return of the calls on text leaves what the definition says.
use Prim.Native.Nat.{ℕ, ◌≤◌, ◌<◌}
use native.Mathlib.Omega.{arith}
use mathlib.Core.Path.{◌≡◌, refl, sym, ap, ◌∙◌}
use mathlib.Core.Bool.{Bool, true, false}
use mathlib.Core.List.{List, [], ◌∷◌}
use borrow.Author.Tests.{lt-ltb, le-ltb}
use lib.ListN.{length, set}
use Rattle.std.specs.Prelude.{Ok, Err}
use Rattle.terms.specs.declared.Refusal.TheVariants.{SmallRoom}
use Rattle.tables.specs.Put.{put}
use Rattle.feed_law.specs.declared.Run.{Run}
use Rattle.feed_law.specs.declared.Taken.{Taken}
use Rattle.feed_law.specs.Worlds.{Lent}
use Rattle.feed_law.specs.Turns.{Fed}
use Rattle.feed_law.specs.Feeds.{Feed, fresh_run, TakenAs, TakenBy}
use Rattle.desk_packing_law.specs.Answers.{answer_of}
use Rattle.desk_packing_law.specs.Stages.{run_length, run_numbers, run_from}
use Rattle.desk_law.specs.Feeding.{start_verdict, StartedAs, counts_length, stop_number, is_refusal, laid_by, LaidAfter, LaidTaken, fed_on, run_after, FedAs}

-- ---- start

module _ (run : List ℕ) (r : ℕ) where
  pub start-no-run : length run < run_length → r ≡ answer_of (Err SmallRoom) 0 → StartedAs run run r
  unfolding start_verdict
  start-no-run h e = let s = lt-ltb (length run) run_length h in record { answer = rw s e; laid = rw s }

  pub start_done : (b : Run) (run' : List ℕ) → run_length ≤ length run → b ≡ fresh_run → run' ≡ put run 0 (run_numbers b) → r ≡ answer_of (Ok tt) 0 →
      StartedAs run run' r
  unfolding start_verdict
  start_done b run' h e l a = let s = le-ltb (length run) run_length h in record { answer = rw s a; laid = rw (s, ← e) l }

-- ---- the two counts

two_laid : (counts : List ℕ) (a b : ℕ) → counts_length ≤ length counts → set (set counts 0 a) 1 b ≡ put counts 0 (a ∷ b ∷ [])
unfolding put
two_laid [] a b h = absurd (omega arith)
two_laid (x ∷ []) a b h = absurd (omega arith)
two_laid (x ∷ y ∷ rest) a b h = refl

pub after-laid : (run counts run' : List ℕ) (after : Run) (used wrote : ℕ) → counts_length ≤ length counts → run' ≡ put run 0 (run_numbers after) →
    LaidAfter run counts after used wrote run' (set (set counts 0 used) 1 wrote)
after-laid run counts run' after used wrote h l = record { kept = l; counted = two_laid counts used wrote h }

-- ---- what is written for lines that were taken

module _ {run counts : List ℕ} {t : Taken} {r : ℕ} {refused : Bool} (q : refused ≡ is_refusal t.stop) (x : r ≡ stop_number t.stop) where
  pub laid-not : refused ≡ true → LaidTaken run counts t run counts r
  laid-not e = let v = sym q ∙ e in record { answer = x; kept = rw v; counted = rw v }

  pub laid_both : {run' counts' : List ℕ} → refused ≡ false → LaidAfter run counts t.run t.used t.wrote run' counts' →
      LaidTaken run counts t run' counts' r
  laid_both e l = let v = sym q ∙ e in record { answer = x; kept = rw v l.kept; counted = rw v l.counted }

-- ---- feed and end

module _ {of : Feed} {run bytes buys sells room out counts : List ℕ} {r : ℕ} where
  -- the run's numbers or the counts are too few
  pub feed_no-run : length run < run_length → r ≡ answer_of (Err SmallRoom) 0 →
      FedAs of run bytes buys sells room out counts run buys sells room out counts r
  unfolding fed_on
  feed_no-run h e =
      let s = lt-ltb (length run) run_length h in
      record { left = record { answer = rw s e; kept = rw s; bought = rw s; sold = rw s; told = rw s; printed = rw s; counted = rw s } }

  module _ (h : run_length ≤ length run) where
    pub feed_no-counts : length counts < counts_length → r ≡ answer_of (Err SmallRoom) 0 →
        FedAs of run bytes buys sells room out counts run buys sells room out counts r
    unfolding fed_on
    feed_no-counts k e =
        let s = le-ltb (length run) run_length h in
        let t = lt-ltb (length counts) counts_length k in
        record {
          left =
              record {
                answer = rw (s, t) e;
                kept = rw (s, t);
                bought = rw (s, t);
                sold = rw (s, t);
                told = rw (s, t);
                printed = rw (s, t);
                counted = rw (s, t);
              };
        }

    -- they are enough: what the lines come to is written
    pub feed_laid : {before : Run} {t : Taken} {run' buys' sells' room' out' counts' : List ℕ} → counts_length ≤ length counts → before ≡ run_from run →
        TakenBy of before buys sells room bytes out buys' sells' room' out' t → LaidTaken run counts t run' counts' r →
        FedAs of run bytes buys sells room out counts run' buys' sells' room' out' counts' r
    unfolding fed_on run_numbers
    feed_laid {before} {t} {run'} {buys'} {sells'} {room'} {out'} {counts'} k i p l =
        let f : Fed Lent = of (run_from run) buys sells room bytes out in
        let q : TakenAs f out buys' sells' room' out' t = rw i at p.taken in
        let s : t.run.session ≡ f.world.session = ap (λ (x : Lent). x.session) q.world in
        let n : run_numbers t.run ≡ run_numbers (run_after f) = rw (q.stage, s) in
        let c : t.used ∷ t.wrote ∷ [] ≡ f.used ∷ length f.text ∷ [] = rw (q.used, q.printed.count) in
        record {
          left =
              rw (le-ltb (length run) run_length h, le-ltb (length counts) counts_length k)
              (record {
                answer = l.answer ∙ ap stop_number q.stop;
                kept = l.kept ∙ (λ j. laid_by (q.stop j) (n j) run);
                bought = ap (λ (x : Lent). x.buys) q.world;
                sold = ap (λ (x : Lent). x.sells) q.world;
                told = ap (λ (x : Lent). x.room) q.world;
                printed = q.printed.laid;
                counted = l.counted ∙ (λ j. laid_by (q.stop j) (c j) counts);
              });
        }
