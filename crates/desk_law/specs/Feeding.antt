-- TEXT IN AND TEXT OUT, with a run of the program that an app keeps as numbers: what each call answers and leaves in every lent slice.
use Rattle.std.specs.Prelude.{ℕ, ◌≡◌, Bool, true, false, cond, List, [], ◌∷◌, ltb, length, Ok, Err}
use Rattle.terms.specs.declared.Refusal.TheVariants.{SmallRoom}
use Rattle.terms.specs.Refusals.{Verdict}
use Rattle.tables.specs.Put.{put}
use Rattle.feed_law.specs.declared.Run.{Run}
use Rattle.feed_law.specs.declared.Stop.{Stop}
use Rattle.feed_law.specs.declared.Taken.{Taken}
use Rattle.feed_law.specs.Worlds.{Lent, lent_of, calls}
use Rattle.feed_law.specs.Turns.{Fed, halted}
use Rattle.feed_law.specs.Feeds.{Feed, laid, fresh_run}
use Rattle.desk_packing_law.specs.Answers.{answer_number, answer_of}
use Rattle.desk_law.specs.Calls.{where_long}
use Rattle.desk_packing_law.specs.Stages.{run_length, run_numbers, run_from}

-- ---- start

-- 1 if the slice for the run is too short
unfoldable pub start_verdict : List ℕ → Verdict
start_verdict run = cond (ltb (length run) run_length) (Err SmallRoom) (Ok tt)

abbrev pub started_by : Verdict → List ℕ → List ℕ
started_by (Ok _) run = put run 0 (run_numbers fresh_run)
started_by (Err r) run = run

pub record StartedAs (run run' : List ℕ) (r : ℕ) : Type 0 where
  pub answer : r ≡ answer_of (start_verdict run) 0
  pub laid : run' ≡ started_by (start_verdict run) run

-- ---- feed and end

-- the two counts: the bytes taken, and the bytes printed
abbrev pub counts_length : ℕ
counts_length = 2

-- 0: the bytes hold no further whole line; 1: the output room has to be emptied; 2: the run is over; or a refusal
abbrev pub stop_number : Stop → ℕ
stop_number Stop.Waits = answer_number 0 0
stop_number Stop.Full = answer_number 0 1
stop_number Stop.Over = answer_number 0 2
stop_number (Stop.Refused r) = answer_of (Err r) 0

abbrev pub is_refusal : Stop → Bool
is_refusal Stop.Waits = false
is_refusal Stop.Full = false
is_refusal Stop.Over = false
is_refusal (Stop.Refused r) = true

-- numbers written to the front of a slice, except by a refusal, which writes nothing
abbrev pub laid_by : Stop → List ℕ → List ℕ → List ℕ
laid_by s ns old = cond (is_refusal s) old (put old 0 ns)

-- the run's numbers after some lines, and both counts
pub record LaidAfter (run counts : List ℕ) (after : Run) (used wrote : ℕ) (run' counts' : List ℕ) : Type 0 where
  pub kept : run' ≡ put run 0 (run_numbers after)
  pub counted : counts' ≡ put counts 0 (used ∷ wrote ∷ [])

-- the same for lines that were taken, unless the call was refused; and its answer
pub record LaidTaken (run counts : List ℕ) (t : Taken) (run' counts' : List ℕ) (r : ℕ) : Type 0 where
  pub answer : r ≡ stop_number t.stop
  pub kept : run' ≡ laid_by t.stop (run_numbers t.run) run
  pub counted : counts' ≡ laid_by t.stop (t.used ∷ t.wrote ∷ []) counts

-- what the bytes come to on the run that the numbers stand for; a slice that is too short is answered as a short table
unfoldable pub fed_on : Feed → List ℕ → List ℕ → List ℕ → List ℕ → List ℕ → List ℕ → List ℕ → Fed Lent
fed_on of run bytes buys sells room out counts =
    where_long run run_length counts counts_length
    (of (run_from run) buys sells room bytes out)
    (halted calls (Stop.Refused SmallRoom) (run_from run).stage (lent_of (run_from run).session buys sells room))

-- the run after the bytes
abbrev pub run_after : Fed Lent → Run
run_after f = record { stage = f.stage; session = f.world.session }

-- the answer, and every lent slice afterwards, given what the bytes come to
pub record FedLeft (f : Fed Lent) (run out counts run' buys' sells' room' out' counts' : List ℕ) (r : ℕ) : Type 0 where
  pub answer : r ≡ stop_number f.stop
  pub kept : run' ≡ laid_by f.stop (run_numbers (run_after f)) run
  pub bought : buys' ≡ f.world.buys
  pub sold : sells' ≡ f.world.sells
  pub told : room' ≡ f.world.room
  pub printed : out' ≡ laid out f.text
  pub counted : counts' ≡ laid_by f.stop (f.used ∷ length f.text ∷ []) counts

-- THE CONTRACT of `kakoludar_feed`, with `fed_of`, and of `kakoludar_end`, with `ended_of`
pub record FedAs (of : Feed)
    (run bytes buys sells room out counts run' buys' sells' room' out' counts' : List ℕ) (r : ℕ) : Type 0 where
  pub left : FedLeft (fed_on of run bytes buys sells room out counts) run out counts run' buys' sells' room' out' counts' r
