-- TEXT IN PIECES: the run that a call writes is the one that the next call reads; and a refused call writes nothing.
use Prim.Native.Nat.{ℕ, ◌-◌, ◌≤◌}
use native.Mathlib.Omega.{arith}
use mathlib.Core.Path.{◌≡◌, refl, sym, ap, ◌∙◌}
use mathlib.Core.Bool.{true, false, true≢false}
use mathlib.Core.List.{List, [], ◌++◌}
use borrow.Author.Tests.{le-ltb}
use lib.Dec.{ltb}
use lib.ListN.{length, drop}
use Rattle.std.specs.Prelude.{Ok, Err}
use Rattle.terms.specs.declared.Event.{Event}
use Rattle.terms.specs.declared.Settings.{Settings}
use Rattle.terms.specs.Refusals.{Verdict}
use Rattle.terms.specs.declared.Refusal.TheVariants.{SmallRoom}
use Rattle.terms.specs.Sizes.{line_room}
use Rattle.terms.proofs.Logic.{by}
use Rattle.lines_text_law.specs.Grammar.{LineAnswer, whole, unfinished, wrong}
use Rattle.lines_reading_law.specs.Answers.{read_event, read_settings}
use Rattle.state_law.specs.declared.Session.{Session}
use Rattle.soundness_law.specs.Sound.{day_in}
use Rattle.acts_law.specs.Acts.{act}
use Rattle.engine_law.specs.Outcome.{decided}
use Rattle.engine_law.specs.Calls.{call_verdict, called}
use Rattle.feed_law.specs.declared.Run.{Run}
use Rattle.feed_law.specs.declared.Stage.{Stage}
use Rattle.feed_law.specs.declared.Stop.{Stop}
use Rattle.feed_law.specs.Worlds.{Lent, lent_of, calls}
use Rattle.feed_law.specs.Turns.{Fed, stop_at, halted, turn_of, settings_turn, event_turn, printed_from, fed_in, end_by, end_behind}
use Rattle.feed_law.specs.Pieces.{fed_to_end}
use Rattle.feed_law.specs.Feeds.{Feed, fresh_run, feed_verdict, lines_of, fed_by, fed_of, ended_of}
use Rattle.feed_law.proofs.Going.{fed_by_lem}
use Rattle.feed_law.proofs.Pieces.{pieces, end_prints_rest}
use Rattle.feed_law.proofs.Starts.{end-world}
use Rattle.desk_packing_law.proofs.Inverse.{from_ten}
use Rattle.desk_packing_law.specs.Stages.{run_length, is_run, run_from}
use Rattle.desk_law.specs.Feeding.{start_verdict, StartedAs, counts_length, is_refusal, fed_on, run_after, FedAs}
use Rattle.acts_law.proofs.Tens.{act_ten}
use Rattle.state_law.specs.code.Tens.{Ten}
use Rattle.state_law.proofs.Tens.{fixed_ten, opening_ten}
use Rattle.desk_packing_law.proofs.StageInverse.{run-laid_back}

-- ---- a session's arrays have ten numbers, whatever lines are taken

run_ten : (ns : List ℕ) → Ten (run_from ns).session
unfolding run_from
run_ten ns = by (λ (r : Run). Ten r.session) (is_run ns) _ _ (λ e. from_ten (drop 1 ns)) (λ e. fixed_ten)

called_ten : (s : Session) (e : Event) (buys sells room : List ℕ) → Ten s → Ten (called s e buys sells room).day.session
unfolding called
called_ten s e buys sells room t = go (call_verdict s e buys sells room)
  where
    go : (v : Verdict) → Ten (decided v (day_in s buys sells) (act (day_in s buys sells) e)).day.session
    go (Ok _) = act_ten (day_in s buys sells) e t
    go (Err r) = t

settings_ten : (l : Lent) (a : LineAnswer Settings) → Ten l.session → Ten (settings_turn calls l a).world.session
unfolding calls
settings_ten l (whole g n) t = opening_ten g
settings_ten l unfinished t = t
settings_ten l (wrong n) t = t

event_ten : (l : Lent) (a : LineAnswer Event) → Ten l.session → Ten (event_turn calls l a).world.session
unfolding calls
event_ten l (whole e n) t = called_ten l.session e l.buys l.sells l.room t
event_ten l unfinished t = t
event_ten l (wrong n) t = t

turn_ten : (stage : Stage) (l : Lent) (bytes : List ℕ) → Ten l.session → Ten (turn_of calls stage l bytes).world.session
turn_ten Stage.Awaiting l bytes t = settings_ten l (read_settings bytes) t
turn_ten Stage.Trading l bytes t = event_ten l (read_event bytes) t
turn_ten Stage.Over l bytes t = t

fed_ten : (left : ℕ) (stage : Stage) (l : Lent) (bytes : List ℕ) → Ten l.session → Ten (fed_in calls (length bytes) left stage l bytes).world.session
fed_ten left stage l bytes =
    fed_by_lem calls (λ left stage l xs f. Ten l.session → Ten f.world.session) (λ left stage l xs h t. t) (λ left stage l xs h t. t)
    (λ left stage l xs h z t. turn_ten stage l xs t) (λ left stage l xs f u k t. k (turn_ten stage l xs t)) (length bytes) left stage l bytes (omega arith)

-- ---- a call with long enough tables and room is not refused

stop-fine : (stage : Stage) → is_refusal (stop_at stage) ≡ false
stop-fine Stage.Awaiting = refl
stop-fine Stage.Trading = refl
stop-fine Stage.Over = refl

fed_fine : (left : ℕ) (stage : Stage) (l : Lent) (bytes : List ℕ) → is_refusal (fed_in calls (length bytes) left stage l bytes).stop ≡ false
fed_fine left stage l bytes =
    fed_by_lem calls (λ left stage l xs f. is_refusal f.stop ≡ false) (λ left stage l xs h. stop-fine stage) (λ left stage l xs h. refl)
    (λ left stage l xs h z. stop-fine (turn_of calls stage l xs).stage) (λ left stage l xs f u k. k) (length bytes) left stage l bytes (omega arith)

end-fine : (s : Stop) (left rest : ℕ) (f : Fed Lent) → is_refusal f.stop ≡ false → is_refusal (end_by calls s left rest f).stop ≡ false
end-fine Stop.Waits left rest f e = by (λ (x : Fed Lent). is_refusal x.stop ≡ false) (ltb left line_room) _ _ (λ _. refl) (λ _. refl)
end-fine Stop.Full left rest f e = e
end-fine Stop.Over left rest f e = e
end-fine (Stop.Refused r) left rest f e = e

-- ---- for feed and end alike: a session whose arrays have ten numbers stays one; and a refusal leaves everything as it was

-- the call leaves what is lent as it was, and prints nothing
pub record Idle (buys sells room : List ℕ) (f : Fed Lent) : Type 0 where
  pub bought : f.world.buys ≡ buys
  pub sold : f.world.sells ≡ sells
  pub told : f.world.room ≡ room
  pub silent : f.text ≡ []

pub record Calls (of : Feed) : Type 0 where
  pub ten : (run : Run) (buys sells room bytes out : List ℕ) → Ten run.session → Ten (of run buys sells room bytes out).world.session
  pub idle : (run : Run) (buys sells room bytes out : List ℕ) → is_refusal (of run buys sells room bytes out).stop ≡ true →
      Idle buys sells room (of run buys sells room bytes out)

pub feed_calls : Calls fed_of
unfolding fed_of
feed_calls =
    record {
      ten = λ run buys sells room bytes out. ten run buys sells room bytes out (feed_verdict buys sells room);
      idle = λ run buys sells room bytes out. idle run buys sells room bytes out (feed_verdict buys sells room);
    }
  where
    ten : (run : Run) (buys sells room bytes out : List ℕ) (v : Verdict) → Ten run.session → Ten (fed_by v run buys sells room bytes out).world.session
    ten run buys sells room bytes out (Ok _) t = fed_ten (length out) run.stage (lent_of run.session buys sells room) bytes t
    ten run buys sells room bytes out (Err r) t = t

    idle : (run : Run) (buys sells room bytes out : List ℕ) (v : Verdict) → is_refusal (fed_by v run buys sells room bytes out).stop ≡ true →
        Idle buys sells room (fed_by v run buys sells room bytes out)
    idle run buys sells room bytes out (Ok _) e =
        absurd (true≢false (sym e ∙ fed_fine (length out) run.stage (lent_of run.session buys sells room) bytes))
    idle run buys sells room bytes out (Err r) e = record { bought = refl; sold = refl; told = refl; silent = refl }

pub end-calls : Calls ended_of
unfolding ended_of end_behind
end-calls =
    record {
      ten = λ run buys sells room bytes out t.
          let f : Fed Lent = fed_of run buys sells room bytes out in
          rw (end-world calls f.stop (length out - length f.text) (length bytes - f.used) f) (feed_calls.ten run buys sells room bytes out t);
      idle = λ run buys sells room bytes out e.
          let f : Fed Lent = fed_of run buys sells room bytes out in
          end_idle f.stop (length out - length f.text) (length bytes - f.used) f refl e (λ q. feed_calls.idle run buys sells room bytes out q);
    }
  where
    end_idle : {buys sells room : List ℕ} (s : Stop) (left rest : ℕ) (f : Fed Lent) → f.stop ≡ s → is_refusal (end_by calls s left rest f).stop ≡ true →
        (is_refusal f.stop ≡ true → Idle buys sells room f) → Idle buys sells room (end_by calls s left rest f)
    end_idle Stop.Waits left rest f q e k = absurd (true≢false (sym e ∙ end-fine Stop.Waits left rest f (ap is_refusal q)))
    end_idle Stop.Full left rest f q e k = k e
    end_idle Stop.Over left rest f q e k = k e
    end_idle (Stop.Refused r) left rest f q e k = k e

-- ---- what a call writes, the next call reads

pub started_again : (run run' : List ℕ) (r : ℕ) → run_length ≤ length run → StartedAs run run' r → run_from run' ≡ fresh_run
unfolding start_verdict
started_again run run' r h o = ap run_from o.laid ∙ rw (le-ltb (length run) run_length h) (run-laid_back run fresh_run fixed_ten)

module _ (of : Feed) (law : Calls of)
    (run bytes buys sells room out counts run' buys' sells' room' out' counts' : List ℕ) (r : ℕ)
    (p : FedAs of run bytes buys sells room out counts run' buys' sells' room' out' counts' r) where
  abbrev fed : Fed Lent
  fed = fed_on of run bytes buys sells room out counts

  on-lines : run_length ≤ length run → counts_length ≤ length counts → fed ≡ of (run_from run) buys sells room bytes out
  unfolding fed_on
  on-lines h k = rw (le-ltb (length run) run_length h, le-ltb (length counts) counts_length k)

  -- the run that a call writes is the one that the next call reads
  pub fed_again : run_length ≤ length run → counts_length ≤ length counts → is_refusal fed.stop ≡ false →
      run_from run' ≡ run_after (of (run_from run) buys sells room bytes out)
  fed_again h k e =
      let i = on-lines h k in
      let t : Ten fed.world.session = rw i (law.ten (run_from run) buys sells room bytes out (run_ten run)) in
      ap run_from (p.left.kept ∙ rw e) ∙ (run-laid_back run (run_after fed) t ∙ ap run_after i)

  on_idle : is_refusal fed.stop ≡ true → Idle buys sells room fed
  unfolding fed_on
  on_idle =
      let P : Fed Lent → Type 0 = λ f. is_refusal f.stop ≡ true → Idle buys sells room f in
      let none : Idle buys sells room (halted calls (Stop.Refused SmallRoom) (run_from run).stage (lent_of (run_from run).session buys sells room)) =
      record { bought = refl; sold = refl; told = refl; silent = refl } in
      by P (ltb (length run) run_length) _ _ (λ _ _. none)
      (λ _. by P (ltb (length counts) counts_length) _ _ (λ _ _. none) (λ _. law.idle (run_from run) buys sells room bytes out))

  -- a refusal writes nothing
  pub refusal_writes_nothing : is_refusal fed.stop ≡ true →
      (run' ≡ run) × (buys' ≡ buys) × (sells' ≡ sells) × (room' ≡ room) × (out' ≡ out) × (counts' ≡ counts)
  refusal_writes_nothing e =
      let i = on_idle e in
      let l = p.left in (
        l.kept ∙ rw e,
        l.bought ∙ i.bought,
        l.sold ∙ i.sold,
        l.told ∙ i.told,
        l.printed ∙ rw i.silent,
        l.counted ∙ rw e,
      )

-- ---- text in pieces

-- all that a run, kept as numbers, prints for some bytes
abbrev pub printed_by : List ℕ → List ℕ → List ℕ → List ℕ → List ℕ → List ℕ
printed_by run buys sells room bytes = printed_from calls (run_from run).stage (lent_of (run_from run).session buys sells room) bytes

-- a call that is not refused takes the lines of the bytes
of_lines : (run : Run) (buys sells room bytes out : List ℕ) → is_refusal (fed_of run buys sells room bytes out).stop ≡ false →
    fed_of run buys sells room bytes out ≡ lines_of run buys sells room bytes out
unfolding fed_of
of_lines run buys sells room bytes out = go (feed_verdict buys sells room)
  where
    go : (v : Verdict) → is_refusal (fed_by v run buys sells room bytes out).stop ≡ false → fed_by v run buys sells room bytes out ≡ lines_of run buys sells room bytes out
    go (Ok _) e = refl
    go (Err r) e = absurd (true≢false e)

module _ (run bytes buys sells room out counts run' buys' sells' room' out' counts' : List ℕ) (r : ℕ) (h : run_length ≤ length run)
    (k : counts_length ≤ length counts) where
  abbrev start : Run
  start = run_from run

  module _ (of : Feed) (law : Calls of)
      (p : FedAs of run bytes buys sells room out counts run' buys' sells' room' out' counts' r)
      (fine : is_refusal (fed_on of run bytes buys sells room out counts).stop ≡ false) where
    abbrev f : Fed Lent
    f = of start buys sells room bytes out

    is_f : fed_on of run bytes buys sells room out counts ≡ f
    is_f = on-lines of law run bytes buys sells room out counts run' buys' sells' room' out' counts' r p h k

    found : run_from run' ≡ run_after f
    found = fed_again of law run bytes buys sells room out counts run' buys' sells' room' out' counts' r p h k fine

    -- the stage that the next call reads, and the tables and room that it is lent
    next-stage : (run_from run').stage ≡ f.stage
    next-stage = ap (λ (x : Run). x.stage) found

    next_lent : lent_of (run_from run').session buys' sells' room' ≡ f.world
    next_lent =
        let l = p.left in
        rw (ap (λ (x : Run). x.session) found, l.bought, l.sold, l.told, is_f)

  -- what a feed prints, and what is then printed for the bytes left and those that follow, is together what is printed for all of them
  pub fed_pieces : FedAs fed_of run bytes buys sells room out counts run' buys' sells' room' out' counts' r →
      is_refusal (fed_on fed_of run bytes buys sells room out counts).stop ≡ false → (more : List ℕ) →
      let g : Fed Lent = fed_of start buys sells room bytes out in
      printed_by run buys sells room (bytes ++ more) ≡ g.text ++ printed_by run' buys' sells' room' (drop g.used bytes ++ more)
  fed_pieces p fine more =
      let j = of_lines start buys sells room bytes out (rw (is_f fed_of feed_calls p fine) at fine) in
      rw (next-stage fed_of feed_calls p fine, next_lent fed_of feed_calls p fine, j)
      (pieces calls (length out) start.stage (lent_of start.session buys sells room) bytes more)

  -- an end that is not refused takes the lines of the bytes, and then the end
  end-lines : is_refusal (ended_of start buys sells room bytes out).stop ≡ false →
      ended_of start buys sells room bytes out ≡ fed_to_end calls (length out) start.stage (lent_of start.session buys sells room) bytes
  unfolding ended_of end_behind
  end-lines e =
      let f : Fed Lent = fed_of start buys sells room bytes out in
      ap (λ (x : Fed Lent). end_behind calls (length out) (length bytes) x)
      (of_lines start buys sells room bytes out (before f.stop (length out - length f.text) (length bytes - f.used) f refl e))
    where
      before : (s : Stop) (left rest : ℕ) (f : Fed Lent) → f.stop ≡ s → is_refusal (end_by calls s left rest f).stop ≡ false → is_refusal f.stop ≡ false
      before Stop.Waits left rest f q e = ap is_refusal q
      before Stop.Full left rest f q e = e
      before Stop.Over left rest f q e = e
      before (Stop.Refused r) left rest f q e = e

  -- what the end prints, and what is then printed for the bytes left, is together what is printed for all of them; and unless the output room
  -- has to be emptied first, nothing is left to be printed
  pub ended_prints : FedAs ended_of run bytes buys sells room out counts run' buys' sells' room' out' counts' r →
      is_refusal (fed_on ended_of run bytes buys sells room out counts).stop ≡ false →
      let g : Fed Lent = ended_of start buys sells room bytes out in
      (printed_by run buys sells room bytes ≡ g.text ++ printed_by run' buys' sells' room' (drop g.used bytes))
      × ((g.stop ≡ Stop.Full → ⊥) → (g.stop ≡ Stop.Over) × (printed_by run' buys' sells' room' (drop g.used bytes) ≡ []))
  ended_prints p fine =
      let j = end-lines (rw (is_f ended_of end-calls p fine) at fine) in
      rw (next-stage ended_of end-calls p fine, next_lent ended_of end-calls p fine, j)
      (end_prints_rest calls (length out) start.stage (lent_of start.session buys sells room) bytes)
