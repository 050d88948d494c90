-- Document 01, "Session lines": a run of the program, a line at a time. "After each line the rest of the bytes is handed on from there".
use Rattle.std.specs.Prelude.{ℕ, zero, suc, ◌+◌, ◌-◌, cond, List, [], ◌++◌, length, take, drop, ltb, eqb, Ok, Err}
use Rattle.terms.specs.declared.Event.{Event}
use Rattle.terms.specs.declared.Settings.{Settings}
use Rattle.terms.specs.declared.Refusal.TheVariants.{LineWrong}
use Rattle.terms.specs.Refusals.{Verdict}
use Rattle.terms.specs.Sizes.{line_room}
use Rattle.lines_text_law.specs.Grammar.{LineAnswer, whole, unfinished, wrong}
use Rattle.lines_reading_law.specs.Answers.{read_event, read_settings}
use Rattle.state_law.specs.declared.Opened.{Opened}
use Rattle.state_law.specs.Opening.{opening_of, fixed_session}
use Rattle.feed_law.specs.declared.Stage.{Stage}
use Rattle.feed_law.specs.declared.Stop.{Stop}
use Rattle.feed_law.specs.Texts.{most_at, event_text, settings_text, bad_text, end_text}
use Rattle.feed_law.specs.Worlds.{World, days}

-- what the first line of some bytes comes to: where the run stands then, how many bytes the line has (0 where none was taken), how many of
-- them are to be saved, what it prints
pub record Turn (W : Type 0) : Type 0 where
  pub stage : Stage
  pub world : W
  pub used : ℕ
  pub saves : ℕ
  pub text : List ℕ

-- what many lines come to: where the run stands then, how many bytes were taken, what is printed, and why no more were taken
pub record Fed (W : Type 0) : Type 0 where
  pub stage : Stage
  pub world : W
  pub used : ℕ
  pub text : List ℕ
  pub stop : Stop

-- "a bad line and refused settings end the run, a refused event doesn't"
abbrev pub stage_by : Verdict → Stage
stage_by (Ok _) = Stage.Trading
stage_by (Err r) = Stage.Over

-- document 02, item 4: "The app saves each accepted event as its line, after the settings line"; all of a line, or nothing
abbrev pub saves_by : Verdict → ℕ → ℕ
saves_by (Ok _) n = n
saves_by (Err r) n = 0

abbrev pub stop_at : Stage → Stop
stop_at Stage.Awaiting = Stop.Waits
stop_at Stage.Trading = Stop.Waits
stop_at Stage.Over = Stop.Over

-- what is said of a line, of which some bytes are saved and some text is printed; and at the end of the input, by where the run stands and how
-- many bytes stand behind the last line
pub record Says (A : Type 0) : Type 0 where
  pub line : List ℕ → List ℕ → List A
  pub end : Stage → ℕ → List A

-- all that is printed
abbrev pub printing : Says ℕ
printing = record { line = λ saved text. text; end = end_text }

module _ {W : Type 0} (on : World W) where
  -- ---- one line

  -- the bytes hold no whole line yet: nothing is taken or printed
  abbrev pub waits : Stage → W → Turn W
  waits stage w = record { stage = stage; world = w; used = 0; saves = 0; text = [] }

  -- a wrong line is told as bad, and ends the run
  abbrev pub ends : W → ℕ → Turn W
  ends w place = record { stage = Stage.Over; world = w; used = 0; saves = 0; text = bad_text LineWrong place }

  -- settings open the session or end the run; an event is applied
  abbrev pub open_turn : W → ℕ → Opened → Turn W
  open_turn w n o =
      record {
        stage = stage_by o.verdict;
        world = on.opened w o.session;
        used = n;
        saves = saves_by o.verdict n;
        text = settings_text o.verdict;
      }

  abbrev pub apply_turn : W → ℕ → Event → Turn W
  apply_turn w n e =
      record {
        stage = Stage.Trading;
        world = on.next w e;
        used = n;
        saves = saves_by (on.verdict w e) n;
        text = event_text e (on.verdict w e) (on.reports w e);
      }

  -- what a reader's answer comes to: a whole line comes to k
  abbrev pub line_turn : {E : Type 0} → Stage → W → (ℕ → E → Turn W) → LineAnswer E → Turn W
  line_turn stage w k (whole e n) = k n e
  line_turn stage w k unfinished = waits stage w
  line_turn stage w k (wrong n) = ends w n

  abbrev pub settings_turn : W → LineAnswer Settings → Turn W
  settings_turn w = line_turn Stage.Awaiting w (λ n g. open_turn w n (opening_of g))

  abbrev pub event_turn : W → LineAnswer Event → Turn W
  event_turn w = line_turn Stage.Trading w (apply_turn w)

  -- the line of settings comes first, then lines of events; once the run is over, nothing
  abbrev pub turn_of : Stage → W → List ℕ → Turn W
  turn_of Stage.Awaiting w bytes = settings_turn w (read_settings bytes)
  turn_of Stage.Trading w bytes = event_turn w (read_event bytes)
  turn_of Stage.Over w bytes = waits Stage.Over w

  -- ---- all lines

  -- what is said of all the bytes that are left, where these hold at most n lines
  module _ {A : Type 0} (says : Says A) where
    unfoldable pub said_in : ℕ → Stage → W → List ℕ → List A
    said_in zero stage w bytes = says.end stage (length bytes)
    said_in (suc n) stage w bytes =
        let t : Turn W = turn_of stage w bytes in
        says.line (take t.saves bytes) t.text
        ++ cond (eqb t.used 0) (says.end t.stage (length bytes)) (said_in n t.stage t.world (drop t.used bytes))

    -- the same without n: each line has at least one byte, so there are no more lines than bytes
    abbrev pub said_from : Stage → W → List ℕ → List A
    said_from stage w bytes = said_in (length bytes) stage w bytes

  -- what is printed for all the bytes that are left
  abbrev pub printed_from : Stage → W → List ℕ → List ℕ
  printed_from stage w bytes = said_from printing stage w bytes

  -- ---- as many lines as there is room for: a line is taken only where the most that it can print fits in what is left of the room

  abbrev pub halted : Stop → Stage → W → Fed W
  halted stop stage w = record { stage = stage; world = w; used = 0; text = []; stop = stop }

  -- the last turn, which takes no line; or a line's turn and the lines behind it
  abbrev pub lastly : Turn W → Fed W
  lastly t = record { stage = t.stage; world = t.world; used = 0; text = t.text; stop = stop_at t.stage }

  abbrev pub ahead : Turn W → Fed W → Fed W
  ahead t f = record { stage = f.stage; world = f.world; used = t.used + f.used; text = t.text ++ f.text; stop = f.stop }

  unfoldable pub fed_in : ℕ → ℕ → Stage → W → List ℕ → Fed W
  fed_in zero left stage w bytes = halted (stop_at stage) stage w
  fed_in (suc n) left stage w bytes =
      let t : Turn W = turn_of stage w bytes in
      let more : Fed W = fed_in n (left - length t.text) t.stage t.world (drop t.used bytes) in
      cond (ltb 0 (length bytes))
      (cond (ltb left (most_at stage)) (halted Stop.Full stage w) (cond (eqb t.used 0) (lastly t) (ahead t more)))
      (halted (stop_at stage) stage w)

  -- ---- the end of the input, behind the lines that were taken

  -- the end waits: the room must be emptied first
  abbrev pub filled : Fed W → Fed W
  filled f = record { stage = f.stage; world = f.world; used = f.used; text = f.text; stop = Stop.Full }

  -- the end is told, with so many bytes left behind the last line, and the run is over
  abbrev pub finished : ℕ → Fed W → Fed W
  finished rest f = record { stage = Stage.Over; world = f.world; used = f.used; text = f.text ++ end_text f.stage rest; stop = Stop.Over }

  -- where no whole line is left, the end is told as soon as a line fits in what is left of the room
  abbrev pub end_by : Stop → ℕ → ℕ → Fed W → Fed W
  end_by Stop.Waits left rest f = cond (ltb left line_room) (filled f) (finished rest f)
  end_by Stop.Full left rest f = f
  end_by Stop.Over left rest f = f
  end_by (Stop.Refused r) left rest f = f

  -- the same for a room of so many bytes and an input of so many
  unfoldable pub end_behind : ℕ → ℕ → Fed W → Fed W
  end_behind left bytes f = end_by f.stop (left - length f.text) (bytes - f.used) f

-- THE PROGRAM: all that it prints for its input
unfoldable pub printed : List ℕ → List ℕ
printed bytes = printed_from days Stage.Awaiting (record { session = fixed_session; buys = []; sells = [] }) bytes
