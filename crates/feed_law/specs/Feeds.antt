-- The calls of feed, feed_turns and feed_prints on lent numbers: what each answers, and what it leaves.
use Rattle.std.specs.Prelude.{ℕ, ◌+◌, ◌≤◌, ◌≡◌, List, [], ◌∷◌, ◌++◌, length, take, drop, Ok, Err, Result}
use Rattle.std.specs.Result.{result_unwrap_or}
use Rattle.terms.specs.declared.Refusal.{Refusal}
use Rattle.terms.specs.declared.Refusal.TheVariants.{SmallRoom}
use Rattle.terms.specs.declared.Event.{Event}
use Rattle.terms.specs.declared.Settings.{Settings}
use Rattle.terms.specs.Sizes.{line_room}
use Rattle.terms.specs.Refusals.{Verdict, unless, first_failed}
use Rattle.state_law.specs.declared.Session.{Session}
use Rattle.state_law.specs.Opening.{opening_of, fixed_session}
use Rattle.engine_law.specs.Calls.{roomy}
use Rattle.lines_reading_law.specs.Answers.{read_event, read_settings}
use Rattle.feed_law.specs.declared.Run.{Run}
use Rattle.feed_law.specs.declared.Stage.{Stage}
use Rattle.feed_law.specs.declared.Stop.{Stop}
use Rattle.feed_law.specs.declared.Turned.{Turned}
use Rattle.feed_law.specs.declared.Taken.{Taken}
use Rattle.feed_law.specs.Texts.{record_text, end_text}
use Rattle.feed_law.specs.Worlds.{Lent, lent_of, calls}
use Rattle.feed_law.specs.Turns.{Turn, ends, open_turn, apply_turn, settings_turn, event_turn, turn_of, Fed, halted, fed_in, end_behind}

-- an output room with text at its start and the rest untouched
abbrev pub laid : List ℕ → List ℕ → List ℕ
laid out text = text ++ drop (length text) out

-- text was printed into out, which is out' afterwards, and its length was answered
pub record Prints (out text : List ℕ) (wrote : ℕ) (out' : List ℕ) : Type 0 where
  pub count : wrote ≡ length text
  pub laid : out' ≡ laid out text

-- the same, from place n of the room on
pub record PrintsFrom (n : ℕ) (out text : List ℕ) (wrote : ℕ) (out' : List ℕ) : Type 0 where
  pub count : wrote ≡ length text
  pub laid : out' ≡ take n out ++ laid (drop n out) text

-- THE CONTRACTS of what the end of the input prints, and of the line of a record: neither is longer than a line may be
pub record EndTold (stage : Stage) (rest : ℕ) (out : List ℕ) (wrote : ℕ) (out' : List ℕ) : Type 0 where
  pub printed : Prints out (end_text stage rest) wrote out'
  pub short : wrote ≤ line_room

pub record RecordTold (room : List ℕ) (at : ℕ) (out : List ℕ) (wrote : ℕ) (out' : List ℕ) : Type 0 where
  pub printed : Prints out (record_text (drop at room)) wrote out'
  pub short : wrote ≤ line_room

-- how many bytes a writer wrote: none where it refused
abbrev pub wrote_length : Result ℕ Refusal → ℕ
wrote_length r = result_unwrap_or r 0

-- ---- before the first line

abbrev pub fresh_run : Run
fresh_run = record { stage = Stage.Awaiting; session = fixed_session }

-- ---- one line

abbrev pub turn_by : Run → List ℕ → List ℕ → List ℕ → List ℕ → Turn Lent
turn_by run buys sells room bytes = turn_of calls run.stage (lent_of run.session buys sells room) bytes

abbrev pub turned_to : Stage → Session → ℕ → ℕ → ℕ → Turned
turned_to stage session used saves wrote = record { run = record { stage = stage; session = session }; used = used; saves = saves; wrote = wrote }

pub record TurnedAs (t : Turn Lent) (out buys' sells' room' out' : List ℕ) (r : Turned) : Type 0 where
  pub stage : r.run.stage ≡ t.stage
  pub world : lent_of r.run.session buys' sells' room' ≡ t.world
  pub used : r.used ≡ t.used
  pub saves : r.saves ≡ t.saves
  pub printed : Prints out t.text r.wrote out'

-- the tables play no part in this turn: it is the same whatever they hold
abbrev pub TablesAside : Session → (Lent → Turn Lent) → List ℕ → List ℕ → Turned → Type 0
TablesAside s t out out' r = (buys sells room : List ℕ) → TurnedAs (t (lent_of s buys sells room)) out buys sells room out' r

-- THE CONTRACTS of a bad line, of a whole line of settings, and of a whole line of an event
pub record BadTurned (session : Session) (place : ℕ) (out out' : List ℕ) (r : Turned) : Type 0 where
  pub turned : TablesAside session (λ l. ends calls l place) out out' r

pub record OpenTurned (settings : Settings) (used : ℕ) (out out' : List ℕ) (r : Turned) : Type 0 where
  pub turned : TablesAside fixed_session (λ l. open_turn calls l used (opening_of settings)) out out' r

pub record WholeTurned (session : Session) (event : Event) (used : ℕ) (buys sells room out buys' sells' room' out' : List ℕ) (r : Turned) : Type 0 where
  pub turned : TurnedAs (apply_turn calls (lent_of session buys sells room) used event) out buys' sells' room' out' r

-- THE CONTRACTS of the line of settings that is due, of the line of an event that is due, and of whichever is due
pub record SettingsTurned (session : Session) (bytes out out' : List ℕ) (r : Turned) : Type 0 where
  pub turned : TablesAside session (λ l. settings_turn calls l (read_settings bytes)) out out' r

pub record EventTurned (session : Session) (bytes buys sells room out buys' sells' room' out' : List ℕ) (r : Turned) : Type 0 where
  pub turned : TurnedAs (event_turn calls (lent_of session buys sells room) (read_event bytes)) out buys' sells' room' out' r

pub record TurnTaken (run : Run) (buys sells room bytes out buys' sells' room' out' : List ℕ) (r : Turned) : Type 0 where
  pub turned : TurnedAs (turn_by run buys sells room bytes) out buys' sells' room' out' r
  pub used_there : r.used ≤ length bytes
  pub saves_there : r.saves ≤ length bytes
  pub wrote_there : r.wrote ≤ length out

-- the same for the line from a place of the bytes on, printed behind what was written before
pub record LineTaken (run : Run) (buys sells room bytes : List ℕ) (at wrote : ℕ) (out buys' sells' room' out' : List ℕ) (r : Turned) : Type 0 where
  pub stage : r.run.stage ≡ (turn_by run buys sells room (drop at bytes)).stage
  pub world : lent_of r.run.session buys' sells' room' ≡ (turn_by run buys sells room (drop at bytes)).world
  pub used : r.used ≡ (turn_by run buys sells room (drop at bytes)).used
  pub printed : PrintsFrom wrote out (turn_by run buys sells room (drop at bytes)).text r.wrote out'
  pub used_there : at + r.used ≤ length bytes
  pub wrote_there : wrote + r.wrote ≤ length out

-- ---- all lines

-- what a run comes to on both tables, the report room, some bytes and the output room
abbrev pub Feed : Type 0
Feed = Run → List ℕ → List ℕ → List ℕ → List ℕ → List ℕ → Fed Lent

-- row 1: the tables and the report room must be long enough for any event
unfoldable pub feed_verdict : List ℕ → List ℕ → List ℕ → Verdict
feed_verdict buys sells room = first_failed (unless SmallRoom (roomy buys sells room) ∷ [])

-- the lines of the bytes that there is room for; none where row 1 refuses
abbrev pub lines_of : Feed
lines_of run buys sells room bytes out = fed_in calls (length bytes) (length out) run.stage (lent_of run.session buys sells room) bytes

abbrev pub fed_by : Verdict → Run → List ℕ → List ℕ → List ℕ → List ℕ → List ℕ → Fed Lent
fed_by (Ok _) run buys sells room bytes out = lines_of run buys sells room bytes out
fed_by (Err r) run buys sells room bytes out = halted calls (Stop.Refused r) run.stage (lent_of run.session buys sells room)

unfoldable pub fed_of : Feed
fed_of run buys sells room bytes out = fed_by (feed_verdict buys sells room) run buys sells room bytes out

-- these lines, and then the end of the input
unfoldable pub ended_of : Feed
ended_of run buys sells room bytes out = end_behind calls (length out) (length bytes) (fed_of run buys sells room bytes out)

-- each answer, and what every lent slice holds afterwards, by an equation
pub record TakenAs (f : Fed Lent) (out buys' sells' room' out' : List ℕ) (r : Taken) : Type 0 where
  pub stage : r.run.stage ≡ f.stage
  pub world : lent_of r.run.session buys' sells' room' ≡ f.world
  pub used : r.used ≡ f.used
  pub printed : Prints out f.text r.wrote out'
  pub stop : r.stop ≡ f.stop

-- THE CONTRACT of `take_lines`, with `fed_of`, and of `take_end`, with `ended_of`
pub record TakenBy (of : Feed) (run : Run)
    (buys sells room bytes out buys' sells' room' out' : List ℕ) (r : Taken) : Type 0 where
  pub taken : TakenAs (of run buys sells room bytes out) out buys' sells' room' out' r
  pub used_there : r.used ≤ length bytes
  pub wrote_there : r.wrote ≤ length out

abbrev pub taken_to : Run → ℕ → ℕ → Stop → Taken
taken_to run used wrote stop = record { run = run; used = used; wrote = wrote; stop = stop }

-- what the end of the input adds to lines that were taken, whatever these came to and whatever the tables hold
pub record EndsBehind (t : Taken) (bytes : ℕ) (out out' : List ℕ) (r : Taken) : Type 0 where
  pub ends :
      (f : Fed Lent) (out₀ buys sells room : List ℕ) → TakenAs f out₀ buys sells room out t → length out ≡ length out₀ →
      TakenAs (end_behind calls (length out₀) bytes f) out₀ buys sells room out' r
