-- What the replay of saved lines leaves in lent numbers: what code needs, beside the definitions in Rebuilt.
use Rattle.std.specs.Prelude.{ℕ, ◌+◌, ◌^◌, ◌≤◌, ◌<◌, ◌≡◌, Bool, true, false, cond, List, [], length, drop, Ok, Err}
use Rattle.terms.specs.declared.Event.{Event}
use Rattle.terms.specs.declared.Refusal.TheVariants.{LineWrong, LineRefused}
use Rattle.tables.specs.Lengths.{table_length, room_length}
use Rattle.tables.specs.Put.{put}
use Rattle.tables.specs.Tables.{table_of}
use Rattle.lines_text_law.specs.Grammar.{whole}
use Rattle.lines_reading_law.specs.Answers.{read_event}
use Rattle.state_law.specs.declared.Session.{Session}
use Rattle.state_law.specs.Opening.{fixed_session}
use Rattle.soundness_law.specs.Sound.{day_in}
use Rattle.engine_law.specs.Answers.{Answer}
use Rattle.engine_law.specs.declared.Applied.{Applied}
use Rattle.engine_law.specs.Calls.{LongTables, LongEnough, AppliedAs}
use Rattle.resume_law.specs.Answers.{Comeback, SavedLine, bad_at}
use Rattle.resume_law.specs.declared.Halted.{Halted}
use Rattle.resume_law.specs.declared.Halt.{Halt}
use Rattle.resume_law.specs.declared.Replayed.{Replayed}
use Rattle.resume_law.specs.declared.Resumed.{Resumed}
use Rattle.resume_law.specs.declared.LineReplayed.{LineReplayed}
use Rattle.resume_law.specs.Rebuilt.{Rebuilt, Step, step_of, used_by, lines_from, resumed}
use Rattle.resume_law.specs.Calls.{ResumedBy, Scrubbed}

-- ---- one line

-- the tables hold what the session says, and zeros behind it, as an accepted event leaves them
pub record Clean (s : Session) (buys sells : List ℕ) : Type 0 where
  pub bought : buys ≡ table_of (day_in s buys sells).buys buys
  pub sold : sells ≡ table_of (day_in s buys sells).sells sells

-- a line was read and applied; where none was whole, nothing was written
pub record LineReplayedAs (t : Step) (buys sells buys' sells' : List ℕ) (r : LineReplayed) : Type 0 where
  pub line : r.line ≡ t.line
  pub day : day_in r.session buys' sells' ≡ t.day
  pub clean : (used_by t.line ≡ 0 → ⊥) → Clean r.session buys' sells'
  pub same : t.line ≡ Err Halt.Unfinished → (buys' ≡ buys) × (sells' ≡ sells)

-- THE CONTRACT of an event that is applied on slices that are long enough for any
pub record AppliedLong (s : Session) (e : Event) (buys sells room buys' sells' room' : List ℕ) (r : Applied) : Type 0 where
  pub applied : AppliedAs s e buys sells room buys' sells' room' r
  pub long : LongEnough buys sells room

-- what became of a line, by the engine's answer to its event
abbrev pub line_for : Answer → ℕ → SavedLine
line_for (Ok count) used = Ok used
line_for (Err r) used = Err Halt.Refused

abbrev pub line_replayed_to : SavedLine → Session → LineReplayed
line_replayed_to line session = record { line = line; session = session }

-- the place of the first wrong byte
abbrev pub place_in : Halt → ℕ
place_in Halt.Refused = 0
place_in Halt.Unfinished = 0
place_in (Halt.Wrong n) = n

-- and in a line; 0 where it is applied
abbrev pub place_on : SavedLine → ℕ
place_on (Ok n) = 0
place_on (Err h) = place_in h

-- THE CONTRACTS of a whole line of an event; of the line that bytes begin with, which lies within them; and of the line from a place on
pub record EventReplayed (session : Session) (event : Event) (used : ℕ) (buys sells buys' sells' : List ℕ) (r : LineReplayed) : Type 0 where
  pub replayed : LineReplayedAs (step_of (day_in session buys sells) (whole event used)) buys sells buys' sells' r

pub record LineTold (session : Session) (bytes buys sells buys' sells' : List ℕ) (r : LineReplayed) : Type 0 where
  pub replayed : LineReplayedAs (step_of (day_in session buys sells) (read_event bytes)) buys sells buys' sells' r
  pub used_there : used_by r.line ≤ length bytes
  pub place_there : place_on r.line ≤ length bytes

pub record LineFrom (session : Session) (bytes : List ℕ) (at : ℕ) (buys sells buys' sells' : List ℕ) (r : LineReplayed) : Type 0 where
  pub replayed : LineReplayedAs (step_of (day_in session buys sells) (read_event (drop at bytes))) buys sells buys' sells' r
  pub used_there : at + used_by r.line ≤ length bytes
  pub place_there : at + place_on r.line ≤ length bytes

-- ---- all of them

abbrev pub replayed_to : Comeback → Session → Bool → Replayed
replayed_to answer session moved = record { answer = answer; session = session; moved = moved }

-- where no line is applied at a place
abbrev pub stopped_at : Halt → ℕ → Session → Bool → Replayed
stopped_at Halt.Refused at s moved = replayed_to (bad_at LineRefused at) fixed_session false
stopped_at Halt.Unfinished at s moved = replayed_to (Ok at) s moved
stopped_at (Halt.Wrong n) at s moved = replayed_to (bad_at LineWrong (at + n)) fixed_session false

-- all event lines of the bytes from a place on, on what lent numbers hold; and on a session without orders
abbrev pub held_from : List ℕ → ℕ → Session → List ℕ → List ℕ → Rebuilt
held_from bytes first s buys sells = lines_from (length bytes) first false (day_in s buys sells) (drop first bytes)

abbrev pub bare_from : List ℕ → ℕ → Session → Rebuilt
bare_from bytes first s = lines_from (length bytes) first false (record { session = s; buys = []; sells = [] }) (drop first bytes)

-- the tables hold the orders that are left, where an event was among the lines
pub record ReplayedAs (x : Rebuilt) (buys sells : List ℕ) (r : Replayed) : Type 0 where
  pub answer : r.answer ≡ x.answer
  pub session : r.session ≡ x.day.session
  pub moved : r.moved ≡ x.moved
  pub bought : x.moved ≡ true → buys ≡ table_of x.day.buys buys
  pub sold : x.moved ≡ true → sells ≡ table_of x.day.sells sells

-- no more bytes count than there are
abbrev pub CountsWithin : ℕ → Comeback → Type 0
CountsWithin n (Ok k) = k ≤ n
CountsWithin n (Err b) = Unit {0}

-- THE CONTRACT of `replay_lines`
pub record LinesReplayed (bytes : List ℕ) (first : ℕ) (s : Session) (buys sells buys' sells' : List ℕ) (r : Replayed) : Type 0 where
  pub replayed : ReplayedAs (held_from bytes first s buys sells) buys' sells' r
  pub within : CountsWithin (length bytes) r.answer

-- the same where the replay halts, before it is said what that comes to; the place of a wrong byte is a number of the machine
pub record Halts (bytes : List ℕ) (x : Rebuilt) (buys sells : List ℕ) (h : Halted) : Type 0 where
  pub comes : ReplayedAs x buys sells (stopped_at h.halt h.at h.session h.moved)
  pub within : h.at ≤ length bytes
  pub fits : h.at + place_in h.halt < 2 ^ 64

-- the spare tables laid over the lent ones, where an event was among the lines
pub record LaidIf (moved : Bool) (buys sells bought sold buys' sells' : List ℕ) : Type 0 where
  pub first : buys' ≡ cond moved (put buys 0 bought) buys
  pub second : sells' ≡ cond moved (put sells 0 sold) sells

-- ---- scratch of just the lengths that a replay needs

pub record Scratch (bought sold room : List ℕ) : Type 0 where
  pub bought_length : length bought ≡ table_length
  pub sold_length : length sold ≡ table_length
  pub told_length : length room ≡ room_length

-- both tables and all scratch are long enough
pub record AllLong (buys sells bought sold room : List ℕ) : Type 0 where
  pub tables : LongTables buys sells
  pub scratch : LongEnough bought sold room

-- numbers of which only the first n may have changed
pub record Past (n : ℕ) (t t' : List ℕ) : Type 0 where
  pub same : drop n t' ≡ drop n t
  pub kept : length t' ≡ length t

-- THE CONTRACTS of a rebuilding on the first numbers of scratch that may be longer, and of one that leaves zeros there
pub record RebuiltIn (bytes buys sells bought sold room buys' sells' bought' sold' room' : List ℕ) (r : Resumed) : Type 0 where
  pub rebuilt : ResumedBy (resumed bytes) buys sells buys' sells' r
  pub first : Past table_length bought bought'
  pub second : Past table_length sold sold'
  pub third : Past room_length room room'
  pub long : LongEnough bought' sold' room'

pub record RebuiltLent (bytes buys sells bought sold room buys' sells' bought' sold' room' : List ℕ) (r : Resumed) : Type 0 where
  pub rebuilt : ResumedBy (resumed bytes) buys sells buys' sells' r
  pub scratch : Scrubbed true bought sold room bought' sold' room'
