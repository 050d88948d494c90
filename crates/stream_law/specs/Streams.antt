-- A run whose input is read in pieces and whose output is sent on.
use Rattle.std.specs.Prelude.{ℕ, ◌-◌, ◌*◌, ◌≤◌, ◌<◌, ◌≡◌, Bool, true, false, not, cond, ◌&&◌, List, [], ◌++◌, length, take, drop, replicate, eqb}
use Rattle.terms.specs.Sizes.{line_room}
use Rattle.engine_law.specs.Calls.{LongEnough}
use Rattle.feed_law.specs.declared.Run.{Run}
use Rattle.feed_law.specs.declared.Stage.{Stage}
use Rattle.feed_law.specs.declared.Stop.{Stop}
use Rattle.feed_law.specs.declared.Turned.{Turned}
use Rattle.feed_law.specs.Texts.{text_most, end_text}
use Rattle.feed_law.specs.Turns.{Says, printing, printed}
use Rattle.feed_law.specs.Feeds.{fresh_run, TurnTaken}
use Rattle.resume_law.specs.Pieces.{too_many}
use Rattle.promises.specs.Printed.{Holding, to_say}
use Rattle.stream_law.specs.declared.Source.{Source}
use Rattle.stream_law.specs.declared.Sink.{Sink}
use Rattle.stream_law.specs.declared.Finish.{Finish}
use Rattle.stream_law.specs.declared.Handed.{Handed}
use Rattle.stream_law.specs.declared.Buffered.{Buffered}
use Rattle.stream_law.specs.declared.Reading.{Reading}
use Rattle.stream_law.specs.declared.Mode.{Mode}
use Rattle.stream_law.specs.Sources.{Gives, Leads}
use Rattle.stream_law.specs.Sinks.{SentAs, is_open, finish_of, saved_part, shown_part}

-- ---- what a program hands on

-- a program that keeps its day in a file: of each line first the bytes that are to be saved, with a wait for the disk, and only then its text;
-- and at the end, the end's text
abbrev pub logging : Says ℕ
logging = record { line = λ saved text. saved_part saved ++ shown_part text; end = λ stage n. shown_part (end_text stage n) }

-- by whether the day is kept: if not, just what is printed
abbrev pub says_of : Mode → Says ℕ
says_of Mode.Bare = printing
says_of (Mode.Keeping file) = logging

-- ---- one call of feed

-- the program's output room: it holds the most that two lines of input can print, so that the output of many lines goes out in one write
abbrev pub out_room : ℕ
out_room = text_most * 2

abbrev pub zeros : ℕ → List ℕ
zeros n = replicate n 0

abbrev pub is_full : Stop → Bool
is_full Stop.Waits = false
is_full Stop.Full = true
is_full Stop.Over = false
is_full (Stop.Refused r) = false

-- more lines are to be taken: the room was full, and more may be sent
abbrev pub more_after : Stop → Sink → Bool
more_after stop to = is_full stop && is_open to

-- THE CONTRACT of a line's turn on tables and in rooms that are long enough
pub record TurnLong (run : Run) (buys sells room bytes out buys' sells' room' out' : List ℕ) (r : Turned) : Type 0 where
  pub long : LongEnough buys sells room
  pub taken : TurnTaken run buys sells room bytes out buys' sells' room' out' r

-- ---- many calls, and reads between them

abbrev pub holding : Run → List ℕ → List ℕ → List ℕ → Holding
holding run buys sells kept = record { run = run; buys = buys; sells = sells; kept = kept }

-- A run goes from one standing to another: some bytes were read and some text was sent. Whatever bytes follow, this text and what is then
-- still to be said are what was to be said before.
pub record Goes (says : Says ℕ) (expected : List ℕ) (a : Holding) (to : Sink) (got : List ℕ) (b : Holding) (to' : Sink) : Type 0 where
  pub text : List ℕ
  pub said : (more : List ℕ) → to_say says a (got ++ more) ≡ text ++ to_say says b more
  pub sent : SentAs expected to text to'

-- no whole line is left: what is still to be said is what the end says, and what is kept is the start of a line
pub record NoLine (says : Says ℕ) (h : Holding) : Type 0 where
  pub end : to_say says h [] ≡ says.end h.run.stage (length h.kept)
  pub short : (h.run.stage ≡ Stage.Over → ⊥) → length h.kept ≤ line_room

-- more lines are to be taken behind a line: it was whole, and more may be sent
abbrev pub still_going : ℕ → Sink → Bool
still_going used to = not (eqb used 0) && is_open to

abbrev pub handed_to : Run → ℕ → Sink → Handed
handed_to run used to = record { run = run; used = used; to = to; more = false }

-- what a run holds after bytes were handed over
abbrev pub handed_on : Holding → List ℕ → List ℕ → Handed → Holding
handed_on a buys' sells' r = holding r.run buys' sells' (drop r.used a.kept)

-- THE CONTRACT of a step, which hands on one line or many: where more lines are to be taken, some were; where the sink is shut, no more are;
-- and where it is open and no more are, no whole line is left
pub record HandsOn (says : Says ℕ) (expected : List ℕ) (a : Holding) (to : Sink) (buys' sells' : List ℕ) (r : Handed) : Type 0 where
  pub within : r.used ≤ length a.kept
  pub goes : Goes says expected a to [] (handed_on a buys' sells' r) r.to
  pub some : r.more ≡ true → 0 < r.used
  pub shut : is_open r.to ≡ false → r.more ≡ false
  pub none : is_open r.to ≡ true → r.more ≡ false → NoLine says (handed_on a buys' sells' r)

-- THE CONTRACT of `hand_over`: all whole lines are taken, unless the sink was shut before
pub record OverAs (says : Says ℕ) (expected : List ℕ) (a : Holding) (to : Sink) (buys' sells' : List ℕ) (r : Handed) : Type 0 where
  pub within : r.used ≤ length a.kept
  pub goes : Goes says expected a to [] (handed_on a buys' sells' r) r.to
  pub lines : is_open r.to ≡ true → NoLine says (handed_on a buys' sells' r)

-- ---- reads

-- more is to be read
abbrev pub is_on : Reading → Bool
is_on Reading.On = true
is_on Reading.Done = false
is_on Reading.Failed = false

-- whether to read on after a call: not where the run is over or the sink is shut
abbrev pub reading_after : Stage → Sink → Reading
reading_after Stage.Awaiting to = cond (is_open to) Reading.On Reading.Done
reading_after Stage.Trading to = cond (is_open to) Reading.On Reading.Done
reading_after Stage.Over to = Reading.Done

abbrev pub held_as : Run → ℕ → Sink → Reading → Buffered
held_as run have to reading = record { run = run; have = have; to = to; reading = reading }

-- what a run holds whose unfinished line stands at a buffer's front
abbrev pub held_on : List ℕ → List ℕ → List ℕ → Buffered → Holding
held_on buf buys sells h = holding h.run buys sells (take h.have buf)

-- what stands at the front is within the buffer; and where more is to be read it is short, so there is room for a read behind it
pub record BufferRoom (buf : List ℕ) (h : Buffered) : Type 0 where
  pub within : h.have ≤ length buf
  pub short : h.reading ≡ Reading.On → h.have ≤ line_room

-- the bytes from start to end now stand at the buffer's front
pub record ToFront (buf : List ℕ) (start end : ℕ) (buf' : List ℕ) : Type 0 where
  pub front : take (end - start) buf' ≡ drop start (take end buf)

-- THE CONTRACT of `take_in`: the bytes in the buffer are handed over, and those that are left are moved to its front
pub record TakesIn (says : Says ℕ) (expected : List ℕ) (run : Run) (buf : List ℕ) (end : ℕ) (buys sells : List ℕ) (to : Sink) (buf' buys' sells' : List ℕ) (r : Buffered) : Type 0 where
  pub room : BufferRoom buf' r
  pub goes : Goes says expected (holding run buys sells (take end buf)) to [] (held_on buf' buys' sells' r) r.to
  pub reading : r.reading ≡ reading_after r.run.stage r.to

-- a read behind what is kept leaves that as it was
pub record FrontKept (have : ℕ) (buf buf' : List ℕ) : Type 0 where
  pub same : length buf' ≡ length buf
  pub front : take have buf' ≡ take have buf

-- WHY NO MORE IS READ: the source is at its end; or the run is over or the sink is shut; or a read failed
pub data StopsAs (given : List ℕ) (from : Source) (h : Buffered) : Type 0 where
  goes_on : h.reading ≡ Reading.On → StopsAs given from h
  ended : h.reading ≡ Reading.Done → Gives given from [] true → StopsAs given from h
  over : h.reading ≡ Reading.Done → reading_after h.run.stage h.to ≡ Reading.Done → StopsAs given from h
  failed : h.reading ≡ Reading.Failed → Gives given from [] false → StopsAs given from h

-- THE CONTRACT of a read, and of many: bytes came, and what they come to was sent or is still to be said; where more is to be read, at least so
-- many came
pub record Hears (says : Says ℕ) (expected given : List ℕ) (least : ℕ) (a : Holding) (from : Source) (to : Sink) (buf' buys' sells' : List ℕ) (r : Buffered)
    (from' : Source) : Type 0 where
  pub room : BufferRoom buf' r
  pub got : List ℕ
  pub goes : Goes says expected a to got (held_on buf' buys' sells' r) r.to
  pub leads : Leads given from got from'
  pub stops : StopsAs given from' r
  pub some : r.reading ≡ Reading.On → least ≤ length got

-- the same, for a run that holds an unfinished line at the front of a buffer
pub record HearsOn (says : Says ℕ) (expected given : List ℕ) (least : ℕ) (h : Buffered) (from : Source) (buf buys sells buf' buys' sells' : List ℕ) (r : Buffered)
    (from' : Source) : Type 0 where
  pub hears : Hears says expected given least (held_on buf buys sells h) from h.to buf' buys' sells' r from'

-- ---- the end

-- what the end prints, as it is sent
abbrev pub end_by : Mode → List ℕ → List ℕ
end_by Mode.Bare text = text
end_by (Mode.Keeping file) text = shown_part text

-- THE CONTRACT of the end: all that is said of the bytes that are left is sent
pub record EndsAs (says : Says ℕ) (expected : List ℕ) (a : Holding) (to r : Sink) : Type 0 where
  pub sent : SentAs expected to (to_say says a []) r

-- ---- a whole run

-- the reading came to its end without a failure
abbrev pub is_done : Reading → Bool
is_done Reading.On = false
is_done Reading.Done = true
is_done Reading.Failed = false

-- THE CONTRACT of the end of a run, by what is kept of it: not all could be read; or all is sent that is said of what is held
pub data EndedAs (says : Says ℕ) (expected : List ℕ) (b : Holding) (h : Buffered) (r : Finish) : Type 0 where
  broken : is_done h.reading ≡ false → r ≡ Finish.Unread → EndedAs says expected b h r
  sent : (last : Sink) → is_done h.reading ≡ true → SentAs expected h.to (to_say says b []) last → r ≡ finish_of expected last → EndedAs says expected b h r

-- how a run ends that sends this text
pub record Finished (expected : List ℕ) (to : Sink) (text : List ℕ) (r : Finish) : Type 0 where
  pub sink : Sink
  pub sent : SentAs expected to text sink
  pub finish : r ≡ finish_of expected sink

-- the run was over, or the sink was shut, before all of some bytes were taken
pub record Stops (says : Says ℕ) (expected : List ℕ) (a : Holding) (to : Sink) (input : List ℕ) : Type 0 where
  pub got : List ℕ
  pub rest : List ℕ
  pub all : input ≡ got ++ rest
  pub b : Holding
  pub to' : Sink
  pub goes : Goes says expected a to got b to'
  pub over : reading_after b.run.stage to' ≡ Reading.Done

-- THE CONTRACT of a whole run from a standing on, by what the reads give: a read failed, when what had come was sent or was still to be said; or
-- there are too many bytes; or all was sent that is said of all bytes and of the end, though a read might have failed behind those that the run
-- needed
pub data ThroughAs (says : Says ℕ) (expected : List ℕ) (gives : List ℕ → Bool → Type 0) (a : Holding) (to : Sink) (r : Finish) : Type 0 where
  unread : (input : List ℕ) (b : Holding) (to' : Sink) → gives input false → Goes says expected a to input b to' → r ≡ Finish.Unread →
      ThroughAs says expected gives a to r
  too_long : (input : List ℕ) (whole : Bool) → gives input whole → too_many ≤ length input → r ≡ Finish.Unread → ThroughAs says expected gives a to r
  all_read : (input : List ℕ) → gives input true → Finished expected to (to_say says a input) r → ThroughAs says expected gives a to r
  stopped : (input : List ℕ) (whole : Bool) → gives input whole → Stops says expected a to input → Finished expected to (to_say says a input) r →
      ThroughAs says expected gives a to r

-- THE CONTRACT of `through`: a day from its first line on, of which only what THE PROGRAM prints is sent; the tables may hold anything
pub record FreshThrough (expected : List ℕ) (gives : List ℕ → Bool → Type 0) (to : Sink) (r : Finish) : Type 0 where
  pub buys : List ℕ
  pub sells : List ℕ
  pub run : ThroughAs printing expected gives (holding fresh_run buys sells []) to r

-- what the answer of a comparison says of the text that was sent
abbrev pub Tells : List ℕ → List ℕ → Finish → Type 0
Tells text expected Finish.Printed = ⊥
Tells text expected Finish.Same = text ≡ expected
Tells text expected Finish.Differs = text ≡ expected → ⊥
Tells text expected Finish.Unread = ⊥
Tells text expected Finish.Unsaved = ⊥
Tells text expected Finish.Unwritten = ⊥

-- THE CONTRACT of `compare`: the answer is right for all that THE PROGRAM prints for a text
pub record Compares (given expected : List ℕ) (r : Finish) : Type 0 where
  pub tells : length given < too_many → Tells (printed given) expected r

-- THE CONTRACT of `print`: it answers whether all was read and printed, and never as a comparison does
abbrev pub PrintedAs : Finish → Type 0
PrintedAs Finish.Printed = Unit {0}
PrintedAs Finish.Same = ⊥
PrintedAs Finish.Differs = ⊥
PrintedAs Finish.Unread = Unit {0}
PrintedAs Finish.Unsaved = Unit {0}
PrintedAs Finish.Unwritten = Unit {0}
