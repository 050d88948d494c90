-- A DAY THAT IS KEPT IN A FILE. Document 02, item 4: "The app saves each accepted event as its line, after the settings line, before showing
-- any report."
use Rattle.std.specs.Prelude.{ℕ, ◌≤◌, ◌<◌, ◌≡◌, Bool, true, false, cond, ◌&&◌, List, [], ◌∷◌, ◌++◌, length, take, ℤ, Ok, Err, Result, is_ok, Option, Some, None}
use Rattle.terms.specs.declared.Refusal.{Refusal}
use Rattle.state_law.specs.declared.Session.{Session}
use Rattle.state_law.specs.Opening.{fixed_session}
use Rattle.state_law.specs.Day.{Day}
use Rattle.soundness_law.specs.Sound.{day_in}
use Rattle.feed_law.specs.declared.Run.{Run}
use Rattle.feed_law.specs.declared.Stage.{Stage}
use Rattle.feed_law.specs.Texts.{bad_text, end_text}
use Rattle.feed_law.specs.Worlds.{days}
use Rattle.feed_law.specs.Turns.{Says, printing, said_from}
use Rattle.feed_law.specs.Saving.{saving}
use Rattle.feed_law.specs.Feeds.{Prints}
use Rattle.resume_law.specs.Answers.{Comeback}
use Rattle.resume_law.specs.declared.Back.{Back}
use Rattle.resume_law.specs.Rebuilt.{resumed}
use Rattle.resume_law.specs.Pieces.{is_unbegun, tells_bad, too_many}
use Rattle.promises.specs.Printed.{Holding, day_on}
use Rattle.stream_law.specs.declared.Sink.{Sink}
use Rattle.stream_law.specs.declared.Finish.{Finish}
use Rattle.stream_law.specs.declared.NotKept.{NotKept}
use Rattle.stream_law.specs.Sinks.{CutAs, is_open, finish_of, settled, saved_part, shown_part}
use Rattle.stream_law.specs.Streams.{logging, ThroughAs, Finished, Tells}

-- ---- what is handed on, and in which order

-- bytes for the file, or text for the output
pub data Part : Type 0 where
  save : List ℕ → Part
  show : List ℕ → Part

-- of each line first what is to be saved of it, and then its text
abbrev pub handing : Says Part
handing = record { line = λ saved text. save saved ∷ show text ∷ []; end = λ stage n. show (end_text stage n) ∷ [] }

-- all that the file is handed, all that the output is, and both in one order, as a comparison sees it
unfoldable pub saves_of : List Part → List ℕ
saves_of [] = []
saves_of (save bytes ∷ ps) = bytes ++ saves_of ps
saves_of (show text ∷ ps) = saves_of ps

unfoldable pub shows_of : List Part → List ℕ
shows_of [] = []
shows_of (save bytes ∷ ps) = shows_of ps
shows_of (show text ∷ ps) = text ++ shows_of ps

unfoldable pub log_of : List Part → List ℕ
log_of [] = []
log_of (save bytes ∷ ps) = saved_part bytes ++ log_of ps
log_of (show text ∷ ps) = shown_part text ++ log_of ps

-- WHAT THE LOG IS OF: from wherever a day stands and whatever is read then, it is the log of parts of which all that is saved is `saving`'s and
-- all that is shown is what the program prints
pub record LogTells (stage : Stage) (d : Day) (input : List ℕ) : Type 0 where
  pub log : log_of (said_from days handing stage d input) ≡ said_from days logging stage d input
  pub saves : saves_of (said_from days handing stage d input) ≡ said_from days saving stage d input
  pub shows : shows_of (said_from days handing stage d input) ≡ said_from days printing stage d input

abbrev pub LogsTell : Type 0
LogsTell = (stage : Stage) (d : Day) (input : List ℕ) → LogTells stage d input

-- ---- a day goes on

-- a run stands at a day, and holds no bytes
pub record StandsAt (s : Stage) (d : Day) (a : Holding) : Type 0 where
  pub stage : a.run.stage ≡ s
  pub day : day_on a ≡ d
  pub none : a.kept ≡ []

-- the file is cut to its first n bytes, and then the input's lines are taken from where the day stands; or it could not be cut, and nothing is
-- read
pub data GoesOnFrom (expected : List ℕ) (gives : List ℕ → Bool → Type 0) (to : Sink) (n : ℕ) (stage : Stage) (d : Day) (r : Finish) : Type 0 where
  uncut : (cut : Sink) → CutAs expected to n cut → is_open cut ≡ false → r ≡ finish_of expected cut → GoesOnFrom expected gives to n stage d r
  on : (cut : Sink) (a : Holding) → CutAs expected to n cut → StandsAt stage d a → ThroughAs logging expected gives a cut r →
      GoesOnFrom expected gives to n stage d r

-- THE CONTRACT of `go_on`
pub record OnAs (expected : List ℕ) (gives : List ℕ → Bool → Type 0) (to : Sink) (n : ℕ) (a : Holding) (r : Finish) : Type 0 where
  pub goes : GoesOnFrom expected gives to n a.run.stage (day_on a) r

-- the run of a session that came back
abbrev pub trading_run : Session → Run
trading_run s = record { stage = Stage.Trading; session = s }

-- no day yet
abbrev pub no_day : Day
no_day = record { session = fixed_session; buys = []; sells = [] }

-- where none has begun the file is emptied, and the settings come from the input; any other first bad line is told, and nothing is read
abbrev pub RefusedBy : Bool → List ℕ → (List ℕ → Bool → Type 0) → Sink → Refusal → ℕ → Finish → Type 0
RefusedBy true expected gives to q place r = GoesOnFrom expected gives to 0 Stage.Awaiting no_day r
RefusedBy false expected gives to q place r = Finished expected to (shown_part (bad_text q place)) r

-- THE CONTRACT of `not_back`
pub record RefusedAs (expected : List ℕ) (gives : List ℕ → Bool → Type 0) (to : Sink) (q : Refusal) (place : ℕ) (r : Finish) : Type 0 where
  pub refused : RefusedBy (is_unbegun q) expected gives to q place r

-- THE CONTRACTS of the line of a bad line, which lies within the room, and of `tell_bad`
pub record BadLaid (q : Refusal) (place : ℕ) (out : List ℕ) (n : ℕ) (out' : List ℕ) : Type 0 where
  pub printed : Prints out (bad_text q place) n out'
  pub within : n ≤ length out

pub record BadTold (expected : List ℕ) (to : Sink) (q : Refusal) (place : ℕ) (r : Finish) : Type 0 where
  pub told : Finished expected to (shown_part (bad_text q place)) r

-- WHAT THE PROGRAM DOES by what the file comes back as: the day goes on behind the bytes that count, or nothing came back
abbrev pub KeepsAs : List ℕ → (List ℕ → Bool → Type 0) → Sink → Comeback → Day → Finish → Type 0
KeepsAs expected gives to (Ok n) d r = GoesOnFrom expected gives to n Stage.Trading d r
KeepsAs expected gives to (Err b) d r = RefusedBy (is_unbegun b.refusal) expected gives to b.refusal b.place r

-- THE CONTRACT of `begin`: so for the day that the tables hold
pub record BegunAs (expected : List ℕ) (gives : List ℕ → Bool → Type 0) (to : Sink) (back : Back) (buys sells : List ℕ) (r : Finish) : Type 0 where
  pub keeps : KeepsAs expected gives to back.answer (day_in back.session buys sells) r

-- THE CONTRACT of a day whose file is open, by what the reads of the file and those of the input give: one of the file failed, or it has too
-- many bytes; or the program did what the file's bytes come back as, and where those were not all, they have a bad line
pub data KeptAs (expected : List ℕ) (saves gives : List ℕ → Bool → Type 0) (to : Sink) (r : Result Finish NotKept) : Type 0 where
  unread : (bytes : List ℕ) → saves bytes false → r ≡ Err NotKept.NotRead → KeptAs expected saves gives to r
  long : (bytes : List ℕ) (whole : Bool) → saves bytes whole → too_many ≤ length bytes → r ≡ Err NotKept.NotRead → KeptAs expected saves gives to r
  ran : (bytes : List ℕ) (f : Finish) → saves bytes true → r ≡ Ok f → KeepsAs expected gives to (resumed bytes).answer (resumed bytes).day f →
      KeptAs expected saves gives to r
  told : (bytes : List ℕ) (whole : Bool) (f : Finish) → saves bytes whole → tells_bad (resumed bytes).answer ≡ true → r ≡ Ok f →
      KeepsAs expected gives to (resumed bytes).answer (resumed bytes).day f → KeptAs expected saves gives to r

-- ---- a comparison, with a file and an input that are lent as texts

-- the file is cut to its first n bytes, for which as many of the expected log stand; then there is a wait for the disk, and what is said of the
-- input from where the day stands
abbrev pub log_behind : ℕ → Stage → Day → List ℕ → List ℕ → List ℕ
log_behind n stage d given expected = (take n expected ++ settled) ++ said_from days logging stage d given

-- THE LOG of a day that is kept, by what its file comes back as
abbrev pub kept_log : Comeback → Day → List ℕ → List ℕ → List ℕ
kept_log (Ok n) d given expected = log_behind n Stage.Trading d given expected
kept_log (Err b) d given expected =
    cond (is_unbegun b.refusal) (log_behind 0 Stage.Awaiting no_day given expected) (shown_part (bad_text b.refusal b.place))

abbrev pub KeptTells : List ℕ → List ℕ → Result Finish NotKept → Type 0
KeptTells text expected (Ok f) = Tells text expected f
KeptTells text expected (Err e) = ⊥

-- THE CONTRACT of `compare`: the answer is right for the log of the two texts
pub record LogCompared (kept given expected : List ℕ) (r : Result Finish NotKept) : Type 0 where
  pub tells : length kept < too_many → length given < too_many → KeptTells (kept_log (resumed kept).answer (resumed kept).day given expected) expected r

-- the file could not be read; or it has a bad line, and the answer is right for what is told of that
pub data BrokenTells (kept given expected : List ℕ) (r : Result Finish NotKept) : Type 0 where
  not_read : r ≡ Err NotKept.NotRead → BrokenTells kept given expected r
  bad_line : tells_bad (resumed kept).answer ≡ true → KeptTells (kept_log (resumed kept).answer (resumed kept).day given expected) expected r →
      BrokenTells kept given expected r

-- THE CONTRACT of `compare_broken`
pub record BrokenCompared (kept given expected : List ℕ) (r : Result Finish NotKept) : Type 0 where
  pub tells : length kept < too_many → length given < too_many → BrokenTells kept given expected r

-- ---- the file is opened, to be read and to be appended to

-- both openings gave a descriptor
abbrev pub are_open : {E : Type 0} → Result ℤ E → Result ℤ E → Bool
are_open saved file = is_ok saved && is_ok file

-- the descriptors, to be read and to be appended to, where they are
abbrev pub opened_by : {E : Type 0} → Result ℤ E → Result ℤ E → Option (ℤ × ℤ)
opened_by (Ok saved) (Ok file) = Some (saved, file)
opened_by (Ok saved) (Err e) = None
opened_by (Err e) file = None

-- a descriptor gives some bytes or other
abbrev pub Any : List ℕ → Bool → Type 0
Any bytes whole = Unit {0}

abbrev pub KeptBy : Bool → Result Finish NotKept → Type 0
KeptBy true r = KeptAs [] Any Any Sink.Print r
KeptBy false r = r ≡ Err NotKept.NotOpened

-- THE CONTRACT of `keep_opened`: the day is kept just where both could be opened
pub record OpenedAs {E : Type 0} (saved file : Result ℤ E) (r : Result Finish NotKept) : Type 0 where
  pub kept : KeptBy (are_open saved file) r

-- THE CONTRACT of `keep`: there are the descriptors that the file was opened as, or errors of the type E in their place
pub record OpensAs (E : Type 0) (r : Result Finish NotKept) : Type 0 where
  pub saved : Result ℤ E
  pub file : Result ℤ E
  pub opened : OpenedAs saved file r
