-- A file that is read in pieces of any length: what is still to come back, and what came back at its end.
use Rattle.std.specs.Prelude.{ℕ, ◌+◌, ◌-◌, ◌^◌, ◌≤◌, ◌≡◌, Bool, true, false, not, List, [], ◌++◌, length, take, drop, eqb, Ok, Err}
use Rattle.terms.specs.declared.Refusal.{Refusal}
use Rattle.terms.specs.declared.Refusal.TheVariants.{LineUnfinished}
use Rattle.terms.specs.Refusals.{number_of}
use Rattle.lines_text_law.specs.Grammar.{unfinished}
use Rattle.lines_reading_law.specs.Answers.{read_event}
use Rattle.state_law.specs.declared.Session.{Session}
use Rattle.state_law.specs.Opening.{fixed_session}
use Rattle.state_law.specs.Day.{Day}
use Rattle.soundness_law.specs.Sound.{day_in}
use Rattle.resume_law.specs.Answers.{Comeback, bad_at}
use Rattle.resume_law.specs.declared.Replayed.{Replayed}
use Rattle.resume_law.specs.declared.Back.{Back}
use Rattle.resume_law.specs.declared.Passed.{Passed}
use Rattle.resume_law.specs.declared.Coming.{Coming}
use Rattle.resume_law.specs.Rebuilt.{Rebuilt, lines_from, resumed}

-- ---- what came back

-- it is what these bytes come back as; where they count, the tables hold the live orders of their day
pub record BackBy (x : Rebuilt) (buys' sells' : List ℕ) (r : Back) : Type 0 where
  pub answer : r.answer ≡ x.answer
  pub session : r.session ≡ x.day.session
  pub day : (n : ℕ) → x.answer ≡ Ok n → day_in r.session buys' sells' ≡ x.day

-- not even the settings line is whole, so that no day has begun
abbrev pub is_unbegun : Refusal → Bool
is_unbegun q = eqb (number_of q) (number_of LineUnfinished)

-- a bad line is told, whatever stands behind it; of an unfinished one the rest may follow
abbrev pub tells_bad : Comeback → Bool
tells_bad (Ok n) = false
tells_bad (Err b) = not (is_unbegun b.refusal)

-- so many bytes may not all be read: the machine's numbers end there, and the turns of reading
abbrev pub too_many : ℕ
too_many = 2 ^ 64 - 1

-- BY WHAT THE READS GIVE, these bytes and then the end (where true) or a read that fails: a read failed; or the bytes are too many; or all were
-- read, and what came back is theirs; or a bad line was met, and behind it nothing need be read
pub data BackOf (gives : List ℕ → Bool → Type 0) (size : List ℕ → ℕ) (comes : List ℕ → Rebuilt) (buys' sells' : List ℕ) (r : Back) : Type 0 where
  not_read : (bytes : List ℕ) → gives bytes false → r.read ≡ false → BackOf gives size comes buys' sells' r
  too_long : (bytes : List ℕ) (whole : Bool) → gives bytes whole → too_many ≤ size bytes → r.read ≡ false → BackOf gives size comes buys' sells' r
  all_read : (bytes : List ℕ) → gives bytes true → r.read ≡ true → BackBy (comes bytes) buys' sells' r → BackOf gives size comes buys' sells' r
  bad_met : (bytes : List ℕ) (whole : Bool) → gives bytes whole → tells_bad r.answer ≡ true → r.read ≡ true → BackBy (comes bytes) buys' sells' r →
      BackOf gives size comes buys' sells' r

-- THE CONTRACT of `come_back`
pub record BackAs (gives : List ℕ → Bool → Type 0) (buys' sells' : List ℕ) (r : Back) : Type 0 where
  pub comes : BackOf gives length resumed buys' sells' r

-- the same, for a file that begins with these bytes; behind them the reads give what follows
pub record BackBehind (gives : List ℕ → Bool → Type 0) (bytes buys' sells' : List ℕ) (r : Back) : Type 0 where
  pub comes : BackOf gives (λ (more : List ℕ). length (bytes ++ more)) (λ (more : List ℕ). resumed (bytes ++ more)) buys' sells' r

-- ---- from piece to piece

-- so many bytes were taken, they left this day, and these bytes were read behind them and not taken
pub record Standing : Type 0 where
  pub before : ℕ
  pub day : Day
  pub kept : List ℕ

abbrev pub standing : ℕ → Session → List ℕ → List ℕ → List ℕ → Standing
standing before s buys sells kept = record { before = before; day = day_in s buys sells; kept = kept }

-- all event lines of some bytes, which begin at a place, on a day
abbrev pub lines_of : ℕ → Day → List ℕ → Rebuilt
lines_of at d bytes = lines_from (length bytes) at false d bytes

-- the answer and the day, whether or not an event was among the lines
abbrev pub unmoved : Rebuilt → Rebuilt
unmoved x = record { answer = x.answer; moved = false; day = x.day }

-- WHAT IS STILL TO COME BACK, if these bytes follow
unfoldable pub to_come : Standing → List ℕ → Rebuilt
to_come a more = unmoved (lines_of a.before a.day (a.kept ++ more))

-- how many bytes were read, where these are read behind them
abbrev pub size_on : Standing → List ℕ → ℕ
size_on a more = a.before + length (a.kept ++ more)

-- these bytes were read, and the file went from one standing to another: whatever bytes follow, the same is to come back, and none is lost
pub record Onward (got : List ℕ) (a b : Standing) : Type 0 where
  pub same : (more : List ℕ) → to_come a (got ++ more) ≡ to_come b more
  pub count : (more : List ℕ) → size_on a (got ++ more) ≡ size_on b more

-- THE CONTRACT of all pieces, by what the reads give from there on
pub record BackFrom (gives : List ℕ → Bool → Type 0) (a : Standing) (buys' sells' : List ℕ) (r : Back) : Type 0 where
  pub comes : BackOf gives (size_on a) (to_come a) buys' sells' r

-- nothing more is to be read: a bad line was met, whatever follows; or the bytes that were read are too many
pub data Told (a : Standing) (buys' sells' : List ℕ) (r : Back) : Type 0 where
  told_bad : tells_bad r.answer ≡ true → r.read ≡ true → ((more : List ℕ) → BackBy (to_come a more) buys' sells' r) → Told a buys' sells' r
  told_long : too_many ≤ size_on a [] → r.read ≡ false → Told a buys' sells' r

-- ---- one piece

abbrev pub back_to : Comeback → Session → Back
back_to answer session = record { answer = answer; session = session; read = true }

-- not all could be read
abbrev pub unread_back : Back
unread_back = record { answer = Ok 0; session = fixed_session; read = false }

-- the first bytes were taken, and more may follow
abbrev pub passed_to : ℕ → ℕ → Session → Passed
passed_to used before session = record { used = used; before = before; back = back_to (Ok before) session; more = true }

-- nothing more is to be read
abbrev pub passed_end : Back → Passed
passed_end back = record { used = 0; before = 0; back = back; more = false }

-- these bytes are the start of a line, or none
pub record Starts (bytes : List ℕ) : Type 0 where
  pub start : read_event bytes ≡ unfinished

-- THE CONTRACT of `is_start`
pub record StartTold (bytes : List ℕ) (r : Bool) : Type 0 where
  pub yes : r ≡ true → Starts bytes
  pub no : r ≡ false → Starts bytes → ⊥

-- the number that an answer carries
abbrev pub place_of : Comeback → ℕ
place_of (Ok n) = n
place_of (Err b) = b.place

-- THE CONTRACT of `stood`: what the replay of a piece comes to, behind so many bytes of earlier ones; or the sum is no number of the machine
pub data StoodAs (t : Replayed) (before : ℕ) (r : Passed) : Type 0 where
  over : 2 ^ 64 ≤ before + place_of t.answer → r ≡ passed_end unread_back → StoodAs t before r
  counts : (n : ℕ) → t.answer ≡ Ok n → r ≡ passed_to n (before + n) t.session → StoodAs t before r
  refuses : (q : Refusal) (n : ℕ) → t.answer ≡ bad_at q n → r ≡ passed_end (back_to (bad_at q (before + n)) t.session) →
      StoodAs t before r

-- THE CONTRACT of `take_piece`: all whole lines are taken, and what is left is the start of a line; or all is told
pub record PassedAs (before : ℕ) (s : Session) (bytes buys sells buys' sells' : List ℕ) (r : Passed) : Type 0 where
  pub within : r.used ≤ length bytes
  pub on : r.more ≡ true → Onward [] (standing before s buys sells bytes) (standing r.before r.back.session buys' sells' (drop r.used bytes))
  pub left : r.more ≡ true → Starts (drop r.used bytes)
  pub off : r.more ≡ false → Told (standing before s buys sells bytes) buys' sells' r.back

-- ---- the buffer

abbrev pub coming_to : ℕ → ℕ → Session → Coming
coming_to have before session = record { have = have; before = before; back = back_to (Ok before) session; more = true }

abbrev pub coming_end : Back → Coming
coming_end back = record { have = 0; before = 0; back = back; more = false }

-- the standing of a file whose next bytes are at a buffer's front
abbrev pub stands_on : List ℕ → List ℕ → List ℕ → Coming → Standing
stands_on buf buys sells h = standing h.before h.back.session buys sells (take h.have buf)
