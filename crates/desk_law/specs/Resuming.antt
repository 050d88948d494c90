-- COMING BACK AFTER THE SYSTEM KILLS US (document 02, item 4), with numbers that an app keeps: what each call that resumes answers, and what it
-- leaves in every lent slice.
use Rattle.std.specs.Prelude.{ℕ, ◌≡◌, false, List, [], ◌∷◌, Ok, Err}
use Rattle.terms.specs.declared.Refusal.TheVariants.{SmallRoom}
use Rattle.tables.specs.Put.{put}
use Rattle.resume_law.specs.Answers.{Comeback}
use Rattle.resume_law.specs.declared.Resumed.{Resumed}
use Rattle.resume_law.specs.Rebuilt.{Rebuilt}
use Rattle.resume_law.specs.Calls.{table_after, resumed_if, resumed_on, all_long, Scrubbed}
use Rattle.desk_packing_law.specs.Runs.{session_length}
use Rattle.desk_packing_law.specs.Sessions.{session_numbers}
use Rattle.desk_packing_law.specs.Answers.{answer_number, answer_of}
use Rattle.desk_law.specs.Calls.{where_long}

-- ---- the answer, and the one number beside it

-- 0 where a session comes back, else the refusal. It is the code alone: saved bytes may be more than an answer can count
abbrev pub resume_number : Comeback → ℕ
resume_number (Ok n) = answer_number 0 0
resume_number (Err b) = answer_of (Err b.refusal) 0

-- how many numbers are lent for the place
abbrev pub place_length : ℕ
place_length = 1

-- what is written there: it "says how many bytes count", or the place of the refusal; "places count from the first saved byte"
abbrev pub place_number : Comeback → ℕ
place_number (Ok n) = n
place_number (Err b) = b.place

-- ---- what is written

-- the session that comes back, on a refusal the fixed session, and the place; and the answer
pub record LaidResumed (y : Resumed) (run place run' place' : List ℕ) (r : ℕ) : Type 0 where
  pub answer : r ≡ resume_number y.answer
  pub kept : run' ≡ put run 0 (session_numbers y.session)
  pub placed : place' ≡ put place 0 (place_number y.answer ∷ [])

-- `long` where the slices for the session and the place are long enough, `short` where one is not
abbrev pub where_kept : {A : Type 0} → List ℕ → List ℕ → A → A → A
where_kept run place long short = where_long run session_length place place_length long short

-- the answer, and both slices and both tables afterwards, given what the bytes come to: "resume rebuilds exactly the session and tables of the
-- settings and all whole events"; "any refusal leaves the tables as lent". Where the slice for the session or for the place is too short, the
-- answer is 1, as for a short table, and nothing at all is written
pub record ResumedLeft (x : Rebuilt) (run buys sells place run' buys' sells' place' : List ℕ) (r : ℕ) : Type 0 where
  pub answer : r ≡ where_kept run place (resume_number x.answer) (answer_of (Err SmallRoom) 0)
  pub kept : run' ≡ where_kept run place (put run 0 (session_numbers x.day.session)) run
  pub bought : buys' ≡ where_kept run place (table_after x.moved x.day.buys buys) buys
  pub sold : sells' ≡ where_kept run place (table_after x.moved x.day.sells sells) sells
  pub placed : place' ≡ where_kept run place (put place 0 (place_number x.answer ∷ [])) place

-- THE CONTRACT of `kakoludar_resume`
pub record ResumedInto (bytes run buys sells place run' buys' sells' place' : List ℕ) (r : ℕ) : Type 0 where
  pub left : ResumedLeft (resumed_on buys sells bytes) run buys sells place run' buys' sells' place' r

-- THE CONTRACT of `kakoludar_resume_lent`: the same, with lent scratch, which is zero afterwards, as far as it is used; with 1 it is as it was
pub record ResumedLentInto
    (bytes run buys sells place bought sold room run' buys' sells' place' bought' sold' room' : List ℕ) (r : ℕ) : Type 0 where
  pub left : ResumedLeft (resumed_if (all_long buys sells bought sold room) bytes) run buys sells place run' buys' sells' place' r
  pub scratch : Scrubbed (where_kept run place (all_long buys sells bought sold room) false) bought sold room bought' sold' room'
