-- The calls that come back from saved bytes: what each is answered, and what it leaves in every lent slice.
use Rattle.std.specs.Prelude.{ℕ, ◌≡◌, Bool, cond, List, length, replicate, leb}
use Rattle.terms.specs.declared.Order.{Order}
use Rattle.terms.specs.declared.Refusal.TheVariants.{SmallRoom}
use Rattle.terms.specs.Truth.{◌⊓◌}
use Rattle.tables.specs.Lengths.{table_length, room_length}
use Rattle.tables.specs.Put.{put}
use Rattle.tables.specs.Tables.{table_of}
use Rattle.state_law.specs.declared.Session.{Session}
use Rattle.engine_law.specs.Calls.{roomy}
use Rattle.resume_law.specs.Answers.{Comeback}
use Rattle.resume_law.specs.declared.Resumed.{Resumed}
use Rattle.resume_law.specs.Rebuilt.{Rebuilt, refused, resumed}

-- a table afterwards: without an event it is as lent, since an opening touches none; else it holds the live orders, zeros behind them up to
-- its length, and past that what it held
abbrev pub table_after : Bool → List Order → List ℕ → List ℕ
table_after moved os t = cond moved (table_of os t) t

-- answer, session and both tables, each by an equation
pub record ResumedBy (x : Rebuilt) (buys sells buys' sells' : List ℕ) (r : Resumed) : Type 0 where
  pub answer : r.answer ≡ x.answer
  pub session : r.session ≡ x.day.session
  pub bought : buys' ≡ table_after x.moved x.day.buys buys
  pub sold : sells' ≡ table_after x.moved x.day.sells sells

abbrev pub resumed_to : Comeback → Session → Resumed
resumed_to answer session = record { answer = answer; session = session }

-- "1 for tables, first"
unfoldable pub tables_long : List ℕ → List ℕ → Bool
tables_long buys sells = leb table_length (length buys) ⊓ leb table_length (length sells)

-- what the call comes to, where all that is lent is long enough or not
abbrev pub resumed_if : Bool → List ℕ → Rebuilt
resumed_if long bytes = cond long (resumed bytes) (refused SmallRoom 0)

unfoldable pub resumed_on : List ℕ → List ℕ → List ℕ → Rebuilt
resumed_on buys sells bytes = resumed_if (tables_long buys sells) bytes

-- THE CONTRACT of `resume`
abbrev pub ResumedAs : List ℕ → List ℕ → List ℕ → List ℕ → List ℕ → Resumed → Type 0
ResumedAs bytes buys sells buys' sells' r = ResumedBy (resumed_on buys sells bytes) buys sells buys' sells' r

-- ---- the same call, with scratch that is lent: two spare tables and a room

-- all five slices are long enough
unfoldable pub all_long : List ℕ → List ℕ → List ℕ → List ℕ → List ℕ → Bool
all_long buys sells bought sold room = tables_long buys sells ⊓ roomy bought sold room

-- what is lent as scratch is zero afterwards, up to its length; with 1 it is as it was
abbrev pub zeroed : Bool → ℕ → List ℕ → List ℕ
zeroed long n t = cond long (put t 0 (replicate n 0)) t

pub record Scrubbed (long : Bool) (bought sold room bought' sold' room' : List ℕ) : Type 0 where
  pub first : bought' ≡ zeroed long table_length bought
  pub second : sold' ≡ zeroed long table_length sold
  pub third : room' ≡ zeroed long room_length room

-- THE CONTRACT of `resume_lent`
pub record ResumedLent (bytes buys sells bought sold room buys' sells' bought' sold' room' : List ℕ) (r : Resumed) : Type 0 where
  pub resumed : ResumedBy (resumed_if (all_long buys sells bought sold room) bytes) buys sells buys' sells' r
  pub scratch : Scrubbed (all_long buys sells bought sold room) bought sold room bought' sold' room'
