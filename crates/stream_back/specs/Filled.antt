-- What the reads of a file come to: the first one, and each behind the bytes that are kept.
use Rattle.std.specs.Prelude.{ℕ, ◌+◌, ◌≤◌, ◌<◌, ◌≡◌, Bool, true, false, cond, List, [], eqb, length, take, Ok, Result, Err}
use Rattle.terms.specs.declared.Settings.{Settings}
use Rattle.descriptors.specs.declared.Failed.{Failed}
use Rattle.lines_text_law.specs.Grammar.{whole}
use Rattle.lines_reading_law.specs.Answers.{read_settings}
use Rattle.state_law.specs.declared.Session.{Session}
use Rattle.resume_law.specs.declared.Back.{Back}
use Rattle.resume_law.specs.declared.Coming.{Coming}
use Rattle.resume_law.specs.Pieces.{BackBehind, Standing, standing, Onward, BackFrom, unread_back, coming_to, coming_end, stands_on}
use Rattle.stream_law.specs.declared.Source.{Source}
use Rattle.stream_law.specs.Sources.{Gives, Leads}
use Rattle.stream_back.specs.declared.Piece.{Piece}

-- nothing more is to be read: so many bytes count, and all could be read or not
abbrev pub stopped_at : ℕ → Session → Bool → Coming
stopped_at before s read = coming_end (record { answer = Ok before; session = s; read = read })

-- a read of no bytes is the end of the file, where those that are kept are dropped; a read that failed is not
abbrev pub coming_after : Result ℕ Failed → ℕ → ℕ → Session → Coming
coming_after (Ok n) left before s = cond (eqb n 0) (stopped_at before s true) (coming_to (left + n) before s)
coming_after (Err e) left before s = stopped_at before s false

abbrev pub piece_to : Coming → Source → Piece
piece_to coming from = record { coming = coming; from = from }

-- ---- from piece to piece

-- bytes were read, so many at least: they lead a source and a file from one standing to another
pub record Went (given : List ℕ) (least : ℕ) (from : Source) (a : Standing) (from' : Source) (b : Standing) : Type 0 where
  pub got : List ℕ
  pub some : least ≤ length got
  pub leads : Leads given from got from'
  pub onward : Onward got a b

-- THE CONTRACT of a piece with the read behind it: bytes came, and they are at the buffer's front; or all is told, or the reads are at their end
pub record Comes (given : List ℕ) (from : Source) (a : Standing) (buf' buys' sells' : List ℕ) (r : Piece) : Type 0 where
  pub within : r.coming.have ≤ length buf'
  pub on : r.coming.more ≡ true → Went given 1 from a r.from (stands_on buf' buys' sells' r.coming)
  pub off : r.coming.more ≡ false → BackFrom (Gives given from) a buys' sells' r.coming.back

-- THE CONTRACT of `next_piece`, for a file whose bytes stand at the front of a buffer
pub record ComesOn (given : List ℕ) (from : Source) (h : Coming) (buf buys sells buf' buys' sells' : List ℕ) (r : Piece) : Type 0 where
  pub comes : Comes given from (stands_on buf buys sells h) buf' buys' sells' r

-- THE CONTRACT of `read_rest`: the same behind the bytes that are left, whatever the tables hold
pub record RestAs (given : List ℕ) (from : Source) (before : ℕ) (s : Session) (kept buf' : List ℕ) (r : Piece) : Type 0 where
  pub comes : (buys sells : List ℕ) → Comes given from (standing before s buys sells kept) buf' buys sells r

-- ---- the first bytes

-- where fewer bytes were read than there was room for, the source is at its end
pub record Ended (given : List ℕ) (from : Source) (end room : ℕ) : Type 0 where
  pub ended : end < room → Gives given from [] true

pub record EndedBy (given : List ℕ) (from : Source) (g : Result ℕ Failed) (room : ℕ) : Type 0 where
  pub some : (end : ℕ) → g ≡ Ok end → Ended given from end room

-- THE CONTRACT of `from_settings`: what comes back is that of a file that begins with these bytes, where they begin with the settings' line
pub record OpensAs (gives : List ℕ → Bool → Type 0) (g : Settings) (first : ℕ) (bytes buys' sells' : List ℕ) (r : Back) : Type 0 where
  pub opens : read_settings bytes ≡ whole g first → BackBehind gives bytes buys' sells' r

-- THE CONTRACT of `from_filled`: what comes back is that of a file that begins with the bytes that were read; or a read failed
pub record StartsAs (gives : List ℕ → Bool → Type 0) (g : Result ℕ Failed) (buf buys' sells' : List ℕ) (r : Back) : Type 0 where
  pub failed : (e : Failed) → g ≡ Err e → r ≡ unread_back
  pub some : (end : ℕ) → g ≡ Ok end → BackBehind gives (take end buf) buys' sells' r
