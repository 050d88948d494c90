-- WHAT THE PROGRAM PRINTS: a run of calls of `feed::lines::take_lines`, each handed what the last one left and a further piece of the input,
-- followed by `feed::lines::take_end`, prints `printed` of the whole input. That definition speaks of days, and knows no call, table or
-- piece.
use Rattle.std.specs.Prelude.{ℕ, ◌≡◌, List, [], ◌++◌, take, drop, Ok}
use Rattle.state_law.specs.Day.{Day}
use Rattle.soundness_law.specs.Sound.{day_in}
use Rattle.feed_law.specs.declared.Run.{Run}
use Rattle.feed_law.specs.declared.Stop.{Stop}
use Rattle.feed_law.specs.declared.Taken.{Taken}
use Rattle.feed_law.specs.Worlds.{days}
use Rattle.feed_law.specs.Turns.{Says, printing, said_from, printed}
use Rattle.feed_law.specs.Feeds.{Feed, fresh_run, feed_verdict, fed_of, ended_of, TakenBy}

-- ---- what a caller holds between calls: the run, both tables, and the bytes that were not taken

pub record Holding : Type 0 where
  pub run : Run
  pub buys : List ℕ
  pub sells : List ℕ
  pub kept : List ℕ

-- before the first call; the tables may hold anything
abbrev pub at_start : List ℕ → List ℕ → Holding
at_start buys sells = record { run = fresh_run; buys = buys; sells = sells; kept = [] }

abbrev pub day_on : Holding → Day
day_on h = day_in h.run.session h.buys h.sells

-- ---- a call is handed the next piece of the input, a report room that is long enough and may hold anything, and any output room

pub record Piece : Type 0 where
  pub bytes : List ℕ
  pub room : List ℕ
  pub out : List ℕ

-- the call is handed h and a piece, prints `text` and leaves h'; nothing is known of it but its contract. It is `feed::lines::take_lines`
-- with `fed_of`, and `feed::lines::take_end` with `ended_of`
pub record PieceFed (of : Feed) (h : Holding) (p : Piece) (text : List ℕ) (h' : Holding) : Type 0 where
  pub answered : Taken
  pub room : List ℕ
  pub out : List ℕ
  pub enough : feed_verdict h.buys h.sells p.room ≡ Ok tt
  pub contract : TakenBy of h.run h.buys h.sells p.room (h.kept ++ p.bytes) p.out h'.buys h'.sells room out answered
  pub run : h'.run ≡ answered.run
  pub kept : h'.kept ≡ drop answered.used (h.kept ++ p.bytes)
  pub told : text ≡ take answered.wrote out

-- ---- a run of such calls: the whole input, all that is printed, and what is held at the end

pub data Feeding : Holding → List ℕ → List ℕ → Holding → Type 0 where
  ends : (h : Holding) → Feeding h [] [] h
  feeds : (h h' h'' : Holding) (p : Piece) (input text more : List ℕ) → PieceFed fed_of h p text h' → Feeding h' input more h'' →
      Feeding h (p.bytes ++ input) (text ++ more) h''

-- what is still to be said of the bytes that are held and others behind them; what is still to be printed
abbrev pub to_say : {A : Type 0} → Says A → Holding → List ℕ → List A
to_say says h more = said_from days says h.run.stage (day_on h) (h.kept ++ more)

abbrev pub to_print : Holding → List ℕ → List ℕ
to_print h more = to_say printing h more

-- HOWEVER THE INPUT IS CUT: what was printed, and what is still to be printed for the bytes that are held, is `printed` of the whole input
abbrev pub FeedingPrints : Type 0
FeedingPrints =
    (buys sells input text : List ℕ) (h : Holding) → Feeding (at_start buys sells) input text h → printed input ≡ text ++ to_print h []

-- the end prints the rest, whatever bytes are held and come last: its text and what is still to be printed after it is what was to be printed
-- before it; and unless the output room has to be emptied first, nothing is left to print
abbrev pub EndPrints : Type 0
EndPrints =
    (h h' : Holding) (p : Piece) (text : List ℕ) (k : PieceFed ended_of h p text h') →
    (to_print h p.bytes ≡ text ++ to_print h' [])
    × ((k.answered.stop ≡ Stop.Full → ⊥) → (k.answered.stop ≡ Stop.Over) × (to_print h' [] ≡ []))

-- so a run that is fed and then ended prints what the program prints for the whole input
abbrev pub ProgramPrints : Type 0
ProgramPrints =
    (buys sells input text last : List ℕ) (h h' : Holding) (p : Piece) → Feeding (at_start buys sells) input text h →
    (k : PieceFed ended_of h p last h') → (k.answered.stop ≡ Stop.Full → ⊥) → printed (input ++ p.bytes) ≡ text ++ last
