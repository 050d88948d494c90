-- Each return of the calls that resume leaves what the definition says.
use Prim.Native.Nat.{ℕ, ◌≤◌, ◌<◌}
use native.Mathlib.Omega.{arith}
use mathlib.Core.Path.{◌≡◌, refl, ap, ◌∙◌}
use mathlib.Core.List.{List, [], ◌∷◌}
use borrow.Author.Tests.{lt-ltb, le-ltb}
use lib.ListN.{length, set}
use Rattle.std.specs.Prelude.{Ok, Err}
use Rattle.terms.specs.declared.Refusal.TheVariants.{SmallRoom}
use Rattle.tables.specs.Put.{put}
use Rattle.state_law.specs.declared.Session.{Session}
use Rattle.resume_law.specs.declared.BadLine.{BadLine}
use Rattle.resume_law.specs.Answers.{Comeback}
use Rattle.resume_law.specs.declared.Resumed.{Resumed}
use Rattle.resume_law.specs.Rebuilt.{Rebuilt}
use Rattle.resume_law.specs.Calls.{ResumedBy, ResumedAs, ResumedLent}
use Rattle.desk_packing_law.specs.Runs.{session_length}
use Rattle.desk_packing_law.specs.Sessions.{session_numbers}
use Rattle.desk_packing_law.specs.Answers.{answer_of}
use Rattle.desk_law.specs.Resuming.{resume_number, place_length, place_number, LaidResumed, ResumedLeft, ResumedInto, ResumedLentInto}

-- ---- the answer and the place, by what saved bytes are answered

module _ {a : Comeback} {r : ℕ} where
  pub code_counts : {n : ℕ} → a ≡ Ok n → r ≡ answer_of (Ok tt) 0 → r ≡ resume_number a
  code_counts e x = rw e x

  pub code_refused : {b : BadLine} → a ≡ Err b → r ≡ answer_of (Err b.refusal) 0 → r ≡ resume_number a
  code_refused e x = rw e x

  pub place-counts : {n : ℕ} → a ≡ Ok n → r ≡ n → r ≡ place_number a
  place-counts e x = rw e x

  pub place-refused : {b : BadLine} → a ≡ Err b → r ≡ b.place → r ≡ place_number a
  place-refused e x = rw e x

-- ---- the session and the place are written

one_laid : (place : List ℕ) (n : ℕ) → place_length ≤ length place → set place 0 n ≡ put place 0 (n ∷ [])
unfolding put
one_laid [] n h = absurd (omega arith)
one_laid (x ∷ rest) n h = refl

pub resumed-laid : {y : Resumed} {run place run' ns : List ℕ} {r n : ℕ} {answer : Comeback} {after : Session} → answer ≡ y.answer → after ≡ y.session →
    ns ≡ session_numbers after → run' ≡ put run 0 ns → place_length ≤ length place → n ≡ place_number answer → r ≡ resume_number answer →
    LaidResumed y run place run' (set place 0 n) r
resumed-laid {y} {run} {place} {run'} {ns} {r} {n} a s f l h p x =
    record {
      answer = x ∙ ap resume_number a;
      kept = l ∙ ap (put run 0) (f ∙ ap session_numbers s);
      placed = one_laid place n h ∙ ap (λ (k : ℕ). put place 0 (k ∷ [])) (p ∙ ap place_number a);
    }

-- ---- two slices that may be too short, and then what the bytes come to

module _ {x : Rebuilt} {run buys sells place : List ℕ} {r : ℕ} where
  short-session : length run < session_length → r ≡ answer_of (Err SmallRoom) 0 → ResumedLeft x run buys sells place run buys sells place r
  short-session h e =
      let s = lt-ltb (length run) session_length h in
      record { answer = rw s e; kept = rw s; bought = rw s; sold = rw s; placed = rw s }

  module _ (h : session_length ≤ length run) where
    short-place : length place < place_length → r ≡ answer_of (Err SmallRoom) 0 → ResumedLeft x run buys sells place run buys sells place r
    short-place k e =
        let s = le-ltb (length run) session_length h in
        let t = lt-ltb (length place) place_length k in
        record { answer = rw (s, t) e; kept = rw (s, t); bought = rw (s, t); sold = rw (s, t); placed = rw (s, t) }

    left_by : {y : Resumed} {run' buys' sells' place' : List ℕ} → place_length ≤ length place → ResumedBy x buys sells buys' sells' y →
        LaidResumed y run place run' place' r → ResumedLeft x run buys sells place run' buys' sells' place' r
    left_by k b l =
        let s = le-ltb (length run) session_length h in
        let t = le-ltb (length place) place_length k in
        record {
          answer = rw (s, t, ← b.answer) l.answer;
          kept = rw (s, t, ← b.session) l.kept;
          bought = rw (s, t) b.bought;
          sold = rw (s, t) b.sold;
          placed = rw (s, t, ← b.answer) l.placed;
        }

-- ---- resume

module _ {bytes run buys sells place : List ℕ} {r : ℕ} where
  pub resume_no-session : length run < session_length → r ≡ answer_of (Err SmallRoom) 0 → ResumedInto bytes run buys sells place run buys sells place r
  resume_no-session h e = record { left = short-session h e }

  module _ (h : session_length ≤ length run) where
    pub resume_no-place : length place < place_length → r ≡ answer_of (Err SmallRoom) 0 → ResumedInto bytes run buys sells place run buys sells place r
    resume_no-place k e = record { left = short-place h k e }

    pub resume_done : {y : Resumed} {run' buys' sells' place' : List ℕ} → place_length ≤ length place → ResumedAs bytes buys sells buys' sells' y →
        LaidResumed y run place run' place' r → ResumedInto bytes run buys sells place run' buys' sells' place' r
    resume_done k b l = record { left = left_by h k b l }

-- ---- resume with lent scratch

module _ {bytes run buys sells place bought sold room : List ℕ} {r : ℕ} where
  pub lent_no-session : length run < session_length → r ≡ answer_of (Err SmallRoom) 0 →
      ResumedLentInto bytes run buys sells place bought sold room run buys sells place bought sold room r
  lent_no-session h e =
      let s = lt-ltb (length run) session_length h in
      record { left = short-session h e; scratch = record { first = rw s; second = rw s; third = rw s } }

  module _ (h : session_length ≤ length run) where
    pub lent_no-place : length place < place_length → r ≡ answer_of (Err SmallRoom) 0 →
        ResumedLentInto bytes run buys sells place bought sold room run buys sells place bought sold room r
    lent_no-place k e =
        let s = le-ltb (length run) session_length h in
        let t = lt-ltb (length place) place_length k in
        record { left = short-place h k e; scratch = record { first = rw (s, t); second = rw (s, t); third = rw (s, t) } }

    pub lent_done : {y : Resumed} {run' buys' sells' place' bought' sold' room' : List ℕ} → place_length ≤ length place →
        ResumedLent bytes buys sells bought sold room buys' sells' bought' sold' room' y → LaidResumed y run place run' place' r →
        ResumedLentInto bytes run buys sells place bought sold room run' buys' sells' place' bought' sold' room' r
    lent_done k b l =
        record {
          left = left_by h k b.resumed l;
          scratch = rw (le-ltb (length run) session_length h, le-ltb (length place) place_length k) b.scratch;
        }
