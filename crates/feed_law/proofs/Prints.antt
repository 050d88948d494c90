-- What is printed into an output room: the line of a writer, the line of a record, and one text behind another.
use Prim.Native.Nat.{ℕ, zero, suc, ◌+◌, ◌-◌, ◌*◌, ◌≤◌}
use native.Mathlib.Omega.{arith}
use native.Mathlib.Nat.{le_of_eq, le_antisymm}
use native.Mathlib.Numerals.{add-one}
use borrow.Rule.Slice.PartMut.{put_mid}
use mathlib.Core.Path.{◌≡◌, refl, sym, ap, ◌∙◌}
use mathlib.Core.Bool.{Bool, true, false, cond}
use mathlib.Core.List.{List, [], ◌∷◌, ◌++◌, append_assoc, append-nil}
use lib.ListN.{length, take, drop, length-append, length-drop, drop_of_length-le}
use lib.Seq.{drop-drop, drop_at, length-take-le, take_all, take-append_seam, drop-append_seam}
use borrow.Author.Tests.{le-leb}
use Rattle.std.specs.Prelude.{Option, Some, None, Ok, Err, Result}
use Rattle.terms.specs.declared.Refusal.{Refusal}
use Rattle.terms.specs.declared.Report.{Report}
use Rattle.terms.specs.declared.Refusal.TheVariants.{NumberLong}
use Rattle.terms.specs.Sizes.{line_room}
use Rattle.tables.specs.Lengths.{record_length}
use Rattle.tables.specs.Records.{record_of, records_of}
use Rattle.terms.specs.Refusals.{Verdict, first_failed}
use Rattle.terms.proofs.Logic.{by}
use Rattle.tables.specs.Put.{put}
use Rattle.lines_text_law.specs.Numerals.{all_writable}
use Rattle.lines_writing_law.specs.Lines.{report_figures, render_report}
use Rattle.lines_writing_law.proofs.Short.{report_short}
use Rattle.lines_writing_law.specs.Writes.{line_verdict, wrote_of, room_of, Writes}
use Rattle.records_law.specs.Back.{RecordRead, report_in}
use Rattle.tables.proofs.Records.{length-record}
use Rattle.records_law.proofs.Told.{told-first, told-front}
use Rattle.feed_law.specs.Texts.{written, report_text, reports_text, told_text, record_text, records_text}
use Rattle.feed_law.specs.Feeds.{laid, wrote_length, Prints, PrintsFrom, RecordTold}

-- ---- a writer's line

module _ {out line ns out' : List ℕ} {w : Result ℕ Refusal} (long : line_room ≤ length out) (k : Writes out line ns w out') where
  verdict_is : (b : Bool) → all_writable ns ≡ b → line_verdict out ns ≡ cond b (Ok tt) (Err NumberLong)
  unfolding line_verdict first_failed
  verdict_is true e = rw (le-leb line_room (length out) long, e)
  verdict_is false e = rw (le-leb line_room (length out) long, e)

  by_verdict : (n : ℕ) → n ≡ wrote_length w → (b : Bool) → all_writable ns ≡ b → Prints out (cond b line []) n out'
  by_verdict n q true e =
      let v = verdict_is true e in
      record {
        count = q ∙ ap wrote_length (k.answer ∙ ap (λ (x : Verdict). wrote_of x (length line)) v);
        laid = k.laid ∙ ap (λ (x : Verdict). room_of x line out) v;
      }
  by_verdict n q false e =
      let v = verdict_is false e in
      record {
        count = q ∙ ap wrote_length (k.answer ∙ ap (λ (x : Verdict). wrote_of x (length line)) v);
        laid = k.laid ∙ ap (λ (x : Verdict). room_of x line out) v;
      }

  -- a writer prints the line where each of its numbers can be written, and else nothing
  pub writes_prints : (n : ℕ) → n ≡ wrote_length w → Prints out (written ns line) n out'
  writes_prints n q = by_verdict n q (all_writable ns) refl

-- ---- a record's line

-- what is read at a place of the room is what its numbers tell
pub record_found : (room : List ℕ) (at : ℕ) (r : Option Report) → at + record_length ≤ length room →
    RecordRead (take record_length (drop at room)) r → told_text r ≡ record_text (drop at room)
unfolding record_text
record_found room at r h k =
    let s = drop at room in
    let l : record_length ≤ length s = rw (length-drop at room) (omega arith) in
    ap told_text (told-first s r l k)

-- no report's line is longer than a line room
text-short : (r : Report) → length (report_text r) ≤ line_room
unfolding report_text
text-short r =
    let l = report_short r in
    by (λ (t : List ℕ). length t ≤ line_room) (all_writable (report_figures r)) _ [] (λ e. l) (λ e. omega arith)

told-short : (r : Option Report) → length (told_text r) ≤ line_room
told-short (Some r) = text-short r
told-short None = omega arith

pub record-short : (ns : List ℕ) → length (record_text ns) ≤ line_room
unfolding record_text
record-short ns = told-short (report_in ns)

-- the record at a place is printed, or passed over where it is no report's
module _ {room : List ℕ} {at : ℕ} (r : Option Report) {out : List ℕ} (there : at + record_length ≤ length room)
    (k : RecordRead (take record_length (drop at room)) r) where
  told : {n : ℕ} {out' : List ℕ} → Prints out (told_text r) n out' → RecordTold room at out n out'
  told {n} {out'} p =
      let q : Prints out (record_text (drop at room)) n out' = rw (record_found room at r there k) at p in
      record { printed = q; short = rw q.count (record-short (drop at room)) }

  pub told_prints : {out' : List ℕ} {w : Result ℕ Refusal} (report : Report) {n : ℕ} → r ≡ Some report → line_room ≤ length out →
      Writes out (render_report report) (report_figures report) w out' → n ≡ wrote_length w → RecordTold room at out n out'
  unfolding report_text
  told_prints report {n} e h v q = told (rw e (writes_prints h v n q))

  pub nothing_prints : r ≡ None → RecordTold room at out 0 out
  nothing_prints e = told (rw e (record { count = refl; laid = refl }))

-- ---- one text behind another

-- what is printed into the rest of the room is printed from that place on
pub part_prints : {out text part' : List ℕ} {n m : ℕ} → Prints (take (length out - n) (drop n out)) text m part' →
    PrintsFrom n out text m (put_mid n (length out - n) out part')
part_prints {out} {text} {part'} {n} {m} p =
    let part : take (length out - n) (drop n out) ≡ drop n out = take_all (length out - n) (drop n out) (le_of_eq (length-drop n out)) in
    let none : drop (length out - n) (drop n out) ≡ [] = drop_of_length-le (drop n out) (le_of_eq (length-drop n out)) in
    record {
      count = p.count;
      laid = rw (none, append-nil part') (ap (λ (x : List ℕ). take n out ++ x) (p.laid ∙ ap (λ (x : List ℕ). laid x text) part));
    }

-- two texts printed one behind the other are printed as one
pub prints_then : {out text out₁ more out₂ : List ℕ} {n m : ℕ} → Prints out text n out₁ → PrintsFrom n out₁ more m out₂ → Prints out (text ++ more) (n + m) out₂
prints_then {out} {text} {out₁} {more} {out₂} {n} {m} a b =
    let t : take n out₁ ≡ text = ap (take n) a.laid ∙ rw a.count (take-append_seam text (drop (length text) out)) in
    let d : drop n out₁ ≡ drop (length text) out = ap (drop n) a.laid ∙ rw a.count (drop-append_seam text (drop (length text) out)) in
    let c = a.count in
    let k = b.count in
    record {
      count = rw (length-append text more) (omega arith);
      laid =
          b.laid
          ∙ (λ i. t i ++ laid (d i) more)
          ∙ rw (drop-drop (length more) (length text) out, length-append text more) (sym (append_assoc text more _));
    }

-- a text printed from a place on ends within the room
pub from_within : {out text out' : List ℕ} {n m : ℕ} → n ≤ length out → length out' ≡ length out → PrintsFrom n out text m out' → n + m ≤ length out
from_within {out} {text} {out'} {n} {m} h e p =
    let l : length out' ≡ n + (length text + length (drop (length text) (drop n out))) =
    ap length p.laid ∙ rw (length-append, length-append, length-take-le n out h) in
    let c = p.count in
    omega arith

-- the lines of one record more are those before and its own
snoc : (n : ℕ) (room : List ℕ) → records_text (suc n) room ≡ records_text n room ++ record_text (drop (record_length * n) room)
unfolding records_text
snoc zero room = append-nil (record_text room)
snoc (suc n) room =
    let more = record_text (drop (record_length * n) (drop record_length room)) in
    let l : record_length + record_length * n ≡ record_length * suc n = omega arith in
    let e : drop (record_length * n) (drop record_length room) ≡ drop (record_length * suc n) room = drop-drop (record_length * n) record_length room ∙ rw l in
    ap (λ (x : List ℕ). record_text room ++ x) (snoc n (drop record_length room))
    ∙ sym (append_assoc (record_text room) (records_text n (drop record_length room)) more)
    ∙ rw e

-- the loop over the records: the lines of the first i are printed
pub record Telling (room out₀ : List ℕ) (i wrote : ℕ) (out : List ℕ) : Type 0 where
  pub few : wrote ≤ line_room * i
  pub printed : Prints out₀ (records_text i room) wrote out

pub telling_none : (room out : List ℕ) → Telling room out 0 0 out
unfolding records_text
telling_none room out = record { few = omega arith; printed = record { count = refl; laid = refl } }

module _ {room out₀ : List ℕ} {i wrote : ℕ} {out : List ℕ} (t : Telling room out₀ i wrote out) where
  pub telling_on : {n : ℕ} {part' : List ℕ} → RecordTold room (record_length * i) (take (length out - wrote) (drop wrote out)) n part' →
      Telling room out₀ (i + 1) (wrote + n) (put_mid wrote (length out - wrote) out part')
  telling_on p =
      let f = t.few in
      let h = p.short in
      record {
        few = omega arith;
        printed = rw (add-one i, snoc i room) (prints_then t.printed (part_prints p.printed));
      }

  pub telling_all : {count : ℕ} → i ≤ count → count ≤ i → Prints out₀ (records_text count room) wrote out
  telling_all h k = rw (le_antisymm h k) at t.printed

-- a text is no longer than the room
pub prints_within : {out text out' : List ℕ} {n : ℕ} → Prints out text n out' → length out' ≡ length out → n ≤ length out
prints_within {out} {text} p e =
    let l = ap length p.laid ∙ length-append text (drop (length text) out) in
    let m = length-drop (length text) out in
    let c = p.count in
    omega arith

-- ---- the lines of reports

-- the line of a report's record is the report's line, whatever follows it
record-line : (l : List ℕ) (r : Report) → record_text (record_of r ++ l) ≡ report_text r
unfolding record_text
record-line l r = ap told_text (told-front r l)

lines_of_lem : (rs : List Report) (l : List ℕ) → records_text (length rs) (records_of rs ++ l) ≡ reports_text rs
unfolding records_text records_of reports_text
lines_of_lem [] l = refl
lines_of_lem (r ∷ rs) l =
    let e : (record_of r ++ records_of rs) ++ l ≡ record_of r ++ (records_of rs ++ l) = append_assoc (record_of r) (records_of rs) l in
    let d : drop record_length (record_of r ++ (records_of rs ++ l)) ≡ records_of rs ++ l = drop_at (record_of r) (records_of rs ++ l) record_length (length-record r) in
    rw (e, d, record-line (records_of rs ++ l) r, lines_of_lem rs l)

-- the lines of the records that a call leaves in its room are those of its reports
pub records_line : (rs : List Report) (room : List ℕ) → records_text (length rs) (put room 0 (records_of rs)) ≡ reports_text rs
unfolding put
records_line rs room = lines_of_lem rs _
