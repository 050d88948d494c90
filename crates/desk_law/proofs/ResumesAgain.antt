-- WHAT A CALL THAT RESUMES WRITES, THE NEXT CALL READS: the day that the app's numbers hold is the one that came back. So all that is promised of
-- runs that begin with `resume::resume` holds for an app that goes on with its numbers.
use Prim.Native.Nat.{ℕ}
use native.Mathlib.Omega.{arith}
use mathlib.Core.Path.{◌≡◌, refl, sym, ap, ◌∙◌}
use mathlib.Core.Bool.{Bool, true, false}
use mathlib.Core.List.{List, [], ◌∷◌}
use lib.ListN.{length, get_or}
use Rattle.std.specs.Prelude.{Ok}
use Rattle.terms.specs.declared.Event.{Event}
use Rattle.terms.specs.declared.Order.{Order}
use Rattle.terms.specs.declared.Refusal.{Refusal}
use Rattle.terms.specs.declared.Refusal.TheVariants.{SmallRoom}
use Rattle.terms.specs.declared.Settings.{Settings}
use Rattle.terms.specs.Settings.{settings_verdict}
use Rattle.terms.proofs.Logic.{both}
use Rattle.tables.specs.Tables.{decode, table_of}
use Rattle.tables.proofs.Slots.{decode-encode}
use Rattle.state_law.specs.declared.Session.{Session}
use Rattle.state_law.specs.Opening.{opened_session, fixed_session}
use Rattle.state_law.specs.Day.{Day, opened}
use Rattle.state_law.specs.code.Tens.{Ten}
use Rattle.state_law.proofs.Tens.{fixed_ten}
use Rattle.soundness_law.specs.Sound.{sound, day_in}
use Rattle.soundness_law.proofs.Days.{SoundDay, sound-day, opened-sound}
use Rattle.engine_law.specs.Outcome.{outcome, after}
use Rattle.engine_law.proofs.Kept.{outcome-sound, outcome_ten}
use Rattle.resume_law.specs.Saved.{saved, any_event}
use Rattle.resume_law.specs.Rebuilt.{Rebuilt, rebuilt, refused, resumed}
use Rattle.resume_law.specs.Comes.{FoundAs}
use Rattle.resume_law.specs.Comes.FoundAs.{settings_unfinished, settings_wrong, settings_refused, comes_back, line_wrong, line_refused}
use Rattle.resume_law.specs.Calls.{table_after, resumed_to, tables_long, resumed_if, resumed_on, ResumedBy, ResumedAs, all_long}
use Rattle.resume_law.proofs.Finds.{any_bytes_found}
use Rattle.desk_packing_law.specs.Sessions.{session_from}
use Rattle.desk_packing_law.proofs.Inverse.{laid_back}
use Rattle.desk_law.specs.Resuming.{ResumedLeft, ResumedInto, ResumedLentInto}
use Rattle.desk_law.proofs.ResumesRead.{kept, refused_still, left-tables, left_laid, zero-long, zero_read, resume_left, zero-resumed, lent_left}

-- ---- a day that can be read from the numbers that are written for it

-- arrays of ten, counted orders, and none where the tables are not written
record Readable (x : Rebuilt) : Type 0 where
  ten : Ten x.day.session
  buys-counted : x.day.session.live.buys ≡ length x.day.buys
  sells-counted : x.day.session.live.sells ≡ length x.day.sells
  none-bought : x.moved ≡ false → x.day.buys ≡ []
  none-sold : x.moved ≡ false → x.day.sells ≡ []

after_ten : (d : Day) (es : List Event) → Ten d.session → Ten (after d es).session
unfolding after
after_ten d [] t = t
after_ten d (e ∷ es) t = after_ten (outcome d e).day es (outcome_ten d e t)

after-sound : (d : Day) (es : List Event) → sound d ≡ true → sound (after d es) ≡ true
unfolding after
after-sound d [] s = s
after-sound d (e ∷ es) s = after-sound (outcome d e).day es (outcome-sound d e s)

opened_ten : (g : Settings) → Ten (opened g).session
unfolding opened_session
opened_ten g = record { prices = refl; sizes = refl }

-- with no event, both sides are empty
opened_empty : (g : Settings) (es : List Event) → any_event es ≡ false → after (opened g) es ≡ opened g
unfolding after
opened_empty g [] e = refl
opened_empty g (x ∷ es) e = absurd (let z : ◌≡◌ {A = ℕ} 0 1 = cc in omega arith)

readable_day : (n : ℕ) (g : Settings) (es : List Event) → settings_verdict g ≡ Ok tt → Readable (rebuilt n (any_event es) (after (opened g) es))
readable_day n g es v =
    let w : SoundDay (after (opened g) es) = sound-day (after (opened g) es) (after-sound (opened g) es (opened-sound g v)) in
    record {
      ten = after_ten (opened g) es (opened_ten g);
      buys-counted = w.buys-counted;
      sells-counted = w.sells-counted;
      none-bought = λ e. ap (λ (d : Day). d.buys) (opened_empty g es e);
      none-sold = λ e. ap (λ (d : Day). d.sells) (opened_empty g es e);
    }

readable_refused : (q : Refusal) (n : ℕ) → Readable (refused q n)
unfolding fixed_session
readable_refused q n =
    record { ten = fixed_ten; buys-counted = refl; sells-counted = refl; none-bought = λ e. refl; none-sold = λ e. refl }

found_readable : (bytes : List ℕ) (x : Rebuilt) → FoundAs bytes x → Readable x
found_readable bytes x (settings_unfinished q) = readable_refused _ _
found_readable bytes x (settings_wrong n q) = readable_refused _ _
found_readable bytes x (settings_refused g line rest r q l v) = readable_refused _ _
found_readable bytes x (comes_back g es tail q v a u) = readable_day (length (saved g es)) g es v
found_readable bytes x (line_wrong g es tail n q v a u) = readable_refused _ _
found_readable bytes x (line_refused g es e line tail r q l v a u) = readable_refused _ _

readable : (long : Bool) (bytes : List ℕ) → Readable (resumed_if long bytes)
readable true bytes = found_readable bytes (resumed bytes) (any_bytes_found bytes)
readable false bytes = readable_refused SmallRoom 0

-- a table, read by the count of its orders
side_back : (n : ℕ) (os : List Order) (moved : Bool) (t : List ℕ) → n ≡ length os → (moved ≡ false → os ≡ []) → decode n (table_after moved os t) ≡ os
unfolding table_of decode
side_back n os true t e h = rw e (decode-encode os _)
side_back n os false t e h = let none = h refl in rw (e, none) refl

-- ---- what is read from the numbers after either call

module _ (long : Bool) (bytes : List ℕ) {run buys sells place run' buys' sells' place' : List ℕ} {r : ℕ}
    (p : ResumedLeft (resumed_if long bytes) run buys sells place run' buys' sells' place' r) where
  abbrev x : Rebuilt
  x = resumed_if long bytes

  module _ (w : kept run place ≡ true) where
    -- THE SESSION that comes back; on a refusal it is the fixed one
    pub session_again : session_from run' ≡ x.day.session
    session_again = ap session_from (left_laid p w).kept ∙ laid_back run x.day.session (readable long bytes).ten

    pub refused_again : (r ≡ 0 → ⊥) → session_from run' ≡ fixed_session
    refused_again z = session_again ∙ (refused_still long bytes p w z).1

    -- THE DAY, with the live orders of both tables
    pub day_again : day_in (session_from run') buys' sells' ≡ x.day
    day_again =
        let k : Readable x = readable long bytes in
        let l = left-tables p w in
        let s = session_again in
        let bs : decode (session_from run').live.buys buys' ≡ x.day.buys =
        ap (decode (session_from run').live.buys) l.bought
        ∙ side_back (session_from run').live.buys x.day.buys x.moved buys (ap (λ (y : Session). y.live.buys) s ∙ k.buys-counted) k.none-bought in
        let ss : decode (session_from run').live.sells sells' ≡ x.day.sells =
        ap (decode (session_from run').live.sells) l.sold
        ∙ side_back (session_from run').live.sells x.day.sells x.moved sells (ap (λ (y : Session). y.live.sells) s ∙ k.sells-counted) k.none-sold in
        λ i. record { session = s i; buys = bs i; sells = ss i }

  -- answered 0, it leaves what `resume::resume` leaves, with the count that stands in the place and the session that the numbers hold
  left-resumed : r ≡ 0 → ResumedBy x buys sells buys' sells' (resumed_to (Ok (get_or place' 0 0)) (session_from run'))
  left-resumed z =
      let w = zero-long p z in
      let l = left-tables p w in
      record { answer = sym (zero_read p z); session = session_again w; bought = l.bought; sold = l.sold }

-- ---- so an app's call is a call of `resume::resume`, whichever of the two it makes

abbrev pub ResumedApp : List ℕ → List ℕ → List ℕ → List ℕ → List ℕ → List ℕ → List ℕ → Type 0
ResumedApp bytes buys sells run' buys' sells' place' =
    ResumedAs bytes buys sells buys' sells' (resumed_to (Ok (get_or place' 0 0)) (session_from run'))

module _ {bytes run buys sells place run' buys' sells' place' : List ℕ} where
  pub resume_as : ResumedInto bytes run buys sells place run' buys' sells' place' 0 → ResumedApp bytes buys sells run' buys' sells' place'
  unfolding resumed_on
  resume_as p = left-resumed (tables_long buys sells) bytes (resume_left p) refl

  pub lent_as : {bought sold room bought' sold' room' : List ℕ} →
      ResumedLentInto bytes run buys sells place bought sold room run' buys' sells' place' bought' sold' room' 0 →
      ResumedApp bytes buys sells run' buys' sells' place'
  unfolding all_long
  lent_as {bought} {sold} {room} p = resume_as (lent_left (both (zero-resumed (all_long buys sells bought sold room) bytes p.left refl)).1 p)
