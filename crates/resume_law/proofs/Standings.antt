-- What is still to come back from a file that is read in pieces: it stays the same from piece to piece, and at the end it is what came back.
use Prim.Native.Nat.{ℕ, ◌+◌, ◌^◌, ◌≤◌}
use native.Mathlib.Omega.{arith}
use native.Mathlib.Nat.{add-zero}
use mathlib.Core.Path.{◌≡◌, refl, sym, ap, ◌∙◌, subst}
use mathlib.Core.Bool.{Bool, true, false, true≢false, false≢true}
use mathlib.Core.List.{List, [], ◌++◌, append_assoc, append-nil}
use lib.ListN.{length, drop, length-append, length-drop}
use Rattle.std.specs.Prelude.{Ok}
use Rattle.terms.specs.declared.Event.{Event}
use Rattle.terms.specs.declared.Order.{Order}
use Rattle.terms.specs.declared.Refusal.{Refusal}
use Rattle.terms.specs.Sizes.{line_room}
use Rattle.tables.specs.Tables.{decode, table_of}
use Rattle.tables.proofs.Slots.{decode-encode}
use Rattle.lines_text_law.specs.Grammar.{LineAnswer, whole, unfinished, wrong}
use Rattle.lines_text_law.specs.Reading.{LineOf, Begins, ReadAs}
use Rattle.lines_text_law.proofs.Sorts.{told, not-whole, not-wrong}
use Rattle.lines_reading_law.specs.Lines.{EventLine, event_figures, render_event}
use Rattle.lines_reading_law.specs.Answers.{read_event}
use Rattle.lines_reading_law.proofs.EventLines.{event-lines}
use Rattle.lines_writing_law.proofs.Short.{event-short}
use Rattle.state_law.specs.declared.Session.{Session}
use Rattle.state_law.specs.Day.{Day}
use Rattle.soundness_law.specs.Sound.{sound, day_in}
use Rattle.soundness_law.proofs.Days.{SoundDay, sound-day}
use Rattle.resume_law.specs.Answers.{Comeback, bad_at}
use Rattle.resume_law.specs.declared.BadLine.{BadLine}
use Rattle.resume_law.specs.declared.Replayed.{Replayed}
use Rattle.resume_law.specs.declared.Back.{Back}
use Rattle.resume_law.specs.declared.Passed.{Passed}
use Rattle.resume_law.specs.Rebuilt.{Rebuilt, rebuilt, refused, lines_from}
use Rattle.resume_law.specs.code.Replaying.{ReplayedAs, LinesReplayed}
use Rattle.resume_law.specs.Pieces.{BackBy, tells_bad, too_many, BackOf, Standing, standing, lines_of, unmoved, to_come, size_on, Onward, BackFrom, Told, back_to, unread_back, passed_to, passed_end, Starts, StartTold, place_of, StoodAs, PassedAs}
use Rattle.resume_law.specs.Pieces.BackOf.{not_read, too_long, all_read, bad_met}
use Rattle.resume_law.specs.Pieces.Told.{told_bad, told_long}
use Rattle.resume_law.specs.Pieces.StoodAs.{over, counts, refuses}
use Rattle.resume_law.proofs.Lines.{line-unfinished}
use Rattle.resume_law.proofs.Longer.{Passes, passes, later_by, lines-later, lines-unmoved}
use Rattle.resume_law.proofs.Longer.Passes.{short, goes, bad}

-- ---- nothing, and one after the other

pub onward-none : (a : Standing) → Onward [] a a
onward-none a = record { same = λ more. refl; count = λ more. refl }

pub onward_then : {got got' : List ℕ} {a b c : Standing} → Onward got a b → Onward got' b c → Onward (got ++ got') a c
onward_then {got} {got'} {a} p q =
    record {
      same = λ more. ap (to_come a) (append_assoc got got' more) ∙ p.same (got' ++ more) ∙ q.same more;
      count = λ more. ap (size_on a) (append_assoc got got' more) ∙ p.count (got' ++ more) ∙ q.count more;
    }

-- bytes were read behind those that were kept
pub onward_read : (before : ℕ) (d : Day) (kept got : List ℕ) →
    Onward got (record { before = before; day = d; kept = kept }) (record { before = before; day = d; kept = kept ++ got })
unfolding to_come
onward_read before d kept got =
    record {
      same = λ more. ap (λ (x : List ℕ). unmoved (lines_of before d x)) (sym (append_assoc kept got more));
      count = λ more. ap (λ (x : List ℕ). before + length x) (sym (append_assoc kept got more));
    }

-- what came back of some bytes came back of others, where the reads give these, they are as many, and come back as the same
module _ {gives gives' : List ℕ → Bool → Type 0} {size size' : List ℕ → ℕ} {comes comes' : List ℕ → Rebuilt} {buys sells : List ℕ} {r : Back}
    (f : List ℕ → List ℕ) (given : (bytes : List ℕ) (whole : Bool) → gives' bytes whole → gives (f bytes) whole)
    (many : (bytes : List ℕ) → size (f bytes) ≡ size' bytes) (by : (bytes : List ℕ) → BackBy (comes' bytes) buys sells r → BackBy (comes (f bytes)) buys sells r) where
  pub back_of : BackOf gives' size' comes' buys sells r → BackOf gives size comes buys sells r
  back_of (not_read bytes g e) = not_read (f bytes) (given bytes false g) e
  back_of (too_long bytes w g l e) = too_long (f bytes) w (given bytes w g) (subst (λ (n : ℕ). too_many ≤ n) (sym (many bytes)) l) e
  back_of (all_read bytes g e k) = all_read (f bytes) (given bytes true g) e (by bytes k)
  back_of (bad_met bytes w g t e k) = bad_met (f bytes) w (given bytes w g) t e (by bytes k)

-- what came back behind some pieces is what was to come before them
pub back_then : {gives gives' : List ℕ → Bool → Type 0} {got : List ℕ} {a b : Standing} {buys sells : List ℕ} {r : Back} → Onward got a b →
    ((bytes : List ℕ) (whole : Bool) → gives' bytes whole → gives (got ++ bytes) whole) → BackFrom gives' b buys sells r → BackFrom gives a buys sells r
back_then {gives} {gives'} {got} {a} {b} {buys} {sells} {r} p given k =
    record {
      comes = back_of (λ (bytes : List ℕ). got ++ bytes) given p.count (λ bytes. subst (λ (x : Rebuilt). BackBy x buys sells r) (sym (p.same bytes))) k.comes;
    }

-- all is told, whatever the reads give behind it
pub told_from : {gives : List ℕ → Bool → Type 0} {a : Standing} {buys sells : List ℕ} {r : Back} (more : List ℕ) (whole : Bool) → gives more whole →
    Told a buys sells r → BackFrom gives a buys sells r
told_from {gives} {a} more w g (told_bad t e k) = record { comes = bad_met more w g t e (k more) }
told_from {gives} {a} more w g (told_long l e) =
    let n = length-append a.kept more in
    let m = length-append a.kept [] in
    record { comes = too_long more w g (omega arith) e }

-- a read failed
pub unread_from : {gives : List ℕ → Bool → Type 0} (a : Standing) (buys sells : List ℕ) {r : Back} → gives [] false → r.read ≡ false → BackFrom gives a buys sells r
unread_from a buys sells g e = record { comes = not_read [] g e }

-- ---- the start of a line

-- it is short
pub begins-short : {E : Type 0} (render figures : E → List ℕ) → ((e : E) → length (render e) ≤ line_room) → (bytes : List ℕ) → Begins (LineOf render figures) bytes →
    length bytes ≤ line_room
begins-short render figures most bytes (e, rest, l) =
    let n = sym (length-append bytes rest) ∙ ap length l.0 in
    omega (arith, most e)

pub start-short : {bytes : List ℕ} → Starts bytes → length bytes ≤ line_room
start-short {bytes} s = begins-short render_event event_figures event-short bytes (rw s.start at (event-lines.right bytes)).0

-- by how the bytes are read
module _ (bytes : List ℕ) (a : LineAnswer Event) (read : ReadAs EventLine bytes a) where
  none-whole : (a ≡ unfinished → ⊥) → StartTold bytes false
  none-whole n = record { yes = λ e. absurd (false≢true e); no = λ _ s. n (told event-lines bytes a read ∙ s.start) }

  pub start-whole : (e : Event) (n : ℕ) → a ≡ whole e n → StartTold bytes false
  start-whole e n q = none-whole (not-whole q)

  pub start-wrong : (n : ℕ) → a ≡ wrong n → StartTold bytes false
  start-wrong n q = none-whole (not-wrong q)

  pub start-unfinished : a ≡ unfinished → StartTold bytes true
  start-unfinished q = record { yes = λ _. record { start = sym (told event-lines bytes a read) ∙ q }; no = λ e. absurd (true≢false e) }

-- at the end of the file it is dropped, and all before it counts
pub start-ends : {gives : List ℕ → Bool → Type 0} (before : ℕ) (s : Session) (buys sells : List ℕ) {kept : List ℕ} {r : Back} → Starts kept → gives [] true →
    r ≡ back_to (Ok before) s → BackFrom gives (standing before s buys sells kept) buys sells r
unfolding to_come
start-ends before s buys sells {kept} {r} start g e =
    let d : Day = day_in s buys sells in
    let q : read_event (kept ++ []) ≡ unfinished = ap read_event (append-nil kept) ∙ start.start in
    let x : to_come (standing before s buys sells kept) [] ≡ rebuilt before false d =
    ap unmoved (line-unfinished before false d (kept ++ []) (length (kept ++ [])) q) in
    record {
      comes =
          all_read [] g (ap (λ (z : Back). z.read) e)
          (subst (λ (z : Rebuilt). BackBy z buys sells r) (sym x)
          (record {
            answer = ap (λ (z : Back). z.answer) e;
            session = ap (λ (z : Back). z.session) e;
            day = λ n h. ap (λ (z : Back). day_in z.session buys sells) e;
          }));
    }

-- ---- the lines of a piece

-- a table of orders, read by their count
side_back : (n : ℕ) (os : List Order) (t : List ℕ) → n ≡ length os → t ≡ table_of os t → decode n t ≡ os
unfolding table_of
side_back n os t e shape = ap (decode n) shape ∙ rw e (decode-encode os _)

-- the day that a replay left, where an event was among the lines
day_back : (n : ℕ) (d : Day) (buys sells : List ℕ) (t : Replayed) → sound d ≡ true → ReplayedAs (rebuilt n true d) buys sells t → day_in t.session buys sells ≡ d
day_back n d buys sells t s k =
    let w : SoundDay d = sound-day d s in
    let b : decode t.session.live.buys buys ≡ d.buys =
    side_back t.session.live.buys d.buys buys (ap (λ (x : Session). x.live.buys) k.session ∙ w.buys-counted) (k.bought refl) in
    let c : decode t.session.live.sells sells ≡ d.sells =
    side_back t.session.live.sells d.sells sells (ap (λ (x : Session). x.live.sells) k.session ∙ w.sells-counted) (k.sold refl) in
    λ i. record { session = k.session i; buys = b i; sells = c i }

counts_are : {n k : ℕ} {a : Comeback} → a ≡ Ok n → a ≡ Ok (0 + k) → n ≡ k
counts_are {n} {k} p q = let z : n ≡ 0 + k = cc in omega arith

counts-or : {n k : ℕ} {r : Refusal} {a : Comeback} {P : Type 0} → a ≡ Ok n → a ≡ bad_at r k → P
counts-or p q = absurd (let z : ◌≡◌ {A = ℕ} 0 1 = cc in omega arith)

module _ (before : ℕ) (s : Session) (bytes buys sells : List ℕ) where
  abbrev d : Day
  d = day_in s buys sells

  abbrev here : Standing
  here = standing before s buys sells bytes

  -- what is to come, by what the piece's own places say
  by_piece : (more : List ℕ) → to_come here more ≡ unmoved (later_by before (lines_of 0 d (bytes ++ more)))
  unfolding to_come
  by_piece more =
      let all : List ℕ = bytes ++ more in
      ap (λ (n : ℕ). unmoved (lines_of n d all)) (sym (add-zero before)) ∙ ap unmoved (lines-later before (length all) 0 false d all)

  module _ (buys' sells' : List ℕ) where
    -- nothing more is to be read, and what came back is known
    ended : {r : Passed} {b : Back} → r ≡ passed_end b → Told here buys' sells' b → PassedAs before s bytes buys sells buys' sells' r
    ended {r} {b} e k =
        subst (PassedAs before s bytes buys sells buys' sells') (sym e)
        (record { within = omega arith; on = λ m. absurd (false≢true m); left = λ m. absurd (false≢true m); off = λ m. k })

    -- lines were taken, up to the start of one
    took : (used : ℕ) (now : Session) {r : Passed} → used ≤ length bytes → Starts (drop used bytes) →
        Onward [] here (standing (before + used) now buys' sells' (drop used bytes)) → r ≡ passed_to used (before + used) now →
        PassedAs before s bytes buys sells buys' sells' r
    took used now {r} h u o e =
        subst (PassedAs before s bytes buys sells buys' sells') (sym e)
        (record { within = h; on = λ m. o; left = λ m. u; off = λ m. absurd (true≢false m) })

    module _ (t : Replayed) (r : Passed) (started : Bool) (told : StartTold bytes started) (line : started ≡ false) where
      goes_on : (used : ℕ) (d' : Day) → used ≤ length bytes → day_in t.session buys' sells' ≡ d' →
          ((ys : List ℕ) → lines_of 0 d (bytes ++ ys) ≡ lines_from (length (drop used bytes ++ ys)) (0 + used) true d' (drop used bytes ++ ys)) →
          Onward [] here (standing (before + used) t.session buys' sells' (drop used bytes))
      unfolding to_come
      goes_on used d' h e f =
          record {
            count =
                λ more.
                let n = length-append bytes more in
                let m = length-append (drop used bytes) more in
                let l = length-drop used bytes in
                omega arith;
            same =
                λ more.
                let rest : List ℕ = drop used bytes ++ more in
                let z : 0 + used ≡ used = omega arith in
                by_piece more
                ∙ ap (λ (x : Rebuilt). unmoved (later_by before x)) (f more ∙ ap (λ (n : ℕ). lines_from (length rest) n true d' rest) z)
                ∙ ap unmoved (sym (lines-later before (length rest) used true d' rest))
                ∙ lines-unmoved (length rest) (before + used) true false d' rest
                ∙ ap (λ (x : Day). unmoved (lines_of (before + used) x rest)) (sym e);
          }

      bad_line : (q : Refusal) (n : ℕ) → tells_bad (bad_at q n) ≡ true → ((ys : List ℕ) → lines_of 0 d (bytes ++ ys) ≡ refused q n) →
          t.session ≡ (refused q n).day.session → Told here buys' sells' (back_to (bad_at q (before + n)) t.session)
      bad_line q n b f e =
          told_bad b refl
          (λ more.
          subst (λ (x : Rebuilt). BackBy x buys' sells' (back_to (bad_at q (before + n)) t.session))
          (sym (by_piece more ∙ ap (λ (x : Rebuilt). unmoved (later_by before x)) (f more)))
          (record { answer = refl; session = e; day = λ m h. counts-or h refl }))

      -- the place lies within the piece, so its bytes are too many
      too_far : (n : ℕ) → place_of t.answer ≡ n → n ≤ length bytes → 2 ^ 64 ≤ before + place_of t.answer → Told here buys' sells' unread_back
      too_far n p h l = let m = length-append bytes [] in told_long (omega arith) refl

      passed_by : (x : Rebuilt) → Passes 0 false d bytes x → ReplayedAs x buys' sells' t → StoodAs t before r → PassedAs before s bytes buys sells buys' sells' r
      passed_by x (short u) k (over l e) = absurd (told.no line (record { start = u }))
      passed_by x (goes used d' w h u f) k (over l e) = ended e (too_far (0 + used) (ap place_of k.answer) (omega arith) l)
      passed_by x (bad q n b h f) k (over l e) = ended e (too_far n (ap place_of k.answer) (omega arith) l)
      passed_by x (short u) k (counts n h e) = absurd (told.no line (record { start = u }))
      passed_by x (short u) k (refuses q n h e) = absurd (told.no line (record { start = u }))
      passed_by x (goes used d' w l u f) k (counts n h e) =
          let same : n ≡ used = counts_are h k.answer in
          took used t.session l (record { start = u }) (goes_on used d' l (day_back _ d' buys' sells' t w k) f)
          (e ∙ ap (λ (m : ℕ). passed_to m (before + m) t.session) same)
      passed_by x (goes used d' w l u f) k (refuses q n h e) = counts-or k.answer h
      passed_by x (bad q n b w f) k (counts m h e) = counts-or h k.answer
      passed_by x (bad q n b w f) k (refuses p m h e) =
          ended (e ∙ ap (λ (a : Comeback). passed_end (back_to a t.session)) (same_place h k.answer)) (bad_line q n b f k.session)
        where
          same_place : {p q : Refusal} {m n : ℕ} {a : Comeback} → a ≡ bad_at p m → a ≡ bad_at q n → bad_at p (before + m) ≡ bad_at q (before + n)
          same_place {p} {q} {m} {n} h j =
              let z : ◌≡◌ {A = BadLine} (record { refusal = p; place = m }) (record { refusal = q; place = n }) = cc in
              ap (λ (b : BadLine). bad_at b.refusal (before + b.place)) z

      -- a piece that has a whole line or a bad one
      pub piece-replayed : LinesReplayed bytes 0 s buys sells buys' sells' t → StoodAs t before r → PassedAs before s bytes buys sells buys' sells' r
      piece-replayed k h = passed_by _ (passes (length bytes) 0 false d bytes (omega arith)) k.replayed h

  -- a piece that is the start of a line
  pub piece_starts : {r : Passed} (started : Bool) → StartTold bytes started → started ≡ true → r ≡ passed_to 0 before s →
      PassedAs before s bytes buys sells buys sells r
  piece_starts {r} started told t e =
      let z : before + 0 ≡ before = add-zero before in
      subst (λ (n : ℕ). r ≡ passed_to 0 n s → PassedAs before s bytes buys sells buys sells r) z
      (took buys sells 0 s (omega arith) (told.yes t) (subst (λ (n : ℕ). Onward [] here (standing n s buys sells bytes)) (sym z) (onward-none here))) e
