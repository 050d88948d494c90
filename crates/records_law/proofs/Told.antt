-- `report_from` reads records as the contract asks: each report is read back from its record, and a report that is read has that record.
use Prim.Native.Nat.{ℕ, ◌+◌, ◌-◌, ◌≤◌, ◌<◌}
use native.Mathlib.Omega.{arith}
use native.Mathlib.Numerals.{add-one}
use mathlib.Core.Path.{◌≡◌, refl, sym, ap, subst, ◌∙◌}
use mathlib.Core.Bool.{Bool, true, false}
use mathlib.Core.List.{List, [], ◌∷◌, ◌++◌}
use lib.ListN.{length, get_or, take, drop, length-append, length-take, length-drop}
use lib.Seq.{drop-cons, take_at, take_all, length-take-le}
use Rattle.std.specs.Prelude.{Option, Some, None}
use Rattle.std.specs.Bool.{then_some}
use Rattle.std.specs.List.{slice_range}
use Rattle.terms.specs.declared.Report.{Report}
use Rattle.terms.specs.declared.Said.{Said}
use Rattle.terms.specs.declared.Said.TheVariants.{Accept, Trade, Convert, Cancel, Slab, Ref, Close}
use Rattle.terms.specs.declared.Why.{Why}
use Rattle.terms.specs.declared.Why.TheVariants.{Asked, Immediate, OutOfRange, OutsideBand, DayEnd}
use Rattle.tables.specs.Lengths.{record_length}
use Rattle.terms.specs.Reports.{why_of}
use Rattle.tables.specs.Records.{record_of}
use Rattle.tables.specs.Same.{are_same}
use Rattle.terms.proofs.Logic.{by, cond_true, cond_false}
use Rattle.tables.proofs.Same.{same_itself, same_equal}
use Rattle.tables.proofs.Records.{length-record}
use Rattle.records_law.specs.Back.{RecordRead, why_by, said_by, report_if, report_from, report_in}

-- six numbers as a list
abbrev six : ℕ → ℕ → ℕ → ℕ → ℕ → ℕ → List ℕ
six k t a b c d = k ∷ t ∷ a ∷ b ∷ c ∷ d ∷ []

-- ---- a report is read back from its record

why_again : (w : Why) → why_by (why_of w) ≡ w
why_again Asked = refl
why_again Immediate = refl
why_again OutOfRange = refl
why_again OutsideBand = refl
why_again DayEnd = refl

abbrev reported : ℕ → Said → Report
reported t s = record { time = t; said = s }

-- kind and fields of a record make what its report says; one clause for each kind
said_again : (t : ℕ) (s : Said) → report_in (record_of (reported t s)) ≡ report_if (reported t s) (record_of (reported t s))
unfolding record_of report_from said_by
said_again t (Accept n) = refl
said_again t (Trade d) = refl
said_again t (Convert o) = refl
said_again t (Cancel e) = rw (why_again e.why)
said_again t (Slab b) = refl
said_again t (Ref p) = refl
said_again t (Close c) = refl

pub told_back : (r : Report) → report_in (record_of r) ≡ Some r
told_back r = said_again r.time r.said ∙ cond_true (are_same (record_of r) (record_of r)) _ _ (same_itself (record_of r))

-- ---- a report that is read has the given record

-- nothing was read, or a report whose record the numbers are
abbrev Only : List ℕ → Option Report → Type 0
Only ns (Some r) = ns ≡ record_of r
Only ns None = Unit

only-told : (r : Report) (ns : List ℕ) → Only ns (report_if r ns)
only-told r ns = by (Only ns) (are_same (record_of r) ns) (Some r) None (λ e. sym (same_equal (record_of r) ns e)) (λ _. tt)

only : (k t a b c d : ℕ) → Only (six k t a b c d) (report_from k t a b c d)
unfolding report_from
only k t a b c d = only-told (record { time = t; said = said_by k a b c d }) (six k t a b c d)

-- ---- so the numbers have one right answer

not-told : (r : Report) → None ≡ Some r → ⊥
not-told r p = let z : ◌≡◌ {A = ℕ} 0 1 = cc in omega arith

-- what `report_from` computes is right
pub told-right : (k t a b c d : ℕ) → RecordRead (six k t a b c d) (report_from k t a b c d)
told-right k t a b c d = go (report_from k t a b c d) refl (only k t a b c d)
  where
    go : (o : Option Report) → report_from k t a b c d ≡ o → Only (six k t a b c d) o → RecordRead (six k t a b c d) o
    go (Some r) e h = h
    go None e h = λ r q. not-told r (sym e ∙ ap report_in q ∙ told_back r)

-- and no other answer is
pub told-only : (ns : List ℕ) (o q : Option Report) → RecordRead ns o → RecordRead ns q → o ≡ q
told-only ns (Some r) (Some s) a b = sym (told_back r) ∙ ap report_in (sym a ∙ b) ∙ told_back s
told-only ns (Some r) None a b = absurd (b r a)
told-only ns None (Some s) a b = absurd (a s b)
told-only ns None None a b = refl

-- a record is read back as its report
pub record_back : (r : Report) (o : Option Report) → RecordRead (record_of r) o → o ≡ Some r
record_back r o a = told-only (record_of r) o (Some r) a refl

-- ---- six numbers of a room

too_few : (s : List ℕ) (n : ℕ) → length s - n < record_length → RecordRead (take record_length (drop n s)) None
too_few s n h r e =
    let l = ap length e ∙ length-record r in
    let m : length (take record_length (drop n s)) ≤ length s - n = simp (length-take, length-drop) (omega arith) in
    omega arith

-- the place is past the room's end, or what stands from it on, `part`, is no whole record
pub past_end : (s : List ℕ) (n : ℕ) (o : Option Report) → o ≡ None → length s < n → RecordRead (take record_length (drop n s)) o
past_end s n o e h = rw e (too_few s n (omega arith))

pub not_whole : (s part : List ℕ) (n : ℕ) (o : Option Report) → o ≡ None → length part + n ≡ length s → length part < record_length → RecordRead (take record_length (drop n s)) o
not_whole s part n o e h k = rw e (too_few s n (omega arith))

next-at : (s : List ℕ) (i j : ℕ) → j ≡ i + 1 → i < length s → drop i s ≡ get_or s i 0 ∷ drop j s
next-at s i j e h = rw (e, add-one i) (drop-cons s i 0 h)

pub six_at : (s : List ℕ) (n : ℕ) → n + record_length ≤ length s
    → take record_length (drop n s) ≡ six (get_or s n 0) (get_or s (n + 1) 0) (get_or s (n + 2) 0) (get_or s (n + 3) 0) (get_or s (n + 4) 0) (get_or s (n + 5) 0)
six_at s n h =
    rw (
      next-at s n (n + 1) refl (omega arith),
      next-at s (n + 1) (n + 2) (omega arith) (omega arith),
      next-at s (n + 2) (n + 3) (omega arith) (omega arith),
      next-at s (n + 3) (n + 4) (omega arith) (omega arith),
      next-at s (n + 4) (n + 5) (omega arith) (omega arith),
      next-at s (n + 5) (n + 6) (omega arith) (omega arith),
    )

-- what the code reads from the six numbers at a place is right
pub told-there : (s : List ℕ) (n : ℕ) (o : Option Report) → n ≤ length s → record_length ≤ length s - n
    → o ≡ report_from (get_or s n 0) (get_or s (n + 1) 0) (get_or s (n + 2) 0) (get_or s (n + 3) 0) (get_or s (n + 4) 0) (get_or s (n + 5) 0)
    → RecordRead (take record_length (drop n s)) o
told-there s n o h k e = rw (e, six_at s n (omega arith)) (told-right _ _ _ _ _ _)

-- any right answer for the first six of some numbers is what `report_in` computes
pub told-first : (ns : List ℕ) (o : Option Report) → record_length ≤ length ns → RecordRead (take record_length ns) o → o ≡ report_in ns
told-first ns o h k = told-only (take record_length ns) o (report_in ns) k (told-there ns 0 (report_in ns) (omega arith) (omega arith) refl)

-- a record is read back as its report, whatever follows it
pub told-front : (r : Report) (l : List ℕ) → report_in (record_of r ++ l) ≡ Some r
told-front r l =
    let n = length-record r in
    let long : record_length ≤ length (record_of r ++ l) = rw length-append (omega arith) in
    sym (told-first (record_of r ++ l) (Some r) long (take_at (record_of r) l record_length n))

-- ---- what code reads from a whole record: `ns` are its six numbers, `said` what they say, `own` the record of that, and `same` whether these are the six

six_of : (ns : List ℕ) → length ns ≡ record_length → ns ≡ six (get_or ns 0 0) (get_or ns 1 0) (get_or ns 2 0) (get_or ns 3 0) (get_or ns 4 0) (get_or ns 5 0)
six_of ns l = sym (take_all record_length ns (omega arith)) ∙ six_at ns 0 (omega arith)

pub told_if : (r : Report) (ns : List ℕ) (same : Bool) → same ≡ are_same (record_of r) ns → then_some same r ≡ report_if r ns
told_if r ns true e = sym (cond_true (are_same (record_of r) ns) (Some r) None (sym e))
told_if r ns false e = sym (cond_false (are_same (record_of r) ns) (Some r) None (sym e))

whole_read : (ns own : List ℕ) (said : Said) (same : Bool) → length ns ≡ record_length
    → said ≡ said_by (get_or ns 0 0) (get_or ns 2 0) (get_or ns 3 0) (get_or ns 4 0) (get_or ns 5 0) → own ≡ record_of (reported (get_or ns 1 0) said)
    → same ≡ are_same own ns → RecordRead ns (then_some same (reported (get_or ns 1 0) said))
unfolding report_from
whole_read ns own said same l e g f =
    let s = six_of ns l in
    let right : RecordRead ns (report_in ns) = subst (λ (n : List ℕ). RecordRead n (report_in ns)) (sym s) (told-right _ _ _ _ _ _) in
    let found : then_some same (reported (get_or ns 1 0) said) ≡ report_if (reported (get_or ns 1 0) said) ns = told_if _ ns same (rw g at f) in
    let here : then_some same (reported (get_or ns 1 0) said) ≡ report_in ns =
    found
    ∙ ap (λ (x : Said). report_if (reported (get_or ns 1 0) x) ns) e
    ∙ ap (λ (n : List ℕ). report_if (reported (get_or ns 1 0) (said_by (get_or ns 0 0) (get_or ns 2 0) (get_or ns 3 0) (get_or ns 4 0) (get_or ns 5 0))) n) s in
    subst (λ (o : Option Report). RecordRead ns o) (sym here) right

pub record_read : (s part ns own : List ℕ) (n : ℕ) (said : Said) (same : Bool) (o : Option Report) → part ≡ slice_range s n (length s) → length part + n ≡ length s
    → ns ≡ take record_length part → record_length ≤ length part
    → said ≡ said_by (get_or ns 0 0) (get_or ns 2 0) (get_or ns 3 0) (get_or ns 4 0) (get_or ns 5 0)
    → own ≡ record_of (record { time = get_or ns 1 0; said = said }) → same ≡ are_same own ns → o ≡ then_some same (record { time = get_or ns 1 0; said = said })
    → RecordRead (take record_length (drop n s)) o
record_read s part ns own n said same o p l t k e g f h =
    let rest : part ≡ drop n s = p ∙ take_all (length s - n) (drop n s) (omega (arith, length-drop n s)) in
    let six : length ns ≡ record_length = ap length t ∙ length-take-le record_length part k in
    rw (h, ← rest, ← t) (whole_read ns own said same six e g f)

-- what the six numbers at a place stand for, where they are there
pub record_found : (s part ns : List ℕ) (n : ℕ) (o : Option Report) → part ≡ slice_range s n (length s) → length part + n ≡ length s
    → ns ≡ take record_length part → record_length ≤ length part → o ≡ report_in ns → RecordRead (take record_length (drop n s)) o
record_found s part ns n o p l t k e =
    let rest : part ≡ drop n s = p ∙ take_all (length s - n) (drop n s) (omega (arith, length-drop n s)) in
    let whole : length ns ≡ record_length = ap length t ∙ length-take-le record_length part k in
    rw (e, ← rest, ← t) (subst (λ (m : List ℕ). RecordRead m (report_in ns)) (sym (six_of ns whole)) (told-right _ _ _ _ _ _))
