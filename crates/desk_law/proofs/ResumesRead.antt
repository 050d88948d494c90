-- An app reads from the answer and the place what became of its saved bytes, and a refusal leaves its tables as they were.
use Prim.Native.Nat.{ℕ, ◌≤◌}
use native.Mathlib.Omega.{arith}
use mathlib.Core.Path.{◌≡◌, refl, sym, ap, ◌∙◌}
use mathlib.Core.Bool.{Bool, true, false, cond, true≢false, false≢true}
use mathlib.Core.List.{List, [], ◌∷◌}
use borrow.Author.Tests.{le-ltb}
use lib.Dec.{ltb}
use lib.ListN.{length, get_or}
use Rattle.std.specs.Prelude.{Ok, Err}
use Rattle.terms.specs.declared.Refusal.{Refusal}
use Rattle.terms.specs.Refusals.{number_of}
use Rattle.terms.specs.Truth.{◌⊓◌}
use Rattle.terms.proofs.Logic.{cases}
use Rattle.terms.proofs.Refusals.{refusal-number}
use Rattle.tables.specs.Put.{put}
use Rattle.state_law.specs.Opening.{fixed_session}
use Rattle.engine_law.specs.Calls.{roomy}
use Rattle.resume_law.specs.Answers.{Comeback, bad_at}
use Rattle.resume_law.specs.Rebuilt.{Rebuilt}
use Rattle.resume_law.specs.Calls.{ResumedBy, resumed_to, tables_long, resumed_if, resumed_on, all_long}
use Rattle.resume_law.proofs.Finds.{refusal-keeps}
use Rattle.desk_packing_law.specs.Runs.{session_length}
use Rattle.desk_law.specs.Determined.{SameResumed}
use Rattle.desk_law.specs.Resuming.{resume_number, place_length, place_number, LaidResumed, where_kept, ResumedLeft, ResumedInto, ResumedLentInto}
use Rattle.desk_law.proofs.Determined.{resumed_one}

-- ---- whether both slices, for the session and for the place, are long enough

abbrev pub kept : List ℕ → List ℕ → Bool
kept run place = where_kept run place true false

pub long_kept : (run place : List ℕ) → session_length ≤ length run → place_length ≤ length place → kept run place ≡ true
long_kept run place h k = rw (le-ltb (length run) session_length h, le-ltb (length place) place_length k)

-- what is chosen by two tests, by whether both fail
both_long : {A : Type 0} (a b : Bool) (long short : A) → cond a false (cond b false true) ≡ true → cond a short (cond b short long) ≡ long
both_long true b long short e = absurd (false≢true e)
both_long false true long short e = absurd (false≢true e)
both_long false false long short e = refl

one_short : {A : Type 0} (a b : Bool) (long short : A) → cond a false (cond b false true) ≡ false → cond a short (cond b short long) ≡ short
one_short true b long short e = refl
one_short false true long short e = refl
one_short false false long short e = absurd (true≢false e)

module _ {A : Type 0} (run place : List ℕ) (long short : A) where
  where_long_lem : kept run place ≡ true → where_kept run place long short ≡ long
  where_long_lem e = both_long (ltb (length run) session_length) (ltb (length place) place_length) long short e

  where_short : kept run place ≡ false → where_kept run place long short ≡ short
  where_short e = one_short (ltb (length run) session_length) (ltb (length place) place_length) long short e

-- ---- what a call leaves, given what the bytes come to

first-put : (place : List ℕ) (n : ℕ) → get_or (put place 0 (n ∷ [])) 0 0 ≡ n
unfolding put
first-put place n = refl

module _ {x : Rebuilt} {run buys sells place run' buys' sells' place' : List ℕ} {r : ℕ} (p : ResumedLeft x run buys sells place run' buys' sells' place' r) where
  -- A SLICE THAT IS TOO SHORT is answered 1, and nothing is written
  pub short_writes_nothing : kept run place ≡ false → (r ≡ 1) × (run' ≡ run) × (buys' ≡ buys) × (sells' ≡ sells) × (place' ≡ place)
  short_writes_nothing e = (
    p.answer ∙ where_short run place _ _ e,
    p.kept ∙ where_short run place _ _ e,
    p.bought ∙ where_short run place _ _ e,
    p.sold ∙ where_short run place _ _ e,
    p.placed ∙ where_short run place _ _ e,
  )

  module _ (w : kept run place ≡ true) where
    pub left-tables : ResumedBy x buys sells buys' sells' (resumed_to x.answer x.day.session)
    left-tables =
        record { answer = refl; session = refl; bought = p.bought ∙ where_long_lem run place _ _ w; sold = p.sold ∙ where_long_lem run place _ _ w }

    pub left_laid : LaidResumed (resumed_to x.answer x.day.session) run place run' place' r
    left_laid =
        record { answer = p.answer ∙ where_long_lem run place _ _ w; kept = p.kept ∙ where_long_lem run place _ _ w; placed = p.placed ∙ where_long_lem run place _ _ w }

    place_is : get_or place' 0 0 ≡ place_number x.answer
    place_is = ap (λ (l : List ℕ). get_or l 0 0) left_laid.placed ∙ first-put place (place_number x.answer)

    -- BYTES COUNT: the code is 0, and the place is their count
    pub counts_read : (n : ℕ) → x.answer ≡ Ok n → (r ≡ 0) × (get_or place' 0 0 ≡ n)
    counts_read n e = (left_laid.answer ∙ ap resume_number e, place_is ∙ ap place_number e)

    -- A REFUSAL: the code is its number, and the place is its place
    pub refusal_read : (q : Refusal) (n : ℕ) → x.answer ≡ bad_at q n → (r ≡ number_of q) × (get_or place' 0 0 ≡ n)
    refusal_read q n e = (let z : r ≡ resume_number (bad_at q n) = left_laid.answer ∙ ap resume_number e in omega arith, place_is ∙ ap place_number e)

  -- THE CODE IS 0 only where bytes count, and then both slices were long enough
  pub zero-long : r ≡ 0 → kept run place ≡ true
  zero-long z = cases (kept run place) (λ w. w) (λ s. absurd (let one = (short_writes_nothing s).0 in omega arith))

  pub zero_read : r ≡ 0 → x.answer ≡ Ok (get_or place' 0 0)
  zero_read z = go x.answer (sym z ∙ (left_laid (zero-long z)).answer) (place_is (zero-long z))
    where
      go : (a : Comeback) → 0 ≡ resume_number a → get_or place' 0 0 ≡ place_number a → a ≡ Ok (get_or place' 0 0)
      go (Ok n) e l = ap Ok (sym l)
      go (Err b) e l = absurd (omega (arith, (refusal-number b.refusal).0))

  refused_else : kept run place ≡ true → (r ≡ 0 → ⊥) → (q : Refusal) × (n : ℕ) × (x.answer ≡ bad_at q n)
  refused_else w z = go x.answer refl
    where
      go : (a : Comeback) → x.answer ≡ a → (q : Refusal) × (n : ℕ) × (x.answer ≡ bad_at q n)
      go (Ok n) e = absurd (z (counts_read w n e).0)
      go (Err b) e = (b.refusal, b.place, e)

-- ---- both calls are of this form

pub resume_left : {bytes run buys sells place run' buys' sells' place' : List ℕ} {r : ℕ} → ResumedInto bytes run buys sells place run' buys' sells' place' r →
    ResumedLeft (resumed_if (tables_long buys sells) bytes) run buys sells place run' buys' sells' place' r
unfolding resumed_on
resume_left p = p.left

module _ (long : Bool) (bytes : List ℕ) {run buys sells place run' buys' sells' place' : List ℕ} {r : ℕ}
    (p : ResumedLeft (resumed_if long bytes) run buys sells place run' buys' sells' place' r) where
  abbrev x : Rebuilt
  x = resumed_if long bytes

  still : (b : Bool) (q : Refusal) (n : ℕ) → (resumed_if b bytes).answer ≡ bad_at q n →
      ((resumed_if b bytes).moved ≡ false) × ((resumed_if b bytes).day.session ≡ fixed_session)
  still true q n e = refusal-keeps bytes q n e
  still false q n e = (refl, refl)

  -- a refusal moves nothing, and with it comes the fixed session
  pub refused_still : kept run place ≡ true → (r ≡ 0 → ⊥) → (x.moved ≡ false) × (x.day.session ≡ fixed_session)
  refused_still w z = let a = refused_else p w z in still long a.0 a.1 a.2

  -- ANY REFUSAL LEAVES THE TABLES AS LENT
  pub refusal-keeps-tables : (r ≡ 0 → ⊥) → (buys' ≡ buys) × (sells' ≡ sells)
  refusal-keeps-tables z =
      cases (kept run place)
      (λ w. let l = left-tables p w in let m = (refused_still w z).0 in (l.bought ∙ rw m refl, l.sold ∙ rw m refl))
      (λ s. let n = short_writes_nothing p s in (n.2, n.3))

  -- bytes count only where all that is lent is long enough
  pub zero-resumed : r ≡ 0 → long ≡ true
  zero-resumed z = go long (zero_read p z)
    where
      go : (b : Bool) {n : ℕ} → (resumed_if b bytes).answer ≡ Ok n → b ≡ true
      go true e = refl
      go false e = absurd (let z : ◌≡◌ {A = ℕ} 0 1 = cc in omega arith)

-- ---- a slice that is too short leaves the scratch as lent too

pub short-keeps-scratch : {bytes run buys sells place bought sold room run' buys' sells' place' bought' sold' room' : List ℕ} {r : ℕ} →
    ResumedLentInto bytes run buys sells place bought sold room run' buys' sells' place' bought' sold' room' r → kept run place ≡ false →
    (bought' ≡ bought) × (sold' ≡ sold) × (room' ≡ room)
short-keeps-scratch {bytes} {run} {buys} {sells} {place} {bought} {sold} {room} p e =
    let w : where_kept run place (all_long buys sells bought sold room) false ≡ false = where_short run place _ _ e in
    let s = p.scratch in
    (s.first ∙ rw w refl, s.second ∙ rw w refl, s.third ∙ rw w refl)

-- ---- both calls agree where the scratch is long enough, whatever else is lent

and_true : (a b : Bool) → b ≡ true → (a ⊓ b) ≡ a
unfolding ◌⊓◌
and_true true b e = e
and_true false b e = refl

module _ {bytes run buys sells place bought sold room : List ℕ} (w : roomy bought sold room ≡ true) where
  pub lent_left : {run' buys' sells' place' bought' sold' room' : List ℕ} {r : ℕ} →
      ResumedLentInto bytes run buys sells place bought sold room run' buys' sells' place' bought' sold' room' r →
      ResumedInto bytes run buys sells place run' buys' sells' place' r
  unfolding resumed_on all_long
  lent_left p = record { left = rw (and_true (tables_long buys sells) (roomy bought sold room) w) at p.left }

  pub calls_agree : {run₁ buys₁ sells₁ place₁ run₂ buys₂ sells₂ place₂ bought' sold' room' : List ℕ} {r₁ r₂ : ℕ} →
      ResumedInto bytes run buys sells place run₁ buys₁ sells₁ place₁ r₁ →
      ResumedLentInto bytes run buys sells place bought sold room run₂ buys₂ sells₂ place₂ bought' sold' room' r₂ →
      SameResumed run₁ buys₁ sells₁ place₁ run₂ buys₂ sells₂ place₂ r₁ r₂
  calls_agree p q = resumed_one p.left (lent_left q).left
