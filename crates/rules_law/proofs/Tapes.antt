-- The tape: how its arrays of ten numbers change with a trade, which of them is the last trade's, and the sum of the last ten trades.
use Prim.Native.Nat.{ℕ, zero, suc, ◌+◌, ◌-◌, ◌*◌, ◌≤◌, ◌<◌}
use native.Mathlib.Omega.{arith}
use native.Mathlib.Nat.{mul-le-mul_right, min-eq_left, min-eq_right}
use native.Mathlib.Numerals.{add-one}
use mathlib.Core.Path.{◌≡◌, refl, sym, ap, ◌∙◌}
use mathlib.Core.List.{List, [], ◌∷◌, ◌++◌}
use mathlib.Core.Bool.{Bool, true, false}
use borrow.Author.Tests.{ltb-true, ltb-false, le-ltb, le-leb, lt-leb, ne_eqb}
use lib.Dec.{ltb}
use lib.ListN.{length, get_or, take, drop, drop_of_length-le}
use lib.Seq.{drop-cons, get_or-set_same}
use Rattle.terms.specs.Sizes.{price_most, lots_most, trades_most}
use Rattle.terms.proofs.Logic.{cases}
use Rattle.rules_law.specs.declared.Tally.{Tally}
use Rattle.rules_law.specs.declared.Tape.{Tape}
use Rattle.rules_law.specs.Close.{tallied, tally_all, kept, remembered, half_after, no_tally, average, tape_after, last_of, last_or, last_lots, close_price, next_base, closing_of, TallyFits, TenFits}

-- ---- the ten numbers of an array

-- n numbers from place i on, read one by one
abbrev reads : ℕ → ℕ → List ℕ → List ℕ
reads zero i a = []
reads (suc n) i a = get_or a i 0 ∷ reads n (suc i) a

reads_is : (n i : ℕ) (a : List ℕ) → i + n ≤ length a → reads n i a ≡ take n (drop i a)
reads_is zero i a h = refl
reads_is (suc n) i a h =
    let k : i < length a = omega arith in
    rw (drop-cons a i 0 k) (ap (λ (l : List ℕ). get_or a i 0 ∷ l) (reads_is n (suc i) a (omega arith)))

-- with ten remembered, the oldest goes and the new one comes last
pub shifted : (a : List ℕ) (n x : ℕ) → length a ≡ 10 → 10 ≤ n → reads 9 1 a ++ (x ∷ []) ≡ remembered a n x
unfolding remembered
shifted a n x l h =
    rw (le-ltb n 10 h) (ap (λ (t : List ℕ). drop 1 t ++ (x ∷ [])) (reads_is 10 0 a (omega arith)))

-- ---- the last trade

pub last_of_ten : (other n : ℕ) (ten : List ℕ) → 10 ≤ n → get_or ten 9 0 ≡ last_of other n ten
last_of_ten other n ten h =
    let some : (n ≡ 0 → ⊥) = λ e. omega arith in
    rw (ne_eqb n 0 some, min-eq_left h)

pub last_of_few : (other n : ℕ) (ten : List ℕ) → (n ≡ 0 → ⊥) → n < 10 → get_or ten (n - 1) 0 ≡ last_of other n ten
last_of_few other n ten some h =
    let l : n ≤ 10 = omega arith in
    rw (ne_eqb n 0 some, min-eq_right l)

-- the newest trade becomes the last
newest : (old : List ℕ) (n x : ℕ) → length old ≡ 10 → get_or (remembered old n x) (kept (n + 1) - 1) 0 ≡ x
newest old n x l =
    cases (ltb n 10)
    (λ e. let h : n < 10 = ltb-true n 10 e in
    let place : kept (n + 1) - 1 ≡ n = omega arith in
    rw place (unfold remembered in rw e (get_or-set_same old n x 0 (omega arith))))
    (λ e. let h : 10 ≤ n = ltb-false n 10 e in
    let place : kept (n + 1) - 1 ≡ 9 = omega arith in
    rw (place, ← shifted old n x l h))

pub last_newest : (other : ℕ) (t : Tape) (late : Bool) (price lots : ℕ) → length t.prices ≡ 10 → last_or other (tape_after t late price lots) ≡ price
unfolding last_or tape_after
last_newest other t late price lots l = rw (ne_eqb (t.trades + 1) 0 (λ e. omega arith)) (newest t.prices t.trades price l)

pub lots_newest : (t : Tape) (late : Bool) (price lots : ℕ) → length t.sizes ≡ 10 → last_lots (tape_after t late price lots) ≡ lots
unfolding last_lots tape_after
lots_newest t late price lots l = rw (ne_eqb (t.trades + 1) 0 (λ e. omega arith)) (newest t.sizes t.trades lots l)

-- ---- tallies

-- a trade in the half hour is added to the half hour's tally, an earlier one is not
pub half_late : (half : Tally) (price lots : ℕ) → half_after half true price lots ≡ tallied half price lots
half_late half price lots = refl

pub half_early : (half : Tally) (price lots : ℕ) → half_after half false price lots ≡ half
half_early half price lots = refl

pub tallied-fits : (t : Tally) (price lots : ℕ) → TallyFits t → t.count < trades_most → price ≤ price_most → 1 ≤ lots → lots ≤ lots_most → TallyFits (tallied t price lots)
unfolding tallied
tallied-fits t price lots f c p l m = let v : price * lots ≤ price_most * lots = mul-le-mul_right lots p in omega arith

pub tally_turn : (t : Tally) (ps ns : List ℕ) (i : ℕ) → i < length ps → i < length ns → tally_all t (drop i ps) (drop i ns) ≡ tally_all (tallied t (get_or ps i 0) (get_or ns i 0)) (drop (i + 1) ps) (drop (i + 1) ns)
unfolding tally_all
tally_turn t ps ns i h k = rw (add-one i, drop-cons ps i 0 h, drop-cons ns i 0 k)

-- what the loop over the ten trades holds: the first i of them are in the tally
pub record Tallying (ps ns : List ℕ) (t : Tally) (i : ℕ) : Type 0 where
  pub places : i ≤ 10
  pub counted : t.count ≡ i
  pub fits : TallyFits t
  pub rest : tally_all no_tally ps ns ≡ tally_all t (drop i ps) (drop i ns)

-- a turn adds one more
pub ten_turn : {ps ns : List ℕ} {t : Tally} {i : ℕ} (t' : Tally) → TenFits ps ns → Tallying ps ns t i → length ps ≡ 10 → length ns ≡ 10 → i < 10 → t' ≡ tallied t (get_or ps i 0) (get_or ns i 0) → Tallying ps ns t' (i + 1)
unfolding tallied
ten_turn {ps} {ns} {t} {i} t' f s lp ln h e =
    rw e (record {
      places = omega arith;
      counted = omega (arith, s.counted);
      fits = tallied-fits t (get_or ps i 0) (get_or ns i 0) s.fits (omega (arith, s.counted)) (f.price i h) (f.some i h) (f.small i h);
      rest = s.rest ∙ tally_turn t ps ns i (omega arith) (omega arith);
    })

-- at the end all ten are in it
pub ten_end : {ps ns : List ℕ} {t : Tally} {i : ℕ} → Tallying ps ns t i → length ps ≡ 10 → 10 ≤ i → t ≡ tally_all no_tally ps ns
unfolding tally_all
ten_end {ps} {ns} {t} {i} s lp h = let z : length ps ≤ i = omega arith in sym (s.rest ∙ rw (drop_of_length-le ps z))

-- ---- the close: each of the code's three returns is what the definition says

module _ (tick close settle : ℕ) (t : Tape) where
  pub by_half : (p : ℕ) → p ≡ average tick t.half → 10 ≤ t.half.count → record { price = p; base = p } ≡ closing_of tick close t settle
  unfolding close_price next_base
  by_half p e h = rw (le-leb 10 t.half.count h, e)

  pub by_ten : (p : ℕ) (n : Tally) → p ≡ average tick n → n ≡ tally_all no_tally t.prices t.sizes → t.half.count < 10 → 10 ≤ t.trades → record { price = p; base = p } ≡ closing_of tick close t settle
  unfolding close_price next_base
  by_ten p n e f h k = rw (lt-leb 10 t.half.count h, le-leb 10 t.trades k, e, f)

  pub by_last : (p : ℕ) → p ≡ last_or close t → t.half.count < 10 → t.trades < 10 → record { price = p; base = settle } ≡ closing_of tick close t settle
  unfolding close_price next_base
  by_last p e h k = rw (lt-leb 10 t.half.count h, lt-leb 10 t.trades k, e)

pub ruleset closings = (by_half, by_ten, by_last)
