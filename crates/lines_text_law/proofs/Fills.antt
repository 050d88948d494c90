-- The laws of forms, and of the loops that put them into a room.
use Prim.Native.Nat.{ℕ, zero, suc, ◌+◌, ◌-◌, ◌/◌, ◌%◌, ◌≤◌, ◌<◌}
use native.Mathlib.Omega.{arith}
use native.Mathlib.Nat.{add-zero}
use native.Mathlib.Numerals.{add-one}
use mathlib.Core.Path.{◌≡◌, refl, sym, ap, ◌∙◌}
use mathlib.Core.Bool.{Bool, true, ◌&&◌}
use Rattle.std.specs.List.{list_all}
use mathlib.Core.List.{List, [], ◌∷◌, ◌++◌, append_assoc}
use lib.ListN.{length, get_or, take, drop, set, length-append, drop_of_length-le}
use lib.Seq.{drop-cons, drop-drop, get_or-drop}
use lib.Dec.{eqb, leb}
use borrow.Author.Tests.{eq-eqb, ne_eqb, le-leb, leb-true}
use Rattle.terms.specs.Sizes.{written_most}
use Rattle.terms.proofs.Logic.{cases, split, join}
use Rattle.lines_text_law.specs.Numerals.{numeral, all_writable}
use Rattle.terms.specs.Numbers.{Writable}
use Rattle.tables.specs.Put.{put}
use Rattle.tables.proofs.Puts.{put-none, put-put-before}
use Rattle.lines_text_law.specs.Forms.{hole, piece, taken, fill, holes, longest}
use Rattle.lines_text_law.specs.declared.Spot.{Spot}
use Rattle.lines_text_law.specs.code.Room.{Put, PutFrom, Fits, PieceFits}
use Rattle.lines_text_law.proofs.Digits.{length_most_lem, numeral-first, numeral-last, length_last}
use Rattle.lines_text_law.proofs.Rooms.{put_then, set-put}

-- ---- numbers that can be written

pub writable-at : (ns : List ℕ) (k : ℕ) → Writable ns → get_or ns k 0 ≤ written_most
writable-at [] k w = omega arith
writable-at (n ∷ ns) zero w = w.0
writable-at (n ∷ ns) (suc k) w = writable-at ns k w.1

pub writable-take : (k : ℕ) (ns : List ℕ) → Writable ns → Writable (take k ns)
writable-take zero ns w = tt
writable-take (suc k) [] w = tt
writable-take (suc k) (n ∷ ns) w = (w.0, writable-take k ns w.1)

pub tested_writable : (ns : List ℕ) → all_writable ns ≡ true → Writable ns
unfolding all_writable
tested_writable [] e = tt
tested_writable (n ∷ ns) e = let p = split (leb n written_most) (all_writable ns) e in (leb-true n written_most p.0, tested_writable ns p.1)

pub writable_tested : (ns : List ℕ) → Writable ns → all_writable ns ≡ true
unfolding all_writable
writable_tested [] w = refl
writable_tested (n ∷ ns) w = join (leb n written_most) (all_writable ns) (le-leb n written_most w.0) (writable_tested ns w.1)

-- the test of each number by itself
abbrev pub writable : ℕ → Bool
writable n = leb n written_most

pub writable-all : (ns : List ℕ) → list_all writable ns ≡ all_writable ns
unfolding all_writable
writable-all [] = refl
writable-all (n ∷ ns) = ap (λ (x : Bool). writable n && x) (writable-all ns)

-- ---- forms

-- # stands for a number, and any other byte stands for itself
module _ (c : ℕ) where
  pub hole-piece : (n : ℕ) → c ≡ hole → piece c n ≡ numeral n
  hole-piece n e = rw (eq-eqb c hole e)

  pub hole-taken : c ≡ hole → taken c ≡ 1
  hole-taken e = rw (eq-eqb c hole e)

  pub byte-piece : (n : ℕ) → (c ≡ hole → ⊥) → piece c n ≡ c ∷ []
  byte-piece n e = rw (ne_eqb c hole e)

  pub byte-taken : (c ≡ hole → ⊥) → taken c ≡ 0
  byte-taken e = rw (ne_eqb c hole e)

-- a form from byte i on is what that byte stands for, and then the rest
module _ (f ns : List ℕ) (i k : ℕ) (within : i < length f) where
  pub fill_turn : fill (drop i f) (drop k ns) ≡ piece (get_or f i 0) (get_or ns k 0) ++ fill (drop (i + 1) f) (drop (k + taken (get_or f i 0)) ns)
  unfolding fill
  fill_turn =
      let e : get_or (drop k ns) 0 0 ≡ get_or ns k 0 = get_or-drop k ns 0 0 ∙ rw (add-zero k) in
      rw (drop-cons f i 0 within, e, drop-drop (taken (get_or f i 0)) k ns, add-one i)

  pub holes_turn : holes (drop i f) ≡ taken (get_or f i 0) + holes (drop (i + 1) f)
  unfolding holes
  holes_turn = rw (drop-cons f i 0 within, add-one i)

pub fill_end : (f ns : List ℕ) (i : ℕ) → length f ≤ i → fill (drop i f) ns ≡ []
unfolding fill
fill_end f ns i h = rw (drop_of_length-le f h)

pub holes-end : (f : List ℕ) (i : ℕ) → length f ≤ i → holes (drop i f) ≡ 0
unfolding holes
holes-end f i h = rw (drop_of_length-le f h)

-- a line is no longer than the longest line of its form
pub fill-length : (f ns : List ℕ) → length (fill f ns) ≤ longest f
unfolding fill longest
fill-length [] ns = omega arith
fill-length (c ∷ f) ns =
    cases (eqb c hole)
    (λ e. rw (e, length-append) (omega (arith, length_most_lem (get_or ns 0 0), fill-length f (drop 1 ns))))
    (λ e. rw e (omega (arith, fill-length f (drop 0 ns))))

-- two forms put together make the line of the one and then that of the other
pub fill-append : (f g ns : List ℕ) → fill (f ++ g) ns ≡ fill f ns ++ fill g (drop (holes f) ns)
unfolding fill holes
fill-append [] g ns = refl
fill-append (c ∷ f) g ns =
    rw (fill-append f g (drop (taken c) ns), drop-drop (holes f) (taken c) ns, append_assoc)

-- ---- the digits of a number, put from the last to the first

pub digit_turn : (d : List ℕ) (n w p : ℕ) → 10 ≤ w → w ≤ written_most → p ≡ n + length (numeral w) → p ≤ length d
    → put d n (numeral w) ≡ put (set d (p - 1) (48 + w % 10)) n (numeral (w / 10))
digit_turn d n w p a b q h =
    let l = length_last w a b in
    let t = length-append (numeral (w / 10)) ((48 + w % 10) ∷ []) in
    rw (numeral-last w a b, set-put d (p - 1) (48 + w % 10) (omega arith))
    (let k : p - 1 ≡ n + length (numeral (w / 10)) = omega arith in
    rw k (sym (put-put-before d n (numeral (w / 10)) ((48 + w % 10) ∷ []) (omega arith))))

pub digit-end : (d : List ℕ) (n w : ℕ) → w < 10 → n < length d → put d n (numeral w) ≡ set d n (48 + w)
digit-end d n w a h = rw (numeral-first w a, set-put d n (48 + w) h)

-- ---- what one byte of a form stands for, put at a spot

module _ {d : List ℕ} {from : Spot} {b : ℕ} {ns : List ℕ} (fits : PieceFits d from b ns) where
  -- where it is #, the next number is put
  module _ (e : b ≡ hole) where
    pub number-there : from.used < length ns
    number-there = omega (arith, fits.enough, hole-taken b e)

    pub number_fits : from.at + length (numeral (get_or ns from.used 0)) ≤ length d
    number_fits = omega (arith, fits.within, ap length (hole-piece b (get_or ns from.used 0) e))

    pub number-placed : {d' : List ℕ} {end : ℕ} → Put d from.at (numeral (get_or ns from.used 0)) d' end
        → PutFrom d from (piece b (get_or ns from.used 0)) (taken b) d' (record { at = end; used = from.used + 1 })
    number-placed p = record { there = rw (hole-piece b (get_or ns from.used 0) e) p; used = rw (hole-taken b e) }

  -- where it is not, the byte itself is put
  module _ (e : b ≡ hole → ⊥) where
    pub byte_fits : from.at < length d
    byte_fits = omega (arith, fits.within, ap length (byte-piece b (get_or ns from.used 0) e))

    pub byte-placed : PutFrom d from (piece b (get_or ns from.used 0)) (taken b) (set d from.at b) (record { at = from.at + 1; used = from.used })
    byte-placed =
        record {
          there = rw (byte-piece b (get_or ns from.used 0) e) (record { next = refl; laid = set-put d from.at b byte_fits });
          used = omega (arith, byte-taken b e);
        }

-- ---- a form, byte by byte

-- A form is being put into d₀ from a spot on, and what is left of it begins at byte i: d is the room as it stands, `to` the spot in it.
pub record Left (d₀ f ns : List ℕ) (from : Spot) (d : List ℕ) (to : Spot) (i : ℕ) : Type 0 where
  pub inside : i ≤ length f
  pub same : length d ≡ length d₀
  pub used : to.used + holes (drop i f) ≡ from.used + holes f
  pub place : to.at + length (fill (drop i f) (drop to.used ns)) ≡ from.at + length (fill f (drop from.used ns))
  pub rest : put d₀ from.at (fill f (drop from.used ns)) ≡ put d to.at (fill (drop i f) (drop to.used ns))

pub left-all : (d f ns : List ℕ) (from : Spot) → Left d f ns from d from 0
left-all d f ns from = record { inside = omega arith; same = refl; used = refl; place = refl; rest = refl }

module _ {d₀ f ns : List ℕ} {from : Spot} {d : List ℕ} {to : Spot} {i : ℕ} (left : Left d₀ f ns from d to i) where
  module _ (more : i < length f) (fits : Fits d₀ from f ns) where
    abbrev next : List ℕ
    next = piece (get_or f i 0) (get_or ns to.used 0)

    turned : length (fill (drop i f) (drop to.used ns)) ≡ length next + length (fill (drop (i + 1) f) (drop (to.used + taken (get_or f i 0)) ns))
    turned = ap length (fill_turn f ns i to.used more) ∙ length-append next _

    -- there is room for what the next byte stands for, and a number for it
    pub left-fits : PieceFits d to (get_or f i 0) ns
    left-fits =
        record {
          within = omega (arith, turned, left.place, left.same, fits.within);
          enough = omega (arith, holes_turn f ns i to.used more, left.used, fits.enough);
          writable = writable-at ns to.used fits.writable;
        }

    -- and it is put
    pub left_turn : {d' : List ℕ} {to' : Spot} → length d' ≡ length d → PutFrom d to next (taken (get_or f i 0)) d' to' → Left d₀ f ns from d' to' (i + 1)
    left_turn {d'} {to'} s p =
        let rest = fill (drop (i + 1) f) (drop (to.used + taken (get_or f i 0)) ns) in
        let z = p.there.next in
        let u = p.used in
        record {
          inside = omega arith;
          same = s ∙ left.same;
          used = omega (arith, holes_turn f ns i to.used more, left.used);
          place = rw u (omega (arith, turned, left.place));
          rest =
              left.rest
              ∙ rw (fill_turn f ns i to.used more, u, p.there.laid)
              (sym (put_then d to.at next rest to'.at z left-fits.within));
        }

  -- at the end the whole form is put
  pub left-none : length f ≤ i → PutFrom d₀ from (fill f (drop from.used ns)) (holes f) d to
  left-none h =
      let e = fill_end f (drop to.used ns) i h in
      record {
        there = record { next = omega (arith, left.place, ap length e); laid = sym (left.rest ∙ rw e (put-none d to.at)) };
        used = omega (arith, left.used, holes-end f i h);
      }
