-- A sound book seen from either side, and what insertion, removal and a sweep leave sound.
use Prim.Native.Nat.{ℕ, ◌+◌, ◌≤◌, ◌<◌}
use native.Mathlib.Omega.{arith}
use native.Mathlib.Nat.{le_refl}
use borrow.Author.Tests.{eqb-true}
use mathlib.Core.Path.{◌≡◌, refl, ◌∙◌}
use mathlib.Core.Bool.{true}
use mathlib.Core.List.{List, ◌++◌}
use lib.Dec.{eqb}
use lib.ListN.{length}
use Rattle.terms.specs.declared.Side.{Side}
use Rattle.terms.specs.declared.Side.TheVariants.{Buy, Sell}
use Rattle.terms.specs.declared.Order.{Order}
use Rattle.terms.specs.declared.Band.{Band}
use Rattle.terms.specs.Sizes.{slots}
use Rattle.terms.proofs.Logic.{cases}
use Rattle.rules_law.specs.Slabs.{in_band}
use Rattle.book_law.specs.Priority.{other_side, sorted, insert, removed}
use Rattle.book_law.specs.Matching.{Taker, sweep}
use Rattle.book_law.specs.Over.{Each, EachPrice, mine, times}
use Rattle.book_law.proofs.Over.{each_map, each_insert, each_removed, tally-append, tally-insert, tally-removed, length-insert, length_less}
use Rattle.book_law.proofs.Priority.{Older, sorted_insert, sorted-removed}
use Rattle.book_law.proofs.Conserve.{tally-rest, sweep_fewer}
use Rattle.book_law.proofs.Fills.{each_swept, sweep-sorted}
use Rattle.book_sound_law.specs.Sound.{uncrossed, on_side, OrderFits, BookFits}
use Rattle.book_sound_law.proofs.Facts.{each_fits, each_made, part-fits, each_older, each_wider}
use Rattle.book_sound_law.proofs.Once.{distinct_once, once_distinct, times_older}
use Rattle.book_sound_law.proofs.Apart.{ShortOf, Clear, Apart, clear_in, clear_out}

-- the facts of a sound book, with the orders of one side and those across instead of buys and sells
pub record Sided (side : Side) (given tick : ℕ) (b : Band) (own across : List Order) : Type 0 where
  pub few-own : length own ≤ slots
  pub few-across : length across ≤ slots
  pub each_own : Each (OrderFits given tick b) own
  pub each_across : Each (OrderFits given tick b) across
  pub sorted-own : sorted side own ≡ true
  pub sorted-across : sorted (other_side side) across ≡ true
  pub once : (id : ℕ) → times id own + times id across ≤ 1
  pub clear : Clear side own across

abbrev counts : ℕ → Order → ℕ
counts id o = mine id o.number 1

-- ---- from buys and sells to a side and the other, and back

-- what holds of the buys and of the sells holds of a side and of the other
seen : (P : Side → List Order → Type 0) (buys sells : List Order) → P Buy buys → P Sell sells → (side : Side) →
    P side (on_side side buys sells)
seen P buys sells x y Buy = x
seen P buys sells x y Sell = y

-- what holds of a side and of the other holds of the buys and of the sells
unseen : (P : Side → List Order → Type 0) (side : Side) (own across : List Order) → P side own → P (other_side side) across →
    P Buy (on_side side own across) × P Sell (on_side (other_side side) own across)
unseen P Buy own across x y = (x, y)
unseen P Sell own across x y = (y, x)

times_seen : (id : ℕ) (side : Side) (xs ys : List Order) →
    times id (on_side side xs ys) + times id (on_side (other_side side) xs ys) ≡ times id xs + times id ys
times_seen id Buy xs ys = refl
times_seen id Sell xs ys = omega arith

-- the two best prices are apart, seen from a side and seen from the book
apart_seen : (side : Side) (buys sells : List Order) → uncrossed buys sells ≡ true → Apart side (on_side side buys sells) (on_side (other_side side) buys sells)
apart_seen Buy buys sells e = e
apart_seen Sell buys sells e = e

abbrev Few : Side → List Order → Type 0
Few s os = length os ≤ slots

abbrev Ranked : Side → List Order → Type 0
Ranked s os = sorted s os ≡ true

module _ (given tick : ℕ) (b : Band) where
  abbrev Fits : Side → List Order → Type 0
  Fits s os = Each (OrderFits given tick b) os

  pub sided_of : (buys sells : List Order) → BookFits given tick b buys sells → (side : Side) →
      Sided side given tick b (on_side side buys sells) (on_side (other_side side) buys sells)
  sided_of buys sells f side =
      let each = seen Fits buys sells (each_fits given tick b buys f.each_buy) (each_fits given tick b sells f.each_sell) in
      let ranked = seen Ranked buys sells f.sorted_buys f.sorted_sells in
      record {
        few-own = seen Few buys sells f.few_buys f.few_sells side;
        few-across = seen Few buys sells f.few_buys f.few_sells (other_side side);
        each_own = each side;
        each_across = each (other_side side);
        sorted-own = ranked side;
        sorted-across = ranked (other_side side);
        once = λ id. let one = distinct_once (buys ++ sells) f.distinct_all id in
            omega (arith, times_seen id side buys sells, tally-append (counts id) buys sells, one);
        clear = clear_in side (on_side side buys sells) (on_side (other_side side) buys sells) (ranked side) (ranked (other_side side))
            (apart_seen side buys sells f.apart);
      }

  pub book_of : (side : Side) (own across : List Order) → Sided side given tick b own across →
      BookFits given tick b (on_side side own across) (on_side (other_side side) own across)
  book_of side own across k =
      let few = unseen Few side own across k.few-own k.few-across in
      let each = unseen Fits side own across k.each_own k.each_across in
      let ranked = unseen Ranked side own across k.sorted-own k.sorted-across in
      let buys : List Order = on_side side own across in
      let sells : List Order = on_side (other_side side) own across in
      record {
        few_buys = few.0;
        few_sells = few.1;
        each_buy = each_made given tick b buys each.0;
        each_sell = each_made given tick b sells each.1;
        sorted_buys = ranked.0;
        sorted_sells = ranked.1;
        distinct_all = once_distinct (buys ++ sells)
            (λ id. omega (arith, times_seen id side own across, tally-append (counts id) buys sells, k.once id));
        apart = clear_out side own across k.clear;
      }

-- ---- what stays sound

module _ (side : Side) (given tick : ℕ) (b : Band) (own across : List Order) (k : Sided side given tick b own across) where
  -- with more numbers given and a wider band
  pub sided_wider : (given' : ℕ) (b' : Band) → given ≤ given' → ((x : ℕ) → in_band b x ≡ true → in_band b' x ≡ true) →
      Sided side given' tick b' own across
  sided_wider given' b' h f =
      record {
        few-own = k.few-own;
        few-across = k.few-across;
        each_own = each_wider given given' tick b b' h f own k.each_own;
        each_across = each_wider given given' tick b b' h f across k.each_across;
        sorted-own = k.sorted-own;
        sorted-across = k.sorted-across;
        once = k.once;
        clear = k.clear;
      }

  -- after a sweep over the counter side
  pub sided_swept : (q : Taker) (first lots : ℕ) → Sided side given tick b own (sweep q first lots across).rest
  sided_swept q first lots =
      record {
        few-own = k.few-own;
        few-across = omega (arith, k.few-across, (sweep_fewer q first lots across).rest);
        each_own = k.each_own;
        each_across = (each_swept (OrderFits given tick b) (part-fits given tick b) q first lots across k.each_across).rest;
        sorted-own = k.sorted-own;
        sorted-across = (sweep-sorted (other_side side) q first lots across k.sorted-across).rest;
        once = λ id. omega (arith, k.once id, tally-rest (counts id) (λ o n. le_refl (counts id o)) q first lots across);
        clear = each_map (λ o. EachPrice (ShortOf side o.price) across)
            (λ o. EachPrice (ShortOf side o.price) (sweep q first lots across).rest)
            (λ o h. (each_swept (λ x. ShortOf side o.price x.price) (λ x n l m e. e) q first lots across h).rest) own k.clear;
      }

  -- after a removal on the side itself
  pub sided_removed : (n : ℕ) → Sided side given tick b (removed n own) across
  sided_removed n =
      record {
        few-own = omega (arith, k.few-own, length_less n own);
        few-across = k.few-across;
        each_own = each_removed (OrderFits given tick b) n own k.each_own;
        each_across = k.each_across;
        sorted-own = sorted-removed side n own k.sorted-own;
        sorted-across = k.sorted-across;
        once = λ id. omega (arith, k.once id, tally-removed (counts id) n own);
        clear = each_removed (λ o. EachPrice (ShortOf side o.price) across) n own k.clear;
      }

once_insert : (side : Side) (o : Order) (own across : List Order) → Older o.number own → Older o.number across →
    ((id : ℕ) → times id own + times id across ≤ 1) → (id : ℕ) → times id (insert side o own) + times id across ≤ 1
once_insert side o own across a b h id =
    cases (eqb o.number id)
    (λ f. let z : o.number ≡ id = eqb-true o.number id f in
    let none-own : times id own ≡ 0 = rw z at (times_older o.number own a) in
    let none-across : times id across ≡ 0 = rw z at (times_older o.number across b) in
    let t : times id (insert side o own) ≡ 1 + times id own = tally-insert (counts id) side o own ∙ rw f refl in
    omega arith)
    (λ f. let t : times id (insert side o own) ≡ 0 + times id own = tally-insert (counts id) side o own ∙ rw f refl in omega (arith, h id))

-- after an insertion on the side itself, of a number above all given ones, at a price that reaches no counter price
pub sided_insert : (side : Side) (given tick : ℕ) (b : Band) (own across : List Order) (o : Order) → Sided side given tick b own across →
    given < o.number → length own < slots → OrderFits o.number tick b o → EachPrice (ShortOf side o.price) across →
    Sided side o.number tick b (insert side o own) across
sided_insert side given tick b own across o k above room f c =
    let older-own : Older o.number own = each_older given tick b o.number own above k.each_own in
    let older-across : Older o.number across = each_older given tick b o.number across above k.each_across in
    let w : Sided side o.number tick b own across = sided_wider side given tick b own across k o.number b (omega arith) (λ x h. h) in
    record {
      few-own = omega (arith, length-insert side o own);
      few-across = k.few-across;
      each_own = each_insert (OrderFits o.number tick b) side o own f w.each_own;
      each_across = w.each_across;
      sorted-own = sorted_insert side o own older-own k.sorted-own;
      sorted-across = k.sorted-across;
      once = once_insert side o own across older-own older-across k.once;
      clear = each_insert (λ x. EachPrice (ShortOf side x.price) across) side o own c k.clear;
    }
