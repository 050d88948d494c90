-- Each act leaves a sound book sound. An order that comes in sweeps the counter side, and its remainder rests where it crosses nothing, at
-- its limit or at the price to which it converts. Each law holds for both sides.
use Prim.Native.Nat.{ℕ, ◌+◌, ◌≤◌, ◌<◌}
use native.Mathlib.Omega.{arith}
use native.Mathlib.Nat.{le_refl}
use borrow.Author.Tests.{eqb-false}
use mathlib.Core.Path.{◌≡◌, refl}
use mathlib.Core.Bool.{true}
use mathlib.Core.List.{List, [], ◌∷◌}
use lib.Dec.{eqb}
use lib.ListN.{length}
use Rattle.terms.specs.declared.Side.{Side}
use Rattle.terms.specs.declared.Kind.{Kind}
use Rattle.terms.specs.declared.Kind.TheVariants.{Limit, Market}
use Rattle.terms.specs.declared.Life.{Life}
use Rattle.terms.specs.declared.Life.TheVariants.{AllDay, Ioc}
use Rattle.terms.specs.declared.Order.{Order}
use Rattle.terms.specs.declared.Band.{Band}
use Rattle.terms.specs.Sizes.{slots, lots_most}
use Rattle.terms.specs.Numbers.{on_tick}
use Rattle.terms.proofs.Logic.{by}
use Rattle.rules_law.specs.declared.Range.{Range}
use Rattle.rules_law.specs.Slabs.{in_band}
use Rattle.book_law.specs.Priority.{other_side, insert, removed}
use Rattle.book_law.specs.declared.Fate.{Fate}
use Rattle.book_law.specs.Matching.{Taker, taker, Swept, sweep, own_last_or, fate_of_left, fate_of, settled}
use Rattle.book_law.specs.Over.{Each, EachPrice}
use Rattle.book_law.proofs.Conserve.{sweep_conserves}
use Rattle.book_law.proofs.Fills.{each_swept, WithinFirst, market_within}
use Rattle.book_sound_law.specs.Sound.{book_sound, on_side, OrderFits}
use Rattle.book_sound_law.proofs.Facts.{part-fits, each_positive, book-fits, book_made}
use Rattle.book_sound_law.proofs.Apart.{ShortOf, rest_price, remainder_short}
use Rattle.book_sound_law.proofs.Kept.{Sided, sided_of, book_of, sided_wider, sided_swept, sided_removed, sided_insert}

-- ---- an order that comes in

-- what is known of an order that was not refused: its lots are at most the greatest; if it is a day order, its side, which holds `count`, has
-- a free place; a limit is a tick price in the band; and `last`, the session's last trade price or the previous settlement, is a tick price
pub record Admitted (life : Life) (kind : Kind) (tick : ℕ) (b : Band) (lots last count : ℕ) : Type 0 where
  pub few : lots ≤ lots_most
  pub place : life ≡ AllDay → count < slots
  pub limit-ticked : (p : ℕ) → kind ≡ Limit p → on_tick tick p ≡ true
  pub limit-banded : (p : ℕ) → kind ≡ Limit p → in_band b p ≡ true
  pub last-ticked : on_tick tick last ≡ true

own-last-ticked : (given tick : ℕ) (b : Band) (last : ℕ) (fs : List Order) → on_tick tick last ≡ true → Each (OrderFits given tick b) fs →
    on_tick tick (own_last_or last fs) ≡ true
unfolding own_last_or
own-last-ticked given tick b last [] h e = h
own-last-ticked given tick b last (f ∷ fs) h e = own-last-ticked given tick b f.price fs e.0.ticked e.1

module _ (side : Side) (given tick : ℕ) (b : Band) (own across : List Order) (left : ℕ) (k : Sided side given tick b own across)
    (small : left ≤ lots_most) where
  abbrev Lands : Fate → Type 0
  Lands fate = Sided side (given + 1) tick b (settled side (given + 1) left fate own) across

  -- where nothing of the order rests, its side stays as it was, and its number is given
  stays : Sided side (given + 1) tick b own across
  stays = sided_wider side given tick b own across k (given + 1) b (omega arith) (λ x f. f)

  lands_at : (p : ℕ) → 1 ≤ left → length own < slots → on_tick tick p ≡ true → in_band b p ≡ true → EachPrice (ShortOf side p) across →
      Sided side (given + 1) tick b (insert side (record { number = given + 1; price = p; lots = left }) own) across
  lands_at p some room on banded c =
      sided_insert side given tick b own across (record { number = given + 1; price = p; lots = left }) k (omega arith) room
      (record { number_some = omega arith; number_given = le_refl (given + 1); lots_some = some; lots_small = small; ticked = on; banded = banded }) c

  left_lands : (life : Life) (kind : Kind) (lots last : ℕ) (fs : List Order) → Admitted life kind tick b lots last (length own) → 1 ≤ left →
      on_tick tick (own_last_or last fs) ≡ true → EachPrice (ShortOf side (rest_price kind last fs)) across →
      Lands (fate_of_left life kind b (own_last_or last fs))
  left_lands Ioc kind lots last fs a some on c = stays
  left_lands AllDay (Limit p) lots last fs a some on c = lands_at p some (a.place refl) (a.limit-ticked p refl) (a.limit-banded p refl) c
  left_lands AllDay Market lots last fs a some on c =
      by Lands (in_band b (own_last_or last fs)) _ _
      (λ e. lands_at (own_last_or last fs) some (a.place refl) on e c)
      (λ e. stays)

-- the incoming order's own side, once it has come in under that number
abbrev pub own_after : Side → Life → Kind → Band → ℕ → ℕ → List Order → Swept → List Order
own_after side life kind b last number own w = settled side number w.left (fate_of life kind b last w) own

abbrev SidedAfter : Side → Life → Kind → ℕ → ℕ → Band → ℕ → List Order → Swept → Type 0
SidedAfter side life kind given tick b last own w = Sided side (given + 1) tick b (own_after side life kind b last (given + 1) own w) w.rest

sided_entered : (side : Side) (life : Life) (kind : Kind) (range : Range) (given tick : ℕ) (b : Band) (lots last : ℕ) (own across : List Order) →
    Sided side given tick b own across → Admitted life kind tick b lots last (length own) →
    SidedAfter side life kind given tick b last own (sweep (taker side kind range) 0 lots across)
unfolding fate_of
sided_entered side life kind range given tick b lots last own across k a =
    let q : Taker = taker side kind range in
    let w : Swept = sweep q 0 lots across in
    let swept : Sided side given tick b own w.rest = sided_swept side given tick b own across k q 0 lots in
    let small : w.left ≤ lots_most = omega (arith, a.few, (sweep_conserves q 0 lots across).incoming) in
    let sound-fills = (each_swept (OrderFits given tick b) (part-fits given tick b) q 0 lots across k.each_across).fills in
    let P : Fate → Type 0 = Lands side given tick b own w.rest w.left swept small in
    by P (eqb w.left 0) _ _ (λ e. stays side given tick b own w.rest w.left swept small)
    (λ e. let some : 1 ≤ w.left = (let y : (w.left ≡ 0 → ⊥) = eqb-false w.left 0 e in omega arith) in
    by P w.out _ _ (λ o. stays side given tick b own w.rest w.left swept small)
    (λ o. left_lands side given tick b own w.rest w.left swept small life kind lots last w.fills a some
    (own-last-ticked given tick b last w.fills a.last-ticked sound-fills)
    (remainder_short side kind range last lots across k.sorted-across o some)))

-- ---- the same laws, stated with the test `book_sound`

module _ (given tick : ℕ) (b : Band) (buys sells : List Order) (h : book_sound given tick b buys sells ≡ true) (side : Side) where
  abbrev pub own : List Order
  own = on_side side buys sells

  abbrev pub across : List Order
  across = on_side (other_side side) buys sells

  -- the book that consists of these orders of that side and these across is sound
  abbrev pub Sound : ℕ → Band → List Order → List Order → Type 0
  Sound given' b' own' across' = book_sound given' tick b' (on_side side own' across') (on_side (other_side side) own' across') ≡ true

  seen : Sided side given tick b own across
  seen = sided_of given tick b buys sells (book-fits given tick b buys sells h) side

  told : (given' : ℕ) (b' : Band) (own' across' : List Order) → Sided side given' tick b' own' across' → Sound given' b' own' across'
  told given' b' own' across' k =
      book_made given' tick b' (on_side side own' across') (on_side (other_side side) own' across') (book_of given' tick b' side own' across' k)

  pub wider_sound : (given' : ℕ) (b' : Band) → given ≤ given' → ((x : ℕ) → in_band b x ≡ true → in_band b' x ≡ true) →
      Sound given' b' own across
  wider_sound given' b' l f = told given' b' own across (sided_wider side given tick b own across seen given' b' l f)

  pub removed-sound : (n : ℕ) → Sound given b (removed n own) across
  removed-sound n = told given b (removed n own) across (sided_removed side given tick b own across seen n)

  pub insert-sound : (o : Order) → given < o.number → length own < slots → OrderFits o.number tick b o →
      EachPrice (ShortOf side o.price) across → Sound o.number b (insert side o own) across
  insert-sound o above room f c = told o.number b (insert side o own) across (sided_insert side given tick b own across o seen above room f c)

  pub swept_sound : (q : Taker) (first lots : ℕ) → Sound given b own (sweep q first lots across).rest
  swept_sound q first lots = told given b own (sweep q first lots across).rest (sided_swept side given tick b own across seen q first lots)

  -- the fills of a sweep are sound orders too,
  pub fills-sound : (q : Taker) (first lots : ℕ) → Each (OrderFits given tick b) (sweep q first lots across).fills
  fills-sound q first lots = (each_swept (OrderFits given tick b) (part-fits given tick b) q first lots across seen.each_across).fills

  -- and those of a market order are within the mark of the first
  pub fills-within : (range : Range) (lots : ℕ) → 1 ≤ b.low → WithinFirst side (sweep (taker side Market range) 0 lots across).fills
  fills-within range lots l = market_within side range lots across (each_positive given tick b across l seen.each_across)

  -- the book is sound after the order: its fills are gone from the counter side, and its remainder may rest on its own
  abbrev pub SoundAfter : Life → Kind → ℕ → Swept → Type 0
  SoundAfter life kind last w = Sound (given + 1) b (own_after side life kind b last (given + 1) own w) w.rest

  pub entered-sound : (life : Life) (kind : Kind) (range : Range) (lots last : ℕ) → Admitted life kind tick b lots last (length own) →
      SoundAfter life kind last (sweep (taker side kind range) 0 lots across)
  entered-sound life kind range lots last a = told (given + 1) b _ _ (sided_entered side life kind range given tick b lots last own across seen a)
