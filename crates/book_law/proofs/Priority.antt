-- Priority is a strict order on the orders of a side; insertion and removal keep a side best first. Each law holds for both sides.
use Prim.Native.Nat.{ℕ, ◌<◌}
use native.Mathlib.Omega.{arith}
use borrow.Author.Tests.{ltb-true, ltb-false, lt-ltb, le-ltb, eq-eqb, ne_eqb, eqb-true}
use mathlib.Core.Path.{◌≡◌, refl, sym, ◌∙◌}
use mathlib.Core.Bool.{Bool, true, false, ◌&&◌, ◌||◌}
use mathlib.Core.List.{List, [], ◌∷◌}
use lib.Dec.{ltb, eqb}
use Rattle.terms.specs.declared.Side.{Side}
use Rattle.terms.specs.declared.Side.TheVariants.{Buy, Sell}
use Rattle.terms.specs.declared.Order.{Order}
use Rattle.terms.proofs.Logic.{by, both, make, split, join, no_both, or-none, or_left, or-last}
use Rattle.book_law.specs.Priority.{better, ahead, head_behind, sorted, insert, removed}
use Rattle.book_law.specs.Over.{Each, EachPrice}

-- ---- prices

pub better_trans : (s : Side) (p q r : ℕ) → better s p q ≡ true → better s q r ≡ true → better s p r ≡ true
better_trans Buy p q r e f = lt-ltb r p (omega (arith, ltb-true q p e, ltb-true r q f))
better_trans Sell p q r e f = lt-ltb p r (omega (arith, ltb-true p q e, ltb-true q r f))

-- two prices are equal if neither is better
pub tie_price : (s : Side) (p q : ℕ) → better s p q ≡ false → better s q p ≡ false → q ≡ p
tie_price Buy p q e f = omega (arith, ltb-false q p e, ltb-false p q f)
tie_price Sell p q e f = omega (arith, ltb-false p q e, ltb-false q p f)

-- being no better is transitive too
pub no-better : (s : Side) (p q r : ℕ) → better s q p ≡ false → better s r q ≡ false → better s r p ≡ false
no-better Buy p q r e f = le-ltb p r (omega (arith, ltb-false p q e, ltb-false q r f))
no-better Sell p q r e f = le-ltb r p (omega (arith, ltb-false q p e, ltb-false r q f))

pub better-not : (s : Side) (p q : ℕ) → better s p q ≡ true → better s q p ≡ false
better-not Buy p q e = le-ltb p q (omega (arith, ltb-true q p e))
better-not Sell p q e = le-ltb q p (omega (arith, ltb-true p q e))

pub same_not : (s : Side) (p q : ℕ) → p ≡ q → better s q p ≡ false
same_not Buy p q e = le-ltb p q (omega arith)
same_not Sell p q e = le-ltb q p (omega arith)

-- ---- orders

or_cases : {R : Type 0} (p q : Bool) → p || q ≡ true → (p ≡ true → R) → (q ≡ true → R) → R
or_cases true q e f g = f refl
or_cases false q e f g = g e

-- an order behind another does not have a better price
pub behind-price : (s : Side) (a b : Order) → ahead s a b ≡ true → better s b.price a.price ≡ false
unfolding ahead
behind-price s a b e =
    or_cases (better s a.price b.price) _ e
    (λ f. better-not s a.price b.price f)
    (λ f. same_not s a.price b.price (eqb-true _ _ (split (eqb a.price b.price) (ltb a.number b.number) f).0))

pub ahead_trans : (s : Side) (a b c : Order) → ahead s a b ≡ true → ahead s b c ≡ true → ahead s a c ≡ true
unfolding ahead
ahead_trans s a b c e f =
    let near : Bool = better s a.price c.price in
    let tie : Bool = eqb a.price c.price && ltb a.number c.number in
    or_cases (better s a.price b.price) _ e
    (λ x. or_cases (better s b.price c.price) _ f
    (λ y. or_left near tie (better_trans s a.price b.price c.price x y))
    (λ y. or_left near tie (rw (eqb-true b.price c.price (split (eqb b.price c.price) (ltb b.number c.number) y).0) at x)))
    (λ x. let p = split (eqb a.price b.price) (ltb a.number b.number) x in
    let ab : a.price ≡ b.price = eqb-true a.price b.price p.0 in
    or_cases (better s b.price c.price) _ f
    (λ y. or_left near tie (rw ab y))
    (λ y. let q = split (eqb b.price c.price) (ltb b.number c.number) y in
    let l : a.number < c.number = omega (arith, ltb-true a.number b.number p.1, ltb-true b.number c.number q.1) in
    or-last near tie (λ n. join (eqb a.price c.price) (ltb a.number c.number)
    (eq-eqb a.price c.price (ab ∙ eqb-true b.price c.price q.0)) (lt-ltb a.number c.number l))))

-- if a does not go before b and b has the lower number, b goes before a
pub ahead_flip : (s : Side) (a b : Order) → b.number < a.number → ahead s a b ≡ false → ahead s b a ≡ true
unfolding ahead
ahead_flip s a b h e =
    or-last (better s b.price a.price) _
    (λ f. join _ _ (eq-eqb _ _ (tie_price s a.price b.price (or-none _ _ e).0 f)) (lt-ltb _ _ h))

-- "Best price first": of buys the one with the higher price, of sells the one with the lower;
pub dearest_first : (a b : Order) → b.price < a.price → ahead Buy a b ≡ true
unfolding ahead
dearest_first a b h = or_left _ _ (lt-ltb b.price a.price h)

pub cheapest_first : (a b : Order) → a.price < b.price → ahead Sell a b ≡ true
unfolding ahead
cheapest_first a b h = or_left _ _ (lt-ltb a.price b.price h)

-- "then lower number first"
pub earlier_first : (s : Side) (a b : Order) → a.price ≡ b.price → a.number < b.number → ahead s a b ≡ true
unfolding ahead
earlier_first s a b e h =
    or-last (better s a.price b.price) _ (λ z. join _ _ (eq-eqb a.price b.price e) (lt-ltb a.number b.number h))

-- of two orders at most one goes before the other
pub ahead_once : (s : Side) (a b : Order) → ahead s a b ≡ true → ahead s b a ≡ false
unfolding ahead
ahead_once s a b e =
    or_cases (better s a.price b.price) _ e
    (λ f. let apart : (b.price ≡ a.price → ⊥) = λ z. no_both (better s a.price b.price) f (same_not s b.price a.price z) in
    rw (better-not s a.price b.price f, ne_eqb b.price a.price apart))
    (λ f. let p = split (eqb a.price b.price) (ltb a.number b.number) f in
    let tie : a.price ≡ b.price = eqb-true a.price b.price p.0 in
    let late : ltb b.number a.number ≡ false = le-ltb b.number a.number (omega (arith, ltb-true a.number b.number p.1)) in
    rw (same_not s a.price b.price tie, eq-eqb b.price a.price (sym tie), late))

-- ---- a side that stands best first

-- all order numbers are below k
abbrev pub Older : ℕ → List Order → Type 0
Older k os = Each (λ o. o.number < k) os

head_insert : (s : Side) (x o : Order) (xs : List Order) → head_behind s x xs ≡ true → ahead s x o ≡ true →
    head_behind s x (insert s o xs) ≡ true
unfolding head_behind insert
head_insert s x o [] e f = f
head_insert s x o (y ∷ ys) e f = by (λ (l : List Order). head_behind s x l ≡ true) (ahead s o y) _ _ (λ p. f) (λ p. e)

-- inserting an order whose number is above all others keeps the side best first
pub sorted_insert : (s : Side) (o : Order) (os : List Order) → Older o.number os → sorted s os ≡ true → sorted s (insert s o os) ≡ true
unfolding sorted insert head_behind
sorted_insert s o [] h e = make refl refl
sorted_insert s o (x ∷ xs) h e =
    let q = both e in
    by (λ (l : List Order). sorted s l ≡ true) (ahead s o x) _ _
    (λ a. make a e)
    (λ a. make (head_insert s x o xs q.0 (ahead_flip s o x h.0 a)) (sorted_insert s o xs h.1 q.1))

head_past : (s : Side) (x y : Order) (ys : List Order) → ahead s x y ≡ true → head_behind s y ys ≡ true → head_behind s x ys ≡ true
unfolding head_behind
head_past s x y [] e f = refl
head_past s x y (z ∷ zs) e f = ahead_trans s x y z e f

head_removed : (s : Side) (x : Order) (n : ℕ) (ys : List Order) → head_behind s x ys ≡ true → sorted s ys ≡ true →
    head_behind s x (removed n ys) ≡ true
unfolding head_behind removed sorted
head_removed s x n [] e f = refl
head_removed s x n (y ∷ ys) e f =
    by (λ (l : List Order). head_behind s x l ≡ true) (eqb y.number n) _ _
    (λ p. head_past s x y ys e (both f).0)
    (λ p. e)

pub sorted-removed : (s : Side) (n : ℕ) (os : List Order) → sorted s os ≡ true → sorted s (removed n os) ≡ true
unfolding sorted removed
sorted-removed s n [] e = refl
sorted-removed s n (o ∷ os) e =
    let q = both e in
    by (λ (l : List Order). sorted s l ≡ true) (eqb o.number n) _ _
    (λ p. q.1)
    (λ p. make (head_removed s o n os q.0 q.1) (sorted-removed s n os q.1))

-- on a side that stands best first, no price is better than the first
pub worse_all : (s : Side) (p : ℕ) (o : Order) (os : List Order) → better s o.price p ≡ false → sorted s (o ∷ os) ≡ true →
    EachPrice (λ x. better s x p ≡ false) (o ∷ os)
unfolding sorted head_behind
worse_all s p o [] h e = (h, tt)
worse_all s p o (y ∷ ys) h e = let q = both e in (h, worse_all s p y ys (no-better s p o.price y.price h (behind-price s o y q.0)) q.1)
