-- Laws of booleans and conditions that every crate uses.
use Prim.Native.Nat.{ℕ, ◌≤◌}
use mathlib.Core.Path.{◌≡◌, refl, sym}
use mathlib.Core.Bool.{Bool, true, false, cond, ◌&&◌, ◌||◌, not, false≢true, true≢false}
use borrow.Author.Tests.{leb-true, le-leb, not-true, not-false}
use lib.Dec.{leb}
use Rattle.terms.specs.Truth.{◌⊓◌, between}

-- to prove something of a choice, prove it of each branch, knowing how the test came out
pub by : {A : Type 0} (P : A → Type 0) (b : Bool) (x y : A) → (b ≡ true → P x) → (b ≡ false → P y) → P (cond b x y)
by P true x y f g = f refl
by P false x y f g = g refl

-- a proof by the two outcomes of a test
pub cases : {P : Type 0} (b : Bool) → (b ≡ true → P) → (b ≡ false → P) → P
cases true f g = f refl
cases false f g = g refl

pub cond_true : {A : Type 0} (b : Bool) (x y : A) → b ≡ true → cond b x y ≡ x
cond_true b x y e = rw e

pub cond_false : {A : Type 0} (b : Bool) (x y : A) → b ≡ false → cond b x y ≡ y
cond_false b x y e = rw e

-- two tests of which each passes where the other does are equal
pub same : (p q : Bool) → (p ≡ true → q ≡ true) → (q ≡ true → p ≡ true) → p ≡ q
same true q f g = sym (f refl)
same false true f g = g refl
same false false f g = refl

-- ---- conjunctions, taken apart and put together

pub split : (a b : Bool) → (a && b) ≡ true → (a ≡ true) × (b ≡ true)
split true b e = (refl, e)
split false b e = (e, absurd (false≢true e))

pub join : (a b : Bool) → a ≡ true → b ≡ true → (a && b) ≡ true
join a b e f = rw (e, f)

pub both : {a b : Bool} → (a ⊓ b) ≡ true → (a ≡ true) × (b ≡ true)
unfolding ◌⊓◌
both {a} {b} e = split a b e

pub make : {a b : Bool} → a ≡ true → b ≡ true → (a ⊓ b) ≡ true
unfolding ◌⊓◌
make {a} {b} e f = join a b e f

pub between_facts : (a x b : ℕ) → between a x b ≡ true → (a ≤ x) × (x ≤ b)
between_facts a x b h = let p = split (leb a x) (leb x b) h in (leb-true a x p.0, leb-true x b p.1)

pub between_make : (a x b : ℕ) → a ≤ x → x ≤ b → between a x b ≡ true
between_make a x b h k = join (leb a x) (leb x b) (le-leb a x h) (le-leb x b k)

-- ---- a function that tests conditions one by one: `search conditions` answers each `return`. `found` is the outcome of the code's test

pub fails : (found h rest : Bool) → found ≡ h → not found ≡ true → false ≡ (h ⊓ rest)
unfolding ◌⊓◌
fails found h rest s e = rw (← s, not-true found e)

pub passes : (x found h rest : Bool) → found ≡ h → not found ≡ false → x ≡ rest → x ≡ (h ⊓ rest)
unfolding ◌⊓◌
passes x found h rest s e f = rw (← s, not-false found e) f

pub regroup : (x a b c : Bool) → x ≡ (a ⊓ (b ⊓ c)) → x ≡ (a ⊓ b ⊓ c)
unfolding ◌⊓◌
regroup x true b c e = e
regroup x false b c e = e

pub ruleset conditions = (fails, passes, regroup)

-- ---- disjunctions

pub or-none : (p q : Bool) → p || q ≡ false → (p ≡ false) × (q ≡ false)
or-none true q e = absurd (true≢false e)
or-none false q e = (refl, e)

pub or_left : (p q : Bool) → p ≡ true → p || q ≡ true
or_left p q e = rw e

pub or-last : (p q : Bool) → (p ≡ false → q ≡ true) → p || q ≡ true
or-last true q f = refl
or-last false q f = f refl

-- a test does not come out both ways
pub no_both : {P : Type 0} (b : Bool) → b ≡ true → b ≡ false → P
no_both true e f = absurd (true≢false f)
no_both false e f = absurd (false≢true e)
