-- The closing prices of a sound session are small: an average exceeds the greatest price by at most the tick to which it is rounded.
-- The session's array of prices has ten places, and still has them after a trade.
use Prim.Native.Nat.{ℕ, zero, suc, ◌+◌, ◌-◌, ◌*◌, ◌≤◌}
use native.Mathlib.Omega.{arith}
use native.Mathlib.Nat.{zero-mul, div-zero, add-mul, mul_comm, mul-le-mul_right, le_of_mul-le-mul_right, min-eq_left}
use mathlib.Core.Path.{◌≡◌, refl, ap}
use mathlib.Core.Bool.{true, ◌||◌}
use mathlib.Core.List.{List, [], ◌∷◌}
use borrow.Author.Tests.{leb-true, eqb-true, eqb-false}
use lib.Dec.{leb, eqb}
use lib.ListN.{length, take, get_or}
use Rattle.terms.specs.Sizes.{price_most, tick_most}
use Rattle.terms.specs.Settings.{Valid}
use Rattle.terms.proofs.Logic.{by, cases, both, between_facts}
use Rattle.terms.proofs.Valid.{valid_facts}
use Rattle.rules_law.specs.declared.Tally.{Tally}
use Rattle.rules_law.specs.declared.Tape.{Tape}
use Rattle.rules_law.specs.Close.{no_tally, tallied, tally_all, nearest, average, kept, last_or, last_ten, close_price, next_base}
use Rattle.rules_law.proofs.Averages.{nearest_is}
use Rattle.state_law.specs.declared.Session.{Session}
use Rattle.soundness_law.specs.Sound.{every, price_sound}
use Rattle.soundness_law.proofs.Parts.{Parts}

-- no closing price is greater
abbrev pub closing_most : ℕ
closing_most = price_most + tick_most

-- ---- averages

-- the value of a tally is at most its lots at the greatest price
pub record Worth (t : Tally) : Type 0 where
  pub most : t.value ≤ price_most * t.lots

nearest-none : (tick value : ℕ) → nearest tick value 0 ≡ 0
unfolding nearest
nearest-none tick value = rw (zero-mul tick, div-zero (2 * value + 0), zero-mul tick)

nearest-some : (tick value lots : ℕ) → 1 ≤ tick → 1 ≤ lots → value ≤ price_most * lots → nearest tick value lots ≤ price_most + tick
nearest-some tick value lots t l h =
    le_of_mul-le-mul_right {k = lots}
    (omega (arith, (nearest_is tick value lots t l).not_above, add-mul price_most tick lots, mul_comm tick lots))
    (omega arith)

average-small : (tick : ℕ) (t : Tally) → 1 ≤ tick → Worth t → average tick t ≤ price_most + tick
average-small tick t some w =
    cases (eqb t.lots 0)
    (λ e. rw (eqb-true t.lots 0 e, nearest-none tick t.value) (omega arith))
    (λ e. let n : (t.lots ≡ 0 → ⊥) = eqb-false t.lots 0 e in nearest-some tick t.value t.lots some (omega arith) w.most)

-- ---- the last ten

tallied_worth : (t : Tally) (price lots : ℕ) → price ≤ price_most → Worth t → Worth (tallied t price lots)
unfolding tallied
tallied_worth t price lots p w = record { most = omega (arith, w.most, mul-le-mul_right lots p) }

all_worth : (tick : ℕ) (t : Tally) (ps ns : List ℕ) → every (price_sound tick) ps ≡ true → Worth t → Worth (tally_all t ps ns)
unfolding tally_all every
all_worth tick t [] ns e w = w
all_worth tick t (p ∷ ps) [] e w = w
all_worth tick t (p ∷ ps) (n ∷ ns) e w =
    let q = both e in
    all_worth tick (tallied t p n) ps ns q.1 (tallied_worth t p n (between_facts 1 p price_most (both q.0).0).1 w)

take_all : (n : ℕ) (xs : List ℕ) → length xs ≤ n → take n xs ≡ xs
take_all zero [] h = refl
take_all zero (x ∷ xs) h = absurd (omega arith)
take_all (suc n) [] h = refl
take_all (suc n) (x ∷ xs) h = ap (λ (l : List ℕ). x ∷ l) (take_all n xs (omega arith))

ten_worth : (tick : ℕ) (t : Tape) → length t.prices ≡ 10 → every (price_sound tick) (take (kept t.trades) t.prices) ≡ true →
    leb 10 t.trades ≡ true → Worth (last_ten t)
ten_worth tick t l e h =
    let many : 10 ≤ t.trades = leb-true 10 t.trades h in
    all_worth tick no_tally t.prices t.sizes (rw (min-eq_left many, take_all 10 t.prices (omega arith)) at e) (record { most = omega arith })

-- ---- the last trade

price_small : (tick n : ℕ) (ps : List ℕ) → every (price_sound tick) (take (suc n) ps) ≡ true → get_or ps n 0 ≤ price_most
unfolding every
price_small tick n [] h = omega arith
price_small tick zero (x ∷ xs) h = (between_facts 1 x price_most (both (both h).0).0).1
price_small tick (suc n) (x ∷ xs) h = price_small tick n xs (both h).1

last-small : (tick other : ℕ) (t : Tape) → other ≤ price_most → every (price_sound tick) (take (kept t.trades) t.prices) ≡ true →
    last_or other t ≤ price_most
unfolding last_or
last-small tick other t o h =
    by (λ (x : ℕ). x ≤ price_most) (eqb t.trades 0) other (get_or t.prices (kept t.trades - 1) 0)
    (λ e. o)
    (λ e. let n : (t.trades ≡ 0 → ⊥) = eqb-false t.trades 0 e in
    let m : kept t.trades ≡ suc (kept t.trades - 1) = omega arith in
    price_small tick (kept t.trades - 1) t.prices (rw m at h))

-- ---- the close

module _ (s : Session) (p : Parts s) (l : length s.tape.prices ≡ 10) where
  valid : Valid s.settings
  valid = valid_facts s.settings p.valid

  averaged : (t : Tally) → Worth t → average s.settings.tick t ≤ closing_most
  averaged t w = omega (arith, average-small s.settings.tick t valid.is_in_range.tick_some w, valid.is_in_range.tick_small)

  pub close_small : close_price s.settings.tick s.settings.close s.tape ≤ closing_most
  unfolding close_price
  close_small =
      let tick : ℕ = s.settings.tick in
      let t : Tape = s.tape in
      let P : ℕ → Type 0 = λ x. x ≤ closing_most in
      by P (leb 10 t.half.count) _ _
      (λ e. averaged t.half (record { most = omega (arith, p.halved.value_small) }))
      (λ e. by P (leb 10 t.trades) _ _
      (λ f. averaged (last_ten t) (ten_worth tick t l p.remembered.priced f))
      (λ f. omega (arith, last-small tick s.settings.close t valid.is_in_range.close_small p.remembered.priced)))

  pub base_small : (settle : ℕ) → settle ≤ price_most → next_base s.settings.tick s.settings.close s.tape settle ≤ closing_most
  unfolding next_base
  base_small settle h =
      by (λ (x : ℕ). x ≤ closing_most) (leb 10 s.tape.half.count || leb 10 s.tape.trades) _ _ (λ e. close_small) (λ e. omega arith)
