-- The numbers of a session stay sound under clock steps, trades and the setting of a field.
use Prim.Native.Nat.{ℕ, zero, suc, ◌+◌, ◌-◌, ◌*◌, ◌/◌, ◌%◌, ◌≤◌, ◌<◌, min}
use native.Mathlib.Omega.{arith}
use native.Mathlib.Nat.{mul-le-mul_right, le-div_iff_mul-le, div-le_of_le-mul, mod-eq_of_lt, zero-mod}
use mathlib.Core.Path.{◌≡◌, refl}
use mathlib.Core.Bool.{Bool, true, false, not, ◌||◌}
use mathlib.Core.List.{List, [], ◌∷◌, ◌++◌}
use borrow.Author.Tests.{ltb-true, ltb-false, eqb-true, eqb-false, eq-eqb, not-true}
use lib.Dec.{leb, ltb, eqb}
use lib.ListN.{length, take, drop, set, get_or}
use Rattle.terms.specs.declared.Band.{Band}
use Rattle.terms.specs.declared.Order.{Order}
use Rattle.terms.specs.Sizes.{price_most, lots_most, numbers_most, trades_most, time_most, days_most}
use Rattle.terms.specs.Numbers.{is_lots, on_tick}
use Rattle.terms.proofs.Logic.{by, cases, both, make, split, between_make}
use Rattle.terms.proofs.Valid.{valid_facts}
use Rattle.rules_law.specs.declared.Reckoning.{Reckoning}
use Rattle.rules_law.specs.declared.Tally.{Tally}
use Rattle.rules_law.specs.Slabs.{touches, cooling_after, over_by}
use Rattle.rules_law.specs.Reference.{reference_most, theoretical_or, minute_after, boundary, boundaries, crossed, reckoned}
use Rattle.rules_law.specs.Close.{tallied, kept, remembered, in_half_hour, half_after, tape_after, last_or}
use Rattle.rules_law.proofs.Factors.{theoretical_or-range}
use Rattle.book_law.specs.Over.{Each}
use Rattle.state_law.specs.declared.Session.{Session}
use Rattle.state_law.specs.Set.{set_time, set_closed, set_buys, set_sells, set_under, set_given}
use Rattle.state_law.specs.Now.{band_now}
use Rattle.state_law.specs.Clock.{widened_by, cooling_by, clock_step}
use Rattle.state_law.specs.Trades.{with_trade, with_trades}
use Rattle.soundness_law.specs.Sound.{every, price_sound}
use Rattle.soundness_law.proofs.Parts.{Timed, Halved, Minuted, Parts}

-- ---- the reference and the minute at boundaries

record Reckoned (trades : ℕ) (r : Reckoning) : Type 0 where
  some : 1 ≤ r.reference
  small : r.reference ≤ reference_most
  minuted : Minuted trades r.minute

-- an average of prices is within the bounds of a reference
average-range : (n sum : ℕ) → (n ≡ 0 → ⊥) → n ≤ sum → sum ≤ price_most * n → (1 ≤ sum / n) × (sum / n ≤ reference_most)
average-range n sum z a b =
    let p : 0 < n = omega arith in
    let u : sum / n ≤ price_most = div-le_of_le-mul n {m = sum} {n = price_most} (omega arith) in
    ((le-div_iff_mul-le {k = n} p).1 (omega arith), omega arith)

module _ (trades under days : ℕ) (u : under ≤ price_most) (d : days ≤ days_most) where
  boundary-kept : (r : Reckoning) → Reckoned trades r → Reckoned trades (boundary under days r)
  boundary-kept r k =
      let p : (1 ≤ (boundary under days r).reference) × ((boundary under days r).reference ≤ reference_most) =
      by (λ (x : ℕ). (1 ≤ x) × (x ≤ reference_most)) (eqb r.minute.count 0) (theoretical_or r.reference under days) (r.minute.sum / r.minute.count)
      (λ e. theoretical_or-range r.reference under days k.some k.small u d)
      (λ e. average-range r.minute.count r.minute.sum (eqb-false r.minute.count 0 e) k.minuted.sum-some k.minuted.sum_small) in
      record { some = p.0; small = p.1; minuted = omega arith }

  boundaries-kept : (n : ℕ) (r : Reckoning) → Reckoned trades r → Reckoned trades (boundaries n under days r)
  unfolding boundaries
  boundaries-kept zero r k = k
  boundaries-kept (suc n) r k = boundaries-kept n (boundary under days r) (boundary-kept r k)

-- ---- the clock steps

-- while a cooling-off runs, the band has not been widened
pub not_widened : (widened cooling : ℕ) → (eqb widened 0 || eqb cooling 0) ≡ true → eqb cooling 0 ≡ false → widened ≡ 0
not_widened widened cooling h e =
    cases (eqb widened 0)
    (λ z. eqb-true widened 0 z)
    (λ z. absurd (let y : ◌≡◌ {A = Bool} false true = rw (z, e) at h in let x : ◌≡◌ {A = ℕ} 0 1 = cc in omega arith))

timed_clock : (length time t : ℕ) (closed : Bool) (widened cooling : ℕ) → time ≤ t → t ≤ time_most → (closed || ltb t length) ≡ true →
    Timed length time closed widened cooling → Timed length t closed (widened_by widened cooling t) (cooling_by cooling t)
unfolding widened_by cooling_by
timed_clock length time t closed widened cooling h m u k =
    cases (over_by cooling t)
    (λ e. let z : widened ≡ 0 = not_widened widened cooling k.initial (not-true _ (split (not (eqb cooling 0)) (leb cooling t) e).0) in
    rw e (record { most = m; until = u; once = omega arith; initial = or-zero widened; ends = omega arith }))
    (λ e. rw e (record { most = m; until = u; once = k.once; initial = k.initial; ends = omega (arith, k.ends) }))
  where
    or-zero : (w : ℕ) → (eqb (w + 1) 0 || true) ≡ true
    or-zero w = cases (eqb (w + 1) 0) (λ e. rw e) (λ e. rw e)

pub clock_kept : (s : Session) (t : ℕ) → s.clock.time ≤ t → t ≤ time_most → (s.clock.closed || ltb t s.settings.length) ≡ true → Parts s →
    Parts (clock_step s t)
unfolding clock_step reckoned
clock_kept s t h m u p =
    let n = p.numbered in
    let r : Reckoned s.tape.trades (reckoned s.reckoning s.clock.under s.settings.days s.clock.time t) =
    boundaries-kept s.tape.trades s.clock.under s.settings.days n.under_small (valid_facts s.settings p.valid).is_in_range.days_small
    (crossed s.clock.time t) s.reckoning (record { some = n.reference_some; small = n.reference_small; minuted = p.minuted }) in
    record {
      valid = p.valid;
      timed = timed_clock s.settings.length s.clock.time t s.clock.closed s.clock.widened s.clock.cooling h m u p.timed;
      numbered = record {
        reference_some = r.some;
        reference_small = r.small;
        under_small = n.under_small;
        given_small = n.given_small;
        trades_small = n.trades_small;
      };
      halved = p.halved;
      minuted = r.minuted;
      remembered = p.remembered;
    }

-- ---- a trade

-- a possible trade: a positive tick price, and lots within their range
pub record Tradable (tick : ℕ) (f : Order) : Type 0 where
  pub price-some : 1 ≤ f.price
  pub price_small : f.price ≤ price_most
  pub ticked : on_tick tick f.price ≡ true
  pub lots_some : 1 ≤ f.lots
  pub lots_small : f.lots ≤ lots_most

-- a positive multiple of the tick is at least the tick
tick_below : (tick p : ℕ) → 1 ≤ p → on_tick tick p ≡ true → tick ≤ p
tick_below tick p h e =
    cases (ltb p tick)
    (λ l. let z : p % tick ≡ 0 = eqb-true (p % tick) 0 e in let y : p % tick ≡ p = mod-eq_of_lt (ltb-true p tick l) in absurd (omega arith))
    (λ l. ltb-false p tick l)

-- the remembered numbers still pass a test after a new one that passes it
module _ (test : ℕ → Bool) where
  every_set : (n x : ℕ) (xs : List ℕ) → test x ≡ true → every test (take n xs) ≡ true → every test (take (suc n) (set xs n x)) ≡ true
  unfolding every
  every_set zero x [] h k = refl
  every_set zero x (y ∷ ys) h k = make h refl
  every_set (suc n) x [] h k = refl
  every_set (suc n) x (y ∷ ys) h k = let q = both k in make q.0 (every_set n x ys h q.1)

  every_take : (n : ℕ) (xs : List ℕ) → every test xs ≡ true → every test (take n xs) ≡ true
  unfolding every
  every_take zero xs k = refl
  every_take (suc n) [] k = refl
  every_take (suc n) (x ∷ xs) k = let q = both k in make q.0 (every_take n xs q.1)

  every-last : (x : ℕ) (xs : List ℕ) → test x ≡ true → every test xs ≡ true → every test (xs ++ (x ∷ [])) ≡ true
  unfolding every
  every-last x [] h k = make h refl
  every-last x (y ∷ ys) h k = let q = both k in make q.0 (every-last x ys h q.1)

  every_drop : (xs : List ℕ) → every test xs ≡ true → every test (drop 1 xs) ≡ true
  unfolding every
  every_drop [] k = refl
  every_drop (x ∷ xs) k = (both k).1

  remembered-kept : (n x : ℕ) (xs : List ℕ) → test x ≡ true → every test (take (kept n) xs) ≡ true →
      every test (take (kept (n + 1)) (remembered xs n x)) ≡ true
  unfolding remembered
  remembered-kept n x xs h k =
      cases (ltb n 10)
      (λ e. let few : n < 10 = ltb-true n 10 e in
      let a : min 10 n ≡ n = omega arith in
      let b : min 10 (n + 1) ≡ suc n = omega arith in
      rw (e, b) (every_set n x xs h (rw a at k)))
      (λ e. let many : 10 ≤ n = ltb-false n 10 e in
      let a : min 10 n ≡ 10 = omega arith in
      let b : min 10 (n + 1) ≡ 10 = omega arith in
      rw (e, b) (every_take 10 (drop 1 (take 10 xs) ++ (x ∷ [])) (every-last x (drop 1 (take 10 xs)) h (every_drop (take 10 xs) (rw a at k)))))

half_late : (tick trades p l : ℕ) (late : Bool) (h : Tally) → tick ≤ p → p ≤ price_most → 1 ≤ l → l ≤ lots_most → Halved tick trades h →
    Halved tick (trades + 1) (half_after h late p l)
unfolding tallied
half_late tick trades p l true h a b c d k = omega (arith, mul-le-mul_right l a, mul-le-mul_right l b)
half_late tick trades p l false h a b c d k = omega arith

-- a trade leaves the times sound: a cooling-off that it starts is in the initial slab and ends 900,000 ms later
timed_trade : (length time : ℕ) (closed : Bool) (widened cooling : ℕ) (b : Band) (price : ℕ) → Timed length time closed widened cooling →
    Timed length time closed widened (cooling_after widened cooling time b price)
unfolding cooling_after
timed_trade length time closed widened cooling b price k =
    let P : ℕ → Type 0 = Timed length time closed widened in
    by P (eqb widened 0) _ _
    (λ z. by P (eqb cooling 0) _ _
    (λ c. by P (touches b price) _ _
    (λ e. record { most = k.most; until = k.until; once = k.once; initial = rw z refl; ends = omega arith })
    (λ e. k))
    (λ c. k))
    (λ z. k)

pub trade_kept : (s : Session) (f : Order) → s.tape.trades < trades_most → Tradable s.settings.tick f → Parts s →
    Parts (with_trade s f.price f.lots)
unfolding with_trade tape_after minute_after
trade_kept s f few fit p =
    let n = p.numbered in
    let m = p.minuted in
    let tick : ℕ = s.settings.tick in
    let trades : ℕ = s.tape.trades in
    record {
      valid = p.valid;
      timed = timed_trade s.settings.length s.clock.time s.clock.closed s.clock.widened s.clock.cooling (band_now s) f.price p.timed;
      numbered = record {
        reference_some = n.reference_some;
        reference_small = n.reference_small;
        under_small = n.under_small;
        given_small = n.given_small;
        trades_small = omega arith;
      };
      halved = half_late tick trades f.price f.lots (in_half_hour s.settings.length s.clock.time) s.tape.half
          (tick_below tick f.price fit.price-some fit.ticked) fit.price_small fit.lots_some fit.lots_small p.halved;
      minuted = omega (arith, m.few, m.sum-some, m.sum_small, fit.price-some, fit.price_small);
      remembered = record {
        priced = remembered-kept (price_sound tick) trades f.price s.tape.prices
            (make (between_make 1 f.price price_most fit.price-some fit.price_small) fit.ticked) p.remembered.priced;
        sized = remembered-kept is_lots trades f.lots s.tape.sizes (between_make 1 f.lots lots_most fit.lots_some fit.lots_small) p.remembered.sized;
      };
    }

pub trades-kept : (s : Session) (fs : List Order) → s.tape.trades + length fs ≤ trades_most → Each (Tradable s.settings.tick) fs → Parts s →
    Parts (with_trades s fs)
unfolding with_trades with_trade tape_after
trades-kept s [] h e p = p
trades-kept s (f ∷ fs) h e p = trades-kept (with_trade s f.price f.lots) fs (omega arith) e.1 (trade_kept s f (omega arith) e.0 p)

-- ---- one field set

pub given-kept : (s : Session) (n : ℕ) → n ≤ numbers_most → Parts s → Parts (set_given s n)
given-kept s n h p =
    let k = p.numbered in
    record {
      valid = p.valid;
      timed = p.timed;
      numbered = record {
        reference_some = k.reference_some;
        reference_small = k.reference_small;
        under_small = k.under_small;
        given_small = h;
        trades_small = k.trades_small;
      };
      halved = p.halved;
      minuted = p.minuted;
      remembered = p.remembered;
    }

pub under_kept : (s : Session) (u : ℕ) → u ≤ price_most → Parts s → Parts (set_under s u)
under_kept s u h p =
    let k = p.numbered in
    record {
      valid = p.valid;
      timed = p.timed;
      numbered = record {
        reference_some = k.reference_some;
        reference_small = k.reference_small;
        under_small = h;
        given_small = k.given_small;
        trades_small = k.trades_small;
      };
      halved = p.halved;
      minuted = p.minuted;
      remembered = p.remembered;
    }

pub closed_kept : (s : Session) (t : ℕ) → s.clock.time ≤ t → t ≤ time_most → Parts s → Parts (set_closed (set_time s t) true)
closed_kept s t h m p =
    let k = p.timed in
    record {
      valid = p.valid;
      timed = record { most = m; until = refl; once = k.once; initial = k.initial; ends = omega (arith, k.ends) };
      numbered = p.numbered;
      halved = p.halved;
      minuted = p.minuted;
      remembered = p.remembered;
    }

-- the live counts are no part of `Parts`, so setting them changes nothing there
pub counted-kept : (s : Session) (a b : ℕ) → Parts s → Parts (set_sells (set_buys s a) b)
counted-kept s a b p =
    record { valid = p.valid; timed = p.timed; numbered = p.numbered; halved = p.halved; minuted = p.minuted; remembered = p.remembered }

-- ---- the last trade's price is a multiple of the tick

price-ticked : (tick n : ℕ) (ps : List ℕ) → every (price_sound tick) (take (suc n) ps) ≡ true → on_tick tick (get_or ps n 0) ≡ true
unfolding every
price-ticked tick n [] h = eq-eqb (0 % tick) 0 (zero-mod tick)
price-ticked tick zero (x ∷ xs) h = (both (both h).0).1
price-ticked tick (suc n) (x ∷ xs) h = price-ticked tick n xs (both h).1

pub last-ticked : (s : Session) → Parts s → on_tick s.settings.tick (last_or s.settings.settle s.tape) ≡ true
unfolding last_or
last-ticked s p =
    by (λ (x : ℕ). on_tick s.settings.tick x ≡ true) (eqb s.tape.trades 0) s.settings.settle (get_or s.tape.prices (kept s.tape.trades - 1) 0)
    (λ e. (valid_facts s.settings p.valid).settle_ticked)
    (λ e. let n : (s.tape.trades ≡ 0 → ⊥) = eqb-false s.tape.trades 0 e in
    let m : kept s.tape.trades ≡ suc (kept s.tape.trades - 1) = omega arith in
    price-ticked s.settings.tick (kept s.tape.trades - 1) s.tape.prices (rw m at p.remembered.priced))
