-- What follows from a sound session: the bounds that the engine's sums and products rely on.
use Prim.Native.Nat.{ℕ, ◌*◌, ◌≤◌, ◌<◌}
use native.Mathlib.Omega.{arith}
use native.Mathlib.Nat.{min-eq_left}
use mathlib.Core.Path.{◌≡◌, sym, ◌∙◌}
use mathlib.Core.Bool.{Bool, true, false, not}
use mathlib.Core.List.{List}
use borrow.Author.Tests.{leb-true, not-false}
use lib.ListN.{length, get_or, take, length-take}
use lib.Seq.{get_or-take}
use Rattle.terms.specs.Sizes.{price_most, lots_most, trades_most, time_most, sizes}
use Rattle.terms.specs.Numbers.{is_price, is_lots}
use Rattle.terms.specs.Truth.{◌⊓◌}
use Rattle.terms.specs.Settings.{settings_valid}
use Rattle.terms.specs.code.Ticks.{factor_of, Dividing}
use Rattle.terms.proofs.Logic.{both, between_facts}
use Rattle.terms.proofs.Valid.{valid_facts}
use Rattle.rules_law.specs.declared.Minute.{Minute}
use Rattle.rules_law.specs.declared.Tally.{Tally}
use Rattle.rules_law.specs.declared.Tape.{Tape}
use Rattle.rules_law.specs.Reference.{reference_most, MinuteFits}
use Rattle.rules_law.specs.Close.{kept, TallyFits, TenFits}
use Rattle.state_law.specs.declared.Session.{Session}
use Rattle.state_law.specs.Now.{Clocked, Steady}
use Rattle.soundness_law.specs.Sound.{time_sound, counts_sound, slab_sound, numbers_sound, every, price_sound, remembered_sound, half_sound, minute_sound, clock_sound, tape_sound, session_sound}
use Rattle.soundness_law.proofs.Lists.{at_place}

pub time_small : (s : Session) → time_sound s ≡ true → s.clock.time ≤ time_most
unfolding time_sound
time_small s e = leb-true s.clock.time time_most (both e).0

pub clocked : (s : Session) → clock_sound sizes s ≡ true → Clocked s
unfolding clock_sound counts_sound slab_sound numbers_sound
clocked s e =
    let a = both e in
    let b = both a.0 in
    let c = both b.0 in
    let d = both c.0 in
    let counts = both c.1 in
    let slab = both b.1 in
    let once = both slab.0 in
    let trades = both a.1 in
    let given = both trades.0 in
    let under = both given.0 in
    let reference = between_facts 1 s.reckoning.reference reference_most under.0 in
    record {
      valid = valid_facts s.settings d.0;
      time_small = time_small s d.1;
      buys_few = leb-true _ _ counts.0;
      sells_few = leb-true _ _ counts.1;
      widened_once = leb-true _ _ once.0;
      cooling_near = leb-true _ _ slab.1;
      reference_some = reference.0;
      reference_small = reference.1;
      under_small = leb-true _ _ under.1;
      given_small = leb-true _ _ given.1;
      trades_small = leb-true _ _ trades.1;
    }

-- ---- what is remembered of trades

tally-fits : (tick trades : ℕ) (h : Tally) → trades ≤ trades_most → half_sound tick price_most trades h ≡ true → TallyFits h
unfolding half_sound
tally-fits tick trades h m e =
    let a = both e in
    let b = both a.0 in
    let lots = between_facts h.count h.lots (lots_most * h.count) b.1 in
    let value = between_facts (h.lots * tick) h.value (h.lots * price_most) a.1 in
    let count = leb-true h.count trades b.0 in
    omega arith

minute_fits : (trades : ℕ) (m : Minute) → trades ≤ trades_most → minute_sound trades m ≡ true → MinuteFits m
unfolding minute_sound
minute_fits trades m h e =
    let a = both e in
    let sum = between_facts m.count m.sum (price_most * m.count) a.1 in
    let count = leb-true m.count trades a.0 in
    omega arith

-- where ten trades are remembered, each of the ten passes the test
of_ten : (test : ℕ → Bool) (trades : ℕ) (a : List ℕ) → 10 ≤ trades → length a ≡ 10 → every test (take (kept trades) a) ≡ true → (k : ℕ) → k < 10 → test (get_or a k 0) ≡ true
of_ten test trades a t l e k h =
    let f : every test (take 10 a) ≡ true = rw (min-eq_left t) at e in
    rw (get_or-take 10 a k 0 h) at (at_place test (take 10 a) f k (simp length-take (omega arith)))

ten_fits : (tick : ℕ) (t : Tape) → length t.prices ≡ 10 → length t.sizes ≡ 10 → remembered_sound tick t ≡ true → 10 ≤ t.trades → TenFits t.prices t.sizes
unfolding remembered_sound
ten_fits tick t lp ls e h =
    let a = both e in
    let price : (k : ℕ) → k < 10 → is_price (get_or t.prices k 0) ≡ true = λ k i. (both (of_ten (price_sound tick) t.trades t.prices h lp a.0 k i)).0 in
    let lots : (k : ℕ) → k < 10 → is_lots (get_or t.sizes k 0) ≡ true = of_ten is_lots t.trades t.sizes h ls a.1 in
    record {
      price = λ k i. (between_facts 1 (get_or t.prices k 0) price_most (price k i)).1;
      some = λ k i. (between_facts 1 (get_or t.sizes k 0) lots_most (lots k i)).0;
      small = λ k i. (between_facts 1 (get_or t.sizes k 0) lots_most (lots k i)).1;
    }

-- A SOUND SESSION IS STEADY: what the code computes from it stays within its bounds
pub steady : (s : Session) → length s.tape.prices ≡ 10 → length s.tape.sizes ≡ 10 → session_sound sizes s ≡ true → Steady s
unfolding session_sound tape_sound
steady s lp ls e =
    let a = both e in
    let c = clocked s a.0 in
    let t = both a.1 in
    let u = both t.0 in
    record {
      clocked = c;
      minute_fits = minute_fits s.tape.trades s.reckoning.minute c.trades_small u.1;
      tape_fits =
          record {
            trades_small = c.trades_small;
            half_fits = tally-fits s.settings.tick s.tape.trades s.tape.half c.trades_small u.0;
            ten_fits = ten_fits s.settings.tick s.tape lp ls t.1;
          };
    }

pub session-clocked : (s : Session) → session_sound sizes s ≡ true → Clocked s
unfolding session_sound
session-clocked s e = clocked s (both e).0

-- ---- as code comes to it: `found` and the like are what it tested

pub time_found : (s : Session) (found : Bool) → found ≡ time_sound s → not found ≡ false → s.clock.time ≤ time_most
time_found s found e h = time_small s (sym e ∙ not-false found h)

pub clocked_found : (s : Session) (found : Bool) → found ≡ session_sound sizes s → not found ≡ false → Clocked s
clocked_found s found e h = session-clocked s (sym e ∙ not-false found h)

pub dividing_found : (s : Session) (found : Bool) (factor : ℕ) → found ≡ session_sound sizes s → not found ≡ false → factor ≡ factor_of s.settings.tick →
    Dividing s.settings.tick factor
dividing_found s found factor e h f =
    let v = (clocked_found s found e h).valid.is_in_range in
    record { tick_some = v.tick_some; tick_small = v.tick_small; factor_is = f }

pub clock_decides : (s : Session) (valid time counts slab r : Bool) → valid ≡ settings_valid s.settings → not valid ≡ false → time ≡ time_sound s → not time ≡ false →
    counts ≡ counts_sound sizes s → not counts ≡ false → slab ≡ slab_sound s → not slab ≡ false → r ≡ numbers_sound sizes s → r ≡ clock_sound sizes s
unfolding clock_sound ◌⊓◌
clock_decides s valid time counts slab r v v' t t' c c' l l' n =
    rw (← v, not-false valid v', ← t, not-false time t', ← c, not-false counts c', ← l, not-false slab l') n
