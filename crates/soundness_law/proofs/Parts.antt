-- The numbers of a sound session as facts: the tests give the facts, and the facts give the tests. Each part speaks of the plain values
-- that it is about, so that setting other fields leaves it as it is.
use Prim.Native.Nat.{ℕ, ◌+◌, ◌*◌, ◌≤◌}
use mathlib.Core.Path.{◌≡◌}
use mathlib.Core.Bool.{Bool, true, ◌||◌}
use mathlib.Core.List.{List}
use borrow.Author.Tests.{leb-true, le-leb}
use lib.Dec.{ltb, eqb}
use lib.ListN.{take}
use Rattle.terms.specs.Sizes.{slots, price_most, lots_most, numbers_most, trades_most, time_most, sizes}
use Rattle.terms.specs.Numbers.{is_lots}
use Rattle.terms.specs.Settings.{settings_valid}
use Rattle.terms.proofs.Logic.{both, make, between_facts, between_make}
use Rattle.rules_law.specs.declared.Minute.{Minute}
use Rattle.rules_law.specs.declared.Tally.{Tally}
use Rattle.rules_law.specs.Slabs.{cooling_length}
use Rattle.rules_law.specs.Reference.{reference_most}
use Rattle.rules_law.specs.Close.{kept}
use Rattle.state_law.specs.declared.Session.{Session}
use Rattle.soundness_law.specs.Sound.{time_sound, counts_sound, slab_sound, numbers_sound, every, price_sound, remembered_sound, half_sound, minute_sound, clock_sound, tape_sound, session_sound}

-- ---- the parts

pub record Timed (length time : ℕ) (closed : Bool) (widened cooling : ℕ) : Type 0 where
  pub most : time ≤ time_most
  pub until : (closed || ltb time length) ≡ true
  pub once : widened ≤ 1
  pub initial : (eqb widened 0 || eqb cooling 0) ≡ true
  pub ends : cooling ≤ time + cooling_length

pub record Numbered (reference under given trades : ℕ) : Type 0 where
  pub reference_some : 1 ≤ reference
  pub reference_small : reference ≤ reference_most
  pub under_small : under ≤ price_most
  pub given_small : given ≤ numbers_most
  pub trades_small : trades ≤ trades_most

pub record Halved (tick trades : ℕ) (h : Tally) : Type 0 where
  pub few : h.count ≤ trades
  pub lots_some : h.count ≤ h.lots
  pub lots_small : h.lots ≤ lots_most * h.count
  pub value_some : h.lots * tick ≤ h.value
  pub value_small : h.value ≤ h.lots * price_most

pub record Minuted (trades : ℕ) (m : Minute) : Type 0 where
  pub few : m.count ≤ trades
  pub sum-some : m.count ≤ m.sum
  pub sum_small : m.sum ≤ price_most * m.count

pub record Remembered (tick trades : ℕ) (prices sizes : List ℕ) : Type 0 where
  pub priced : every (price_sound tick) (take (kept trades) prices) ≡ true
  pub sized : every is_lots (take (kept trades) sizes) ≡ true

-- all parts: the numbers of a session except its live counts
pub record Parts (s : Session) : Type 0 where
  pub valid : settings_valid s.settings ≡ true
  pub timed : Timed s.settings.length s.clock.time s.clock.closed s.clock.widened s.clock.cooling
  pub numbered : Numbered s.reckoning.reference s.clock.under s.live.given s.tape.trades
  pub halved : Halved s.settings.tick s.tape.trades s.tape.half
  pub minuted : Minuted s.tape.trades s.reckoning.minute
  pub remembered : Remembered s.settings.tick s.tape.trades s.tape.prices s.tape.sizes

-- ---- the tests give the parts

clock_timed : (s : Session) → time_sound s ≡ true → slab_sound s ≡ true → Timed s.settings.length s.clock.time s.clock.closed s.clock.widened s.clock.cooling
unfolding time_sound slab_sound
clock_timed s t h =
    let time = both t in
    let slab = both h in
    let first = both slab.0 in
    record {
      most = leb-true s.clock.time time_most time.0;
      until = time.1;
      once = leb-true s.clock.widened 1 first.0;
      initial = first.1;
      ends = leb-true s.clock.cooling (s.clock.time + cooling_length) slab.1;
    }

clock_numbered : (s : Session) → numbers_sound sizes s ≡ true → Numbered s.reckoning.reference s.clock.under s.live.given s.tape.trades
unfolding numbers_sound
clock_numbered s h =
    let trades = both h in
    let given = both trades.0 in
    let under = both given.0 in
    let reference = between_facts 1 s.reckoning.reference reference_most under.0 in
    record {
      reference_some = reference.0;
      reference_small = reference.1;
      under_small = leb-true s.clock.under price_most under.1;
      given_small = leb-true s.live.given numbers_most given.1;
      trades_small = leb-true s.tape.trades trades_most trades.1;
    }

tape_halved : (tick trades : ℕ) (h : Tally) → half_sound tick price_most trades h ≡ true → Halved tick trades h
unfolding half_sound
tape_halved tick trades h e =
    let value = both e in
    let lots = both value.0 in
    let l = between_facts h.count h.lots (lots_most * h.count) lots.1 in
    let v = between_facts (h.lots * tick) h.value (h.lots * price_most) value.1 in
    record {
      few = leb-true h.count trades lots.0;
      lots_some = l.0;
      lots_small = l.1;
      value_some = v.0;
      value_small = v.1;
    }

tape_minuted : (trades : ℕ) (m : Minute) → minute_sound trades m ≡ true → Minuted trades m
unfolding minute_sound
tape_minuted trades m e =
    let sum = both e in
    let s = between_facts m.count m.sum (price_most * m.count) sum.1 in
    record { few = leb-true m.count trades sum.0; sum-some = s.0; sum_small = s.1 }

pub parts_of : (s : Session) → session_sound sizes s ≡ true → Parts s
unfolding session_sound clock_sound tape_sound remembered_sound
parts_of s h =
    let whole = both h in
    let numbers = both whole.0 in
    let slab = both numbers.0 in
    let counts = both slab.0 in
    let time = both counts.0 in
    let ten = both whole.1 in
    let minute = both ten.0 in
    let remembered = both ten.1 in
    record {
      valid = time.0;
      timed = clock_timed s time.1 slab.1;
      numbered = clock_numbered s numbers.1;
      halved = tape_halved s.settings.tick s.tape.trades s.tape.half minute.0;
      minuted = tape_minuted s.tape.trades s.reckoning.minute minute.1;
      remembered = record { priced = remembered.0; sized = remembered.1 };
    }

-- ---- the parts give the tests

clock_made : (s : Session) → Parts s → s.live.buys ≤ slots → s.live.sells ≤ slots → clock_sound sizes s ≡ true
unfolding clock_sound time_sound counts_sound slab_sound numbers_sound
clock_made s p buys sells =
    let t = p.timed in
    let n = p.numbered in
    make (make (make (make
    p.valid
    (make (le-leb s.clock.time time_most t.most) t.until))
    (make (le-leb s.live.buys slots buys) (le-leb s.live.sells slots sells)))
    (make (make (le-leb s.clock.widened 1 t.once) t.initial) (le-leb s.clock.cooling (s.clock.time + cooling_length) t.ends)))
    (make (make (make
    (between_make 1 s.reckoning.reference reference_most n.reference_some n.reference_small)
    (le-leb s.clock.under price_most n.under_small))
    (le-leb s.live.given numbers_most n.given_small))
    (le-leb s.tape.trades trades_most n.trades_small))

tape_made : (s : Session) → Parts s → tape_sound s ≡ true
unfolding tape_sound remembered_sound half_sound minute_sound
tape_made s p =
    let h = p.halved in
    let m = p.minuted in
    let half : Tally = s.tape.half in
    let minute : Minute = s.reckoning.minute in
    make (make
    (make (make
    (le-leb half.count s.tape.trades h.few)
    (between_make half.count half.lots (lots_most * half.count) h.lots_some h.lots_small))
    (between_make (half.lots * s.settings.tick) half.value (half.lots * price_most) h.value_some h.value_small))
    (make
    (le-leb minute.count s.tape.trades m.few)
    (between_make minute.count minute.sum (price_most * minute.count) m.sum-some m.sum_small)))
    (make p.remembered.priced p.remembered.sized)

pub parts_made : (s : Session) → Parts s → s.live.buys ≤ slots → s.live.sells ≤ slots → session_sound sizes s ≡ true
unfolding session_sound
parts_made s p buys sells = make (clock_made s p buys sells) (tape_made s p)
