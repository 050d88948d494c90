-- A sound day taken apart and put together again: the numbers of its session, the live counts and the book.
use Prim.Native.Nat.{ℕ, ◌+◌, ◌-◌, ◌*◌, ◌≤◌}
use native.Mathlib.Omega.{arith}
use native.Mathlib.Nat.{mul-le-mul}
use borrow.Author.Tests.{eqb-true, eq-eqb, lt-ltb}
use mathlib.Core.Path.{◌≡◌, refl}
use mathlib.Core.Bool.{true, false}
use mathlib.Core.List.{List, []}
use lib.Dec.{eqb}
use lib.ListN.{length}
use Rattle.std.specs.Prelude.{Ok, Err}
use Rattle.terms.specs.declared.Settings.{Settings}
use Rattle.terms.specs.declared.Order.{Order}
use Rattle.terms.specs.declared.Side.{Side}
use Rattle.terms.specs.declared.Side.TheVariants.{Buy, Sell}
use Rattle.terms.specs.declared.Refusal.{Refusal}
use Rattle.terms.specs.Truth.{◌⊓◌}
use Rattle.terms.specs.Refusals.{first_failed}
use Rattle.terms.specs.Sizes.{price_most}
use Rattle.terms.specs.Settings.{Valid, settings_ranged, settings_ticked, settings_valid, settings_verdict}
use Rattle.terms.proofs.Logic.{by, both, make, cases, between_facts}
use Rattle.terms.proofs.Cascade.{fine-first}
use Rattle.terms.proofs.Valid.{valid_facts}
use Rattle.rules_law.specs.declared.Row.{Row}
use Rattle.rules_law.specs.Slabs.{slab_of, percent_most, percent_of, low_at, high_at, Priced}
use Rattle.rules_law.proofs.Bands.{low_is, high_small}
use Rattle.rules_law.proofs.Factors.{theoretical_or-range}
use Rattle.rules_law.proofs.Rows.{row_small}
use Rattle.book_law.specs.Priority.{other_side}
use Rattle.book_law.specs.Over.{Each}
use Rattle.book_law.proofs.Over.{each_map}
use Rattle.book_sound_law.specs.Sound.{book_sound, on_side, OrderFits, BookFits}
use Rattle.book_sound_law.proofs.Facts.{book-fits, empty_sound}
use Rattle.state_law.specs.declared.Session.{Session}
use Rattle.state_law.specs.Now.{percent_now, band_now}
use Rattle.state_law.specs.Opening.{opened_session, fixed_session}
use Rattle.state_law.specs.Day.{Day, day_with, opened}
use Rattle.soundness_law.specs.Sound.{every, clock_sound, session_sound, counted, sound, day_in, sound_by}
use Rattle.soundness_law.proofs.Parts.{Parts, parts_of, parts_made}
use Rattle.soundness_law.proofs.Kept.{Tradable, counted-kept}

-- ---- a sound day taken apart

abbrev pub BookOf : Session → List Order → List Order → Type 0
BookOf s buys sells = book_sound s.live.given s.settings.tick (band_now s) buys sells ≡ true

pub record SoundDay (d : Day) : Type 0 where
  pub parts : Parts d.session
  pub buys-counted : d.session.live.buys ≡ length d.buys
  pub sells-counted : d.session.live.sells ≡ length d.sells
  pub book : BookOf d.session d.buys d.sells

pub sound-day : (d : Day) → sound d ≡ true → SoundDay d
unfolding sound_by counted
sound-day d h =
    let whole = both h in
    let numbers = both whole.0 in
    let counts = both numbers.1 in
    record {
      parts = parts_of d.session numbers.0;
      buys-counted = eqb-true d.session.live.buys (length d.buys) counts.0;
      sells-counted = eqb-true d.session.live.sells (length d.sells) counts.1;
      book = whole.1;
    }

-- ---- and put together, from a session, a side's own orders and those across

-- the book of these orders is sound, by the session's numbers given, its tick and its band
abbrev pub BookWith : Side → Session → List Order → List Order → Type 0
BookWith side s own across = BookOf s (on_side side own across) (on_side (other_side side) own across)

counted_with : (s : Session) (buys sells : List Order) → Parts s → BookOf s buys sells → sound (day_with Buy s buys sells) ≡ true
unfolding sound_by counted
counted_with s buys sells p b =
    let f : BookFits s.live.given s.settings.tick (band_now s) buys sells = book-fits s.live.given s.settings.tick (band_now s) buys sells b in
    make (make
    (parts_made (day_with Buy s buys sells).session (counted-kept s (length buys) (length sells) p) f.few_buys f.few_sells)
    (make (eq-eqb (length buys) (length buys) refl) (eq-eqb (length sells) (length sells) refl)))
    b

pub day-sound : (side : Side) (s : Session) (own across : List Order) → Parts s → BookWith side s own across →
    sound (day_with side s own across) ≡ true
day-sound Buy s own across p b = counted_with s own across p b
day-sound Sell s own across p b = counted_with s across own p b

-- ---- an order of a sound book can be traded

percent_small : (slab : Row) (widened : ℕ) → slab.initial + slab.enhanced ≤ percent_most → percent_of slab widened ≤ percent_most
unfolding percent_of
percent_small slab widened h = by (λ (p : ℕ). p ≤ percent_most) (eqb widened 0) slab.initial (slab.initial + slab.enhanced) (λ e. omega arith) (λ e. h)

-- the lowest price of a band is positive
low_some : (base tick p : ℕ) → 1 ≤ base → 1 ≤ tick → p ≤ percent_most → 1 ≤ low_at base tick p
low_some base tick p b t h =
    let less : 1 ≤ 100 - p = omega arith in
    let product : 1 * 1 ≤ base * (100 - p) = mul-le-mul b less in
    omega (arith, (low_is base tick p t).reaches)

-- base, tick and percent of a session's band are within their bounds
pub now_priced : (s : Session) → Valid s.settings → Priced s.settings.base s.settings.tick (percent_now s)
now_priced s v =
    record {
      base_small = v.is_in_range.base_small;
      tick_some = v.is_in_range.tick_some;
      tick_small = v.is_in_range.tick_small;
      percent_small = percent_small (slab_of s.settings.category) s.clock.widened (row_small s.settings.category);
    }

pub each_tradable : (s : Session) (fs : List Order) → Valid s.settings → Each (OrderFits s.live.given s.settings.tick (band_now s)) fs →
    Each (Tradable s.settings.tick) fs
each_tradable s fs v e =
    let g : Settings = s.settings in
    let p : ℕ = percent_now s in
    let fits : Priced g.base g.tick p = now_priced s v in
    let low : 1 ≤ low_at g.base g.tick p = low_some g.base g.tick p v.is_in_range.base_some v.is_in_range.tick_some fits.percent_small in
    let high : high_at g.base g.tick p ≤ price_most = omega (arith, high_small fits) in
    each_map (OrderFits s.live.given g.tick (band_now s)) (Tradable g.tick)
    (λ o f. let i = between_facts (low_at g.base g.tick p) o.price (high_at g.base g.tick p) f.banded in record {
      price-some = omega (arith, i.0, low);
      price_small = omega (arith, i.1, high);
      ticked = f.ticked;
      lots_some = f.lots_some;
      lots_small = f.lots_small;
    })
    fs e

-- ---- the opening

fine-settings : (g : Settings) → settings_verdict g ≡ Ok tt → settings_valid g ≡ true
unfolding settings_verdict settings_valid
fine-settings g e =
    let r = fine-first _ (settings_ranged g) _ e in
    make r.0 (fine-first _ (settings_ticked g) _ r.1).0

opened_parts : (g : Settings) → settings_valid g ≡ true → Parts (opened_session g)
unfolding opened_session every
opened_parts g h =
    let v : Valid g = valid_facts g h in
    let r = theoretical_or-range g.base g.under g.days v.is_in_range.base_some (omega (arith, v.is_in_range.base_small)) v.is_in_range.under_small v.is_in_range.days_small in
    record {
      valid = h;
      timed = record {
        most = omega arith;
        until = lt-ltb 0 g.length (omega (arith, v.is_in_range.length_long));
        once = omega arith;
        initial = refl;
        ends = omega arith;
      };
      numbered = record {
        reference_some = r.0;
        reference_small = r.1;
        under_small = v.is_in_range.under_small;
        given_small = omega arith;
        trades_small = omega arith;
      };
      halved = omega arith;
      minuted = omega arith;
      remembered = record { priced = refl; sized = refl };
    }

-- AN OPENED SESSION IS SOUND, for any settings that 12 and 13 let pass
pub opened-sound : (g : Settings) → settings_verdict g ≡ Ok tt → sound (opened g) ≡ true
unfolding opened_session
opened-sound g h =
    day-sound Buy (opened_session g) [] [] (opened_parts g (fine-settings g h)) (empty_sound 0 g.tick (band_now (opened_session g)))

-- a sound day has settings that they let pass,
pub sound-settings : (d : Day) → sound d ≡ true → settings_verdict d.session.settings ≡ Ok tt
unfolding settings_verdict settings_valid first_failed
sound-settings d h =
    let v = both (sound-day d h).parts.valid in
    rw (v.0, v.1)

-- so a day of settings that one of them refuses is not sound
pub refused_unsound : (g : Settings) (r : Refusal) → settings_verdict g ≡ Err r → sound (opened g) ≡ false
unfolding opened_session
refused_unsound g r e =
    cases (sound (opened g))
    (λ h. absurd (let fine : settings_verdict g ≡ Ok tt = sound-settings (opened g) h in let z : ◌≡◌ {A = ℕ} 0 1 = cc in omega arith))
    (λ h. h)

-- "one fixed session, broad, open, every number zero, which is not sound", whatever lies in the tables
pub fixed_unsound : (buys sells : List ℕ) → sound (day_in fixed_session buys sells) ≡ false
unfolding sound_by session_sound clock_sound settings_valid settings_ranged fixed_session ◌⊓◌
fixed_unsound buys sells = refl
