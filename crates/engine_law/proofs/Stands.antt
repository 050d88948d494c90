-- Where a session stands: what is shown is what orders are judged by.
use Prim.Native.Nat.{ℕ, ◌≤◌, ◌<◌}
use mathlib.Core.Path.{◌≡◌, refl, ap, sym, ◌∙◌}
use mathlib.Core.Bool.{Bool, true, false, not, ◌&&◌}
use mathlib.Core.List.{List}
use borrow.Author.Tests.{le-leb, lt-leb, not-true, not-false}
use lib.Dec.{leb, eqb}
use lib.ListN.{length}
use Rattle.std.specs.Prelude.{Ok, Err}
use Rattle.terms.specs.declared.Band.{Band}
use Rattle.terms.specs.declared.Settings.{Settings}
use Rattle.terms.specs.declared.Side.{Side}
use Rattle.terms.specs.declared.Life.{Life}
use Rattle.terms.specs.declared.Kind.TheVariants.{Limit}
use Rattle.terms.specs.declared.Act.TheVariants.{Enter}
use Rattle.terms.specs.declared.Refusal.TheVariants.{SmallRoom, Unsound}
use Rattle.terms.specs.Truth.{◌⊓◌}
use Rattle.tables.specs.Lengths.{table_length}
use Rattle.terms.specs.Refusals.{Verdict, first_failed}
use Rattle.rules_law.specs.Slabs.{slab_of, percent_of, in_band, over_by}
use Rattle.rules_law.specs.Reference.{opening_reference, range_of, in_range, range_ends}
use Rattle.rules_law.specs.Close.{last_or, last_lots}
use Rattle.rules_law.proofs.Ranges.{range-between}
use Rattle.rules_law.proofs.Tapes.{last_newest, lots_newest}
use Rattle.state_law.specs.declared.Session.{Session}
use Rattle.state_law.specs.Now.{Clocked, percent_now, band_now, range_now}
use Rattle.state_law.specs.Opening.{opened_session}
use Rattle.state_law.specs.Clock.{widened_by, clock_step}
use Rattle.state_law.specs.Trades.{with_trade}
use Rattle.state_law.specs.code.Tens.{Ten}
use Rattle.soundness_law.specs.Sound.{sound, day_in}
use Rattle.soundness_law.proofs.Clocked.{session-clocked}
use Rattle.soundness_law.proofs.Border.{sound-session}
use Rattle.refusal_law.specs.Refusals.{band_right}
use Rattle.acts_law.specs.Heard.{initial_band, enhanced_band}
use Rattle.engine_law.specs.declared.Standing.{Standing}
use Rattle.engine_law.specs.declared.Stood.{Stood}
use Rattle.engine_law.specs.Standings.{standing_now, no_standing, standing_verdict, stood_by, standing_call}

-- ---- by the verdict

module _ (s : Session) (buys sells : List ℕ) where
  -- a sound session with tables that are long enough is not refused,
  pub stands-fine : table_length ≤ length buys → table_length ≤ length sells → sound (day_in s buys sells) ≡ true →
      standing_call s buys sells ≡ record { verdict = Ok tt; standing = standing_now s }
  unfolding standing_call standing_verdict first_failed ◌⊓◌
  stands-fine b t e = rw (le-leb table_length (length buys) b, le-leb table_length (length sells) t, e)

  -- a short table is,
  pub short-buys : length buys < table_length → standing_call s buys sells ≡ record { verdict = Err SmallRoom; standing = no_standing }
  unfolding standing_call standing_verdict first_failed ◌⊓◌
  short-buys b = rw (lt-leb table_length (length buys) b)

  pub short-sells : table_length ≤ length buys → length sells < table_length →
      standing_call s buys sells ≡ record { verdict = Err SmallRoom; standing = no_standing }
  unfolding standing_call standing_verdict first_failed ◌⊓◌
  short-sells b t = rw (le-leb table_length (length buys) b, lt-leb table_length (length sells) t)

  -- and so is a session that is not sound
  pub stands_unsound : table_length ≤ length buys → table_length ≤ length sells → sound (day_in s buys sells) ≡ false →
      standing_call s buys sells ≡ record { verdict = Err Unsound; standing = no_standing }
  unfolding standing_call standing_verdict first_failed ◌⊓◌
  stands_unsound b t e = rw (le-leb table_length (length buys) b, le-leb table_length (length sells) t, e)

  -- code tests the lengths, then `found`, which says whether the session is sound; `a` or `st` is what the call then answers

  pub short-bought : (a : Stood) → length buys < table_length → a ≡ record { verdict = Err SmallRoom; standing = no_standing } → a ≡ standing_call s buys sells
  short-bought a b e = e ∙ sym (short-buys b)

  pub short-sold : (a : Stood) → table_length ≤ length buys → length sells < table_length → a ≡ record { verdict = Err SmallRoom; standing = no_standing } →
      a ≡ standing_call s buys sells
  short-sold a b t e = e ∙ sym (short-sells b t)

  pub found_unsound : (found : Bool) (a : Stood) → table_length ≤ length buys → table_length ≤ length sells → found ≡ sound (day_in s buys sells) →
      not found ≡ true → a ≡ record { verdict = Err Unsound; standing = no_standing } → a ≡ standing_call s buys sells
  found_unsound found a b t k n e = e ∙ sym (stands_unsound b t (sym k ∙ not-true found n))

  pub found_clocked : (found : Bool) → found ≡ sound (day_in s buys sells) → not found ≡ false → Clocked s
  found_clocked found k n = session-clocked s (sound-session (day_in s buys sells) (sym k ∙ not-false found n))

  pub found_sound : (found : Bool) (st : Standing) → table_length ≤ length buys → table_length ≤ length sells → found ≡ sound (day_in s buys sells) →
      not found ≡ false → st ≡ standing_now s → record { verdict = Ok tt; standing = st } ≡ standing_call s buys sells
  found_sound found st b t k n e = rw e (sym (stands-fine b t (sym k ∙ not-false found n)))

  -- what is shown of a session that is not refused is what is in force in it
  by_verdict : (v : Verdict) (st : Standing) → stood_by v s ≡ record { verdict = Ok tt; standing = st } → st ≡ standing_now s
  by_verdict (Ok _) st e = ap (λ (x : Stood). x.standing) (sym e)
  by_verdict (Err r) st e = let no : ◌≡◌ {A = Verdict} (Err r) (Ok tt) = ap (λ (x : Stood). x.verdict) e in cc

  pub fine-shows : (st : Standing) → standing_call s buys sells ≡ record { verdict = Ok tt; standing = st } → st ≡ standing_now s
  unfolding standing_call
  fine-shows st e = by_verdict (standing_verdict s buys sells) st e

  -- ROW 8 passes a limit just where it lies between the ends of the band that is shown, if no cooling-off that is shown has ended by then
  pub limit_shown : (st : Standing) (side : Side) (x : ℕ) (life : Life) (lots t : ℕ) →
      standing_call s buys sells ≡ record { verdict = Ok tt; standing = st } → (st.cooling && leb st.ends t) ≡ false →
      band_right (band_now (clock_step s t)) (Enter (record { side = side; kind = Limit x; life = life; lots = lots })) ≡ in_band st.band x
  unfolding standing_now band_right clock_step widened_by
  limit_shown st side x life lots t e over =
      let shows : st ≡ standing_now s = fine-shows st e in
      let waits : over_by s.clock.cooling t ≡ false = rw shows at over in
      rw (shows, waits)

  -- a price of the other side is IN RANGE just where it lies between the ends of the range that is shown
  pub counter_shown : (st : Standing) (x : ℕ) → standing_call s buys sells ≡ record { verdict = Ok tt; standing = st } →
      in_range (range_now s) x ≡ in_band st.range x
  unfolding standing_now
  counter_shown st x e = rw (fine-shows st e) (range-between (range_now s) x)

-- what is shown, put together from the parts that code computes
pub stands_by : (s : Session) (percent price lots : ℕ) (band range : Band) → percent ≡ percent_now s → band ≡ band_now s → range ≡ range_ends (range_now s) →
    price ≡ last_or 0 s.tape → lots ≡ last_lots s.tape →
    record {
      percent = percent;
      band = band;
      range = range;
      reference = s.reckoning.reference;
      cooling = not (eqb s.clock.cooling 0);
      ends = s.clock.cooling;
      price = price;
      lots = lots;
      buys = s.live.buys;
      sells = s.live.sells;
      given = s.live.given;
      trades = s.tape.trades;
    }
    ≡ standing_now s
unfolding standing_now
stands_by s percent price lots band range p b r q l = rw (p, b, r, q, l)

-- ---- what is in force in some sessions

-- in a session that has just opened, it is what the settings give
pub opened-stands : (g : Settings) →
    standing_now (opened_session g)
    ≡ record {
      percent = (slab_of g.category).initial;
      band = initial_band g;
      range = range_ends (range_of (slab_of g.category) (opening_reference g.base g.under g.days));
      reference = opening_reference g.base g.under g.days;
      cooling = false;
      ends = 0;
      price = 0;
      lots = 0;
      buys = 0;
      sells = 0;
      given = 0;
      trades = 0;
    }
unfolding standing_now opened_session percent_of last_or last_lots
opened-stands g = refl

-- the band that is shown is the initial one until it is widened, and then the enhanced one
pub initial_stands : (s : Session) → s.clock.widened ≡ 0 → (standing_now s).band ≡ initial_band s.settings
unfolding standing_now percent_of
initial_stands s e = rw e

pub widened_stands : (s : Session) → s.clock.widened ≡ 1 → (standing_now s).band ≡ enhanced_band s.settings
unfolding standing_now percent_of
widened_stands s e = rw e

-- after a trade, the last trade that is shown is this one
pub trade_stands : (s : Session) (price lots : ℕ) → Ten s →
    ((standing_now (with_trade s price lots)).price ≡ price) × ((standing_now (with_trade s price lots)).lots ≡ lots)
unfolding standing_now with_trade
trade_stands s price lots ten =
    (last_newest 0 s.tape _ price lots ten.prices, lots_newest s.tape _ price lots ten.sizes)
