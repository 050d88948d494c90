-- WHERE A SESSION STANDS: what an app shows of it, by the definitions that judge orders.
use Rattle.std.specs.Prelude.{ℕ, Bool, false, not, List, [], ◌∷◌, leb, eqb, length, Ok, Err}
use Rattle.terms.specs.declared.Band.{Band}
use Rattle.terms.specs.declared.Refusal.TheVariants.{SmallRoom, Unsound}
use Rattle.terms.specs.Truth.{◌⊓◌}
use Rattle.tables.specs.Lengths.{table_length}
use Rattle.terms.specs.Refusals.{Verdict, unless, first_failed}
use Rattle.rules_law.specs.Reference.{range_ends}
use Rattle.rules_law.specs.Close.{last_or, last_lots}
use Rattle.state_law.specs.declared.Session.{Session}
use Rattle.state_law.specs.Now.{percent_now, band_now, range_now}
use Rattle.soundness_law.specs.Sound.{sound, day_in}
use Rattle.engine_law.specs.declared.Standing.{Standing}
use Rattle.engine_law.specs.declared.Stood.{Stood}

-- the percent in force and its band, by which row 8 judges limits; both ends of the range in which trades must be; and what else is shown
unfoldable pub standing_now : Session → Standing
standing_now s =
    record {
      percent = percent_now s;
      band = band_now s;
      range = range_ends (range_now s);
      reference = s.reckoning.reference;
      cooling = not (eqb s.clock.cooling 0);
      ends = s.clock.cooling;
      price = last_or 0 s.tape;
      lots = last_lots s.tape;
      buys = s.live.buys;
      sells = s.live.sells;
      given = s.live.given;
      trades = s.tape.trades;
    }

abbrev pub no_band : Band
no_band = record { low = 0; high = 0 }

-- the standing that a refusal answers with: no cooling-off, every number zero
unfoldable pub no_standing : Standing
no_standing =
    record {
      percent = 0;
      band = no_band;
      range = no_band;
      reference = 0;
      cooling = false;
      ends = 0;
      price = 0;
      lots = 0;
      buys = 0;
      sells = 0;
      given = 0;
      trades = 0;
    }

-- row 1 does not apply: "a table under .. numbers"
abbrev pub long_tables : List ℕ → List ℕ → Bool
long_tables buys sells = leb table_length (length buys) ⊓ leb table_length (length sells)

-- the verdict by row 1, then row 2, "session not sound"
unfoldable pub standing_verdict : Session → List ℕ → List ℕ → Verdict
standing_verdict s buys sells = first_failed (unless SmallRoom (long_tables buys sells) ∷ unless Unsound (sound (day_in s buys sells)) ∷ [])

abbrev pub stood_by : Verdict → Session → Stood
stood_by (Ok _) s = record { verdict = Ok tt; standing = standing_now s }
stood_by (Err r) s = record { verdict = Err r; standing = no_standing }

-- THE CONTRACT of `standing`: its answer
unfoldable pub standing_call : Session → List ℕ → List ℕ → Stood
standing_call s buys sells = stood_by (standing_verdict s buys sells) s
