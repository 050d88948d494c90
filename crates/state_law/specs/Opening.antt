-- The opening of a session, and the session that a refused opening returns.
use Rattle.std.specs.Prelude.{false, Ok, Err}
use Rattle.terms.specs.declared.Settings.{Settings}
use Rattle.terms.specs.declared.Category.TheVariants.{Broad}
use Rattle.terms.specs.Refusals.{Verdict}
use Rattle.terms.specs.Settings.{settings_verdict}
use Rattle.rules_law.specs.declared.Reckoning.{Reckoning}
use Rattle.rules_law.specs.Reference.{opening_reference, no_trades}
use Rattle.rules_law.specs.Close.{blank_tape}
use Rattle.state_law.specs.declared.Session.{Session}
use Rattle.state_law.specs.declared.Opened.{Opened}

-- a session at time 0 with no order, no trade and the initial band
abbrev pub at_open : Settings → Reckoning → Session
at_open g reckoning =
    record {
      settings = g;
      clock = record { time = 0; closed = false; widened = 0; cooling = 0; under = g.under };
      live = record { buys = 0; sells = 0; given = 0 };
      reckoning = reckoning;
      tape = blank_tape;
    }

-- "The opening reference is the theoretical price, or the base where the underlying is 0."
unfoldable pub opened_session : Settings → Session
opened_session g = at_open g (record { reference = opening_reference g.base g.under g.days; minute = no_trades })

-- "one fixed session, broad, open, every number zero, which is not sound"
unfoldable pub fixed_session : Session
fixed_session =
    at_open
    (record { category = Broad; base = 0; close = 0; settle = 0; tick = 0; length = 0; days = 0; under = 0 })
    (record { reference = 0; minute = no_trades })

-- "a refused one returns its number and one fixed session"
abbrev pub opened_by : Settings → Verdict → Opened
opened_by g (Ok _) = record { verdict = Ok tt; session = opened_session g }
opened_by g (Err r) = record { verdict = Err r; session = fixed_session }

unfoldable pub opening_of : Settings → Opened
opening_of g = opened_by g (settings_verdict g)
