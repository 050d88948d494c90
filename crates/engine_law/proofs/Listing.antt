-- Document 01's listing: its events on its settings give all its reports. The definitions compute them.
use Prim.Native.Nat.{ℕ}
use mathlib.Core.Path.{◌≡◌, refl}
use mathlib.Core.List.{List, [], ◌∷◌}
use Rattle.terms.specs.declared.Side.TheVariants.{Buy, Sell}
use Rattle.terms.specs.declared.Kind.TheVariants.{Limit, Market}
use Rattle.terms.specs.declared.Life.TheVariants.{AllDay}
use Rattle.terms.specs.declared.Event.{Event}
use Rattle.terms.specs.declared.Act.{Act}
use Rattle.terms.specs.declared.Act.TheVariants.{Enter, Withdraw, Finish}
use Rattle.terms.specs.Truth.{◌⊓◌}
use Rattle.terms.specs.Refusals.{first_failed}
use Rattle.terms.specs.Settings.{settings_ranged, settings_ticked, settings_valid}
use Rattle.rules_law.specs.Slabs.{percent_of, low_at, high_at, cooling_after}
use Rattle.rules_law.specs.Growth.{factorial, term, terms, growth, theoretical}
use Rattle.rules_law.specs.Reference.{theoretical_or, minute_after, boundaries, reckoned, in_range}
use Rattle.rules_law.specs.Close.{tallied, tally_all, nearest, remembered, tape_after, last_or, close_price, next_base}
use Rattle.book_law.specs.Priority.{ahead, head_behind, sorted, insert, rests, removed, left_of}
use Rattle.book_law.specs.Matching.{sweep, trade_reports, own_last_or, fate_of}
use Rattle.book_sound_law.specs.Sound.{order_sound, each_sound, distinct, uncrossed, book_sound}
use Rattle.state_law.specs.Opening.{opened_session}
use Rattle.state_law.specs.Clock.{widened_by, cooling_by, clock_step}
use Rattle.state_law.specs.Trades.{with_trade, with_trades}
use Rattle.state_law.specs.Day.{opened}
use Rattle.soundness_law.specs.Sound.{time_sound, counts_sound, slab_sound, numbers_sound, every, remembered_sound, half_sound, minute_sound, clock_sound, tape_sound, session_sound, counted, sound_by}
use Rattle.refusal_law.specs.Refusals.{numbers_right, in_hours, ticks_right, band_right, finds, has_place, has_numbers, refusal_of}
use Rattle.acts_law.specs.Acts.{clock_reports, sweep_in, fate_in, entered, dropped, cancel_reports, finished, act}
use Rattle.acts_law.proofs.Listed.{settings, reports}
use Rattle.engine_law.specs.Outcome.{outcome, told}

abbrev event : ℕ → Act → Event
event time act = record { time = time; act = act }

abbrev pub events : List Event
events =
    event 0 (Enter (record { side = Sell; kind = Limit 10150; life = AllDay; lots = 4 }))
    ∷ event 1000 (Enter (record { side = Buy; kind = Limit 10300; life = AllDay; lots = 1 }))
    ∷ event 60000 (Enter (record { side = Sell; kind = Limit 10300; life = AllDay; lots = 2 }))
    ∷ event 61000 (Enter (record { side = Buy; kind = Market; life = AllDay; lots = 6 }))
    ∷ event 961000 (Withdraw 4)
    ∷ event 3600000 (Finish 10200)
    ∷ []

-- THE LISTING
pub listing : told (opened settings) events ≡ reports
unfolding ◌⊓◌ first_failed settings_ranged settings_ticked settings_valid percent_of low_at high_at cooling_after factorial term terms growth
    theoretical theoretical_or minute_after boundaries reckoned in_range tallied tally_all nearest remembered tape_after last_or
    close_price next_base ahead head_behind sorted insert rests removed left_of sweep trade_reports own_last_or fate_of order_sound
    each_sound distinct uncrossed book_sound opened_session widened_by cooling_by clock_step with_trade with_trades time_sound counts_sound
    slab_sound numbers_sound every remembered_sound half_sound minute_sound clock_sound tape_sound session_sound counted sound_by
    numbers_right in_hours ticks_right band_right finds has_place has_numbers refusal_of clock_reports sweep_in fate_in entered dropped
    cancel_reports finished act outcome told
listing = refl
