-- The definitions are computed on each small case.
use mathlib.Core.Path.{refl}
use Rattle.terms.specs.Truth.{◌⊓◌}
use Rattle.terms.specs.Refusals.{first_failed}
use Rattle.terms.specs.Settings.{settings_ranged, settings_ticked, settings_valid}
use Rattle.rules_law.specs.Slabs.{percent_of, low_at, high_at, cooling_after}
use Rattle.rules_law.specs.Growth.{factorial, term, terms, growth, theoretical}
use Rattle.rules_law.specs.Reference.{theoretical_or, minute_after, boundaries, reckoned, in_range}
use Rattle.rules_law.specs.Close.{tallied, tally_all, nearest, remembered, tape_after, last_or, close_price}
use Rattle.book_law.specs.Priority.{sorted}
use Rattle.book_sound_law.specs.Sound.{each_sound, distinct, uncrossed, book_sound}
use Rattle.state_law.specs.Opening.{opened_session}
use Rattle.state_law.specs.Clock.{widened_by, cooling_by, clock_step}
use Rattle.state_law.specs.Trades.{with_trade, with_trades}
use Rattle.soundness_law.specs.Sound.{time_sound, counts_sound, slab_sound, numbers_sound, every, remembered_sound, half_sound, minute_sound, clock_sound, tape_sound, session_sound, counted, sound_by}
use Rattle.refusal_law.specs.Refusals.{numbers_right, in_hours, ticks_right, band_right, finds, has_place, has_numbers, refusal_of}
use Rattle.engine_law.specs.Outcome.{outcome}
use Rattle.lines_text_law.specs.Grammar.{word}
use Rattle.lines_text_law.specs.code.Pieces.{at}
use Rattle.lines_reading_law.specs.Grammars.{settings_grammar, event_grammar}
use Rattle.lines_reading_law.specs.Answers.{read_settings, read_event}
use Rattle.promises.specs.Cases.{SmallCases}

pub small_cases_lem : SmallCases
unfolding ◌⊓◌ first_failed settings_ranged settings_ticked settings_valid percent_of low_at high_at cooling_after factorial term terms growth
    theoretical theoretical_or minute_after boundaries reckoned in_range tallied tally_all nearest remembered tape_after last_or close_price
    sorted each_sound distinct uncrossed book_sound opened_session widened_by cooling_by clock_step with_trade with_trades time_sound counts_sound
    slab_sound numbers_sound every remembered_sound half_sound minute_sound clock_sound tape_sound session_sound counted sound_by numbers_right
    in_hours ticks_right band_right finds has_place has_numbers refusal_of outcome word at settings_grammar event_grammar read_settings read_event
small_cases_lem = (refl, (refl, (refl, (refl, (refl, (refl, (refl, (refl, (refl, (refl, (refl, (refl, tt))))))))))))
