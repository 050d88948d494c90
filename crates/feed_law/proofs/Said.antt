-- The lines for refused events and bad lines are always printed, since their numbers can be written. (Reports: `promises`, `calls-writable`.)
use Prim.Native.Nat.{ℕ, ◌≤◌}
use native.Mathlib.Omega.{arith}
use mathlib.Core.Path.{◌≡◌}
use mathlib.Core.List.{List}
use Rattle.terms.specs.declared.Event.{Event}
use Rattle.terms.specs.declared.Refusal.{Refusal}
use Rattle.terms.specs.Sizes.{written_most}
use Rattle.terms.specs.Refusals.{number_of}
use Rattle.terms.proofs.Refusals.{refusal-number}
use Rattle.lines_text_law.specs.Grammar.{whole}
use Rattle.lines_text_law.proofs.Fills.{writable_tested}
use Rattle.lines_reading_law.specs.Answers.{read_event}
use Rattle.lines_reading_law.proofs.EventLines.{event-lines}
use Rattle.lines_writing_law.specs.Lines.{refused_figures, render_refused, bad_figures, render_bad}
use Rattle.feed_law.specs.Texts.{refused_text, bad_text}

number_small : (r : Refusal) → number_of r ≤ written_most
number_small r = omega (arith, (refusal-number r).1)

-- an event that was read has a time that can be written
pub refused-said : (s : List ℕ) (e : Event) (n : ℕ) (r : Refusal) → read_event s ≡ whole e n → refused_text e.time r ≡ render_refused e.time r
unfolding refused_text
refused-said s e n r q =
    let w = (rw q at (event-lines.right s)).1.1 in
    rw (writable_tested (refused_figures e.time r) (w.0, (number_small r, tt)))

-- so can a place of at most nine digits
pub bad_said : (r : Refusal) (place : ℕ) → place ≤ written_most → bad_text r place ≡ render_bad r place
unfolding bad_text
bad_said r place h = rw (writable_tested (bad_figures r place) (number_small r, (h, tt)))
