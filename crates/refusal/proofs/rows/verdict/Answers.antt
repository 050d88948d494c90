-- Row 2 comes first; a session that passes it is within the bounds that the other rows compute with.
use Rattle.terms.proofs.Cascade.{cascade}
use mathlib.Core.Path.{sym, ◌∙◌}
use native.Mathlib.Omega.{arith}
use borrow.Author.Tests.{not-false}
use Rattle.soundness_law.proofs.Clocked.{session-clocked}
use Rattle.soundness_law.proofs.Border.{sound-session}
use Rattle.refusal_law.specs.Refusals.{refusal_of}
use Rattle.refusal.proofs.rows.verdict.Goals as goal

pub returns-then-not-is_sound : goal.returns-then-not-is_sound
unfolding refusal_of
returns-then-not-is_sound c = search cascade depth 14

pub event_rows-requires : goal.event_rows-requires
event_rows-requires c = let k = session-clocked c.args.s (sound-session _ (sym c.is_sound.ensures ∙ not-false _ c.if-not-is_sound.false-raw)) in (k, omega (arith, k, c.requires))

pub returns : goal.returns
unfolding refusal_of
returns c = search cascade depth 14
