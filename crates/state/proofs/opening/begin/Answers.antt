-- Settings that are not refused are valid, and each verdict returns its session.
use Rattle.state_law.specs.Opening.{opening_of}
use mathlib.Core.Path.{sym, ◌∙◌}
use Rattle.terms.proofs.Valid.{fine-valid}
use Rattle.state.proofs.opening.begin.Goals as goal

pub opened-requires : goal.opened-requires
opened-requires c = fine-valid c.args.g (sym c.check.ensures ∙ c.in-Ok.is)

pub returns-in-Ok : goal.returns-in-Ok
unfolding opening_of
returns-in-Ok c = simp (← c.opened.ensures, c.in-Ok.is, ← c.check.ensures)

pub returns-in-Err : goal.returns-in-Err
unfolding opening_of
returns-in-Err c = simp (← c.fixed.ensures, c.in-Err.is, ← c.check.ensures)
