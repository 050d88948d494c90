-- By how the settings are read.
use Rattle.lines_text_law.proofs.Sorts.{wrong-read, read-line}
use Rattle.stream_back.proofs.Openings.{opens-within, opens-whole, opens-unfinished, opens-wrong}
use mathlib.Core.Path.{sym, ap, ◌∙◌}
use Rattle.lines_text_law.specs.declared.LineError.{LineError}
use borrow.Author.Rules.{rules}
use Rattle.stream_back.proofs.from_front.Goals as goal

ruleset answers = (rules, read-line, opens-within, opens-whole, opens-unfinished, opens-wrong)

pub returns-in-Ok : goal.returns-in-Ok
returns-in-Ok c = search answers

pub returns-in-Err-Unfinished : goal.returns-in-Err-Unfinished
returns-in-Err-Unfinished c = search answers

pub returns-in-Err-Wrong : goal.returns-in-Err-Wrong
returns-in-Err-Wrong c =
    let w = c.in-Err-Wrong in
    opens-wrong c.args.end c.args.buf.now _ c.read_settings.ensures c.args.given.now c.args.from c.args.buys.now c.args.sells.now c.refused-in-Err-Wrong.result _ (wrong-read w.is (w.field-0-is ∙ ap LineError.Wrong (sym w.place-is))) c.refused-in-Err-Wrong.ensures
