-- Each return is one case: the place lies past the end of the expected output, or the bytes behind it decide.
use Rattle.std.proofs.Common.{◌∙◌}
use Rattle.stream_law.proofs.Beginnings.{past_end, begins-there}
use Rattle.stream_sink.proofs.comparing.is_next.Goals as goal

pub returns-then-expected-at : goal.returns-then-expected-at
returns-then-expected-at c = c.is_empty.ensures ∙ past_end c.args.bytes.now c.args.expected.now c.args.at c.if-expected-at.true

pub returns : goal.returns
returns c = begins-there c.args.bytes.now c.args.expected.now c.args.at c.starts_with.ensures.value
