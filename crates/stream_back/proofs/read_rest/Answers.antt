-- What is left is short, so there is room for a read behind it.
use Rattle.stream_back.proofs.Rests.{left-room, rest_read, rest-within}
use borrow.Author.Rules.{rules}
use Rattle.stream_back.proofs.read_rest.Goals as goal

ruleset answers = (rules, left-room, rest_read, rest-within)

pub read_behind-read-requires : goal.read_behind-read-requires
read_behind-read-requires c = search answers

pub returns : goal.returns
returns c = search answers
