-- Each return is one case: the read failed, it gave no bytes, or its bytes are taken in.
use Rattle.stream.proofs.Behind.{end-within, end_fits, came-some, came-none, came-failed}
use borrow.Author.Rules.{rules}
use Rattle.stream.proofs.read_on.Goals as goal

ruleset answers = (rules, end-within, end_fits, came-some, came-none, came-failed)

pub returns-in-Err : goal.returns-in-Err
returns-in-Err c = search answers

pub returns-in-Ok-eq0 : goal.returns-in-Ok-eq0
returns-in-Ok-eq0 c = search answers

pub returns-in-Ok : goal.returns-in-Ok
returns-in-Ok c = came-some c.read_behind-read.ensures c.in-Ok.is (rw c.in-Ok.is at c.in-Ok.n-test).1 c.take_in-on.ensures
