-- Each return is answered by the powers of ten between which the number lies.
use Rattle.lines_text_law.proofs.Digits.{width-first, width_is, width-last}
use Rattle.lines_text.proofs.room.digits.Goals as goal

pub returns-then-v-lt10 : goal.returns-then-v-lt10
returns-then-v-lt10 c = search width-first

pub returns-then-v-lt100 : goal.returns-then-v-lt100
returns-then-v-lt100 c = search (width_is 1)

pub returns-then-v-lt1000 : goal.returns-then-v-lt1000
returns-then-v-lt1000 c = search (width_is 2)

pub returns-then-v-lt10000 : goal.returns-then-v-lt10000
returns-then-v-lt10000 c = search (width_is 3)

pub returns-then-v-lt100000 : goal.returns-then-v-lt100000
returns-then-v-lt100000 c = search (width_is 4)

pub returns-then-v-lt1000000 : goal.returns-then-v-lt1000000
returns-then-v-lt1000000 c = search (width_is 5)

pub returns-then-v-lt10000000 : goal.returns-then-v-lt10000000
returns-then-v-lt10000000 c = search (width_is 6)

pub returns-then-v-lt100000000 : goal.returns-then-v-lt100000000
returns-then-v-lt100000000 c = search (width_is 7)

pub returns : goal.returns
returns c = search width-last
