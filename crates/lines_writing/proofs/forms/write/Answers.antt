-- Each return is one of the three ways to answer; the two parts of the form are put one after the other.
use Rattle.lines_writing_law.proofs.Writing.{writer}
use Rattle.lines_writing.proofs.forms.write.Goals as goal

pub returns-then-line-lt-LINE : goal.returns-then-line-lt-LINE
returns-then-line-lt-LINE c = search writer

pub returns-then-not-all_writable : goal.returns-then-not-all_writable
returns-then-not-all_writable c = search writer

pub put_form-middle-requires : goal.put_form-middle-requires
put_form-middle-requires c = search writer

pub put_form-end-requires : goal.put_form-end-requires
put_form-end-requires c = search writer

pub returns : goal.returns
returns c = search writer
