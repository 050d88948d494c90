-- PACKING AND UNPACKING A RUN OF THE PROGRAM ARE INVERSE, whatever follows the numbers; and numbers that are no run's do nothing.
use Prim.Native.Nat.{ℕ, zero, suc, ◌≤◌}
use native.Mathlib.Omega.{arith}
use mathlib.Core.Path.{◌≡◌, refl}
use mathlib.Core.Bool.{true, false}
use mathlib.Core.List.{List, [], ◌∷◌, ◌++◌}
use borrow.Author.Tests.{leb-true}
use lib.Dec.{leb}
use lib.ListN.{length, take, drop}
use Rattle.terms.proofs.Logic.{both, make}
use Rattle.tables.specs.Put.{put}
use Rattle.feed_law.specs.declared.Run.{Run}
use Rattle.feed_law.specs.declared.Stage.{Stage}
use Rattle.state_law.specs.code.Tens.{Ten}
use Rattle.desk_packing_law.proofs.Inverse.{is_session_lem, session_back, session-numbers}
use Rattle.desk_packing_law.specs.Stages.{run_length, stage_number, run_numbers, is_run, stage_from, run_from, over_run}

-- ---- a stage and its number

stage_back : (s : Stage) → stage_from (stage_number s) ≡ s
stage_back Stage.Awaiting = refl
stage_back Stage.Trading = refl
stage_back Stage.Over = refl

stage-small : (s : Stage) → leb (stage_number s) 2 ≡ true
stage-small Stage.Awaiting = refl
stage-small Stage.Trading = refl
stage-small Stage.Over = refl

number_back : (n : ℕ) → n ≤ 2 → stage_number (stage_from n) ≡ n
number_back zero k = refl
number_back (suc zero) k = refl
number_back (suc (suc zero)) k = refl
number_back (suc (suc (suc n))) k = absurd (omega arith)

-- ---- a run

is_run_lem : (r : Run) (rest : List ℕ) → is_run (run_numbers r ++ rest) ≡ true
unfolding is_run run_numbers
is_run_lem r rest = make (stage-small r.stage) (is_session_lem r.session rest)

pub run_back : (r : Run) (rest : List ℕ) → Ten r.session → run_from (run_numbers r ++ rest) ≡ r
unfolding run_from run_numbers
run_back r rest ten = rw (is_run_lem r rest, stage_back r.stage, session_back r.session ten rest)

pub run-numbers : (ns : List ℕ) → run_length ≤ length ns → is_run ns ≡ true → run_numbers (run_from ns) ≡ take run_length ns
unfolding run_from run_numbers is_run
run-numbers [] h k = absurd (omega arith)
run-numbers (n ∷ ns) h k =
    let p = both k in
    rw (k, number_back n (leb-true n 2 p.0), session-numbers ns (omega arith) p.1)

-- a run that was written to the front of a slice is read back from it
pub run-laid_back : (ns : List ℕ) (r : Run) → Ten r.session → run_from (put ns 0 (run_numbers r)) ≡ r
unfolding put
run-laid_back ns r ten = run_back r (drop (length (run_numbers r)) ns) ten

-- ---- numbers that are no run's

pub no-run-over : (ns : List ℕ) → is_run ns ≡ false → run_from ns ≡ over_run
unfolding run_from
no-run-over ns h = rw h
