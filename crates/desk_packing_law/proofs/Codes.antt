-- Code and count can be computed back from an answer's number.
use Prim.Native.Nat.{ℕ, ◌/◌, ◌%◌, ◌≤◌, ◌<◌}
use native.Mathlib.Omega.{arith}
use mathlib.Core.Path.{◌≡◌}
use Rattle.terms.specs.declared.Refusal.{Refusal}
use Rattle.terms.specs.Refusals.{number_of}
use Rattle.terms.proofs.Refusals.{refusal-number}
use Rattle.desk_packing_law.specs.Answers.{codes, count_most, answer_number}

pub code_back : (code count : ℕ) → code < codes → answer_number code count % codes ≡ code
code_back code count h = omega arith

pub count_back : (code count : ℕ) → code < codes → answer_number code count / codes ≡ count
count_back code count h = omega arith

pub code_below : (r : Refusal) (n : ℕ) → n ≡ number_of r → (n < codes) × (0 ≤ count_most)
code_below r n e = (omega (arith, (refusal-number r).1), omega arith)
