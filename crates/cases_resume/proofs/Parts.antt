-- What checks of the parts of a slice say of the whole.
use Prim.Native.Nat.{ℕ, ◌+◌, ◌-◌}
use native.Mathlib.Omega.{arith}
use native.Mathlib.Nat.{le_of_eq, sub-zero}
use mathlib.Core.Path.{◌≡◌, subst, ◌∙◌}
use mathlib.Core.Bool.{Bool, true, false, ◌&&◌, not}
use mathlib.Core.List.{List}
use lib.ListN.{length, take, drop, length-drop}
use lib.Seq.{take_all, get_or-drop}
use borrow.Author.Tests.{not-true, not-false}
use Rattle.terms.proofs.Logic.{split, no_both}
use Rattle.tables.specs.Lengths.{table_length}
use Rattle.cases_resume.specs.Left.{mark, AllAre, Scrubbed, Left}

-- the part from n on is all that lies past n, and the part from 0 on all before
tail : {x : ℕ} (n : ℕ) (t : List ℕ) → AllAre x (take (length t - n) (drop n t)) → AllAre x (drop n t)
tail {x} n t h = subst (AllAre x) (take_all (length t - n) (drop n t) (le_of_eq (length-drop n t))) h

front : {x : ℕ} (n : ℕ) (t : List ℕ) → AllAre x (take (n - 0) t) → AllAre x (take n t)
front {x} n t h = subst (λ (m : ℕ). AllAre x (take m t)) (sub-zero n) h

past : {x : ℕ} (n : ℕ) (t : List ℕ) → AllAre x t → AllAre x (drop n t)
past n t h k w = let l = length-drop n t in get_or-drop n t k 0 ∙ h (n + k) (omega arith)

pub scrubbed_by :
    (n : ℕ) (t : List ℕ) (a b : Bool) → (a ≡ true → AllAre 0 (take (n - 0) t)) → (b ≡ true → AllAre mark (take (length t - n) (drop n t))) →
    (a && b) ≡ true → Scrubbed n t
scrubbed_by n t a b first second e = record { zero = front n t (first (split a b e).0); past = tail n t (second (split a b e).1) }

module _ (t : List ℕ) (live : ℕ) (moved : Bool) where
  -- a table without an event
  pub left_as_lent : (a : Bool) → not moved ≡ true → (a ≡ true → AllAre mark t) → a ≡ true → Left live moved t
  left_as_lent a still all e =
      record { as_lent = λ m. all e; behind = λ m. no_both moved m (not-true moved still); past = past table_length t (all e) }

  -- and with one
  pub left_behind :
      (a b : Bool) → not moved ≡ false → (a ≡ true → AllAre 0 (take (table_length - live) (drop live t))) →
      (b ≡ true → AllAre mark (take (length t - table_length) (drop table_length t))) → (a && b) ≡ true → Left live moved t
  left_behind a b moves first second e =
      record {
        as_lent = λ m. no_both moved (not-false moved moves) m;
        behind = λ m. first (split a b e).0;
        past = tail table_length t (second (split a b e).1);
      }
