-- The first numbers of a list, written out one by one.
use Prim.Native.Nat.{ℕ, zero, suc, ◌+◌, ◌≤◌}
use native.Mathlib.Omega.{arith}
use mathlib.Core.Path.{◌≡◌, refl, sym, ap, ◌∙◌}
use mathlib.Core.List.{List, [], ◌∷◌}
use lib.ListN.{length, get_or, take, drop}
use lib.Seq.{drop-cons, take_all}
use Rattle.desk_packing_law.specs.Runs.{ten_at}

-- n numbers of a list from place i on
abbrev listed : List ℕ → ℕ → ℕ → List ℕ
listed ns i zero = []
listed ns i (suc n) = get_or ns i 0 ∷ listed ns (suc i) n

part-listed : (ns : List ℕ) (i n : ℕ) → i + n ≤ length ns → take n (drop i ns) ≡ listed ns i n
part-listed ns i zero h = refl
part-listed ns i (suc n) h = rw (drop-cons ns i 0 (omega arith)) (ap (λ (l : List ℕ). get_or ns i 0 ∷ l) (part-listed ns (suc i) n (omega arith)))

pub first-listed : (ns : List ℕ) (n : ℕ) → n ≤ length ns → take n ns ≡ listed ns 0 n
first-listed ns n h = part-listed ns 0 n (omega arith)

-- the ten numbers of a list of ten are the whole list
pub ten_all : (xs : List ℕ) → length xs ≡ 10 → ten_at xs 0 ≡ xs
ten_all xs e = sym (first-listed xs 10 (omega arith)) ∙ take_all 10 xs (omega arith)
