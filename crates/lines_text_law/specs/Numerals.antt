-- Document 01, "Session lines": numbers are "decimal with no leading zero, 1 to 9 digits".
use Rattle.std.specs.Prelude.{ℕ, zero, suc, ◌+◌, ◌/◌, ◌%◌, Bool, true, cond, ◌&&◌, List, [], ◌∷◌, ◌++◌, ltb, leb}
use Rattle.terms.specs.Sizes.{written_most}

-- a number in decimal, of at most f + 1 digits: the digits of its tenth, and then its last digit
abbrev pub dec : ℕ → ℕ → List ℕ
dec zero n = (48 + n) ∷ []
dec (suc f) n =
    let longer = dec f (n / 10) ++ ((48 + n % 10) ∷ []) in
    cond (ltb n 10) ((48 + n) ∷ []) longer

-- the numeral of a number up to 999,999,999
unfoldable pub numeral : ℕ → List ℕ
numeral n = dec 8 n

-- whether all numbers can be written: the test that code makes for `Writable`
unfoldable pub all_writable : List ℕ → Bool
all_writable [] = true
all_writable (n ∷ ns) = leb n written_most && all_writable ns
