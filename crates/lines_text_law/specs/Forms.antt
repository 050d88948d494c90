-- A form is the text of a line with # where a number stands; a line is a form and its numbers.
use Rattle.std.specs.Prelude.{ℕ, ◌+◌, cond, List, [], ◌∷◌, ◌++◌, get_or, drop, eqb}
use Rattle.lines_text_law.specs.Numerals.{numeral}

-- the byte #, which stands for a number
abbrev pub hole : ℕ
hole = 35

-- what a byte of a form stands for: the numeral of the next number, or itself
abbrev pub piece : ℕ → ℕ → List ℕ
piece c n = cond (eqb c hole) (numeral n) (c ∷ [])

-- how many numbers a byte of a form takes
abbrev pub taken : ℕ → ℕ
taken c = cond (eqb c hole) 1 0

-- the line that a form makes with its numbers
unfoldable pub fill : List ℕ → List ℕ → List ℕ
fill [] ns = []
fill (c ∷ f) ns = piece c (get_or ns 0 0) ++ fill f (drop (taken c) ns)

-- how many numbers a form takes, and the length of its longest line: nine digits a number
unfoldable pub holes : List ℕ → ℕ
holes [] = 0
holes (c ∷ f) = taken c + holes f

unfoldable pub longest : List ℕ → ℕ
longest [] = 0
longest (c ∷ f) = cond (eqb c hole) 9 1 + longest f
