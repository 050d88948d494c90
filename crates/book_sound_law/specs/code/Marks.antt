-- A map with a bit for each number, and numbers marked in it one after the other until one is found marked already. It states what a pass
-- over a table does to its map.
use Rattle.std.specs.Prelude.{ℕ, ◌+◌, ◌*◌, ◌/◌, ◌%◌, ◌^◌, Bool, true, false, ◌&&◌, ◌||◌, not, List, [], ◌∷◌, eqb, get_or, set}
use Rattle.std.specs.Int.Bits.{bit_or}

-- bit b of a word, and the word with that bit set
abbrev pub bit_of : ℕ → ℕ → Bool
bit_of w b = eqb (w / 2 ^ b % 2) 1

abbrev pub with_bit : ℕ → ℕ → ℕ
with_bit w b = bit_or w ((1 * 2 ^ b) % 2 ^ 64)

-- the word that has x's bit, 16 words for each 1,024 numbers, and which bit it is: neighbouring numbers are in different words
abbrev pub word_for : ℕ → ℕ
word_for x = x / 1024 * 16 + x % 16

abbrev pub bit_for : ℕ → ℕ
bit_for x = x / 16 % 64

-- how many words a map has that holds a bit for every number up to x
abbrev pub words_to : ℕ → ℕ
words_to x = x / 1024 * 16 + 16

-- whether x is marked in a map, and the map with it marked
abbrev pub has_mark : List ℕ → ℕ → Bool
has_mark m x = bit_of (get_or m (word_for x) 0) (bit_for x)

abbrev pub with_mark : List ℕ → ℕ → List ℕ
with_mark m x = set m (word_for x) (with_bit (get_or m (word_for x) 0) (bit_for x))

-- each of the numbers is found unmarked when its turn comes
unfoldable pub fresh : List ℕ → List ℕ → Bool
fresh m [] = true
fresh m (x ∷ xs) = not (has_mark m x) && fresh (with_mark m x) xs

-- the map with all of them marked
unfoldable pub marked : List ℕ → List ℕ → List ℕ
marked m [] = m
marked m (x ∷ xs) = marked (with_mark m x) xs

-- whether x is among some numbers; numbers are distinct if none is among those after it
unfoldable pub is_in : ℕ → List ℕ → Bool
is_in x [] = false
is_in x (y ∷ ys) = eqb y x || is_in x ys

unfoldable pub apart : List ℕ → Bool
apart [] = true
apart (x ∷ xs) = not (is_in x xs) && apart xs
