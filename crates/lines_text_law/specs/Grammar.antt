-- A grammar of lines, and the reader that goes by it: it reads a byte at a time and never past the line.
use Rattle.std.specs.Prelude.{ℕ, zero, suc, ◌+◌, ◌-◌, ◌*◌, Bool, false, cond, List, [], ◌∷◌, ltb, eqb}

-- A grammar of the lines of values of E: the end, with its value; a byte and the rest; a byte and its rest, or else another way; a number and
-- the rest, which depends on it.
pub data Grammar (E : Type 0) : Type 0 where
  stop : E → Grammar E
  byte : ℕ → Grammar E → Grammar E
  either : ℕ → Grammar E → Grammar E → Grammar E
  number : (ℕ → Grammar E) → Grammar E

-- a word, and then the rest
unfoldable pub word : {E : Type 0} → List ℕ → Grammar E → Grammar E
word [] g = g
word (b ∷ w) g = byte b (word w g)

-- what reading answers: a value and where its line ends; that the bytes end within a line; or the place of the first wrong byte
pub data LineAnswer (E : Type 0) : Type 0 where
  whole : E → ℕ → LineAnswer E
  unfinished : LineAnswer E
  wrong : ℕ → LineAnswer E

-- whether a byte is one of the digits 0 to 9
abbrev pub digit : ℕ → Bool
digit x = cond (ltb x 48) false (ltb x 58)

-- reads up to f more digits behind those whose value is v, and goes on with k
abbrev pub more : {E : Type 0} → ℕ → ℕ → List ℕ → ℕ → (ℕ → List ℕ → ℕ → LineAnswer E) → LineAnswer E
more zero v l n k = k v l n
more (suc f) v [] n k = k v [] n
more (suc f) v (x ∷ l) n k =
    let on = more f (v * 10 + (x - 48)) l (n + 1) k in
    let end = k v (x ∷ l) n in
    cond (digit x) on end

-- reads a numeral, which is 0, or a digit from 1 and up to eight more, and goes on with k
abbrev pub numeral_then : {E : Type 0} → List ℕ → ℕ → (ℕ → List ℕ → ℕ → LineAnswer E) → LineAnswer E
numeral_then [] n k = unfinished
numeral_then (x ∷ l) n k =
    let naught = k 0 l (n + 1) in
    let on = more 8 (x - 48) l (n + 1) k in
    cond (eqb x 48) naught (cond (digit x) on (wrong n))

-- reads the bytes l by a grammar; the first of them stands at place n
abbrev pub look : {E : Type 0} → Grammar E → List ℕ → ℕ → LineAnswer E
look (stop e) l n = whole e n
look (byte b g) [] n = unfinished
look (byte b g) (x ∷ l) n = let on = look g l (n + 1) in cond (eqb x b) on (wrong n)
look (either b g h) [] n = unfinished
look (either b g h) (x ∷ l) n =
    let this = look g l (n + 1) in
    let that = look h (x ∷ l) n in
    cond (eqb x b) this that
look (number g) l n = numeral_then l n (λ v r m. look (g v) r m)
