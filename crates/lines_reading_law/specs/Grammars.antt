-- The two sorts of line as grammars: which byte decides between words, and what follows each word. proofs/ shows that their lines are those
-- of Lines.antt and no others.
use Rattle.std.specs.Prelude.{ℕ, Bool, true, false, List}
use Rattle.terms.specs.declared.Category.{Category}
use Rattle.terms.specs.declared.Category.TheVariants.{Broad, Narrow, Sensitive, Energy, Metals, Precious, Gems, Other}
use Rattle.terms.specs.declared.Settings.{Settings}
use Rattle.terms.specs.declared.Side.{Side}
use Rattle.terms.specs.declared.Side.TheVariants.{Buy, Sell}
use Rattle.terms.specs.declared.Kind.{Kind}
use Rattle.terms.specs.declared.Kind.TheVariants.{Limit, Market}
use Rattle.terms.specs.declared.Life.{Life}
use Rattle.terms.specs.declared.Life.TheVariants.{AllDay, Ioc}
use Rattle.terms.specs.declared.Act.{Act}
use Rattle.terms.specs.declared.Act.TheVariants.{Enter, Withdraw, Under, Clock, Finish}
use Rattle.terms.specs.declared.Event.{Event}
use Rattle.lines_reading_law.specs.declared.Single.{Single}
use Rattle.lines_text_law.specs.Text.{bytes, letter}
use Rattle.lines_text_law.specs.Grammar.{Grammar, stop, byte, either, number, word}
use Rattle.lines_text_law.specs.code.Pieces.{lastly}

-- ---- settings

-- the days to maturity and the underlying, which end the line
unfoldable pub last_numbers : Category → ℕ → ℕ → ℕ → ℕ → ℕ → Grammar Settings
last_numbers c base close settle tick length =
    word (bytes " days=")
    (number λ days.
    lastly (bytes " under=")
    (λ under.
    record { category = c; base = base; close = close; settle = settle; tick = tick; length = length; days = days; under = under }))

-- the tick and the length, and then these
unfoldable pub later_numbers : Category → ℕ → ℕ → ℕ → Grammar Settings
later_numbers c base close settle =
    word (bytes " tick=")
    (number λ tick.
    word (bytes " len=")
    (number λ length. last_numbers c base close settle tick length))

-- after the first byte of a category: the rest of its word, and the numbers
unfoldable pub category_rest : List ℕ → Category → Grammar Settings
category_rest w c =
    word w
    (number λ base.
    word (bytes " close=")
    (number λ close.
    word (bytes " settle=")
    (number λ settle. later_numbers c base close settle)))

unfoldable pub categories : Grammar Settings
categories =
    either (letter "b") (category_rest (bytes "road base=") Broad)
    (either (letter "n") (category_rest (bytes "arrow base=") Narrow)
    (either (letter "s") (category_rest (bytes "ensitive base=") Sensitive)
    (either (letter "e") (category_rest (bytes "nergy base=") Energy)
    (either (letter "m") (category_rest (bytes "etals base=") Metals)
    (either (letter "p") (category_rest (bytes "recious base=") Precious)
    (either (letter "g") (category_rest (bytes "ems base=") Gems)
    (byte (letter "o") (category_rest (bytes "ther base=") Other))))))))

unfoldable pub settings_grammar : Grammar Settings
settings_grammar = word (bytes "cat=") categories

-- ---- events

abbrev pub event : ℕ → Act → Event
event time act = record { time = time; act = act }

abbrev pub order : ℕ → Side → Kind → Life → ℕ → Event
order time side kind life lots = event time (Enter (record { side = side; kind = kind; life = life; lots = lots }))

-- after the lots: a limit's price, and the end
unfoldable pub price_rest : ℕ → Side → Bool → Life → ℕ → Grammar Event
price_rest t side true life lots = lastly (bytes " price=") (λ price. order t side (Limit price) life lots)
price_rest t side false life lots = word (bytes "\n") (stop (order t side Market life lots))

-- after the first byte of a life
unfoldable pub life_rest : List ℕ → ℕ → Side → Bool → Life → Grammar Event
life_rest w t side limit life = word w (number λ lots. price_rest t side limit life lots)

unfoldable pub lives : ℕ → Side → Bool → Grammar Event
lives t side limit =
    either (letter "d") (life_rest (bytes "ay qty=") t side limit AllDay)
    (byte (letter "i") (life_rest (bytes "oc qty=") t side limit Ioc))

-- after the first byte of a kind
unfoldable pub kind_rest : List ℕ → ℕ → Side → Bool → Grammar Event
kind_rest w t side limit = word w (lives t side limit)

unfoldable pub kinds : ℕ → Side → Grammar Event
kinds t side =
    either (letter "l") (kind_rest (bytes "imit life=") t side true)
    (byte (letter "m") (kind_rest (bytes "arket life=") t side false))

-- after the first byte of a side
unfoldable pub side_rest : List ℕ → ℕ → Side → Grammar Event
side_rest w t side = word w (kinds t side)

-- an act with one number, after the first byte of its word
abbrev pub act_of : Single → ℕ → Act
act_of Single.Withdraw id = Withdraw id
act_of Single.Under price = Under price
act_of Single.Finish settle = Finish settle

unfoldable pub single_rest : List ℕ → ℕ → Single → Grammar Event
single_rest w t single = lastly w (λ v. event t (act_of single v))

-- after "clo": close or clock
unfoldable pub clock_rest : ℕ → Grammar Event
clock_rest t = either (letter "s") (single_rest (bytes "e settle=") t Single.Finish) (word (bytes "ck\n") (stop (event t Clock)))

-- after "c": cancel, close or clock
unfoldable pub cancel_rest : ℕ → Grammar Event
cancel_rest t = either (letter "a") (single_rest (bytes "ncel id=") t Single.Withdraw) (word (bytes "lo") (clock_rest t))

unfoldable pub acts : ℕ → Grammar Event
acts t =
    either (letter "b") (side_rest (bytes "uy kind=") t Buy)
    (either (letter "s") (side_rest (bytes "ell kind=") t Sell)
    (either (letter "u") (single_rest (bytes "nder price=") t Single.Under)
    (byte (letter "c") (cancel_rest t))))

unfoldable pub event_grammar : Grammar Event
event_grammar = word (bytes "t=") (number λ t. word (bytes " do=") (acts t))
