-- The lines of the grammar of settings are the lines of settings and no others, so the reader's answer is the right one.
use Prim.Native.Nat.{ℕ}
use mathlib.Core.Path.{◌≡◌, refl, sym, ap}
use mathlib.Core.List.{List, [], ◌++◌}
use Rattle.terms.specs.declared.Category.{Category}
use Rattle.terms.specs.declared.Category.TheVariants.{Broad, Narrow, Sensitive, Energy, Metals, Precious, Gems, Other}
use Rattle.terms.specs.declared.Settings.{Settings}
use Rattle.lines_text_law.specs.Text.{bytes}
use Rattle.lines_text_law.specs.Numerals.{numeral}
use Rattle.terms.specs.Numbers.{Writable}
use Rattle.lines_text_law.specs.Forms.{fill}
use Rattle.lines_text_law.specs.Grammar.{word}
use Rattle.lines_text_law.specs.code.Pieces.{at, lastly}
use Rattle.lines_text_law.proofs.Grammars.{Spells, s_stop, s_byte, s_this, s_else, s_number, s_word, Plain, Agrees}
use Rattle.lines_text_law.proofs.Sorts.{Lawful, lawful}
use Rattle.lines_reading_law.specs.Lines.{category_word, numbers_form, settings_figures, render_settings}
use Rattle.lines_reading_law.specs.Grammars.{last_numbers, later_numbers, category_rest, categories, settings_grammar}
use Rattle.lines_reading_law.specs.Answers.{read_code, read_settings}

-- every number of the settings can be written
abbrev Fine : Settings → Type 0
Fine g = Writable (settings_figures g)

-- ---- the grammar is plain: at each place at most one way is open

rest_plain : (c : Category) → Plain (category_rest [] c)
unfolding category_rest later_numbers last_numbers lastly word
rest_plain c = λ v0. (refl, λ v1. (refl, λ v2. (refl, λ v3. (refl, λ v4. (refl, λ v5. (refl, λ v6. (refl, tt)))))))

plain : Plain settings_grammar
unfolding settings_grammar categories category_rest later_numbers last_numbers lastly word
plain = (
  (refl, (refl, (refl, (refl, (refl, (refl, refl)))))),
  rest_plain Broad,
  (
    (refl, (refl, (refl, (refl, (refl, refl))))),
    rest_plain Narrow,
    (
      (refl, (refl, (refl, (refl, refl)))),
      rest_plain Sensitive,
      (
        (refl, (refl, (refl, refl))),
        rest_plain Energy,
        ((refl, (refl, refl)), rest_plain Metals, ((refl, refl), rest_plain Precious, (refl, rest_plain Gems, rest_plain Other))),
      ),
    ),
  ),
)

-- ---- each end of the grammar spells the line of its value

-- the word of a category has no place for a number; one clause for each category
word-fills : (c : Category) (f ns : List ℕ) → fill (bytes "cat=" ++ (category_word c ++ f)) ns ≡ bytes "cat=" ++ (category_word c ++ fill f ns)
unfolding fill
word-fills Broad f ns = refl
word-fills Narrow f ns = refl
word-fills Sensitive f ns = refl
word-fills Energy f ns = refl
word-fills Metals f ns = refl
word-fills Precious f ns = refl
word-fills Gems f ns = refl
word-fills Other f ns = refl

settings-line : (g : Settings) → render_settings g ≡ bytes "cat=" ++ (category_word g.category ++ fill numbers_form (settings_figures g))
unfolding render_settings
settings-line g = word-fills g.category numbers_form (settings_figures g)

rest_agrees : (c : Category) → Agrees render_settings Fine (category_rest [] c) (λ x. bytes "cat=" ++ (category_word c ++ (bytes " base=" ++ x)))
unfolding category_rest later_numbers last_numbers lastly word numbers_form fill
rest_agrees c =
    λ v0 h0 v1 h1 v2 h2 v3 h3 v4 h4 v5 h5 v6 h6. (
      sym (settings-line (record { category = c; base = v0; close = v1; settle = v2; tick = v3; length = v4; days = v5; under = v6 })),
      (h0, (h1, (h2, (h3, (h4, (h5, (h6, tt))))))),
    )

agrees : Agrees render_settings Fine settings_grammar (λ x. x)
unfolding settings_grammar categories category_rest later_numbers last_numbers lastly word
agrees = (
  rest_agrees Broad,
  (
    rest_agrees Narrow,
    (
      rest_agrees Sensitive,
      (rest_agrees Energy, (rest_agrees Metals, (rest_agrees Precious, (rest_agrees Gems, rest_agrees Other)))),
    ),
  ),
)

-- ---- and the line of any settings is spelled by one of these ends

-- the numbers behind the category are spelled
rest_spells : (g : Settings) → Fine g
    → Spells (category_rest [] g.category) g
    (numeral g.base ++ (bytes " close=" ++ (numeral g.close ++ (bytes " settle=" ++ (numeral g.settle ++ (bytes " tick=" ++ (numeral g.tick ++ (bytes " len=" ++ (numeral g.length ++ (bytes " days=" ++ (numeral g.days ++ (bytes " under=" ++ (numeral g.under ++ bytes "\n")))))))))))))
unfolding category_rest later_numbers last_numbers lastly
rest_spells g f =
    s_word []
    (s_number g.base f.0
    (s_word (bytes " close=")
    (s_number g.close f.1.0
    (s_word (bytes " settle=")
    (s_number g.settle f.1.1.0
    (s_word (bytes " tick=")
    (s_number g.tick f.1.1.1.0
    (s_word (bytes " len=")
    (s_number g.length f.1.1.1.1.0
    (s_word (bytes " days=")
    (s_number g.days f.1.1.1.1.1.0
    (s_word (bytes " under=") (s_number g.under f.1.1.1.1.1.1.0 (s_word (bytes "\n") s_stop))))))))))))))

-- the word of each category is spelled; one clause for each
category_spells : (c : Category) {g : Settings} {bs : List ℕ} → Spells (category_rest [] c) g bs → Spells categories g (category_word c ++ (bytes " base=" ++ bs))
unfolding categories category_rest word
category_spells Broad s = s_this (s_word (bytes "road base=") s)
category_spells Narrow s = s_else (s_this (s_word (bytes "arrow base=") s))
category_spells Sensitive s = s_else (s_else (s_this (s_word (bytes "ensitive base=") s)))
category_spells Energy s = s_else (s_else (s_else (s_this (s_word (bytes "nergy base=") s))))
category_spells Metals s = s_else (s_else (s_else (s_else (s_this (s_word (bytes "etals base=") s)))))
category_spells Precious s = s_else (s_else (s_else (s_else (s_else (s_this (s_word (bytes "recious base=") s))))))
category_spells Gems s = s_else (s_else (s_else (s_else (s_else (s_else (s_this (s_word (bytes "ems base=") s)))))))
category_spells Other s = s_else (s_else (s_else (s_else (s_else (s_else (s_else (s_byte (s_word (bytes "ther base=") s))))))))

spells : (g : Settings) → Fine g → Spells settings_grammar g (render_settings g)
unfolding settings_grammar numbers_form fill
spells g f = rw (settings-line g) (s_word (bytes "cat=") (category_spells g.category (rest_spells g f)))

-- ---- what follows: the line of settings is read back, and no other bytes are

pub settings-lines : Lawful render_settings settings_figures read_settings
unfolding read_settings at settings_grammar word
settings-lines = lawful render_settings settings_figures settings_grammar plain agrees spells refl

-- P12: "empty bytes: 14"
pub settings-none : read_code (read_settings []) ≡ 14
settings-none = ap read_code settings-lines.none
