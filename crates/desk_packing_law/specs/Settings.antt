-- SETTINGS as eight numbers: category, base, close, settle, tick, length, days, under.
use Rattle.std.specs.Prelude.{ℕ, ◌+◌, Bool, cond, List, [], ◌∷◌, leb, eqb, get_or}
use Rattle.terms.specs.declared.Category.{Category}
use Rattle.terms.specs.declared.Category.TheVariants.{Broad, Narrow, Sensitive, Energy, Metals, Precious, Gems, Other}
use Rattle.terms.specs.declared.Settings.{Settings}
use Rattle.terms.specs.Categories.{row_of}

unfoldable pub settings_numbers : Settings → List ℕ
settings_numbers g =
    row_of g.category ∷ g.base ∷ g.close ∷ g.settle ∷ g.tick ∷ g.length ∷ g.days ∷ g.under ∷ []

-- whether a number is the row of a category
abbrev pub is_category : ℕ → Bool
is_category n = leb n 7

-- the category of a row
abbrev pub category_from : ℕ → Category
category_from n =
    cond (eqb n 0) Broad
    (cond (eqb n 1) Narrow
    (cond (eqb n 2) Sensitive
    (cond (eqb n 3) Energy
    (cond (eqb n 4) Metals
    (cond (eqb n 5) Precious
    (cond (eqb n 6) Gems Other))))))

-- the settings that numbers stand for, from a place on, if the first is a category's
unfoldable pub settings_at : List ℕ → ℕ → Settings
settings_at ns at =
    record {
      category = category_from (get_or ns at 0);
      base = get_or ns (at + 1) 0;
      close = get_or ns (at + 2) 0;
      settle = get_or ns (at + 3) 0;
      tick = get_or ns (at + 4) 0;
      length = get_or ns (at + 5) 0;
      days = get_or ns (at + 6) 0;
      under = get_or ns (at + 7) 0;
    }

-- the settings that numbers stand for
abbrev pub settings_from : List ℕ → Settings
settings_from ns = settings_at ns 0
