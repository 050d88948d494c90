-- PACKING AND UNPACKING SETTINGS AND SESSIONS ARE INVERSE, whatever follows the numbers.
use Prim.Native.Nat.{ℕ, zero, suc, ◌+◌, ◌≤◌}
use native.Mathlib.Omega.{arith}
use mathlib.Core.Path.{◌≡◌, refl, sym}
use mathlib.Core.Bool.{Bool, true, false}
use mathlib.Core.List.{List, ◌++◌}
use borrow.Author.Tests.{leb-true, eqb-true}
use lib.Dec.{leb, eqb}
use lib.ListN.{length, get_or, take, drop}
use Rattle.terms.specs.declared.Category.{Category}
use Rattle.terms.specs.declared.Category.TheVariants.{Broad, Narrow, Sensitive, Energy, Metals, Precious, Gems, Other}
use Rattle.terms.specs.declared.Settings.{Settings}
use Rattle.terms.specs.Categories.{row_of}
use Rattle.terms.proofs.Logic.{by, both, make}
use Rattle.tables.specs.Put.{put}
use Rattle.state_law.specs.declared.Session.{Session}
use Rattle.state_law.specs.Opening.{fixed_session}
use Rattle.desk_packing_law.specs.Runs.{settings_length, session_length, layout, settings_base, clock_base}
use Rattle.desk_packing_law.specs.Settings.{settings_numbers, is_category, category_from, settings_from, settings_at}
use Rattle.state_law.specs.code.Tens.{Ten}
use Rattle.desk_packing_law.specs.Sessions.{flag, session_numbers, is_session, session_of, session_from}
use Rattle.desk_packing_law.proofs.Listed.{first-listed, ten_all}

-- ---- a category and its row

pub category_back : (c : Category) → category_from (row_of c) ≡ c
category_back Broad = refl
category_back Narrow = refl
category_back Sensitive = refl
category_back Energy = refl
category_back Metals = refl
category_back Precious = refl
category_back Gems = refl
category_back Other = refl

row_is : (c : Category) → is_category (row_of c) ≡ true
row_is Broad = refl
row_is Narrow = refl
row_is Sensitive = refl
row_is Energy = refl
row_is Metals = refl
row_is Precious = refl
row_is Gems = refl
row_is Other = refl

pub row_back : (n : ℕ) → is_category n ≡ true → row_of (category_from n) ≡ n
row_back n h = go n (leb-true n 7 h)
  where
    go : (n : ℕ) → n ≤ 7 → row_of (category_from n) ≡ n
    go zero k = refl
    go (suc zero) k = refl
    go (suc (suc zero)) k = refl
    go (suc (suc (suc zero))) k = refl
    go (suc (suc (suc (suc zero)))) k = refl
    go (suc (suc (suc (suc (suc zero))))) k = refl
    go (suc (suc (suc (suc (suc (suc zero)))))) k = refl
    go (suc (suc (suc (suc (suc (suc (suc zero))))))) k = refl
    go (suc (suc (suc (suc (suc (suc (suc (suc n)))))))) k = absurd (omega arith)

-- ---- settings

pub settings_back_lem : (g : Settings) (rest : List ℕ) → settings_from (settings_numbers g ++ rest) ≡ g
unfolding settings_at settings_numbers
settings_back_lem g rest = rw (category_back g.category)

pub settings-numbers : (ns : List ℕ) → settings_length ≤ length ns → is_category (get_or ns 0 0) ≡ true → settings_numbers (settings_from ns) ≡ take settings_length ns
unfolding settings_at settings_numbers
settings-numbers ns h k = rw (row_back (get_or ns 0 0) k) (sym (first-listed ns 8 h))

-- ---- a session

flag_back : (b : Bool) → eqb (flag b) 1 ≡ b
flag_back true = refl
flag_back false = refl

flag_small : (b : Bool) → leb (flag b) 1 ≡ true
flag_small true = refl
flag_small false = refl

closed_back : (n : ℕ) → n ≤ 1 → flag (eqb n 1) ≡ n
closed_back zero k = refl
closed_back (suc zero) k = refl
closed_back (suc (suc n)) k = absurd (omega arith)

-- the numbers of a session are recognised as a session's
pub is_session_lem : (s : Session) (rest : List ℕ) → is_session (session_numbers s ++ rest) ≡ true
unfolding is_session session_numbers settings_numbers
is_session_lem s rest = make (make refl (row_is s.settings.category)) (flag_small s.clock.closed)

module _ (s : Session) (ten : Ten s) (rest : List ℕ) where
  same-session : session_of (session_numbers s ++ rest) ≡ s
  unfolding session_of session_numbers settings_at settings_numbers
  same-session =
      rw (category_back s.settings.category, flag_back s.clock.closed, ten_all s.tape.prices ten.prices, ten_all s.tape.sizes ten.sizes)

  pub session_back : session_from (session_numbers s ++ rest) ≡ s
  unfolding session_from
  session_back = rw (is_session_lem s rest) same-session

pub session-numbers : (ns : List ℕ) → session_length ≤ length ns → is_session ns ≡ true → session_numbers (session_from ns) ≡ take session_length ns
unfolding session_from session_of session_numbers settings_at settings_numbers is_session
session-numbers ns h k =
    let p = both k in
    let q = both p.0 in
    rw (k, row_back (get_or ns settings_base 0) q.1, closed_back (get_or ns (clock_base + 1) 0) (leb-true (get_or ns (clock_base + 1) 0) 1 p.1))
    (rw (eqb-true (get_or ns 0 0) layout q.0) at (sym (first-listed ns session_length h)))

-- the session of any numbers has arrays of ten
pub from_ten : (ns : List ℕ) → Ten (session_from ns)
unfolding session_from session_of fixed_session
from_ten ns = by Ten (is_session ns) _ _ (λ e. record { prices = refl; sizes = refl }) (λ e. record { prices = refl; sizes = refl })

-- ---- a session written to the front of a slice

module _ (run : List ℕ) (s : Session) where
  -- is read back from it,
  pub laid_back : Ten s → session_from (put run 0 (session_numbers s)) ≡ s
  unfolding put
  laid_back ten = session_back s ten (drop (length (session_numbers s)) run)

  -- and what lies past it is as it was
  pub laid-past : drop session_length (put run 0 (session_numbers s)) ≡ drop session_length run
  unfolding put session_numbers settings_numbers
  laid-past = refl
