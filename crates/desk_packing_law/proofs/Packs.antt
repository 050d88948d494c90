-- What the code packs and unpacks is what the definitions say, for sessions and events.
use Prim.Native.Nat.{ℕ, ◌+◌}
use mathlib.Core.Path.{◌≡◌, refl, sym, ap, ◌∙◌}
use mathlib.Core.Bool.{Bool, true, false, not, ◌&&◌}
use mathlib.Core.List.{List, [], ◌∷◌, ◌++◌}
use lib.Dec.{leb, eqb}
use lib.ListN.{get_or, replicate}
use borrow.Author.Tests.{not-true, not-false}
use Rattle.std.specs.Prelude.{Some, None}
use Rattle.std.specs.Bool.{then_some}
use Rattle.terms.specs.declared.Act.{Act}
use Rattle.terms.specs.declared.Act.TheVariants.{Enter}
use Rattle.terms.specs.declared.Entry.{Entry}
use Rattle.terms.specs.declared.Event.{Event}
use Rattle.terms.specs.declared.Category.{Category}
use Rattle.terms.specs.declared.Settings.{Settings}
use Rattle.terms.specs.Categories.{row_of}
use Rattle.terms.specs.Truth.{◌⊓◌}
use Rattle.terms.specs.Carried.{limit_of}
use Rattle.tables.specs.Same.{are_same}
use Rattle.terms.proofs.Logic.{cond_true, cond_false}
use Rattle.rules_law.specs.declared.Reckoning.{Reckoning}
use Rattle.rules_law.specs.declared.Tape.{Tape}
use Rattle.state_law.specs.declared.Dial.{Dial}
use Rattle.state_law.specs.declared.Live.{Live}
use Rattle.state_law.specs.declared.Session.{Session}
use Rattle.state_law.specs.Opening.{fixed_session}
use Rattle.desk_packing_law.specs.Runs.{session_length, layout, settings_base, clock_base, live_base, reckoning_base, tape_base, ten_at}
use Rattle.desk_packing_law.specs.Settings.{settings_numbers, settings_at, is_category, category_from}
use Rattle.desk_packing_law.specs.Sessions.{flag, live_numbers, reckoning_numbers, tape_numbers, clock_from, live_from, reckoning_from, tape_from, session_numbers, is_session, session_of, session_from}
use Rattle.desk_packing_law.specs.Events.{side_number, kind_number, life_number, or_zero, act_numbers, event_numbers, act_by, event_if, found_from, found_in}

-- ---- a session, section by section

module _ (ns : List ℕ) (at : ℕ) where
  pub settings_with : (c : Category) → c ≡ category_from (get_or ns at 0) →
      record { category = c; base = get_or ns (at + 1) 0; close = get_or ns (at + 2) 0; settle = get_or ns (at + 3) 0; tick = get_or ns (at + 4) 0; length = get_or ns (at + 5) 0; days = get_or ns (at + 6) 0; under = get_or ns (at + 7) 0 }
      ≡ settings_at ns at
  unfolding settings_at
  settings_with c e = rw e

  pub tape_with : (prices sizes : List ℕ) → prices ≡ ten_at ns (at + 1) → sizes ≡ ten_at ns (at + 11) →
      record { trades = get_or ns at 0; prices = prices; sizes = sizes; half = record { count = get_or ns (at + 21) 0; lots = get_or ns (at + 22) 0; value = get_or ns (at + 23) 0 } }
      ≡ tape_from ns at
  tape_with prices sizes e f = rw (e, f)

pub session_tested : (ns : List ℕ) (category : Bool) → category ≡ is_category (get_or ns settings_base 0) →
    (eqb (get_or ns 0 0) layout && category && leb (get_or ns (clock_base + 1) 0) 1) ≡ is_session ns
unfolding is_session ◌⊓◌
session_tested ns category e = rw e

pub sections : (ns : List ℕ) (g : Settings) (c : Dial) (l : Live) (r : Reckoning) (t : Tape) →
    g ≡ settings_at ns settings_base → c ≡ clock_from ns clock_base → l ≡ live_from ns live_base → r ≡ reckoning_from ns reckoning_base → t ≡ tape_from ns tape_base →
    record { settings = g; clock = c; live = l; reckoning = r; tape = t } ≡ session_of ns
unfolding session_of
sections ns g c l r t a b d e f = rw (a, b, d, e, f)

fixed_is : session_of (replicate session_length 0) ≡ fixed_session
unfolding session_of settings_at fixed_session
fixed_is = refl

pub zeros_fixed : (r : Session) → r ≡ session_of (replicate session_length 0) → r ≡ fixed_session
zeros_fixed r e = e ∙ fixed_is

-- `found` is the outcome of the code's test whether the numbers are a session's
module _ (ns : List ℕ) (found : Bool) (h : found ≡ is_session ns) (r : Session) where
  pub no-session : not found ≡ true → r ≡ fixed_session → r ≡ session_from ns
  unfolding session_from
  no-session t e = rw (← h, not-true found t) e

  pub a_session : not found ≡ false → r ≡ session_of ns → r ≡ session_from ns
  unfolding session_from
  a_session t e = rw (← h, not-false found t) e

-- the numbers of a session, with its category and its closed flag given as numbers
abbrev packed : Session → ℕ → ℕ → List ℕ
packed s row closed =
    layout
    ∷ row
    ∷ s.settings.base
    ∷ s.settings.close
    ∷ s.settings.settle
    ∷ s.settings.tick
    ∷ s.settings.length
    ∷ s.settings.days
    ∷ s.settings.under
    ∷ s.clock.time
    ∷ closed
    ∷ s.clock.widened
    ∷ s.clock.cooling
    ∷ s.clock.under
    ∷ (live_numbers s.live ++ (reckoning_numbers s.reckoning ++ tape_numbers s.tape))

pub packed_right : (s : Session) (row closed : ℕ) → row ≡ row_of s.settings.category → closed ≡ flag s.clock.closed → packed s row closed ≡ session_numbers s
unfolding session_numbers settings_numbers
packed_right s row closed e f = ap (λ (r : ℕ). packed s r closed) e ∙ ap (packed s (row_of s.settings.category)) f

-- ---- events

module _ (e : Event) where
  pub packs_entry : (n : Entry) (side kind life limit : ℕ) → e.act ≡ Enter n → side ≡ side_number n.side → kind ≡ kind_number n.kind →
      life ≡ life_number n.life → limit ≡ or_zero (limit_of n.kind) → (e.time ∷ side ∷ kind ∷ life ∷ n.lots ∷ limit ∷ []) ≡ event_numbers e
  unfolding event_numbers
  packs_entry n side kind life limit h a b c d = rw (h, a, b, c, d)

  pub packs_act : (a : Act) → e.act ≡ a → (e.time ∷ act_numbers a) ≡ event_numbers e
  unfolding event_numbers
  packs_act a h = rw h

-- what code finds: `act` is what the numbers make, `own` the numbers of the event, and `same` whether these are the six
module _ (ns own : List ℕ) (act : Act) (same : Bool) where
  abbrev made : Event
  made = record { time = get_or ns 0 0; act = act }

  abbrev six : List ℕ
  six = get_or ns 0 0 ∷ get_or ns 1 0 ∷ get_or ns 2 0 ∷ get_or ns 3 0 ∷ get_or ns 4 0 ∷ get_or ns 5 0 ∷ []

  pub found_if : act ≡ act_by (get_or ns 1 0) (get_or ns 2 0) (get_or ns 3 0) (get_or ns 4 0) (get_or ns 5 0) → own ≡ event_numbers (record { time = get_or ns 0 0; act = act }) →
      same ≡ are_same own (get_or ns 0 0 ∷ get_or ns 1 0 ∷ get_or ns 2 0 ∷ get_or ns 3 0 ∷ get_or ns 4 0 ∷ get_or ns 5 0 ∷ []) →
      then_some same (record { time = get_or ns 0 0; act = act }) ≡ found_in ns
  unfolding found_in found_from
  found_if e g f = rw (← e) (told same (rw g at f))
    where
      told : (b : Bool) → b ≡ are_same (event_numbers made) six → then_some b made ≡ event_if made six
      told true h = sym (cond_true (are_same (event_numbers made) six) (Some made) None (sym h))
      told false h = sym (cond_false (are_same (event_numbers made) six) (Some made) None (sym h))

-- an event is told just where the numbers are its own
pub told_if : (e : Event) (ns own : List ℕ) (same : Bool) → own ≡ event_numbers e → same ≡ are_same own ns → then_some same e ≡ event_if e ns
told_if e ns own true g h = sym (cond_true (are_same (event_numbers e) ns) (Some e) None (sym (rw g at h)))
told_if e ns own false g h = sym (cond_false (are_same (event_numbers e) ns) (Some e) None (sym (rw g at h)))
