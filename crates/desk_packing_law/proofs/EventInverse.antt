-- PACKING AND UNPACKING EVENTS ARE INVERSE, whatever follows the numbers.
use Prim.Native.Nat.{ℕ, ◌≤◌}
use mathlib.Core.Path.{◌≡◌, refl, sym, ◌∙◌}
use mathlib.Core.List.{List, [], ◌∷◌, ◌++◌}
use lib.ListN.{length, get_or, take}
use Rattle.std.specs.Prelude.{Option, Some, None}
use Rattle.terms.specs.declared.Act.{Act}
use Rattle.terms.specs.declared.Act.TheVariants.{Enter, Withdraw, Under, Clock, Finish}
use Rattle.terms.specs.declared.Entry.{Entry}
use Rattle.terms.specs.declared.Event.{Event}
use Rattle.terms.specs.declared.Kind.{Kind}
use Rattle.terms.specs.declared.Kind.TheVariants.{Limit, Market}
use Rattle.terms.specs.declared.Life.{Life}
use Rattle.terms.specs.declared.Life.TheVariants.{AllDay, Ioc}
use Rattle.terms.specs.declared.Side.{Side}
use Rattle.terms.specs.declared.Side.TheVariants.{Buy, Sell}
use Rattle.terms.specs.Carried.{limit_of}
use Rattle.tables.specs.Same.{are_same}
use Rattle.terms.proofs.Logic.{by, cond_true}
use Rattle.tables.proofs.Same.{same_itself, same_equal}
use Rattle.desk_packing_law.specs.Runs.{event_length}
use Rattle.desk_packing_law.specs.Events.{side_number, kind_number, life_number, or_zero, act_numbers, event_numbers, entry_by, act_by, event_if, found_from, found_in, event_from}
use Rattle.desk_packing_law.proofs.Listed.{first-listed}

-- ---- an event is read back from its numbers

abbrev six : ℕ → ℕ → ℕ → ℕ → ℕ → ℕ → List ℕ
six t w k l a p = t ∷ w ∷ k ∷ l ∷ a ∷ p ∷ []

-- the numbers of an order make that order
entry_again : (side : Side) (kind : Kind) (life : Life) (lots : ℕ) →
    entry_by side (kind_number kind) (life_number life) lots (or_zero (limit_of kind)) ≡ record { side = side; kind = kind; life = life; lots = lots }
entry_again side (Limit price) AllDay lots = refl
entry_again side (Limit price) Ioc lots = refl
entry_again side Market AllDay lots = refl
entry_again side Market Ioc lots = refl

side_again : (side : Side) (n : Entry) → n.side ≡ side → act_by (side_number side) (kind_number n.kind) (life_number n.life) n.lots (or_zero (limit_of n.kind)) ≡ Enter n
unfolding act_by
side_again Buy n e = rw (entry_again Buy n.kind n.life n.lots, ← e)
side_again Sell n e = rw (entry_again Sell n.kind n.life n.lots, ← e)

-- the numbers of an act make that act; one clause for each act
act_again : (t : ℕ) (a : Act) (rest : List ℕ) →
    found_in (t ∷ (act_numbers a ++ rest)) ≡ event_if (record { time = t; act = a }) (t ∷ act_numbers a)
unfolding found_in found_from act_by
act_again t (Enter n) rest = rw (side_again n.side n refl)
act_again t (Withdraw number) rest = refl
act_again t (Under price) rest = refl
act_again t Clock rest = refl
act_again t (Finish settle) rest = refl

pub found_back : (e : Event) (rest : List ℕ) → found_in (event_numbers e ++ rest) ≡ Some e
unfolding event_numbers
found_back e rest = act_again e.time e.act rest ∙ cond_true (are_same (event_numbers e) (event_numbers e)) _ _ (same_itself (event_numbers e))

pub event_back_lem : (e : Event) (rest : List ℕ) → event_from (event_numbers e ++ rest) ≡ e
unfolding event_from
event_back_lem e rest = rw (found_back e rest)

-- ---- an event that is read has the given numbers

-- nothing was read, or an event whose numbers these are
abbrev Only : List ℕ → Option Event → Type 0
Only ns (Some e) = ns ≡ event_numbers e
Only ns None = Unit

only-told : (e : Event) (ns : List ℕ) → Only ns (event_if e ns)
only-told e ns = by (Only ns) (are_same (event_numbers e) ns) (Some e) None (λ h. sym (same_equal (event_numbers e) ns h)) (λ _. tt)

only : (t w k l a p : ℕ) → Only (six t w k l a p) (found_from t w k l a p)
unfolding found_from
only t w k l a p = only-told (record { time = t; act = act_by w k l a p }) (six t w k l a p)

pub event-numbers : (ns : List ℕ) (e : Event) → event_length ≤ length ns → found_in ns ≡ Some e → event_numbers e ≡ take event_length ns
unfolding found_in
event-numbers ns e h k =
    let told : (f : Option Event) → found_in ns ≡ f → Only (six (get_or ns 0 0) (get_or ns 1 0) (get_or ns 2 0) (get_or ns 3 0) (get_or ns 4 0) (get_or ns 5 0)) f =
    λ f q. rw q at (only (get_or ns 0 0) (get_or ns 1 0) (get_or ns 2 0) (get_or ns 3 0) (get_or ns 4 0) (get_or ns 5 0)) in
    sym (told (Some e) k) ∙ sym (first-listed ns 6 h)
