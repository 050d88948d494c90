-- A remainder is settled as the definition says, in each of the four cases.
use Prim.Native.Nat.{ℕ, ◌+◌, ◌<◌}
use native.Mathlib.Omega.{arith}
use mathlib.Core.Path.{◌≡◌, sym}
use mathlib.Core.List.{List, [], ◌∷◌}
use Rattle.terms.specs.declared.Order.{Order}
use Rattle.terms.specs.declared.Side.{Side}
use Rattle.terms.specs.declared.Why.{Why}
use Rattle.terms.specs.declared.Said.TheVariants.{Convert}
use Rattle.terms.specs.Sizes.{slots}
use Rattle.tables.specs.Tables.{decode, table_of}
use Rattle.tables.proofs.Slots.{length-decode}
use Rattle.book_law.specs.declared.Fate.{Fate}
use Rattle.book_law.specs.declared.Fate.TheVariants.{Done, Rests, Turns, Ends}
use Rattle.book_law.specs.Priority.{insert}
use Rattle.book_law.specs.Matching.{report_at}
use Rattle.book_law.proofs.Over.{length-insert}
use Rattle.acts_law.specs.Acts.{ended}
use Rattle.acts_law.specs.code.Written.{Written, RestedAs, Settling, Settled}
use Rattle.acts_law.proofs.Reports.{written_none}

pub rested : {side : Side} {o : Order} {n : ℕ} {t t' : List ℕ} → t' ≡ table_of (insert side o (decode n t)) t → RestedAs side o n t t' (n + 1)
rested {side} {o} {n} {t} e = record { book = e; counted = omega (arith, length-insert side o (decode n t), length-decode n t) }

module _ {n at : ℕ} {t room : List ℕ} {fate : Fate} where
  -- there is a place for a remainder that rests, at its own limit or at the one that it turns into
  pub rest-asks : {price : ℕ} → Settling n t room at fate → fate ≡ Rests price → n < slots
  rest-asks g e = g.place (rw e)

  pub turn_asks : {price : ℕ} → Settling n t room at fate → fate ≡ Turns price → n < slots
  turn_asks g e = g.place (rw e)

  module _ {side : Side} {time number left : ℕ} where
    pub left-none : Settling n t room at fate → fate ≡ Done →
        Settled side time number left fate (decode n t) t room at t room (record { count = n; at = at })
    left-none g e = rw e (record { book = g.holds.shape; count = sym (length-decode n t); told = written_none room at })

    pub left-rests : {price count : ℕ} {o : Order} {t' : List ℕ} → fate ≡ Rests price → o ≡ record { number = number; price = price; lots = left } →
        RestedAs side o n t t' count → Settled side time number left fate (decode n t) t room at t' room (record { count = count; at = at })
    left-rests e h r = let q = rw h at r in rw e (record { book = q.book; count = q.counted; told = written_none room at })

    pub left_turns : {price count next : ℕ} {o : Order} {t' room' : List ℕ} → fate ≡ Turns price → o ≡ record { number = number; price = price; lots = left } →
        RestedAs side o n t t' count → Written room at (report_at time (Convert o) ∷ []) room' next →
        Settled side time number left fate (decode n t) t room at t' room' (record { count = count; at = next })
    left_turns e h r w = let q = rw h at r in rw e (record { book = q.book; count = q.counted; told = rw h at w })

    pub left-ends : {why : Why} {next : ℕ} {room' : List ℕ} → Settling n t room at fate → fate ≡ Ends why →
        Written room at (ended time number left why ∷ []) room' next →
        Settled side time number left fate (decode n t) t room at t room' (record { count = n; at = next })
    left-ends g e w = rw e (record { book = g.holds.shape; count = sym (length-decode n t); told = w })
