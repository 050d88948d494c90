-- A cancel and the close are what the definitions say, given what their calls leave.
use Prim.Native.Nat.{ℕ, ◌+◌, ◌-◌, ◌*◌, ◌≤◌}
use native.Mathlib.Omega.{arith}
use mathlib.Core.Path.{◌≡◌, sym}
use mathlib.Core.Bool.{Bool, true, false}
use mathlib.Core.List.{List, [], ◌∷◌, ◌++◌}
use lib.ListN.{length}
use Rattle.terms.specs.declared.Closing.{Closing}
use Rattle.terms.specs.declared.Order.{Order}
use Rattle.terms.specs.declared.Said.TheVariants.{Close}
use Rattle.terms.specs.declared.Why.TheVariants.{Asked, DayEnd}
use Rattle.tables.specs.Lengths.{record_length}
use Rattle.rules_law.specs.Close.{closing_of}
use Rattle.tables.specs.Tables.{decode, table_of, Holds}
use Rattle.tables.proofs.Slots.{length-decode}
use Rattle.book_law.specs.Priority.{rests, removed, left_of}
use Rattle.book_law.specs.Matching.{report_at}
use Rattle.book_law.proofs.Over.{length_removed}
use Rattle.state_law.specs.declared.Session.{Session}
use Rattle.acts_law.specs.Acts.{ended, cancel_reports, close_report, finished}
use Rattle.acts_law.specs.code.Written.{Written, RestsIn, WithdrawnAs, Finishing, ClosedAs}
use Rattle.acts_law.proofs.Reports.{written-length, written_then, length_cancels}

-- ---- a cancel

-- an order that rests is one of the n orders of its side, and one order fewer is left there
some : (number n : ℕ) (t : List ℕ) → rests number (decode n t) ≡ true → 1 ≤ n
some number n t e = omega (arith, length_removed number (decode n t) e, length-decode n t)

left : (number n : ℕ) (t : List ℕ) → rests number (decode n t) ≡ true → n - 1 ≡ length (removed number (decode n t))
left number n t e = omega (arith, length_removed number (decode n t) e, length-decode n t)

-- the side on which it rests, from what `is_resting` answered for the buys
here : (found : Bool) (number : ℕ) (buys : List Order) → found ≡ rests number buys → found ≡ true → rests number buys ≡ true
here found number buys e f = rw f at (sym e)

elsewhere : (found : Bool) (number : ℕ) (buys sells : List Order) → found ≡ rests number buys → found ≡ false → RestsIn number buys sells →
    rests number sells ≡ true
elsewhere found number buys sells e f h = rw (← e, f) at h.somewhere

pub some-buys : (found : Bool) (number n : ℕ) (t : List ℕ) → found ≡ rests number (decode n t) → found ≡ true → 1 ≤ n
some-buys found number n t e f = some number n t (here found number (decode n t) e f)

pub some-sells : (found : Bool) (number : ℕ) (buys : List Order) (n : ℕ) (t : List ℕ) → found ≡ rests number buys → found ≡ false →
    RestsIn number buys (decode n t) → 1 ≤ n
some-sells found number buys n t e f h = some number n t (elsewhere found number buys (decode n t) e f h)

module _ (number time : ℕ) (tb : List ℕ) (nb : ℕ) (ts : List ℕ) (ns : ℕ) (hb : Holds nb tb) (hs : Holds ns ts) (room : List ℕ) (at : ℕ)
    (found : Bool) (e : found ≡ rests number (decode nb tb)) (lots : ℕ) (room₁ : List ℕ) (next : ℕ)
    (w : Written room at (ended time number lots Asked ∷ []) room₁ next) where
  pub from_buys : found ≡ true → lots ≡ left_of number (decode nb tb) → (tb₁ : List ℕ) → tb₁ ≡ table_of (removed number (decode nb tb)) tb →
      WithdrawnAs number time (decode nb tb) (decode ns ts) tb ts room at tb₁ ts room₁ (record { buys = nb - 1; sells = ns; at = next })
  from_buys f l tb₁ u =
      let r : rests number (decode nb tb) ≡ true = here found number (decode nb tb) e f in
      record {
        bought = rw r u;
        sold = rw r hs.shape;
        nbuys = rw r (left number nb tb r);
        nsells = rw r (sym (length-decode ns ts));
        told = rw r (rw l at w);
      }

  pub from_sells : found ≡ false → RestsIn number (decode nb tb) (decode ns ts) → lots ≡ left_of number (decode ns ts) → (ts₁ : List ℕ) →
      ts₁ ≡ table_of (removed number (decode ns ts)) ts →
      WithdrawnAs number time (decode nb tb) (decode ns ts) tb ts room at tb ts₁ room₁ (record { buys = nb; sells = ns - 1; at = next })
  from_sells f h l ts₁ u =
      let r : rests number (decode nb tb) ≡ false = rw f at (sym e) in
      record {
        bought = rw r hb.shape;
        sold = rw r u;
        nbuys = rw r (sym (length-decode nb tb));
        nsells = rw r (left number ns ts (elsewhere found number (decode nb tb) (decode ns ts) e f h));
        told = rw r (rw l at w);
      }

-- ---- the close

-- the cancels of a side take a record for each of its orders
behind-all : (room : List ℕ) (at time n : ℕ) (t room₁ : List ℕ) (next : ℕ) → Written room at (cancel_reports DayEnd time (decode n t)) room₁ next →
    next ≡ at + record_length * n
behind-all room at time n t room₁ next w = omega (arith, w.behind, length_cancels DayEnd time (decode n t), length-decode n t)

module _ {s : Session} (time : ℕ) {tb ts room : List ℕ} (g : Finishing s tb ts room) {room₁ : List ℕ} {bought : ℕ}
    (w : Written room 0 (cancel_reports DayEnd time (decode s.live.buys tb)) room₁ bought) where
  fits-buys : 0 + record_length * length (cancel_reports DayEnd time (decode s.live.buys tb)) ≤ length room
  fits-buys = omega (arith, g.room_long, g.steady.clocked.buys_few, length_cancels DayEnd time (decode s.live.buys tb), length-decode s.live.buys tb)

  length-bought : length room₁ ≡ length room
  length-bought = written-length room 0 (cancel_reports DayEnd time (decode s.live.buys tb)) room₁ bought w fits-buys

  -- there is room for the cancels of the sells behind those of the buys,
  pub sells_fit : bought + record_length * s.live.sells ≤ length room₁
  sells_fit =
      omega (arith, g.room_long, g.steady.clocked.buys_few, g.steady.clocked.sells_few, behind-all room 0 time s.live.buys tb room₁ bought w, length-bought)

  module _ {room₂ : List ℕ} {sold : ℕ} (v : Written room₁ bought (cancel_reports DayEnd time (decode s.live.sells ts)) room₂ sold) where
    fits-sells : bought + record_length * length (cancel_reports DayEnd time (decode s.live.sells ts)) ≤ length room₁
    fits-sells = omega (arith, sells_fit, length_cancels DayEnd time (decode s.live.sells ts), length-decode s.live.sells ts)

    length-sold : length room₂ ≡ length room₁
    length-sold = written-length room₁ bought (cancel_reports DayEnd time (decode s.live.sells ts)) room₂ sold v fits-sells

    -- and for the close report behind both
    pub close_fits : sold + record_length ≤ length room₂
    close_fits =
        omega (arith, g.room_long, g.steady.clocked.buys_few, g.steady.clocked.sells_few, behind-all room 0 time s.live.buys tb room₁ bought w, behind-all room₁ bought time s.live.sells ts room₂ sold v, length-bought, length-sold)

    pub all_told : (settle : ℕ) {closing : Closing} {room₃ : List ℕ} {next : ℕ} →
        closing ≡ closing_of s.settings.tick s.settings.close s.tape settle → Written room₂ sold (report_at time (Close closing) ∷ []) room₃ next →
        Written room 0 (finished s time settle (decode s.live.buys tb) (decode s.live.sells ts)).reports room₃ next
    unfolding finished
    all_told settle {closing} {room₃} {next} d z =
        let buys = cancel_reports DayEnd time (decode s.live.buys tb) in
        let sells = cancel_reports DayEnd time (decode s.live.sells ts) in
        let last = close_report s time settle ∷ [] in
        written_then room 0 buys room₁ bought (sells ++ last) room₃ next w
        (written_then room₁ bought sells room₂ sold last room₃ next v (rw d at z) fits-sells)
        fits-buys

-- where both tables are left without orders, the close is done
pub all_finished : {s : Session} {time settle : ℕ} {buys sells : List Order} {tb ts room tb₁ ts₁ room₁ : List ℕ} {next : ℕ} →
    Written room 0 (finished s time settle buys sells).reports room₁ next → tb₁ ≡ table_of (decode 0 tb) tb → ts₁ ≡ table_of (decode 0 ts) ts →
    ClosedAs s time settle buys sells tb ts room tb₁ ts₁ room₁ next
unfolding decode
all_finished w e f = record { bought = e; sold = f; told = w }
