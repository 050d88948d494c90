-- The arrays of a session hold ten numbers after every accepted event.
use Prim.Native.Nat.{◌+◌}
use mathlib.Core.List.{List}
use Rattle.terms.specs.declared.Act.{Act}
use Rattle.terms.specs.declared.Event.{Event}
use Rattle.terms.specs.declared.Order.{Order}
use Rattle.terms.specs.declared.Side.{Side}
use Rattle.terms.specs.declared.Side.TheVariants.{Buy, Sell}
use Rattle.state_law.specs.declared.Session.{Session}
use Rattle.state_law.specs.Set.{set_given}
use Rattle.state_law.specs.Clock.{clock_step}
use Rattle.state_law.specs.Day.{Day, day_with}
use Rattle.state_law.specs.code.Tens.{Ten}
use Rattle.state_law.proofs.Tens.{trades_ten}
use Rattle.acts_law.specs.Acts.{Acted, entered, dropped, side_of, finished, stepped, timed, does, act}
use Rattle.acts_law.proofs.Does.{sets_alike, does_by, begun_by}

with_ten : (side : Side) (s : Session) (mine theirs : List Order) → Ten s → Ten (day_with side s mine theirs).session
with_ten Buy s mine theirs t = record { prices = t.prices; sizes = t.sizes }
with_ten Sell s mine theirs t = record { prices = t.prices; sizes = t.sizes }

does_ten : (d : Day) (a : Act) → Ten d.session → Ten (does d a).day.session
unfolding entered dropped finished
does_ten d a t =
    let s : Session = d.session in
    does_by (λ (x : Acted). Ten x.day.session) d a
    (λ n e. with_ten n.side _ _ _ (trades_ten (set_given s (s.live.given + 1)) _ (record { prices = t.prices; sizes = t.sizes })))
    (λ number e. with_ten (side_of number d.buys) s _ _ t)
    (λ s' q. let same = (sets_alike q).tape in record { prices = rw same t.prices; sizes = rw same t.sizes })
    (λ settle e. record { prices = t.prices; sizes = t.sizes })

pub act_ten : (d : Day) (e : Event) → Ten d.session → Ten (act d e).day.session
unfolding clock_step
act_ten d e t =
    begun_by (λ (x : Acted). Ten x.day.session) d e
    (λ h. does_ten (timed d e.time).day e.act (record { prices = t.prices; sizes = t.sizes }))
    (λ h. does_ten (stepped d e.time).day e.act (record { prices = t.prices; sizes = t.sizes }))
