-- Row 10 may be judged by the live counts, since a table holds as many orders as they say.
use mathlib.Core.Path.{◌≡◌, sym, ap, ◌∙◌}
use Prim.Native.Nat.{ℕ}
use mathlib.Core.Bool.{Bool}
use mathlib.Core.List.{List}
use lib.ListN.{length}
use Rattle.terms.specs.declared.Side.{Side}
use Rattle.terms.specs.declared.Side.TheVariants.{Buy, Sell}
use Rattle.terms.specs.declared.Act.{Act}
use Rattle.terms.specs.declared.parts.Parts.{Parts}
use Rattle.terms.specs.Sizes.{sizes}
use Rattle.tables.proofs.Slots.{length-decode}
use Rattle.state_law.specs.declared.Session.{Session}
use Rattle.state_law.specs.Day.{own}
use Rattle.soundness_law.specs.Sound.{day_in}
use Rattle.terms.specs.Options.{of_any}
use Rattle.terms.specs.Carried.{carries}
use Rattle.refusal_law.specs.Refusals.{life_has_place, has_place}
use Rattle.refusal_law.specs.code.Tabled.{live_on, place_on}
use Rattle.refusal_law.proofs.Carried.{any_same}

live_is : (side : Side) (s : Session) (buys sells : List ℕ) → live_on side s ≡ length (own side (day_in s buys sells))
live_is Buy s buys sells = sym (length-decode s.live.buys buys)
live_is Sell s buys sells = sym (length-decode s.live.sells sells)

place_same : (s : Session) (buys sells : List ℕ) (act : Act) → of_any (place_on s) (carries act).entry ≡ has_place sizes (day_in s buys sells) act
unfolding has_place
place_same s buys sells act = any_same _ _ (λ n. ap (life_has_place sizes n.life) (live_is n.side s buys sells)) (carries act).entry

pub place-row : (p : Parts) (act : Act) (found : Bool) → p ≡ carries act → (s : Session) (buys sells : List ℕ) →
    found ≡ of_any (place_on s) p.entry → found ≡ has_place sizes (day_in s buys sells) act
place-row p act found h s buys sells f = f ∙ ap (λ (c : Parts). of_any (place_on s) c.entry) h ∙ place_same s buys sells act
