-- The pass over a side, as the code makes it: each order is sound, its key is above the last one, and the low bits of its number are not marked.
use Rattle.std.specs.Prelude.{ℕ, ◌+◌, ◌-◌, ◌*◌, ◌≤◌, ◌<◌, Bool, true, ◌&&◌, ◌||◌, not, cond, List, [], ◌∷◌, ◌++◌, leb, ltb}
use Rattle.std.specs.Int.Bits.{bit_and}
use Rattle.terms.specs.declared.Side.{Side}
use Rattle.terms.specs.declared.Side.TheVariants.{Buy, Sell}
use Rattle.terms.specs.declared.Order.{Order}
use Rattle.terms.specs.declared.Band.{Band}
use Rattle.terms.specs.Sizes.{numbers_most}
use Rattle.terms.specs.code.Ticks.{scale, factor_of, Dividing}
use Rattle.book_law.specs.Priority.{sorted}
use Rattle.book_sound_law.specs.declared.Limits.{Limits}
use Rattle.book_sound_law.specs.Sound.{order_sound, each_sound, distinct}
use Rattle.book_sound_law.specs.code.Marks.{has_mark, with_mark, apart}

-- ---- what a pass is given

abbrev pub limits_of : ℕ → ℕ → Band → Limits
limits_of given tick b = record { given = given; tick = tick; factor = factor_of tick; low = b.low; high = b.high }

pub record LimitsFit (l : Limits) : Type 0 where
  pub given_small : l.given ≤ numbers_most
  pub dividing : Dividing l.tick l.factor
  pub high_small : l.high < scale

abbrev pub band_of : Limits → Band
band_of l = record { low = l.low; high = l.high }

-- ---- the pass

abbrev pub fine : Limits → Order → Bool
fine l o = order_sound l.given l.tick (band_of l) o

-- what the key of an order needs: a number that was given, and a price in the band
pub record Keyed (l : Limits) (o : Order) : Type 0 where
  pub number_some : 1 ≤ o.number
  pub number_given : o.number ≤ l.given
  pub above : l.low ≤ o.price
  pub below : o.price ≤ l.high

-- every order number is below it
abbrev pub key_step : ℕ
key_step = 65536

-- the priority of a fine order as one number: the lower it is, the better
abbrev pub key_of : Side → Limits → Order → ℕ
key_of Buy l o = (l.high - o.price) * key_step + o.number
key_of Sell l o = (o.price - l.low) * key_step + o.number

-- the low bits of each order's number
unfoldable pub low_bits : ℕ → List Order → List ℕ
low_bits mask [] = []
low_bits mask (o ∷ os) = bit_and o.number mask ∷ low_bits mask os

unfoldable pub pass_of : Side → Limits → ℕ → ℕ → List ℕ → List Order → Bool
pass_of s l mask key m [] = true
pass_of s l mask key m (o ∷ os) =
    fine l o
    && (ltb key (key_of s l o)
    && (not (has_mark m (bit_and o.number mask))
    && pass_of s l mask (key_of s l o) (with_mark m (bit_and o.number mask)) os))

-- ---- both sides

-- every order is sound and goes ahead of the next
abbrev pub side_sound : Side → Limits → List Order → Bool
side_sound s l os = each_sound l.given l.tick (band_of l) os && sorted s os

unfoldable pub sides_sound : Limits → List Order → List Order → Bool
sides_sound l buys sells = side_sound Buy l buys && (side_sound Sell l sells && distinct (buys ++ sells))

-- the same, but that only the low bits of the numbers have to be distinct
unfoldable pub sides_by : ℕ → Limits → List Order → List Order → Bool
sides_by mask l buys sells = side_sound Buy l buys && (side_sound Sell l sells && apart (low_bits mask buys ++ low_bits mask sells))

-- the least mask that serves: it covers every number given, or so few orders are live that equal low bits are rare
abbrev pub least_mask : ℕ → ℕ → ℕ
least_mask given live =
    cond (leb given 1023 || leb live 16) 1023 (cond (leb given 4095 || leb live 48) 4095 (cond (leb given 16383) 16383 65535))
