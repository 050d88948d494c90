-- What a report tells, listed once: whatever is computed from reports is computed from these parts.
use Rattle.std.specs.Prelude.{ℕ, Option, Some, None}
use Rattle.terms.specs.declared.Band.{Band}
use Rattle.terms.specs.declared.Deal.{Deal}
use Rattle.terms.specs.declared.Ended.{Ended}
use Rattle.terms.specs.declared.Said.{Said}
use Rattle.terms.specs.declared.Said.TheVariants.{Accept, Trade, Convert, Cancel, Slab, Ref, Close}

pub record Telling : Type 0 where
  -- the number of an order that is accepted
  pub accepted : Option ℕ
  pub deal : Option Deal
  pub ended : Option Ended
  -- the band that is in force from here on
  pub band : Option Band
  -- the reference that is in force from here on
  pub reference : Option ℕ

abbrev pub tells : Said → Telling
tells (Accept number) = record { accepted = Some number; deal = None; ended = None; band = None; reference = None }
tells (Trade deal) = record { accepted = None; deal = Some deal; ended = None; band = None; reference = None }
tells (Convert order) = record { accepted = None; deal = None; ended = None; band = None; reference = None }
tells (Cancel ended) = record { accepted = None; deal = None; ended = Some ended; band = None; reference = None }
tells (Slab band) = record { accepted = None; deal = None; ended = None; band = Some band; reference = None }
tells (Ref price) = record { accepted = None; deal = None; ended = None; band = None; reference = Some price }
tells (Close closing) = record { accepted = None; deal = None; ended = None; band = None; reference = None }
