-- The bytes from the place on are read, or none where the place is past their end.
use mathlib.Core.Path.{refl, ap, ◌∙◌}
use denote.Ref.{Bor}
use mathlib.Core.List.{List}
use Rattle.std.proofs.Common.{ℕ}
use Rattle.journal.proofs.Places.{rest_is, read_there}
use Rattle.journal.proofs.event_at.Goals as goal

pub returns : goal.returns
returns c =
    let rest = ap (λ (x : Bor (List ℕ)). x.now) c.unwrap_or.ensures ∙ rest_is _ _ c.get.result _ refl c.get.ensures.lookup in
    read_there _ _ _ _ rest c.read_event.ensures
