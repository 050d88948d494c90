-- Two runs of events, one after the other, are one run.
use mathlib.Core.Path.{◌≡◌, refl, sym, ap, ◌∙◌}
use mathlib.Core.List.{List, [], ◌∷◌, ◌++◌, append_assoc}
use Rattle.terms.specs.declared.Event.{Event}
use Rattle.terms.specs.declared.Report.{Report}
use Rattle.state_law.specs.Day.{Day}
use Rattle.engine_law.specs.Outcome.{outcome, after, told}

pub after-append : (d : Day) (es more : List Event) → after d (es ++ more) ≡ after (after d es) more
unfolding after
after-append d [] more = refl
after-append d (e ∷ es) more = after-append (outcome d e).day es more

pub told-append : (d : Day) (es more : List Event) → told d (es ++ more) ≡ told d es ++ told (after d es) more
unfolding after told
told-append d [] more = refl
told-append d (e ∷ es) more =
    ap (λ (l : List Report). (outcome d e).reports ++ l) (told-append (outcome d e).day es more)
    ∙ sym (append_assoc (outcome d e).reports (told (outcome d e).day es) (told (after (outcome d e).day es) more))
