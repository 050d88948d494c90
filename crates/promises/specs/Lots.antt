-- EVERY LOT IS ACCOUNTED FOR. For every order accepted in a run, the lots asked for are those that the reports handed out so far say were
-- traded under its number, and those cancelled under it, and those still resting.
use Rattle.std.specs.Prelude.{ℕ, ◌+◌, ◌≡◌, List, [], ◌∷◌, ◌++◌, Ok}
use Rattle.terms.specs.declared.Settings.{Settings}
use Rattle.terms.specs.declared.Entry.{Entry}
use Rattle.terms.specs.declared.Event.{Event}
use Rattle.terms.specs.declared.Act.TheVariants.{Enter}
use Rattle.book_law.specs.Told.{traded, cancelled}
use Rattle.state_law.specs.Day.{Day, opened}
use Rattle.acts_law.specs.Asked.{asked_by, resting}
use Rattle.engine_law.specs.Outcome.{outcome, after, told}

-- the lots asked for under number id, in a run from day d on
unfoldable pub asked : ℕ → Day → List Event → ℕ
asked id d [] = 0
asked id d (e ∷ es) = asked_by id e.act (outcome d e).reports + asked id (outcome d e).day es

-- in any run from an opening, for every order number
abbrev pub LotsKept : Type 0
LotsKept =
    (g : Settings) (es : List Event) (id : ℕ) →
    asked id (opened g) es ≡ traded id (told (opened g) es) + cancelled id (told (opened g) es) + resting id (after (opened g) es)

-- the same for one order: n came in after the events `before` and was accepted, so it has the next number; any events may follow
abbrev pub OrderKept : Type 0
OrderKept =
    (g : Settings) (before later : List Event) (t : ℕ) (n : Entry) →
    let e : Event = record { time = t; act = Enter n } in
    let id : ℕ = (after (opened g) before).session.live.given + 1 in
    let es : List Event = before ++ (e ∷ later) in
    (outcome (after (opened g) before) e).verdict ≡ Ok tt →
    n.lots ≡ traded id (told (opened g) es) + cancelled id (told (opened g) es) + resting id (after (opened g) es)
