-- Document 02, item 4: "The app saves each accepted event as its line, after the settings line": what a run of the program saves of its
-- input, and where it stands after its lines.
use Rattle.std.specs.Prelude.{ℕ, zero, suc, cond, List, [], drop, eqb}
use Rattle.feed_law.specs.declared.Stage.{Stage}
use Rattle.feed_law.specs.Worlds.{World}
use Rattle.feed_law.specs.Turns.{Turn, turn_of, Says, said_in}

-- all that is saved; the end of the input saves nothing
abbrev pub saving : Says ℕ
saving = record { line = λ saved text. saved; end = λ stage n. [] }

module _ {W : Type 0} (on : World W) where
  -- all that is saved of the bytes that are left, where these hold at most n lines
  abbrev pub saved_in : ℕ → Stage → W → List ℕ → List ℕ
  saved_in n stage w bytes = said_in on saving n stage w bytes

  -- the state after these lines
  unfoldable pub state_in : ℕ → Stage → W → List ℕ → W
  state_in zero stage w bytes = w
  state_in (suc n) stage w bytes =
      let t : Turn W = turn_of on stage w bytes in
      cond (eqb t.used 0) t.world (state_in n t.stage t.world (drop t.used bytes))
