-- WHERE A SESSION STANDS, for an app that keeps it as numbers: what the call answers, and what it leaves in the slice for the standing.
use Rattle.std.specs.Prelude.{ℕ, ◌≡◌, List, [], ◌∷◌, Ok, Err}
use Rattle.terms.specs.declared.Refusal.TheVariants.{SmallRoom}
use Rattle.terms.specs.Refusals.{Verdict}
use Rattle.tables.specs.Put.{put}
use Rattle.engine_law.specs.declared.Standing.{Standing}
use Rattle.engine_law.specs.declared.Stood.{Stood}
use Rattle.engine_law.specs.Standings.{no_standing, standing_call}
use Rattle.desk_packing_law.specs.Runs.{session_length}
use Rattle.desk_packing_law.specs.Sessions.{flag, session_from}
use Rattle.desk_packing_law.specs.Answers.{answer_of}
use Rattle.desk_law.specs.Calls.{where_long}

abbrev pub standing_length : ℕ
standing_length = 14

-- the percent in force, the band, the range, the reference, whether a cooling-off runs (0 or 1) and when it ends, the last trade's price and
-- lots, live buys and sells, orders given, trades
unfoldable pub standing_numbers : Standing → List ℕ
standing_numbers st =
    st.percent
    ∷ st.band.low
    ∷ st.band.high
    ∷ st.range.low
    ∷ st.range.high
    ∷ st.reference
    ∷ flag st.cooling
    ∷ st.ends
    ∷ st.price
    ∷ st.lots
    ∷ st.buys
    ∷ st.sells
    ∷ st.given
    ∷ st.trades
    ∷ []

-- what the call comes to on the session that the numbers stand for; a slice that is too short is answered as a short table
unfoldable pub stood_on : List ℕ → List ℕ → List ℕ → List ℕ → Stood
stood_on run buys sells standing =
    where_long run session_length standing standing_length
    (standing_call (session_from run) buys sells)
    (record { verdict = Err SmallRoom; standing = no_standing })

-- the slice for the standing afterwards: its numbers are written to the front; a refusal writes nothing
abbrev pub standing_by : Verdict → Standing → List ℕ → List ℕ
standing_by (Ok _) st run = put run 0 (standing_numbers st)
standing_by (Err r) st run = run

-- the answer, and that slice afterwards, given what the call comes to
pub record LaidStood (a : Stood) (standing standing' : List ℕ) (r : ℕ) : Type 0 where
  pub answer : r ≡ answer_of a.verdict 0
  pub laid : standing' ≡ standing_by a.verdict a.standing standing

-- THE CONTRACT of `kakoludar_standing`
pub record StandingOn (run buys sells standing standing' : List ℕ) (r : ℕ) : Type 0 where
  pub stood : LaidStood (stood_on run buys sells standing) standing standing' r
