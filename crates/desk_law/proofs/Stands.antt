-- Each return of `kakoludar_standing` leaves what the definition says.
use Prim.Native.Nat.{ℕ, ◌≤◌, ◌<◌}
use mathlib.Core.Path.{◌≡◌}
use mathlib.Core.List.{List, [], ◌∷◌}
use borrow.Author.Tests.{lt-ltb, le-ltb}
use lib.ListN.{length}
use Rattle.std.specs.Prelude.{Ok, Err}
use Rattle.terms.specs.declared.Refusal.{Refusal}
use Rattle.terms.specs.declared.Refusal.TheVariants.{SmallRoom}
use Rattle.tables.specs.Put.{put}
use Rattle.state_law.specs.declared.Session.{Session}
use Rattle.engine_law.specs.declared.Standing.{Standing}
use Rattle.engine_law.specs.declared.Stood.{Stood}
use Rattle.engine_law.specs.Standings.{standing_call}
use Rattle.desk_packing_law.specs.Runs.{session_length}
use Rattle.desk_packing_law.specs.Sessions.{flag, session_from}
use Rattle.desk_packing_law.specs.Answers.{answer_of}
use Rattle.desk_law.specs.Standings.{standing_length, standing_numbers, stood_on, LaidStood, StandingOn}

-- ---- the numbers of a standing, with the code's flag for the cooling-off

pub standing_packed : (st : Standing) (n : ℕ) → n ≡ flag st.cooling →
    st.percent ∷ st.band.low ∷ st.band.high ∷ st.range.low ∷ st.range.high ∷ st.reference ∷ n ∷ st.ends ∷ st.price ∷ st.lots ∷ st.buys ∷ st.sells ∷ st.given ∷ st.trades ∷ []
    ≡ standing_numbers st
unfolding standing_numbers
standing_packed st n e = rw e

-- ---- by the verdict

pub stood-not : {a : Stood} {standing : List ℕ} {r : ℕ} {v : Refusal} → a.verdict ≡ Err v → r ≡ answer_of (Err v) 0 → LaidStood a standing standing r
stood-not e k = record { answer = rw e k; laid = rw e }

pub stood-laid : {a : Stood} {standing standing' ns : List ℕ} {r : ℕ} → a.verdict ≡ Ok tt → ns ≡ standing_numbers a.standing →
    standing' ≡ put standing 0 ns → r ≡ answer_of (Ok tt) 0 → LaidStood a standing standing' r
stood-laid e n l k = record { answer = rw e k; laid = rw (e, ← n) l }

-- ---- two slices that may be too short, and then the engine's call

module _ {run buys sells standing : List ℕ} {r : ℕ} where
  pub stand_no-session : length run < session_length → r ≡ answer_of (Err SmallRoom) 0 → StandingOn run buys sells standing standing r
  unfolding stood_on
  stand_no-session h e = let s = lt-ltb (length run) session_length h in record { stood = record { answer = rw s e; laid = rw s } }

  module _ (h : session_length ≤ length run) where
    pub stand_no-standing : length standing < standing_length → r ≡ answer_of (Err SmallRoom) 0 → StandingOn run buys sells standing standing r
    unfolding stood_on
    stand_no-standing k e =
        let s = le-ltb (length run) session_length h in
        let t = lt-ltb (length standing) standing_length k in
        record { stood = record { answer = rw (s, t) e; laid = rw (s, t) } }

    pub stand_done : {s : Session} {a : Stood} {standing' : List ℕ} → standing_length ≤ length standing → s ≡ session_from run →
        a ≡ standing_call s buys sells → LaidStood a standing standing' r → StandingOn run buys sells standing standing' r
    unfolding stood_on
    stand_done k i e l =
        record { stood = rw (le-ltb (length run) session_length h, le-ltb (length standing) standing_length k, ← i, ← e) l }
