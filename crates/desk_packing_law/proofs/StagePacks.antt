-- What the code packs and unpacks is what the definitions say, for runs of the program.
use Prim.Native.Nat.{ℕ, ◌-◌, ◌≤◌, ◌<◌}
use native.Mathlib.Omega.{arith}
use native.Mathlib.Nat.{le_of_eq}
use mathlib.Core.Path.{◌≡◌, ap, ◌∙◌}
use mathlib.Core.Bool.{Bool, true, false, not, ◌&&◌}
use mathlib.Core.List.{List, [], ◌∷◌, ◌++◌, append-nil}
use borrow.Author.Tests.{not-true, not-false}
use borrow.Rule.Slice.PartMut.{put_mid}
use lib.Dec.{leb}
use lib.ListN.{length, get_or, take, drop, set, length-drop, drop_of_length-le}
use lib.Seq.{take_all}
use Rattle.terms.specs.Truth.{◌⊓◌}
use Rattle.tables.specs.Put.{put}
use Rattle.state_law.specs.declared.Session.{Session}
use Rattle.state_law.specs.Opening.{fixed_session}
use Rattle.feed_law.specs.declared.Run.{Run}
use Rattle.feed_law.specs.declared.Stage.{Stage}
use Rattle.desk_packing_law.specs.Sessions.{session_numbers, is_session, session_from}
use Rattle.desk_packing_law.specs.Stages.{stage_number, run_numbers, is_run, stage_from, run_from}

-- all of a slice behind its first number
behind : (ns : List ℕ) → take (length ns - 1) (drop 1 ns) ≡ drop 1 ns
behind ns = take_all (length ns - 1) (drop 1 ns) (le_of_eq (length-drop 1 ns))

pub run_tested : (ns : List ℕ) (found : Bool) → found ≡ is_session (take (length ns - 1) (drop 1 ns)) → (leb (get_or ns 0 0) 2 && found) ≡ is_run ns
unfolding is_run ◌⊓◌
run_tested ns found e = rw (e, behind ns)

-- `found` is the outcome of the code's test whether the numbers are a run's
module _ (ns : List ℕ) (found : Bool) (h : found ≡ is_run ns) (session : Session) where
  pub no_run : not found ≡ true → session ≡ fixed_session → record { stage = Stage.Over; session = session } ≡ run_from ns
  unfolding run_from
  no_run t e = rw (← h, not-true found t, e)

  pub a_run : (stage : Stage) → not found ≡ false → stage ≡ stage_from (get_or ns 0 0) → session ≡ session_from (take (length ns - 1) (drop 1 ns)) →
      record { stage = stage; session = session } ≡ run_from ns
  unfolding run_from
  a_run stage t e f = rw (← h, not-false found t, e, f, behind ns)

-- writing numbers behind the first place, and then the first one, is writing all of them to the front
pub laid-behind : (ns rest part' : List ℕ) (first : ℕ) → length rest < length ns → part' ≡ put (take (length ns - 1) (drop 1 ns)) 0 rest →
    set (put_mid 1 (length ns - 1) ns part') 0 first ≡ put ns 0 (first ∷ rest)
unfolding put
laid-behind [] rest part' first h e = absurd (omega arith)
laid-behind (n ∷ ns) rest part' first h e =
    let m : length ns ≤ length (n ∷ ns) - 1 = omega arith in
    let b : drop (length (n ∷ ns) - 1) ns ≡ [] = drop_of_length-le ns m in
    let g : part' ≡ put ns 0 rest = e ∙ ap (λ (l : List ℕ). put l 0 rest) (behind (n ∷ ns)) in
    ap (λ (l : List ℕ). first ∷ (part' ++ l)) b ∙ ap (λ (l : List ℕ). first ∷ l) (append-nil part' ∙ g)

pub run-laid : (run : Run) (first : ℕ) (ns ns' numbers : List ℕ) → first ≡ stage_number run.stage → numbers ≡ session_numbers run.session →
    ns' ≡ put ns 0 (first ∷ numbers) → ns' ≡ put ns 0 (run_numbers run)
unfolding run_numbers
run-laid run first ns ns' numbers e f l = l ∙ rw (e, f)
