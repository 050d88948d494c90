-- What is said of all lines, turn by turn: whatever it is that a line says.
use Prim.Native.Nat.{ℕ, zero, suc, ◌≤◌}
use native.Mathlib.Omega.{arith}
use mathlib.Core.Path.{◌≡◌, refl, sym, ap, ◌∙◌, subst}
use mathlib.Core.Bool.{cond}
use mathlib.Core.List.{List, [], ◌∷◌, ◌++◌}
use lib.ListN.{length, take, drop, length-drop}
use lib.Seq.{take-append-le, drop-append-le}
use lib.Dec.{eqb}
use borrow.Author.Tests.{eqb-false, ne_eqb}
use Rattle.terms.proofs.Logic.{cases}
use Rattle.feed_law.specs.declared.Stage.{Stage}
use Rattle.feed_law.specs.Worlds.{World}
use Rattle.feed_law.specs.Turns.{Turn, waits, ends, turn_of, Says, printing, said_in, said_from}
use Rattle.feed_law.proofs.First.{Sort, waiting, ending, going, sort, turn_none, turn_saves}

-- nothing is said where nothing is saved or printed, nor at the end of a run that is over
pub record Quiet {A : Type 0} (says : Says A) : Type 0 where
  pub line : says.line [] [] ≡ []
  pub end : (n : ℕ) → says.end Stage.Over n ≡ []

pub printing-quiet : Quiet printing
printing-quiet = record { line = refl; end = λ n. refl }

module _ {W : Type 0} (on : World W) {A : Type 0} (says : Says A) (quiet : Quiet says) where
  abbrev after : Turn W → List ℕ → List A → List A
  after t s rest = says.line (take t.saves s) t.text ++ cond (eqb t.used 0) (says.end t.stage (length s)) rest

  pub none_said : (m : ℕ) (stage : Stage) (w : W) (s : List ℕ) → length s ≤ 0 → said_in on says m stage w s ≡ says.end stage (length s)
  unfolding said_in
  none_said zero stage w s h = refl
  none_said (suc m) stage w [] h = rw (turn_none on stage w, quiet.line)
  none_said (suc m) stage w (x ∷ s) h = absurd (let z : suc (length s) ≤ 0 = h in omega arith)

  -- every n that is at least the number of bytes says the same
  enough : (n m : ℕ) (stage : Stage) (w : W) (s : List ℕ) → length s ≤ n → length s ≤ m → said_in on says n stage w s ≡ said_in on says m stage w s
  unfolding said_in
  enough zero m stage w s h k = sym (none_said m stage w s h)
  enough (suc n) zero stage w s h k = none_said (suc n) stage w s k
  enough (suc n) (suc m) stage w s h k =
      let t : Turn W = turn_of on stage w s in
      cases (eqb t.used 0) (λ e. rw e)
      (λ e.
      let l = length-drop t.used s in
      let u = eqb-false t.used 0 e in
      let a : length (drop t.used s) ≤ n = omega (arith, u) in
      let b : length (drop t.used s) ≤ m = omega (arith, u) in
      rw e (ap (λ (x : List A). says.line (take t.saves s) t.text ++ x) (enough n m t.stage t.world (drop t.used s) a b)))

  said_turn : (stage : Stage) (w : W) (s : List ℕ) →
      let t : Turn W = turn_of on stage w s in said_from on says stage w s ≡ after t s (said_from on says t.stage t.world (drop t.used s))
  unfolding said_in
  said_turn stage w [] = rw (turn_none on stage w, quiet.line)
  said_turn stage w (x ∷ l) =
      let s : List ℕ = x ∷ l in
      let t : Turn W = turn_of on stage w s in
      cases (eqb t.used 0) (λ e. rw e)
      (λ e.
      let d = length-drop t.used s in
      let u = eqb-false t.used 0 e in
      let a : length (drop t.used s) ≤ length l = omega (arith, u) in
      rw e
      (ap (λ (y : List A). says.line (take t.saves s) t.text ++ y)
      (enough (length l) (length (drop t.used s)) t.stage t.world (drop t.used s) a (omega arith))))

  -- by what the turn is known to be
  said_by_lem : (stage : Stage) (w : W) (s : List ℕ) (t : Turn W) → turn_of on stage w s ≡ t →
      said_from on says stage w s ≡ after t s (said_from on says t.stage t.world (drop t.used s))
  said_by_lem stage w s t e =
      said_turn stage w s ∙ ap (λ (x : Turn W). after x s (said_from on says x.stage x.world (drop x.used s))) e

  -- after the end of the run nothing is said
  pub over-silent : (w : W) (s : List ℕ) → said_from on says Stage.Over w s ≡ []
  over-silent w s = said_by_lem Stage.Over w s (waits on Stage.Over w) refl ∙ rw (quiet.line, quiet.end (length s))

  -- where no line is taken, only the end is left to be said
  pub said-last : (stage : Stage) (w : W) (xs : List ℕ) → let t : Turn W = turn_of on stage w xs in
      t.used ≡ 0 → said_from on says t.stage t.world xs ≡ says.end t.stage (length xs)
  said-last stage w xs u = go (sort on stage w xs [])
    where
      Ends : Turn W → Type 0
      Ends x = said_from on says x.stage x.world xs ≡ says.end x.stage (length xs)

      go : Sort on stage w xs [] → Ends (turn_of on stage w xs)
      go (waiting h e) = subst Ends (sym e) (said_by_lem stage w xs (waits on stage w) e ∙ rw quiet.line)
      go (ending place e l) = subst Ends (sym e) (over-silent w xs ∙ sym (quiet.end (length xs)))
      go (going h n l) = absurd (n u)

  -- A LINE AND WHAT FOLLOWS: the first line of some bytes says what it says, whatever bytes follow; then come the bytes that it left
  module _ (stage : Stage) (w : W) (xs ys : List ℕ) where
    abbrev t : Turn W
    t = turn_of on stage w xs

    abbrev Then : Turn W → Type 0
    Then x = said_from on says stage w (xs ++ ys) ≡ says.line (take x.saves xs) x.text ++ said_from on says x.stage x.world (drop x.used xs ++ ys)

    then_waits : Then (waits on stage w)
    then_waits = rw quiet.line

    -- a bad line is told, and then nothing is said
    then_ends : (place : ℕ) → turn_of on stage w (xs ++ ys) ≡ ends on w place → Then (ends on w place)
    then_ends place l =
        said_by_lem stage w (xs ++ ys) (ends on w place) l
        ∙ rw (quiet.end (length (xs ++ ys)), over-silent w (xs ++ ys))

    then_goes : t.used ≤ length xs → (t.used ≡ 0 → ⊥) → turn_of on stage w (xs ++ ys) ≡ t → Then t
    then_goes h u l =
        let s = turn_saves on stage w xs in
        let saved : take t.saves (xs ++ ys) ≡ take t.saves xs = take-append-le t.saves xs ys (omega arith) in
        let rest : drop t.used (xs ++ ys) ≡ drop t.used xs ++ ys = drop-append-le t.used xs ys h in
        said_by_lem stage w (xs ++ ys) t l
        ∙ rw (ne_eqb t.used 0 u, saved, rest)

    pub said-line : Then t
    said-line = go (sort on stage w xs ys)
      where
        go : Sort on stage w xs ys → Then t
        go (waiting h e) = subst Then (sym e) then_waits
        go (ending place e l) = subst Then (sym e) (then_ends place l)
        go (going h u l) = then_goes h u l

-- WHAT IS SAID IN ANOTHER WAY: where each line and the end are, so are all lines
module _ {W : Type 0} (on : World W) {A B : Type 0} (f : List A → List B) (append : (xs ys : List A) → f (xs ++ ys) ≡ f xs ++ f ys) (says : Says A) (other : Says B)
    (line : (saved text : List ℕ) → f (says.line saved text) ≡ other.line saved text) (end : (stage : Stage) (n : ℕ) → f (says.end stage n) ≡ other.end stage n) where
  pub said-map : (n : ℕ) (stage : Stage) (w : W) (bytes : List ℕ) → f (said_in on says n stage w bytes) ≡ said_in on other n stage w bytes
  unfolding said_in
  said-map zero stage w bytes = end stage (length bytes)
  said-map (suc n) stage w bytes =
      let t : Turn W = turn_of on stage w bytes in
      append (says.line (take t.saves bytes) t.text) _
      ∙ cases (eqb t.used 0) (λ e. rw (e, line (take t.saves bytes) t.text, end t.stage (length bytes)))
      (λ e. rw (e, line (take t.saves bytes) t.text, said-map n t.stage t.world (drop t.used bytes)))
