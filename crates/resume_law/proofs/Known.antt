-- What the contract of `come_back` says, where it is known what the reads give.
use Prim.Native.Nat.{ℕ, ◌≤◌, ◌<◌}
use native.Mathlib.Omega.{arith}
use mathlib.Core.Path.{◌≡◌, refl, sym, ap, ◌∙◌, subst}
use mathlib.Core.Bool.{Bool, true, false, false≢true}
use mathlib.Core.List.{List}
use lib.ListN.{length}
use Rattle.std.specs.Prelude.{Ok, Err}
use Rattle.terms.specs.declared.Refusal.{Refusal}
use Rattle.terms.specs.declared.Refusal.TheVariants.{LineUnfinished}
use Rattle.resume_law.specs.Answers.{Comeback, bad_at}
use Rattle.resume_law.specs.declared.Back.{Back}
use Rattle.resume_law.specs.Rebuilt.{resumed}
use Rattle.resume_law.specs.Pieces.{BackBy, tells_bad, too_many, BackOf, BackAs}
use Rattle.resume_law.specs.Pieces.BackOf.{not_read, too_long, all_read, bad_met}

-- all was read, and what came back is that of all bytes
pub record WholeBack (bytes buys sells : List ℕ) (r : Back) : Type 0 where
  pub read : r.read ≡ true
  pub by : BackBy (resumed bytes) buys sells r

-- a bad line is among the bytes, and it is no unfinished one
pub record BadBack (bytes buys sells : List ℕ) (r : Back) : Type 0 where
  pub by : BackBy (resumed bytes) buys sells r
  pub refusal : Refusal
  pub place : ℕ
  pub bad : r.answer ≡ bad_at refusal place
  pub finished : refusal ≡ LineUnfinished → ⊥

-- just these bytes are given, and they are not too many
module _ (gives : List ℕ → Bool → Type 0) (bytes buys sells : List ℕ) (r : Back) (only : (b : List ℕ) (w : Bool) → gives b w → b ≡ bytes) (few : length bytes < too_many) where
  long-not : {P : Type 0} (b : List ℕ) (w : Bool) → gives b w → too_many ≤ length b → P
  long-not b w g l = absurd (let e = ap length (only b w g) in omega arith)

  theirs : (b : List ℕ) (w : Bool) → gives b w → BackBy (resumed b) buys sells r → BackBy (resumed bytes) buys sells r
  theirs b w g k = subst (λ (x : List ℕ). BackBy (resumed x) buys sells r) (only b w g) k

  -- and then the end
  pub whole_back : ((b : List ℕ) → gives b false → ⊥) → BackAs gives buys sells r → WholeBack bytes buys sells r
  whole_back none k = go k.comes
    where
      go : BackOf gives length resumed buys sells r → WholeBack bytes buys sells r
      go (not_read b g e) = absurd (none b g)
      go (too_long b w g l e) = long-not b w g l
      go (all_read b g e k) = record { read = e; by = theirs b true g k }
      go (bad_met b w g t e k) = record { read = e; by = theirs b w g k }

  bad_as : (c : Comeback) → r.answer ≡ c → tells_bad c ≡ true → BackBy (resumed bytes) buys sells r → BadBack bytes buys sells r
  bad_as (Ok n) e t k = absurd (false≢true t)
  bad_as (Err b) e t k =
      record {
        by = k;
        refusal = b.refusal;
        place = b.place;
        bad = e;
        finished = λ u. absurd (false≢true (subst (λ (x : Refusal). tells_bad (bad_at x b.place) ≡ true) u t));
      }

  -- and then a read that fails: it is told, unless a bad line is
  pub broken_back : ((b : List ℕ) → gives b true → ⊥) → BackAs gives buys sells r → r.read ≡ true → BadBack bytes buys sells r
  broken_back none k read = go k.comes
    where
      go : BackOf gives length resumed buys sells r → BadBack bytes buys sells r
      go (not_read b g e) = absurd (false≢true (sym e ∙ read))
      go (too_long b w g l e) = long-not b w g l
      go (all_read b g e k) = absurd (none b g)
      go (bad_met b w g t e k) = bad_as r.answer refl t (theirs b w g k)
