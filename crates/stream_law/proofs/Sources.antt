-- What a source gives, read after read.
use Prim.Native.Nat.{ℕ}
use mathlib.Core.Path.{refl, sym, subst}
use mathlib.Core.Bool.{Bool, true, false}
use mathlib.Core.List.{List, [], ◌++◌, append_assoc, append-nil}
use lib.ListN.{drop}
use Rattle.stream_law.specs.declared.Source.{Source}
use Rattle.stream_law.specs.Sources.{Gives, Leads}

-- ---- nothing, and one after the other

pub leads-none : (given : List ℕ) (from : Source) → Leads given from [] from
leads-none given from = record { behind = λ rest whole g. g }

pub leads_then : {given got got' : List ℕ} {from between from' : Source} → Leads given from got between → Leads given between got' from' →
    Leads given from (got ++ got') from'
leads_then {given} {got} {got'} {from} p q =
    record {
      behind = λ rest whole g. subst (λ (x : List ℕ). Gives given from x whole) (sym (append_assoc got got' rest)) (p.behind (got' ++ rest) whole (q.behind rest whole g));
    }

-- behind the last read the source is at its end, or it failed
pub leads-end : {given got : List ℕ} {from from' : Source} (whole : Bool) → Leads given from got from' → Gives given from' [] whole → Gives given from got whole
leads-end {given} {got} {from} whole p g = subst (λ (x : List ℕ). Gives given from x whole) (append-nil got) (p.behind [] whole g)

-- ---- every source gives something

pub record Given (given : List ℕ) (from : Source) : Type 0 where
  pub bytes : List ℕ
  pub whole : Bool
  pub gives : Gives given from bytes whole

pub gives-some : (given : List ℕ) (from : Source) → Given given from
gives-some given (Source.Live fd) = record { bytes = []; whole = true; gives = tt }
gives-some given (Source.Text at) = record { bytes = drop at given; whole = true; gives = refl }
gives-some given (Source.Broken at) = record { bytes = drop at given; whole = false; gives = refl }
