-- An app reads in the numbers of a standing what orders are judged by.
use Prim.Native.Nat.{ℕ}
use native.Mathlib.Omega.{arith}
use mathlib.Core.Path.{◌≡◌, refl, sym, ap, ◌∙◌}
use mathlib.Core.Bool.{Bool, true, false, ◌&&◌, cond}
use mathlib.Core.List.{List}
use lib.Dec.{leb, eqb, ltb}
use lib.ListN.{length, get_or}
use Rattle.std.specs.Prelude.{Ok, Err}
use Rattle.terms.specs.declared.Side.{Side}
use Rattle.terms.specs.declared.Life.{Life}
use Rattle.terms.specs.declared.Kind.TheVariants.{Limit}
use Rattle.terms.specs.declared.Act.TheVariants.{Enter}
use Rattle.terms.specs.declared.Refusal.TheVariants.{SmallRoom}
use Rattle.terms.specs.Refusals.{Verdict}
use Rattle.terms.specs.Truth.{between}
use Rattle.terms.proofs.Refusals.{refusal-number}
use Rattle.tables.specs.Put.{put}
use Rattle.rules_law.specs.Reference.{in_range}
use Rattle.state_law.specs.Now.{band_now, range_now}
use Rattle.state_law.specs.Clock.{clock_step}
use Rattle.refusal_law.specs.Refusals.{band_right}
use Rattle.engine_law.specs.declared.Standing.{Standing}
use Rattle.engine_law.specs.declared.Stood.{Stood}
use Rattle.engine_law.specs.Standings.{no_standing, standing_call}
use Rattle.engine_law.proofs.Stands.{limit_shown, counter_shown}
use Rattle.desk_packing_law.specs.Runs.{session_length}
use Rattle.desk_packing_law.specs.Sessions.{flag, session_from}
use Rattle.desk_packing_law.specs.Answers.{answer_of}
use Rattle.desk_law.specs.Standings.{standing_length, standing_numbers, stood_on, standing_by, StandingOn}

-- only a verdict without a refusal is answered 0
done_fine : (v : Verdict) → 0 ≡ answer_of v 0 → v ≡ Ok tt
done_fine (Ok _) e = refl
done_fine (Err r) e = absurd (omega (arith, (refusal-number r).0))

-- so both slices were long enough
long-stood : (short : Stood) (a b : Bool) (st : Stood) → short.verdict ≡ Err SmallRoom → (cond a short (cond b short st)).verdict ≡ Ok tt →
    cond a short (cond b short st) ≡ st
long-stood short true b st e f = let no : ◌≡◌ {A = Verdict} (Err SmallRoom) (Ok tt) = sym e ∙ f in cc
long-stood short false true st e f = let no : ◌≡◌ {A = Verdict} (Err SmallRoom) (Ok tt) = sym e ∙ f in cc
long-stood short false false st e f = refl

flagged : (b : Bool) → eqb (flag b) 1 ≡ b
flagged true = refl
flagged false = refl

module _ (run buys sells standing ns : List ℕ) (a : StandingOn run buys sells standing ns 0) where
  abbrev st : Standing
  st = (stood_on run buys sells standing).standing

  fine : (stood_on run buys sells standing).verdict ≡ Ok tt
  fine = done_fine (stood_on run buys sells standing).verdict a.stood.answer

  shown : standing_call (session_from run) buys sells ≡ record { verdict = Ok tt; standing = st }
  unfolding stood_on
  shown =
      let long = long-stood (record { verdict = Err SmallRoom; standing = no_standing }) (ltb (length run) session_length) (ltb (length standing) standing_length) (standing_call (session_from run) buys sells) refl fine in
      sym long ∙ (λ i. record { verdict = fine i; standing = st })

  laid : ns ≡ put standing 0 (standing_numbers st)
  laid = a.stood.laid ∙ ap (λ (v : Verdict). standing_by v st standing) fine

  -- a limit passes row 8 exactly where it lies from number 1 to number 2; this holds until a cooling-off ends, at number 7, if number 6 is 1
  pub limit_read : (side : Side) (x : ℕ) (life : Life) (lots t : ℕ) → (eqb (get_or ns 6 0) 1 && leb (get_or ns 7 0) t) ≡ false →
      band_right (band_now (clock_step (session_from run) t)) (Enter (record { side = side; kind = Limit x; life = life; lots = lots }))
      ≡ between (get_or ns 1 0) x (get_or ns 2 0)
  unfolding put standing_numbers
  limit_read side x life lots t e =
      let waits : (st.cooling && leb st.ends t) ≡ false = rw (← flagged st.cooling) (rw laid at e) in
      rw laid (limit_shown (session_from run) buys sells st side x life lots t shown waits)

  -- a counter price is in range exactly where it lies from number 3 to number 4
  pub counter_read : (x : ℕ) → in_range (range_now (session_from run)) x ≡ between (get_or ns 3 0) x (get_or ns 4 0)
  unfolding put standing_numbers
  counter_read x = rw laid (counter_shown (session_from run) buys sells st x shown)
