-- What a call leaves follows from its verdict: a refused call answers its row and leaves everything as it was; an accepted one leaves what
-- the act leaves.
use Prim.Native.Nat.{ℕ}
use mathlib.Core.Path.{◌≡◌, sym, ◌∙◌}
use mathlib.Core.Bool.{Bool, true, false, not}
use mathlib.Core.List.{List}
use borrow.Author.Tests.{leb-true, le-leb, not-true, not-false}
use lib.ListN.{length}
use Rattle.std.specs.Prelude.{Ok, Err}
use Rattle.terms.specs.declared.Act.{Act}
use Rattle.terms.specs.declared.Event.{Event}
use Rattle.terms.specs.declared.Refusal.{Refusal}
use Rattle.terms.specs.declared.Refusal.TheVariants.{SmallRoom}
use Rattle.tables.specs.Records.{records_of}
use Rattle.terms.specs.Refusals.{Verdict, first_failed}
use Rattle.terms.proofs.Logic.{both, make, cases}
use Rattle.tables.proofs.Puts.{put-none}
use Rattle.state_law.specs.declared.Session.{Session}
use Rattle.soundness_law.specs.Sound.{day_in}
use Rattle.refusal_law.specs.Refusals.{refusal_of}
use Rattle.acts_law.specs.Acts.{act}
use Rattle.acts_law.specs.Small.{SmallReports}
use Rattle.engine_law.specs.Outcome.{decided, outcome}
use Rattle.engine_law.specs.declared.Applied.{Applied}
use Rattle.engine_law.specs.Calls.{roomy, LongEnough, call_verdict, called, AppliedAs, event_at, ActedAs, Ready}
use Rattle.engine_law.proofs.Kept.{outcome-small}

-- ---- what a call comes to

-- with tables and room long enough, a call comes to the outcome of its event,
pub called-outcome : (s : Session) (e : Event) (buys sells room : List ℕ) → roomy buys sells room ≡ true →
    called s e buys sells room ≡ outcome (day_in s buys sells) e
unfolding called call_verdict outcome refusal_of first_failed
called-outcome s e buys sells room h = rw h

-- and without, it changes and reports nothing
pub called-short : (s : Session) (e : Event) (buys sells room : List ℕ) → roomy buys sells room ≡ false →
    called s e buys sells room ≡ decided (Err SmallRoom) (day_in s buys sells) (act (day_in s buys sells) e)
unfolding called call_verdict first_failed
called-short s e buys sells room h = rw h

-- so no number in a report of a call is too great to be written
pub called-small : (s : Session) (e : Event) (buys sells room : List ℕ) → length s.tape.prices ≡ 10 →
    SmallReports (called s e buys sells room).reports
unfolding SmallReports
called-small s e buys sells room l =
    cases (roomy buys sells room)
    (λ h. rw (called-outcome s e buys sells room h) (outcome-small (day_in s buys sells) e l))
    (λ h. rw (called-short s e buys sells room h) tt)

-- ---- the answer and what is left, by the verdict

-- tables and a room that pass row 1 are long enough
pub found_long : (buys sells room : List ℕ) (found : Bool) → found ≡ roomy buys sells room → not found ≡ false → LongEnough buys sells room
unfolding roomy
found_long buys sells room found h n =
    let p = both (sym h ∙ not-false found n) in
    let q = both p.0 in
    record { buys_long = leb-true _ _ q.0; sells_long = leb-true _ _ q.1; room_long = leb-true _ _ p.1 }

pub long-roomy : {buys sells room : List ℕ} → LongEnough buys sells room → roomy buys sells room ≡ true
unfolding roomy
long-roomy g = make (make (le-leb _ _ g.buys_long) (le-leb _ _ g.sells_long)) (le-leb _ _ g.room_long)

module _ (s : Session) (e : Event) (buys sells room : List ℕ) where
  -- row 1 refuses a call where it applies; where it does not, the other rows decide
  pub small-verdict : roomy buys sells room ≡ false → call_verdict s e buys sells room ≡ Err SmallRoom
  unfolding call_verdict first_failed
  small-verdict h = rw h

  pub roomy-verdict : roomy buys sells room ≡ true → call_verdict s e buys sells room ≡ refusal_of (day_in s buys sells) e
  unfolding call_verdict first_failed refusal_of
  roomy-verdict h = rw h

  -- "All refusals return the number and the session given, and write nothing."
  by_refusal : (r : Refusal) (a : Applied) → call_verdict s e buys sells room ≡ Err r → a ≡ record { answer = Err r; session = s } →
      AppliedAs s e buys sells room buys sells room a
  unfolding called records_of
  by_refusal r a v h =
      record {
        answer = rw (v, h);
        session = rw (v, h);
        bought = rw v;
        sold = rw v;
        told = rw v (sym (put-none room 0));
      }

  -- code tests `found`, which says whether tables and room are long enough, and then has the verdict `v` of the other rows

  pub too_small : (found : Bool) (a : Applied) → found ≡ roomy buys sells room → not found ≡ true →
      a ≡ record { answer = Err SmallRoom; session = s } → AppliedAs s e buys sells room buys sells room a
  too_small found a h t k = by_refusal SmallRoom a (small-verdict (sym h ∙ not-true found t)) k

  pub refused_as : (v : Verdict) (r : Refusal) (a : Applied) → LongEnough buys sells room →
      v ≡ refusal_of (day_in s buys sells) e → v ≡ Err r → a ≡ record { answer = Err r; session = s } →
      AppliedAs s e buys sells room buys sells room a
  refused_as v r a g k w q = by_refusal r a (roomy-verdict (long-roomy g) ∙ sym k ∙ w) q

  pub accepted_as : (buys' sells' room' : List ℕ) (v : Verdict) (a : Applied) → LongEnough buys sells room →
      v ≡ refusal_of (day_in s buys sells) e → v ≡ Ok tt → ActedAs (act (day_in s buys sells) e) buys sells room buys' sells' room' a →
      AppliedAs s e buys sells room buys' sells' room' a
  unfolding called
  accepted_as buys' sells' room' v a g k w q =
      let fine : call_verdict s e buys sells room ≡ Ok tt = roomy-verdict (long-roomy g) ∙ sym k ∙ w in
      record {
        answer = rw fine q.answer;
        session = rw fine q.session;
        bought = rw fine q.bought;
        sold = rw fine q.sold;
        told = rw fine q.told;
      }

pub ready : (s : Session) (t : ℕ) (a : Act) (buys sells room : List ℕ) (v : Verdict) → LongEnough buys sells room →
    v ≡ refusal_of (day_in s buys sells) (event_at t a) → v ≡ Ok tt → Ready s t a buys sells room
ready s t a buys sells room v g k w = record { fine = sym k ∙ w; buys_long = g.buys_long; sells_long = g.sells_long; room_long = g.room_long }
