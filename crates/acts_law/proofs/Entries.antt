-- An order from its acceptance to its remainder: its calls may be made, and together they leave what the definition says.
use Prim.Native.Nat.{ℕ, ◌+◌}
use native.Mathlib.Omega.{arith}
use mathlib.Core.Path.{◌≡◌, refl, ◌∙◌}
use mathlib.Core.Bool.{Bool, true, false≢true}
use mathlib.Core.List.{List}
use lib.Dec.{eqb}
use Rattle.terms.specs.declared.Band.{Band}
use Rattle.terms.specs.declared.Entry.{Entry}
use Rattle.terms.specs.declared.Life.{Life}
use Rattle.terms.specs.declared.Life.TheVariants.{AllDay, Ioc}
use Rattle.terms.specs.declared.Kind.{Kind}
use Rattle.terms.proofs.Logic.{cases}
use Rattle.tables.specs.Tables.{decode}
use Rattle.tables.proofs.Slots.{length-decode}
use Rattle.book_law.specs.declared.Fate.{Fate}
use Rattle.book_law.specs.Matching.{fate_of}
use Rattle.state_law.specs.declared.Session.{Session}
use Rattle.state_law.specs.Now.{band_now}
use Rattle.state_law.proofs.Fits.{range-fits}
use Rattle.acts_law.specs.declared.Met.{Met}
use Rattle.acts_law.specs.declared.Placed.{Placed}
use Rattle.acts_law.specs.Acts.{sweep_in, fate_in, entered}
use Rattle.acts_law.specs.code.Written.{fate_from, takes_place, Settling, Settled}
use Rattle.acts_law.specs.code.Entering.{accepted_reports, Meeting, MetAs, Entering, EnteredAs}
use Rattle.acts_law.proofs.Reports.{written-length, written_then}

-- only an order that lives all day takes a place on its side
places : (life : Life) (kind : Kind) (band : Band) (last left : ℕ) (out : Bool) → takes_place (fate_from life kind band last left out) ≡ true → life ≡ AllDay
places AllDay kind band last left out e = refl
places Ioc kind band last left out e =
    absurd (cases (eqb left 0)
    (λ z. false≢true (rw z at e))
    (λ z. cases out (λ o. false≢true (rw (z, o) at e)) (λ o. false≢true (rw (z, o) at e))))

pub meet_asks : {s : Session} {n : Entry} {nmine ntheirs at : ℕ} {mine theirs room : List ℕ} {band : Band} → Entering s n nmine mine ntheirs theirs room at → band ≡ band_now s →
    Meeting s band ntheirs theirs room at
meet_asks {s} g b =
    record {
      banded = b;
      given_few = g.given_few;
      ranged = range-fits s _ g.clocked refl;
      holds = g.holds_theirs;
      space = omega (arith, g.space);
      fits = g.fits;
      deals = g.deals;
    }

module _ {s : Session} {n : Entry} (ntheirs : ℕ) {at : ℕ} {theirs room theirs' room' : List ℕ} {m : Met} (k : MetAs s n (decode ntheirs theirs) theirs room at theirs' room' m)
    (band : Band) {f : Fate} (e : f ≡ fate_from n.life n.kind band m.last m.left m.out) (nmine : ℕ) (mine : List ℕ) where
  pub settle_asks : Entering s n nmine mine ntheirs theirs room at → Settling nmine mine room' m.at f
  settle_asks g =
      record {
        holds = g.holds_mine;
        space = omega (arith, k.few, g.space, length-decode ntheirs theirs, written-length room at (accepted_reports s n (decode ntheirs theirs)) room' m.at k.told k.fits);
        place = λ p. g.place (places n.life n.kind band m.last m.left m.out (rw e at p));
      }

  module _ (b : band ≡ band_now s) where
    fate_is : f ≡ fate_in s n (sweep_in s n (decode ntheirs theirs))
    unfolding fate_in fate_of
    fate_is = e ∙ rw (k.last, k.left, k.out, b)

    pub entered_as : {mine' room'' : List ℕ} {p : Placed} → Settled n.side s.clock.time (s.live.given + 1) m.left f (decode nmine mine) mine room' m.at mine' room'' p →
        EnteredAs s n (decode nmine mine) (decode ntheirs theirs) mine theirs room at mine' theirs' room'' (record { session = m.session; mine = p.count; theirs = m.count; at = p.at })
    unfolding entered
    entered_as {mine'} {room''} {p} q =
        let r = rw (fate_is, k.left) at q in
        record {
          booked = r.book;
          countered = k.book;
          nmine = r.count;
          ntheirs = k.count;
          session = k.session;
          told = written_then room at (accepted_reports s n (decode ntheirs theirs)) room' m.at _ room'' p.at k.told r.told k.fits;
        }
