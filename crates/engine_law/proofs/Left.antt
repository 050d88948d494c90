-- What an event leaves in a session and its tables: the sides fit, and read back as a day it is the day of the outcome.
use Prim.Native.Nat.{ℕ, ◌≤◌}
use mathlib.Core.Path.{◌≡◌, refl, sym, ap, ◌∙◌}
use mathlib.Core.List.{List}
use lib.ListN.{length}
use Rattle.std.specs.Prelude.{Ok, Err}
use Rattle.terms.specs.declared.Event.{Event}
use Rattle.terms.specs.declared.Order.{Order}
use Rattle.terms.specs.Refusals.{Verdict}
use Rattle.terms.specs.Sizes.{slots}
use Rattle.terms.proofs.Logic.{both}
use Rattle.tables.specs.Tables.{decode, table_of}
use Rattle.tables.proofs.Slots.{decode-encode}
use Rattle.state_law.specs.declared.Session.{Session}
use Rattle.state_law.specs.Day.{Day}
use Rattle.soundness_law.specs.Sound.{sound_by, day_in}
use Rattle.soundness_law.proofs.Clocked.{session-clocked}
use Rattle.soundness_law.proofs.Days.{SoundDay, sound-day}
use Rattle.engine_law.specs.Outcome.{Outcome, outcome}
use Rattle.engine_law.specs.Calls.{table_by}
use Rattle.engine_law.proofs.Kept.{accepted-sound, refused-nothing}

-- a table of orders, read by their count, gives these orders
reads_back : (n : ℕ) (os : List Order) (t : List ℕ) → n ≡ length os → decode n (table_of os t) ≡ os
unfolding table_of
reads_back n os t e = rw e (decode-encode os _)

-- a side holds no more orders than its table has slots
few : (side : List Order) (n : ℕ) → n ≡ length side → n ≤ slots → length side ≤ slots
few side n q h = rw q at h

pub sides_few : (d : Day) (e : Event) → (outcome d e).verdict ≡ Ok tt →
    (length (outcome d e).day.buys ≤ slots) × (length (outcome d e).day.sells ≤ slots)
unfolding sound_by
sides_few d e v =
    let o : Outcome = outcome d e in
    let s = accepted-sound d e v in
    let w = sound-day o.day s in
    let c = session-clocked o.day.session (both (both s).0).0 in (
      few o.day.buys o.day.session.live.buys w.buys-counted c.buys_few,
      few o.day.sells o.day.session.live.sells w.sells-counted c.sells_few,
    )

module _ (s s' : Session) (buys sells buys' sells' : List ℕ) (e : Event) (session : s' ≡ (outcome (day_in s buys sells) e).day.session)
    (bought : buys' ≡ table_by (outcome (day_in s buys sells) e).verdict (outcome (day_in s buys sells) e).day.buys buys)
    (sold : sells' ≡ table_by (outcome (day_in s buys sells) e).verdict (outcome (day_in s buys sells) e).day.sells sells) where
  abbrev o : Outcome
  o = outcome (day_in s buys sells) e

  accepted-day : o.verdict ≡ Ok tt → day_in s' buys' sells' ≡ o.day
  accepted-day v =
      let w : SoundDay o.day = sound-day o.day (accepted-sound (day_in s buys sells) e v) in
      let b : buys' ≡ table_of o.day.buys buys = bought ∙ ap (λ (x : Verdict). table_by x o.day.buys buys) v in
      let t : sells' ≡ table_of o.day.sells sells = sold ∙ ap (λ (x : Verdict). table_by x o.day.sells sells) v in
      let bs : decode s'.live.buys buys' ≡ o.day.buys =
      ap (decode s'.live.buys) b ∙ reads_back s'.live.buys o.day.buys buys (ap (λ (x : Session). x.live.buys) session ∙ w.buys-counted) in
      let ss : decode s'.live.sells sells' ≡ o.day.sells =
      ap (decode s'.live.sells) t ∙ reads_back s'.live.sells o.day.sells sells (ap (λ (x : Session). x.live.sells) session ∙ w.sells-counted) in
      λ i. record { session = session i; buys = bs i; sells = ss i }

  -- where nothing is written, the day stays the same
  refused-day : o.day ≡ day_in s buys sells → s' ≡ s → buys' ≡ buys → sells' ≡ sells → day_in s' buys' sells' ≡ o.day
  refused-day same q b t = (λ i. day_in (q i) (b i) (t i)) ∙ sym same

  by_verdict : (v : Verdict) → o.verdict ≡ v → day_in s' buys' sells' ≡ o.day
  by_verdict (Ok _) v = accepted-day v
  by_verdict (Err r) v =
      let same : o.day ≡ day_in s buys sells = (refused-nothing (day_in s buys sells) e r v).0 in
      refused-day same
      (session ∙ ap (λ (d : Day). d.session) same)
      (bought ∙ ap (λ (x : Verdict). table_by x o.day.buys buys) v)
      (sold ∙ ap (λ (x : Verdict). table_by x o.day.sells sells) v)

  pub outcome-day : day_in s' buys' sells' ≡ o.day
  outcome-day = by_verdict o.verdict refl
