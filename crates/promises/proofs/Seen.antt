-- The view shows the live orders: its numbers are read back as the orders of the day that is held. In a run from an opening this is so
-- whatever the tables are, since there is no live order in short tables or after a refused opening.
use Prim.Native.Nat.{ℕ, ◌+◌, ◌*◌, ◌/◌, ◌≤◌}
use native.Mathlib.Omega.{arith}
use borrow.Author.Tests.{le-ltb}
use mathlib.Core.Path.{◌≡◌, refl, sym, ap, ◌∙◌, subst}
use mathlib.Core.Bool.{Bool, true, false, cond}
use mathlib.Core.List.{List, [], append-nil}
use lib.ListN.{length, take, length-append, length-replicate}
use Rattle.std.specs.Prelude.{Ok, Err}
use Rattle.terms.specs.declared.Settings.{Settings}
use Rattle.terms.specs.declared.Event.{Event}
use Rattle.terms.specs.declared.Order.{Order}
use Rattle.terms.specs.declared.Report.{Report}
use Rattle.terms.specs.declared.Side.{Side}
use Rattle.terms.specs.declared.Side.TheVariants.{Buy, Sell}
use Rattle.terms.specs.Sizes.{slots}
use Rattle.tables.specs.Lengths.{width, table_length}
use Rattle.terms.specs.Refusals.{Verdict, code_of}
use Rattle.terms.proofs.Refusals.{refusal-number}
use Rattle.tables.specs.Tables.{decode, encode, table_of}
use Rattle.tables.proofs.Slots.{length-encode, length-decode, decode-encode, encode-decode}
use Rattle.book_law.specs.Over.{lots_of}
use Rattle.book_law.specs.Told.{traded, cancelled}
use Rattle.book_law.specs.View.{view_of}
use Rattle.book_sound_law.specs.Sound.{BookFits}
use Rattle.book_sound_law.proofs.Facts.{book-fits}
use Rattle.state_law.specs.declared.Session.{Session}
use Rattle.state_law.specs.declared.Opened.{Opened}
use Rattle.state_law.specs.Now.{band_now}
use Rattle.soundness_law.specs.Sound.{sound}
use Rattle.soundness_law.proofs.Days.{sound-day}
use Rattle.acts_law.specs.Asked.{resting}
use Rattle.engine_law.specs.Calls.{table_by, view_call}
use Rattle.promises.specs.Runs.{Held, day_held, Call, Called, Calling, RunFrom, orders_seen, resting_seen, CallsShowResting, CallsKeepSeen}
use Rattle.promises.specs.Runs.Calling.{ends, calls}
use Rattle.promises.proofs.Tables.{verdict_on, verdict-called, refused-call}
use Rattle.promises.proofs.Openings.{none_live, start, start-held, calls-after-refusal}
use Rattle.promises.proofs.Calls.{calls_keep_lots, calls_stay_sound}

-- the numbers of some orders are read back as these orders, and their length says how many there are
numbers_back : (os : List Order) → decode (length (encode os) / width) (encode os) ≡ os
numbers_back os =
    let n : length (encode os) / width ≡ length os = omega (arith, length-encode os) in
    rw n (ap (decode (length os)) (sym (append-nil (encode os))) ∙ decode-encode os _)

-- the first n slots of a table are read back as the orders in them
live_back : (n : ℕ) (t : List ℕ) → n ≤ slots → table_length ≤ length t → decode (length (take (width * n) t) / width) (take (width * n) t) ≡ decode n t
live_back n t f l =
    let e : encode (decode n t) ≡ take (width * n) t = encode-decode n t (omega arith) in
    rw (← e) (numbers_back (decode n t))

module _ (h : Held) (k : sound (day_held h) ≡ true) (b : table_length ≤ length h.buys) (s : table_length ≤ length h.sells) where
  fits : BookFits h.session.live.given h.session.settings.tick (band_now h.session) (day_held h).buys (day_held h).sells
  fits = book-fits h.session.live.given h.session.settings.tick (band_now h.session) (day_held h).buys (day_held h).sells (sound-day (day_held h) k).book

  buys_few : h.session.live.buys ≤ slots
  buys_few = omega (arith, fits.few_buys, length-decode h.session.live.buys h.buys)

  sells_few : h.session.live.sells ≤ slots
  sells_few = omega (arith, fits.few_sells, length-decode h.session.live.sells h.sells)

  buys_seen : orders_seen Buy h ≡ (day_held h).buys
  unfolding view_call view_of
  buys_seen =
      rw (le-ltb (length h.buys) table_length b, le-ltb (length h.sells) table_length s, k, le-ltb slots h.session.live.buys buys_few)
      (live_back h.session.live.buys h.buys buys_few b)

  sells_seen : orders_seen Sell h ≡ (day_held h).sells
  unfolding view_call view_of
  sells_seen =
      rw (le-ltb (length h.buys) table_length b, le-ltb (length h.sells) table_length s, k, le-ltb slots h.session.live.sells sells_few)
      (live_back h.session.live.sells h.sells sells_few s)

  resting_seen_lem : (id : ℕ) → resting id (day_held h) ≡ resting_seen id h
  resting_seen_lem id = λ i. lots_of id (sym buys_seen i) + lots_of id (sym sells_seen i)

-- ---- tables of any length: they are long enough, or no event was accepted on them

abbrev Long : Held → Type 0
Long h = (table_length ≤ length h.buys) × (table_length ≤ length h.sells)

table_long : (os : List Order) (t : List ℕ) → table_length ≤ length (table_of os t)
unfolding table_of
table_long os t = simp (length-append, length-replicate) (omega (arith, length-encode os))

-- a call leaves long tables, or what was held
called-long : {P : Type 0} (h h' : Held) (c : Call) (rs : List Report) → Called h c rs h' → (Long h' → P) → (h' ≡ h → P) → P
called-long {P} h h' c rs k f g = go (verdict_on h c) refl
  where
    table : (v : Verdict) (os : List Order) (t u : List ℕ) → v ≡ Ok tt → u ≡ table_by v os t → table_length ≤ length u
    table v os t u e w = rw (w, e) (table_long os t)

    go : (v : Verdict) → verdict_on h c ≡ v → P
    go (Ok _) v =
        let fine = verdict-called h c ∙ v in
        f (table _ _ _ h'.buys fine k.contract.bought, table _ _ _ h'.sells fine k.contract.sold)
    go (Err r) v = g (refused-call h h' c rs k r v).1

run_long : {P : Type 0} (h : Held) (es : List Event) (rs : List Report) (h' : Held) → Calling h es rs h' → (Long h' → P) → (h' ≡ h → P) → P
run_long h es rs h' (ends h₀) f g = g refl
run_long h es rs h' (calls h₀ h₁ h₂ c es₀ rs₀ rs₁ k run) f g =
    run_long h₁ es₀ rs₁ h₂ run f (λ e. called-long h₀ h₁ c rs₀ k (λ l. f (subst Long (sym e) l)) (λ e'. g (e ∙ e')))

-- where no order is live, the view is empty
either : (b : Bool) (numbers : List ℕ) → cond b numbers numbers ≡ numbers
either true numbers = refl
either false numbers = refl

none_of : (side : Side) (buys sells : List ℕ) → view_of side buys sells 0 0 ≡ []
unfolding view_of
none_of Buy buys sells = simp either
none_of Sell buys sells = simp either

none_viewed : (side : Side) (s : Session) (buys sells : List ℕ) → s.live.buys ≡ 0 → s.live.sells ≡ 0 → view_call side s buys sells ≡ []
unfolding view_call
none_viewed side s buys sells b e = simp (b, e, none_of, either)

module _ {g : Settings} {es : List Event} {rs : List Report} {h : Held} (r : RunFrom g es rs h) where
  none_seen : (side : Side) → orders_seen side (start r) ≡ []
  unfolding decode
  none_seen side =
      let n = none_live g in
      ap (λ (numbers : List ℕ). decode (length numbers / width) numbers)
      (none_viewed side r.opening.session r.buys r.sells
      (ap (λ (o : Opened). o.session.live.buys) r.contract ∙ n.0) (ap (λ (o : Opened). o.session.live.sells) r.contract ∙ n.1))

  start_seen : (id : ℕ) → resting id (day_held (start r)) ≡ resting_seen id (start r)
  start_seen id = ap (resting id) (start-held r) ∙ (λ i. lots_of id (sym (none_seen Buy) i) + lots_of id (sym (none_seen Sell) i))

by_code : {P : Type 0} (v : Verdict) → (code_of v ≡ 0 → P) → ((code_of v ≡ 0 → ⊥) → P) → P
by_code (Ok _) f g = f refl
by_code (Err r) f g = g (λ z. omega (arith, (refusal-number r).0))

pub calls-show-resting : CallsShowResting
calls-show-resting g es rs h r id =
    let stays : h ≡ start r → resting id (day_held h) ≡ resting_seen id h =
    λ e. subst (λ x. resting id (day_held x) ≡ resting_seen id x) (sym e) (start_seen r id) in
    by_code r.opening.verdict
    (λ z. run_long (start r) es rs h r.run (λ l. resting_seen_lem h (calls_stay_sound g es rs h r z) l.0 l.1 id) stays)
    (λ n. stays (calls-after-refusal g es rs h r n).1)

pub calls_keep_seen : CallsKeepSeen
calls_keep_seen g es rs h r id =
    calls_keep_lots g es rs h r id ∙ ap (λ (n : ℕ). traded id rs + cancelled id rs + n) (calls-show-resting g es rs h r id)
