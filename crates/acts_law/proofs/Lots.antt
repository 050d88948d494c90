-- No act makes or loses a lot: the lots that are asked for and those that rested before are the lots told as traded or cancelled and those
-- that rest afterwards. This holds on any day, sound or not.
use Prim.Native.Nat.{ℕ, ◌+◌}
use native.Mathlib.Omega.{arith}
use mathlib.Core.Path.{◌≡◌, refl, sym, ap, ◌∙◌}
use mathlib.Core.List.{List, [], ◌∷◌, ◌++◌}
use Rattle.std.specs.Option.{option_map_or}
use Rattle.std.specs.Prelude.{Option}
use Rattle.terms.specs.declared.Order.{Order}
use Rattle.terms.specs.declared.Entry.{Entry}
use Rattle.terms.specs.declared.Event.{Event}
use Rattle.terms.specs.declared.Act.{Act}
use Rattle.terms.specs.declared.Side.{Side}
use Rattle.terms.specs.declared.Side.TheVariants.{Buy, Sell}
use Rattle.terms.specs.declared.Report.{Report}
use Rattle.terms.specs.declared.Said.{Said}
use Rattle.terms.specs.declared.Why.{Why}
use Rattle.terms.specs.declared.Why.TheVariants.{Asked, DayEnd}
use Rattle.book_law.specs.Priority.{removed}
use Rattle.book_law.specs.Matching.{taker, Swept, trade_reports, settled, fate_reports}
use Rattle.book_law.specs.Over.{tally, mine, lots_of}
use Rattle.book_law.specs.Told.{total, traded_in, cancelled_in, traded, cancelled}
use Rattle.book_law.proofs.Over.{mine-zero, lots-removed}
use Rattle.book_law.proofs.Remainder.{total-append, Balanced, entered_balanced}
use Rattle.state_law.specs.declared.Session.{Session}
use Rattle.state_law.specs.Clock.{clock_step}
use Rattle.state_law.specs.Day.{Day, own, across, day_with, day_by}
use Rattle.acts_law.specs.Acts.{Acted, clock_reports, sweep_in, fate_in, entered, dropped, side_of, cancel_reports, close_report, finished, stepped, timed, does, act}
use Rattle.acts_law.specs.Asked.{wanted, asked_in, asked_by, resting}
use Rattle.acts_law.proofs.Does.{sets_alike, enters, ends, does_by, Chains, begun_by, act_by_lem}
use Rattle.acts_law.proofs.Pieces.{each_append, clock_each, trades_each, fate_each, cancels_each, finished_each, total-none}

-- the cancels of a side tell as cancelled the lots that its orders had
cancels_cancelled : (id : ℕ) (why : Why) (time : ℕ) (os : List Order) → cancelled id (cancel_reports why time os) ≡ lots_of id os
unfolding total cancel_reports tally
cancels_cancelled id why time [] = refl
cancels_cancelled id why time (o ∷ os) = omega (arith, cancels_cancelled id why time os)

-- ---- an act

-- the lots that are told and those left are the lots that were asked for and those that rested before
abbrev pub Accounted : ℕ → ℕ → Day → Acted → Type 0
Accounted lots id d a =
    total (asked_in id lots) a.reports + resting id d ≡ traded id a.reports + cancelled id a.reports + resting id a.day

kept_then : (lots id : ℕ) → Chains (Accounted lots id)
kept_then lots id d a b h k =
    omega (
      arith,
      h,
      k,
      total-append (asked_in id lots) a.reports b.reports,
      total-append (traded_in id) a.reports b.reports,
      total-append (cancelled_in id) a.reports b.reports,
    )

clock_kept : (lots id : ℕ) (d : Day) (t : ℕ) → Accounted lots id d (stepped d t)
clock_kept lots id d t =
    let s : Session = d.session in
    let s' : Session = clock_step s t in
    omega (
      arith,
      total-none (asked_in id lots) (clock_reports s s') (clock_each _ s s' refl refl),
      total-none (traded_in id) (clock_reports s s') (clock_each _ s s' refl refl),
      total-none (cancelled_in id) (clock_reports s s') (clock_each _ s s' refl refl),
    )

-- the orders of a day are those of the order's own side and those across, whichever side is its own
resting-own : (id : ℕ) (side : Side) (d : Day) → resting id d ≡ lots_of id (own side d) + lots_of id (across side d)
resting-own id Buy d = refl
resting-own id Sell d = omega arith

resting_with : (id : ℕ) (side : Side) (s : Session) (mine theirs : List Order) →
    resting id (day_with side s mine theirs) ≡ lots_of id mine + lots_of id theirs
resting_with id Buy s mine theirs = refl
resting_with id Sell s mine theirs = omega arith

-- an order's trades and its remainder account for its lots and for those of the orders that it meets
entry_balanced : (s : Session) (n : Entry) (id : ℕ) (mine theirs : List Order) →
    Balanced id s.clock.time n.side (s.live.given + 1) n.lots mine theirs (sweep_in s n theirs) (fate_in s n (sweep_in s n theirs))
unfolding sweep_in fate_in
entry_balanced s n id mine theirs = entered_balanced id s.clock.time (taker n.side n.kind _) (s.live.given + 1) n.lots n.life _ _ mine theirs

-- an accepted order asks for its lots under the number that it is given
entered-asks : (s : Session) (n : Entry) (id lots : ℕ) (mine₀ : List Order) (w : Swept) →
    total (asked_in id lots) (entered s n mine₀ w).reports ≡ mine id (s.live.given + 1) lots
unfolding entered total
entered-asks s n id lots mine₀ w =
    let ts : List Report = trade_reports s.clock.time n.side (s.live.given + 1) w.fills in
    let fs : List Report = fate_reports s.clock.time (s.live.given + 1) w.left (fate_in s n w) in
    omega (
      arith,
      total-none (asked_in id lots) (ts ++ fs)
          (each_append _ ts fs (trades_each _ s.clock.time n.side (s.live.given + 1) w.fills (λ deal. refl))
          (fate_each _ s.clock.time (s.live.given + 1) w.left (fate_in s n w) (λ o. refl) (λ e. refl))),
    )

entered-kept : (s : Session) (n : Entry) (id : ℕ) (own₀ theirs : List Order) →
    total (asked_in id n.lots) (entered s n own₀ (sweep_in s n theirs)).reports + (lots_of id own₀ + lots_of id theirs)
    ≡ traded id (entered s n own₀ (sweep_in s n theirs)).reports + cancelled id (entered s n own₀ (sweep_in s n theirs)).reports
    + resting id (entered s n own₀ (sweep_in s n theirs)).day
unfolding entered total
entered-kept s n id own₀ theirs =
    let w : Swept = sweep_in s n theirs in
    let rest : resting id (entered s n own₀ w).day ≡ lots_of id (settled n.side (s.live.given + 1) w.left (fate_in s n w) own₀) + lots_of id w.rest =
    resting_with id n.side _ _ _ in
    omega (arith, entered-asks s n id n.lots own₀ w, entry_balanced s n id own₀ theirs, rest)

enter_kept : (id : ℕ) (d : Day) (n : Entry) → Accounted n.lots id d (enters d n)
enter_kept id d n = rw (resting-own id n.side d) (entered-kept d.session n id (own n.side d) (across n.side d))

dropped-kept : (lots id : ℕ) (d : Day) (number : ℕ) (why : Why) (side : Side) →
    Accounted lots id d (dropped d.session number why side (own side d) (across side d))
unfolding dropped total
dropped-kept lots id d number why side =
    omega (
      arith,
      resting-own id side d,
      resting_with id side d.session (removed number (own side d)) (across side d),
      lots-removed id number (own side d),
    )

finished-kept : (lots id : ℕ) (d : Day) (settle : ℕ) → Accounted lots id d (ends d settle)
unfolding finished total tally
finished-kept lots id d settle =
    let time : ℕ = d.session.clock.time in
    let end : List Report = close_report d.session time settle ∷ [] in
    let bs : List Report = cancel_reports DayEnd time d.buys in
    let ss : List Report = cancel_reports DayEnd time d.sells in
    omega (
      arith,
      total-append (asked_in id lots) bs (ss ++ end),
      total-append (asked_in id lots) ss end,
      total-none (asked_in id lots) bs (cancels_each _ DayEnd time d.buys (λ e. refl)),
      total-none (asked_in id lots) ss (cancels_each _ DayEnd time d.sells (λ e. refl)),
      total-append (traded_in id) bs (ss ++ end),
      total-append (traded_in id) ss end,
      total-none (traded_in id) bs (cancels_each _ DayEnd time d.buys (λ e. refl)),
      total-none (traded_in id) ss (cancels_each _ DayEnd time d.sells (λ e. refl)),
      total-append (cancelled_in id) bs (ss ++ end),
      total-append (cancelled_in id) ss end,
      cancels_cancelled id DayEnd time d.buys,
      cancels_cancelled id DayEnd time d.sells,
    )

does-kept : (id : ℕ) (d : Day) (a : Act) → Accounted (wanted a) id d (does d a)
unfolding total
does-kept id d a =
    does_by (Accounted (wanted a) id d) d a
    (λ n e. rw e (enter_kept id d n))
    (λ number e. dropped-kept (wanted a) id d number Asked (side_of number d.buys))
    (λ s q. omega arith)
    (λ settle e. finished-kept (wanted a) id d settle)

-- EVERY LOT IS ACCOUNTED FOR, by each event on any day
pub act-kept : (id : ℕ) (d : Day) (e : Event) → Accounted (wanted e.act) id d (act d e)
unfolding total
act-kept id d e =
    act_by_lem (Accounted (wanted e.act) id) (kept_then (wanted e.act) id) d e (omega arith) (clock_kept (wanted e.act) id d e.time)
    (λ d'. does-kept id d' e.act)

-- ---- an act asks for lots only under the next number

does-asks : (id : ℕ) (d : Day) (a : Act) → asked_by id a (does d a).reports ≡ mine id (d.session.live.given + 1) (wanted a)
unfolding total dropped
does-asks id d a =
    let number : ℕ = d.session.live.given + 1 in
    let none : wanted a ≡ 0 → 0 ≡ mine id number (wanted a) = λ z. rw z (sym (mine-zero id number)) in
    does_by (λ (x : Acted). asked_by id a x.reports ≡ mine id number (wanted a)) d a
    (λ n e. entered-asks d.session n id (wanted a) (own n.side d) _)
    (λ number e. none (ap wanted e))
    (λ s q. none (ap (λ (o : Option Entry). option_map_or (λ n. n.lots) o 0) (sets_alike q).entry))
    (λ settle e. total-none (asked_in id (wanted a)) (ends d settle).reports
    (finished_each _ d.session d.session.clock.time settle d.buys d.sells (λ x. refl) (λ c. refl)) ∙ none (ap wanted e))

pub act-asks : (id : ℕ) (d : Day) (e : Event) → asked_by id e.act (act d e).reports ≡ mine id (d.session.live.given + 1) (wanted e.act)
unfolding total clock_step
act-asks id d e =
    begun_by (λ (x : Acted). asked_by id e.act x.reports ≡ mine id (d.session.live.given + 1) (wanted e.act)) d e
    (λ h. does-asks id (timed d e.time).day e.act)
    (λ h. let f : Said → ℕ = asked_in id (wanted e.act) in let s : Session = d.session in let s' : Session = clock_step s e.time in
    omega (
      arith,
      total-append f (clock_reports s s') (does (day_by s' d) e.act).reports,
      total-none f (clock_reports s s') (clock_each _ s s' refl refl),
      does-asks id (day_by s' d) e.act,
    ))
