-- Order numbers are given in order: the numbers given before an act, followed by those that its reports accept, are the numbers given
-- after it.
use Prim.Native.Nat.{ℕ, ◌+◌}
use native.Mathlib.Numerals.{add-one}
use mathlib.Core.Path.{◌≡◌, refl, sym, ap, ◌∙◌}
use mathlib.Core.List.{List, [], ◌∷◌, ◌++◌, append_assoc, append-nil}
use Rattle.std.specs.Prelude.{None}
use Rattle.std.specs.Option.{option_map_or}
use Rattle.terms.specs.declared.Order.{Order}
use Rattle.terms.specs.declared.Entry.{Entry}
use Rattle.terms.specs.declared.Event.{Event}
use Rattle.terms.specs.declared.Act.{Act}
use Rattle.terms.specs.declared.Side.{Side}
use Rattle.terms.specs.declared.Side.TheVariants.{Buy, Sell}
use Rattle.terms.specs.declared.Report.{Report}
use Rattle.book_law.specs.declared.Fate.{Fate}
use Rattle.book_law.specs.Matching.{Swept, trade_reports, settled, fate_reports}
use Rattle.state_law.specs.declared.Session.{Session}
use Rattle.state_law.specs.Set.{set_given}
use Rattle.state_law.specs.Clock.{clock_step}
use Rattle.state_law.specs.Trades.{with_trades}
use Rattle.state_law.specs.Day.{Day, own, across, day_with}
use Rattle.state_law.proofs.Leaves.{trades_leave}
use Rattle.terms.specs.Carried.{carries}
use Rattle.acts_law.specs.Acts.{Acted, sweep_in, fate_in, entered, dropped, side_of, withdrawn, silent, finished, stepped, timed, does, act}
use Rattle.acts_law.specs.Asked.{accepts_in, accepts, numbers_to}
use Rattle.acts_law.proofs.Does.{sets_alike, enters, ends, does_by, Chains, begun_by, act_by_lem}
use Rattle.acts_law.proofs.Pieces.{EachTold, each_append, clock_each, trades_each, fate_each, finished_each}

pub accepts-append : (xs ys : List Report) → accepts (xs ++ ys) ≡ accepts xs ++ accepts ys
unfolding accepts
accepts-append [] ys = refl
accepts-append (x ∷ xs) ys =
    ap (λ (l : List ℕ). accepts_in x.said ++ l) (accepts-append xs ys)
    ∙ sym (append_assoc (accepts_in x.said) (accepts xs) (accepts ys))

-- reports of which none is an acceptance accept no numbers
accepts-none : (rs : List Report) → EachTold (λ r. accepts_in r.said ≡ []) rs → accepts rs ≡ []
unfolding accepts EachTold
accepts-none [] h = refl
accepts-none (r ∷ rs) h = λ i. (h.0 i) ++ (accepts-none rs h.1 i)

-- ---- an act

abbrev pub Counts : Day → Acted → Type 0
Counts d a = numbers_to d.session.live.given ++ accepts a.reports ≡ numbers_to a.day.session.live.given

given_with : (side : Side) (s : Session) (mine theirs : List Order) → (day_with side s mine theirs).session.live.given ≡ s.live.given
given_with Buy s mine theirs = refl
given_with Sell s mine theirs = refl

-- an order is given the next number
enter_given : (d : Day) (n : Entry) → (enters d n).day.session.live.given ≡ d.session.live.given + 1
unfolding entered
enter_given d n =
    let s : Session = d.session in
    let w : Swept = sweep_in s n (across n.side d) in
    let number : ℕ = s.live.given + 1 in
    given_with n.side (with_trades (set_given s number) w.fills) (settled n.side number w.left (fate_in s n w) (own n.side d)) w.rest
    ∙ (trades_leave (set_given s number) w.fills).given

next-number : (n : ℕ) → numbers_to n ++ ((n + 1) ∷ []) ≡ numbers_to (n + 1)
unfolding numbers_to
next-number n = rw (add-one n)

enter_counts : (d : Day) (n : Entry) → Counts d (enters d n)
unfolding entered accepts
enter_counts d n =
    let s : Session = d.session in
    let w : Swept = sweep_in s n (across n.side d) in
    let number : ℕ = s.live.given + 1 in
    let fate : Fate = fate_in s n w in
    let ts : List Report = trade_reports s.clock.time n.side number w.fills in
    let fs : List Report = fate_reports s.clock.time number w.left fate in
    let none : accepts (ts ++ fs) ≡ [] =
    accepts-none (ts ++ fs) (each_append _ ts fs (trades_each _ s.clock.time n.side number w.fills (λ deal. refl))
    (fate_each _ s.clock.time number w.left fate (λ o. refl) (λ e. refl))) in
    ap (λ (l : List ℕ). numbers_to s.live.given ++ (number ∷ l)) none ∙ next-number s.live.given ∙ ap numbers_to (sym (enter_given d n))

-- a thing whose reports accept no order gives no number
none-counts : (d : Day) (a : Acted) → EachTold (λ r. accepts_in r.said ≡ []) a.reports → a.day.session.live.given ≡ d.session.live.given → Counts d a
none-counts d a e f =
    ap (λ (l : List ℕ). numbers_to d.session.live.given ++ l) (accepts-none a.reports e)
    ∙ append-nil (numbers_to d.session.live.given) ∙ ap numbers_to (sym f)

does-counts : (d : Day) (a : Act) → Counts d (does d a)
unfolding EachTold dropped finished
does-counts d a =
    does_by (Counts d) d a
    (λ n e. enter_counts d n)
    (λ number e. none-counts d (withdrawn d number) (refl, tt) (given_with (side_of number d.buys) d.session _ _))
    (λ s q. none-counts d (silent s d) tt (sets_alike q).given)
    (λ settle e. none-counts d (ends d settle) (finished_each _ d.session d.session.clock.time settle d.buys d.sells (λ x. refl) (λ c. refl)) refl)

counts_then : Chains Counts
counts_then d a b h k =
    ap (λ (l : List ℕ). numbers_to d.session.live.given ++ l) (accepts-append a.reports b.reports)
    ∙ sym (append_assoc (numbers_to d.session.live.given) (accepts a.reports) (accepts b.reports))
    ∙ ap (λ (l : List ℕ). l ++ accepts b.reports) h
    ∙ k

-- NUMBERS ARE GIVEN IN ORDER, by each event on any day
pub act-counts : (d : Day) (e : Event) → Counts d (act d e)
unfolding clock_step EachTold
act-counts d e =
    let s : Session = d.session in
    act_by_lem Counts counts_then d e
    (none-counts d (timed d e.time) tt refl)
    (none-counts d (stepped d e.time) (clock_each _ s (clock_step s e.time) refl refl) refl)
    (λ d'. does-counts d' e.act)

-- ---- an order adds one to the numbers given, any other act none

abbrev pub given_by : ℕ → Act → ℕ
given_by given a = option_map_or (λ n. given + 1) (carries a).entry given

does-given : (d : Day) (a : Act) → (does d a).day.session.live.given ≡ given_by d.session.live.given a
unfolding dropped finished
does-given d a =
    let given : ℕ = d.session.live.given in
    let same : (carries a).entry ≡ None → given ≡ given_by given a = λ e. rw e refl in
    does_by (λ (x : Acted). x.day.session.live.given ≡ given_by given a) d a
    (λ n e. rw e (enter_given d n))
    (λ number e. given_with (side_of number d.buys) d.session _ _ ∙ rw e refl)
    (λ s q. (sets_alike q).given ∙ same (sets_alike q).entry)
    (λ settle e. rw e refl)

pub act-given : (d : Day) (e : Event) → (act d e).day.session.live.given ≡ given_by d.session.live.given e.act
unfolding clock_step
act-given d e =
    begun_by (λ (x : Acted). x.day.session.live.given ≡ given_by d.session.live.given e.act) d e
    (λ h. does-given (timed d e.time).day e.act)
    (λ h. does-given (stepped d e.time).day e.act)
