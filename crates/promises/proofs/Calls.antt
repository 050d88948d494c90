-- The promises of runs of calls: each follows from the same promise of the definitions.
use Prim.Native.Nat.{ℕ, ◌+◌, ◌≤◌}
use native.Mathlib.Omega.{arith}
use borrow.Author.Tests.{le-leb}
use mathlib.Core.Path.{◌≡◌, sym, ap, ◌∙◌, subst}
use mathlib.Core.Bool.{true}
use mathlib.Core.List.{List, ◌∷◌, ◌++◌}
use lib.ListN.{length}
use Rattle.std.specs.Prelude.{Ok}
use Rattle.terms.specs.declared.Event.{Event}
use Rattle.terms.specs.declared.Act.TheVariants.{Enter}
use Rattle.terms.specs.Sizes.{line_room}
use Rattle.terms.specs.Refusals.{first_failed, code_of}
use Rattle.terms.proofs.Logic.{cases}
use Rattle.book_law.specs.Told.{traded, cancelled}
use Rattle.state_law.specs.Opening.{opening_of}
use Rattle.state_law.specs.Day.{Day, opened}
use Rattle.refusal_law.proofs.Accepted.{sound-not_two}
use Rattle.acts_law.specs.Asked.{resting, accepts, numbers_to}
use Rattle.engine_law.specs.Outcome.{after}
use Rattle.engine_law.specs.declared.Stood.{Stood}
use Rattle.engine_law.specs.Calls.{event_at}
use Rattle.engine_law.specs.Standings.{standing_now}
use Rattle.engine_law.proofs.Kept.{accepted-number}
use Rattle.engine_law.proofs.Stands.{stands-fine}
use Rattle.lines_text_law.specs.Numerals.{all_writable}
use Rattle.lines_writing_law.specs.Lines.{report_figures}
use Rattle.lines_writing_law.specs.Writes.{line_verdict}
use Rattle.lines_writing_law.proofs.Back.{written_code}
use Rattle.promises.specs.Lots.{asked}
use Rattle.promises.specs.Runs.{day_held, has_room, first_day, CallsKeepLots, CallsKeepOrders, CallsTradeWithin, CallsStaySound, CallsNeverTwo, CallsGiveInOrder, CallsGoForward, CallsWritable, CallsWritten, CallsWiden, CallsWidenOnce, SameRuns, CallsClockLine}
use Rattle.promises.specs.ClockLine.{clock_at, plain}
use Rattle.promises.specs.Standings.{AsSaid, CallsStand}
use Rattle.promises.proofs.Runs.{run-asked}
use Rattle.promises.proofs.Kept.{empty_kept, counts_from, always_sound, trades-within, stands-said, never_narrows, widens_after_touch, widens_to_enhanced, widens_once, reports-forward}
use Rattle.promises.proofs.Writable.{runs_writable}
use Rattle.promises.proofs.ClockLine.{clock_unheard}
use Rattle.promises.proofs.Tables.{verdict_on, short-verdict, judged_verdict, number_by, run-asks, Cut}
use Rattle.promises.proofs.Openings.{none-given, opened-fine, start, start-held, number-opened, run_from_lem, cut_from, run-told}

-- ---- lots and numbers

pub calls_keep_lots : CallsKeepLots
calls_keep_lots g es rs h r id =
    let f = run_from_lem g es rs h r in
    run-asks id (start r) es rs h r.run
    ∙ ap (λ (d : Day). asked id d es) (start-held r)
    ∙ empty_kept id (opening_of g).session es
    ∙ (λ i. traded id (sym f.reports i) + cancelled id (sym f.reports i) + resting id (sym f.day i))

pub calls_keep_orders : CallsKeepOrders
calls_keep_orders g before later rs own rest h t n k =
    let e : Event = event_at t (Enter n) in
    let d : Day = first_day g in
    let x : Cut d before later e rs own rest h = cut_from g before later e rs own rest h k in
    let id : ℕ = (after d before).session.live.given + 1 in
    record {
      number = id;
      given = ap accepts x.told-own ∙ accepted-number (after d before) t n x.accepted;
      kept = sym (run-asked d before later t n x.accepted)
          ∙ empty_kept id (opening_of g).session (before ++ (e ∷ later))
          ∙ (λ i. traded id (sym x.whole.reports i) + cancelled id (sym x.whole.reports i) + resting id (sym x.whole.day i));
    }

pub calls_give_in_order : CallsGiveInOrder
calls_give_in_order g es rs h r =
    let f = run_from_lem g es rs h r in
    ap accepts f.reports ∙ counts_from (first_day g) es (none-given g) ∙ ap (λ (d : Day). numbers_to d.session.live.given) (sym f.day)

-- ---- soundness

pub calls_stay_sound : CallsStaySound
calls_stay_sound g es rs h r z =
    let o = opened-fine g (sym (number-opened r) ∙ z) in
    rw ((run_from_lem g es rs h r).day, o.1) (always_sound g es o.0)

pub calls_never_two : CallsNeverTwo
calls_never_two g es rs h r z c rs' h' k e =
    let two : code_of (verdict_on h c) ≡ 2 = sym (number_by h h' c rs' k) ∙ e in
    cases (has_room h c)
    (λ b. sound-not_two (day_held h) c.event (calls_stay_sound g es rs h r z) (rw (judged_verdict h c b) at two))
    (λ b. let one : 1 ≡ 2 = rw (short-verdict h c b) at two in omega arith)

-- ---- where a session stands

pub calls_stand : CallsStand
calls_stand g es rs h r z a b t e =
    let o = opened-fine g (sym (number-opened r) ∙ z) in
    let fine : a ≡ record { verdict = Ok tt; standing = standing_now h.session } =
    e ∙ stands-fine h.session h.buys h.sells b t (calls_stay_sound g es rs h r z) in
    let day : day_held h ≡ after (opened g) es = (run_from_lem g es rs h r).day ∙ ap (λ (d : Day). after d es) o.1 in
    let said : AsSaid g rs (standing_now h.session) =
    rw (run-told g es rs h r, ap (λ (d : Day). d.session) day) (stands-said g es) in
    (ap (λ (x : Stood). code_of x.verdict) fine, subst (λ (x : Stood). AsSaid g rs x.standing) (sym fine) said)

-- ---- what the reports tell

pub calls_trade_within : CallsTradeWithin
calls_trade_within g es rs h r before later t deal e = trades-within g es before later t deal (sym (run-told g es rs h r) ∙ e)

pub calls_go_forward : CallsGoForward
calls_go_forward g es rs h r before later x y e = reports-forward g es before later x y (sym (run-told g es rs h r) ∙ e)

pub calls-writable : CallsWritable
calls-writable g es rs h r before later x e = runs_writable g es before later x (sym (run-told g es rs h r) ∙ e)

-- with a line room of full length and numbers that can be written, neither 16 nor 17 applies
fine-line : (room numbers : List ℕ) → line_room ≤ length room → all_writable numbers ≡ true → code_of (line_verdict room numbers) ≡ 0
unfolding line_verdict first_failed
fine-line room numbers l w = rw (le-leb line_room (length room) l, w)

pub calls-written : CallsWritten
calls-written g es rs h r before later x room room' w e l a =
    written_code a ∙ fine-line room (report_figures x) l (calls-writable g es rs h r before later x e)

pub calls_widen : CallsWiden
calls_widen g es rs h r before later t band e =
    let w = sym (run-told g es rs h r) ∙ e in
    let bands = widens_to_enhanced g es before later t band w in
    (widens_after_touch g es before later t band w, bands.0, bands.1, never_narrows g es before later t band w)

pub calls_widen_once : CallsWidenOnce
calls_widen_once g es rs h r = rw (run-told g es rs h r) (widens_once g es)

-- ---- two runs compared

pub same_runs : SameRuns
same_runs g es rs rs' h h' r r' =
    let f = run_from_lem g es rs h r in
    let f' = run_from_lem g es rs' h' r' in
    (f.reports ∙ sym f'.reports, f.day ∙ sym f'.day)

pub calls_clock_line : CallsClockLine
calls_clock_line g before later t rs own rest rs' h h' k r f =
    let x : Cut (first_day g) before later (clock_at t) rs own rest h = cut_from g before later (clock_at t) rs own rest h k in
    ap plain x.whole.reports
    ∙ clock_unheard (first_day g) before later t x.accepted f
    ∙ sym (ap plain (run_from_lem g (before ++ later) rs' h' r).reports)
