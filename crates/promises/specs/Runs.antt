-- A RUN OF CALLS: an opening and any list of calls after it, each handed the session and the tables that the last one left. Of the opening
-- only the contract of `state::opening::begin` is known, and of a call only that of `engine::apply`. The promises of this crate are stated
-- for such runs.
use Rattle.std.specs.Prelude.{ℕ, ◌+◌, ◌*◌, ◌/◌, ◌≤◌, ◌≡◌, Bool, true, false, cond, List, [], ◌∷◌, ◌++◌, length, take, Result}
use Rattle.terms.specs.declared.Refusal.{Refusal}
use Rattle.terms.specs.declared.Settings.{Settings}
use Rattle.terms.specs.declared.Band.{Band}
use Rattle.terms.specs.declared.Deal.{Deal}
use Rattle.terms.specs.declared.Entry.{Entry}
use Rattle.terms.specs.declared.Event.{Event}
use Rattle.terms.specs.declared.Act.TheVariants.{Enter}
use Rattle.terms.specs.declared.Order.{Order}
use Rattle.terms.specs.declared.Side.{Side}
use Rattle.terms.specs.declared.Side.TheVariants.{Buy, Sell}
use Rattle.terms.specs.declared.Report.{Report}
use Rattle.terms.specs.declared.Said.TheVariants.{Trade, Slab}
use Rattle.terms.specs.Sizes.{line_room}
use Rattle.tables.specs.Lengths.{width, record_length}
use Rattle.tables.specs.Records.{records_of}
use Rattle.terms.specs.Refusals.{code_of}
use Rattle.rules_law.specs.Slabs.{in_band}
use Rattle.rules_law.specs.Reference.{in_range}
use Rattle.tables.specs.Tables.{decode}
use Rattle.book_law.specs.Matching.{report_at}
use Rattle.book_law.specs.Over.{lots_of}
use Rattle.book_law.specs.Told.{traded, cancelled}
use Rattle.state_law.specs.declared.Session.{Session}
use Rattle.state_law.specs.declared.Opened.{Opened}
use Rattle.state_law.specs.Opening.{opening_of}
use Rattle.state_law.specs.Day.{Day}
use Rattle.soundness_law.specs.Sound.{sound, day_in}
use Rattle.acts_law.specs.Asked.{asked_by, resting, accepts, numbers_to}
use Rattle.acts_law.specs.Heard.{initial_band, enhanced_band, band_said, range_said, touched_by, slabs_told}
use Rattle.engine_law.specs.Outcome.{after, told}
use Rattle.engine_law.specs.declared.Applied.{Applied}
use Rattle.engine_law.specs.Answers.{answer_code, answer_count, Answer}
use Rattle.engine_law.specs.Calls.{roomy, AppliedAs, event_at, view_call}
use Rattle.lines_writing_law.specs.Lines.{render_report, report_figures}
use Rattle.lines_writing_law.specs.Writes.{wrote_code, Writes}
use Rattle.promises.specs.ClockLine.{clock_at, plain, From}
use Rattle.promises.specs.Writable.{AllWritable}

-- ---- what a caller holds between calls, and the day that this is

pub record Held : Type 0 where
  pub session : Session
  pub buys : List ℕ
  pub sells : List ℕ

abbrev pub day_held : Held → Day
day_held h = day_in h.session h.buys h.sells

-- an opening "touches no table": the tables may hold anything
abbrev pub opened_on : Opened → List ℕ → List ℕ → Held
opened_on o buys sells = record { session = o.session; buys = buys; sells = sells }

-- ---- a call

-- what a call is handed besides what is held: an event, and a room for its reports, which may hold anything
pub record Call : Type 0 where
  pub event : Event
  pub room : List ℕ

-- the tables that are held and the room are long enough, so that row 1 does not apply
abbrev pub has_room : Held → Call → Bool
has_room h c = roomy h.buys h.sells c.room

-- the reports that a call hands out: as many as its answer counts, none where it is refused; their records are the first in the room
abbrev pub HandsOut : Answer → List ℕ → List Report → Type 0
HandsOut a room rs = (answer_count a ≡ length rs) × (take (record_length * answer_count a) room ≡ records_of rs)

-- a call on what h holds hands out rs and leaves h'
pub record Called (h : Held) (c : Call) (rs : List Report) (h' : Held) : Type 0 where
  pub answered : Applied
  pub room : List ℕ
  pub contract : AppliedAs h.session c.event h.buys h.sells c.room h'.buys h'.sells room answered
  pub session : h'.session ≡ answered.session
  pub reports : HandsOut answered.answer room rs

-- the paper's number of its answer: 0 where the event is accepted, else that of the refusal
abbrev pub number_answered : {h : Held} {c : Call} {rs : List Report} {h' : Held} → Called h c rs h' → ℕ
number_answered k = answer_code k.answered.answer

-- ---- a run

-- the events of a run; a call that is refused with 1, because something lent is short, does not count
abbrev pub counting : Bool → Event → List Event → List Event
counting true e es = e ∷ es
counting false e es = es

-- a run from what is held: the events that count, the reports handed out, and what is held at the end
pub data Calling : Held → List Event → List Report → Held → Type 0 where
  ends : (h : Held) → Calling h [] [] h
  calls : (h h' h'' : Held) (c : Call) (es : List Event) (rs rs' : List Report) → Called h c rs h' → Calling h' es rs' h'' →
      Calling h (counting (has_room h c) c.event es) (rs ++ rs') h''

-- ---- a run from an opening

-- g is opened, by the contract of `begin`; a refused opening, which "returns its number and one fixed session", begins a run too. The tables
-- may hold anything. Then come the calls.
pub record RunFrom (g : Settings) (es : List Event) (rs : List Report) (h : Held) : Type 0 where
  pub opening : Opened
  pub contract : opening ≡ opening_of g
  pub buys : List ℕ
  pub sells : List ℕ
  pub run : Calling (opened_on opening buys sells) es rs h

-- the paper's number of the opening's answer: 0, or 12 or 13
abbrev pub number_opened : {g : Settings} {es : List Event} {rs : List Report} {h : Held} → RunFrom g es rs h → ℕ
number_opened r = code_of r.opening.verdict

-- a run cut at a call that is handed e and answers that it accepts it: the run up to that call, the call, and the run that follows
pub record CutAt (g : Settings) (before : List Event) (e : Event) (later : List Event) (rs own rest : List Report) (h : Held) : Type 0 where
  pub held : Held
  pub left : Held
  pub call : Call
  pub until : RunFrom g before rs held
  pub called : Called held call own left
  pub handed : call.event ≡ e
  pub accepted : number_answered called ≡ 0
  pub following : Calling left later rest h

-- ---- the promises, for any run of calls from an opening, whatever lies in the tables and in the rooms

-- a property of every run: of its settings, its events, its reports and what is held at the end
abbrev pub ForRuns : (Settings → List Event → List Report → Held → Type 0) → Type 0
ForRuns P = (g : Settings) (es : List Event) (rs : List Report) (h : Held) → RunFrom g es rs h → P g es rs h

-- the same of every run whose opening is not refused
abbrev pub ForOpenRuns : (Settings → List Event → List Report → Held → Type 0) → Type 0
ForOpenRuns P = (g : Settings) (es : List Event) (rs : List Report) (h : Held) (r : RunFrom g es rs h) → number_opened r ≡ 0 → P g es rs h

-- the day that an opening begins, refused or not: its session, without orders
abbrev pub first_day : Settings → Day
first_day g = record { session = (opening_of g).session; buys = []; sells = [] }

-- a run hands out and leaves what the definitions say of its events
abbrev pub RunsAsDefined : Type 0
RunsAsDefined = ForRuns (λ g es rs h. (rs ≡ told (first_day g) es) × (day_held h ≡ after (first_day g) es))

-- AFTER A REFUSED OPENING nothing is reported, what is held stays as it was, and the next call is refused: with 1 where something lent to it
-- is short, else with 2
abbrev pub CallsAfterRefusal : Type 0
CallsAfterRefusal =
    (g : Settings) (es : List Event) (rs : List Report) (h : Held) (r : RunFrom g es rs h) → (number_opened r ≡ 0 → ⊥) →
    (rs ≡ []) × (h ≡ opened_on r.opening r.buys r.sells)
    × ((c : Call) (rs' : List Report) (h' : Held) (k : Called h c rs' h') → number_answered k ≡ cond (has_room h c) 2 1)

-- the lots asked for under number id in a run: the acceptance among the reports of a call gives the number, and the event of that call
-- gives the lots
unfoldable pub asked_over : ℕ → {h : Held} {es : List Event} {rs : List Report} {h' : Held} → Calling h es rs h' → ℕ
asked_over id (ends h) = 0
asked_over id (calls h h' h'' c es rs rs' k run) = asked_by id c.event.act rs + asked_over id run

-- every lot is accounted for: traded and cancelled as the reports say, or resting in the tables
abbrev pub CallsKeepLots : Type 0
CallsKeepLots =
    (g : Settings) (es : List Event) (rs : List Report) (h : Held) (r : RunFrom g es rs h) (id : ℕ) →
    asked_over id r.run ≡ traded id rs + cancelled id rs + resting id (day_held h)

-- the same in terms of what a caller sees: a side's orders are those whose numbers its view shows
abbrev pub orders_seen : Side → Held → List Order
orders_seen side h =
    let numbers : List ℕ = view_call side h.session h.buys h.sells in decode (length numbers / width) numbers

abbrev pub resting_seen : ℕ → Held → ℕ
resting_seen id h = lots_of id (orders_seen Buy h) + lots_of id (orders_seen Sell h)

abbrev pub CallsShowResting : Type 0
CallsShowResting = ForRuns (λ g es rs h. (id : ℕ) → resting id (day_held h) ≡ resting_seen id h)

abbrev pub CallsKeepSeen : Type 0
CallsKeepSeen =
    (g : Settings) (es : List Event) (rs : List Report) (h : Held) (r : RunFrom g es rs h) (id : ℕ) →
    asked_over id r.run ≡ traded id rs + cancelled id rs + resting_seen id h

-- an order of so many lots has the number that its call reports as accepted, and under that number the reports of the run and the tables at
-- its end account for these lots
pub record Accounted (lots : ℕ) (own all : List Report) (h : Held) : Type 0 where
  pub number : ℕ
  pub given : accepts own ≡ number ∷ []
  pub kept : lots ≡ traded number all + cancelled number all + resting number (day_held h)

-- every order that a call accepts is accounted for
abbrev pub CallsKeepOrders : Type 0
CallsKeepOrders =
    (g : Settings) (before later : List Event) (rs own rest : List Report) (h : Held) (t : ℕ) (n : Entry) →
    CutAt g before (event_at t (Enter n)) later rs own rest h → Accounted n.lots own (rs ++ (own ++ rest)) h

-- every trade is inside the band and the range that the reports before it give
abbrev pub CallsTradeWithin : Type 0
CallsTradeWithin =
    ForRuns (λ g es rs h. (before later : List Report) (t : ℕ) (deal : Deal) → rs ≡ before ++ (report_at t (Trade deal) ∷ later) →
    (in_band (band_said g before) deal.price ≡ true) × (in_range (range_said g before) deal.price ≡ true))

-- what is held stays sound
abbrev pub CallsStaySound : Type 0
CallsStaySound = ForOpenRuns (λ g es rs h. sound (day_held h) ≡ true)

-- NO RUN MEETS REFUSAL 2: no call that follows answers 2
abbrev pub CallsNeverTwo : Type 0
CallsNeverTwo = ForOpenRuns (λ g es rs h. (c : Call) (rs' : List Report) (h' : Held) (k : Called h c rs' h') → number_answered k ≡ 2 → ⊥)

-- numbers are given in order from 1
abbrev pub CallsGiveInOrder : Type 0
CallsGiveInOrder = ForRuns (λ g es rs h. accepts rs ≡ numbers_to h.session.live.given)

-- the session's time never goes back
abbrev pub CallsGoForward : Type 0
CallsGoForward = ForRuns (λ g es rs h. (before later : List Report) (r r' : Report) → rs ≡ before ++ (r ∷ (r' ∷ later)) → r.time ≤ r'.time)

-- the numbers of every report can be written
abbrev pub CallsWritable : Type 0
CallsWritable = ForRuns (λ g es rs h. AllWritable rs)

-- so `lines_writing_reports::write_report` writes its line into any room of a line's length, and answers 0
abbrev pub CallsWritten : Type 0
CallsWritten =
    ForRuns (λ g es rs h. (before later : List Report) (x : Report) (room room' : List ℕ) (w : Result ℕ Refusal) → rs ≡ before ++ (x ∷ later) →
    line_room ≤ length room → Writes room (render_report x) (report_figures x) w room' → wrote_code w ≡ 0)

-- a slab report comes only after a trade at an end of the initial band; before it the band was the initial one, and it reports the enhanced
-- one, which holds every price that the initial one does
abbrev pub CallsWiden : Type 0
CallsWiden =
    ForRuns (λ g es rs h. (before later : List Report) (t : ℕ) (band : Band) → rs ≡ before ++ (report_at t (Slab band) ∷ later) →
    (touched_by (initial_band g) t before ≡ true) × (band_said g before ≡ initial_band g) × (band ≡ enhanced_band g)
    × ((x : ℕ) → in_band (band_said g before) x ≡ true → in_band band x ≡ true))

-- and it comes at most once
abbrev pub CallsWidenOnce : Type 0
CallsWidenOnce = ForRuns (λ g es rs h. slabs_told rs ≤ 1)

-- TIME COMES FROM THE EVENTS: two runs with the same settings and events hand out the same reports, and leave the same session and the
-- same live orders, whatever lies in the tables and rooms of each. With a clock of their own, the calls could differ
abbrev pub SameRuns : Type 0
SameRuns =
    (g : Settings) (es : List Event) (rs rs' : List Report) (h h' : Held) → RunFrom g es rs h → RunFrom g es rs' h' →
    (rs ≡ rs') × (day_held h ≡ day_held h')

-- A CLOCK LINE CHANGES NO TRADE: two runs, with and without a clock event that its call accepts and that is not later than what follows,
-- hand out the same reports but for slab and ref
abbrev pub CallsClockLine : Type 0
CallsClockLine =
    (g : Settings) (before later : List Event) (t : ℕ) (rs own rest rs' : List Report) (h h' : Held) →
    CutAt g before (clock_at t) later rs own rest h → RunFrom g (before ++ later) rs' h' → From t later →
    plain (rs ++ (own ++ rest)) ≡ plain rs'
