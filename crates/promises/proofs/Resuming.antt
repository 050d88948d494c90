-- A call that comes back leaves what a run of calls leaves, so what is promised of runs goes on.
use Prim.Native.Nat.{ℕ, ◌+◌, ◌-◌, ◌≤◌}
use native.Mathlib.Omega.{arith}
use mathlib.Core.Path.{◌≡◌, refl, sym, ap, ◌∙◌, subst}
use mathlib.Core.Bool.{Bool, true, false}
use mathlib.Core.List.{List, [], ◌∷◌, ◌++◌, append_assoc}
use lib.ListN.{length, take, replicate, length-replicate}
use borrow.Author.Tests.{le-leb, leb-true}
use Rattle.std.specs.Prelude.{Ok, Err}
use Rattle.terms.specs.declared.Settings.{Settings}
use Rattle.terms.specs.declared.Event.{Event}
use Rattle.terms.specs.declared.Order.{Order}
use Rattle.terms.specs.declared.Report.{Report}
use Rattle.terms.specs.declared.Refusal.TheVariants.{SmallRoom}
use Rattle.terms.specs.Sizes.{slots}
use Rattle.terms.specs.Settings.{settings_verdict}
use Rattle.terms.specs.Refusals.{Verdict, code_of}
use Rattle.terms.proofs.Logic.{both, make, cases}
use Rattle.tables.specs.Lengths.{table_length, room_length}
use Rattle.tables.specs.Records.{records_of}
use Rattle.tables.specs.Put.{put}
use Rattle.tables.specs.Tables.{table_of}
use Rattle.tables.proofs.Whole.{table_of-table_of, length-table_of}
use Rattle.lines_reading_law.specs.Lines.{render_settings}
use Rattle.state_law.specs.declared.Opened.{Opened}
use Rattle.state_law.specs.Opening.{opened_by, opening_of}
use Rattle.state_law.specs.Day.{Day, opened}
use Rattle.engine_law.specs.Outcome.{Outcome, outcome, after, told}
use Rattle.engine_law.specs.Calls.{roomy, LongTables, called, answer_by, table_by}
use Rattle.engine_law.proofs.Applies.{called-outcome}
use Rattle.engine_law.proofs.Left.{sides_few}
use Rattle.resume_law.specs.Answers.{Comeback, bad_at}
use Rattle.resume_law.specs.Saved.{saved, any_event, AllAccepted, accepted_of, whole_in}
use Rattle.resume_law.specs.Rebuilt.{Rebuilt, rebuilt, resumed}
use Rattle.resume_law.specs.Calls.{table_after, tables_long, resumed_on}
use Rattle.resume_law.proofs.Cuts.{cut_comes_back, wholes_are_whole}
use Rattle.resume_law.proofs.Finds.{any_bytes_found, refusal-keeps, saved_replays}
use Rattle.resume_law.proofs.Apart.{saved-apart}
use Rattle.promises.specs.Lots.{asked}
use Rattle.promises.specs.Runs.{Held, day_held, opened_on, Call, has_room, HandsOut, Called, counting, Calling, RunFrom, number_opened, asked_over}
use Rattle.promises.specs.Runs.Calling.{ends, calls}
use Rattle.promises.specs.Resumed.{Came, SavedLines, ResumesRun, ResumesExactly, ResumedRun, ResumedIsRun, PromisesGoOn, GoesOn, ResumedKeepLots, ResumedKeepOrders, RefusedInOrder, RefusedAsLent}
use Rattle.promises.proofs.Runs.{asked-append}
use Rattle.promises.proofs.Tables.{first_records, Left, by_room, held-outcome, run_follows, run-asks}
use Rattle.promises.proofs.Openings.{opening-held, run_from_lem}
use Rattle.promises.proofs.Calls.{calls_keep_lots, calls_keep_orders}
use Rattle.promises.proofs.Counts.{counted}

-- ---- what a run leaves in the tables

-- a table after more events: the first left the orders os, and X are there in the end
side-on : (X os : List Order) (t t₁ t₂ : List ℕ) (b : Bool) → length os ≤ slots → t₁ ≡ table_of os t → t₂ ≡ table_after b X t₁ → (b ≡ false → X ≡ os) →
    t₂ ≡ table_of X t
side-on X os t t₁ t₂ true few e f h = f ∙ ap (table_of X) e ∙ table_of-table_of X os t few
side-on X os t t₁ t₂ false few e f h = f ∙ e ∙ ap (λ (x : List Order). table_of x t) (sym (h refl))

record Leaves (h : Held) (d : Day) (es : List Event) (h' : Held) : Type 0 where
  bought : h'.buys ≡ table_after (any_event (accepted_of d es)) (after d es).buys h.buys
  sold : h'.sells ≡ table_after (any_event (accepted_of d es)) (after d es).sells h.sells

-- where none is accepted, the day stays
none_after : (d : Day) (es : List Event) → any_event (accepted_of d es) ≡ false → after d es ≡ d
unfolding after
none_after d es e = sym (saved_replays d es).same_day ∙ by_kept (accepted_of d es) e
  where
    by_kept : (l : List Event) → any_event l ≡ false → after d l ≡ d
    by_kept [] q = refl
    by_kept (x ∷ l) q = absurd (let z : ◌≡◌ {A = ℕ} 0 1 = cc in omega arith)

-- a step that writes nothing
leaves_same : (h h₁ h₂ : Held) (d : Day) (es : List Event) → h₁.buys ≡ h.buys → h₁.sells ≡ h.sells → Leaves h₁ d es h₂ → Leaves h d es h₂
leaves_same h h₁ h₂ d es b s k =
    record {
      bought = k.bought ∙ ap (table_after (any_event (accepted_of d es)) (after d es).buys) b;
      sold = k.sold ∙ ap (table_after (any_event (accepted_of d es)) (after d es).sells) s;
    }

module _ (h h₁ h₂ : Held) (e : Event) (es : List Event) (rs : List Report) (l : Left (outcome (day_held h) e) h rs h₁) where
  abbrev o : Outcome
  o = outcome (day_held h) e

  leaves_by : (v : Verdict) → o.verdict ≡ v → Leaves h₁ o.day es h₂ → Leaves h (day_held h) (e ∷ es) h₂
  unfolding accepted_of after
  leaves_by (Ok _) v k =
      let few = sides_few (day_held h) e v in
      let b : Bool = any_event (accepted_of o.day es) in
      let still : b ≡ false → after o.day es ≡ o.day = none_after o.day es in
      record {
        bought =
            rw v
            (side-on (after o.day es).buys o.day.buys h.buys h₁.buys h₂.buys b few.0
            (l.buys ∙ ap (λ (x : Verdict). table_by x o.day.buys h.buys) v) k.bought (λ q. ap (λ (d : Day). d.buys) (still q)));
        sold =
            rw v
            (side-on (after o.day es).sells o.day.sells h.sells h₁.sells h₂.sells b few.1
            (l.sells ∙ ap (λ (x : Verdict). table_by x o.day.sells h.sells) v) k.sold (λ q. ap (λ (d : Day). d.sells) (still q)));
      }
  leaves_by (Err r) v k =
      let w =
      leaves_same h h₁ h₂ o.day es
      (l.buys ∙ ap (λ (x : Verdict). table_by x o.day.buys h.buys) v)
      (l.sells ∙ ap (λ (x : Verdict). table_by x o.day.sells h.sells) v) k in
      record { bought = rw v w.bought; sold = rw v w.sold }

  leaves_next : Leaves h₁ (day_held h₁) es h₂ → Leaves h (day_held h) (e ∷ es) h₂
  leaves_next k = leaves_by o.verdict refl (subst (λ (d : Day). Leaves h₁ d es h₂) (held-outcome h h₁ e rs l) k)

run_leaves : (h : Held) (es : List Event) (rs : List Report) (h' : Held) → Calling h es rs h' → Leaves h (day_held h) es h'
unfolding accepted_of
run_leaves h es rs h' (ends h₀) = record { bought = refl; sold = refl }
run_leaves h es rs h' (calls h₀ h₁ h₂ c es₀ rs₀ rs₁ k run) =
    let r : Leaves h₁ (day_held h₁) es₀ h₂ = run_leaves h₁ es₀ rs₁ h₂ run in
    by_room h₀ h₁ c rs₀ k (λ (b : Bool). Leaves h₀ (day_held h₀) (counting b c.event es₀) h₂)
    (λ l. leaves_next h₀ h₁ h₂ c.event es₀ rs₀ l r)
    (λ n. subst (λ (x : Held). Leaves x (day_held x) es₀ h₂) n.1 r)

-- ---- the accepted events of accepted events

accepted-all : (d : Day) (es : List Event) → AllAccepted d es → accepted_of d es ≡ es
unfolding accepted_of
accepted-all d [] a = refl
accepted-all d (e ∷ es) a = rw a.0 (ap (λ (l : List Event). e ∷ l) (accepted-all (outcome d e).day es a.1))

accepted-first : (d : Day) (es more : List Event) → AllAccepted d (es ++ more) → AllAccepted d es
accepted-first d [] more a = tt
accepted-first d (e ∷ es) more a = (a.0, accepted-first (outcome d e).day es more a.1)

-- what accepted events leave on given tables, whichever calls brought them
record Exactly (g : Settings) (buys sells : List ℕ) (es : List Event) (h : Held) : Type 0 where
  session : h.session ≡ (after (opened g) es).session
  bought : h.buys ≡ table_after (any_event es) (after (opened g) es).buys buys
  sold : h.sells ≡ table_after (any_event es) (after (opened g) es).sells sells

-- an opening of settings that pass
opening-fine : (g : Settings) → settings_verdict g ≡ Ok tt → opening_of g ≡ opened_by g (Ok tt)
unfolding opening_of
opening-fine g v = ap (opened_by g) v

abbrev at_opening : Settings → List ℕ → List ℕ → Held
at_opening g buys sells = opened_on (opening_of g) buys sells

opened-held : (g : Settings) (buys sells : List ℕ) → settings_verdict g ≡ Ok tt → day_held (at_opening g buys sells) ≡ opened g
opened-held g buys sells v =
    opening-held g buys sells ∙ ap (λ (o : Opened). record { session = o.session; buys = []; sells = [] }) (opening-fine g v)

run_exactly : (g : Settings) (buys sells : List ℕ) (es : List Event) (rs : List Report) (h : Held) → settings_verdict g ≡ Ok tt →
    AllAccepted (opened g) es → Calling (at_opening g buys sells) es rs h → Exactly g buys sells es h
run_exactly g buys sells es rs h v a run =
    let o : day_held (at_opening g buys sells) ≡ opened g = opened-held g buys sells v in
    let k : Leaves (at_opening g buys sells) (opened g) es h =
    subst (λ (d : Day). Leaves (at_opening g buys sells) d es h) o (run_leaves (at_opening g buys sells) es rs h run) in
    let all = accepted-all (opened g) es a in
    record {
      session = ap (λ (d : Day). d.session) ((run_follows (at_opening g buys sells) es rs h run).day ∙ ap (λ (d : Day). after d es) o);
      bought = k.bought ∙ ap (λ (l : List Event). table_after (any_event l) (after (opened g) es).buys buys) all;
      sold = k.sold ∙ ap (λ (l : List Event). table_after (any_event l) (after (opened g) es).sells sells) all;
    }

-- ---- a run of calls with given events, all accepted

abbrev blank_room : List ℕ
blank_room = replicate room_length 0

module _ (h : Held) (e : Event) (long : LongTables h.buys h.sells) (v : (outcome (day_held h) e).verdict ≡ Ok tt) where
  abbrev was : Outcome
  was = called h.session e h.buys h.sells blank_room

  abbrev after_call : Held
  after_call =
      record {
        session = was.day.session;
        buys = table_by was.verdict was.day.buys h.buys;
        sells = table_by was.verdict was.day.sells h.sells;
      }

  room_is : roomy h.buys h.sells blank_room ≡ true
  unfolding roomy
  room_is =
      make (make (le-leb table_length (length h.buys) long.buys_long) (le-leb table_length (length h.sells) long.sells_long))
      (le-leb room_length (length blank_room) (omega (arith, length-replicate {A = ℕ} room_length 0)))

  was_is : was ≡ outcome (day_held h) e
  was_is = called-outcome h.session e h.buys h.sells blank_room room_is

  fine : was.verdict ≡ Ok tt
  fine = ap (λ (x : Outcome). x.verdict) was_is ∙ v

  hands : HandsOut (answer_by was.verdict (length was.reports)) (put blank_room 0 (records_of was.reports)) was.reports
  hands =
      subst (λ (x : Verdict). HandsOut (answer_by x (length was.reports)) (put blank_room 0 (records_of was.reports)) was.reports) (sym fine)
      (refl, first_records was.reports blank_room)

  the_call : Called h (record { event = e; room = blank_room }) was.reports after_call
  the_call =
      record {
        answered = record { answer = answer_by was.verdict (length was.reports); session = was.day.session };
        room = put blank_room 0 (records_of was.reports);
        contract = record { answer = refl; session = refl; bought = refl; sold = refl; told = refl };
        session = refl;
        reports = hands;
      }

  day-after : day_held after_call ≡ (outcome (day_held h) e).day
  day-after =
      held-outcome h after_call e was.reports
      (record {
        session = ap (λ (x : Outcome). x.day.session) was_is;
        buys = ap (λ (x : Outcome). table_by x.verdict x.day.buys h.buys) was_is;
        sells = ap (λ (x : Outcome). table_by x.verdict x.day.sells h.sells) was_is;
        reports = ap (λ (x : Outcome). x.reports) was_is;
      })

  kept-long : (os : List Order) (t : List ℕ) → length os ≤ slots → table_length ≤ length t → table_length ≤ length (table_by was.verdict os t)
  kept-long os t f l =
      subst (λ (x : Verdict). table_length ≤ length (table_by x os t)) (sym fine) (let z = length-table_of os t f l in omega arith)

  long_after : LongTables after_call.buys after_call.sells
  long_after =
      let few = sides_few (day_held h) e v in
      let fb : length was.day.buys ≤ slots = subst (λ (x : Outcome). length x.day.buys ≤ slots) (sym was_is) few.0 in
      let fs : length was.day.sells ≤ slots = subst (λ (x : Outcome). length x.day.sells ≤ slots) (sym was_is) few.1 in
      record { buys_long = kept-long was.day.buys h.buys fb long.buys_long; sells_long = kept-long was.day.sells h.sells fs long.sells_long }

record Ran (h : Held) (es : List Event) : Type 0 where
  left : Held
  run : Calling h es (told (day_held h) es) left

-- one call more
ran_on : (h : Held) (e : Event) (es : List Event) (long : LongTables h.buys h.sells) (v : (outcome (day_held h) e).verdict ≡ Ok tt) → Ran (after_call h e long v) es → Ran h (e ∷ es)
unfolding told
ran_on h e es long v r =
    let c : Call = record { event = e; room = blank_room } in
    let n : Calling h (counting (has_room h c) e es) ((was h e long v).reports ++ told (day_held (after_call h e long v)) es) r.left =
    calls h (after_call h e long v) r.left c es (was h e long v).reports (told (day_held (after_call h e long v)) es) (the_call h e long v) r.run in
    record {
      left = r.left;
      run =
          subst (λ (rs : List Report). Calling h (e ∷ es) rs r.left)
          (λ i. (was_is h e long v i).reports ++ told (day-after h e long v i) es)
          (subst (λ (b : Bool). Calling h (counting b e es) ((was h e long v).reports ++ told (day_held (after_call h e long v)) es) r.left) (room_is h e long v) n);
    }

runs : (h : Held) (es : List Event) → LongTables h.buys h.sells → AllAccepted (day_held h) es → Ran h es
unfolding told
runs h [] long a = record { left = h; run = ends h }
runs h (e ∷ es) long a =
    ran_on h e es long a.0
    (runs (after_call h e long a.0) es (long_after h e long a.0) (subst (λ (d : Day). AllAccepted d es) (sym (day-after h e long a.0)) a.1))

-- ---- two runs, one after the other

counting-append : (b : Bool) (e : Event) (es more : List Event) → counting b e es ++ more ≡ counting b e (es ++ more)
counting-append true e es more = refl
counting-append false e es more = refl

run-append : (h h' h'' : Held) (es more : List Event) (rs rs' : List Report) → Calling h es rs h' → Calling h' more rs' h'' → Calling h (es ++ more) (rs ++ rs') h''
run-append h h' h'' es more rs rs' (ends h₀) r = r
run-append h h' h'' es more rs rs' (calls h₀ h₁ h₂ c es₀ rs₀ rs₁ k run) r =
    let b : Bool = has_room h₀ c in
    subst (λ (l : List Event). Calling h₀ l ((rs₀ ++ rs₁) ++ rs') h'') (sym (counting-append b c.event es₀ more))
    (subst (λ (l : List Report). Calling h₀ (counting b c.event (es₀ ++ more)) l h'') (sym (append_assoc rs₀ rs₁ rs'))
    (calls h₀ h₁ h'' c (es₀ ++ more) rs₀ (rs₁ ++ rs') k (run-append h₁ h₂ h'' es₀ more rs₁ rs' run r)))

-- ---- a call that comes back

-- its tables are long, and the bytes are those of settings and events
record Back (bytes buys sells : List ℕ) (n : ℕ) (h : Held) : Type 0 where
  g : Settings
  es : List Event
  long : tables_long buys sells ≡ true
  lines : SavedLines bytes n g es
  exactly : Exactly g buys sells es h

module _ (bytes buys sells : List ℕ) (n : ℕ) (h : Held) (c : Came bytes buys sells n h) where
  abbrev x : Rebuilt
  x = resumed_on buys sells bytes

  answer_is : x.answer ≡ Ok n
  answer_is = sym c.contract.answer ∙ c.counts

  long_is : tables_long buys sells ≡ true
  unfolding resumed_on
  long_is =
      cases (tables_long buys sells) (λ t. t)
      (λ f. absurd (let q : ◌≡◌ {A = Comeback} (bad_at SmallRoom 0) (Ok n) = rw f at answer_is in let z : ◌≡◌ {A = ℕ} 0 1 = cc in omega arith))

  x_is : x ≡ resumed bytes
  unfolding resumed_on
  x_is = rw long_is refl

  -- the call leaves what x says
  by_x : (g : Settings) (es : List Event) → x ≡ rebuilt (length (saved g es)) (any_event es) (after (opened g) es) → Exactly g buys sells es h
  by_x g es e =
      record {
        session = c.session ∙ c.contract.session ∙ ap (λ (y : Rebuilt). y.day.session) e;
        bought = c.contract.bought ∙ ap (λ (y : Rebuilt). table_after y.moved y.day.buys buys) e;
        sold = c.contract.sold ∙ ap (λ (y : Rebuilt). table_after y.moved y.day.sells sells) e;
      }

  back : Back bytes buys sells n h
  back =
      let k = counted bytes n (ap (λ (z : Rebuilt). z.answer) (sym x_is) ∙ answer_is) in
      record {
        g = k.g;
        es = k.es;
        long = long_is;
        lines = record { settings = k.settings; accepted = k.accepted; lines = k.lines };
        exactly = by_x k.g k.es (x_is ∙ k.comes);
      }

  tables-long : LongTables buys sells
  unfolding tables_long
  tables-long =
      let t = both back.long in
      record { buys_long = leb-true table_length (length buys) t.0; sells_long = leb-true table_length (length sells) t.1 }

  abbrev start : Held
  start = at_opening back.g buys sells

  start-held : day_held start ≡ opened back.g
  start-held = opened-held back.g buys sells back.lines.settings

  -- calls with these events leave the same
  ran : Ran start back.es
  ran = runs start back.es tables-long (subst (λ (d : Day). AllAccepted d back.es) (sym start-held) back.lines.accepted)

  the_run : Calling start back.es (told (opened back.g) back.es) ran.left
  the_run = subst (λ (d : Day). Calling start back.es (told d back.es) ran.left) start-held ran.run

  same-held : ran.left ≡ h
  same-held =
      let k = run_exactly back.g buys sells back.es _ ran.left back.lines.settings back.lines.accepted the_run in
      let m = back.exactly in
      λ i. record { session = (k.session ∙ sym m.session) i; buys = (k.bought ∙ sym m.bought) i; sells = (k.sold ∙ sym m.sold) i }

  came-run : Calling start back.es (told (opened back.g) back.es) h
  came-run = subst (λ (y : Held). Calling start back.es (told (opened back.g) back.es) y) same-held the_run

  -- whichever settings and events the lines are said to be
  saved-run : (g : Settings) (old : List Event) → SavedLines bytes n g old → Calling (at_opening g buys sells) old (told (opened g) old) h
  saved-run g old l =
      let s = back.lines in
      let same = saved-apart back.g g back.es old s.settings l.settings s.accepted l.accepted (sym s.lines ∙ l.lines) in
      subst (λ (y : Settings). Calling (at_opening y buys sells) old (told (opened y) old) h) same.0
      (subst (λ (y : List Event). Calling start y (told (opened back.g) y) h) same.1 came-run)

-- ---- the promises

pub resumes_run : ResumesRun
resumes_run bytes buys sells n h c =
    let b = back bytes buys sells n h c in
    (b.g, b.es, b.lines, came-run bytes buys sells n h c)

module _ {g : Settings} {old es : List Event} {rs : List Report} {h : Held} (r : ResumedRun g old es rs h) where
  before : Calling (at_opening g r.buys r.sells) old (told (opened g) old) r.held
  before = saved-run r.bytes r.buys r.sells r.count r.held r.came g old r.lines

  abbrev whole_run : RunFrom g (old ++ es) (told (opened g) old ++ rs) h
  whole_run =
      record {
        opening = opening_of g;
        contract = refl;
        buys = r.buys;
        sells = r.sells;
        run = run-append (at_opening g r.buys r.sells) r.held h old es (told (opened g) old) rs before r.run;
      }

  whole-opened : number_opened whole_run ≡ 0
  whole-opened = ap (λ (o : Opened). code_of o.verdict) (opening-fine g r.lines.settings)

  -- the day that came back
  held-day : day_held r.held ≡ after (opened g) old
  held-day =
      (run_follows (at_opening g r.buys r.sells) old (told (opened g) old) r.held before).day
      ∙ ap (λ (d : Day). after d old) (opened-held g r.buys r.sells r.lines.settings)

pub resumed_is_run : ResumedIsRun
resumed_is_run g old es rs h r = (whole_run r, whole-opened r)

pub promises_go_on : PromisesGoOn
promises_go_on P p g old es rs h r = p g (old ++ es) (told (opened g) old ++ rs) h (whole_run r) (whole-opened r)

pub goes_on : GoesOn
goes_on g old es rs rs' h h' r run =
    let a = run_from_lem g (old ++ es) (told (opened g) old ++ rs) h (whole_run r) in
    let b = run_from_lem g (old ++ es) rs' h' run in
    (b.reports ∙ sym a.reports, a.day ∙ sym b.day)

pub resumed_keep_lots : ResumedKeepLots
resumed_keep_lots g old es rs h r id =
    let w = whole_run r in
    let d : day_held (at_opening g r.buys r.sells) ≡ opened g = opened-held g r.buys r.sells r.lines.settings in
    let all : asked_over id w.run ≡ asked id (opened g) (old ++ es) =
    run-asks id (at_opening g r.buys r.sells) (old ++ es) _ h w.run ∙ ap (λ (x : Day). asked id x (old ++ es)) d in
    let later : asked_over id r.run ≡ asked id (after (opened g) old) es =
    run-asks id r.held es rs h r.run ∙ ap (λ (x : Day). asked id x es) (held-day r) in
    ap (λ (x : ℕ). asked id (opened g) old + x) later
    ∙ sym (asked-append id (opened g) old es)
    ∙ sym all
    ∙ calls_keep_lots g (old ++ es) (told (opened g) old ++ rs) h w id

pub resumed_keep_orders : ResumedKeepOrders
resumed_keep_orders g old before later rs own rest held left h c t n r k handed accepted following =
    calls_keep_orders g (old ++ before) later (told (opened g) old ++ rs) own rest h t n
    (record {
      held = held;
      left = left;
      call = c;
      until = whole_run r;
      called = k;
      handed = handed;
      accepted = accepted;
      following = following;
    })

pub resumes_exactly : ResumesExactly
unfolding resumed_on tables_long
resumes_exactly g buys sells es k v tables h buys' sells' r c rs held run =
    let saves = saved_replays (opened g) es in
    let lines : List Event = accepted_of (opened g) es in
    let m : ℕ = k - length (render_settings g) in
    let old : List Event = whole_in m lines in
    let long : tables_long buys sells ≡ true =
    make (le-leb table_length (length buys) tables.buys_long) (le-leb table_length (length sells) tables.sells_long) in
    let x : resumed_on buys sells (take k (saved g lines)) ≡ rebuilt (length (saved g old)) (any_event old) (after (opened g) old) =
    rw long (cut_comes_back g lines k v saves.accepted h) in
    let w = wholes_are_whole m lines in
    let a : AllAccepted (opened g) old = accepted-first (opened g) old w.later (subst (AllAccepted (opened g)) w.first saves.accepted) in
    let e = run_exactly g buys sells old rs held v a run in (
      c.answer ∙ ap (λ (y : Rebuilt). y.answer) x,
      c.session ∙ ap (λ (y : Rebuilt). y.day.session) x ∙ sym e.session,
      c.bought ∙ ap (λ (y : Rebuilt). table_after y.moved y.day.buys buys) x ∙ sym e.bought,
      c.sold ∙ ap (λ (y : Rebuilt). table_after y.moved y.day.sells sells) x ∙ sym e.sold,
    )

pub refused_in_order : RefusedInOrder
unfolding resumed_on
refused_in_order bytes buys sells buys' sells' r c =
    ((λ s. c.answer ∙ rw s refl), (λ l. (c.answer ∙ rw l refl, any_bytes_found bytes)))

pub refused_as_lent : RefusedAsLent
unfolding resumed_on
refused_as_lent bytes buys sells buys' sells' r q place c e =
    cases (tables_long buys sells)
    (λ l.
    let k = refusal-keeps bytes q place (rw l at (sym c.answer ∙ e)) in
    (rw l at c.session ∙ k.1, (rw (l, k.0) at c.bought), (rw (l, k.0) at c.sold)))
    (λ s. (rw s at c.session, (rw s at c.bought), (rw s at c.sold)))
