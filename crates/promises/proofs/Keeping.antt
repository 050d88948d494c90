-- What the program saves of its input are the lines of its settings and of the events that it accepted, so its file comes back as the day
-- on which it stands.
use Prim.Native.Nat.{ℕ, zero, suc}
use mathlib.Core.Path.{◌≡◌, refl, sym, ap, ◌∙◌, subst}
use mathlib.Core.List.{List, [], ◌∷◌, ◌++◌, append-nil, append_assoc}
use lib.ListN.{length, take, drop}
use borrow.Author.Tests.{ne_eqb}
use Rattle.std.specs.Prelude.{Ok, Err}
use Rattle.terms.specs.declared.Event.{Event}
use Rattle.terms.specs.declared.Settings.{Settings}
use Rattle.terms.specs.Refusals.{Verdict}
use Rattle.terms.specs.Settings.{settings_verdict}
use Rattle.lines_text_law.specs.Grammar.{LineAnswer, whole, unfinished, wrong}
use Rattle.lines_text_law.proofs.Sorts as sorts
use Rattle.lines_reading_law.specs.Lines.{render_settings}
use Rattle.lines_reading_law.specs.Answers.{read_event, read_settings}
use Rattle.lines_reading_law.proofs.EventLines.{event-lines}
use Rattle.lines_reading_law.proofs.SettingsLines.{settings-lines}
use Rattle.state_law.specs.Opening.{opening_of, opened_by, fixed_session}
use Rattle.state_law.specs.Day.{Day, opened}
use Rattle.engine_law.specs.Outcome.{outcome, after}
use Rattle.engine_law.proofs.Kept.{refused-nothing}
use Rattle.engine_law.proofs.Joined.{after-append}
use Rattle.feed_law.specs.declared.Stage.{Stage}
use Rattle.feed_law.specs.Worlds.{days}
use Rattle.feed_law.specs.Turns.{Turn, turn_of, event_turn, settings_turn, stage_by, saves_by, said_in}
use Rattle.feed_law.specs.Saving.{saved_in, state_in}
use Rattle.resume_law.specs.Saved.{event_lines, saved, any_event, AllAccepted}
use Rattle.resume_law.specs.Rebuilt.{Rebuilt, rebuilt, resumed}
use Rattle.resume_law.specs.Comes.FoundAs.{comes_back}
use Rattle.resume_law.proofs.Ones.{one_coming}
use Rattle.resume_law.proofs.Finds.{lines-append}
use Rattle.promises.specs.Resumed.{FileHolds, ProgramComesBack, saved_on, state_on, ProgramGoesOn}
use Rattle.promises.specs.Resumed.FileHolds.{nothing, the_day}
use Rattle.promises.proofs.Counts.{Counted, counted}

-- ---- one line, by its turn

module _ (n : ℕ) (stage : Stage) (d : Day) (bytes : List ℕ) (t : Turn Day) (turn : turn_of days stage d bytes ≡ t) where
  -- no line is taken
  none-saved : t.used ≡ 0 → t.saves ≡ 0 → saved_in days (suc n) stage d bytes ≡ []
  unfolding said_in
  none-saved u s = rw (turn, u, s) refl

  none-moved : t.used ≡ 0 → state_in days (suc n) stage d bytes ≡ t.world
  unfolding state_in
  none-moved u = rw (turn, u) refl

  -- a line is taken, and others follow
  module _ (some : t.used ≡ 0 → ⊥) where
    saved-on : saved_in days (suc n) stage d bytes ≡ take t.saves bytes ++ saved_in days n t.stage t.world (drop t.used bytes)
    unfolding said_in
    saved-on = rw (turn, ne_eqb t.used 0 some) refl

    moved_on : state_in days (suc n) stage d bytes ≡ state_in days n t.stage t.world (drop t.used bytes)
    unfolding state_in
    moved_on = rw (turn, ne_eqb t.used 0 some) refl

-- ---- once the run is over

over-saved : (n : ℕ) (d : Day) (bytes : List ℕ) → saved_in days n Stage.Over d bytes ≡ []
unfolding said_in
over-saved zero d bytes = refl
over-saved (suc n) d bytes = none-saved n Stage.Over d bytes _ refl refl refl

-- ---- lines of events, from a day on

record Trades (n : ℕ) (d : Day) (bytes : List ℕ) : Type 0 where
  events : List Event
  lines : saved_in days n Stage.Trading d bytes ≡ event_lines events
  accepted : AllAccepted d events
  day : state_in days n Stage.Trading d bytes ≡ after d events

-- nothing more is saved
still : (n : ℕ) (d : Day) (bytes : List ℕ) → saved_in days n Stage.Trading d bytes ≡ [] → state_in days n Stage.Trading d bytes ≡ d → Trades n d bytes
unfolding event_lines after
still n d bytes s w = record { events = []; lines = s; accepted = tt; day = w }

module _ (n : ℕ) (d : Day) (bytes : List ℕ) (e : Event) (m : ℕ) (q : read_event bytes ≡ whole e m) where
  turn_is : (v : Verdict) → (outcome d e).verdict ≡ v → (turn_of days Stage.Trading d bytes).saves ≡ saves_by v m
  unfolding days
  turn_is v w = ap (λ (a : LineAnswer Event). (event_turn days d a).saves) q ∙ ap (λ (x : Verdict). saves_by x m) w

  stage_is : (turn_of days Stage.Trading d bytes).stage ≡ Stage.Trading
  stage_is = ap (λ (a : LineAnswer Event). (event_turn days d a).stage) q

  world_is : (turn_of days Stage.Trading d bytes).world ≡ (outcome d e).day
  unfolding days
  world_is = ap (λ (a : LineAnswer Event). (event_turn days d a).world) q

  used_is : (turn_of days Stage.Trading d bytes).used ≡ m
  used_is = ap (λ (a : LineAnswer Event). (event_turn days d a).used) q

  some : (turn_of days Stage.Trading d bytes).used ≡ 0 → ⊥
  some z = sorts.some event-lines bytes e m (rw q at (event-lines.right bytes)) (sym used_is ∙ z)

  abbrev Next : Type 0
  Next = Trades n (outcome d e).day (drop m bytes)

  saves-on : (v : Verdict) → (outcome d e).verdict ≡ v →
      saved_in days (suc n) Stage.Trading d bytes ≡ take (saves_by v m) bytes ++ saved_in days n Stage.Trading (outcome d e).day (drop m bytes)
  saves-on v w =
      saved-on n Stage.Trading d bytes _ refl some
      ∙ (λ i. take (turn_is v w i) bytes ++ saved_in days n (stage_is i) (world_is i) (drop (used_is i) bytes))

  moves_on : state_in days (suc n) Stage.Trading d bytes ≡ state_in days n Stage.Trading (outcome d e).day (drop m bytes)
  moves_on = moved_on n Stage.Trading d bytes _ refl some ∙ (λ i. state_in days n (stage_is i) (world_is i) (drop (used_is i) bytes))

  trades_by : (v : Verdict) → (outcome d e).verdict ≡ v → Next → Trades (suc n) d bytes
  unfolding event_lines after
  trades_by (Ok _) v k =
      record {
        events = e ∷ k.events;
        lines = saves-on (Ok tt) v ∙ (λ i. event-lines.spelled bytes e m q i ++ k.lines i);
        accepted = (v, k.accepted);
        day = moves_on ∙ k.day;
      }
  trades_by (Err r) v k =
      let same : (outcome d e).day ≡ d = (refused-nothing d e r v).0 in
      record {
        events = k.events;
        lines = saves-on (Err r) v ∙ k.lines;
        accepted = subst (λ (x : Day). AllAccepted x k.events) same k.accepted;
        day = moves_on ∙ k.day ∙ ap (λ (x : Day). after x k.events) same;
      }

-- by how the next line is read, with what is known of fewer lines
trades_read : (n : ℕ) → ((d : Day) (bytes : List ℕ) → Trades n d bytes) → (d : Day) (bytes : List ℕ) (o : LineAnswer Event) → read_event bytes ≡ o →
    Trades (suc n) d bytes
trades_read n again d bytes (whole e m) q = trades_by n d bytes e m q (outcome d e).verdict refl (again (outcome d e).day (drop m bytes))
trades_read n again d bytes unfinished q =
    let t : turn_of days Stage.Trading d bytes ≡ event_turn days d unfinished = ap (event_turn days d) q in
    still (suc n) d bytes (none-saved n Stage.Trading d bytes _ t refl refl) (none-moved n Stage.Trading d bytes _ t refl)
trades_read n again d bytes (wrong m) q =
    let t : turn_of days Stage.Trading d bytes ≡ event_turn days d (wrong m) = ap (event_turn days d) q in
    still (suc n) d bytes (none-saved n Stage.Trading d bytes _ t refl refl) (none-moved n Stage.Trading d bytes _ t refl)

trades : (n : ℕ) (d : Day) (bytes : List ℕ) → Trades n d bytes
unfolding said_in state_in
trades zero d bytes = still zero d bytes refl refl
trades (suc n) d bytes = trades_read n (trades n) d bytes (read_event bytes) refl

-- ---- a whole input

abbrev none : Day
none = record { session = fixed_session; buys = []; sells = [] }

-- what at most n lines of the input come to
data Begins (n : ℕ) (input : List ℕ) : Type 0 where
  unbegun : saved_in days n Stage.Awaiting none input ≡ [] → Begins n input
  begun : (g : Settings) (es : List Event) → saved_in days n Stage.Awaiting none input ≡ saved g es → settings_verdict g ≡ Ok tt →
      AllAccepted (opened g) es → state_in days n Stage.Awaiting none input ≡ after (opened g) es → Begins n input

module _ (n : ℕ) (input : List ℕ) (g : Settings) (m : ℕ) (q : read_settings input ≡ whole g m) where
  turns : turn_of days Stage.Awaiting none input ≡ settings_turn days none (whole g m)
  turns = ap (settings_turn days none) q

  taken : m ≡ 0 → ⊥
  taken = sorts.some settings-lines input g m (rw q at (settings-lines.right input))

  opens : (v : Verdict) → settings_verdict g ≡ v → opening_of g ≡ opened_by g v
  unfolding opening_of
  opens v w = ap (opened_by g) w

  begins_by : (v : Verdict) → settings_verdict g ≡ v → Begins (suc n) input
  unfolding days
  begins_by (Ok _) v =
      let o = opens (Ok tt) v in
      let k : Trades n (opened g) (drop m input) = trades n (opened g) (drop m input) in
      begun g k.events
      (saved-on n Stage.Awaiting none input _ turns taken
      ∙ (λ i. take (saves_by (o i).verdict m) input
      ++ saved_in days n (stage_by (o i).verdict) (record { session = (o i).session; buys = []; sells = [] }) (drop m input))
      ∙ (λ i. settings-lines.spelled input g m q i ++ k.lines i))
      v k.accepted
      (moved_on n Stage.Awaiting none input _ turns taken
      ∙ (λ i. state_in days n (stage_by (o i).verdict) (record { session = (o i).session; buys = []; sells = [] }) (drop m input))
      ∙ k.day)
  begins_by (Err r) v =
      let o = opens (Err r) v in
      unbegun
      (saved-on n Stage.Awaiting none input _ turns taken
      ∙ (λ i. take (saves_by (o i).verdict m) input
      ++ saved_in days n (stage_by (o i).verdict) (record { session = (o i).session; buys = []; sells = [] }) (drop m input))
      ∙ over-saved n (record { session = fixed_session; buys = []; sells = [] }) (drop m input))

begins_read : (n : ℕ) (input : List ℕ) (o : LineAnswer Settings) → read_settings input ≡ o → Begins (suc n) input
begins_read n input (whole g m) q = begins_by n input g m q (settings_verdict g) refl
begins_read n input unfinished q = unbegun (none-saved n Stage.Awaiting none input _ (ap (settings_turn days none) q) refl refl)
begins_read n input (wrong m) q = unbegun (none-saved n Stage.Awaiting none input _ (ap (settings_turn days none) q) refl refl)

begins : (n : ℕ) (input : List ℕ) → Begins n input
unfolding said_in
begins zero input = unbegun refl
begins (suc n) input = begins_read n input (read_settings input) refl

pub program_comes_back : ProgramComesBack
program_comes_back input = go (begins (length input) input)
  where
    go : Begins (length input) input → FileHolds input
    go (unbegun e) = nothing e
    go (begun g es e v a w) =
        the_day g es e v a
        (sym (one_coming _ _ (comes_back g es [] (e ∙ sym (append-nil (saved g es))) v a event-lines.none))
        ∙ (λ i. rebuilt (length (sym e i)) (any_event es) (sym w i)))

-- ---- killed and brought back

accepted-append : (d : Day) (es more : List Event) → AllAccepted d es → AllAccepted (after d es) more → AllAccepted d (es ++ more)
unfolding after
accepted-append d [] more a b = b
accepted-append d (e ∷ es) more a b = (a.0, accepted-append (outcome d e).day es more a.1 b)

saved-append : (g : Settings) (es more : List Event) → saved g es ++ event_lines more ≡ saved g (es ++ more)
saved-append g es more =
    append_assoc (render_settings g) (event_lines es) (event_lines more) ∙ ap (λ (x : List ℕ). render_settings g ++ x) (sym (lines-append es more))

pub program_goes-on : ProgramGoesOn
program_goes-on file input n answer =
    let k : Counted file n = counted file n answer in
    let d : Day = (resumed file).day in
    let day_is : after (opened k.g) k.es ≡ d = sym (ap (λ (x : Rebuilt). x.day) k.comes) in
    let t : Trades (length input) d input = trades (length input) d input in
    let all : List Event = k.es ++ t.events in
    let bytes : take n file ++ saved_on d input ≡ saved k.g all = (λ i. k.lines i ++ t.lines i) ∙ saved-append k.g k.es t.events in
    let accepted : AllAccepted (opened k.g) all =
    accepted-append (opened k.g) k.es t.events k.accepted (subst (λ (x : Day). AllAccepted x t.events) (sym day_is) t.accepted) in
    let day : after (opened k.g) all ≡ state_on d input =
    after-append (opened k.g) k.es t.events ∙ ap (λ (x : Day). after x t.events) day_is ∙ sym t.day in
    let comes : resumed (take n file ++ saved_on d input) ≡ rebuilt (length (saved k.g all)) (any_event all) (after (opened k.g) all) =
    sym (one_coming _ _ (comes_back k.g all [] (bytes ∙ sym (append-nil (saved k.g all))) k.settings accepted event-lines.none)) in (
      ap (λ (x : Rebuilt). x.answer) comes ∙ ap (λ (x : List ℕ). Ok (length x)) (sym bytes),
      ap (λ (x : Rebuilt). x.day) comes ∙ day,
    )
