-- The loop over the event lines of saved bytes: what is left of them, from where it stands, makes up the whole.
use Prim.Native.Nat.{ℕ, suc, ◌+◌, ◌-◌, ◌^◌, ◌≤◌, ◌<◌}
use native.Mathlib.Omega.{arith}
use mathlib.Core.Path.{◌≡◌, refl, sym, ap, ◌∙◌, subst}
use mathlib.Core.Bool.{Bool, true, false}
use mathlib.Core.List.{List}
use lib.ListN.{length, drop, length-drop}
use lib.Seq.{drop-drop}
use Rattle.std.specs.Prelude.{Ok, Err}
use Rattle.terms.specs.declared.Event.{Event}
use Rattle.terms.specs.declared.Refusal.{Refusal}
use Rattle.terms.specs.declared.Refusal.TheVariants.{LineWrong, LineRefused}
use Rattle.terms.specs.Refusals.{Verdict}
use Rattle.lines_text_law.specs.Grammar.{LineAnswer, whole, unfinished, wrong}
use Rattle.lines_text_law.specs.Reading.{Right}
use Rattle.lines_reading_law.specs.Lines.{EventLine}
use Rattle.lines_reading_law.specs.Answers.{read_event}
use Rattle.lines_text_law.proofs.Sorts as sorts
use Rattle.lines_reading_law.proofs.EventLines.{event-lines}
use Rattle.state_law.specs.declared.Session.{Session}
use Rattle.state_law.specs.Opening.{fixed_session}
use Rattle.state_law.specs.Day.{Day}
use Rattle.soundness_law.specs.Sound.{day_in}
use Rattle.engine_law.specs.Outcome.{outcome}
use Rattle.engine_law.specs.Calls.{LongEnough}
use Rattle.resume_law.specs.Answers.{Comeback, SavedLine, bad_at}
use Rattle.resume_law.specs.declared.Halt.{Halt}
use Rattle.resume_law.specs.declared.Halted.{Halted}
use Rattle.resume_law.specs.declared.Replayed.{Replayed}
use Rattle.resume_law.specs.declared.LineReplayed.{LineReplayed}
use Rattle.resume_law.specs.Rebuilt.{Rebuilt, rebuilt, refused, Step, line_by, step_of, used_by, lines_from}
use Rattle.resume_law.specs.code.Replaying.{Clean, LineReplayedAs, LineFrom, place_in, place_on, replayed_to, stopped_at, held_from, ReplayedAs, CountsWithin, LinesReplayed, Halts}
use Rattle.resume_law.proofs.Lines.{line-applied, line_refused, line-unfinished, line_wrong, lines_none}
use Rattle.resume_law.proofs.Finds.{none_left}

pub record Replaying (bytes : List ℕ) (x : Rebuilt) (now : Session) (buys sells : List ℕ) (at : ℕ) (moved : Bool) : Type 0 where
  pub fuel : ℕ
  pub within : at ≤ length bytes
  pub enough : length bytes ≤ at + fuel
  pub rest : x ≡ lines_from fuel at moved (day_in now buys sells) (drop at bytes)
  pub clean : moved ≡ true → Clean now buys sells

-- what keeps its length stays long
pub long_kept : (buys sells room buys' sells' room' : List ℕ) → LongEnough buys sells room → length buys' ≡ length buys → length sells' ≡ length sells →
    length room' ≡ length room → LongEnough buys' sells' room'
long_kept buys sells room buys' sells' room' h b s r =
    record { buys_long = rw b h.buys_long; sells_long = rw s h.sells_long; room_long = rw r h.room_long }

-- before the first line
pub replaying_start : (bytes : List ℕ) (first : ℕ) (now : Session) (buys sells : List ℕ) → first ≤ length bytes →
    Replaying bytes (held_from bytes first now buys sells) now buys sells first false
replaying_start bytes first now buys sells h =
    record {
      fuel = length bytes;
      within = h;
      enough = omega arith;
      rest = refl;
      clean = λ e. absurd (let z : ◌≡◌ {A = ℕ} 0 1 = cc in omega arith);
    }

-- a refusal, whatever the tables hold
refused_as : {x : Rebuilt} {buys sells : List ℕ} {y : Replayed} {r : Refusal} {n : ℕ} → x ≡ refused r n → y ≡ replayed_to (bad_at r n) fixed_session false →
    ReplayedAs x buys sells y
refused_as {x} {buys} {sells} {y} e q =
    subst (λ (z : Rebuilt). ReplayedAs z buys sells y) (sym e)
    (record {
      answer = ap (λ (z : Replayed). z.answer) q;
      session = ap (λ (z : Replayed). z.session) q;
      moved = ap (λ (z : Replayed). z.moved) q;
      bought = λ m. absurd (let z : ◌≡◌ {A = ℕ} 0 1 = cc in omega arith);
      sold = λ m. absurd (let z : ◌≡◌ {A = ℕ} 0 1 = cc in omega arith);
    })

-- lines that come to an end
ended_as : {x : Rebuilt} {now : Session} {buys sells : List ℕ} {y : Replayed} {at : ℕ} {moved : Bool} → (moved ≡ true → Clean now buys sells) →
    x ≡ rebuilt at moved (day_in now buys sells) → y ≡ replayed_to (Ok at) now moved → ReplayedAs x buys sells y
ended_as {x} {now} {buys} {sells} {y} c e q =
    subst (λ (z : Rebuilt). ReplayedAs z buys sells y) (sym e)
    (record {
      answer = ap (λ (z : Replayed). z.answer) q;
      session = ap (λ (z : Replayed). z.session) q;
      moved = ap (λ (z : Replayed). z.moved) q;
      bought = λ m. (c m).bought;
      sold = λ m. (c m).sold;
    })

-- a line is applied or not, and so in one way
applied-or : {l : SavedLine} {n : ℕ} {h : Halt} {P : Type 0} → l ≡ Ok n → l ≡ Err h → P
applied-or p q = absurd (let z : ◌≡◌ {A = ℕ} 0 1 = cc in omega arith)

same-used : {l : SavedLine} {n k : ℕ} → l ≡ Ok n → l ≡ Ok k → n ≡ k
same-used p q = cc

same-halt : {l : SavedLine} {h k : Halt} → l ≡ Err h → l ≡ Err k → h ≡ k
same-halt p q = cc

module _ (bytes : List ℕ) (x : Rebuilt) (now : Session) (buys sells : List ℕ) (at : ℕ) (moved : Bool) (g : Replaying bytes x now buys sells at moved) where
  abbrev d : Day
  d = day_in now buys sells

  abbrev left : List ℕ
  left = drop at bytes

  -- at the end of the bytes
  pub replaying_end : length bytes < 2 ^ 64 → length bytes ≤ at → Halts bytes x buys sells (record { halt = Halt.Unfinished; at = at; session = now; moved = moved })
  replaying_end l h =
      let none : length left ≤ 0 = rw (length-drop at bytes) (omega arith) in
      record {
        comes = ended_as g.clean (g.rest ∙ ap (lines_from g.fuel at moved d) (none_left left none) ∙ lines_none g.fuel at moved d) refl;
        within = g.within;
        fits = omega (arith, g.within);
      }

  module _ (more : at < length bytes) where
    fuelled : g.fuel ≡ suc (g.fuel - 1)
    fuelled = omega (arith, g.enough)

    again : x ≡ lines_from (suc (g.fuel - 1)) at moved d left
    again = g.rest ∙ ap (λ (n : ℕ). lines_from n at moved d left) fuelled

    module _ (buys' sells' : List ℕ) (r : LineReplayed) (k : LineFrom now bytes at buys sells buys' sells' r) where
      stepped : LineReplayedAs (step_of d (read_event left)) buys sells buys' sells' r
      stepped = k.replayed

      by_read : (o : LineAnswer Event) → read_event left ≡ o → LineReplayedAs (step_of d o) buys sells buys' sells' r
      by_read o e = subst (λ (z : LineAnswer Event). LineReplayedAs (step_of d z) buys sells buys' sells' r) e stepped

      abbrev Judged : Event → ℕ → Verdict → Step
      Judged e n v = record { line = line_by v n; day = (outcome d e).day }

      by_verdict : (e : Event) (n : ℕ) (v : Verdict) → read_event left ≡ whole e n → (outcome d e).verdict ≡ v → LineReplayedAs (Judged e n v) buys sells buys' sells' r
      by_verdict e n v q w = subst (λ (z : Verdict). LineReplayedAs (Judged e n z) buys sells buys' sells' r) w (by_read (whole e n) q)

      right-at : (e : Event) (n : ℕ) → read_event left ≡ whole e n → Right EventLine left (whole e n)
      right-at e n q = rw q at (event-lines.right left)

      -- ---- no line is applied

      abbrev Stops : Type 0
      Stops = (halt : Halt) (y : Replayed) → r.line ≡ Err halt → y ≡ stopped_at halt at r.session moved → ReplayedAs x buys' sells' y

      stops_judged : (e : Event) (n : ℕ) (v : Verdict) → read_event left ≡ whole e n → (outcome d e).verdict ≡ v → Stops
      stops_judged e n (Ok _) q w halt y u h = applied-or (by_verdict e n (Ok tt) q w).line u
      stops_judged e n (Err f) q w halt y u h =
          refused_as (again ∙ line_refused at moved d left (g.fuel - 1) e n f q w)
          (h ∙ ap (λ (l : Halt). stopped_at l at r.session moved) (same-halt u (by_verdict e n (Err f) q w).line))

      same-session : read_event left ≡ unfinished → r.session ≡ now
      same-session q = ap (λ (z : Day). z.session) (by_read unfinished q).day

      stops_by : (o : LineAnswer Event) → read_event left ≡ o → Stops
      stops_by (whole e n) q halt y u h = stops_judged e n (outcome d e).verdict q refl halt y u h
      stops_by unfinished q halt y u h =
          let t = by_read unfinished q in
          let same = t.same refl in
          let tables : ReplayedAs x buys sells y =
          ended_as g.clean (again ∙ line-unfinished at moved d left (suc (g.fuel - 1)) q)
          (h ∙ ap (λ (l : Halt). stopped_at l at r.session moved) (same-halt u t.line) ∙ ap (λ (s : Session). replayed_to (Ok at) s moved) (same-session q)) in
          subst (λ (z : List ℕ). ReplayedAs x buys' z y) (sym same.1) (subst (λ (z : List ℕ). ReplayedAs x z sells y) (sym same.0) tables)
      stops_by (wrong n) q halt y u h =
          refused_as (again ∙ line_wrong at moved d left (g.fuel - 1) n q)
          (h ∙ ap (λ (l : Halt). stopped_at l at r.session moved) (same-halt u (by_read (wrong n) q).line))

      pub replaying_stops : (halt : Halt) → length bytes < 2 ^ 64 → r.line ≡ Err halt →
          Halts bytes x buys' sells' (record { halt = halt; at = at; session = r.session; moved = moved })
      replaying_stops halt l u =
          let p : place_on r.line ≡ place_in halt = ap place_on u in
          record { comes = stops_by (read_event left) refl halt _ u refl; within = g.within; fits = omega (arith, k.place_there) }

      -- ---- a line is applied

      abbrev Goes : Type 0
      Goes = (used : ℕ) → r.line ≡ Ok used → (0 < used) × Replaying bytes x r.session buys' sells' (at + used) true

      goes-applied : (e : Event) (n : ℕ) → read_event left ≡ whole e n → (outcome d e).verdict ≡ Ok tt → Goes
      goes-applied e n q w used line =
          let t = by_verdict e n (Ok tt) q w in
          let u : used ≡ n = same-used line t.line in
          let l = length-drop at bytes in
          let h = (right-at e n q).0 in
          let some : n ≡ 0 → ⊥ = sorts.some event-lines left e n (right-at e n q) in
          rw u (
            omega (arith, some),
            record {
              fuel = g.fuel - 1;
              within = omega arith;
              enough = omega (arith, g.enough, fuelled, some);
              rest =
                  again
                  ∙ line-applied at moved d left (g.fuel - 1) e n q w
                  ∙ (λ i. lines_from (g.fuel - 1) (at + n) true (sym t.day i) (drop-drop n at bytes i));
              clean = λ m. t.clean some;
            },
          )

      goes_judged : (e : Event) (n : ℕ) (v : Verdict) → read_event left ≡ whole e n → (outcome d e).verdict ≡ v → Goes
      goes_judged e n (Ok _) q w used line = goes-applied e n q w used line
      goes_judged e n (Err f) q w used line = applied-or line (by_verdict e n (Err f) q w).line

      goes_by : (o : LineAnswer Event) → read_event left ≡ o → Goes
      goes_by (whole e n) q used line = goes_judged e n (outcome d e).verdict q refl used line
      goes_by unfinished q used line = applied-or line (by_read unfinished q).line
      goes_by (wrong n) q used line = applied-or line (by_read (wrong n) q).line

      pub replaying_on : (used : ℕ) → r.line ≡ Ok used → Replaying bytes x r.session buys' sells' (at + used) true
      replaying_on used line = (goes_by (read_event left) refl used line).1

      -- so much of the bytes is taken, and it is some
      pub used-fits : (used : ℕ) → r.line ≡ Ok used → at + used ≤ length bytes
      used-fits used line = let u : used_by r.line ≡ used = ap used_by line in omega (arith, k.used_there)

      pub used-some : (used : ℕ) → r.line ≡ Ok used → 0 < used
      used-some used line = (goes_by (read_event left) refl used line).0

-- ---- where no line is applied

module _ (halt : Halt) (at : ℕ) (session : Session) (moved : Bool) (y : Replayed) where
  pub stops-refused : halt ≡ Halt.Refused → y ≡ replayed_to (bad_at LineRefused at) fixed_session false → y ≡ stopped_at halt at session moved
  stops-refused e q = rw e q

  pub stops-unfinished : halt ≡ Halt.Unfinished → y ≡ replayed_to (Ok at) session moved → y ≡ stopped_at halt at session moved
  stops-unfinished e q = rw e q

  pub stops-wrong : (n : ℕ) → halt ≡ Halt.Wrong n → y ≡ replayed_to (bad_at LineWrong (at + n)) fixed_session false →
      y ≡ stopped_at halt at session moved
  stops-wrong n e q = rw e q

-- the place of a wrong byte is a number of the machine
pub wrong-fits : (halt : Halt) (n at : ℕ) → halt ≡ Halt.Wrong n → at + place_in halt < 2 ^ 64 → at + n < 2 ^ 64
wrong-fits halt n at e h = rw e at h

-- where it halts tells the answer
stopped-within : (n : ℕ) (halt : Halt) (at : ℕ) (s : Session) (moved : Bool) → at ≤ n → CountsWithin n (stopped_at halt at s moved).answer
stopped-within n Halt.Refused at s moved h = tt
stopped-within n Halt.Unfinished at s moved h = h
stopped-within n (Halt.Wrong m) at s moved h = tt

pub halts_replayed : (bytes : List ℕ) (first : ℕ) (s : Session) (buys sells buys' sells' : List ℕ) (h : Halted) (y : Replayed) →
    Halts bytes (held_from bytes first s buys sells) buys' sells' h → y ≡ stopped_at h.halt h.at h.session h.moved →
    LinesReplayed bytes first s buys sells buys' sells' y
halts_replayed bytes first s buys sells buys' sells' h y k e =
    record {
      replayed = subst (ReplayedAs (held_from bytes first s buys sells) buys' sells') (sym e) k.comes;
      within = subst (λ (z : Replayed). CountsWithin (length bytes) z.answer) (sym e)
          (stopped-within (length bytes) h.halt h.at h.session h.moved k.within);
    }

-- with a refusal comes the fixed session
pub with_fixed : (y : Replayed) (a : Comeback) (s : Session) → y ≡ replayed_to a s false → s ≡ fixed_session → y ≡ replayed_to a fixed_session false
with_fixed y a s e f = e ∙ ap (λ (z : Session). replayed_to a z false) f
