-- Each contract gives the result by an equation, or fixes the one right answer to bytes, so two results for one input are equal.
use Prim.Native.Nat.{ℕ}
use mathlib.Core.Path.{◌≡◌, refl, sym, ap, ◌∙◌}
use mathlib.Core.List.{List}
use Rattle.std.specs.Prelude.{Result, Ok, Err}
use Rattle.lines_text_law.specs.declared.LineError.{LineError}
use Rattle.lines_text_law.specs.declared.LineError.TheVariants.{Unfinished, Wrong}
use Rattle.lines_text_law.specs.declared.Parsed.{Parsed}
use Rattle.lines_text_law.specs.Reading.{answered}
use Rattle.lines_text_law.specs.code.Pieces.{parsed}
use Rattle.lines_text_law.specs.Grammar.{LineAnswer, whole, unfinished, wrong}
use Rattle.lines_reading_law.proofs.EventLines.{event-lines}
use Rattle.lines_reading_law.proofs.SettingsLines.{settings-lines}
use Rattle.records_law.proofs.Told.{told-only}
use Rattle.lines_writing_law.proofs.Back.{writes_one}
use Rattle.feed_law.specs.Worlds.{Lent, lent_of}
use Rattle.resume_law.specs.declared.Resumed.{Resumed}
use Rattle.resume_law.specs.Rebuilt.{Rebuilt}
use Rattle.resume_law.specs.Calls.{ResumedBy}
use Rattle.promises.specs.Determined.{CheckDetermined, OpeningDetermined, ViewDetermined, StandingDetermined, ApplyDetermined, EventReadDetermined, SettingsReadDetermined, WriteDetermined, RecordReadDetermined, WalkDetermined, StartDetermined, FeedDetermined, SameResumed, ResumeDetermined, ResumeLentDetermined}

pub check_determined : CheckDetermined
check_determined g r r' e f = e ∙ sym f

pub opening_determined : OpeningDetermined
opening_determined g r r' e f = e ∙ sym f

pub view_determined : ViewDetermined
view_determined side s buys sells r r' e f = e ∙ sym f

pub standing_determined : StandingDetermined
standing_determined s buys sells r r' e f = e ∙ sym f

pub apply_determined : ApplyDetermined
apply_determined s e buys sells room buys₁ sells₁ room₁ buys₂ sells₂ room₂ r₁ r₂ a b =
    record {
      answer = a.answer ∙ sym b.answer;
      session = a.session ∙ sym b.session;
      bought = a.bought ∙ sym b.bought;
      sold = a.sold ∙ sym b.sold;
      told = a.told ∙ sym b.told;
    }

-- a reader's answer as code returns it, from the answer of the definitions
abbrev returned : {E : Type 0} → LineAnswer E → Result (Parsed E) LineError
returned (whole e n) = Ok (parsed e n)
returned unfinished = Err Unfinished
returned (wrong n) = Err (Wrong n)

returned-same : {E : Type 0} (r : Result (Parsed E) LineError) → returned (answered r) ≡ r
returned-same (Ok p) = refl
returned-same (Err Unfinished) = refl
returned-same (Err (Wrong n)) = refl

answered-one : {E : Type 0} (r r' : Result (Parsed E) LineError) → answered r ≡ answered r' → r ≡ r'
answered-one r r' q = sym (returned-same r) ∙ (ap returned q ∙ returned-same r')

pub event_read_determined : EventReadDetermined
event_read_determined bytes r r' a b = answered-one r r' (event-lines.only bytes (answered r) (answered r') a.right b.right)

pub settings_read_determined : SettingsReadDetermined
settings_read_determined bytes r r' a b = answered-one r r' (settings-lines.only bytes (answered r) (answered r') a.right b.right)

pub walk_determined : WalkDetermined
walk_determined bytes place r r' e f = answered-one r r' (e ∙ sym f)

pub write_determined : WriteDetermined
write_determined room line numbers room₁ room₂ r₁ r₂ a b = writes_one a b

pub record_read_determined : RecordReadDetermined
record_read_determined = told-only

pub start_determined : StartDetermined
start_determined r r' e f = e ∙ sym f

pub feed_determined : FeedDetermined
feed_determined of run buys sells room bytes out buys₁ sells₁ room₁ out₁ buys₂ sells₂ room₂ out₂ r₁ r₂ x y =
    let a = x.taken in
    let b = y.taken in
    let w : lent_of r₁.run.session buys₁ sells₁ room₁ ≡ lent_of r₂.run.session buys₂ sells₂ room₂ = a.world ∙ sym b.world in
    record {
      stage = a.stage ∙ sym b.stage;
      session = ap (λ (l : Lent). l.session) w;
      used = a.used ∙ sym b.used;
      wrote = a.printed.count ∙ sym b.printed.count;
      stop = a.stop ∙ sym b.stop;
      bought = ap (λ (l : Lent). l.buys) w;
      sold = ap (λ (l : Lent). l.sells) w;
      told = ap (λ (l : Lent). l.room) w;
      printed = a.printed.laid ∙ sym b.printed.laid;
    }

-- what a call that comes back leaves, given what the bytes come to
resumed_one : (x : Rebuilt) (buys sells buys₁ sells₁ buys₂ sells₂ : List ℕ) (r₁ r₂ : Resumed) → ResumedBy x buys sells buys₁ sells₁ r₁ →
    ResumedBy x buys sells buys₂ sells₂ r₂ → SameResumed r₁ r₂ buys₁ sells₁ buys₂ sells₂
resumed_one x buys sells buys₁ sells₁ buys₂ sells₂ r₁ r₂ a b =
    record {
      answer = a.answer ∙ sym b.answer;
      session = a.session ∙ sym b.session;
      bought = a.bought ∙ sym b.bought;
      sold = a.sold ∙ sym b.sold;
    }

pub resume_determined : ResumeDetermined
resume_determined bytes buys sells buys₁ sells₁ buys₂ sells₂ r₁ r₂ a b = resumed_one _ buys sells buys₁ sells₁ buys₂ sells₂ r₁ r₂ a b

pub resume_lent_determined : ResumeLentDetermined
resume_lent_determined bytes buys sells bought sold room buys₁ sells₁ bought₁ sold₁ room₁ buys₂ sells₂ bought₂ sold₂ room₂ r₁ r₂ a b =
    let s = a.scratch in
    let t = b.scratch in
    (resumed_one _ buys sells buys₁ sells₁ buys₂ sells₂ r₁ r₂ a.resumed b.resumed, s.first ∙ sym t.first, s.second ∙ sym t.second, s.third ∙ sym t.third)
