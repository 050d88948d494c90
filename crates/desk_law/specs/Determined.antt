-- DETERMINACY AT THE BOUNDARY: a contract allows one result for one input. Two results of a call coincide, with every lent number.
use Rattle.std.specs.Prelude.{ℕ, ◌≡◌, List}
use Rattle.terms.specs.Refusals.{Verdict}
use Rattle.lines_text_law.specs.Grammar.{LineAnswer}
use Rattle.feed_law.specs.Feeds.{Feed}
use Rattle.desk_law.specs.Calls.{OpenedAs, AppliedOn, sound_on, view_on}
use Rattle.desk_law.specs.Reads.{ReadInto}
use Rattle.desk_law.specs.Writes.{WrittenOn}
use Rattle.desk_law.specs.Feeding.{StartedAs, FedAs}
use Rattle.desk_law.specs.Standings.{StandingOn}
use Rattle.desk_law.specs.Resuming.{ResumedInto, ResumedLentInto}
use Rattle.desk_packing_law.specs.Runs.{layout}
use Rattle.desk_law.specs.Versions.{version}

-- `kakoludar_open`
abbrev pub OpenDetermined : Type 0
OpenDetermined = (gs run run₁ run₂ : List ℕ) (r₁ r₂ : ℕ) → OpenedAs gs run run₁ r₁ → OpenedAs gs run run₂ r₂ → (r₁ ≡ r₂) × (run₁ ≡ run₂)

-- all that a call of `kakoludar_apply` answers and leaves
pub record Coincide (run buys sells room run' buys' sells' room' : List ℕ) (r r' : ℕ) : Type 0 where
  pub answer : r ≡ r'
  pub kept : run ≡ run'
  pub bought : buys ≡ buys'
  pub sold : sells ≡ sells'
  pub told : room ≡ room'

abbrev pub ApplyDetermined : Type 0
ApplyDetermined =
    (run event buys sells room run₁ buys₁ sells₁ room₁ run₂ buys₂ sells₂ room₂ : List ℕ) (r₁ r₂ : ℕ) →
    AppliedOn run event buys sells room run₁ buys₁ sells₁ room₁ r₁ → AppliedOn run event buys sells room run₂ buys₂ sells₂ room₂ r₂ →
    Coincide run₁ buys₁ sells₁ room₁ run₂ buys₂ sells₂ room₂ r₁ r₂

-- `kakoludar_read_event` and `kakoludar_read_settings`
abbrev pub ReadDetermined : Type 1
ReadDetermined =
    (E : Type 0) (numbers : E → List ℕ) (n : ℕ) (a : LineAnswer E) (run run₁ run₂ : List ℕ) (r₁ r₂ : ℕ) →
    ReadInto numbers n a run run₁ r₁ → ReadInto numbers n a run run₂ r₂ → (r₁ ≡ r₂) × (run₁ ≡ run₂)

-- `kakoludar_write_settings`, `kakoludar_write_event` and `kakoludar_write_report`
abbrev pub WriteDetermined : Type 0
WriteDetermined =
    (v : Verdict) (line room room₁ room₂ : List ℕ) (r₁ r₂ : ℕ) → WrittenOn v line room room₁ r₁ → WrittenOn v line room room₂ r₂ → (r₁ ≡ r₂) × (room₁ ≡ room₂)

-- `kakoludar_start`
abbrev pub StartDetermined : Type 0
StartDetermined = (run run₁ run₂ : List ℕ) (r₁ r₂ : ℕ) → StartedAs run run₁ r₁ → StartedAs run run₂ r₂ → (r₁ ≡ r₂) × (run₁ ≡ run₂)

-- `kakoludar_feed` and `kakoludar_end`: the answer, and all six slices that they may write
abbrev pub FeedDetermined : Type 0
FeedDetermined =
    (of : Feed)
    (run bytes buys sells room out counts run₁ buys₁ sells₁ room₁ out₁ counts₁ run₂ buys₂ sells₂ room₂ out₂ counts₂ : List ℕ) (r₁ r₂ : ℕ) →
    FedAs of run bytes buys sells room out counts run₁ buys₁ sells₁ room₁ out₁ counts₁ r₁ →
    FedAs of run bytes buys sells room out counts run₂ buys₂ sells₂ room₂ out₂ counts₂ r₂ →
    Coincide run₁ buys₁ sells₁ room₁ run₂ buys₂ sells₂ room₂ r₁ r₂ × (out₁ ≡ out₂) × (counts₁ ≡ counts₂)

-- all that both calls that resume answer and leave
pub record SameResumed (run buys sells place run' buys' sells' place' : List ℕ) (r r' : ℕ) : Type 0 where
  pub answer : r ≡ r'
  pub kept : run ≡ run'
  pub bought : buys ≡ buys'
  pub sold : sells ≡ sells'
  pub placed : place ≡ place'

-- `kakoludar_resume`
abbrev pub ResumeDetermined : Type 0
ResumeDetermined =
    (bytes run buys sells place run₁ buys₁ sells₁ place₁ run₂ buys₂ sells₂ place₂ : List ℕ) (r₁ r₂ : ℕ) →
    ResumedInto bytes run buys sells place run₁ buys₁ sells₁ place₁ r₁ → ResumedInto bytes run buys sells place run₂ buys₂ sells₂ place₂ r₂ →
    SameResumed run₁ buys₁ sells₁ place₁ run₂ buys₂ sells₂ place₂ r₁ r₂

-- `kakoludar_resume_lent`, with its scratch
abbrev pub ResumeLentDetermined : Type 0
ResumeLentDetermined =
    (bytes run buys sells place bought sold room run₁ buys₁ sells₁ place₁ bought₁ sold₁ room₁ run₂ buys₂ sells₂ place₂ bought₂ sold₂ room₂ : List ℕ)
    (r₁ r₂ : ℕ) →
    ResumedLentInto bytes run buys sells place bought sold room run₁ buys₁ sells₁ place₁ bought₁ sold₁ room₁ r₁ →
    ResumedLentInto bytes run buys sells place bought sold room run₂ buys₂ sells₂ place₂ bought₂ sold₂ room₂ r₂ →
    SameResumed run₁ buys₁ sells₁ place₁ run₂ buys₂ sells₂ place₂ r₁ r₂ × (bought₁ ≡ bought₂) × (sold₁ ≡ sold₂) × (room₁ ≡ room₂)

-- `kakoludar_sound` and `kakoludar_view`
abbrev pub SoundDetermined : Type 0
SoundDetermined = (run buys sells : List ℕ) (r₁ r₂ : ℕ) → r₁ ≡ sound_on run buys sells → r₂ ≡ sound_on run buys sells → r₁ ≡ r₂

abbrev pub ViewDetermined : Type 0
ViewDetermined = (side : ℕ) (run buys sells : List ℕ) (r₁ r₂ : ℕ) → r₁ ≡ view_on side run buys sells → r₂ ≡ view_on side run buys sells → r₁ ≡ r₂

-- `kakoludar_standing`
abbrev pub StandingDetermined : Type 0
StandingDetermined =
    (run buys sells standing standing₁ standing₂ : List ℕ) (r₁ r₂ : ℕ) →
    StandingOn run buys sells standing standing₁ r₁ → StandingOn run buys sells standing standing₂ r₂ → (r₁ ≡ r₂) × (standing₁ ≡ standing₂)

-- `kakoludar_version` and `kakoludar_layout`
abbrev pub VersionDetermined : Type 0
VersionDetermined = (r₁ r₂ : ℕ) → r₁ ≡ version → r₂ ≡ version → r₁ ≡ r₂

abbrev pub LayoutDetermined : Type 0
LayoutDetermined = (r₁ r₂ : ℕ) → r₁ ≡ layout → r₂ ≡ layout → r₁ ≡ r₂
