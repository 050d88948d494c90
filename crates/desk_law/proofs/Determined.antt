-- Each contract gives every result by an equation, so two results for one input are equal.
use Prim.Native.Nat.{ℕ}
use mathlib.Core.Path.{sym, ◌∙◌}
use mathlib.Core.List.{List}
use Rattle.resume_law.specs.Rebuilt.{Rebuilt}
use Rattle.desk_law.specs.Resuming.{ResumedLeft}
use Rattle.desk_law.specs.Determined.{OpenDetermined, ApplyDetermined, ReadDetermined, WriteDetermined, StartDetermined, FeedDetermined, SameResumed, ResumeDetermined, ResumeLentDetermined, SoundDetermined, ViewDetermined, StandingDetermined, VersionDetermined, LayoutDetermined}

pub open_determined : OpenDetermined
open_determined gs run run₁ run₂ r₁ r₂ a b = (a.answer ∙ sym b.answer, a.laid ∙ sym b.laid)

pub apply_determined : ApplyDetermined
apply_determined run event buys sells room run₁ buys₁ sells₁ room₁ run₂ buys₂ sells₂ room₂ r₁ r₂ a b =
    record {
      answer = a.answer ∙ sym b.answer;
      kept = a.kept ∙ sym b.kept;
      bought = a.bought ∙ sym b.bought;
      sold = a.sold ∙ sym b.sold;
      told = a.told ∙ sym b.told;
    }

pub read_determined : ReadDetermined
read_determined E numbers n a run run₁ run₂ r₁ r₂ x y = (x.answer ∙ sym y.answer, x.laid ∙ sym y.laid)

pub write_determined : WriteDetermined
write_determined v line room room₁ room₂ r₁ r₂ x y = (x.answer ∙ sym y.answer, x.laid ∙ sym y.laid)

pub start_determined : StartDetermined
start_determined run run₁ run₂ r₁ r₂ a b = (a.answer ∙ sym b.answer, a.laid ∙ sym b.laid)

pub feed_determined : FeedDetermined
feed_determined of run bytes buys sells room out counts run₁ buys₁ sells₁ room₁ out₁ counts₁ run₂ buys₂ sells₂ room₂ out₂ counts₂ r₁ r₂ x y =
    let a = x.left in
    let b = y.left in (
      record {
        answer = a.answer ∙ sym b.answer;
        kept = a.kept ∙ sym b.kept;
        bought = a.bought ∙ sym b.bought;
        sold = a.sold ∙ sym b.sold;
        told = a.told ∙ sym b.told;
      },
      a.printed ∙ sym b.printed,
      a.counted ∙ sym b.counted,
    )

-- what either call that resumes leaves, given what the bytes come to
pub resumed_one : {x : Rebuilt} {run buys sells place run₁ buys₁ sells₁ place₁ run₂ buys₂ sells₂ place₂ : List ℕ} {r₁ r₂ : ℕ} →
    ResumedLeft x run buys sells place run₁ buys₁ sells₁ place₁ r₁ → ResumedLeft x run buys sells place run₂ buys₂ sells₂ place₂ r₂ →
    SameResumed run₁ buys₁ sells₁ place₁ run₂ buys₂ sells₂ place₂ r₁ r₂
resumed_one a b =
    record {
      answer = a.answer ∙ sym b.answer;
      kept = a.kept ∙ sym b.kept;
      bought = a.bought ∙ sym b.bought;
      sold = a.sold ∙ sym b.sold;
      placed = a.placed ∙ sym b.placed;
    }

pub resume_determined : ResumeDetermined
resume_determined bytes run buys sells place run₁ buys₁ sells₁ place₁ run₂ buys₂ sells₂ place₂ r₁ r₂ a b = resumed_one a.left b.left

pub resume_lent_determined : ResumeLentDetermined
resume_lent_determined bytes run buys sells place bought sold room run₁ buys₁ sells₁ place₁ bought₁ sold₁ room₁ run₂ buys₂ sells₂ place₂ bought₂ sold₂ room₂ r₁ r₂ a b =
    let s = a.scratch in
    let t = b.scratch in
    (resumed_one a.left b.left, s.first ∙ sym t.first, s.second ∙ sym t.second, s.third ∙ sym t.third)

pub sound_determined : SoundDetermined
sound_determined run buys sells r₁ r₂ a b = a ∙ sym b

pub view_determined : ViewDetermined
view_determined side run buys sells r₁ r₂ a b = a ∙ sym b

pub standing_determined : StandingDetermined
standing_determined run buys sells standing standing₁ standing₂ r₁ r₂ a b =
    (a.stood.answer ∙ sym b.stood.answer, a.stood.laid ∙ sym b.stood.laid)

pub version_determined : VersionDetermined
version_determined r₁ r₂ a b = a ∙ sym b

pub layout_determined : LayoutDetermined
layout_determined r₁ r₂ a b = a ∙ sym b
