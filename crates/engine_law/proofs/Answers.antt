-- What a call answers, by the paper's numbers: its number is that of the first row that applies, its count is that of its reports. This
-- holds of any session, sound or not.
use Prim.Native.Nat.{ℕ}
use mathlib.Core.Path.{◌≡◌, refl, ap, ◌∙◌}
use mathlib.Core.List.{List}
use lib.ListN.{length}
use Rattle.std.specs.Prelude.{Ok, Err}
use Rattle.terms.specs.declared.Event.{Event}
use Rattle.terms.specs.Refusals.{Verdict, code_of}
use Rattle.state_law.specs.declared.Session.{Session}
use Rattle.state_law.specs.Day.{Day}
use Rattle.soundness_law.specs.Sound.{day_in}
use Rattle.acts_law.specs.Acts.{Acted, act}
use Rattle.engine_law.specs.declared.Applied.{Applied}
use Rattle.engine_law.specs.Outcome.{decided}
use Rattle.engine_law.specs.Answers.{answer_code, answer_count}
use Rattle.engine_law.specs.Calls.{call_verdict, called, answer_by, AppliedAs}

-- an answer has the number of its verdict, whatever was counted
pub code_by : (v : Verdict) (count : ℕ) → answer_code (answer_by v count) ≡ code_of v
code_by (Ok _) count = refl
code_by (Err r) count = refl

-- an answer counts the reports of its verdict: a refusal has none
count_by : (v : Verdict) (d : Day) (a : Acted) →
    answer_count (answer_by (decided v d a).verdict (length (decided v d a).reports)) ≡ length (decided v d a).reports
count_by (Ok _) d a = refl
count_by (Err r) d a = refl

decided_by : (v : Verdict) (d : Day) (a : Acted) → (decided v d a).verdict ≡ v
decided_by (Ok _) d a = refl
decided_by (Err r) d a = refl

module _ (s : Session) (e : Event) (buys sells room : List ℕ) where
  pub called-verdict : (called s e buys sells room).verdict ≡ call_verdict s e buys sells room
  unfolding called
  called-verdict = decided_by (call_verdict s e buys sells room) (day_in s buys sells) (act (day_in s buys sells) e)

  module _ (buys' sells' room' : List ℕ) (r : Applied) (k : AppliedAs s e buys sells room buys' sells' room' r) where
    pub answered_code : answer_code r.answer ≡ code_of (call_verdict s e buys sells room)
    answered_code = ap answer_code k.answer ∙ code_by (called s e buys sells room).verdict _ ∙ ap code_of called-verdict

    pub answered-count : answer_count r.answer ≡ length (called s e buys sells room).reports
    unfolding called
    answered-count = ap answer_count k.answer ∙ count_by (call_verdict s e buys sells room) (day_in s buys sells) (act (day_in s buys sells) e)
