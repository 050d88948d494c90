-- What an app is answered for an event is the paper's number and the count of what the engine answers to it.
use Prim.Native.Nat.{ℕ, ◌≤◌}
use borrow.Author.Tests.{le-ltb}
use mathlib.Core.Path.{◌≡◌, refl, sym, ap, ◌∙◌}
use mathlib.Core.List.{List}
use lib.ListN.{length}
use Rattle.std.specs.Prelude.{Ok, Err}
use Rattle.terms.specs.Refusals.{Verdict}
use Rattle.engine_law.specs.declared.Applied.{Applied}
use Rattle.engine_law.specs.Answers.{answer_code, answer_count, Answer}
use Rattle.engine_law.specs.Outcome.{Outcome}
use Rattle.engine_law.specs.Calls.{called, answer_by, AppliedAs}
use Rattle.desk_packing_law.specs.Runs.{session_length, event_length}
use Rattle.desk_packing_law.specs.Sessions.{session_from}
use Rattle.desk_packing_law.specs.Events.{event_from}
use Rattle.desk_packing_law.specs.Answers.{answer_number, answer_of}
use Rattle.desk_law.specs.Calls.{called_on, AppliedOn}

-- the engine's answer as one number
abbrev pub number_for : Answer → ℕ
number_for a = answer_number (answer_code a) (answer_count a)

number_by : (v : Verdict) (count : ℕ) → answer_of v count ≡ number_for (answer_by v count)
number_by (Ok _) count = refl
number_by (Err r) count = refl

module _ (run event buys sells room : List ℕ) (s : session_length ≤ length run) (e : event_length ≤ length event) where
  on-day : called_on run event buys sells room ≡ called (session_from run) (event_from event) buys sells room
  unfolding called_on
  on-day = rw (le-ltb (length run) session_length s, le-ltb (length event) event_length e)

  -- `kakoludar_apply` and `engine::apply` answer alike, on the same session, event, tables and room
  pub engine_answered : (run₁ buys₁ sells₁ room₁ buys₂ sells₂ room₂ : List ℕ) (r : ℕ) (a : Applied) →
      AppliedOn run event buys sells room run₁ buys₁ sells₁ room₁ r →
      AppliedAs (session_from run) (event_from event) buys sells room buys₂ sells₂ room₂ a → r ≡ number_for a.answer
  engine_answered run₁ buys₁ sells₁ room₁ buys₂ sells₂ room₂ r a k l =
      let o : Outcome = called (session_from run) (event_from event) buys sells room in
      k.answer
      ∙ ap (λ (x : Outcome). answer_of x.verdict (length x.reports)) on-day
      ∙ number_by o.verdict (length o.reports)
      ∙ ap number_for (sym l.answer)
