-- The line of a value is the one that code wrote for the kind that it found the value to be.
use Prim.Native.Nat.{ℕ}
use mathlib.Core.Path.{◌≡◌}
use mathlib.Core.List.{List, [], ◌∷◌, ◌++◌}
use Rattle.std.specs.Option.{option_to_list}
use Rattle.std.specs.Prelude.{Result}
use Rattle.terms.specs.declared.Act.{Act}
use Rattle.terms.specs.declared.Act.TheVariants.{Enter}
use Rattle.terms.specs.declared.Category.{Category}
use Rattle.terms.specs.declared.Entry.{Entry}
use Rattle.terms.specs.declared.Event.{Event}
use Rattle.terms.specs.declared.Kind.{Kind}
use Rattle.terms.specs.declared.Life.{Life}
use Rattle.terms.specs.declared.Refusal.{Refusal}
use Rattle.terms.specs.declared.Report.{Report}
use Rattle.terms.specs.declared.Said.{Said}
use Rattle.terms.specs.declared.Said.TheVariants.{Cancel}
use Rattle.terms.specs.declared.Ended.{Ended}
use Rattle.terms.specs.declared.Settings.{Settings}
use Rattle.terms.specs.declared.Side.{Side}
use Rattle.terms.specs.Refusals.{number_of}
use Rattle.terms.specs.Reports.{why_of}
use Rattle.terms.specs.Carried.{limit_of}
use Rattle.lines_text_law.specs.Text.{bytes}
use Rattle.lines_text_law.specs.Forms.{holes}
use Rattle.lines_reading_law.specs.Lines.{act_head, side_word, order_form, act_figures, event_form, event_figures, render_event, settings_form, settings_figures, render_settings}
use Rattle.lines_writing_law.specs.Lines.{order_figures, said_figures, said_head, report_form, report_figures, render_report, refused_figures, render_refused, bad_figures, render_bad}
use Rattle.lines_writing_law.specs.Writes.{Writes, WritesForm}

module _ {d d' : List ℕ} {r : Result ℕ Refusal} where
  pub by_order : (head : List ℕ) (time : ℕ) (o : Entry) (kind : Kind) (life : Life) → o.kind ≡ kind → o.life ≡ life
      → WritesForm d (head ++ order_form kind life) (time ∷ o.lots ∷ option_to_list (limit_of kind)) r d'
      → WritesForm d (head ++ order_form o.kind o.life) (order_figures time o) r d'
  by_order head time o kind life k l w = rw (k, l) w

  pub by_act : (e : Event) (a : Act) → e.act ≡ a → WritesForm d (event_form a) (e.time ∷ act_figures a) r d' → Writes d (render_event e) (event_figures e) r d'
  unfolding render_event
  by_act e a q w = rw q w

  pub by_side : (e : Event) (o : Entry) (side : Side) → e.act ≡ Enter o → o.side ≡ side
      → WritesForm d (act_head ++ (side_word side ++ order_form o.kind o.life)) (order_figures e.time o) r d'
      → Writes d (render_event e) (event_figures e) r d'
  unfolding render_event
  by_side e o side q s w = rw (q, s) w

  pub by_category : (g : Settings) (c : Category) → g.category ≡ c → WritesForm d (settings_form c) (settings_figures g) r d' → Writes d (render_settings g) (settings_figures g) r d'
  unfolding render_settings
  by_category g c q w = rw q w

  pub by_said : (p : Report) (s : Said) → p.said ≡ s → WritesForm d (report_form s) (p.time ∷ said_figures s) r d' → Writes d (render_report p) (report_figures p) r d'
  unfolding render_report
  by_said p s q w = rw q w

  pub by_ended : (p : Report) (e : Ended) (why : ℕ) → p.said ≡ Cancel e → why ≡ why_of e.why
      → WritesForm d (report_form (Cancel e)) (p.time ∷ e.number ∷ e.lots ∷ why ∷ []) r d'
      → Writes d (render_report p) (report_figures p) r d'
  unfolding render_report holes
  by_ended p e why q n w = rw (q, ← n) w

  -- the line of a refusal is written with its number
  pub by_refused : (time : ℕ) (q : Refusal) (code : ℕ) → code ≡ number_of q → WritesForm d (said_head ++ bytes "refuse code=#\n") (time ∷ code ∷ []) r d'
      → Writes d (render_refused time q) (refused_figures time q) r d'
  unfolding render_refused
  by_refused time q code n w = rw (← n) w

  pub by_bad : (q : Refusal) (place code : ℕ) → code ≡ number_of q → WritesForm d (bytes "say=bad" ++ bytes " code=# at=#\n") (code ∷ place ∷ []) r d'
      → Writes d (render_bad q place) (bad_figures q place) r d'
  unfolding render_bad
  by_bad q place code n w = rw (← n) w
