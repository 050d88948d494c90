-- The settings line at the start of a file: how it is read, and whether it opens a session.
use Prim.Native.Nat.{ℕ, ◌-◌, ◌≤◌, ◌<◌}
use native.Mathlib.Omega.{arith}
use mathlib.Core.Path.{◌≡◌, subst}
use mathlib.Core.List.{List}
use lib.ListN.{length, take, drop}
use lib.Seq.{length-take-le}
use Rattle.std.specs.Prelude.{Ok, Err}
use Rattle.terms.specs.declared.Settings.{Settings}
use Rattle.terms.specs.declared.Refusal.{Refusal}
use Rattle.terms.specs.declared.Refusal.TheVariants.{LineUnfinished, LineWrong, LineRefused}
use Rattle.terms.specs.Sizes.{line_room}
use Rattle.lines_text_law.specs.Grammar.{LineAnswer, whole, unfinished, wrong}
use Rattle.lines_text_law.specs.Reading.{ReadAs}
use Rattle.lines_reading_law.specs.Lines.{SettingsLine}
use Rattle.state_law.specs.declared.Opened.{Opened}
use Rattle.state_law.specs.Opening.{opening_of, fixed_session}
use Rattle.resume_law.specs.Answers.{bad_at}
use Rattle.resume_law.specs.declared.Back.{Back}
use Rattle.resume_law.specs.Pieces.{BackBehind, standing, BackFrom, back_to}
use Rattle.resume_law.proofs.Fronts.{settings-start, front-whole, front-unfinished, front-wrong, opening-fine, opening-refused}
use Rattle.stream_law.specs.declared.Source.{Source}
use Rattle.stream_law.specs.Sources.{Gives}
use Rattle.stream_law.proofs.Sources.{gives-some}
use Rattle.stream_back.specs.Filled.{Ended, OpensAs}

-- ---- how the line is read

module _ (end : ℕ) (buf : List ℕ) (a : LineAnswer Settings) (read : ReadAs SettingsLine (take (end - 0) buf) a) where
  here : ReadAs SettingsLine (take end buf) a
  here = let z : end - 0 ≡ end = omega arith in subst (λ (n : ℕ). ReadAs SettingsLine (take n buf) a) z read

  pub opens-within : (g : Settings) (n : ℕ) → a ≡ whole g n → end ≤ length buf → n ≤ end
  opens-within g n e h = let w : n ≤ length (take end buf) = (rw e at here.right).0 in let l = length-take-le end buf h in omega arith

  module _ (given : List ℕ) (from : Source) (buys sells : List ℕ) (r : Back) where
    abbrev Behind : Type 0
    Behind = BackBehind (Gives given from) (take end buf) buys sells r

    pub opens-whole : (g : Settings) (n : ℕ) → a ≡ whole g n → OpensAs (Gives given from) g n (take end buf) buys sells r → Behind
    opens-whole g n e k = k.opens (front-whole (Gives given from) (take end buf) buys sells a r here g n e)

    -- the start of a settings line is shorter than the buffer, so the source is at its end
    pub opens-unfinished : end ≤ length buf → line_room < length buf → Ended given from end (length buf) → a ≡ unfinished →
        r ≡ back_to (bad_at LineUnfinished 0) fixed_session → Behind
    opens-unfinished h room k e q =
        let n = length-take-le end buf h in
        let m = settings-start here e in
        front-unfinished (Gives given from) (take end buf) buys sells a r here (k.ended (omega arith)) e q

    pub opens-wrong : (n : ℕ) → a ≡ wrong n → r ≡ back_to (bad_at LineWrong n) fixed_session → Behind
    opens-wrong n e q =
        let s = gives-some given from in
        front-wrong (Gives given from) (take end buf) buys sells a r here s.bytes s.whole s.gives n e q

-- ---- whether it opens a session

module _ (given : List ℕ) (from : Source) (g : Settings) (first : ℕ) (bytes : List ℕ) (o : Opened) (begun : o ≡ opening_of g) (buys sells : List ℕ) (r : Back) where
  pub opens-fine : (buys' sells' : List ℕ) → o.verdict ≡ Ok tt →
      BackFrom (Gives given from) (standing first o.session buys sells (drop first bytes)) buys' sells' r →
      OpensAs (Gives given from) g first bytes buys' sells' r
  opens-fine buys' sells' v k = record { opens = λ read. opening-fine g first bytes read (Gives given from) o begun buys sells r v buys' sells' k }

  pub opens-refused : (q : Refusal) → o.verdict ≡ Err q → r ≡ back_to (bad_at LineRefused 0) fixed_session →
      OpensAs (Gives given from) g first bytes buys sells r
  opens-refused q v e =
      let s = gives-some given from in
      record {
        opens = λ read. opening-refused g first bytes read (Gives given from) o begun buys sells r s.bytes s.whole s.gives q v e;
      }
