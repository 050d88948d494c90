-- The first bytes of a file, which hold its settings line: what all comes back as is what is to come behind that line.
use Prim.Native.Nat.{ℕ, ◌+◌, ◌≤◌}
use native.Mathlib.Omega.{arith}
use mathlib.Core.Path.{◌≡◌, refl, sym, ap, ◌∙◌, subst}
use mathlib.Core.Bool.{Bool, true, false}
use mathlib.Core.List.{List, [], ◌++◌, append-nil}
use lib.ListN.{length, drop, length-append, length-drop}
use lib.Seq.{drop-append-le}
use Rattle.std.specs.Prelude.{Ok, Err}
use Rattle.terms.specs.declared.Settings.{Settings}
use Rattle.terms.specs.declared.Refusal.{Refusal}
use Rattle.terms.specs.declared.Refusal.TheVariants.{LineUnfinished, LineWrong, LineRefused}
use Rattle.terms.specs.Refusals.{Verdict}
use Rattle.terms.specs.Settings.{settings_verdict}
use Rattle.terms.specs.Sizes.{line_room}
use Rattle.lines_text_law.specs.Grammar.{LineAnswer, whole, unfinished, wrong}
use Rattle.lines_text_law.specs.Reading.{ReadAs}
use Rattle.lines_reading_law.specs.Lines.{SettingsLine, settings_figures, render_settings}
use Rattle.lines_reading_law.specs.Answers.{read_settings}
use Rattle.lines_text_law.proofs.Sorts as sorts
use Rattle.lines_reading_law.proofs.SettingsLines.{settings-lines}
use Rattle.lines_writing_law.proofs.Short.{settings-short}
use Rattle.state_law.specs.declared.Session.{Session}
use Rattle.state_law.specs.declared.Opened.{Opened}
use Rattle.state_law.specs.Opening.{opening_of, fixed_session}
use Rattle.state_law.specs.Day.{opened}
use Rattle.soundness_law.specs.Sound.{day_in}
use Rattle.resume_law.specs.Answers.{bad_at}
use Rattle.resume_law.specs.declared.Back.{Back}
use Rattle.resume_law.specs.Rebuilt.{Rebuilt, refused, lines_from, trading_by, resumed}
use Rattle.resume_law.specs.Pieces.{BackBy, tells_bad, BackAs, BackBehind, standing, to_come, BackFrom, back_to, unread_back}
use Rattle.resume_law.specs.Pieces.BackOf.{not_read, all_read, bad_met}
use Rattle.resume_law.proofs.Lines.{settled}
use Rattle.resume_law.proofs.Longer.{same_fuel}
use Rattle.resume_law.proofs.Standings.{back_of, begins-short}
use Rattle.resume_law.proofs.Lays.{judged, session_is, no_live, no-buys, no-sells}

-- ---- what is answered with no events

counts-not : {n k : ℕ} {r : Refusal} {P : Type 0} → bad_at r k ≡ Ok n → P
counts-not p = absurd (let z : ◌≡◌ {A = ℕ} 0 1 = cc in omega arith)

pub unread_as : {gives : List ℕ → Bool → Type 0} (bytes buys sells : List ℕ) {r : Back} → gives bytes false → r ≡ unread_back → BackAs gives buys sells r
unread_as bytes buys sells g e = record { comes = not_read bytes g (ap (λ (z : Back). z.read) e) }

-- those that came first were among those that were read
pub behind_as : {gives gives' : List ℕ → Bool → Type 0} (bytes : List ℕ) {buys sells : List ℕ} {r : Back} →
    ((more : List ℕ) (w : Bool) → gives' more w → gives (bytes ++ more) w) → BackBehind gives' bytes buys sells r → BackAs gives buys sells r
behind_as bytes given k = record { comes = back_of (λ (more : List ℕ). bytes ++ more) given (λ _. refl) (λ _ by. by) k.comes }

module _ {r : Back} {q : Refusal} {n : ℕ} (e : r ≡ back_to (bad_at q n) fixed_session) where
  refused_by : (x : Rebuilt) (buys sells : List ℕ) → x ≡ refused q n → BackBy x buys sells r
  refused_by x buys sells y =
      subst (λ (z : Rebuilt). BackBy z buys sells r) (sym y)
      (record { answer = ap (λ (z : Back). z.answer) e; session = ap (λ (z : Back). z.session) e; day = λ m h. counts-not h })

  -- a bad line is told, whatever follows
  bad_behind : {gives : List ℕ → Bool → Type 0} (bytes buys sells more : List ℕ) (w : Bool) → gives more w → tells_bad (bad_at q n) ≡ true →
      resumed (bytes ++ more) ≡ refused q n → BackBehind gives bytes buys sells r
  bad_behind bytes buys sells more w g t y =
      record {
        comes =
            bad_met more w g (subst (λ (z : Back). tells_bad z.answer ≡ true) (sym e) t) (ap (λ (z : Back). z.read) e)
            (refused_by (resumed (bytes ++ more)) buys sells y);
      }

-- the start of a settings line is short
pub settings-start : {bytes : List ℕ} {a : LineAnswer Settings} → ReadAs SettingsLine bytes a → a ≡ unfinished → length bytes ≤ line_room
settings-start {bytes} read e = begins-short render_settings settings_figures settings-short bytes (rw e at read.right).0

module _ (gives : List ℕ → Bool → Type 0) (bytes buys sells : List ℕ) (a : LineAnswer Settings) (r : Back) (read : ReadAs SettingsLine bytes a) where
  answered : (o : LineAnswer Settings) → a ≡ o → read_settings bytes ≡ o
  answered o e = sym (sorts.told settings-lines bytes a read) ∙ e

  pub front-whole : (g : Settings) (n : ℕ) → a ≡ whole g n → read_settings bytes ≡ whole g n
  front-whole g n e = answered (whole g n) e

  -- the bytes are all that there are
  pub front-unfinished : gives [] true → a ≡ unfinished → r ≡ back_to (bad_at LineUnfinished 0) fixed_session → BackBehind gives bytes buys sells r
  front-unfinished g e q =
      record {
        comes =
            all_read [] g (ap (λ (z : Back). z.read) q)
            (refused_by q (resumed (bytes ++ [])) buys sells (ap resumed (append-nil bytes) ∙ settled bytes unfinished (answered unfinished e)));
      }

  -- whatever follows, the place is the same
  pub front-wrong : (more : List ℕ) (w : Bool) → gives more w → (n : ℕ) → a ≡ wrong n → r ≡ back_to (bad_at LineWrong n) fixed_session →
      BackBehind gives bytes buys sells r
  front-wrong more w g n e q =
      bad_behind q bytes buys sells more w g refl
      (settled (bytes ++ more) (wrong n) (sorts.stays settings-lines bytes more (wrong n) (sorts.not-wrong refl) (rw e at read.right)))

-- ---- a whole settings line, and then events

module _ (g : Settings) (first : ℕ) (bytes : List ℕ) (read : read_settings bytes ≡ whole g first) where
  pub first-there : first ≤ length bytes
  first-there = (rw read at (settings-lines.right bytes)).0

  -- whatever follows, the line is the same
  with_more : (more : List ℕ) → resumed (bytes ++ more) ≡ trading_by (settings_verdict g) g first (bytes ++ more)
  with_more more =
      settled (bytes ++ more) (whole g first)
      (sorts.stays settings-lines bytes more (whole g first) (sorts.not-whole refl) (rw read at (settings-lines.right bytes)))

  module _ (gives : List ℕ → Bool → Type 0) (o : Opened) (begun : o ≡ opening_of g) (buys sells : List ℕ) (r : Back) where
    pub opening-refused : (more : List ℕ) (w : Bool) → gives more w → (q : Refusal) → o.verdict ≡ Err q →
        r ≡ back_to (bad_at LineRefused 0) fixed_session → BackBehind gives bytes buys sells r
    opening-refused more w h q v e =
        bad_behind e bytes buys sells more w h refl (with_more more ∙ ap (λ (x : Verdict). trading_by x g first (bytes ++ more)) (judged g o begun (Err q) v))

    module _ (v : o.verdict ≡ Ok tt) (buys' sells' : List ℕ) where
      day_is : day_in o.session buys sells ≡ opened g
      day_is =
          no_live o.session buys sells (no-buys g o begun v) (no-sells g o begun v)
          ∙ ap (λ (s : Session). record { session = s; buys = []; sells = [] }) (session_is g o begun v)

      -- what is to come behind the line is what all comes back as, but for whether an event was among the lines
      comes_to : (more : List ℕ) → BackBy (to_come (standing first o.session buys sells (drop first bytes)) more) buys' sells' r → BackBy (resumed (bytes ++ more)) buys' sells' r
      unfolding to_come
      comes_to more k =
          let all : List ℕ = bytes ++ more in
          let l = length-drop first all in
          let cut : drop first all ≡ drop first bytes ++ more = drop-append-le first bytes more first-there in
          let lines : resumed all ≡ lines_from (length (drop first bytes ++ more)) first false (day_in o.session buys sells) (drop first bytes ++ more) =
          with_more more
          ∙ ap (λ (x : Verdict). trading_by x g first all) (judged g o begun (Ok tt) v)
          ∙ same_fuel (length all) (length (drop first all)) first false (opened g) (drop first all) (omega arith) (omega arith)
          ∙ (λ i. lines_from (length (cut i)) first false (sym day_is i) (cut i)) in
          subst (λ (x : Rebuilt). BackBy x buys' sells' r) (sym lines) (record { answer = k.answer; session = k.session; day = k.day })

      pub opening-fine : BackFrom gives (standing first o.session buys sells (drop first bytes)) buys' sells' r → BackBehind gives bytes buys' sells' r
      opening-fine k = record { comes = back_of (λ (more : List ℕ). more) (λ _ _ g. g) as_many comes_to k.comes }
        where
          as_many : (more : List ℕ) → length (bytes ++ more) ≡ first + length (drop first bytes ++ more)
          as_many more =
              let n = length-append bytes more in
              let m = length-append (drop first bytes) more in
              let l = length-drop first bytes in
              omega (arith, first-there)
