-- The end of the input is told behind the lines that were taken, as the definition says.
use Prim.Native.Nat.{ℕ, ◌+◌, ◌-◌, ◌≤◌, ◌<◌}
use native.Mathlib.Omega.{arith}
use mathlib.Core.Path.{◌≡◌, refl, sym, ap, ◌∙◌, subst}
use mathlib.Core.List.{List, []}
use lib.ListN.{length, take, drop}
use lib.Dec.{eqb}
use borrow.Author.Tests.{lt-ltb, le-ltb, eq-eqb, ne_eqb}
use borrow.Rule.Slice.PartMut.{put_mid}
use Rattle.terms.specs.declared.Refusal.{Refusal}
use Rattle.terms.specs.declared.Refusal.TheVariants.{LineUnfinished}
use Rattle.terms.specs.Sizes.{line_room}
use Rattle.terms.proofs.Logic.{by}
use Rattle.lines_text_law.specs.Text.{bytes}
use Rattle.lines_text_law.specs.Numerals.{all_writable}
use Rattle.lines_text_law.specs.Forms.{longest}
use Rattle.lines_text_law.proofs.Fills.{fill-length}
use Rattle.lines_writing_law.specs.Lines.{bad_figures, render_bad}
use Rattle.feed_law.specs.declared.Stage.{Stage}
use Rattle.feed_law.specs.declared.Stop.{Stop}
use Rattle.feed_law.specs.declared.Taken.{Taken}
use Rattle.feed_law.specs.Texts.{bad_text, end_text}
use Rattle.feed_law.specs.Worlds.{Lent, calls}
use Rattle.feed_law.specs.Turns.{Fed, filled, finished, end_by, end_behind}
use Rattle.feed_law.specs.Feeds.{Prints, EndTold, TakenAs, taken_to, EndsBehind}
use Rattle.feed_law.proofs.Prints.{part_prints, prints_then}
use Rattle.feed_law.proofs.Going.{taken_as}

-- ---- what the end prints, by where the run stands

module _ {out : List ℕ} (n : ℕ) where
  -- where no bytes stand behind the last line nothing is printed, else their count is
  pub none_left : n ≡ 0 → Prints out (end_text Stage.Trading n) 0 out
  none_left e = rw (eq-eqb n 0 e) (record { count = refl; laid = refl })

  pub some_left : {wrote : ℕ} {out' : List ℕ} → (n ≡ 0 → ⊥) → Prints out (bad_text LineUnfinished n) wrote out' → Prints out (end_text Stage.Trading n) wrote out'
  some_left e p = rw (ne_eqb n 0 e) p

-- no line that tells of a bad line is longer than a line room
bad_short : (r : Refusal) (place : ℕ) → length (bad_text r place) ≤ line_room
unfolding bad_text render_bad longest
bad_short r place =
    let l = fill-length (bytes "say=bad code=# at=#\n") (bad_figures r place) in
    by (λ (t : List ℕ). length t ≤ line_room) (all_writable (bad_figures r place)) _ [] (λ e. omega arith) (λ e. omega arith)

end_short : (stage : Stage) (n : ℕ) → length (end_text stage n) ≤ line_room
end_short Stage.Awaiting n = bad_short LineUnfinished n
end_short Stage.Trading n = by (λ (t : List ℕ). length t ≤ line_room) (eqb n 0) [] _ (λ e. omega arith) (λ e. bad_short LineUnfinished n)
end_short Stage.Over n = omega arith

module _ {stage : Stage} {n : ℕ} {out : List ℕ} where
  told : {wrote : ℕ} {out' : List ℕ} → Prints out (end_text stage n) wrote out' → EndTold stage n out wrote out'
  told p = record { printed = p; short = rw p.count (end_short stage n) }

  pub end_awaiting : {wrote : ℕ} {out' : List ℕ} → stage ≡ Stage.Awaiting → Prints out (bad_text LineUnfinished n) wrote out' → EndTold stage n out wrote out'
  end_awaiting e p = told (rw e p)

  pub end_trading : {wrote : ℕ} {out' : List ℕ} → stage ≡ Stage.Trading → Prints out (end_text Stage.Trading n) wrote out' → EndTold stage n out wrote out'
  end_trading e p = told (rw e p)

  pub end-over : stage ≡ Stage.Over → EndTold stage n out 0 out
  end-over e = told (rw e (record { count = refl; laid = refl }))

-- ---- the end behind some lines, by why they stopped

module _ {t : Taken} {bytes : ℕ} {out : List ℕ} where
  -- where the lines stopped for any other reason than that no whole one is left, the end adds nothing
  goes_by : {s : Stop} → ((left rest : ℕ) (f : Fed Lent) → end_by calls s left rest f ≡ f) → t.stop ≡ s → EndsBehind t bytes out out t
  unfolding end_behind
  goes_by {s} same e =
      record {
        ends =
            λ f out₀ buys sells room k kept.
            let stop : f.stop ≡ s = sym k.stop ∙ e in
            let left : ℕ = length out₀ - length f.text in
            let by : end_by calls f.stop left (bytes - f.used) f ≡ f = ap (λ (x : Stop). end_by calls x left (bytes - f.used) f) stop ∙ same left (bytes - f.used) f in
            subst (λ (x : Fed Lent). TakenAs x out₀ buys sells room out t) (sym by) k;
      }

  pub end_full : t.stop ≡ Stop.Full → EndsBehind t bytes out out t
  end_full e = goes_by (λ left rest f. refl) e

  pub end-ended : t.stop ≡ Stop.Over → EndsBehind t bytes out out t
  end-ended e = goes_by (λ left rest f. refl) e

  pub end_refused : {r : Refusal} → t.stop ≡ Stop.Refused r → EndsBehind t bytes out out t
  end_refused e = goes_by (λ left rest f. refl) e

  -- where no whole line is left,
  module _ (waits : t.stop ≡ Stop.Waits) where
    -- the room must be emptied first,
    pub end-filled : {r : Taken} → length out - t.wrote < line_room → r ≡ taken_to t.run t.used t.wrote Stop.Full → EndsBehind t bytes out out r
    unfolding end_behind
    end-filled h q =
        record {
          ends =
              λ f out₀ buys sells room k kept.
              let stop : f.stop ≡ Stop.Waits = sym k.stop ∙ waits in
              let c = k.printed.count in
              let short : length out₀ - length f.text < line_room = omega (arith, c, kept) in
              let by : end_by calls f.stop (length out₀ - length f.text) (bytes - f.used) f ≡ filled calls f =
              rw (stop, lt-ltb (length out₀ - length f.text) line_room short) in
              taken_as by q k.stage k.world k.used k.printed refl;
        }

    -- or it has place for a line, and the end is told
    pub end-told : {r : Taken} {part' : List ℕ} {told : ℕ} → line_room ≤ length out - t.wrote →
        EndTold t.run.stage (bytes - t.used) (take (length out - t.wrote) (drop t.wrote out)) told part' →
        r ≡ taken_to (record { stage = Stage.Over; session = t.run.session }) t.used (t.wrote + told) Stop.Over →
        EndsBehind t bytes out (put_mid t.wrote (length out - t.wrote) out part') r
    unfolding end_behind
    end-told {r} {part'} {told} h p q =
        record {
          ends =
              λ f out₀ buys sells room k kept.
              let stop : f.stop ≡ Stop.Waits = sym k.stop ∙ waits in
              let c = k.printed.count in
              let wide : line_room ≤ length out₀ - length f.text = omega (arith, c, kept) in
              let by : end_by calls f.stop (length out₀ - length f.text) (bytes - f.used) f ≡ finished calls (bytes - f.used) f =
              rw (stop, le-ltb (length out₀ - length f.text) line_room wide) in
              let text : Prints (take (length out - t.wrote) (drop t.wrote out)) (end_text f.stage (bytes - f.used)) told part' =
              rw (← k.stage, ← k.used) p.printed in
              taken_as by q refl k.world k.used (prints_then k.printed (part_prints text)) refl;
        }
