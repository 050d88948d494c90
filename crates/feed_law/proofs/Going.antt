-- The loop over the lines: what has been printed, and what will be printed for the bytes that are left, make up the whole.
use Prim.Native.Nat.{ℕ, zero, suc, ◌+◌, ◌-◌, ◌≤◌, ◌<◌}
use native.Mathlib.Omega.{arith}
use native.Mathlib.Nat.{zero-add, add_assoc}
use mathlib.Core.Path.{◌≡◌, refl, sym, ap, ◌∙◌, subst}
use mathlib.Core.List.{List, [], ◌++◌, append_assoc, append-nil}
use lib.ListN.{length, take, drop, length-drop}
use lib.Seq.{drop-drop, take_all}
use lib.Dec.{ltb, eqb}
use borrow.Author.Tests.{lt-ltb, le-ltb, eq-eqb, ne_eqb, ltb-true, ltb-false, eqb-true, eqb-false}
use borrow.Rule.Slice.PartMut.{put_mid, same_len_mid}
use native.Mathlib.Nat.{le_of_eq}
use Rattle.terms.proofs.Logic.{by, cases}
use Rattle.feed_law.specs.declared.Run.{Run}
use Rattle.feed_law.specs.declared.Stage.{Stage}
use Rattle.feed_law.specs.declared.Stop.{Stop}
use Rattle.feed_law.specs.declared.Turned.{Turned}
use Rattle.feed_law.specs.declared.Taken.{Taken}
use Rattle.feed_law.specs.Texts.{most_at}
use Rattle.feed_law.specs.Worlds.{World, Lent, lent_of, calls}
use Rattle.feed_law.specs.Turns.{Turn, turn_of, stop_at, Fed, halted, lastly, ahead, fed_in}
use Rattle.feed_law.specs.Feeds.{Prints, PrintsFrom, turn_by, TurnedAs, TurnTaken, LineTaken, TakenAs, taken_to}
use Rattle.feed_law.proofs.Prints.{part_prints, prints_then, from_within}

module _ {W : Type 0} (on : World W) where
  -- ---- what many lines come to, turn by turn

  -- where there are no bytes, none are taken
  pub fed_none : (n left : ℕ) (stage : Stage) (w : W) (bytes : List ℕ) → length bytes ≤ 0 → fed_in on n left stage w bytes ≡ halted on (stop_at stage) stage w
  unfolding fed_in
  fed_none zero left stage w bytes h = refl
  fed_none (suc n) left stage w bytes h = rw (le-ltb 0 (length bytes) h)

  module _ (n left : ℕ) (stage : Stage) (w : W) (bytes : List ℕ) (some : 0 < length bytes) where
    abbrev t : Turn W
    t = turn_of on stage w bytes

    pub fed_full : left < most_at stage → fed_in on (suc n) left stage w bytes ≡ halted on Stop.Full stage w
    unfolding fed_in
    fed_full h = rw (lt-ltb 0 (length bytes) some, lt-ltb left (most_at stage) h)

    pub fed_last : most_at stage ≤ left → t.used ≡ 0 → fed_in on (suc n) left stage w bytes ≡ lastly on t
    unfolding fed_in
    fed_last h e = rw (lt-ltb 0 (length bytes) some, le-ltb left (most_at stage) h, eq-eqb t.used 0 e)

    pub fed_ahead : most_at stage ≤ left → (t.used ≡ 0 → ⊥) →
        fed_in on (suc n) left stage w bytes ≡ ahead on t (fed_in on n (left - length t.text) t.stage t.world (drop t.used bytes))
    unfolding fed_in
    fed_ahead h e = rw (lt-ltb 0 (length bytes) some, le-ltb left (most_at stage) h, ne_eqb t.used 0 e)

  -- a run that is over takes no byte and prints none, however short the output room
  pub over_halts : (n left : ℕ) (w : W) (bytes : List ℕ) → fed_in on n left Stage.Over w bytes ≡ halted on Stop.Over Stage.Over w
  unfolding fed_in
  over_halts zero left w bytes = refl
  over_halts (suc n) left w bytes =
      let P : Fed W → Type 0 = λ f. f ≡ halted on Stop.Over Stage.Over w in
      by P (ltb 0 (length bytes)) _ _
      (λ e. by P (ltb left (most_at Stage.Over)) _ _ (λ b. absurd (let h = ltb-true left (most_at Stage.Over) b in omega arith)) (λ b. refl)) (λ e. refl)

  -- ---- One induction serves every law of many lines. Its cases: no bytes, no room, no whole line, and a line with those behind it.

  module _ (P : ℕ → Stage → W → List ℕ → Fed W → Type 0)
      (none : (left : ℕ) (stage : Stage) (w : W) (xs : List ℕ) → length xs ≤ 0 → P left stage w xs (halted on (stop_at stage) stage w))
      (full : (left : ℕ) (stage : Stage) (w : W) (xs : List ℕ) → left < most_at stage → P left stage w xs (halted on Stop.Full stage w))
      (last : (left : ℕ) (stage : Stage) (w : W) (xs : List ℕ) → most_at stage ≤ left → (turn_of on stage w xs).used ≡ 0 → P left stage w xs (lastly on (turn_of on stage w xs)))
      (more : (left : ℕ) (stage : Stage) (w : W) (xs : List ℕ) (f : Fed W) → ((turn_of on stage w xs).used ≡ 0 → ⊥) →
      let t : Turn W = turn_of on stage w xs in P (left - length t.text) t.stage t.world (drop t.used xs) f → P left stage w xs (ahead on t f)) where
    pub fed_by_lem : (n left : ℕ) (stage : Stage) (w : W) (xs : List ℕ) → length xs ≤ n → P left stage w xs (fed_in on n left stage w xs)
    fed_by_lem zero left stage w xs h = subst (P left stage w xs) (sym (fed_none zero left stage w xs h)) (none left stage w xs h)
    fed_by_lem (suc n) left stage w xs h =
        let t : Turn W = turn_of on stage w xs in
        cases (ltb 0 (length xs))
        (λ e.
        let some = ltb-true 0 (length xs) e in
        cases (ltb left (most_at stage))
        (λ b. let k = ltb-true left (most_at stage) b in subst (P left stage w xs) (sym (fed_full n left stage w xs some k)) (full left stage w xs k))
        (λ b.
        let wide = ltb-false left (most_at stage) b in
        cases (eqb t.used 0)
        (λ u. let z = eqb-true t.used 0 u in subst (P left stage w xs) (sym (fed_last n left stage w xs some wide z)) (last left stage w xs wide z))
        (λ u.
        let z = eqb-false t.used 0 u in
        let l = length-drop t.used xs in
        let a : length (drop t.used xs) ≤ n = omega (arith, z) in
        subst (P left stage w xs) (sym (fed_ahead n left stage w xs some wide z))
        (more left stage w xs _ z (fed_by_lem n (left - length t.text) t.stage t.world (drop t.used xs) a)))))
        (λ e. let k = ltb-false 0 (length xs) e in subst (P left stage w xs) (sym (fed_none (suc n) left stage w xs k)) (none left stage w xs k))

-- ---- the loop

-- what was taken and printed before, and then what the rest comes to
abbrev pub onward : ℕ → List ℕ → Fed Lent → Fed Lent
onward used text f = record { stage = f.stage; world = f.world; used = used + f.used; text = text ++ f.text; stop = f.stop }

pub record Going (bytes out₀ : List ℕ) (f : Fed Lent) (now : Run) (buys sells room out : List ℕ) (at wrote : ℕ) : Type 0 where
  pub fuel : ℕ
  pub text : List ℕ
  pub within : at ≤ length bytes
  pub enough : length bytes ≤ at + fuel
  pub same : length out ≡ length out₀
  pub fits : wrote ≤ length out
  pub printed : Prints out₀ text wrote out
  pub rest : f ≡ onward at text (fed_in calls fuel (length out₀ - wrote) now.stage (lent_of now.session buys sells room) (drop at bytes))

-- before the first line, the rest is the whole
onward-none : (f : Fed Lent) → f ≡ onward 0 [] f
onward-none f = λ i. record { stage = f.stage; world = f.world; used = sym (zero-add f.used) i; text = f.text; stop = f.stop }

pub going_start : (bytes out : List ℕ) (now : Run) (buys sells room : List ℕ) →
    Going bytes out (fed_in calls (length bytes) (length out) now.stage (lent_of now.session buys sells room) bytes) now buys sells room out 0 0
going_start bytes out now buys sells room =
    let l : length out - 0 ≡ length out = omega arith in
    record {
      fuel = length bytes;
      text = [];
      within = omega arith;
      enough = omega arith;
      same = refl;
      fits = omega arith;
      printed = record { count = refl; laid = refl };
      rest = rw l (onward-none _);
    }

-- where the loop returns, its answer is what the definition says
pub taken_as : {f x : Fed Lent} {out₀ buys sells room out : List ℕ} {run : Run} {used wrote : ℕ} {stop : Stop} {r : Taken} → f ≡ x →
    r ≡ taken_to run used wrote stop → run.stage ≡ x.stage → lent_of run.session buys sells room ≡ x.world → used ≡ x.used →
    Prints out₀ x.text wrote out → stop ≡ x.stop → TakenAs f out₀ buys sells room out r
taken_as {f} {x} {out₀} {buys} {sells} {room} {out} {run} {used} {wrote} {stop} {r} e q s w u p h =
    subst (λ (y : Fed Lent). TakenAs y out₀ buys sells room out r) (sym e)
    (record {
      stage = ap (λ (y : Taken). y.run.stage) q ∙ s;
      world = ap (λ (y : Taken). lent_of y.run.session buys sells room) q ∙ w;
      used = ap (λ (y : Taken). y.used) q ∙ u;
      printed = subst (λ (y : Taken). Prints out₀ x.text y.wrote out) (sym q) p;
      stop = ap (λ (y : Taken). y.stop) q ∙ h;
    })

module _ {bytes out₀ : List ℕ} {f : Fed Lent} {now : Run} {buys sells room out : List ℕ} {at wrote : ℕ}
    (g : Going bytes out₀ f now buys sells room out at wrote) where
  abbrev lent : Lent
  lent = lent_of now.session buys sells room

  abbrev left : ℕ
  left = length out₀ - wrote

  abbrev further : Fed Lent
  further = fed_in calls g.fuel left now.stage lent (drop at bytes)

  here : {x : Fed Lent} → further ≡ x → f ≡ onward at g.text x
  here e = g.rest ∙ ap (onward at g.text) e

  -- the loop returns because no further line is begun:
  halts : {stop : Stop} {r : Taken} → further ≡ halted calls stop now.stage lent → r ≡ taken_to now at wrote stop →
      TakenAs f out₀ buys sells room out r
  halts e q =
      let u : at ≡ at + 0 = omega arith in
      taken_as (here e) q refl refl u (subst (λ (x : List ℕ). Prints out₀ x wrote out) (sym (append-nil g.text)) g.printed) refl

  -- the bytes are at their end,
  pub going_end : {r : Taken} {stop : Stop} → length bytes ≤ at → stop ≡ stop_at now.stage → r ≡ taken_to now at wrote stop → TakenAs f out₀ buys sells room out r
  going_end {r} h s q =
      let none : length (drop at bytes) ≤ 0 = rw (length-drop at bytes) (omega arith) in
      halts (fed_none calls g.fuel left now.stage lent (drop at bytes) none) (rw s at q)

  module _ (more : at < length bytes) where
    some : 0 < length (drop at bytes)
    some = rw (length-drop at bytes) (omega arith)

    fuelled : g.fuel ≡ suc (g.fuel - 1)
    fuelled = omega (arith, g.enough)

    again : further ≡ fed_in calls (suc (g.fuel - 1)) left now.stage lent (drop at bytes)
    again = ap (λ (n : ℕ). fed_in calls n left now.stage lent (drop at bytes)) fuelled

    -- or the room must be emptied first,
    pub going_full : {r : Taken} {most : ℕ} → most ≡ most_at now.stage → length out - wrote < most → r ≡ taken_to now at wrote Stop.Full → TakenAs f out₀ buys sells room out r
    going_full m h q =
        let l : left < most_at now.stage = omega (arith, g.same, m) in
        halts (again ∙ fed_full calls (g.fuel - 1) left now.stage lent (drop at bytes) some l) q

    module _ {most : ℕ} (m : most ≡ most_at now.stage) (wide : most ≤ length out - wrote) {buys' sells' room' out' : List ℕ} {r : Turned}
        (k : LineTaken now buys sells room bytes at wrote out buys' sells' room' out' r) where
      abbrev line : Turn Lent
      line = turn_of calls now.stage lent (drop at bytes)

      wide_left : most_at now.stage ≤ left
      wide_left = omega (arith, g.same, m)

      line-printed : Prints out₀ (g.text ++ line.text) (wrote + r.wrote) out'
      line-printed = prints_then g.printed k.printed

      -- or no whole line is left
      pub going_last : {x : Taken} {stop : Stop} → r.used ≡ 0 → stop ≡ stop_at r.run.stage → x ≡ taken_to r.run at (wrote + r.wrote) stop →
          TakenAs f out₀ buys' sells' room' out' x
      going_last e s q =
          let l = fed_last calls (g.fuel - 1) left now.stage lent (drop at bytes) some wide_left (sym k.used ∙ e) in
          let u : at ≡ at + 0 = omega arith in
          taken_as (here (again ∙ l)) q k.stage k.world u line-printed (s ∙ ap stop_at k.stage)

      -- what the rest comes to behind this line
      abbrev after : Fed Lent
      after = fed_in calls (g.fuel - 1) (left - length line.text) line.stage line.world (drop line.used (drop at bytes))

      ahead_is : (r.used ≡ 0 → ⊥) → fed_in calls (suc (g.fuel - 1)) left now.stage lent (drop at bytes) ≡ ahead calls line after
      ahead_is e = fed_ahead calls (g.fuel - 1) left now.stage lent (drop at bytes) some wide_left (λ z. e (k.used ∙ z))

      joined : onward at g.text (ahead calls line after) ≡ onward (at + line.used) (g.text ++ line.text) after
      joined =
          λ i.
          record {
            stage = after.stage;
            world = after.world;
            used = sym (add_assoc at line.used after.used) i;
            text = sym (append_assoc g.text line.text after.text) i;
            stop = after.stop;
          }

      lefts : left - length line.text ≡ length out₀ - (wrote + r.wrote)
      lefts = let c = k.printed.count in omega arith

      drops : drop line.used (drop at bytes) ≡ drop (at + r.used) bytes
      drops = drop-drop line.used at bytes ∙ ap (λ (n : ℕ). drop (at + n) bytes) (sym k.used)

      moved : onward (at + line.used) (g.text ++ line.text) after ≡ onward (at + r.used) (g.text ++ line.text)
          (fed_in calls (g.fuel - 1) (length out₀ - (wrote + r.wrote)) r.run.stage (lent_of r.run.session buys' sells' room') (drop (at + r.used) bytes))
      moved =
          λ i.
          onward (at + sym k.used i) (g.text ++ line.text)
          (fed_in calls (g.fuel - 1) (lefts i) (sym k.stage i) (sym k.world i) (drops i))

      -- a line was taken, and the loop goes on with the rest
      pub going_on : (r.used ≡ 0 → ⊥) → length out' ≡ length out → Going bytes out₀ f r.run buys' sells' room' out' (at + r.used) (wrote + r.wrote)
      going_on e same =
          record {
            fuel = g.fuel - 1;
            text = g.text ++ line.text;
            within = k.used_there;
            enough = omega (arith, g.enough, e);
            same = same ∙ g.same;
            fits = rw same k.wrote_there;
            printed = line-printed;
            rest = here (again ∙ ahead_is e) ∙ joined ∙ moved;
          }

-- ---- the line that begins at a place

pub line_taken : {run : Run} {buys sells room bytes : List ℕ} {at wrote : ℕ} {out buys' sells' room' part' : List ℕ} {r : Turned} →
    TurnTaken run buys sells room (take (length bytes - at) (drop at bytes)) (take (length out - wrote) (drop wrote out)) buys' sells' room' part' r →
    at ≤ length bytes → wrote ≤ length out → length part' ≡ length (take (length out - wrote) (drop wrote out)) →
    LineTaken run buys sells room bytes at wrote out buys' sells' room' (put_mid wrote (length out - wrote) out part') r
line_taken {run} {buys} {sells} {room} {bytes} {at} {wrote} {out} {buys'} {sells'} {room'} {part'} {r} k a w kept =
    let part : take (length bytes - at) (drop at bytes) ≡ drop at bytes = take_all (length bytes - at) (drop at bytes) (le_of_eq (length-drop at bytes)) in
    let t : TurnedAs (turn_by run buys sells room (drop at bytes)) (take (length out - wrote) (drop wrote out)) buys' sells' room' part' r = rw part at k.turned in
    let u : r.used ≤ length bytes - at = rw (part, length-drop at bytes) at k.used_there in
    let p : PrintsFrom wrote out (turn_by run buys sells room (drop at bytes)).text r.wrote (put_mid wrote (length out - wrote) out part') = part_prints t.printed in
    record {
      stage = t.stage;
      world = t.world;
      used = t.used;
      printed = p;
      used_there = omega arith;
      wrote_there = from_within w (same_len_mid wrote (length out - wrote) out part' kept) p;
    }
