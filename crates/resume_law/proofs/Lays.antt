-- What the call leaves: the tables of the replayed lines laid over the lent ones, or nothing written.
use Prim.Native.Nat.{ℕ, ◌-◌, ◌*◌, ◌≤◌}
use native.Mathlib.Omega.{arith}
use native.Mathlib.Nat.{le_of_eq}
use mathlib.Core.Path.{◌≡◌, refl, sym, ap, ◌∙◌, subst}
use mathlib.Core.Bool.{Bool, true, false, ◌&&◌, not}
use mathlib.Core.List.{List, [], ◌++◌, append_assoc, append-nil}
use lib.ListN.{length, take, drop, replicate, length-drop, length-replicate}
use lib.Seq.{drop_at, length-take-le}
use borrow.Rule.Slice.PartMut.{put_mid, same_len_mid}
use borrow.Author.Tests.{leb-true, not-true, not-false}
use Rattle.std.specs.Prelude.{Ok, Err}
use Rattle.terms.specs.declared.Order.{Order}
use Rattle.terms.specs.declared.Settings.{Settings}
use Rattle.terms.specs.declared.Refusal.{Refusal}
use Rattle.terms.specs.declared.Refusal.TheVariants.{SmallRoom, LineUnfinished, LineWrong, LineRefused}
use Rattle.terms.specs.Refusals.{Verdict}
use Rattle.terms.specs.Truth.{◌⊓◌}
use Rattle.tables.specs.Lengths.{width, table_length, room_length}
use Rattle.terms.specs.Settings.{settings_verdict}
use Rattle.terms.proofs.Logic.{both}
use Rattle.tables.specs.Put.{put}
use Rattle.tables.specs.Tables.{decode, encode, table_of}
use Rattle.lines_text_law.specs.Grammar.{LineAnswer, whole, unfinished, wrong}
use Rattle.lines_text_law.specs.Reading.{ReadAs}
use Rattle.lines_reading_law.specs.Lines.{SettingsLine}
use Rattle.lines_text_law.proofs.Sorts.{told}
use Rattle.lines_reading_law.proofs.SettingsLines.{settings-lines}
use Rattle.state_law.specs.declared.Session.{Session}
use Rattle.state_law.specs.declared.Opened.{Opened}
use Rattle.state_law.specs.Opening.{opened_by, opening_of, opened_session, fixed_session}
use Rattle.state_law.specs.Day.{Day}
use Rattle.soundness_law.specs.Sound.{day_in}
use Rattle.engine_law.specs.Calls.{roomy, LongTables, LongEnough}
use Rattle.engine_law.proofs.Applies.{found_long}
use Rattle.resume_law.specs.Answers.{bad_at}
use Rattle.resume_law.specs.declared.Replayed.{Replayed}
use Rattle.resume_law.specs.declared.Resumed.{Resumed}
use Rattle.resume_law.specs.Rebuilt.{Rebuilt, refused, lines_from, trading_by, settled_by, resumed}
use Rattle.resume_law.specs.Calls.{table_after, ResumedBy, resumed_to, tables_long, resumed_if, resumed_on, ResumedAs, all_long, Scrubbed, ResumedLent}
use Rattle.resume_law.specs.code.Replaying.{bare_from, ReplayedAs, LinesReplayed, LaidIf, Scratch, AllLong, Past, RebuiltIn, RebuiltLent}
use Rattle.resume_law.proofs.Lines.{settled}
use Rattle.resume_law.proofs.Finds.{none_left}

-- ---- the table of some orders, laid over another, is theirs

pub laid-over : (os : List Order) (t u v : List ℕ) → u ≡ table_of os u → length u ≡ table_length → v ≡ put t 0 u → v ≡ table_of os t
unfolding put table_of
laid-over os t u v shape l e =
    let z : List ℕ = replicate (table_length - width * length os) 0 in
    let none : drop table_length u ≡ [] = none_left (drop table_length u) (let k = length-drop table_length u in omega arith) in
    let short : u ≡ encode os ++ z = shape ∙ ap (λ (x : List ℕ). encode os ++ (z ++ x)) none ∙ ap (λ (x : List ℕ). encode os ++ x) (append-nil z) in
    e
    ∙ ap (λ (n : ℕ). u ++ drop n t) l
    ∙ ap (λ (x : List ℕ). x ++ drop table_length t) short
    ∙ append_assoc (encode os) z (drop table_length t)

-- ---- the events, from an opening

-- a session with no live orders, whatever lies in the tables
pub no_live : (s : Session) (buys sells : List ℕ) → s.live.buys ≡ 0 → s.live.sells ≡ 0 → day_in s buys sells ≡ record { session = s; buys = []; sells = [] }
unfolding decode
no_live s buys sells b t = rw (b, t)

module _ (s : Session) (bytes : List ℕ) (first : ℕ) (b₀ t₀ b t : List ℕ) (r : Replayed) (k : LinesReplayed bytes first s b₀ t₀ b t r)
    (none : s.live.buys ≡ 0) (nones : s.live.sells ≡ 0) where
  abbrev here : Rebuilt
  here = bare_from bytes first s

  replayed : ReplayedAs here b t r
  replayed = subst (λ (d : Day). ReplayedAs (lines_from (length bytes) first false d (drop first bytes)) b t r) (no_live s b₀ t₀ none nones) k.replayed

  -- without an event nothing is written; else both tables are laid
  module _ (room buys sells buys' sells' : List ℕ) (scratch : Scratch b₀ t₀ room) (lb : length b ≡ length b₀) (lt : length t ≡ length t₀) where
    laid_by_lem : (moved : Bool) → r.moved ≡ moved → LaidIf moved buys sells b t buys' sells' →
        (buys' ≡ table_after here.moved here.day.buys buys) × (sells' ≡ table_after here.moved here.day.sells sells)
    laid_by_lem true m l =
        let on : here.moved ≡ true = sym replayed.moved ∙ m in (
          rw on (laid-over here.day.buys buys b _ (replayed.bought on) (lb ∙ scratch.bought_length) l.first),
          rw on (laid-over here.day.sells sells t _ (replayed.sold on) (lt ∙ scratch.sold_length) l.second),
        )
    laid_by_lem false m l = let off : here.moved ≡ false = sym replayed.moved ∙ m in (rw off l.first, rw off l.second)

    pub opening-resumed : LaidIf r.moved buys sells b t buys' sells' → ResumedBy here buys sells buys' sells' (resumed_to r.answer r.session)
    opening-resumed l =
        let t = laid_by_lem r.moved refl l in
        record { answer = replayed.answer; session = replayed.session; bought = t.0; sold = t.1 }

-- tables as they are left
module _ (moved : Bool) (buys sells bought sold : List ℕ) where
  pub laid-not : not moved ≡ true → LaidIf moved buys sells bought sold buys sells
  laid-not n = let e = not-true moved n in record { first = rw e refl; second = rw e refl }

  pub laid_both : (buys' sells' : List ℕ) → not moved ≡ false → buys' ≡ put buys 0 bought → sells' ≡ put sells 0 sold →
      LaidIf moved buys sells bought sold buys' sells'
  laid_both buys' sells' n b s = let e = not-false moved n in record { first = rw e b; second = rw e s }

-- scratch is long enough for a replay, and the tables are for what it leaves
pub scratch-enough : (bought sold room : List ℕ) → Scratch bought sold room → LongEnough bought sold room
scratch-enough bought sold room s =
    record { buys_long = le_of_eq (sym s.bought_length); sells_long = le_of_eq (sym s.sold_length); room_long = le_of_eq (sym s.told_length) }

pub fits-buys : (bought sold room buys sells b : List ℕ) → Scratch bought sold room → LongTables buys sells → length b ≡ length bought → length b ≤ length buys
fits-buys bought sold room buys sells b s l e = rw (e, s.bought_length) l.buys_long

pub fits-sells : (bought sold room buys sells t : List ℕ) → Scratch bought sold room → LongTables buys sells → length t ≡ length sold → length t ≤ length sells
fits-sells bought sold room buys sells t s l e = rw (e, s.sold_length) l.sells_long

-- ---- a refusal

pub fixed_down : (r : Refusal) (place : ℕ) (s : Session) → s ≡ fixed_session →
    resumed_to (bad_at r place) s ≡ resumed_to (bad_at r place) fixed_session
fixed_down r place s e = ap (resumed_to (bad_at r place)) e

turned_down : {x : Rebuilt} {buys sells : List ℕ} {y : Resumed} {r : Refusal} {n : ℕ} → x ≡ refused r n → y ≡ resumed_to (bad_at r n) fixed_session →
    ResumedBy x buys sells buys sells y
turned_down {x} {buys} {sells} {y} e q =
    subst (λ (z : Rebuilt). ResumedBy z buys sells buys sells y) (sym e)
    (record { answer = ap (λ (z : Resumed). z.answer) q; session = ap (λ (z : Resumed). z.session) q; bought = refl; sold = refl })

-- ---- the settings

module _ (g : Settings) (o : Opened) (begun : o ≡ opening_of g) where
  pub judged : (v : Verdict) → o.verdict ≡ v → settings_verdict g ≡ v
  unfolding opening_of
  judged v e = by_verdict (settings_verdict g) ∙ ap (λ (x : Opened). x.verdict) (sym begun) ∙ e
    where
      by_verdict : (w : Verdict) → w ≡ (opened_by g w).verdict
      by_verdict (Ok _) = refl
      by_verdict (Err r) = refl

  pub session_is : o.verdict ≡ Ok tt → o.session ≡ opened_session g
  unfolding opening_of
  session_is e = ap (λ (x : Opened). x.session) begun ∙ ap (λ (x : Verdict). (opened_by g x).session) (judged (Ok tt) e)

  -- an opened session has no live orders
  pub no-buys : o.verdict ≡ Ok tt → o.session.live.buys ≡ 0
  unfolding opened_session
  no-buys e = ap (λ (x : Session). x.live.buys) (session_is e)

  pub no-sells : o.verdict ≡ Ok tt → o.session.live.sells ≡ 0
  unfolding opened_session
  no-sells e = ap (λ (x : Session). x.live.sells) (session_is e)

  module _ (first : ℕ) (bytes buys sells : List ℕ) (y : Resumed) where
    pub settings-fine : (buys' sells' : List ℕ) → o.verdict ≡ Ok tt → ResumedBy (bare_from bytes first o.session) buys sells buys' sells' y →
        ResumedBy (trading_by (settings_verdict g) g first bytes) buys sells buys' sells' y
    settings-fine buys' sells' e k =
        subst (λ (v : Verdict). ResumedBy (trading_by v g first bytes) buys sells buys' sells' y) (sym (judged (Ok tt) e))
        (subst (λ (z : Session). ResumedBy (bare_from bytes first z) buys sells buys' sells' y) (session_is e) k)

    pub settings-turned : (r : Refusal) → o.verdict ≡ Err r → y ≡ resumed_to (bad_at LineRefused 0) fixed_session →
        ResumedBy (trading_by (settings_verdict g) g first bytes) buys sells buys sells y
    settings-turned r e q = turned_down (ap (λ (v : Verdict). trading_by v g first bytes) (judged (Err r) e)) q

-- ---- the lines, by how the settings are read

module _ (bytes : List ℕ) (a : LineAnswer Settings) (read : ReadAs SettingsLine bytes a) where
  on : (o : LineAnswer Settings) → a ≡ o → resumed bytes ≡ settled_by o bytes
  on o e = settled bytes o (sym (told settings-lines bytes a read) ∙ e)

  -- a whole line lies within the bytes
  pub first-within : (g : Settings) (n : ℕ) → a ≡ whole g n → n ≤ length bytes
  first-within g n e = (rw e at read.right).0

  module _ (buys sells : List ℕ) (y : Resumed) where
    pub reads_whole : (buys' sells' : List ℕ) (g : Settings) (n : ℕ) → a ≡ whole g n →
        ResumedBy (trading_by (settings_verdict g) g n bytes) buys sells buys' sells' y → ResumedBy (resumed bytes) buys sells buys' sells' y
    reads_whole buys' sells' g n e k = subst (λ (x : Rebuilt). ResumedBy x buys sells buys' sells' y) (sym (on (whole g n) e)) k

    pub reads_unfinished : a ≡ unfinished → y ≡ resumed_to (bad_at LineUnfinished 0) fixed_session →
        ResumedBy (resumed bytes) buys sells buys sells y
    reads_unfinished e q = turned_down (on unfinished e) q

    pub reads_wrong : (n : ℕ) → a ≡ wrong n → y ≡ resumed_to (bad_at LineWrong n) fixed_session →
        ResumedBy (resumed bytes) buys sells buys sells y
    reads_wrong n e q = turned_down (on (wrong n) e) q

-- ---- row 1, as code tests it

module _ (buys sells : List ℕ) (b : Bool) (judged : b ≡ tables_long buys sells) where
  is_short : not b ≡ true → tables_long buys sells ≡ false
  is_short n = sym judged ∙ not-true b n

  is_long : not b ≡ false → tables_long buys sells ≡ true
  is_long n = sym judged ∙ not-false b n

  pub tables-long : not b ≡ false → LongTables buys sells
  unfolding tables_long
  tables-long n =
      let t = both (is_long n) in
      record { buys_long = leb-true table_length (length buys) t.0; sells_long = leb-true table_length (length sells) t.1 }

  module _ (bytes : List ℕ) (y : Resumed) where
    pub short-tables : not b ≡ true → y ≡ resumed_to (bad_at SmallRoom 0) fixed_session → ResumedAs bytes buys sells buys sells y
    unfolding resumed_on
    short-tables n q = turned_down (rw (is_short n)) q

    pub long-resumed : (buys' sells' : List ℕ) → not b ≡ false → ResumedBy (resumed bytes) buys sells buys' sells' y →
        ResumedAs bytes buys sells buys' sells' y
    unfolding resumed_on
    long-resumed buys' sells' n k = subst (λ (x : Bool). ResumedBy (resumed_if x bytes) buys sells buys' sells' y) (sym (is_long n)) k

-- the same with lent scratch
pub both_long : (buys sells bought sold room : List ℕ) (a b : Bool) → a ≡ tables_long buys sells → b ≡ roomy bought sold room →
    (a && b) ≡ all_long buys sells bought sold room
unfolding all_long ◌⊓◌
both_long buys sells bought sold room a b e f = rw (e, f) refl

module _ (buys sells bought sold room : List ℕ) (b : Bool) (judged : b ≡ all_long buys sells bought sold room) where
  all_there : not b ≡ false → (tables_long buys sells ≡ true) × (roomy bought sold room ≡ true)
  unfolding all_long
  all_there n = both (sym judged ∙ not-false b n)

  pub lent_enough : not b ≡ false → AllLong buys sells bought sold room
  lent_enough n =
      let t = all_there n in
      record { tables = tables-long buys sells true (sym t.0) refl; scratch = found_long bought sold room true (sym t.1) refl }

  module _ (bytes : List ℕ) (y : Resumed) where
    pub lent_short : not b ≡ true → y ≡ resumed_to (bad_at SmallRoom 0) fixed_session →
        ResumedLent bytes buys sells bought sold room buys sells bought sold room y
    lent_short n q =
        let e : all_long buys sells bought sold room ≡ false = sym judged ∙ not-true b n in
        record { resumed = turned_down (rw e) q; scratch = record { first = rw e refl; second = rw e refl; third = rw e refl } }

    pub lent_long : (buys' sells' bought' sold' room' : List ℕ) → not b ≡ false →
        RebuiltLent bytes buys sells bought sold room buys' sells' bought' sold' room' y →
        ResumedLent bytes buys sells bought sold room buys' sells' bought' sold' room' y
    lent_long buys' sells' bought' sold' room' n k =
        let e : all_long buys sells bought sold room ≡ true = sym judged ∙ not-false b n in
        record {
          resumed = subst (λ (x : Bool). ResumedBy (resumed_if x bytes) buys sells buys' sells' y) (sym e) k.rebuilt;
          scratch = subst (λ (x : Bool). Scrubbed x bought sold room bought' sold' room') (sym e) k.scratch;
        }

-- ---- scratch, of which only the first numbers are used and then cleared

-- the first numbers, where there are enough, have just the length that is asked for
pub scratch_parts : (bought sold room : List ℕ) → LongEnough bought sold room →
    Scratch (take (table_length - 0) (drop 0 bought)) (take (table_length - 0) (drop 0 sold)) (take (room_length - 0) (drop 0 room))
scratch_parts bought sold room l =
    record {
      bought_length = length-take-le table_length bought l.buys_long;
      sold_length = length-take-le table_length sold l.sells_long;
      told_length = length-take-le room_length room l.room_long;
    }

-- what lies past them is as it was, and they are as many
past-part : (n : ℕ) (t part : List ℕ) → length part ≡ length (take n t) → n ≤ length t → Past n t (put_mid 0 n t part)
past-part n t part l h =
    record {
      same = drop_at part (drop n t) n (l ∙ length-take-le n t h);
      kept = same_len_mid 0 n t part l;
    }

pub parts_rebuilt : (bytes buys sells bought sold room buys' sells' b t p : List ℕ) (y : Resumed) → LongEnough bought sold room →
    ResumedBy (resumed bytes) buys sells buys' sells' y →
    length b ≡ length (take (table_length - 0) (drop 0 bought)) → length t ≡ length (take (table_length - 0) (drop 0 sold)) →
    length p ≡ length (take (room_length - 0) (drop 0 room)) →
    RebuiltIn bytes buys sells bought sold room buys' sells' (put_mid 0 (table_length - 0) bought b) (put_mid 0 (table_length - 0) sold t)
    (put_mid 0 (room_length - 0) room p) y
parts_rebuilt bytes buys sells bought sold room buys' sells' b t p y long k lb lt lp =
    let x = past-part table_length bought b lb long.buys_long in
    let y = past-part table_length sold t lt long.sells_long in
    let z = past-part room_length room p lp long.room_long in
    record {
      rebuilt = k;
      first = x;
      second = y;
      third = z;
      long = record { buys_long = rw x.kept long.buys_long; sells_long = rw y.kept long.sells_long; room_long = rw z.kept long.room_long };
    }

-- clearing them is clearing what was lent
cleared_past : (n : ℕ) (t t₁ t₂ : List ℕ) → Past n t t₁ → t₂ ≡ put t₁ 0 (replicate n 0) → t₂ ≡ put t 0 (replicate n 0)
unfolding put
cleared_past n t t₁ t₂ h q =
    let z : List ℕ = replicate n 0 in
    let k : length z ≡ n = length-replicate n 0 in
    q ∙ ap (λ (x : List ℕ). z ++ x) (ap (λ (i : ℕ). drop i t₁) k ∙ h.same ∙ ap (λ (i : ℕ). drop i t) (sym k))

pub rebuilt_lent : (bytes buys sells bought sold room buys' sells' bought₁ sold₁ room₁ bought₂ sold₂ room₂ : List ℕ) (y : Resumed) →
    RebuiltIn bytes buys sells bought sold room buys' sells' bought₁ sold₁ room₁ y → Scrubbed true bought₁ sold₁ room₁ bought₂ sold₂ room₂ →
    RebuiltLent bytes buys sells bought sold room buys' sells' bought₂ sold₂ room₂ y
rebuilt_lent bytes buys sells bought sold room buys' sells' bought₁ sold₁ room₁ bought₂ sold₂ room₂ y k s =
    record {
      rebuilt = k.rebuilt;
      scratch = record {
        first = cleared_past table_length bought bought₁ bought₂ k.first s.first;
        second = cleared_past table_length sold sold₁ sold₂ k.second s.second;
        third = cleared_past room_length room room₁ room₂ k.third s.third;
      };
    }
