-- What is kept at the buffer's front, and what was read behind it.
use Prim.Native.Nat.{ℕ, zero, suc, ◌+◌, ◌-◌, ◌≤◌, ◌<◌}
use native.Mathlib.Omega.{arith}
use mathlib.Core.Path.{◌≡◌, refl, sym, ap, ◌∙◌, subst}
use mathlib.Core.Bool.{Bool, true, false, true≢false, false≢true}
use mathlib.Core.List.{List, ◌++◌}
use lib.ListN.{length, take, drop, length-drop}
use lib.Seq.{length-take-le, take-add}
use borrow.Author.Tests.{eq-eqb, ne_eqb}
use mir.Syntax.{w64}
use mir.Val.{Fits}
use Rattle.std.specs.Prelude.{Ok}
use Rattle.terms.specs.Sizes.{line_room}
use Rattle.std.specs.Prelude.{Result, Ok, Err}
use Rattle.descriptors.specs.declared.Failed.{Failed}
use Rattle.descriptors.specs.Counted.{GotWithin}
use Rattle.state_law.specs.declared.Session.{Session}
use Rattle.state_law.specs.Opening.{fixed_session}
use Rattle.soundness_law.specs.Sound.{day_in}
use Rattle.resume_law.specs.Answers.{Comeback}
use Rattle.resume_law.specs.declared.Back.{Back}
use Rattle.resume_law.specs.declared.Coming.{Coming}
use Rattle.resume_law.specs.Pieces.{BackAs, BackBehind, standing, Onward, BackFrom, back_to, unread_back, Starts, coming_to, coming_end}
use Rattle.resume_law.proofs.Standings.{onward_read, start-short, start-ends, unread_from}
use Rattle.resume_law.proofs.Fronts.{unread_as, behind_as}
use Rattle.stream_law.specs.declared.Source.{Source}
use Rattle.stream_law.specs.Sources.{Gives, Leads}
use Rattle.stream_law.specs.Streams.{ToFront}
use Rattle.stream_law.proofs.Sources.{leads-end}
use Rattle.stream_source.specs.declared.Read.{Read}
use Rattle.stream_source.specs.Reads.{came_of, StandsBy, EndsWithin, ReadBehind, FilledAs}
use Rattle.stream_back.specs.Filled.{stopped_at, coming_after, piece_to, RestAs, Ended, EndedBy, StartsAs}

-- what is left of a piece is the start of a line, so the buffer has room behind it
pub left-room : (used have : ℕ) (buf buf₁ : List ℕ) → have ≤ length buf → Starts (drop used (take have buf)) → line_room < length buf →
    length buf₁ ≡ length buf → have - used < length buf₁
left-room used have buf buf₁ h start room e =
    let n = length-drop used (take have buf) ∙ ap (λ (n : ℕ). n - used) (length-take-le have buf h) in
    let s = start-short start in
    omega arith

-- ---- what a read comes to

module _ (given : List ℕ) (from from' : Source) (before : ℕ) (s : Session) (kept : List ℕ) (left : ℕ) (buf : List ℕ) (front : take left buf ≡ kept)
    (start : Starts kept) (size : left ≤ length buf) where
  abbrev Rest : Coming → Type 0
  Rest h = RestAs given from before s kept buf (piece_to h from')

  -- nothing more is to be read
  ends_as : {b : Back} → ((buys sells : List ℕ) → BackFrom (Gives given from) (standing before s buys sells kept) buys sells b) → Rest (coming_end b)
  ends_as k = record { comes = λ buys sells. record { within = omega arith; on = λ m. absurd (false≢true m); off = λ m. k buys sells } }

  -- n bytes came
  goes_as : (n : ℕ) → (n ≡ 0 → ⊥) → n ≤ length buf - left → Leads given from (take n (drop left buf)) from' → Rest (coming_to (left + n) before s)
  goes_as n z h p =
      let l = length-take-le n (drop left buf) (let d = length-drop left buf in omega arith) in
      let all : kept ++ take n (drop left buf) ≡ take (left + n) buf = ap (λ (x : List ℕ). x ++ take n (drop left buf)) (sym front) ∙ sym (take-add left n buf) in
      record {
        comes =
            λ buys sells.
            record {
              within = omega arith;
              on =
                  λ m.
                  record {
                    got = take n (drop left buf);
                    some = omega arith;
                    leads = p;
                    onward =
                        subst (λ (x : List ℕ). Onward (take n (drop left buf)) (standing before s buys sells kept) (standing before s buys sells x)) all
                        (onward_read before (day_in s buys sells) kept (take n (drop left buf)));
                  };
              off = λ m. absurd (true≢false m);
            };
      }

  by_got : (g : Result ℕ Failed) → GotWithin (length buf - left) g → Leads given from (take (came_of g) (drop left buf)) from' → StandsBy given from' g →
      Rest (coming_after g left before s)
  by_got (Ok zero) h p t = ends_as (λ buys sells. start-ends before s buys sells start (leads-end true p t) refl)
  by_got (Ok (suc n)) h p t =
      let z : suc n ≡ 0 → ⊥ = λ z. omega (arith, z) in
      rw (ne_eqb (suc n) 0 z) (goes_as (suc n) z h p)
  by_got (Err e) h p t = ends_as (λ buys sells. unread_from _ buys sells (leads-end false p t) refl)

-- what is left is moved to the front, and a read is made behind it
pub rest_read : {given : List ℕ} {from : Source} {before : ℕ} {s : Session} {used have : ℕ} {buf buf₁ buf₂ : List ℕ} {read : Read} {h : Coming} →
    Starts (drop used (take have buf)) → have ≤ length buf → length buf₁ ≡ length buf → ToFront buf used have buf₁ →
    ReadBehind given from (have - used) buf₁ buf₂ read → h ≡ coming_after read.got (have - used) before s →
    RestAs given from before s (drop used (take have buf)) buf₂ (piece_to h read.from)
rest_read {given} {from} {before} {s} {used} {have} {buf} {buf₁} {buf₂} {read} {h} start w l moved b e =
    subst (λ (x : Coming). RestAs given from before s (drop used (take have buf)) buf₂ (piece_to x read.from)) (sym e)
    (by_got given from read.from before s (drop used (take have buf)) (have - used) buf₂ (b.kept.front ∙ moved.front) start (omega (arith, b.kept.same))
    read.got (subst (λ (n : ℕ). GotWithin (n - (have - used)) read.got) (sym b.kept.same) b.got) b.leads b.stands)

pub rest-within : {given : List ℕ} {from : Source} {left : ℕ} {buf buf' : List ℕ} {read : Read} → ReadBehind given from left buf buf' read → EndsWithin left read.got
rest-within b = b.within

-- ---- the arms of `after_read`

module _ (g : Result ℕ Failed) (left before : ℕ) (s : Session) (r : Coming) where
  pub read_failed : {f : Failed} → g ≡ Err f → r ≡ stopped_at before s false → r ≡ coming_after g left before s
  read_failed e q = rw e q

  module _ (n : ℕ) (e : g ≡ Ok n) where
    pub read_none : n ≡ 0 → r ≡ stopped_at before s true → r ≡ coming_after g left before s
    read_none z q = rw (e, eq-eqb n 0 z) q

    pub read_some : (n ≡ 0 → ⊥) → r ≡ coming_to (left + n) before s → r ≡ coming_after g left before s
    read_some z q = rw (e, ne_eqb n 0 z) q

pub read_fits : (left n : ℕ) (g : Result ℕ Failed) → EndsWithin left g → g ≡ Ok n → Fits w64 (left + n)
read_fits left n g h e = record { fits = h.ends n e }

-- ---- what is answered, by its parts

pub fixed_back : (r : Back) (a : Comeback) (s : Session) → r ≡ back_to a s → s ≡ fixed_session → r ≡ back_to a fixed_session
fixed_back r a s e f = e ∙ ap (back_to a) f

module _ (n before : ℕ) (s : Session) (b : Back) (e : b ≡ back_to (Ok before) s) where
  pub coming_back : ◌≡◌ {A = Coming} (record { have = n; before = before; back = b; more = true }) (coming_to n before s)
  coming_back = ap (λ (x : Back). record { have = n; before = before; back = x; more = true }) e

-- ---- the first bytes of the file

module _ {given : List ℕ} {from : Source} {buf : List ℕ} {read : Read} (k : FilledAs given from buf read) where
  pub filled_within : GotWithin (length buf) read.got
  filled_within = k.within

  pub filled-ended : EndedBy given read.from read.got (length buf)
  filled-ended = record { some = λ end e. record { ended = λ l. k.all end e l } }

  -- in either case it is known what came back
  pub filled_as : {buys' sells' : List ℕ} {r : Back} → StartsAs (Gives given read.from) read.got buf buys' sells' r → BackAs (Gives given from) buys' sells' r
  filled_as {buys'} {sells'} {r} q = go read.got refl
    where
      go : (x : Result ℕ Failed) → read.got ≡ x → BackAs (Gives given from) buys' sells' r
      go (Ok n) e = behind_as (take n buf) (k.leads n e).behind (q.some n e)
      go (Err f) e = let w = k.failed f e in unread_as w.bytes buys' sells' w.gives (q.failed f e)

pub ended_at : {given : List ℕ} {from : Source} {g : Result ℕ Failed} {end room : ℕ} → EndedBy given from g room → g ≡ Ok end → Ended given from end room
ended_at k e = k.some _ e

module _ {gives : List ℕ → Bool → Type 0} {g : Result ℕ Failed} {buf buys' sells' : List ℕ} {r : Back} where
  pub filled_none : {f : Failed} → g ≡ Err f → r ≡ unread_back → StartsAs gives g buf buys' sells' r
  filled_none e q = record { failed = λ _ _. q; some = λ end h. absurd (let z : ◌≡◌ {A = ℕ} 0 1 = cc in omega arith) }

  pub filled-some : (end : ℕ) → g ≡ Ok end → BackBehind gives (take end buf) buys' sells' r → StartsAs gives g buf buys' sells' r
  filled-some end e k =
      record {
        failed = λ _ h. absurd (let z : ◌≡◌ {A = ℕ} 0 1 = cc in omega arith);
        some = λ n h. subst (λ (x : ℕ). BackBehind gives (take x buf) buys' sells' r) (same h) k;
      }
    where
      same : {n : ℕ} → g ≡ Ok n → end ≡ n
      same h = cc
