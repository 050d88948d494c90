-- Reads into a buffer, each behind what the last ones gave.
use Prim.Native.Nat.{ℕ, ◌+◌, ◌-◌, ◌^◌, ◌≤◌, ◌<◌}
use native.Mathlib.Omega.{arith}
use native.Mathlib.Nat.{le_of_lt}
use mathlib.Core.Path.{◌≡◌, sym, ap, ◌∙◌, subst}
use mathlib.Core.Bool.{true, false}
use mathlib.Core.List.{List, [], ◌++◌}
use lib.ListN.{length, take, drop, length-drop}
use lib.Seq.{take-add, take-append-le, drop_at, length-take-le}
use borrow.Rule.Slice.PartMut.{post_of, put_mid, same_len_mid}
use mir.Syntax.{w64}
use mir.Val.{Fits}
use Rattle.std.specs.Prelude.{Result, Ok, Err}
use Rattle.descriptors.specs.declared.Failed.{Failed}
use Rattle.descriptors.specs.Counted.{GotWithin}
use Rattle.descriptors.proofs.Parts.{got-within}
use Rattle.stream_law.specs.declared.Source.{Source}
use Rattle.stream_law.specs.Sources.{Gives, Leads}
use Rattle.stream_law.proofs.Sources.{leads-none, leads_then, leads-end}
use Rattle.stream_law.proofs.Beginnings.{rest_is}
use Rattle.stream_law.proofs.Hearing.{front_kept}
use Rattle.stream_source.specs.declared.Read.{Read}
use Rattle.stream_source.specs.Reads.{read_to, came_of, ReadAs, ReadBehind, FilledAs}

came-within : (most : ℕ) (g : Result ℕ Failed) → GotWithin most g → came_of g ≤ most
came-within most (Ok n) h = h
came-within most (Err e) h = omega arith

-- a read into the rest of a buffer keeps the front, and its bytes stand behind that
pub read_behind : {given : List ℕ} {from : Source} {have : ℕ} {buf : List ℕ} (part' : List ℕ) {r : Read} → have < length buf → length buf < 2 ^ 64 →
    ReadAs given from part' r → length part' ≡ length (take (length buf - have) (drop have buf)) →
    ReadBehind given from have buf (put_mid have (length buf - have) buf part') r
read_behind {given} {from} {have} {buf} part' {r} h w k e =
    let size : length part' ≡ length buf - have = e ∙ ap length (rest_is buf have) ∙ length-drop have buf in
    let got : GotWithin (length buf - have) r.got = subst (λ (n : ℕ). GotWithin n r.got) size k.within in
    let post : List ℕ = post_of have (length buf - have) buf in
    let n : ℕ = came_of r.got in
    let came : take n (drop have (take have buf ++ (part' ++ post))) ≡ take n part' =
    ap (take n) (drop_at (take have buf) (part' ++ post) have (length-take-le have buf (le_of_lt h)))
    ∙ take-append-le n part' post (came-within (length part') r.got k.within) in
    record {
      room = h;
      kept = record { same = same_len_mid have (length buf - have) buf part' e; front = front_kept buf _ have (le_of_lt h) };
      got = got;
      within = record { ends = λ n some. let l = got-within got some in omega arith };
      leads = subst (λ (x : List ℕ). Leads given from x r.from) (sym came) k.leads;
      stands = k.stands;
    }

-- ---- many reads

bytes_are : {n m : ℕ} → ◌≡◌ {A = Result ℕ Failed} (Ok n) (Ok m) → n ≡ m
bytes_are e = cc

pub fill_start : (given : List ℕ) (from : Source) (buf : List ℕ) → Leads given from (take 0 buf) from
fill_start given from buf = leads-none given from

module _ {given : List ℕ} {from source : Source} {at : ℕ} {buf buf' : List ℕ} {read : Read} (l : Leads given from (take at buf) source)
    (b : ReadBehind given source at buf buf' read) where
  -- n bytes came behind those that stood there
  pub fill_on : {n : ℕ} → read.got ≡ Ok n → Leads given from (take (at + n) buf') read.from
  fill_on {n} e =
      let k : Leads given source (take n (drop at buf')) read.from = rw e at b.leads in
      let all : take at buf ++ take n (drop at buf') ≡ take (at + n) buf' =
      ap (λ (x : List ℕ). x ++ take n (drop at buf')) (sym b.kept.front) ∙ sym (take-add at n buf') in
      subst (λ (x : List ℕ). Leads given from x read.from) all (leads_then l k)

  pub fill-fits : {n : ℕ} → read.got ≡ Ok n → Fits w64 (at + n)
  fill-fits {n} e = record { fits = b.within.ends n e }

  pub fill-there : {n : ℕ} → read.got ≡ Ok n → at < length buf → at + n ≤ length buf'
  fill-there e h = let w = got-within b.got e in let s = b.kept.same in omega arith

  -- the source is at its end
  pub fill-ends : {n : ℕ} {r : Read} → read.got ≡ Ok n → n ≡ 0 → at < length buf → r ≡ read_to (Ok at) read.from → FilledAs given from buf' r
  fill-ends {n} {r} e z h q =
      let g : read.got ≡ Ok 0 = e ∙ ap Ok z in
      let end : Gives given read.from [] true = rw g at b.stands in
      let k : Leads given from (take (at + 0) buf') read.from = fill_on g in
      let same : at + 0 ≡ at = omega arith in
      subst (FilledAs given from buf') (sym q)
      (record {
        within = let s = b.kept.same in omega arith;
        leads = λ m f. subst (λ (x : ℕ). Leads given from (take x buf') read.from) (same ∙ bytes_are f) k;
        all = λ m f w. end;
        failed = λ _ f. absurd (let z : ◌≡◌ {A = ℕ} 0 1 = cc in omega arith);
      })

  -- a read failed
  pub fill_fails : {r : Read} {f : Failed} → read.got ≡ Err f → r ≡ read → FilledAs given from buf' r
  fill_fails {r} {f} e q =
      let end : Gives given read.from [] false = rw e at b.stands in
      let q : r ≡ read_to (Err f) read.from = q ∙ ap (λ (x : Result ℕ Failed). read_to x read.from) e in
      let k : Leads given source [] read.from = rw e at b.leads in
      subst (FilledAs given from buf') (sym q)
      (record {
        within = tt;
        leads = λ m f. absurd (let z : ◌≡◌ {A = ℕ} 0 1 = cc in omega arith);
        all = λ m f w. absurd (let z : ◌≡◌ {A = ℕ} 0 1 = cc in omega arith);
        failed = λ _ g. record { bytes = take at buf ++ []; gives = leads-end false (leads_then l k) end };
      })

-- the buffer is full
pub fill_full : {given : List ℕ} {from source : Source} {at : ℕ} {buf : List ℕ} {r : Read} → Leads given from (take at buf) source → at ≤ length buf →
    length buf ≤ at → r ≡ read_to (Ok at) source → FilledAs given from buf r
fill_full {given} {from} {source} {at} {buf} {r} l h n q =
    subst (FilledAs given from buf) (sym q)
    (record {
      within = h;
      leads = λ m f. subst (λ (x : ℕ). Leads given from (take x buf) source) (bytes_are f) l;
      all = λ m f w. absurd (let same : at ≡ m = bytes_are f in omega arith);
      failed = λ _ f. absurd (let z : ◌≡◌ {A = ℕ} 0 1 = cc in omega arith);
    })
