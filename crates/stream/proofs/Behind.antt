-- What follows from each answer of a read into a buffer behind what is kept.
use Prim.Native.Nat.{ℕ, ◌+◌, ◌≤◌}
use native.Mathlib.Omega.{arith}
use mathlib.Core.Path.{◌≡◌, refl, ap, ◌∙◌}
use mathlib.Core.Bool.{true, false}
use mathlib.Core.List.{List, []}
use lib.ListN.{length, take, drop, length-drop}
use mir.Syntax.{w64}
use mir.Val.{Fits}
use Rattle.std.specs.Prelude.{Ok, Err}
use Rattle.descriptors.specs.declared.Failed.{Failed}
use Rattle.descriptors.proofs.Parts.{got-within}
use Rattle.feed_law.specs.Turns.{Says}
use Rattle.stream_law.specs.declared.Source.{Source}
use Rattle.stream_law.specs.declared.Buffered.{Buffered}
use Rattle.stream_law.specs.declared.Reading.{Reading}
use Rattle.stream_law.specs.Sources.{Gives, Leads}
use Rattle.stream_law.specs.Streams.{held_as, TakesIn, HearsOn}
use Rattle.stream_law.specs.Streams.StopsAs.{ended, failed}
use Rattle.stream_law.proofs.Hearing.{hears-none, hears-some, off_done, off-failed}
use Rattle.stream_source.specs.declared.Read.{Read}
use Rattle.stream_source.specs.Reads.{ReadBehind}

module _ {given : List ℕ} {from : Source} {have n : ℕ} {buf buf₁ : List ℕ} {x : Read} (b : ReadBehind given from have buf buf₁ x) (some : x.got ≡ Ok n) where
  -- the n bytes that came end within the buffer
  pub end-within : have + n ≤ length buf₁
  end-within = let h = b.room in let l = got-within b.got some in let s = b.kept.same in omega arith

  pub end_fits : Fits w64 (have + n)
  end_fits = record { fits = b.within.ends n some }

module _ {says : Says ℕ} {expected given buys sells : List ℕ} {h r : Buffered} {from : Source} {buf buf₁ : List ℕ} {x : Read}
    (b : ReadBehind given from h.have buf buf₁ x) where
  pub came-some : {n : ℕ} {buf' buys' sells' : List ℕ} → x.got ≡ Ok n → (n ≡ 0 → ⊥) →
      TakesIn says expected h.run buf₁ (h.have + n) buys sells h.to buf' buys' sells' r →
      HearsOn says expected given 1 h from buf buys sells buf' buys' sells' r x.from
  came-some {n} e z k =
      let leads : Leads given from (take n (drop h.have buf₁)) x.from = rw e at b.leads in
      let w = got-within b.got e in
      let l = length-drop h.have buf₁ in
      let s = b.kept.same in
      let f = b.room in
      hears-some b.kept n (omega arith) (omega arith) leads k

  pub came-none : {n : ℕ} → x.got ≡ Ok n → n ≡ 0 → r ≡ held_as h.run h.have h.to Reading.Done →
      HearsOn says expected given 1 h from buf buys sells buf₁ buys sells r x.from
  came-none e z q =
      let g : x.got ≡ Ok 0 = e ∙ ap Ok z in
      let end : Gives given x.from [] true = rw g at b.stands in
      let leads : Leads given from [] x.from = rw g at b.leads in
      hears-none b.kept off_done b.room leads (ended refl end) q

  pub came-failed : {e : Failed} → x.got ≡ Err e → r ≡ held_as h.run h.have h.to Reading.Failed →
      HearsOn says expected given 1 h from buf buys sells buf₁ buys sells r x.from
  came-failed g q =
      let end : Gives given x.from [] false = rw g at b.stands in
      let leads : Leads given from [] x.from = rw g at b.leads in
      hears-none b.kept off-failed b.room leads (failed refl end) q
