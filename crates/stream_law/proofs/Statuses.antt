-- What a call's answer says of the file, a number of bytes and the descriptor of a place, as code hands them on, and what a write took.
use Prim.Native.Nat.{ℕ, ◌≤◌, ◌<◌}
use native.Mathlib.Omega.{arith}
use mathlib.Core.Path.{◌≡◌, refl, sym, ap, ◌∙◌}
use lib.IntN.{ℤ, pos, negsuc}
use borrow.Author.Tests.{le-leb, lt-leb, eq-eqb, ne_eqb}
use mir.Syntax.{w32, w64}
use mir.Val.{of_z, to_z, SFits}
use mir.Facts.{to_z-of_z, to_z_pos}
use Rattle.std.specs.Prelude.{Ok, Err}
use Rattle.stream_law.specs.declared.Sink.{Sink}
use Rattle.stream_law.specs.declared.Place.{Place}
use Rattle.stream_law.specs.Sinks.{kept_by, length_most, length_of, descriptor_of, failed_at, held_by, took_by}

-- ---- a call that was done, and one that failed

pub kept-zero : {T : Type 0} (E : Type 0) (done : T) → Sink.Print ≡ kept_by {T = T} {E = E} (Ok done)
kept-zero E done = refl

pub kept-not : (T : Type 0) {E : Type 0} (failed : E) → Sink.Unsaved ≡ kept_by {T = T} {E = E} (Err failed)
kept-not T failed = refl

-- ---- a number of bytes

pub length_long : {n : ℕ} → length_most < n → negsuc 0 ≡ length_of n
length_long {n} h = rw (lt-leb n length_most h)

pub length-there : {n : ℕ} → n ≤ length_most → to_z w64 n ≡ length_of n
length-there {n} h = to_z_pos w64 {n = n} (omega arith) ∙ rw (le-leb n length_most h)

-- ---- the descriptor of a place

pub descriptor_file : {place : Place} {fd : ℤ} → SFits w32 fd → place ≡ Place.File fd → to_z w32 (of_z w32 fd) ≡ descriptor_of place
descriptor_file f e = to_z-of_z f ∙ ap descriptor_of (sym e)

pub descriptor_output : {place : Place} → place ≡ Place.Output → pos 1 ≡ descriptor_of place
descriptor_output e = ap descriptor_of (sym e)

-- ---- what a write took

pub took_none : (place : Place) {n : ℕ} {s : Sink} → n ≡ 0 → s ≡ failed_at place → held_by s 0 ≡ took_by place n
took_none place {n} e h = rw (eq-eqb n 0 e, h)

pub held_as_lem : {s t : Sink} {n : ℕ} → s ≡ t → held_by s n ≡ held_by t n
held_as_lem {n = n} e = ap (λ (x : Sink). held_by x n) e

pub took_some : (place : Place) {n : ℕ} → (n ≡ 0 → ⊥) → held_by Sink.Print n ≡ took_by place n
took_some place {n} h = rw (ne_eqb n 0 h)
