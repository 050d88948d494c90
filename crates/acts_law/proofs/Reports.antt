-- Reports are written into the room one behind the other, and stand there in their order.
use Prim.Native.Nat.{ℕ, ◌+◌, ◌*◌, ◌≤◌, ◌<◌}
use native.Mathlib.Omega.{arith}
use borrow.Author.Tests.{eq-eqb, ne_eqb}
use mathlib.Core.Path.{◌≡◌, refl, sym, ap, ◌∙◌}
use mathlib.Core.Bool.{Bool, not}
use mathlib.Core.List.{List, [], ◌∷◌, ◌++◌, append-nil}
use lib.Dec.{eqb}
use lib.ListN.{length, take, length-append, length-take}
use lib.Seq.{take-add, take_all}
use Rattle.terms.specs.declared.Band.{Band}
use Rattle.terms.specs.declared.Order.{Order}
use Rattle.terms.specs.declared.Report.{Report}
use Rattle.terms.specs.declared.Said.{Said}
use Rattle.terms.specs.declared.Said.TheVariants.{Slab}
use Rattle.terms.specs.declared.Why.{Why}
use Rattle.tables.specs.Lengths.{record_length}
use Rattle.tables.specs.Records.{record_of, records_of}
use Rattle.tables.specs.Put.{put}
use Rattle.tables.specs.Tables.{order_at, decode}
use Rattle.tables.proofs.Puts.{put-none, length-put}
use Rattle.tables.proofs.Slots.{length-decode, decode_read}
use Rattle.tables.proofs.Records.{length_records}
use Rattle.tables.proofs.Written.{put_records}
use Rattle.book_law.specs.Matching.{report_at}
use Rattle.acts_law.specs.Acts.{only, ended, cancel_reports}
use Rattle.acts_law.specs.code.Written.{Written}
use Rattle.acts_law.proofs.Few.{only-few}

pub written_none : (room : List ℕ) (at : ℕ) → Written room at [] room at
unfolding records_of
written_none room at = record { laid = sym (put-none room at); behind = omega arith }

pub written_one : (room : List ℕ) (at time : ℕ) (said : Said) (room₁ : List ℕ) →
    room₁ ≡ put room at (record_of (report_at time said)) → Written room at (report_at time said ∷ []) room₁ (at + record_length)
unfolding records_of
written_one room at time said room₁ e = record { laid = rw (append-nil (record_of (report_at time said))) e; behind = omega arith }

-- the room keeps its length
pub written-length : (room : List ℕ) (at : ℕ) (rs : List Report) (room₁ : List ℕ) (n : ℕ) →
    Written room at rs room₁ n → at + record_length * length rs ≤ length room → length room₁ ≡ length room
written-length room at rs room₁ n w h = rw w.laid (length-put room at (records_of rs) (omega (arith, length_records rs)))

-- reports written behind other reports stand as one run
pub written_then : (room : List ℕ) (at : ℕ) (rs : List Report) (room₁ : List ℕ) (n : ℕ) (ss : List Report) (room₂ : List ℕ) (m : ℕ) →
    Written room at rs room₁ n → Written room₁ n ss room₂ m → at + record_length * length rs ≤ length room → Written room at (rs ++ ss) room₂ m
written_then room at rs room₁ n ss room₂ m v w h =
    record {
      laid = rw (w.laid, v.laid, v.behind) (put_records room at rs ss h);
      behind = simp length-append (omega (arith, v.behind, w.behind));
    }

-- ---- a report that is only made where two numbers differ

-- where two numbers that code compares are alike, so are the values that they stand for
pub alike : (p q a b : ℕ) → p ≡ a → q ≡ b → p ≡ q → a ≡ b
alike p q a b e f g = sym e ∙ g ∙ f

pub apart : (p q a b : ℕ) → p ≡ a → q ≡ b → (p ≡ q → ⊥) → a ≡ b → ⊥
apart p q a b e f g h = g (e ∙ h ∙ sym f)

module _ (room : List ℕ) (at a b : ℕ) (r : Report) where
  pub only_none : a ≡ b → Written room at (only (not (eqb a b)) r) room at
  only_none e = rw (eq-eqb a b e) (written_none room at)

  pub only_one : (a ≡ b → ⊥) → (room₁ : List ℕ) (n : ℕ) → Written room at (r ∷ []) room₁ n → Written room at (only (not (eqb a b)) r) room₁ n
  only_one e room₁ n w = rw (ne_eqb a b e) w

-- a slab report names the band that was computed
pub slab_one : (room : List ℕ) (at time : ℕ) (x y : Band) (room₁ : List ℕ) (n : ℕ) → x ≡ y →
    Written room at (report_at time (Slab x) ∷ []) room₁ n → Written room at (report_at time (Slab y) ∷ []) room₁ n
slab_one room at time x y room₁ n e w = rw e at w

module _ (room : List ℕ) (at : ℕ) (b : Bool) (r : Report) (room₁ : List ℕ) (n : ℕ) (w : Written room at (only b r) room₁ n)
    (h : at + record_length * 2 ≤ length room) where
  fits : at + record_length * length (only b r) ≤ length room
  fits = omega (arith, only-few b r)

  -- behind it, whether it was made or not, there is room for one more report,
  pub only_leaves : n + record_length ≤ length room₁
  only_leaves = omega (arith, only-few b r, w.behind, written-length room at (only b r) room₁ n w fits)

  -- and reports that follow it stand behind it
  pub only_then : (ss : List Report) (room₂ : List ℕ) (m : ℕ) → Written room₁ n ss room₂ m → Written room at (only b r ++ ss) room₂ m
  only_then ss room₂ m v = written_then room at (only b r) room₁ n ss room₂ m w v fits

-- ---- the cancels of a side, order after order

pub length_cancels : (why : Why) (time : ℕ) (os : List Order) → length (cancel_reports why time os) ≡ length os
unfolding cancel_reports
length_cancels why time [] = refl
length_cancels why time (o ∷ os) = omega (arith, length_cancels why time os)

cancels_append : (why : Why) (time : ℕ) (xs ys : List Order) → cancel_reports why time (xs ++ ys) ≡ cancel_reports why time xs ++ cancel_reports why time ys
unfolding cancel_reports
cancels_append why time [] ys = refl
cancels_append why time (o ∷ xs) ys = ap (λ (l : List Report). ended time o.number o.lots why ∷ l) (cancels_append why time xs ys)

pub cancels_none : (room : List ℕ) (at : ℕ) (why : Why) (time n : ℕ) (t : List ℕ) → Written room at (cancel_reports why time (take 0 (decode n t))) room at
unfolding cancel_reports
cancels_none room at why time n t = written_none room at

-- the first i orders of the side are told as cancelled
module _ (room : List ℕ) (at : ℕ) (why : Why) (time n : ℕ) (t : List ℕ) (i : ℕ) (room₁ : List ℕ) (next : ℕ)
    (w : Written room at (cancel_reports why time (take i (decode n t))) room₁ next) where
  pub cancels_all : i ≤ n → n ≤ i → Written room at (cancel_reports why time (decode n t)) room₁ next
  cancels_all g k = rw (take_all i (decode n t) (omega (arith, length-decode n t))) at w

  module _ (g : i < n) (h : at + record_length * n ≤ length room) where
    so_many : length (cancel_reports why time (take i (decode n t))) ≡ i
    so_many = length_cancels why time (take i (decode n t)) ∙ simp length-take (omega (arith, length-decode n t))

    below : at + record_length * length (cancel_reports why time (take i (decode n t))) ≤ length room
    below = omega (arith, so_many)

    pub cancels_leave : next + record_length ≤ length room₁
    cancels_leave = omega (arith, so_many, w.behind, written-length room at (cancel_reports why time (take i (decode n t))) room₁ next w below)

    module _ (o : Order) (d : o ≡ order_at t i) where
      one_more : take (i + 1) (decode n t) ≡ take i (decode n t) ++ (o ∷ [])
      one_more = rw (take-add i 1 (decode n t), decode_read n t i o g d)

      pub cancels_turn : (room₂ : List ℕ) (m : ℕ) → Written room₁ next (ended time o.number o.lots why ∷ []) room₂ m →
          Written room at (cancel_reports why time (take (i + 1) (decode n t))) room₂ m
      unfolding cancel_reports
      cancels_turn room₂ m v =
          rw (one_more, cancels_append why time (take i (decode n t)) (o ∷ []))
          (written_then room at (cancel_reports why time (take i (decode n t))) room₁ next (ended time o.number o.lots why ∷ []) room₂ m w v below)
