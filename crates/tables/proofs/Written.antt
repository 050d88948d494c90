-- Reports as records: one record written behind another, and a record written over a part of the room.
use Prim.Native.Nat.{ℕ, ◌+◌, ◌-◌, ◌*◌, ◌≤◌}
use native.Mathlib.Omega.{arith}
use mathlib.Core.Path.{◌≡◌, refl, sym, ap, ◌∙◌}
use mathlib.Core.List.{List, [], ◌∷◌, ◌++◌, append_assoc}
use lib.ListN.{length, get_or}
use borrow.Rule.Slice.PartMut.{put_mid}
use Rattle.terms.specs.declared.Report.{Report}
use Rattle.terms.specs.declared.Said.{Said}
use Rattle.terms.specs.declared.Said.TheVariants.{Accept, Trade, Convert, Cancel, Slab, Ref, Close}
use Rattle.terms.specs.Reports.{kind_of}
use Rattle.tables.specs.Lengths.{record_length}
use Rattle.tables.specs.Records.{fields_of, record_of, records_of}
use Rattle.tables.proofs.Records.{length-record, length_records}
use Rattle.tables.specs.Put.{put}
use Rattle.tables.proofs.Puts.{put-put}

records_append : (rs ss : List Report) → records_of (rs ++ ss) ≡ records_of rs ++ records_of ss
unfolding records_of
records_append [] ss = refl
records_append (r ∷ rs) ss = rw (records_append rs ss) (sym (append_assoc (record_of r) (records_of rs) (records_of ss)))

-- reports written behind others
pub put_records : (room : List ℕ) (at : ℕ) (rs ss : List Report) → at + record_length * length rs ≤ length room
    → put (put room at (records_of rs)) (at + record_length * length rs) (records_of ss) ≡ put room at (records_of (rs ++ ss))
put_records room at rs ss h =
    let l : length (records_of rs) ≡ record_length * length rs = length_records rs in
    rw (records_append rs ss, ← l) (put-put room at (records_of rs) (records_of ss) (omega arith))

-- a record written over a part that is as long
pub record_done : (t zs : List ℕ) (at : ℕ) (r : Report) → zs ≡ record_of r → put_mid at (at + record_length - at) t zs ≡ put t at (record_of r)
unfolding put
record_done t zs at r e =
    let d : at + record_length - at ≡ record_length = omega arith in
    rw (e, d, length-record r) refl

-- the four fields, taken apart and put behind the kind and the time
pub fields_again : (s : Said) → get_or (fields_of s) 0 0 ∷ get_or (fields_of s) 1 0 ∷ get_or (fields_of s) 2 0 ∷ get_or (fields_of s) 3 0 ∷ [] ≡ fields_of s
fields_again (Accept number) = refl
fields_again (Trade d) = refl
fields_again (Convert o) = refl
fields_again (Cancel e) = refl
fields_again (Slab b) = refl
fields_again (Ref price) = refl
fields_again (Close c) = refl

-- the six numbers of a record, taken apart and written as two runs of three
record_again : (r : Report)
    → get_or (record_of r) 0 0 ∷ get_or (record_of r) 1 0 ∷ get_or (record_of r) 2 0
    ∷ get_or (record_of r) 3 0 ∷ get_or (record_of r) 4 0 ∷ get_or (record_of r) 5 0 ∷ [] ≡ record_of r
unfolding record_of
record_again r = ap (λ (fs : List ℕ). kind_of r.said ∷ r.time ∷ fs) (fields_again r.said)

pub record_stored : (t u v ns : List ℕ) (at : ℕ) (r : Report) → ns ≡ record_of r
    → u ≡ put t at (get_or ns 0 0 ∷ get_or ns 1 0 ∷ get_or ns 2 0 ∷ [])
    → v ≡ put u (at + 3) (get_or ns 3 0 ∷ get_or ns 4 0 ∷ get_or ns 5 0 ∷ [])
    → at + record_length ≤ length t → v ≡ put t at (record_of r)
record_stored t u v ns at r e p q h =
    let xs : List ℕ = get_or (record_of r) 0 0 ∷ get_or (record_of r) 1 0 ∷ get_or (record_of r) 2 0 ∷ [] in
    let ys : List ℕ = get_or (record_of r) 3 0 ∷ get_or (record_of r) 4 0 ∷ get_or (record_of r) 5 0 ∷ [] in
    rw (q, p, e) (put-put t at xs ys (omega arith)) ∙ ap (put t at) (record_again r)

pub record_made : (r : Report) (kind : ℕ) (fields : List ℕ) → kind ≡ kind_of r.said → fields ≡ fields_of r.said
    → kind ∷ r.time ∷ get_or fields 0 0 ∷ get_or fields 1 0 ∷ get_or fields 2 0 ∷ get_or fields 3 0 ∷ [] ≡ record_of r
unfolding record_of
record_made r kind fields k f = rw (k, f, fields_again r.said) refl
