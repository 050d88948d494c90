-- A record has six numbers, and so many records have six times as many.
use Prim.Native.Nat.{◌*◌}
use native.Mathlib.Omega.{arith}
use mathlib.Core.Path.{◌≡◌, refl}
use mathlib.Core.List.{List, [], ◌∷◌}
use lib.ListN.{length, length-append}
use Rattle.terms.specs.declared.Report.{Report}
use Rattle.terms.specs.declared.Said.{Said}
use Rattle.terms.specs.declared.Said.TheVariants.{Accept, Trade, Convert, Cancel, Slab, Ref, Close}
use Rattle.tables.specs.Lengths.{record_length}
use Rattle.tables.specs.Records.{fields_of, record_of, records_of}

length_fields : (s : Said) → length (fields_of s) ≡ 4
length_fields (Accept number) = refl
length_fields (Trade d) = refl
length_fields (Convert o) = refl
length_fields (Cancel e) = refl
length_fields (Slab b) = refl
length_fields (Ref price) = refl
length_fields (Close c) = refl

pub length-record : (r : Report) → length (record_of r) ≡ record_length
unfolding record_of
length-record r = let e : length (fields_of r.said) ≡ 4 = length_fields r.said in omega arith

pub length_records : (rs : List Report) → length (records_of rs) ≡ record_length * length rs
unfolding records_of
length_records [] = refl
length_records (r ∷ rs) =
    let e : length (record_of r) ≡ record_length = length-record r in
    let f : length (records_of rs) ≡ record_length * length rs = length_records rs in
    simp length-append (omega arith)
