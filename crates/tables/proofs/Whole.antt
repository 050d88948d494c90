-- A side's whole table: what `table_of` leaves as it was, and how orders are taken out, put in and changed.
use Prim.Native.Nat.{ℕ, ◌+◌, ◌-◌, ◌*◌, ◌≤◌, ◌<◌}
use native.Mathlib.Omega.{arith}
use native.Mathlib.Nat.{add-zero}
use native.Mathlib.Numerals.{add-one}
use mathlib.Core.Path.{◌≡◌, refl, sym, ap, ◌∙◌}
use mathlib.Core.List.{List, [], ◌∷◌, ◌++◌, append_assoc}
use lib.ListN.{length, get_or, take, drop, replicate, length-append, length-take, length-drop, take-append-drop, length-replicate, replicate-append-replicate}
use lib.Seq.{drop-cons, drop-drop, take_at, drop_at}
use Rattle.terms.specs.declared.Order.{Order}
use Rattle.terms.specs.Sizes.{slots}
use Rattle.tables.specs.Lengths.{width, table_length}
use Rattle.tables.specs.Put.{put}
use Rattle.tables.specs.Tables.{numbers_of, decode, encode, table_of, Holds}
use Rattle.tables.proofs.Puts.{put-at, put-put, put-put-before}
use Rattle.tables.proofs.Slots.{length-encode, encode-append, length-decode, decode-encode, encode-decode}

-- what lies behind k orders: zeros up to the table's end, and the old numbers past it
spare : ℕ → List ℕ → List ℕ
spare k t = replicate (table_length - width * k) 0 ++ drop table_length t

-- ---- what table_of leaves as it was

pub length-table_of : (os : List Order) (t : List ℕ) → length os ≤ slots → table_length ≤ length t → length (table_of os t) ≡ length t
unfolding table_of
length-table_of os t h g =
    let e : length (encode os) ≡ width * length os = length-encode os in
    simp (length-append, length-replicate, length-drop) (omega arith)

decode-table_of : (os : List Order) (t : List ℕ) → decode (length os) (table_of os t) ≡ os
unfolding table_of spare
decode-table_of os t = decode-encode os (spare (length os) t)

-- of the old numbers only those past the table's end are left
pub table_of-table_of : (xs os : List Order) (t : List ℕ) → length os ≤ slots → table_of xs (table_of os t) ≡ table_of xs t
unfolding table_of
table_of-table_of xs os t h =
    let z : List ℕ = replicate (table_length - width * length os) 0 in
    let l : length (encode os ++ z) ≡ table_length = simp (length-append, length-replicate, length-encode) (omega arith) in
    let e : drop table_length (encode os ++ (z ++ drop table_length t)) ≡ drop table_length t =
    rw (← append_assoc (encode os) z (drop table_length t)) (drop_at (encode os ++ z) (drop table_length t) table_length l) in
    ap (λ (r : List ℕ). encode xs ++ (replicate (table_length - width * length xs) 0 ++ r)) e

-- what a caller knows once a call has left u ≡ table_of os t
pub record After (n : ℕ) (os : List Order) (t u : List ℕ) : Type 0 where
  pub holds : Holds n u
  pub reads : decode n u ≡ os
  pub past : (xs : List Order) → table_of xs u ≡ table_of xs t
  pub same_length : length u ≡ length t

pub after : (n : ℕ) (os : List Order) (t u : List ℕ) → u ≡ table_of os t → length os ≡ n → n ≤ slots → table_length ≤ length t → After n os t u
after n os t u e l h g = rw (e, ← l) (record {
  holds = record {
    few = omega arith;
    long = omega (arith, length-table_of os t (omega arith) g);
    shape = sym (rw (decode-table_of os t) (table_of-table_of os os t (omega arith)));
  };
  reads = decode-table_of os t;
  past = λ xs. table_of-table_of xs os t (omega arith);
  same_length = length-table_of os t (omega arith) g;
})

-- ---- the same on plain lists: c moves over b, with z behind it; and c makes way for vs, over g

cut_flat : (a b c z r : List ℕ) (at : ℕ) → length a ≡ at → length z ≡ length b → put (put (a ++ ((b ++ c) ++ r)) at c) (at + length c) z ≡ a ++ ((c ++ z) ++ r)
cut_flat a b c z r at e f =
    let l : at + length c ≤ length (a ++ ((b ++ c) ++ r)) = simp length-append (omega arith) in
    rw (put-put (a ++ ((b ++ c) ++ r)) at c z l) (put-at a (b ++ c) r (c ++ z) at e (simp length-append (omega arith)))

grow_flat : (a c g vs r : List ℕ) (at : ℕ) → length a ≡ at → length g ≡ length vs → put (put (a ++ ((c ++ g) ++ r)) (at + length vs) c) at vs ≡ a ++ ((vs ++ c) ++ r)
grow_flat a c g vs r at e f =
    let l : at + length vs ≤ length (a ++ ((c ++ g) ++ r)) = simp length-append (omega arith) in
    rw (put-put-before (a ++ ((c ++ g) ++ r)) at vs c l) (put-at a (c ++ g) r (vs ++ c) at e (simp length-append (omega arith)))

-- ---- a table cut into its parts

-- three runs of orders, and what lies behind them
in_parts : (xs ys zs : List Order) (t : List ℕ) → table_of (xs ++ (ys ++ zs)) t ≡ encode xs ++ ((encode ys ++ encode zs) ++ spare (length (xs ++ (ys ++ zs))) t)
unfolding table_of spare
in_parts xs ys zs t = rw (encode-append xs (ys ++ zs), encode-append ys zs, append_assoc (encode xs) (encode ys ++ encode zs))

-- two runs of orders, k empty slots, and what lies behind them
spare_parts : (xs zs : List Order) (t : List ℕ) (k m : ℕ) → length (xs ++ zs) + k ≡ m → m ≤ slots
    → encode xs ++ ((encode zs ++ replicate (width * k) 0) ++ spare m t) ≡ table_of (xs ++ zs) t
unfolding table_of spare
spare_parts xs zs t k m e h =
    let w : ℕ = table_length - width * m in
    let f : table_length - width * length (xs ++ zs) ≡ width * k + w = omega arith in
    rw (encode-append xs zs, f, ← replicate-append-replicate {A = ℕ} (width * k) w 0) (simp append_assoc)

module _ (t : List ℕ) (i k m : ℕ) where
  cut_parts : (xs ys zs : List Order) → length xs ≡ i → length ys ≡ k → length zs ≡ m → i + k + m ≤ slots
      → put (put (table_of (xs ++ (ys ++ zs)) t) (width * i) (take (width * m) (drop (width * (i + k)) (table_of (xs ++ (ys ++ zs)) t)))) (width * (i + m)) (replicate (width * k) 0) ≡ table_of (xs ++ zs) t
  cut_parts xs ys zs ea eb ec h =
      let a = encode xs in
      let b = encode ys in
      let c = encode zs in
      let n : ℕ = length (xs ++ (ys ++ zs)) in
      let r : List ℕ = spare n t in
      let la : length a ≡ width * i = rw ea at (length-encode xs) in
      let lb : length b ≡ width * k = rw eb at (length-encode ys) in
      let lc : length c ≡ width * m = rw ec at (length-encode zs) in
      let p : drop (width * (i + k)) (a ++ ((b ++ c) ++ r)) ≡ c ++ r =
      rw (append_assoc b c r, ← append_assoc a b (c ++ r)) (drop_at (a ++ b) (c ++ r) (width * (i + k)) (simp length-append (omega arith))) in
      let q : take (width * m) (c ++ r) ≡ c = take_at c r (width * m) lc in
      let s : width * (i + m) ≡ width * i + length c = omega arith in
      rw (in_parts xs ys zs t, p, q, s, cut_flat a b c (replicate (width * k) 0) r (width * i) la (length-replicate (width * k) 0 ∙ sym lb))
      (spare_parts xs zs t k n (simp length-append (omega arith)) (simp length-append (omega arith)))

  grow_parts : (xs zs : List Order) (o : Order) → length xs ≡ i → length zs ≡ m → i + m < slots
      → put (put (table_of (xs ++ zs) t) (width * i + width) (take (width * m) (drop (width * i) (table_of (xs ++ zs) t)))) (width * i) (numbers_of o) ≡ table_of (xs ++ (o ∷ zs)) t
  unfolding encode
  grow_parts xs zs o ea ec h =
      let a = encode xs in
      let c = encode zs in
      let n : ℕ = length (xs ++ (o ∷ zs)) in
      let r : List ℕ = spare n t in
      let g : List ℕ = replicate (width * 1) 0 in
      let la : length a ≡ width * i = rw ea at (length-encode xs) in
      let lc : length c ≡ width * m = rw ec at (length-encode zs) in
      let p : drop (width * i) (a ++ ((c ++ g) ++ r)) ≡ (c ++ g) ++ r = drop_at a ((c ++ g) ++ r) (width * i) la in
      let q : take (width * m) ((c ++ g) ++ r) ≡ c = rw (append_assoc c g r) (take_at c (g ++ r) (width * m) lc) in
      rw (← spare_parts xs zs t 1 n (simp length-append (omega arith)) (simp length-append (omega arith)), p, q, grow_flat a c g (numbers_of o) r (width * i) la refl)
      (sym (in_parts xs (o ∷ []) zs t))

  swap_parts : (xs zs : List Order) (o u : Order) → length xs ≡ i → put (table_of (xs ++ (o ∷ zs)) t) (width * i) (numbers_of u) ≡ table_of (xs ++ (u ∷ zs)) t
  unfolding encode
  swap_parts xs zs o u ea =
      let la : length (encode xs) ≡ width * i = rw ea at (length-encode xs) in
      let f : length (xs ++ (u ∷ zs)) ≡ length (xs ++ (o ∷ zs)) = simp length-append in
      rw (in_parts xs (o ∷ []) zs t, put-at (encode xs) (numbers_of o) (encode zs ++ spare (length (xs ++ (o ∷ zs))) t) (numbers_of u) (width * i) la refl)
      (sym (rw f at (in_parts xs (u ∷ []) zs t)))

-- ---- what the calls leave of a table that holds n orders

three_parts : (os : List Order) (i k : ℕ) → take i os ++ (take k (drop i os) ++ drop (i + k) os) ≡ os
three_parts os i k = rw (← drop-drop k i os, take-append-drop k (drop i os)) (take-append-drop i os)

one_part : (os : List Order) (i : ℕ) (o : Order) → i < length os → take i os ++ (get_or os i o ∷ drop (i + 1) os) ≡ os
one_part os i o h = rw (add-one i, ← drop-cons os i o h) (take-append-drop i os)

pub cut_none : (n : ℕ) (t : List ℕ) → Holds n t → (i k : ℕ) → k ≡ 0 → t ≡ table_of (take i (decode n t) ++ drop (i + k) (decode n t)) t
cut_none n t h i k e = rw (e, add-zero, take-append-drop i (decode n t)) h.shape

module _ (n : ℕ) (t : List ℕ) (h : Holds n t) (u v : List ℕ) (i : ℕ) where
  pub cut_done : (k : ℕ) → u ≡ put t (width * i) (take (width * (n - (i + k))) (drop (width * (i + k)) t)) → v ≡ put u (width * (n - k)) (replicate (width * k) 0) → i + k ≤ n
      → v ≡ table_of (take i (decode n t) ++ drop (i + k) (decode n t)) t
  cut_done k e f g =
      let os = decode n t in
      let l : length os ≡ n = length-decode n t in
      let few : n ≤ slots = h.few in
      let d : n - k ≡ i + (n - (i + k)) = omega arith in
      cc (rw (three_parts os i k, ← h.shape, ← d) at
      (cut_parts t i k (n - (i + k)) (take i os) (take k (drop i os)) (drop (i + k) os)
      (simp length-take (omega arith)) (simp (length-take, length-drop) (omega arith)) (simp length-drop (omega arith)) (omega arith)))

  pub grow_done : (o : Order) → u ≡ put t (width * i + width) (take (width * (n - i)) (drop (width * i) t)) → v ≡ put u (width * i) (numbers_of o) → i ≤ n → n < slots
      → v ≡ table_of (take i (decode n t) ++ (o ∷ drop i (decode n t))) t
  grow_done o e f g k =
      let os = decode n t in
      let l : length os ≡ n = length-decode n t in
      cc (rw (take-append-drop i os, ← h.shape) at
      (grow_parts t i 0 (n - i) (take i os) (drop i os) o (simp length-take (omega arith)) (simp length-drop (omega arith)) (omega arith)))

pub swap_done : (n : ℕ) (t : List ℕ) → Holds n t → (v : List ℕ) (i : ℕ) (o : Order) → v ≡ put t (width * i) (numbers_of o) → i < n
    → v ≡ table_of (take i (decode n t) ++ (o ∷ drop (i + 1) (decode n t))) t
swap_done n t h v i o e g =
    let os = decode n t in
    let l : length os ≡ n = length-decode n t in
    cc (rw (one_part os i o (omega arith), ← h.shape) at
    (swap_parts t i 0 0 (take i os) (drop (i + 1) os) (get_or os i o) o (simp length-take (omega arith))))

-- ---- zeros written over everything behind n orders, whatever stood there

pub tail_cleared : (n : ℕ) (t u : List ℕ) → n ≤ slots → table_length ≤ length t → u ≡ put t (width * n) (replicate (table_length - width * n) 0) → u ≡ table_of (decode n t) t
unfolding put table_of
tail_cleared n t u h g e =
    let l : length (decode n t) ≡ n = length-decode n t in
    let z : length {A = ℕ} (replicate (table_length - width * n) 0) ≡ table_length - width * n = length-replicate _ 0 in
    let s : width * n + (table_length - width * n) ≡ table_length = omega arith in
    rw (e, l, z, drop-drop (table_length - width * n) (width * n) t, s, encode-decode n t (omega arith))

-- what a caller knows then: the table holds the orders that were live before
pub cleared : (n : ℕ) (t u : List ℕ) → u ≡ table_of (decode n t) t → n ≤ slots → table_length ≤ length t → After n (decode n t) t u
cleared n t u e h g = after n (decode n t) t u e (length-decode n t) h g

pub cleared_holds : (n : ℕ) (t u : List ℕ) → u ≡ table_of (decode n t) t → n ≤ slots → table_length ≤ length t → Holds n u
cleared_holds n t u e h g = (cleared n t u e h g).holds
