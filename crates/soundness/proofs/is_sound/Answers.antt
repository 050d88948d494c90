-- The book is judged only where the session's numbers are sound.
use borrow.Author.Rules.{rules}
use native.Mathlib.Omega.{arith}
use Rattle.soundness_law.proofs.Clocked.{clocked_found, dividing_found}
use Rattle.soundness_law.proofs.Border.{numbers_unsound, book_decides}
use Rattle.soundness.proofs.is_sound.Goals as goal

pub returns-then-not-session_sound : goal.returns-then-not-session_sound
returns-then-not-session_sound c = numbers_unsound _ _ _ _ c.session_sound.ensures c.if-not-session_sound.true-raw

pub band_now-band-requires : goal.band_now-band-requires
band_now-band-requires c = clocked_found _ _ c.session_sound.ensures c.if-not-session_sound.false-raw

pub invariant_of-book_sound : goal.invariant_of-book_sound
invariant_of-book_sound c = let k = clocked_found _ _ c.session_sound.ensures c.if-not-session_sound.false-raw in search (rules, k)

pub invariant_of-book_sound-2 : goal.invariant_of-book_sound-2
invariant_of-book_sound-2 c = let k = clocked_found _ _ c.session_sound.ensures c.if-not-session_sound.false-raw in search (rules, k)

pub book_sound-requires : goal.book_sound-requires
book_sound-requires c =
    let found = c.session_sound.ensures in
    let k = clocked_found _ _ found c.if-not-session_sound.false-raw in
    let d = dividing_found _ _ _ found c.if-not-session_sound.false-raw c.factor-factor.ensures in
    (search (rules, k), d, omega (arith, c.band_now-band.ensures.1))

pub returns : goal.returns
returns c =
    book_decides _ _ _ _ c.session_sound.ensures _ _ c.if-not-session_sound.false-raw c.band_now-band.ensures.0 c.book_sound.ensures
