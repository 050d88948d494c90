-- The day that a session and two tables hold: its orders are as many as the session's live counts say.
use Prim.Native.Nat.{ℕ}
use mathlib.Core.Path.{◌≡◌, sym}
use mathlib.Core.Bool.{Bool, true, false, not}
use mathlib.Core.List.{List}
use borrow.Author.Tests.{eq-eqb, not-true, not-false}
use Rattle.terms.specs.Truth.{◌⊓◌}
use Rattle.terms.proofs.Logic.{both, make}
use Rattle.terms.specs.declared.Band.{Band}
use Rattle.terms.specs.Sizes.{sizes}
use Rattle.tables.specs.Tables.{decode}
use Rattle.tables.proofs.Slots.{length-decode}
use Rattle.book_sound_law.specs.Sound.{book_sound}
use Rattle.state_law.specs.declared.Session.{Session}
use Rattle.state_law.specs.Now.{band_now}
use Rattle.state_law.specs.Day.{Day}
use Rattle.soundness_law.specs.Sound.{session_sound, counted, sound, day_in, sound_by}

pub counted_in : (s : Session) (buys sells : List ℕ) → counted (day_in s buys sells) ≡ true
unfolding counted
counted_in s buys sells = make (eq-eqb _ _ (sym (length-decode s.live.buys buys))) (eq-eqb _ _ (sym (length-decode s.live.sells sells)))

-- each return of the code: unsound numbers make the day unsound, otherwise the book decides
module _ (s : Session) (buys sells : List ℕ) (found : Bool) (f : found ≡ session_sound sizes s) where
  pub numbers_unsound : not found ≡ true → false ≡ sound (day_in s buys sells)
  unfolding sound_by ◌⊓◌
  numbers_unsound e = rw (← f, not-true found e)

  pub book_decides : (band : Band) (b : Bool) → not found ≡ false → band ≡ band_now s → b ≡ book_sound s.live.given s.settings.tick band (decode s.live.buys buys) (decode s.live.sells sells) → b ≡ sound (day_in s buys sells)
  unfolding sound_by ◌⊓◌
  book_decides band b e n h = rw (← f, not-false found e, counted_in s buys sells, ← n) h

-- a sound day has a sound session
pub sound-session : (d : Day) → sound d ≡ true → session_sound sizes d.session ≡ true
unfolding sound_by
sound-session d e = (both (both e).0).0
