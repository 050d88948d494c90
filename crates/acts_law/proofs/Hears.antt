-- What a listener knows who has the settings and hears each report: the band and the reference of the session, and that a slab report comes
-- only after a trade at an end of the initial band and its cooling-off. So each trade is inside what was told before it.
use Prim.Native.Nat.{ℕ, ◌+◌, ◌≤◌}
use native.Mathlib.Omega.{arith}
use native.Mathlib.Nat.{le_refl}
use borrow.Author.Tests.{leb-true, le-leb}
use mathlib.Core.Path.{◌≡◌, refl, ◌∙◌}
use mathlib.Core.Bool.{Bool, true, false, ◌||◌}
use mathlib.Core.List.{List, [], ◌∷◌, ◌++◌}
use lib.Dec.{eqb, leb}
use Rattle.std.specs.Prelude.{Option, Some, None}
use Rattle.std.specs.Option.{option_map_or, IfSome}
use Rattle.terms.specs.declared.Settings.{Settings}
use Rattle.terms.specs.declared.Band.{Band}
use Rattle.terms.specs.declared.Deal.{Deal}
use Rattle.terms.specs.declared.Report.{Report}
use Rattle.terms.specs.declared.Said.{Said}
use Rattle.terms.specs.declared.Said.TheVariants.{Trade}
use Rattle.terms.proofs.Logic.{by, cases, split, join, or_left, or-last}
use Rattle.rules_law.specs.Slabs.{slab_of, percent_of, band_at, in_band, touches, cooling_length, cooling_after}
use Rattle.rules_law.specs.Reference.{range_of, in_range}
use Rattle.book_law.specs.Matching.{report_at}
use Rattle.book_law.specs.Tells.{tells}
use Rattle.state_law.specs.declared.Session.{Session}
use Rattle.state_law.specs.Now.{band_now}
use Rattle.acts_law.proofs.Pieces.{EachTold}
use Rattle.acts_law.specs.Heard.{initial_band, enhanced_band, band_after, reference_after, touched_in, touched_by}

-- ---- the listener

-- the band and the reference as told, the time of the last report, and the reports that were heard, newest first
pub record Listener : Type 0 where
  pub band : Band
  pub reference : ℕ
  pub time : ℕ
  pub past : List Report

abbrev pub listen : Listener → Report → Listener
listen l r =
    record {
      band = band_after l.band r.said;
      reference = reference_after l.reference r.said;
      time = r.time;
      past = r ∷ l.past;
    }

unfoldable pub listen_all : Listener → List Report → Listener
listen_all l [] = l
listen_all l (r ∷ rs) = listen_all (listen l r) rs

-- What a slab report means: a trade at an end of the initial band came long enough before it; until then the initial band was in force; and
-- it tells the enhanced band, which holds every price of the initial one.
pub record FineSlab (g : Settings) (l : Listener) (t : ℕ) (band : Band) : Type 0 where
  pub touched : touched_by (initial_band g) t l.past ≡ true
  pub before : l.band ≡ initial_band g
  pub told : band ≡ enhanced_band g
  pub wider : (x : ℕ) → in_band l.band x ≡ true → in_band band x ≡ true

-- what must hold of a report, given what was heard before it: a trade is in the band and in the range
abbrev pub FineSaid : Settings → Listener → ℕ → Said → Type 0
FineSaid g l t x =
    IfSome (tells x).deal (λ deal. (in_band l.band deal.price ≡ true) × (in_range (range_of (slab_of g.category) l.reference) deal.price ≡ true))
    × IfSome (tells x).band (FineSlab g l t)

-- and its time is not before that of the report before it
abbrev pub Fine : Settings → Listener → Report → Type 0
Fine g l r = (l.time ≤ r.time) × FineSaid g l r.time r.said

unfoldable pub EachFine : Settings → Listener → List Report → Type 0
EachFine g l [] = Unit {0}
EachFine g l (r ∷ rs) = Fine g l r × EachFine g (listen l r) rs

-- a cooling-off that runs was begun by a trade that the listener has heard
abbrev pub Cooled : Settings → ℕ → List Report → Type 0
Cooled g cooling past = (eqb cooling 0 || touched_by (initial_band g) cooling past) ≡ true

-- what a listener follows of a session
pub record Known : Type 0 where
  pub band : Band
  pub reference : ℕ
  pub time : ℕ
  pub cooling : ℕ

abbrev pub known_of : Session → Known
known_of s = record { band = band_now s; reference = s.reckoning.reference; time = s.clock.time; cooling = s.clock.cooling }

-- what the listener has heard is what the session has
pub record Knows (g : Settings) (l : Listener) (k : Known) : Type 0 where
  pub band-same : l.band ≡ k.band
  pub reference-same : l.reference ≡ k.reference
  pub time_past : l.time ≤ k.time
  pub cooled : Cooled g k.cooling l.past

abbrev pub KnowsOf : Settings → Listener → Session → Type 0
KnowsOf g l s = Knows g l (known_of s)

-- these reports are fine after all that was heard, and after them the listener knows k
pub record Tells (g : Settings) (l : Listener) (rs : List Report) (k : Known) : Type 0 where
  pub fine : EachFine g l rs
  pub known : Knows g (listen_all l rs) k

abbrev pub TellsOf : Settings → Listener → List Report → Session → Type 0
TellsOf g l rs s = Tells g l rs (known_of s)

-- ---- lists of reports

pub listen_append : (l : Listener) (xs ys : List Report) → listen_all l (xs ++ ys) ≡ listen_all (listen_all l xs) ys
unfolding listen_all
listen_append l [] ys = refl
listen_append l (x ∷ xs) ys = listen_append (listen l x) xs ys

pub fine-append : (g : Settings) (l : Listener) (xs ys : List Report) → EachFine g l xs → EachFine g (listen_all l xs) ys → EachFine g l (xs ++ ys)
unfolding listen_all EachFine
fine-append g l [] ys p q = q
fine-append g l (x ∷ xs) ys p q = (p.0, fine-append g (listen l x) xs ys p.1 q)

module _ (g : Settings) (k : Known) where
  pub none-tells : (l : Listener) → Knows g l k → Tells g l [] k
  unfolding EachFine listen_all
  none-tells l h = record { fine = tt; known = h }

  pub next-tells : (l : Listener) (r : Report) (rs : List Report) → Fine g l r → Tells g (listen l r) rs k → Tells g l (r ∷ rs) k
  unfolding EachFine listen_all
  next-tells l r rs f h = record { fine = (f, h.fine); known = h.known }

  pub one_tells : (l : Listener) (r : Report) → Fine g l r → Knows g (listen l r) k → Tells g l (r ∷ []) k
  one_tells l r f h = next-tells l r [] f (none-tells (listen l r) h)

  -- reports after which the listener knows k, and then others after which he knows k', are one run after which he knows k'
  pub append-tells : (k' : Known) (l : Listener) (xs ys : List Report) → Tells g l xs k →
      (Knows g (listen_all l xs) k → Tells g (listen_all l xs) ys k') → Tells g l (xs ++ ys) k'
  append-tells k' l xs ys h f =
      let q : Tells g (listen_all l xs) ys k' = f h.known in
      record { fine = fine-append g l xs ys h.fine q.fine; known = rw (listen_append l xs ys) q.known }

-- what holds of each report holds of one in the middle
pub fine-at : (g : Settings) (l : Listener) (before later : List Report) (r : Report) → EachFine g l (before ++ (r ∷ later)) →
    Fine g (listen_all l before) r
unfolding EachFine listen_all
fine-at g l [] later r f = f.0
fine-at g l (x ∷ xs) later r f = fine-at g (listen l x) xs later r f.1

-- ---- touches

-- a touch whose cooling-off is over by some time is over by every later time
passes_too : {A : Type 0} (f g : A → Bool) → ((x : A) → f x ≡ true → g x ≡ true) → (x : Option A) → option_map_or f x false ≡ true → option_map_or g x false ≡ true
passes_too f g h None e = e
passes_too f g h (Some x) e = h x e

later_in : (b : Band) (t u time : ℕ) (x : Said) → t ≤ u → touched_in b t time x ≡ true → touched_in b u time x ≡ true
later_in b t u time x h =
    passes_too _ _
    (λ deal e. let p = split (touches b deal.price) (leb (time + cooling_length) t) e in
    join (touches b deal.price) (leb (time + cooling_length) u) p.0
    (le-leb (time + cooling_length) u (omega (arith, leb-true (time + cooling_length) t p.1))))
    (tells x).deal

pub later_by_lem : (b : Band) (t u : ℕ) (rs : List Report) → t ≤ u → touched_by b t rs ≡ true → touched_by b u rs ≡ true
unfolding touched_by
later_by_lem b t u [] h e = e
later_by_lem b t u (r ∷ rs) h e =
    cases (touched_in b t r.time r.said)
    (λ z. or_left _ _ (later_in b t u r.time r.said h z))
    (λ z. or-last (touched_in b u r.time r.said) _ (λ y. later_by_lem b t u rs h (rw z at e)))

pub cooled_more : (g : Settings) (cooling : ℕ) (r : Report) (past : List Report) → Cooled g cooling past → Cooled g cooling (r ∷ past)
unfolding touched_by
cooled_more g cooling r past h =
    cases (eqb cooling 0)
    (λ z. rw z refl)
    (λ z. rw z (or-last (touched_in (initial_band g) cooling r.time r.said) _ (λ y. rw z at h)))

-- ---- a trade at an end of the initial band begins a cooling-off that the listener knows of

pub cooled_trade : (g : Settings) (widened cooling time : ℕ) (deal : Deal) (past : List Report) → Cooled g cooling past →
    Cooled g (cooling_after widened cooling time (band_at g.base g.tick (percent_of (slab_of g.category) widened)) deal.price)
    (report_at time (Trade deal) ∷ past)
unfolding cooling_after percent_of touched_by
cooled_trade g widened cooling time deal past h =
    let r : Report = report_at time (Trade deal) in
    let P : ℕ → Type 0 = λ c. Cooled g c (r ∷ past) in
    let same : P cooling = cooled_more g cooling r past h in
    let b : Band = band_at g.base g.tick (percent_of (slab_of g.category) widened) in
    by P (eqb widened 0) _ _
    (λ z. by P (eqb cooling 0) _ _
    (λ c. by P (touches b deal.price) _ _
    (λ e. or-last (eqb (time + cooling_length) 0) _
    (λ y. or_left _ (touched_by (initial_band g) (time + cooling_length) past)
    (join (touches (initial_band g) deal.price) (leb (time + cooling_length) (time + cooling_length))
    (rw z at e)
    (le-leb (time + cooling_length) (time + cooling_length) (le_refl (time + cooling_length))))))
    (λ e. same))
    (λ c. same))
    (λ z. same)

-- ---- reports that say nothing of band and reference

-- the report leaves the band and the reference that the listener has, and is always fine
pub record Plain (g : Settings) (x : Said) : Type 0 where
  pub band : (b : Band) → band_after b x ≡ b
  pub reference : (p : ℕ) → reference_after p x ≡ p
  pub fine : (l : Listener) (t : ℕ) → FineSaid g l t x

-- such a report at the time t
abbrev pub PlainAt : Settings → ℕ → Report → Type 0
PlainAt g t r = Plain g r.said × (r.time ≡ t)

pub knows_more : (g : Settings) (k : Known) (l : Listener) (r : Report) → PlainAt g k.time r → Knows g l k → Knows g (listen l r) k
knows_more g k l r p h =
    record {
      band-same = p.0.band l.band ∙ h.band-same;
      reference-same = p.0.reference l.reference ∙ h.reference-same;
      time_past = omega (arith, p.1);
      cooled = cooled_more g k.cooling r l.past h.cooled;
    }

pub plain-fine : (g : Settings) (k : Known) (l : Listener) (r : Report) → PlainAt g k.time r → Knows g l k → Fine g l r
plain-fine g k l r p h = (omega (arith, p.1, h.time_past), p.0.fine l r.time)

-- after a run of such reports the listener knows what he knew before
pub plain-tells : (g : Settings) (k : Known) (rs : List Report) → EachTold (PlainAt g k.time) rs → (l : Listener) → Knows g l k → Tells g l rs k
unfolding EachTold
plain-tells g k [] p l h = none-tells g k l h
plain-tells g k (r ∷ rs) p l h =
    next-tells g k l r rs (plain-fine g k l r p.0 h) (plain-tells g k rs p.1 (listen l r) (knows_more g k l r p.0 h))
