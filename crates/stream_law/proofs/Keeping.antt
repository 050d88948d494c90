-- A day that is kept: what the log is of, and what each way of the program comes to.
use Prim.Native.Nat.{ℕ}
use mathlib.Core.Path.{◌≡◌, refl, sym, ap, ◌∙◌, subst}
use mathlib.Core.Bool.{Bool, true, false, not, true≢false, false≢true}
use mathlib.Core.List.{List, [], ◌∷◌, ◌++◌, append_assoc, append-nil}
use lib.ListN.{length, take}
use lib.IntN.{ℤ}
use borrow.Author.Tests.{not-true, not-false}
use Rattle.std.specs.Prelude.{Ok, Err, Result, Option, Some, None, is_some}
use Rattle.terms.specs.declared.Refusal.{Refusal}
use Rattle.tables.specs.Tables.{decode}
use Rattle.state_law.specs.Opening.{fixed_session}
use Rattle.state_law.specs.Day.{Day}
use Rattle.soundness_law.specs.Sound.{day_in}
use Rattle.feed_law.specs.declared.Run.{Run}
use Rattle.feed_law.specs.declared.Stage.{Stage}
use Rattle.feed_law.specs.Worlds.{days}
use Rattle.feed_law.specs.Turns.{printing}
use Rattle.feed_law.specs.Saving.{saving}
use Rattle.feed_law.specs.Feeds.{fresh_run}
use Rattle.feed_law.proofs.Says.{said-map}
use Rattle.resume_law.specs.declared.BadLine.{BadLine}
use Rattle.resume_law.specs.Answers.{Comeback}
use Rattle.resume_law.specs.declared.Back.{Back}
use Rattle.resume_law.specs.Rebuilt.{Rebuilt, resumed}
use Rattle.resume_law.specs.Pieces.{BackBy, is_unbegun, tells_bad, BackAs, BackOf}
use Rattle.resume_law.specs.Pieces.BackOf.{not_read, too_long, all_read, bad_met}
use Rattle.promises.specs.Printed.{Holding}
use Rattle.stream_law.specs.declared.Sink.{Sink}
use Rattle.stream_law.specs.declared.Finish.{Finish}
use Rattle.stream_law.specs.declared.NotKept.{NotKept}
use Rattle.stream_law.specs.Sinks.{SentAs, CutAs, is_open, finish_of, saved_part, shown_part}
use Rattle.stream_law.specs.Streams.{logging, holding, ThroughAs}
use Rattle.stream_law.specs.Keeping.{Part, save, show, handing, saves_of, shows_of, log_of, LogsTell, GoesOnFrom, OnAs, trading_run, no_day, RefusedAs, BadLaid, BadTold, KeepsAs, BegunAs, KeptAs, are_open, opened_by, Any, OpenedAs, OpensAs}
use Rattle.stream_law.specs.Keeping.GoesOnFrom.{uncut, on}
use Rattle.stream_law.specs.Keeping.KeptAs.{unread, long, ran, told}
use Rattle.stream_law.proofs.Goes.{room-text}

-- ---- the parts, one after the other

saves-append : (ps qs : List Part) → saves_of (ps ++ qs) ≡ saves_of ps ++ saves_of qs
unfolding saves_of
saves-append [] qs = refl
saves-append (save bytes ∷ ps) qs = ap (λ (x : List ℕ). bytes ++ x) (saves-append ps qs) ∙ sym (append_assoc bytes (saves_of ps) (saves_of qs))
saves-append (show text ∷ ps) qs = saves-append ps qs

shows-append : (ps qs : List Part) → shows_of (ps ++ qs) ≡ shows_of ps ++ shows_of qs
unfolding shows_of
shows-append [] qs = refl
shows-append (save bytes ∷ ps) qs = shows-append ps qs
shows-append (show text ∷ ps) qs = ap (λ (x : List ℕ). text ++ x) (shows-append ps qs) ∙ sym (append_assoc text (shows_of ps) (shows_of qs))

log-append : (ps qs : List Part) → log_of (ps ++ qs) ≡ log_of ps ++ log_of qs
unfolding log_of
log-append [] qs = refl
log-append (save bytes ∷ ps) qs =
    ap (λ (x : List ℕ). saved_part bytes ++ x) (log-append ps qs) ∙ sym (append_assoc (saved_part bytes) (log_of ps) (log_of qs))
log-append (show text ∷ ps) qs =
    ap (λ (x : List ℕ). shown_part text ++ x) (log-append ps qs) ∙ sym (append_assoc (shown_part text) (log_of ps) (log_of qs))

pub logs_tell : LogsTell
unfolding saves_of shows_of log_of
logs_tell stage d input =
    record {
      log =
          said-map days log_of log-append handing logging
          (λ saved text. ap (λ (x : List ℕ). saved_part saved ++ x) (append-nil (shown_part text))) (λ s n. append-nil _) _ stage d input;
      saves = said-map days saves_of saves-append handing saving (λ saved text. append-nil saved) (λ s n. refl) _ stage d input;
      shows = said-map days shows_of shows-append handing printing (λ saved text. append-nil text) (λ s n. append-nil _) _ stage d input;
    }

-- ---- a day goes on

module _ {expected : List ℕ} {gives : List ℕ → Bool → Type 0} {to cut : Sink} {n : ℕ} {r : Finish} (c : CutAs expected to n cut) where
  pub on-uncut : (a : Holding) {wide : Bool} → wide ≡ is_open cut → not wide ≡ true → r ≡ finish_of expected cut → OnAs expected gives to n a r
  on-uncut a {wide} e s f = record { goes = uncut cut c (sym e ∙ not-true wide s) f }

  pub on_through : {run : Run} {buys sells : List ℕ} → ThroughAs logging expected gives (holding run buys sells []) cut r → OnAs expected gives to n (holding run buys sells []) r
  on_through {run} {buys} {sells} k = record { goes = on cut (holding run buys sells []) c (record { stage = refl; day = refl; none = refl }) k }

-- ---- a bad line is told

pub bad_told : {expected out out' : List ℕ} {to s : Sink} {q : Refusal} {place : ℕ} {n : ℕ} {r : Finish} → BadLaid q place out n out' →
    SentAs expected to (shown_part (take n out')) s → r ≡ finish_of expected s → BadTold expected to q place r
bad_told {expected} {to = to} {s = s} p h e =
    record {
      told = record { sink = s; sent = subst (λ (x : List ℕ). SentAs expected to (shown_part x) s) (room-text p.printed) h; finish = e };
    }

-- ---- by what came back

-- before the first line the tables may hold anything
fresh-day : (buys sells : List ℕ) → day_in fixed_session buys sells ≡ no_day
unfolding fixed_session decode
fresh-day buys sells = refl

module _ {expected : List ℕ} {gives : List ℕ → Bool → Type 0} {to : Sink} {q : Refusal} {place : ℕ} {r : Finish} {told : Bool} where
  pub refused-fresh : {run : Run} {buys sells : List ℕ} → told ≡ is_unbegun q → told ≡ true → run ≡ fresh_run → OnAs expected gives to 0 (holding run buys sells []) r →
      RefusedAs expected gives to q place r
  refused-fresh {run} {buys} {sells} e t f k =
      let k' : OnAs expected gives to 0 (holding fresh_run buys sells []) r = subst (λ (x : Run). OnAs expected gives to 0 (holding x buys sells []) r) f k in
      record { refused = rw (sym e ∙ t) (subst (λ (d : Day). GoesOnFrom expected gives to 0 Stage.Awaiting d r) (fresh-day buys sells) k'.goes) }

  pub refused-told : told ≡ is_unbegun q → told ≡ false → BadTold expected to q place r → RefusedAs expected gives to q place r
  refused-told e t k = record { refused = rw (sym e ∙ t) k.told }

module _ {expected : List ℕ} {gives : List ℕ → Bool → Type 0} {to : Sink} {back : Back} {buys sells : List ℕ} {r : Finish} where
  pub begun-counts : {n : ℕ} {run : Run} → back.answer ≡ Ok n → run ≡ trading_run back.session →
      OnAs expected gives to n (holding run buys sells []) r → BegunAs expected gives to back buys sells r
  begun-counts {n} e f k =
      let k' : OnAs expected gives to n (holding (trading_run back.session) buys sells []) r = subst (λ (x : Run). OnAs expected gives to n (holding x buys sells []) r) f k in
      record { keeps = rw e k'.goes }

  pub begun-refused : {b : BadLine} → back.answer ≡ Err b → RefusedAs expected gives to b.refusal b.place r → BegunAs expected gives to back buys sells r
  begun-refused e k = record { keeps = rw e k.refused }

-- THE WHOLE: what came back is that of the file's bytes, and so is what the program did then; or not all could be read
module _ (expected : List ℕ) {saves : List ℕ → Bool → Type 0} (gives : List ℕ → Bool → Type 0) (to : Sink) {back : Back} {buys sells : List ℕ} (a : BackAs saves buys sells back) where
  module _ (f : Finish) where
    keeps-day : (x : Rebuilt) (c : Comeback) → x.answer ≡ c → BackBy x buys sells back → KeepsAs expected gives to c (day_in back.session buys sells) f →
        KeepsAs expected gives to c x.day f
    keeps-day x (Ok n) e b k = subst (λ (d : Day). GoesOnFrom expected gives to n Stage.Trading d f) (b.day n e) k
    keeps-day x (Err q) e b k = k

    keeps : (bytes : List ℕ) → BackBy (resumed bytes) buys sells back → BegunAs expected gives to back buys sells f →
        KeepsAs expected gives to (resumed bytes).answer (resumed bytes).day f
    keeps bytes b k =
        keeps-day (resumed bytes) (resumed bytes).answer refl b
        (subst (λ (c : Comeback). KeepsAs expected gives to c (day_in back.session buys sells) f) b.answer k.keeps)

    pub kept-ran : not back.read ≡ false → BegunAs expected gives to back buys sells f → KeptAs expected saves gives to (Ok f)
    kept-ran read k = go a.comes
      where
        was_read : back.read ≡ false → KeptAs expected saves gives to (Ok f)
        was_read e = absurd (false≢true (sym e ∙ not-false back.read read))

        go : BackOf saves length resumed buys sells back → KeptAs expected saves gives to (Ok f)
        go (not_read bytes g e) = was_read e
        go (too_long bytes whole g l e) = was_read e
        go (all_read bytes g e b) = ran bytes f g refl (keeps bytes b k)
        go (bad_met bytes whole g t e b) = told bytes whole f g (ap tells_bad (sym b.answer) ∙ t) refl (keeps bytes b k)

  pub kept-unread : not back.read ≡ true → KeptAs expected saves gives to (Err NotKept.NotRead)
  kept-unread read = go a.comes
    where
      not-all : back.read ≡ true → KeptAs expected saves gives to (Err NotKept.NotRead)
      not-all e = absurd (true≢false (sym e ∙ not-true back.read read))

      go : BackOf saves length resumed buys sells back → KeptAs expected saves gives to (Err NotKept.NotRead)
      go (not_read bytes g e) = unread bytes g refl
      go (too_long bytes whole g l e) = long bytes whole g l refl
      go (all_read bytes g e b) = not-all e
      go (bad_met bytes whole g t e b) = not-all e

-- ---- the file is opened

-- there are descriptors just where both openings gave one, whatever the openings came to
pub both_open : {E : Type 0} (saved file : Result ℤ E) → is_some (opened_by saved file) ≡ are_open saved file
both_open (Ok saved) (Ok file) = refl
both_open (Ok saved) (Err e) = refl
both_open (Err e) file = refl

module _ {E : Type 0} {saved file : Result ℤ E} {r : Result Finish NotKept} where
  pub opened-not : are_open saved file ≡ false → r ≡ Err NotKept.NotOpened → OpenedAs saved file r
  opened-not n h = record { kept = rw n h }

  -- by the descriptors that there are
  pub opened_none : opened_by saved file ≡ None → r ≡ Err NotKept.NotOpened → OpenedAs saved file r
  opened_none n h = record { kept = rw (sym (both_open saved file) ∙ ap is_some n) h }

  pub opened_some : {p : ℤ × ℤ} → opened_by saved file ≡ Some p → KeptAs [] Any Any Sink.Print r → OpenedAs saved file r
  opened_some n h = record { kept = rw (sym (both_open saved file) ∙ ap is_some n) h }

  -- either opening failed
  pub opened_unsaved : {e : E} → saved ≡ Err e → r ≡ Err NotKept.NotOpened → OpenedAs saved file r
  opened_unsaved s h = record { kept = rw s h }

  pub opened_unfiled : {fd : ℤ} {e : E} → saved ≡ Ok fd → file ≡ Err e → r ≡ Err NotKept.NotOpened → OpenedAs saved file r
  opened_unfiled s f h = record { kept = rw (s, f) h }

  pub opened_both : {fd fd' : ℤ} → saved ≡ Ok fd → file ≡ Ok fd' → KeptAs [] Any Any Sink.Print r → OpenedAs saved file r
  opened_both s f h = record { kept = rw (s, f) h }

  pub opens_as : OpenedAs saved file r → OpensAs E r
  opens_as h = record { saved = saved; file = file; opened = h }
