-- A comparison of a day that is kept, with a file and an input that are lent as texts, tells what it must of their log.
use Prim.Native.Nat.{ℕ, ◌+◌, ◌<◌}
use native.Mathlib.Omega.{arith}
use native.Mathlib.Nat.{le_of_lt}
use mathlib.Core.Path.{◌≡◌, refl, sym, ap, ◌∙◌, subst}
use mathlib.Core.Bool.{Bool, true, false, cond}
use mathlib.Core.List.{List, [], ◌++◌}
use lib.ListN.{length, take, length-append}
use lib.Seq.{take_all}
use lib.Dec.{leb}
use borrow.Author.Tests.{leb-true, leb-false}
use Rattle.std.specs.Prelude.{Ok, Err}
use Rattle.state_law.specs.Day.{Day}
use Rattle.feed_law.specs.declared.Stage.{Stage}
use Rattle.feed_law.specs.Texts.{bad_text}
use Rattle.feed_law.specs.Worlds.{days}
use Rattle.feed_law.specs.Turns.{said_from}
use Rattle.resume_law.specs.Answers.{Comeback}
use Rattle.resume_law.specs.Rebuilt.{resumed}
use Rattle.resume_law.specs.Pieces.{is_unbegun, tells_bad, too_many}
use Rattle.stream_law.specs.declared.Source.{Source}
use Rattle.stream_law.specs.declared.Sink.{Sink}
use Rattle.stream_law.specs.declared.Finish.{Finish}
use Rattle.std.specs.Prelude.{Result, Ok, Err}
use Rattle.stream_law.specs.declared.NotKept.{NotKept}
use Rattle.stream_law.specs.Sources.{Gives}
use Rattle.stream_law.specs.Sinks.{matched_by, SentAs, CutAs, settled, shown_part, finish_of}
use Rattle.stream_law.specs.Streams.{logging, Finished, Tells}
use Rattle.stream_law.specs.Keeping.{GoesOnFrom, no_day, RefusedBy, KeepsAs, KeptAs, log_behind, kept_log, KeptTells, LogCompared, BrokenTells, BrokenCompared}
use Rattle.stream_law.specs.Keeping.GoesOnFrom.{uncut, on}
use Rattle.stream_law.specs.Keeping.KeptAs.{unread, long, ran, told}
use Rattle.stream_law.specs.Keeping.BrokenTells.{not_read, bad_line}
use Rattle.stream_law.proofs.Sends.{sent-none, sent_then, cut_sends, finish-tells}
use Rattle.stream_law.proofs.Through.{shut-sent, through_text}

module _ (given expected : List ℕ) (short : length given < too_many) where
  module _ (n : ℕ) (stage : Stage) (d : Day) (r : Finish) where
    abbrev said : List ℕ
    said = said_from days logging stage d given

    -- how a day ends whose file was cut: all is sent, or nothing more may be
    behind : (cut : Sink) → Finished expected cut said r → CutAs expected (Sink.Match 0) n cut → (fits : Bool) → leb n (length expected) ≡ fits →
        Tells (log_behind n stage d given expected) expected r
    behind cut f c true e =
        finish-tells expected (log_behind n stage d given expected) r
        (record {
          sink = f.sink;
          sent =
              sent_then expected (take n expected ++ settled) said (Sink.Match 0) cut f.sink
              (cut_sends expected 0 n cut (leb-true n (length expected) e) c) f.sent;
          finish = f.finish;
        })
    behind cut f c false e =
        let differs : c.short ≡ Sink.Differs = c.cuts.stands ∙ ap (λ (b : Bool). matched_by b (0 + n)) e in
        let waited : cut ≡ Sink.Differs = (subst (λ (x : Sink). SentAs expected x settled cut) differs c.waits).stands in
        let ended : f.sink ≡ Sink.Differs = (subst (λ (x : Sink). SentAs expected x said f.sink) waited f.sent).stands in
        let far : length expected < n = leb-false n (length expected) e in
        let all : take n expected ≡ expected = take_all n expected (le_of_lt far) in
        let l = length-append (take n expected ++ settled) said in
        let m = length-append (take n expected) settled in
        let k = ap length all in
        subst (Tells (log_behind n stage d given expected) expected) (sym (f.finish ∙ ap (finish_of expected) ended))
        (λ same. absurd (let z = ap length same in omega arith))

    pub goes-tells : GoesOnFrom expected (Gives given (Source.Text 0)) (Sink.Match 0) n stage d r → Tells (log_behind n stage d given expected) expected r
    goes-tells (uncut cut c shut e) =
        behind cut (record { sink = cut; sent = shut-sent expected [] said cut cut shut (sent-none expected cut); finish = e }) c (leb n (length expected)) refl
    goes-tells (on cut a c st t) =
        behind cut
        (subst (λ (x : List ℕ). Finished expected cut x r) (λ i. said_from days logging (st.stage i) (st.day i) (st.none i ++ given)) (through_text short t)) c
        (leb n (length expected)) refl

  module _ (f : Finish) where
    keeps-tells : (c : Comeback) (d : Day) → KeepsAs expected (Gives given (Source.Text 0)) (Sink.Match 0) c d f → Tells (kept_log c d given expected) expected f
    keeps-tells (Ok n) d k = goes-tells n Stage.Trading d f k
    keeps-tells (Err e) d k = go (is_unbegun e.refusal) k
      where
        go : (b : Bool) → RefusedBy b expected (Gives given (Source.Text 0)) (Sink.Match 0) e.refusal e.place f →
            Tells (cond b (log_behind 0 Stage.Awaiting no_day given expected) (shown_part (bad_text e.refusal e.place))) expected f
        go true k = goes-tells 0 Stage.Awaiting no_day f k
        go false k = finish-tells expected (shown_part (bad_text e.refusal e.place)) f k

-- the bytes of a file that is lent are those that came back
module _ (kept given expected : List ℕ) (r : Result Finish NotKept) (few : length kept < too_many) (short : length given < too_many) where
  abbrev Right : Type 0
  Right = KeptTells (kept_log (resumed kept).answer (resumed kept).day given expected) expected r

  right : (bytes : List ℕ) (f : Finish) → bytes ≡ kept → r ≡ Ok f →
      KeepsAs expected (Gives given (Source.Text 0)) (Sink.Match 0) (resumed bytes).answer (resumed bytes).day f → Right
  right bytes f e q k =
      subst (λ (x : Result Finish NotKept). KeptTells (kept_log (resumed kept).answer (resumed kept).day given expected) expected x) (sym q)
      (subst (λ (x : List ℕ). Tells (kept_log (resumed x).answer (resumed x).day given expected) expected f) e
      (keeps-tells given expected short f (resumed bytes).answer (resumed bytes).day k))

  text-tells : KeptAs expected (Gives kept (Source.Text 0)) (Gives given (Source.Text 0)) (Sink.Match 0) r → Right
  text-tells (unread bytes g e) = absurd g
  text-tells (long bytes true g l e) = absurd (let z = ap length g in omega arith)
  text-tells (long bytes false g l e) = absurd g
  text-tells (ran bytes f g e k) = right bytes f g e k
  text-tells (told bytes true f g t e k) = right bytes f g e k
  text-tells (told bytes false f g t e k) = absurd g

  broken-tells : KeptAs expected (Gives kept (Source.Broken 0)) (Gives given (Source.Text 0)) (Sink.Match 0) r → BrokenTells kept given expected r
  broken-tells (unread bytes g e) = not_read e
  broken-tells (long bytes whole g l e) = not_read e
  broken-tells (ran bytes f g e k) = absurd g
  broken-tells (told bytes true f g t e k) = absurd g
  broken-tells (told bytes false f g t e k) = bad_line (subst (λ (x : List ℕ). tells_bad (resumed x).answer ≡ true) g t) (right bytes f g e k)

module _ {kept given expected : List ℕ} {r : Result Finish NotKept} where
  pub log_compared : KeptAs expected (Gives kept (Source.Text 0)) (Gives given (Source.Text 0)) (Sink.Match 0) r → LogCompared kept given expected r
  log_compared k = record { tells = λ few short. text-tells kept given expected r few short k }

  pub broken_compared : KeptAs expected (Gives kept (Source.Broken 0)) (Gives given (Source.Text 0)) (Sink.Match 0) r → BrokenCompared kept given expected r
  broken_compared k = record { tells = λ few short. broken-tells kept given expected r few short k }
