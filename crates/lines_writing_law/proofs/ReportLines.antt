-- Two reports never share a line. The lines of reports have a grammar too, which no code reads and which shows this.
use Prim.Native.Nat.{ℕ, ◌≤◌}
use native.Mathlib.Omega.{arith}
use mathlib.Core.Path.{◌≡◌, refl}
use mathlib.Core.List.{List, ◌++◌}
use Rattle.terms.specs.declared.Report.{Report}
use Rattle.terms.specs.declared.Said.{Said}
use Rattle.terms.specs.declared.Said.TheVariants.{Accept, Trade, Convert, Cancel, Slab, Ref, Close}
use Rattle.terms.specs.declared.Why.{Why}
use Rattle.terms.specs.declared.Why.TheVariants.{Asked, Immediate, OutOfRange, OutsideBand, DayEnd}
use Rattle.terms.specs.Sizes.{written_most}
use Rattle.terms.specs.Reports.{why_of}
use Rattle.lines_text_law.specs.Text.{bytes, letter}
use Rattle.lines_text_law.specs.Numerals.{numeral}
use Rattle.terms.specs.Numbers.{Writable}
use Rattle.lines_text_law.specs.Forms.{fill, holes}
use Rattle.lines_text_law.specs.Grammar.{Grammar, stop, byte, either, number, word, look}
use Rattle.lines_text_law.specs.code.Pieces.{lastly}
use Rattle.lines_text_law.proofs.Grammars.{Spells, s_stop, s_byte, s_this, s_else, s_number, s_word, s_last, Plain, Agrees}
use Rattle.lines_text_law.proofs.Sorts.{Lawful, lawful}
use Rattle.lines_writing_law.specs.Lines.{report_figures, render_report}

abbrev report : ℕ → Said → Report
report time said = record { time = time; said = said }

abbrev ended : ℕ → ℕ → Why → Said
ended id lots why = Cancel (record { number = id; lots = lots; why = why })

abbrev reasons : (Why → Report) → Grammar Report
reasons f =
    either (letter "1") (word (bytes "\n") (stop (f Asked)))
    (either (letter "2") (word (bytes "\n") (stop (f Immediate)))
    (either (letter "3") (word (bytes "\n") (stop (f OutOfRange)))
    (either (letter "4") (word (bytes "\n") (stop (f OutsideBand)))
    (byte (letter "5") (word (bytes "\n") (stop (f DayEnd)))))))

unfoldable says : ℕ → Grammar Report
says t =
    either (letter "a") (lastly (bytes "ccept id=") (λ id. report t (Accept id)))
    (either (letter "t")
    (word (bytes "rade buy=") (number λ a. word (bytes " sell=") (number λ b. word (bytes " qty=") (number λ q. lastly (bytes " price=") (λ p. report t (Trade (record { buy = a; sell = b; lots = q; price = p })))))))
    (either (letter "s") (word (bytes "lab low=") (number λ a. lastly (bytes " high=") (λ b. report t (Slab (record { low = a; high = b })))))
    (either (letter "r") (lastly (bytes "ef price=") (λ p. report t (Ref p)))
    (byte (letter "c")
    (either (letter "o")
    (word (bytes "nvert id=") (number λ i. word (bytes " qty=") (number λ q. lastly (bytes " price=") (λ p. report t (Convert (record { number = i; price = p; lots = q }))))))
    (either (letter "a")
    (word (bytes "ncel id=") (number λ i. word (bytes " qty=") (number λ q. word (bytes " why=") (reasons (λ w. report t (ended i q w))))))
    (word (bytes "lose price=") (number λ p. lastly (bytes " base=") (λ b. report t (Close (record { price = p; base = b })))))))))))

unfoldable report_grammar : Grammar Report
report_grammar = word (bytes "t=") (number λ t. word (bytes " say=") (says t))

plain : Plain report_grammar
unfolding report_grammar says lastly word
plain =
    λ t. (
      refl,
      (
        (refl, (refl, (refl, refl))),
        (λ i. (refl, tt)),
        (
          (refl, (refl, refl)),
          (λ a. (refl, λ b. (refl, λ q. (refl, λ p. (refl, tt))))),
          (
            (refl, refl),
            (λ a. (refl, λ b. (refl, tt))),
            (
              refl,
              (λ p. (refl, tt)),
              (
                (refl, refl),
                (λ i. (refl, λ q. (refl, λ p. (refl, tt)))),
                (
                  refl,
                  (λ i. (refl, λ q. (refl, ((refl, (refl, (refl, refl))), tt, ((refl, (refl, refl)), tt, ((refl, refl), tt, (refl, tt, tt))))))),
                  (λ p. (refl, λ b. (refl, tt))),
                ),
              ),
            ),
          ),
        ),
      ),
    )

agrees : Agrees render_report (λ r. Writable (report_figures r)) report_grammar (λ x. x)
unfolding report_grammar says lastly word render_report fill holes numeral
agrees =
    λ t h. (
      (λ i k. (refl, (h, (k, tt)))),
      (
        (λ a k b l q m p n. (refl, (h, (k, (l, (m, (n, tt))))))),
        (
          (λ a k b l. (refl, (h, (k, (l, tt))))),
          (
            (λ p k. (refl, (h, (k, tt)))),
            (
              (λ i k q l p m. (refl, (h, (k, (l, (m, tt)))))),
              (
                (λ i k q l. (
                  (refl, (h, (k, (l, (omega arith, tt))))),
                  (
                    (refl, (h, (k, (l, (omega arith, tt))))),
                    (
                      (refl, (h, (k, (l, (omega arith, tt))))),
                      ((refl, (h, (k, (l, (omega arith, tt))))), (refl, (h, (k, (l, (omega arith, tt)))))),
                    ),
                  ),
                )),
                (λ p k b l. (refl, (h, (k, (l, tt))))),
              ),
            ),
          ),
        ),
      ),
    )

time_spells : (t : ℕ) {r : Report} {bs : List ℕ} → t ≤ written_most → Spells (says t) r bs → Spells report_grammar r (bytes "t=" ++ (numeral t ++ (bytes " say=" ++ bs)))
unfolding report_grammar
time_spells t h s = s_word (bytes "t=") (s_number t h (s_word (bytes " say=") s))

reason_spells : (f : Why → Report) (w : Why) → Spells (reasons f) (f w) (numeral (why_of w) ++ bytes "\n")
unfolding numeral
reason_spells f Asked = s_this (s_word (bytes "\n") s_stop)
reason_spells f Immediate = s_else (s_this (s_word (bytes "\n") s_stop))
reason_spells f OutOfRange = s_else (s_else (s_this (s_word (bytes "\n") s_stop)))
reason_spells f OutsideBand = s_else (s_else (s_else (s_this (s_word (bytes "\n") s_stop))))
reason_spells f DayEnd = s_else (s_else (s_else (s_else (s_byte (s_word (bytes "\n") s_stop)))))

said_spells : (t : ℕ) (s : Said) → Writable (report_figures (report t s)) → Spells report_grammar (report t s) (render_report (report t s))
unfolding says render_report fill holes
said_spells t (Accept i) f = time_spells t f.0 (s_this (s_last (bytes "ccept id=") (λ i. report t (Accept i)) i f.1.0))
said_spells t (Trade d) f =
    time_spells t f.0
    (s_else (s_this
    (s_word (bytes "rade buy=")
    (s_number d.buy f.1.0
    (s_word (bytes " sell=")
    (s_number d.sell f.1.1.0
    (s_word (bytes " qty=")
    (s_number d.lots f.1.1.1.0
    (s_last (bytes " price=") (λ p. report t (Trade (record { buy = d.buy; sell = d.sell; lots = d.lots; price = p }))) d.price f.1.1.1.1.0)))))))))
said_spells t (Slab b) f =
    time_spells t f.0
    (s_else (s_else (s_this
    (s_word (bytes "lab low=")
    (s_number b.low f.1.0 (s_last (bytes " high=") (λ x. report t (Slab (record { low = b.low; high = x }))) b.high f.1.1.0))))))
said_spells t (Ref p) f = time_spells t f.0 (s_else (s_else (s_else (s_this (s_last (bytes "ef price=") (λ p. report t (Ref p)) p f.1.0)))))
said_spells t (Convert o) f =
    time_spells t f.0
    (s_else (s_else (s_else (s_else (s_byte (s_this
    (s_word (bytes "nvert id=")
    (s_number o.number f.1.0
    (s_word (bytes " qty=")
    (s_number o.lots f.1.1.0
    (s_last (bytes " price=") (λ p. report t (Convert (record { number = o.number; price = p; lots = o.lots }))) o.price f.1.1.1.0)))))))))))
said_spells t (Cancel e) f =
    time_spells t f.0
    (s_else (s_else (s_else (s_else (s_byte (s_else (s_this
    (s_word (bytes "ncel id=")
    (s_number e.number f.1.0
    (s_word (bytes " qty=")
    (s_number e.lots f.1.1.0
    (s_word (bytes " why=") (reason_spells (λ w. report t (ended e.number e.lots w)) e.why)))))))))))))
said_spells t (Close c) f =
    time_spells t f.0
    (s_else (s_else (s_else (s_else (s_byte (s_else (s_else
    (s_word (bytes "lose price=")
    (s_number c.price f.1.0 (s_last (bytes " base=") (λ b. report t (Close (record { price = c.price; base = b }))) c.base f.1.1.0))))))))))

report_lines : Lawful render_report report_figures (λ s. look report_grammar s 0)
unfolding report_grammar word
report_lines = lawful render_report report_figures report_grammar plain agrees (λ r f. said_spells r.time r.said f) refl

-- two reports never share a line
pub report_apart : (r s : Report) → Writable (report_figures r) → Writable (report_figures s) → render_report r ≡ render_report s → r ≡ s
report_apart = report_lines.apart
