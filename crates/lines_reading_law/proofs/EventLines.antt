-- The lines of the grammar of events are the lines of events and no others, so the reader's answer is the right one.
use Prim.Native.Nat.{ℕ, ◌≤◌}
use mathlib.Core.Path.{◌≡◌, refl, ap}
use mathlib.Core.Bool.{Bool, true, false}
use mathlib.Core.List.{List, [], ◌++◌}
use Rattle.terms.specs.declared.Side.{Side}
use Rattle.terms.specs.declared.Side.TheVariants.{Buy, Sell}
use Rattle.terms.specs.declared.Kind.{Kind}
use Rattle.terms.specs.declared.Kind.TheVariants.{Limit, Market}
use Rattle.terms.specs.declared.Life.{Life}
use Rattle.terms.specs.declared.Life.TheVariants.{AllDay, Ioc}
use Rattle.terms.specs.declared.Act.{Act}
use Rattle.terms.specs.declared.Act.TheVariants.{Enter, Withdraw, Under, Clock, Finish}
use Rattle.terms.specs.declared.Event.{Event}
use Rattle.terms.specs.Sizes.{written_most}
use Rattle.lines_text_law.specs.Text.{bytes}
use Rattle.lines_text_law.specs.Numerals.{numeral}
use Rattle.terms.specs.Numbers.{Writable}
use Rattle.lines_text_law.specs.Forms.{fill}
use Rattle.lines_text_law.specs.Grammar.{word}
use Rattle.lines_text_law.specs.code.Pieces.{at, lastly}
use Rattle.lines_text_law.proofs.Grammars.{Spells, s_stop, s_byte, s_this, s_else, s_number, s_word, s_last, Plain, Agrees}
use Rattle.lines_text_law.proofs.Sorts.{Lawful, lawful}
use Rattle.lines_reading_law.specs.declared.Single.{Single}
use Rattle.lines_reading_law.specs.Lines.{side_word, event_figures, render_event}
use Rattle.lines_reading_law.specs.Grammars.{event, order, price_rest, life_rest, lives, kind_rest, kinds, side_rest, act_of, single_rest, clock_rest, cancel_rest, acts, event_grammar}
use Rattle.lines_reading_law.specs.Answers.{read_code, read_event}

-- every number of the event can be written
abbrev Fine : Event → Type 0
Fine e = Writable (event_figures e)

-- ---- the grammar is plain: at each place at most one way is open

order-plain : (t : ℕ) (side : Side) → Plain (kinds t side)
unfolding kinds kind_rest lives life_rest price_rest lastly word
order-plain t side = (
  refl,
  (refl, (λ q. (refl, λ p. (refl, tt))), (λ q. (refl, λ p. (refl, tt)))),
  (refl, (λ q. (refl, tt)), (λ q. (refl, tt))),
)

plain : Plain event_grammar
unfolding event_grammar acts side_rest cancel_rest clock_rest single_rest lastly word
plain =
    λ t. (
      refl,
      (
        (refl, (refl, refl)),
        order-plain t Buy,
        (
          (refl, refl),
          order-plain t Sell,
          (refl, (λ p. (refl, tt)), (refl, (λ i. (refl, tt)), (refl, (λ p. (refl, tt)), tt))),
        ),
      ),
    )

-- ---- each end of the grammar spells the line of its value

abbrev kind_word : Kind → List ℕ
kind_word (Limit p) = bytes "limit"
kind_word Market = bytes "market"

abbrev life_word : Life → List ℕ
life_word AllDay = bytes "day"
life_word Ioc = bytes "ioc"

-- the part of the line that follows the lots
abbrev price_text : Kind → List ℕ
price_text (Limit p) = bytes " price=" ++ (numeral p ++ bytes "\n")
price_text Market = bytes "\n"

abbrev order_text : Side → Kind → Life → ℕ → List ℕ
order_text side kind life q =
    side_word side ++ (bytes " kind=" ++ (kind_word kind ++ (bytes " life=" ++ (life_word life ++ (bytes " qty=" ++ (numeral q ++ price_text kind))))))

-- the line of an order, put together from its words
order-line : (t : ℕ) (side : Side) (kind : Kind) (life : Life) (q : ℕ)
    → bytes "t=" ++ (numeral t ++ (bytes " do=" ++ order_text side kind life q)) ≡ render_event (order t side kind life q)
unfolding render_event fill
order-line t Buy (Limit p) AllDay q = refl
order-line t Buy (Limit p) Ioc q = refl
order-line t Buy Market AllDay q = refl
order-line t Buy Market Ioc q = refl
order-line t Sell (Limit p) AllDay q = refl
order-line t Sell (Limit p) Ioc q = refl
order-line t Sell Market AllDay q = refl
order-line t Sell Market Ioc q = refl

order_agrees : (t : ℕ) → t ≤ written_most → (side : Side)
    → Agrees render_event Fine (kinds t side) (λ x. bytes "t=" ++ (numeral t ++ (bytes " do=" ++ (side_word side ++ (bytes " kind=" ++ x)))))
unfolding kinds kind_rest lives life_rest price_rest lastly word
order_agrees t h side = (
  (
    (λ q k p l. (order-line t side (Limit p) AllDay q, (h, (k, (l, tt))))),
    (λ q k p l. (order-line t side (Limit p) Ioc q, (h, (k, (l, tt))))),
  ),
  ((λ q k. (order-line t side Market AllDay q, (h, (k, tt)))), (λ q k. (order-line t side Market Ioc q, (h, (k, tt))))),
)

agrees : Agrees render_event Fine event_grammar (λ x. x)
unfolding event_grammar acts side_rest cancel_rest clock_rest single_rest lastly word render_event fill
agrees =
    λ t h. (
      order_agrees t h Buy,
      (
        order_agrees t h Sell,
        ((λ p k. (refl, (h, (k, tt)))), ((λ i k. (refl, (h, (k, tt)))), ((λ p k. (refl, (h, (k, tt)))), (refl, (h, tt))))),
      ),
    )

-- ---- and the line of each event is spelled by one of these ends

module _ (t : ℕ) {e : Event} {bs : List ℕ} where
  time_spells : t ≤ written_most → Spells (acts t) e bs → Spells event_grammar e (bytes "t=" ++ (numeral t ++ (bytes " do=" ++ bs)))
  unfolding event_grammar
  time_spells h s = s_word (bytes "t=") (s_number t h (s_word (bytes " do=") s))

  side_spells : (side : Side) → Spells (kinds t side) e bs → Spells (acts t) e (side_word side ++ (bytes " kind=" ++ bs))
  unfolding acts side_rest
  side_spells Buy s = s_this (s_word (bytes "uy kind=") s)
  side_spells Sell s = s_else (s_this (s_word (bytes "ell kind=") s))

  limit-kind : (side : Side) → Spells (lives t side true) e bs → Spells (kinds t side) e (bytes "limit life=" ++ bs)
  unfolding kinds kind_rest
  limit-kind side s = s_this (s_word (bytes "imit life=") s)

  market_kind : (side : Side) → Spells (lives t side false) e bs → Spells (kinds t side) e (bytes "market life=" ++ bs)
  unfolding kinds kind_rest
  market_kind side s = s_else (s_byte (s_word (bytes "arket life=") s))

  life_spells : (side : Side) (limit : Bool) (life : Life) (q : ℕ) → q ≤ written_most
      → Spells (price_rest t side limit life q) e bs → Spells (lives t side limit) e (life_word life ++ (bytes " qty=" ++ (numeral q ++ bs)))
  unfolding lives life_rest
  life_spells side limit AllDay q h s = s_this (s_word (bytes "ay qty=") (s_number q h s))
  life_spells side limit Ioc q h s = s_else (s_byte (s_word (bytes "oc qty=") (s_number q h s)))

order_spells : (t : ℕ) (side : Side) (kind : Kind) (life : Life) (q : ℕ) → Fine (order t side kind life q)
    → Spells (acts t) (order t side kind life q) (order_text side kind life q)
unfolding price_rest
order_spells t side (Limit p) life q f =
    let price = s_last (bytes " price=") (λ p. order t side (Limit p) life q) p f.1.1.0 in
    side_spells t side (limit-kind t side (life_spells t side true life q f.1.0 price))
order_spells t side Market life q f =
    side_spells t side (market_kind t side (life_spells t side false life q f.1.0 (s_word (bytes "\n") s_stop)))

single_spells : (w : List ℕ) (t : ℕ) (single : Single) (v : ℕ) → v ≤ written_most → Spells (single_rest w t single) (event t (act_of single v)) (w ++ (numeral v ++ bytes "\n"))
unfolding single_rest
single_spells w t single v h = s_last w (λ i. event t (act_of single i)) v h

-- the line of each event is spelled, one clause for each kind
act_spells : (t : ℕ) (a : Act) → Fine (event t a) → Spells event_grammar (event t a) (render_event (event t a))
unfolding acts cancel_rest clock_rest render_event fill
act_spells t (Enter o) f =
    rw (← order-line t o.side o.kind o.life o.lots)
    (time_spells t f.0 (order_spells t o.side o.kind o.life o.lots f))
act_spells t (Under p) f = time_spells t f.0 (s_else (s_else (s_this (single_spells (bytes "nder price=") t Single.Under p f.1.0))))
act_spells t (Withdraw i) f =
    time_spells t f.0 (s_else (s_else (s_else (s_byte (s_this (single_spells (bytes "ncel id=") t Single.Withdraw i f.1.0))))))
act_spells t (Finish p) f =
    time_spells t f.0
    (s_else (s_else (s_else (s_byte (s_else (s_word (bytes "lo") (s_this (single_spells (bytes "e settle=") t Single.Finish p f.1.0))))))))
act_spells t Clock f =
    time_spells t f.0 (s_else (s_else (s_else (s_byte (s_else (s_word (bytes "lo") (s_else (s_word (bytes "ck\n") s_stop))))))))

-- ---- what follows: an event's line is read back, and no other bytes are

pub event-lines : Lawful render_event event_figures read_event
unfolding read_event at event_grammar word
event-lines = lawful render_event event_figures event_grammar plain agrees (λ e f. act_spells e.time e.act f) refl

-- P12: "empty bytes: 14"
pub event-none : read_code (read_event []) ≡ 14
event-none = ap read_code event-lines.none
