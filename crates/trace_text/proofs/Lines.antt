-- The lines of events and of the end, both ways.
use Rattle.std.proofs.Common.{◌≡◌, ℕ, suc, ◌+◌, ◌-◌, ◌^◌, ◌<◌, ◌≤◌, Bool, true, false, ◌&&◌, cond, eqb, List, [], ◌∷◌, length, Option, Some, None, IsSome, refl, sym, ap, subst, ◌∙◌, arith}
use Rattle.std.specs.Prelude.{decimal, codes}
use Rattle.std.specs.List.{AllByRecursion}
use Rattle.std.specs.Option.{option_map, option_and_then}
use Rattle.std.specs.Str.{bytes_eq}
use Rattle.std.proofs.lemmas.Bool.{and_from, and_parts, eqb-true, eq-eqb, lt-ltb}
use Rattle.std.proofs.lemmas.Slice.Eq.{bytes_eq-Decides}
use Rattle.stab_base.specs.declared.numbers.ThreadId.{ThreadId}
use Rattle.stab_base.specs.declared.numbers.Seq.{Seq}
use Rattle.stab_journal.specs.declared.event.Label.{Label}
use Rattle.stab_journal.specs.declared.event.Label.TheVariants.{Local, Spawn, NewChan, Comm, NewRef, Get, Set, Enter, Cut, Print, Probe, Refuse, Pin, Attempt}
use Rattle.stab_journal.specs.declared.event.What.{What}
use Rattle.stab_journal.specs.declared.event.What.TheVariants.{Step, Undo, Release}
use Rattle.stab_journal.specs.declared.event.Event.{Event}
use Rattle.stab_journal.specs.Event.{IsWhat, label_of}
use Rattle.trace_text.specs.declared.form.Header.{Header}
use Rattle.trace_text.specs.declared.form.Header.TheVariants.{First, Second}
use Rattle.trace_text.specs.declared.form.Sign.{Sign}
use Rattle.trace_text.specs.declared.form.Sign.TheVariants as marks
use Rattle.trace_text.specs.declared.form.Verb.{Verb}
use Rattle.trace_text.specs.declared.form.Verb.TheVariants as verbs
use Rattle.trace_text.specs.declared.line.Entry.{Entry}
use Rattle.trace_text.specs.declared.line.Line.{Line}
use Rattle.trace_text.specs.declared.line.Line.TheVariants as is
use Rattle.text_lines.specs.Table.{named_in}
use Rattle.trace_text.specs.Form.{arity, fits, is_step_sign, sign_named, sign_text, signs, verb_named, verb_text, verbs as verb_rows}
use Rattle.trace_text.specs.Reading.{IsEntryAt, end_is, event_is, in_place, is_in_order, is_struck, line_is, numbers, or_line}
use Rattle.trace_text.specs.Shape.{Shape, after_w, are_words, checked, is_shape, is_word, seq_in, shape_of, what_of}
use Rattle.trace_text.specs.Text.{IsNoRelease, end_line, event_line, label_verb, numbers_of, sign_of, verb_of}
use Rattle.text_lines.specs.Lines.{split}
use Rattle.text_lines.specs.Numeral.{number_in}
use Rattle.text_lines.proofs.Numerals.{number_in-decimal, number_in-some}
use Rattle.text_lines.proofs.Splits.{lacks, lacks-separated, split-separated}
use Rattle.trace_text.proofs.EventWords.{ArePlain, IsPlain, are_words-plain, mapped_from, no_feeds, no_spaces, numbers_length, numbers_plain, plain, then_from, verb_plain, what_of-read, what_of-written}

-- under the first header no event is a release
abbrev pub Allowed : Header → What → Type 0
Allowed First what = IsNoRelease what
Allowed Second what = Unit {0}

-- a verb and a sign are read as they are written
verb_is : (v : Verb) → verb_named (verb_text v) ≡ Some v
verb_is verbs.Local = refl
verb_is verbs.Spawn = refl
verb_is verbs.NewChan = refl
verb_is verbs.Comm = refl
verb_is verbs.NewRef = refl
verb_is verbs.Get = refl
verb_is verbs.Set = refl
verb_is verbs.Enter = refl
verb_is verbs.Cut = refl
verb_is verbs.Print = refl
verb_is verbs.Probe = refl
verb_is verbs.Refuse = refl
verb_is verbs.Pin = refl
verb_is verbs.Attempt = refl
verb_is verbs.Undo = refl
verb_is verbs.Release = refl

sign_is : (s : Sign) → sign_named (sign_text s) ≡ Some s
sign_is marks.Live = refl
sign_is marks.Struck = refl
sign_is marks.Undone = refl
sign_is marks.Released = refl

sign_plain : (s : Sign) → IsPlain (sign_text s)
sign_plain marks.Live = record { some = refl; no_space = refl; no_feed = refl }
sign_plain marks.Struck = record { some = refl; no_space = refl; no_feed = refl }
sign_plain marks.Undone = record { some = refl; no_space = refl; no_feed = refl }
sign_plain marks.Released = record { some = refl; no_space = refl; no_feed = refl }

-- what a table has for a text is what the text is of
pub named_in-some : {T : Type 0} (text : T → List ℕ) (rows : List (List ℕ × T)) (word : List ℕ) (x : T) → AllByRecursion (λ (row : List ℕ × T). row.0 ≡ text row.1) rows → named_in rows word ≡ Some x → word ≡ text x
named_in-some text [] word x all e = cc
named_in-some text (row ∷ rows) word x all given =
    elim (bytes_eq row.0 word) as (λ b. bytes_eq row.0 word ≡ b → cond b (Some row.1) (named_in rows word) ≡ Some x → word ≡ text x) [
      | true ↦ λ same e.
          let here : row.1 ≡ x = cc in
          sym ((bytes_eq-Decides row.0 word).0 same) ∙ all.0 ∙ ap text here
      | false ↦ λ _ e. named_in-some text rows word x all.1 e
    ] refl given

sign_was : (word : List ℕ) (s : Sign) → sign_named word ≡ Some s → word ≡ sign_text s
sign_was word s e = named_in-some sign_text signs word s (refl, (refl, (refl, (refl, tt)))) e

verb_was : (word : List ℕ) (v : Verb) → verb_named word ≡ Some v → word ≡ verb_text v
verb_was word v e = named_in-some verb_text verb_rows word v (refl, (refl, (refl, (refl, (refl, (refl, (refl, (refl, (refl, (refl, (refl, (refl, (refl, (refl, (refl, (refl, tt)))))))))))))))) e

worker_was : (word worker : List ℕ) → after_w word ≡ Some worker → word ≡ 119 ∷ worker
worker_was [] worker e = cc
worker_was (b ∷ word) worker given =
    elim (eqb b 119) as (λ t. eqb b 119 ≡ t → cond t (Some word) None ≡ Some worker → b ∷ word ≡ 119 ∷ worker) [
      | true ↦ λ same e. let rest : word ≡ worker = cc in ap (λ n. n ∷ word) (eqb-true b 119 same) ∙ ap (λ ds. 119 ∷ ds) rest
      | false ↦ λ _ e. cc
    ] refl given

-- every step takes the signs of steps
step_fits : (l : Label) (sign : Sign) (h : Header) → fits (label_verb l) sign h ≡ is_step_sign sign
step_fits (Local t n) sign h = refl
step_fits (Spawn t u) sign h = refl
step_fits (NewChan t c) sign h = refl
step_fits (Comm s r c) sign h = refl
step_fits (NewRef t r) sign h = refl
step_fits (Get t r) sign h = refl
step_fits (Set t r) sign h = refl
step_fits (Enter t) sign h = refl
step_fits (Cut t) sign h = refl
step_fits (Print t) sign h = refl
step_fits (Probe t i) sign h = refl
step_fits (Refuse t) sign h = refl
step_fits (Pin t) sign h = refl
step_fits (Attempt t g) sign h = refl

sign_fits : (h : Header) (struck : Bool) (w : What) → Allowed h w → fits (verb_of w) (sign_of struck w) h ≡ true
sign_fits h true (Step l) allowed = step_fits l marks.Struck h
sign_fits h false (Step l) allowed = step_fits l marks.Live h
sign_fits h struck (Undo t m) allowed = refl
sign_fits First struck (Release k) allowed = absurd allowed
sign_fits Second struck (Release k) allowed = refl

struck_is : (struck : Bool) (w : What) → (struck ≡ true → IsSome (label_of w)) → is_struck (sign_of struck w) ≡ struck
struck_is true (Step l) h = refl
struck_is false (Step l) h = refl
struck_is true (Undo t m) h = let none = h refl in cc
struck_is false (Undo t m) h = refl
struck_is true (Release k) h = let none = h refl in cc
struck_is false (Release k) h = refl

pub record Signed (h : Header) (s : Sign) (w : What) : Type 0 where
  pub sign : s ≡ sign_of (is_struck s) w
  pub struck : is_struck s ≡ true → IsSome (label_of w)
  pub allowed : Allowed h w

step_signed : (h : Header) (s : Sign) (l : Label) → is_step_sign s ≡ true → Allowed h (Step l) → Signed h s (Step l)
step_signed h marks.Live l e allowed = record { sign = refl; struck = λ k. refl; allowed = allowed }
step_signed h marks.Struck l e allowed = record { sign = refl; struck = λ k. refl; allowed = allowed }
step_signed h marks.Undone l e allowed = cc
step_signed h marks.Released l e allowed = cc

step_allowed : (h : Header) (l : Label) → Allowed h (Step l)
step_allowed First l = tt
step_allowed Second l = tt

undo_allowed : (h : Header) (t : ThreadId) (m : Seq) → Allowed h (Undo t m)
undo_allowed First t m = tt
undo_allowed Second t m = tt

sign_read : (h : Header) (s : Sign) (w : What) → fits (verb_of w) s h ≡ true → Signed h s w
sign_read h s (Step l) e = step_signed h s l (sym (step_fits l s h) ∙ e) (step_allowed h l)
sign_read h marks.Undone (Undo t m) e = record { sign = refl; struck = λ k. cc; allowed = undo_allowed h t m }
sign_read h marks.Live (Undo t m) e = cc
sign_read h marks.Struck (Undo t m) e = cc
sign_read h marks.Released (Undo t m) e = cc
sign_read Second marks.Released (Release k) e = record { sign = refl; struck = λ x. cc; allowed = tt }
sign_read First marks.Released (Release k) e = cc
sign_read h marks.Live (Release k) e = cc
sign_read h marks.Struck (Release k) e = cc
sign_read h marks.Undone (Release k) e = cc

abbrev event : ℕ → What → Event
event worker what = record { worker = worker; what = what }

order_is : (q : ℕ) (w : What) → IsWhat q w → is_in_order q w ≡ true
order_is q (Step l) h = refl
order_is q (Undo t m) h = lt-ltb m.0 q h.1.1
order_is q (Release k) h = refl

-- the words of an event's line behind its sign, and its shape
abbrev pub words_behind : ℕ → Entry → List (List ℕ)
words_behind q e = decimal q ∷ (119 ∷ decimal e.event.worker) ∷ verb_text (verb_of e.event.what) ∷ numbers_of e.event.what

abbrev shape : ℕ → Entry → Shape
shape q e = record { sign = sign_of e.struck e.event.what; seq = decimal q; worker = decimal e.event.worker; verb = verb_of e.event.what; numbers = numbers_of e.event.what }

module _ (h : Header) (q : ℕ) (e : Entry) (some : 1 ≤ q) (small : q < 2 ^ 64) (entry : IsEntryAt q e) (allowed : Allowed h e.event.what) where
  worker_plain : IsPlain (decimal e.event.worker)
  worker_plain = let within = entry.event.worker.1 in plain e.event.worker (omega arith)

  w_plain : IsPlain (119 ∷ decimal e.event.worker)
  w_plain = record { some = refl; no_space = worker_plain.no_space; no_feed = worker_plain.no_feed }

  words_plain : ArePlain (words_behind q e)
  words_plain = (plain q small, (w_plain, (verb_plain (verb_of e.event.what), numbers_plain q e.event.what small entry.event.what)))

  shape_true : is_shape h (shape q e) ≡ true
  shape_true =
      let s = shape q e in
      and_from (fits s.verb s.sign h) (is_word s.seq && (is_word s.worker && (are_words s.numbers && eqb (length s.numbers) (arity s.verb)))) (sign_fits h e.struck e.event.what allowed)
      (and_from (is_word s.seq) (is_word s.worker && (are_words s.numbers && eqb (length s.numbers) (arity s.verb))) (plain q small).some
      (and_from (is_word s.worker) (are_words s.numbers && eqb (length s.numbers) (arity s.verb)) worker_plain.some
      (and_from (are_words s.numbers) (eqb (length s.numbers) (arity s.verb)) (are_words-plain s.numbers (numbers_plain q e.event.what small entry.event.what))
      (eq-eqb (length s.numbers) (arity s.verb) (numbers_length e.event.what)))))

  shape_written : shape_of h (sign_text (sign_of e.struck e.event.what) ∷ words_behind q e) ≡ Some (shape q e)
  shape_written =
      ap (option_and_then (λ (s : Sign). option_and_then (λ (v : Verb). checked h (record { sign = s; seq = decimal q; worker = decimal e.event.worker; verb = v; numbers = numbers_of e.event.what })) (verb_named (verb_text (verb_of e.event.what))))) (sign_is (sign_of e.struck e.event.what))
      ∙ ap (option_and_then (λ (v : Verb). checked h (record { sign = sign_of e.struck e.event.what; seq = decimal q; worker = decimal e.event.worker; verb = v; numbers = numbers_of e.event.what }))) (verb_is (verb_of e.event.what))
      ∙ ap (λ b. cond b (Some (shape q e)) None) shape_true

  numbers_written : numbers (shape q e) ≡ Some (q, e.event)
  numbers_written =
      let worker = entry.event.worker in
      ap (option_and_then (λ (seq : ℕ). option_and_then (λ (worker : ℕ). option_map (λ (what : What). (seq, event worker what)) (what_of (verb_of e.event.what) (numbers_of e.event.what))) (number_in 1 64 (decimal e.event.worker)))) (number_in-decimal 1 (2 ^ 64 - 1) q some (omega arith) small)
      ∙ ap (option_and_then (λ (worker : ℕ). option_map (λ (what : What). (q, event worker what)) (what_of (verb_of e.event.what) (numbers_of e.event.what)))) (number_in-decimal 1 64 e.event.worker worker.0 worker.1 (omega arith))
      ∙ ap (option_map (λ (what : What). (q, event e.event.worker what))) (what_of-written q e.event.what small entry.event.what)

  placed : in_place q (sign_of e.struck e.event.what) (q, e.event) ≡ is.Event e
  placed =
      let right : (eqb q q && is_in_order q e.event.what) ≡ true = and_from (eqb q q) (is_in_order q e.event.what) (eq-eqb q q refl) (order_is q e.event.what entry.event.what) in
      ap (λ b. cond b (is.Event (record { event = e.event; struck = is_struck (sign_of e.struck e.event.what) })) is.OutOfOrder) right
      ∙ ap (λ b. is.Event (record { event = e.event; struck = b })) (struck_is e.struck e.event.what entry.struck)

  words_are_read : line_is h q (sign_text (sign_of e.struck e.event.what) ∷ words_behind q e) ≡ is.Event e
  words_are_read =
      ap (λ o. or_line o is.BadLine (event_is q)) shape_written
      ∙ ap (λ o. or_line o is.BadNumber (in_place q (sign_of e.struck e.event.what))) numbers_written
      ∙ placed

  -- the line of an event is read as the event
  pub line-written : line_is h q (split 32 (event_line q e)) ≡ is.Event e
  line-written =
      ap (line_is h q) (split-separated 32 (sign_text (sign_of e.struck e.event.what)) (words_behind q e) (sign_plain (sign_of e.struck e.event.what)).no_space (no_spaces (words_behind q e) words_plain))
      ∙ words_are_read

  pub line-one : lacks 10 (event_line q e) ≡ true
  line-one = lacks-separated 32 10 (sign_text (sign_of e.struck e.event.what)) (words_behind q e) refl (sign_plain (sign_of e.struck e.event.what)).no_feed (no_feeds (words_behind q e) words_plain)

-- the end line is read as the end
module _ (h : Header) (n : ℕ) (small : n < 2 ^ 64) where
  end_words : split 32 (end_line n) ≡ codes "end" ∷ decimal n ∷ []
  end_words = split-separated 32 (codes "end") (decimal n ∷ []) refl (no_spaces (decimal n ∷ []) (plain n small, tt))

  pub end-written : line_is h (suc n) (split 32 (end_line n)) ≡ is.End
  end-written =
      let next : n + 1 ≡ suc n = omega arith in
      ap (line_is h (suc n)) end_words
      ∙ ap (λ b. cond b (end_is (suc n) (decimal n)) (or_line (shape_of h (codes "end" ∷ decimal n ∷ [])) is.BadLine (event_is (suc n)))) (plain n small).some
      ∙ ap (λ o. or_line o is.BadNumber (λ m. cond (eqb (m + 1) (suc n)) is.End is.OutOfOrder)) (number_in-decimal 0 (2 ^ 64 - 1) n (omega arith) (omega arith) small)
      ∙ ap (λ b. cond b is.End is.OutOfOrder) (eq-eqb (n + 1) (suc n) next)

  pub end-one : lacks 10 (end_line n) ≡ true
  end-one = lacks-separated 32 10 (codes "end") (decimal n ∷ []) refl refl (no_feeds (decimal n ∷ []) (plain n small, tt))

-- what a line that is an event came from
pub record IsLine (h : Header) (q : ℕ) (words : List (List ℕ)) (e : Entry) : Type 0 where
  pub words_are : words ≡ sign_text (sign_of e.struck e.event.what) ∷ words_behind q e
  pub entry : IsEntryAt q e
  pub allowed : Allowed h e.event.what

line_from : {A : Type 0} (o : Option A) (line : Line) (next : A → Line) (e : Line) → or_line o line next ≡ e → (line ≡ e → ⊥) → (a : A) × (o ≡ Some a) × (next a ≡ e)
line_from None line next e h other = absurd (other h)
line_from (Some a) line next e h other = (a, refl, h)

end_no_event : (q : ℕ) (count : List ℕ) (e : Entry) → end_is q count ≡ is.Event e → ⊥
end_no_event q count e h =
    let m = line_from (number_in 0 (2 ^ 64 - 1) count) is.BadNumber (λ n. cond (eqb (n + 1) q) is.End is.OutOfOrder) (is.Event e) h (λ k. cc) in
    elim (eqb (m.0 + 1) q) as (λ b. cond b is.End is.OutOfOrder ≡ is.Event e → ⊥) [ true ↦ λ k. cc | false ↦ λ k. cc ] m.2

checked_from : (h : Header) (s t : Shape) → checked h s ≡ Some t → (is_shape h s ≡ true) × (s ≡ t)
checked_from h s t =
    elim (is_shape h s) as (λ b. cond b (Some s) None ≡ Some t → (b ≡ true) × (s ≡ t)) [ true ↦ λ e. (refl, cc) | false ↦ λ e. cc ]

pub record IsShapeOf (h : Header) (sign seq worker verb : List ℕ) (ns : List (List ℕ)) (s : Shape) : Type 0 where
  pub sign_is : sign ≡ sign_text s.sign
  pub seq_is : seq ≡ s.seq
  pub worker_is : worker ≡ 119 ∷ s.worker
  pub verb_is : verb ≡ verb_text s.verb
  pub numbers_are : ns ≡ s.numbers
  pub fits : fits s.verb s.sign h ≡ true

shape_from : (h : Header) (sign seq worker verb : List ℕ) (ns : List (List ℕ)) (t : Shape) → shape_of h (sign ∷ seq ∷ worker ∷ verb ∷ ns) ≡ Some t → IsShapeOf h sign seq worker verb ns t
shape_from h sign seq worker verb ns t e =
    let a = then_from (sign_named sign) (λ s. option_and_then (λ w. option_and_then (λ v. checked h (record { sign = s; seq = seq; worker = w; verb = v; numbers = ns })) (verb_named verb)) (after_w worker)) t e in
    let b = then_from (after_w worker) (λ w. option_and_then (λ v. checked h (record { sign = a.0; seq = seq; worker = w; verb = v; numbers = ns })) (verb_named verb)) t a.2 in
    let c = then_from (verb_named verb) (λ v. checked h (record { sign = a.0; seq = seq; worker = b.0; verb = v; numbers = ns })) t b.2 in
    let s : Shape = record { sign = a.0; seq = seq; worker = b.0; verb = c.0; numbers = ns } in
    let d = checked_from h s t c.2 in
    let fit = and_parts (fits s.verb s.sign h) (is_word s.seq && (is_word s.worker && (are_words s.numbers && eqb (length s.numbers) (arity s.verb)))) d.0 in
    subst (IsShapeOf h sign seq worker verb ns) d.1 (record {
      sign_is = sign_was sign a.0 a.1;
      seq_is = refl;
      worker_is = worker_was worker b.0 b.1;
      verb_is = verb_was verb c.0 c.1;
      numbers_are = refl;
      fits = fit.0;
    })

five : (a b c d x y z u : List ℕ) (ns ms : List (List ℕ)) → a ≡ x → b ≡ y → c ≡ z → d ≡ u → ns ≡ ms → a ∷ b ∷ c ∷ d ∷ ns ≡ x ∷ y ∷ z ∷ u ∷ ms
five a b c d x y z u ns ms ea eb ec ed en = cc

pub record IsPlaced (q : ℕ) (sign : Sign) (x : ℕ × Event) (e : Entry) : Type 0 where
  pub next : x.0 ≡ q
  pub order : is_in_order q x.1.what ≡ true
  pub entry_is : record { event = x.1; struck = is_struck sign } ≡ e

placed_from : (q : ℕ) (sign : Sign) (x : ℕ × Event) (e : Entry) → in_place q sign x ≡ is.Event e → IsPlaced q sign x e
placed_from q sign x e =
    let entry : Entry = record { event = x.1; struck = is_struck sign } in
    elim (eqb x.0 q && is_in_order q x.1.what) as (λ b. (eqb x.0 q && is_in_order q x.1.what) ≡ b → cond b (is.Event entry) is.OutOfOrder ≡ is.Event e → IsPlaced q sign x e) [
      | true ↦ λ right k.
          let parts = and_parts (eqb x.0 q) (is_in_order q x.1.what) right in
          record { next = eqb-true x.0 q parts.0; order = parts.1; entry_is = cc }
      | false ↦ λ _ k. cc
    ] refl

event_from : (h : Header) (q : ℕ) (sign seq worker verb : List ℕ) (ns : List (List ℕ)) (e : Entry) → or_line (shape_of h (sign ∷ seq ∷ worker ∷ verb ∷ ns)) is.BadLine (event_is q) ≡ is.Event e → IsLine h q (sign ∷ seq ∷ worker ∷ verb ∷ ns) e
event_from h q sign seq worker verb ns e k =
    let m = line_from (shape_of h (sign ∷ seq ∷ worker ∷ verb ∷ ns)) is.BadLine (event_is q) (is.Event e) k (λ x. cc) in
    let s = m.0 in
    let is_of = shape_from h sign seq worker verb ns s m.1 in
    let n = line_from (numbers s) is.BadNumber (in_place q s.sign) (is.Event e) m.2 (λ x. cc) in
    let place = placed_from q s.sign n.0 e n.2 in
    let a = then_from (seq_in s.seq) (λ seq. option_and_then (λ worker. option_map (λ what. (seq, event worker what)) (what_of s.verb s.numbers)) (number_in 1 64 s.worker)) n.0 n.1 in
    let b = then_from (number_in 1 64 s.worker) (λ worker. option_map (λ what. (a.0, event worker what)) (what_of s.verb s.numbers)) n.0 a.2 in
    let c = mapped_from (what_of s.verb s.numbers) (λ what. (a.0, event b.0 what)) n.0 b.2 in
    let number = number_in-some 1 (2 ^ 64 - 1) s.seq a.0 (omega arith) a.1 in
    let by = number_in-some 1 64 s.worker b.0 (omega arith) b.1 in
    let what = what_of-read s.verb s.numbers c.0 c.1 in
    let seq_is : a.0 ≡ q = ap (λ (x : ℕ × Event). x.0) c.2 ∙ place.next in
    let event_is : event b.0 c.0 ≡ n.0.1 = ap (λ (x : ℕ × Event). x.1) c.2 in
    let order : is_in_order q c.0 ≡ true = ap (λ (x : Event). is_in_order q x.what) event_is ∙ place.order in
    let signed = sign_read h s.sign c.0 (subst (λ v. fits v s.sign h ≡ true) what.verb is_of.fits) in
    let it : Entry = record { event = event b.0 c.0; struck = is_struck s.sign } in
    let same : it ≡ e = ap (λ (x : Event). record { event = x; struck = is_struck s.sign }) event_is ∙ place.entry_is in
    subst (IsLine h q (sign ∷ seq ∷ worker ∷ verb ∷ ns)) same (record {
      words_are = five sign seq worker verb _ _ _ _ ns _
          (is_of.sign_is ∙ ap sign_text signed.sign)
          (is_of.seq_is ∙ number.spelled ∙ ap decimal seq_is)
          (is_of.worker_is ∙ ap (λ ds. 119 ∷ ds) by.spelled)
          (is_of.verb_is ∙ ap verb_text what.verb)
          (is_of.numbers_are ∙ what.numbers);
      entry = record { event = record { worker = (by.low, by.high); what = what.range q order }; struck = signed.struck };
      allowed = signed.allowed;
    })

pub line-read : (h : Header) (q : ℕ) (words : List (List ℕ)) (e : Entry) → line_is h q words ≡ is.Event e → IsLine h q words e
line-read h q [] e k = cc
line-read h q (a ∷ []) e k = cc
line-read h q (a ∷ b ∷ []) e k =
    elim (bytes_eq a (codes "end") && is_word b) as (λ t. cond t (end_is q b) is.BadLine ≡ is.Event e → IsLine h q (a ∷ b ∷ []) e) [
      | true ↦ λ x. absurd (end_no_event q b e x)
      | false ↦ λ x. cc
    ] k
line-read h q (a ∷ b ∷ c ∷ []) e k = cc
line-read h q (a ∷ b ∷ c ∷ d ∷ ns) e k = event_from h q a b c d ns e k

-- what a line that is the end came from
pub record IsEndLine (q : ℕ) (words : List (List ℕ)) : Type 0 where
  pub count : ℕ
  pub words_are : words ≡ codes "end" ∷ decimal count ∷ []
  pub next : count + 1 ≡ q

not_placed : (q : ℕ) (sign : Sign) (x : ℕ × Event) → in_place q sign x ≡ is.End → ⊥
not_placed q sign x =
    elim (eqb x.0 q && is_in_order q x.1.what) as (λ b. cond b (is.Event (record { event = x.1; struck = is_struck sign })) is.OutOfOrder ≡ is.End → ⊥) [ true ↦ λ k. cc | false ↦ λ k. cc ]

event_no_end : (h : Header) (q : ℕ) (words : List (List ℕ)) → or_line (shape_of h words) is.BadLine (event_is q) ≡ is.End → ⊥
event_no_end h q words k =
    let m = line_from (shape_of h words) is.BadLine (event_is q) is.End k (λ x. cc) in
    let n = line_from (numbers m.0) is.BadNumber (in_place q m.0.sign) is.End m.2 (λ x. cc) in
    not_placed q m.0.sign n.0 n.2

two_words : (a b x y : List ℕ) → a ≡ x → b ≡ y → a ∷ b ∷ [] ≡ x ∷ y ∷ []
two_words a b x y ea eb = cc

end_from : (q : ℕ) (a b : List ℕ) → (bytes_eq a (codes "end") && is_word b) ≡ true → end_is q b ≡ is.End → IsEndLine q (a ∷ b ∷ [])
end_from q a b test k =
    let parts = and_parts (bytes_eq a (codes "end")) (is_word b) test in
    let m = line_from (number_in 0 (2 ^ 64 - 1) b) is.BadNumber (λ n. cond (eqb (n + 1) q) is.End is.OutOfOrder) is.End k (λ x. cc) in
    let number = number_in-some 0 (2 ^ 64 - 1) b m.0 (omega arith) m.1 in
    let next : m.0 + 1 ≡ q = elim (eqb (m.0 + 1) q) as (λ t. eqb (m.0 + 1) q ≡ t → cond t is.End is.OutOfOrder ≡ is.End → m.0 + 1 ≡ q) [ true ↦ λ same _. eqb-true (m.0 + 1) q same | false ↦ λ _ x. cc ] refl m.2 in
    record { count = m.0; words_are = two_words a b (codes "end") (decimal m.0) ((bytes_eq-Decides a (codes "end")).0 parts.0) number.spelled; next = next }

pub end-read : (h : Header) (q : ℕ) (words : List (List ℕ)) → line_is h q words ≡ is.End → IsEndLine q words
end-read h q [] k = cc
end-read h q (a ∷ []) k = cc
end-read h q (a ∷ b ∷ []) k =
    elim (bytes_eq a (codes "end") && is_word b) as (λ t. (bytes_eq a (codes "end") && is_word b) ≡ t → cond t (end_is q b) is.BadLine ≡ is.End → IsEndLine q (a ∷ b ∷ [])) [
      | true ↦ λ test x. end_from q a b test x
      | false ↦ λ _ x. cc
    ] refl k
end-read h q (a ∷ b ∷ c ∷ ns) k = absurd (event_no_end h q (a ∷ b ∷ c ∷ ns) k)
