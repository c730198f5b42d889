-- The text of events is read as the events, and what is read as events is their text.
use Rattle.std.proofs.Common.{◌≡◌, ℕ, suc, ◌+◌, ◌-◌, ◌^◌, ◌<◌, ◌≤◌, true, List, [], ◌∷◌, ◌++◌, length, Some, None, Option, IsSome, Result, Ok, Err, inl, inr, refl, sym, ap, subst, ◌∙◌, arith, add-zero}
use Rattle.std.specs.Prelude.{codes, decimal}
use Rattle.std.specs.Ordering.{nat_cmp}
use Rattle.std.specs.FinSet.{FinSet, contains}
use Rattle.std.proofs.lemmas.Bool.{and_from}
use Rattle.stab_journal.specs.declared.event.Event.{Event}
use Rattle.stab_journal.specs.Event.{AreEvents}
use Rattle.stab_journal.specs.Journal.{Journal, IsValid}
use Rattle.stab_journal.proofs.Events.{label_in, next_place}
use Rattle.trace_text.specs.declared.fault.TraceFault.{TraceFault}
use Rattle.trace_text.specs.declared.form.Header.{Header}
use Rattle.trace_text.specs.declared.form.Header.TheVariants.{First, Second}
use Rattle.trace_text.specs.declared.line.Entry.{Entry}
use Rattle.trace_text.specs.declared.line.Line.TheVariants as is
use Rattle.trace_text.specs.Form.{header_named, header_text, headers}
use Rattle.trace_text.specs.Reading.{IsEntryAt, after, follow, line_is, nothing_more, read_behind, read_lines, read_text, reading}
use Rattle.trace_text.specs.Text.{NoRelease, IsTextOf, end_line, entries, entries_from, event_line, event_lines, text, trace}
use Rattle.text_lines.specs.Lines.{separated, split}
use Rattle.trace_text.proofs.Lines.{Allowed, IsEndLine, IsLine, end-one, end-read, end-written, line-one, line-read, line-written, named_in-some, words_behind}
use Rattle.text_lines.proofs.Splits.{lacks, all_lack, rejoined}
use Rattle.trace_text.proofs.Ended.{separated-ended, split-ended}

-- events that can stand from the number q on
abbrev pub AreEntries : Header → ℕ → List Entry → Type 0
AreEntries h q [] = Unit {0}
AreEntries h q (e ∷ es) = (IsEntryAt q e × Allowed h e.event.what) × AreEntries h (suc q) es

-- the lines of events from q on and of the end, and the empty rest behind them
abbrev lines : ℕ → ℕ → List Entry → List (List ℕ)
lines q n es = event_lines q es ++ (end_line n ∷ [])

abbrev rest : ℕ → ℕ → List Entry → List (List ℕ)
rest q n es = lines q n es ++ ([] ∷ [])

abbrev step : Header → ℕ → ℕ → List ℕ → List (List ℕ) → Result (List Entry) TraceFault
step h at q line ls = follow (line_is h q (split 32 line)) at (at + length line + 1) ls (read_lines h (at + length line + 1) (suc q) ls)

-- a line before lines that go on
read_more : (h : Header) (at q n : ℕ) (line : List ℕ) (p : ℕ) (es : List Entry) → read_lines h at q (line ∷ rest p n es) ≡ step h at q line (rest p n es)
read_more h at q n line p [] = refl
read_more h at q n line p (e ∷ es) = refl

module _ (h : Header) (n : ℕ) (small : n < 2 ^ 64) where
  pub read_rest : (at q : ℕ) (es : List Entry) → 1 ≤ q → q + length es ≡ suc n → AreEntries h q es → read_lines h at q (rest q n es) ≡ Ok es
  read_rest at q [] some ends are =
      let last : q ≡ suc n = omega arith in
      ap (λ m. follow (line_is h m (split 32 (end_line n))) at (at + length (end_line n) + 1) ([] ∷ []) (read_lines h (at + length (end_line n) + 1) (suc m) ([] ∷ []))) last
      ∙ ap (λ l. follow l at (at + length (end_line n) + 1) ([] ∷ []) (read_lines h (at + length (end_line n) + 1) (suc (suc n)) ([] ∷ []))) (end-written h n (omega arith))
  read_rest at q (e ∷ es) some ends are =
      let line = event_line q e in
      let next = at + length line + 1 in
      read_more h at q n line (suc q) es
      ∙ ap (λ l. follow l at (at + length (event_line q e) + 1) (rest (suc q) n es) (read_lines h (at + length (event_line q e) + 1) (suc q) (rest (suc q) n es))) (line-written h q e some (omega arith) are.0.0 are.0.1)
      ∙ ap (after (e ∷ [])) (read_rest (at + length (event_line q e) + 1) (suc q) es (omega arith) (omega arith) are.1)

  pub lines_one : (q : ℕ) (es : List Entry) → 1 ≤ q → q + length es ≡ suc n → AreEntries h q es → all_lack 10 (lines q n es) ≡ true
  lines_one q [] some ends are = and_from (lacks 10 (end_line n)) true (end-one h n (omega arith)) refl
  lines_one q (e ∷ es) some ends are =
      and_from (lacks 10 (event_line q e)) (all_lack 10 (lines (suc q) n es)) (line-one h q e some (omega arith) are.0.0 are.0.1)
      (lines_one (suc q) es (omega arith) (omega arith) are.1)

header_one : (h : Header) → lacks 10 (header_text h) ≡ true
header_one First = refl
header_one Second = refl

header_is : (h : Header) → header_named (header_text h) ≡ Some h
header_is First = refl
header_is Second = refl

read_behind_header : (h : Header) (n : ℕ) (es : List Entry) → read_text (header_text h ∷ rest 1 n es) ≡ read_behind (header_named (header_text h)) (length (header_text h) + 1) (rest 1 n es)
read_behind_header h n [] = refl
read_behind_header h n (e ∷ es) = refl

-- the text of events is read as the events
pub text-read : (h : Header) (es : List Entry) → length es < 2 ^ 64 → AreEntries h 1 es → reading (text h es) ≡ Ok es
text-read h es small are =
    let n = length es in
    let ends : 1 + length es ≡ suc (length es) = omega arith in
    let one : all_lack 10 (header_text h ∷ lines 1 (length es) es) ≡ true = and_from (lacks 10 (header_text h)) (all_lack 10 (lines 1 (length es) es)) (header_one h) (lines_one h (length es) small 1 es (omega arith) ends are) in
    ap read_text (split-ended (header_text h ∷ lines 1 (length es) es) one)
    ∙ read_behind_header h (length es) es
    ∙ ap (λ o. read_behind o (length (header_text h) + 1) (rest 1 (length es) es)) (header_is h)
    ∙ read_rest h (length es) small (length (header_text h) + 1) 1 es (omega arith) ends are

-- the events of a valid journal
entries_are : (struck : FinSet nat_cmp) (q : ℕ) (es : List Event) → ((k : ℕ) → contains struck (q + k) ≡ true → IsSome (label_in es k)) → AreEvents q es → AreEntries Second q (entries_from struck q es)
entries_are struck q [] steps are = tt
entries_are struck q (e ∷ es) steps are = (
  (record { event = are.0; struck = λ k. steps 0 (ap (contains struck) (add-zero q) ∙ k) }, tt),
  entries_are struck (suc q) es (λ k is. steps (suc k) (ap (contains struck) (next_place q k) ∙ is)) are.1,
)

pub length-entries : (struck : FinSet nat_cmp) (q : ℕ) (es : List Event) → length (entries_from struck q es) ≡ length es
length-entries struck q [] = refl
length-entries struck q (e ∷ es) = ap suc (length-entries struck (suc q) es)

pub journal_entries : (j : Journal) → IsValid j → AreEntries Second 1 (entries j)
journal_entries j valid =
    entries_are j.struck 1 j.events (λ k is. valid.steps_only (suc k) (let next : 1 + k ≡ suc k = omega arith in subst (λ n. contains j.struck n ≡ true) next is)) valid.in_range

first_allowed : (q : ℕ) (es : List Entry) → AreEntries Second q es → NoRelease es → AreEntries First q es
first_allowed q [] are none = tt
first_allowed q (e ∷ es) are none = ((are.0.0, none.0), first_allowed (suc q) es are.1 none.1)

-- what is read as events is the text of the events
pub record IsRest (h : Header) (q : ℕ) (ls : List (List ℕ)) (es : List Entry) : Type 0 where
  pub lines_are : ls ≡ rest q (q + length es - 1) es
  pub are : AreEntries h q es

words_line : (line : List ℕ) (w : List ℕ) (ws : List (List ℕ)) → split 32 line ≡ w ∷ ws → line ≡ separated 32 w ws
words_line line w ws e = rejoined 32 line w ws e

nothing_from : (at : ℕ) (next : List ℕ) (ls : List (List ℕ)) (es : List Entry) → nothing_more at (next ∷ ls) ≡ Ok es → (next ∷ ls ≡ [] ∷ []) × (es ≡ [])
nothing_from at [] [] es e = (refl, cc)
nothing_from at [] (l ∷ ls) es e = cc
nothing_from at (b ∷ next) ls es e = cc

after_from : (e : Entry) (r : Result (List Entry) TraceFault) (es : List Entry) → after (e ∷ []) r ≡ Ok es → (fs : List Entry) × (r ≡ Ok fs) × (e ∷ fs ≡ es)
after_from e (Ok fs) es k = (fs, refl, cc)
after_from e (Err fault) es k = cc

end_rest : (h : Header) (q : ℕ) (line : List ℕ) (ls : List (List ℕ)) (es : List Entry) → IsEndLine q (split 32 line) → ls ≡ [] ∷ [] → es ≡ [] → IsRest h q (line ∷ ls) es
end_rest h q line ls es is none nothing =
    let line_is : line ≡ end_line is.count = words_line line (codes "end") (decimal is.count ∷ []) is.words_are in
    let count : is.count ≡ q + 0 - 1 = let next = is.next in omega arith in
    let at_none : IsRest h q (line ∷ ls) [] = record { lines_are = ap (λ l. l ∷ ls) line_is ∙ ap (λ n. end_line n ∷ ls) count ∙ ap (λ x. end_line (q + 0 - 1) ∷ x) none; are = tt } in
    subst (IsRest h q (line ∷ ls)) (sym nothing) at_none

event_rest : (h : Header) (q : ℕ) (line : List ℕ) (ls : List (List ℕ)) (e : Entry) (fs : List Entry) → IsLine h q (split 32 line) e → IsRest h (suc q) ls fs → IsRest h q (line ∷ ls) (e ∷ fs)
event_rest h q line ls e fs is others =
    let line_is : line ≡ event_line q e = words_line line _ (words_behind q e) is.words_are in
    let count : suc q + length fs - 1 ≡ q + suc (length fs) - 1 = omega arith in
    record {
      lines_are = ap (λ l. l ∷ ls) line_is ∙ ap (λ x. event_line q e ∷ x) others.lines_are ∙ ap (λ n. event_line q e ∷ rest (suc q) n fs) count;
      are = ((is.entry, is.allowed), others.are);
    }

pub rest_from : (h : Header) (at q : ℕ) (ls : List (List ℕ)) (es : List Entry) → read_lines h at q ls ≡ Ok es → IsRest h q ls es
rest_from h at q [] es k = cc
rest_from h at q (line ∷ []) es k = cc
rest_from h at q (line ∷ next ∷ ls) es k =
    elim (line_is h q (split 32 line)) as (λ l. line_is h q (split 32 line) ≡ l → follow l at (at + length line + 1) (next ∷ ls) (read_lines h (at + length line + 1) (suc q) (next ∷ ls)) ≡ Ok es → IsRest h q (line ∷ next ∷ ls) es) [
      | is.BadLine ↦ λ _ x. cc
      | is.BadNumber ↦ λ _ x. cc
      | is.OutOfOrder ↦ λ _ x. cc
      | is.Event e ↦ λ l x.
          let a = after_from e (read_lines h (at + length line + 1) (suc q) (next ∷ ls)) es x in
          let others = rest_from h (at + length line + 1) (suc q) (next ∷ ls) a.0 a.1 in
          subst (IsRest h q (line ∷ next ∷ ls)) a.2 (event_rest h q line (next ∷ ls) e a.0 (line-read h q (split 32 line) e l) others)
      | is.End ↦ λ l x.
          let a = nothing_from (at + length line + 1) next ls es x in
          end_rest h q line (next ∷ ls) es (end-read h q (split 32 line) l) a.0 a.1
    ] refl k

header_from : (line : List ℕ) (h : Header) → header_named line ≡ Some h → line ≡ header_text h
header_from line h e = named_in-some header_text headers line h (refl, (refl, tt)) e

behind_from : (o : Option Header) (at : ℕ) (ls : List (List ℕ)) (es : List Entry) → read_behind o at ls ≡ Ok es → (h : Header) × (o ≡ Some h) × (read_lines h at 1 ls ≡ Ok es)
behind_from None at ls es e = cc
behind_from (Some h) at ls es e = (h, refl, e)

pub record IsWhole (ls : List (List ℕ)) (es : List Entry) : Type 0 where
  pub header : Header
  pub lines_are : ls ≡ header_text header ∷ rest 1 (length es) es
  pub are : AreEntries header 1 es

whole_from : (ls : List (List ℕ)) (es : List Entry) → read_text ls ≡ Ok es → IsWhole ls es
whole_from [] es k = cc
whole_from (line ∷ []) es k = cc
whole_from (line ∷ next ∷ ls) es k =
    let b = behind_from (header_named line) (length line + 1) (next ∷ ls) es k in
    let others = rest_from b.0 (length line + 1) 1 (next ∷ ls) es b.2 in
    let count : 1 + length es - 1 ≡ length es = omega arith in
    record {
      header = b.0;
      lines_are = ap (λ l. l ∷ next ∷ ls) (header_from line b.0 b.1) ∙ ap (λ x. header_text b.0 ∷ x) others.lines_are ∙ ap (λ n. header_text b.0 ∷ rest 1 n es) count;
      are = others.are;
    }

no_release : (q : ℕ) (es : List Entry) → AreEntries First q es → NoRelease es
no_release q [] are = tt
no_release q (e ∷ es) are = (are.0.1, no_release (suc q) es are.1)

by_header : (h : Header) (bytes : List ℕ) (es : List Entry) → AreEntries h 1 es → bytes ≡ text h es → IsTextOf bytes es
by_header First bytes es are e = inr (no_release 1 es are, e)
by_header Second bytes es are e = inl e

pub text-from : (bytes : List ℕ) (es : List Entry) → reading bytes ≡ Ok es → IsTextOf bytes es
text-from bytes es k =
    let w = whole_from (split 10 bytes) es k in
    let joined : bytes ≡ separated 10 (header_text w.header) (rest 1 (length es) es) = rejoined 10 bytes (header_text w.header) (rest 1 (length es) es) w.lines_are in
    by_header w.header bytes es w.are (joined ∙ separated-ended (header_text w.header) (lines 1 (length es) es))

-- the trace of a journal is read as its events
pub trace-read : (j : Journal) → IsValid j → length j.events < 2 ^ 64 → reading (trace j) ≡ Ok (entries j)
trace-read j valid small = text-read Second (entries j) (let n = length-entries j.struck 1 j.events in omega arith) (journal_entries j valid)

pub first-read : (j : Journal) → IsValid j → length j.events < 2 ^ 64 → NoRelease (entries j) → reading (text First (entries j)) ≡ Ok (entries j)
first-read j valid small none = text-read First (entries j) (let n = length-entries j.struck 1 j.events in omega arith) (first_allowed 1 (entries j) (journal_entries j valid) none)
