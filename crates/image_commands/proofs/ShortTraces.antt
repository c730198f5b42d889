-- A trace has no more events than bytes.
use Rattle.std.proofs.Common.{◌≡◌, ℕ, suc, ◌+◌, ◌≤◌, true, false, cond, eqb, List, [], ◌∷◌, length, Option, Some, None, Result, Ok, Err, refl, ap, arith}
use Rattle.std.specs.FinSet.{FinSet}
use Rattle.std.specs.Ordering.{nat_cmp}
use Rattle.stab_journal.specs.declared.event.Event.{Event}
use Rattle.stab_journal.specs.Journal.{Journal}
use Rattle.text_lines.specs.Lines.{longer, split}
use Rattle.trace_text.specs.declared.fault.TraceFault.{TraceFault}
use Rattle.trace_text.specs.declared.form.Header.{Header}
use Rattle.trace_text.specs.declared.line.Entry.{Entry}
use Rattle.trace_text.specs.declared.line.Line.{Line}
use Rattle.trace_text.specs.declared.line.Line.TheVariants as is
use Rattle.trace_text.specs.Form.{header_named}
use Rattle.trace_text.specs.Reading.{after, follow, line_is, nothing_more, read_behind, read_lines, read_text, reading}
use Rattle.trace_text.specs.Text.{entries, entries_from}

longer_few : (b : ℕ) (pieces : List (List ℕ)) → length (longer b pieces) ≤ suc (length pieces)
longer_few b [] = omega arith
longer_few b (piece ∷ pieces) = omega arith

pieces_few : (mark : ℕ) (bytes : List ℕ) → length (split mark bytes) ≤ suc (length bytes)
pieces_few mark [] = omega arith
pieces_few mark (b ∷ bytes) =
    elim (eqb b mark) as (λ t. length (cond t ([] ∷ split mark bytes) (longer b (split mark bytes))) ≤ suc (suc (length bytes))) [
      | true ↦ omega (arith, pieces_few mark bytes)
      | false ↦ omega (arith, pieces_few mark bytes, longer_few b (split mark bytes))
    ]

not_ok : {A : Type 0} (f : TraceFault) (a : A) → Err f ≡ Ok a → ⊥
not_ok f a is = cc

nothing_few : (at : ℕ) (lines : List (List ℕ)) (es : List Entry) → nothing_more at lines ≡ Ok es → length es ≤ 0
nothing_few at [] es is = absurd (not_ok _ es is)
nothing_few at ([] ∷ []) es is = let same : [] ≡ es = cc in omega (arith, ap length same)
nothing_few at ([] ∷ line ∷ lines) es is = absurd (not_ok _ es is)
nothing_few at ((b ∷ line) ∷ lines) es is = absurd (not_ok _ es is)

after_few : (e : Entry) (others : Result (List Entry) TraceFault) (n : ℕ) (es : List Entry) → ((rest : List Entry) → others ≡ Ok rest → length rest ≤ n) → after (e ∷ []) others ≡ Ok es → length es ≤ suc n
after_few e (Err f) n es few is = absurd (not_ok f es is)
after_few e (Ok rest) n es few is = let same : e ∷ rest ≡ es = cc in omega (arith, few rest refl, ap length same)

followed : (l : Line) (at next : ℕ) (lines : List (List ℕ)) (others : Result (List Entry) TraceFault) (n : ℕ) (es : List Entry) → ((rest : List Entry) → others ≡ Ok rest → length rest ≤ n)
    → follow l at next lines others ≡ Ok es → length es ≤ suc n
followed is.BadLine at next lines others n es few is = absurd (not_ok _ es is)
followed is.BadNumber at next lines others n es few is = absurd (not_ok _ es is)
followed is.OutOfOrder at next lines others n es few is = absurd (not_ok _ es is)
followed is.End at next lines others n es few is = omega (arith, nothing_few next lines es is)
followed (is.Event e) at next lines others n es few is = after_few e others n es few is

events_few : (header : Header) (at q : ℕ) (lines : List (List ℕ)) (es : List Entry) → read_lines header at q lines ≡ Ok es → length es ≤ length lines
events_few header at q [] es is = absurd (not_ok _ es is)
events_few header at q (line ∷ []) es is = absurd (not_ok _ es is)
events_few header at q (line ∷ next ∷ lines) es is =
    followed (line_is header q (split 32 line)) at (at + length line + 1) (next ∷ lines) (read_lines header (at + length line + 1) (suc q) (next ∷ lines)) (length (next ∷ lines)) es
    (λ rest ok. events_few header (at + length line + 1) (suc q) (next ∷ lines) rest ok) is

behind_few : (header : Option Header) (at : ℕ) (lines : List (List ℕ)) (es : List Entry) → read_behind header at lines ≡ Ok es → length es ≤ length lines
behind_few None at lines es is = absurd (not_ok _ es is)
behind_few (Some header) at lines es is = events_few header at 1 lines es is

text_few : (lines : List (List ℕ)) (es : List Entry) → read_text lines ≡ Ok es → length es ≤ length lines
text_few [] es is = absurd (not_ok _ es is)
text_few (line ∷ []) es is = absurd (not_ok _ es is)
text_few (line ∷ next ∷ lines) es is = omega (arith, behind_few (header_named line) (length line + 1) (next ∷ lines) es is)

so_many : (struck : FinSet nat_cmp) (q : ℕ) (es : List Event) → length (entries_from struck q es) ≡ length es
so_many struck q [] = refl
so_many struck q (e ∷ es) = ap suc (so_many struck (suc q) es)

-- the events of a history are no more than the bytes of its trace, and one
pub journal_few : (bytes : List ℕ) (j : Journal) → reading bytes ≡ Ok (entries j) → length j.events ≤ suc (length bytes)
journal_few bytes j is = omega (arith, so_many j.struck 1 j.events, text_few (split 10 bytes) (entries j) is, pieces_few 10 bytes)
