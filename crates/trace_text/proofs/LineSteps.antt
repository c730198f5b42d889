-- One line more of a text.
use Rattle.std.proofs.Common.{◌≡◌, ℕ, suc, ◌+◌, true, false, cond, eqb, List, [], ◌∷◌, ◌++◌, length, Result, Ok, Err, refl, sym, ap, subst, ◌∙◌, append_assoc}
use Rattle.trace_text.specs.declared.fault.TraceFault.{TraceFault}
use Rattle.trace_text.specs.declared.fault.TraceFault.TheVariants.{BadLine}
use Rattle.trace_text.specs.declared.form.Header.{Header}
use Rattle.trace_text.specs.declared.line.Entry.{Entry}
use Rattle.trace_text.specs.declared.line.Line.{Line}
use Rattle.trace_text.specs.Reading.{after, follow, line_is, nothing_more, read_behind, read_lines, read_text}
use Rattle.trace_text.specs.Form.{header_named}
use Rattle.text_lines.specs.Lines.{longer, split}
use Rattle.text_lines.proofs.Splits.{pieces}

-- a line that is followed by a line feed
pub line-step : (h : Header) (at q : ℕ) (line others : List ℕ) → read_lines h at q (line ∷ split 10 others) ≡ follow (line_is h q (split 32 line)) at (at + length line + 1) (split 10 others) (read_lines h (at + length line + 1) (suc q) (split 10 others))
line-step h at q line others =
    let p = pieces 10 others in
    subst (λ ls. read_lines h at q (line ∷ ls) ≡ follow (line_is h q (split 32 line)) at (at + length line + 1) ls (read_lines h (at + length line + 1) (suc q) ls)) (sym p.are) refl

-- what all lines are read as, where those so far gave these events and the next line is this
pub line_is_next : (h : Header) (at q n : ℕ) (rest line others : List ℕ) (all : Result (List Entry) TraceFault) (es : List Entry) (l : Line) → all ≡ after es (read_lines h at q (split 10 rest)) → split 10 rest ≡ line ∷ split 10 others → l ≡ line_is h n (split 32 line) → n ≡ q → all ≡ after es (follow l at (at + length line + 1) (split 10 others) (read_lines h (at + length line + 1) (suc q) (split 10 others)))
line_is_next h at q n rest line others all es l so_far next is number =
    so_far
    ∙ ap (λ ls. after es (read_lines h at q ls)) next
    ∙ ap (after es) (line-step h at q line others)
    ∙ ap (λ m. after es (follow (line_is h m (split 32 line)) at (at + length line + 1) (split 10 others) (read_lines h (at + length line + 1) (suc q) (split 10 others)))) (sym number)
    ∙ ap (λ k. after es (follow k at (at + length line + 1) (split 10 others) (read_lines h (at + length line + 1) (suc q) (split 10 others)))) (sym is)

pub after-after : (es fs : List Entry) (r : Result (List Entry) TraceFault) → after es (after fs r) ≡ after (es ++ fs) r
after-after es fs (Ok gs) = ap Ok (sym (append_assoc es fs gs))
after-after es fs (Err fault) = refl

-- behind an end line, bytes that are there are a fault
pub more_behind : (at : ℕ) (b : ℕ) (others : List ℕ) → nothing_more at (split 10 (b ∷ others)) ≡ Err (BadLine at)
more_behind at b others =
    let p = pieces 10 others in
    subst (λ ls. nothing_more at (cond (eqb b 10) ([] ∷ ls) (longer b ls)) ≡ Err (BadLine at)) (sym p.are)
    (elim (eqb b 10) as (λ t. nothing_more at (cond t ([] ∷ p.first ∷ p.others) (longer b (p.first ∷ p.others))) ≡ Err (BadLine at)) [ true ↦ refl | false ↦ refl ])

pub something_behind : (at : ℕ) (others : List ℕ) → (others ≡ [] → ⊥) → nothing_more at (split 10 others) ≡ Err (BadLine at)
something_behind at [] some = absurd (some refl)
something_behind at (b ∷ others) some = more_behind at b others

-- a header that is followed by a line feed
pub header_step : (line others : List ℕ) → read_text (line ∷ split 10 others) ≡ read_behind (header_named line) (length line + 1) (split 10 others)
header_step line others =
    let p = pieces 10 others in
    subst (λ ls. read_text (line ∷ ls) ≡ read_behind (header_named line) (length line + 1) ls) (sym p.are) refl
