-- One line more of a state.
use Rattle.std.proofs.Common.{◌≡◌, ℕ, ◌+◌, true, false, cond, eqb, List, [], ◌∷◌, ◌++◌, length, Option, Some, Result, Ok, refl, sym, ap, subst, ◌∙◌, append_assoc}
use Rattle.text_lines.specs.Lines.{longer, split}
use Rattle.text_lines.proofs.Splits.{pieces}
use Rattle.image_text.specs.declared.fault.LineFault.{LineFault}
use Rattle.image_text.specs.declared.fault.LineFault.TheVariants.{BadLine}
use Rattle.image_lines.specs.declared.body.TextFault.{TextFault}
use Rattle.image_lines.specs.declared.body.TextFault.TheVariants.{At, NoEnd}
use Rattle.image_lines.specs.declared.line.Line.{Line}
use Rattle.image_lines.specs.Body.{Body, before, behind_end, follow, is_end, no_lines, read_lines}
use Rattle.image_lines.specs.Line.{line_in}

abbrev made : List (ℕ × Line) → Option TextFault → Body
made ls fault = record { lines = ls; fault = fault }

-- a line that is followed by a line feed
line_step : (at : ℕ) (text others : List ℕ) → read_lines at (text ∷ split 10 others) ≡ follow (line_in (split 32 text)) at (at + length text + 1) (split 10 others) (read_lines (at + length text + 1) (split 10 others))
line_step at text others =
    let p = pieces 10 others in
    subst (λ (ls : List (List ℕ)). read_lines at (text ∷ ls) ≡ follow (line_in (split 32 text)) at (at + length text + 1) ls (read_lines (at + length text + 1) ls)) (sym p.are) refl

-- what all lines are read as, where those so far are these and the next one is read so
pub next_line : (all : Body) (so_far : List (ℕ × Line)) (at : ℕ) (rest text others : List ℕ) (r : Result Line LineFault) → all ≡ before so_far (read_lines at (split 10 rest)) → split 10 rest ≡ text ∷ split 10 others → r ≡ line_in (split 32 text)
    → all ≡ before so_far (follow r at (at + length text + 1) (split 10 others) (read_lines (at + length text + 1) (split 10 others)))
next_line all so_far at rest text others r h next is =
    h
    ∙ ap (λ (ls : List (List ℕ)). before so_far (read_lines at ls)) next
    ∙ ap (before so_far) (line_step at text others)
    ∙ ap (λ (x : Result Line LineFault). before so_far (follow x at (at + length text + 1) (split 10 others) (read_lines (at + length text + 1) (split 10 others)))) (sym is)

-- none or all, and what comes of a fault, of the last line and of another one
pub before_nothing : (b : Body) → b ≡ before [] b
before_nothing b = refl

pub last_lines : (so_far : List (ℕ × Line)) (fault : Option TextFault) → so_far ++ [] ≡ so_far → before so_far (no_lines fault) ≡ made so_far fault
last_lines so_far fault h = ap (λ (ls : List (ℕ × Line)). made ls fault) h

pub same_fault : (ls : List (ℕ × Line)) (a b : Option TextFault) → a ≡ b → made ls a ≡ made ls b
same_fault ls a b h = ap (made ls) h

pub at_end : (l : Line) (at next : ℕ) (ls : List (List ℕ)) (others : Body) → is_end l ≡ true → follow (Ok l) at next ls others ≡ no_lines (behind_end next ls)
at_end l at next ls others h = ap (λ b. cond b (no_lines (behind_end next ls)) (before ((at, l) ∷ []) others)) h

pub one_more : (so_far : List (ℕ × Line)) (l : Line) (at next : ℕ) (ls : List (List ℕ)) (others : Body) → is_end l ≡ false → before so_far (follow (Ok l) at next ls others) ≡ before (so_far ++ (at, l) ∷ []) others
one_more so_far l at next ls others h =
    ap (λ b. before so_far (cond b (no_lines (behind_end next ls)) (before ((at, l) ∷ []) others))) h
    ∙ ap (λ (xs : List (ℕ × Line)). made xs others.fault) (sym (append_assoc so_far ((at, l) ∷ []) others.lines))

-- where no line feed is left, the text has no end
pub no_end : (at : ℕ) (rest : List ℕ) → split 10 rest ≡ rest ∷ [] → read_lines at (split 10 rest) ≡ no_lines (Some NoEnd)
no_end at rest h = ap (read_lines at) h

-- bytes behind the last line are a fault
pub more_behind : (at b : ℕ) (others : List ℕ) → behind_end at (split 10 (b ∷ others)) ≡ Some (At BadLine at)
more_behind at b others =
    let p = pieces 10 others in
    subst (λ (ls : List (List ℕ)). behind_end at (cond (eqb b 10) ([] ∷ ls) (longer b ls)) ≡ Some (At BadLine at)) (sym p.are)
    (elim (eqb b 10) as (λ t. behind_end at (cond t ([] ∷ p.first ∷ p.others) (longer b (p.first ∷ p.others))) ≡ Some (At BadLine at)) [ true ↦ refl | false ↦ refl ])

pub something_behind : (at : ℕ) (others : List ℕ) → (others ≡ [] → ⊥) → behind_end at (split 10 others) ≡ Some (At BadLine at)
something_behind at [] some = absurd (some refl)
something_behind at (b ∷ others) some = more_behind at b others
