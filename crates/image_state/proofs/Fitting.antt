-- Lines that fit together stand in order, and each of them fits by itself.
use Rattle.std.proofs.Common.{◌≡◌, ℕ, ◌+◌, ◌≤◌, Bool, true, false, cond, List, [], ◌∷◌, length, refl, sym, ap, subst, ◌∙◌}
use Rattle.std.specs.Prelude.{Some, None, Option, ◌&&◌, map}
use Rattle.std.specs.List.{AllByRecursion}
use Rattle.std.proofs.lemmas.Bool.{and_from, and_parts, false≢true}
use Rattle.stab_code.specs.Program.{ProgramParts}
use Rattle.image_text.specs.declared.fault.LineFault.{LineFault}
use Rattle.image_text.specs.declared.fault.LineFault.TheVariants.{BadNumber, BadState}
use Rattle.image_lines.specs.declared.body.TextFault.{TextFault}
use Rattle.image_lines.specs.declared.body.TextFault.TheVariants.{At}
use Rattle.image_lines.specs.declared.line.Line.{Line}
use Rattle.image_lines.specs.BodyText.{AreLines, placed}
use Rattle.image_lines.specs.LineText.{IsLine, line_text}
use Rattle.image_state.specs.Fits.{Bounds, Fit, fault_or, first_fault, line_fault, line_fits, numbers_fit}
use Rattle.image_state.specs.Named.{lines_in}
use Rattle.image_state.specs.Order.{AreOrdered, follows_last}

-- all that is asked of a line without the ones before it
pub record FitsAlone (b : Bounds) (l : Line) : Type 0 where
  pub numbers : numbers_fit b.program l ≡ true
  pub fits : line_fits b l ≡ true

no_fault_left : {P : Type 0} (k : LineFault) → ◌≡◌ {A = Option LineFault} (Some k) None → P
no_fault_left k h = absurd (let no : ◌≡◌ {A = Option LineFault} (Some k) None = h in cc)

-- a line without a fault
fits_so : (b : Bounds) (last : Option Line) (l : Line) → line_fault b last l ≡ None → FitsAlone b l × (follows_last last l ≡ true)
fits_so b last l given =
    elim (numbers_fit b.program l) as (λ n. numbers_fit b.program l ≡ n → cond n (cond (follows_last last l && line_fits b l) None (Some BadState)) (Some BadNumber) ≡ None → FitsAlone b l × (follows_last last l ≡ true)) [
      | false ↦ λ is h. no_fault_left BadNumber h
      | true ↦ λ is h. elim (follows_last last l && line_fits b l) as (λ n. (follows_last last l && line_fits b l) ≡ n → cond n None (Some BadState) ≡ None → FitsAlone b l × (follows_last last l ≡ true)) [
        | false ↦ λ no k. no_fault_left BadState k
        | true ↦ λ both k.
            let parts = and_parts (follows_last last l) (line_fits b l) both in
            (record { numbers = is; fits = parts.1 }, parts.0)
      ] refl h
    ] refl given

pub fit_alone : (b : Bounds) (last : Option Line) (ls : List Line) → Fit b last ls → AllByRecursion (FitsAlone b) ls
fit_alone b last [] h = tt
fit_alone b last (l ∷ ls) h = ((fits_so b last l h.0).0, fit_alone b (Some l) ls h.1)

pub fit_ordered : (b : Bounds) (last : Option Line) (ls : List Line) → Fit b last ls → AreOrdered last ls
fit_ordered b last [] h = tt
fit_ordered b last (l ∷ ls) h = ((fits_so b last l h.0).1, fit_ordered b (Some l) ls h.1)

-- and a line that fits and stands in order has no fault
no_fault_so : (b : Bounds) (last : Option Line) (l : Line) → FitsAlone b l → follows_last last l ≡ true → line_fault b last l ≡ None
no_fault_so b last l h ordered =
    ap (λ n. cond n (cond (follows_last last l && line_fits b l) None (Some BadState)) (Some BadNumber)) h.numbers
    ∙ ap (λ n. let o : Option LineFault = cond n None (Some BadState) in o) (and_from (follows_last last l) (line_fits b l) ordered h.fits)

pub fit_from : (b : Bounds) (last : Option Line) (ls : List Line) → AllByRecursion (FitsAlone b) ls → AreOrdered last ls → Fit b last ls
fit_from b last [] h ordered = tt
fit_from b last (l ∷ ls) h ordered = (no_fault_so b last l h.0 ordered.0, fit_from b (Some l) ls h.1 ordered.1)

-- the first fault of lines with their places
no_text_fault : {P : Type 0} (k : TextFault) → ◌≡◌ {A = Option TextFault} (Some k) None → P
no_text_fault k h = absurd (let no : ◌≡◌ {A = Option TextFault} (Some k) None = h in cc)

pub fit_was : (b : Bounds) (last : Option Line) (ls : List (ℕ × Line)) → first_fault b last ls ≡ None → Fit b last (lines_in ls)
fit_was b last [] h = tt
fit_was b last (l ∷ ls) given =
    elim (line_fault b last l.1) as (λ o. line_fault b last l.1 ≡ o → fault_or o l.0 (first_fault b (Some l.1) ls) ≡ None → Fit b last (l.1 ∷ lines_in ls)) [
      | (Some k) ↦ λ is h. no_text_fault (At k l.0) h
      | None ↦ λ is h. (is, fit_was b (Some l.1) ls h)
    ] refl given

pub fit_back : (b : Bounds) (last : Option Line) (ls : List (ℕ × Line)) → Fit b last (lines_in ls) → first_fault b last ls ≡ None
fit_back b last [] h = refl
fit_back b last (l ∷ ls) h = ap (λ o. fault_or o l.0 (first_fault b (Some l.1) ls)) h.0 ∙ fit_back b (Some l.1) ls h.1

-- lines with their places are the lines
pub lines_placed : (at : ℕ) (ls : List Line) → lines_in (placed at ls) ≡ ls
lines_placed at [] = refl
lines_placed at (l ∷ ls) = ap (λ (xs : List Line). l ∷ xs) (lines_placed (at + length (line_text l) + 1) ls)

-- what is asked of each line of a text
pub are_lines : (ls : List Line) → AreLines ls → AllByRecursion IsLine ls
are_lines [] h = tt
are_lines (l ∷ ls) h = (h.0.0, are_lines ls h.1)
