-- The lines of a state are read from their text and from no other bytes.
use Rattle.std.proofs.Common.{◌≡◌, ℕ, List, [], ◌∷◌, Option, Some, None, Result, Ok, Err, refl, sym, ap, subst, ◌∙◌}
use Rattle.text_lines.specs.Lines.{split}
use Rattle.stab_code.specs.Program.{ProgramParts}
use Rattle.image_lines.specs.declared.body.TextFault.{TextFault}
use Rattle.image_lines.specs.declared.head.Next.{Next}
use Rattle.image_lines.specs.declared.line.Line.{Line}
use Rattle.image_lines.specs.Body.{Body, read_lines}
use Rattle.image_lines.specs.BodyText.{body_text, placed}
use Rattle.image_lines.proofs.BodyLaws.{body_back, body_was}
use Rattle.image_state.specs.Fits.{Fit, first_fault}
use Rattle.image_state.specs.Named.{lines_in}
use Rattle.image_state.specs.Parts.{Parts, parts_from}
use Rattle.image_state.specs.State.{AreOfState, IsStateOf, bounds, by_faults, refined_at, state_by, state_in}
use Rattle.image_state.proofs.Fitting.{fit_back, fit_was, lines_placed}

abbrev Answer : Type 0
Answer = Result Parts TextFault

no_parts : {P : Type 0} (k : TextFault) (q : Parts) → ◌≡◌ {A = Answer} (Err k) (Ok q) → P
no_parts k q h = absurd (let no : ◌≡◌ {A = Answer} (Err k) (Ok q) = h in cc)

parts_were : (a b : Parts) → ◌≡◌ {A = Answer} (Ok a) (Ok b) → a ≡ b
parts_were a b h = cc

module _ (p : ProgramParts) (next : Next) where
  none_at : (at : ℕ) (ls : List Line) → AreOfState p next ls → first_fault (bounds p next (lines_in (placed at ls))) None (placed at ls) ≡ None
  none_at at ls h =
      let same = lines_placed at ls in
      let fit : Fit (bounds p next (lines_in (placed at ls))) None (lines_in (placed at ls)) = subst (λ (xs : List Line). Fit (bounds p next xs) None xs) (sym same) h.fit in
      fit_back (bounds p next (lines_in (placed at ls))) None (placed at ls) fit

  pub state_back : (at : ℕ) (ls : List Line) → AreOfState p next ls → state_in p next at (body_text ls) ≡ Ok (parts_from ls)
  state_back at ls h =
      ap (state_by p next at (body_text ls)) (body_back at ls h.right)
      ∙ ap (λ (o : Option TextFault). by_faults p at (body_text ls) o None (parts_from (lines_in (placed at ls)))) (none_at at ls h)
      ∙ ap (λ (xs : List Line). let a : Answer = Ok (parts_from xs) in a) (lines_placed at ls)

  pub state_was : (at : ℕ) (bytes : List ℕ) (q : Parts) → state_in p next at bytes ≡ Ok q → IsStateOf p next bytes q
  state_was at bytes q given =
      let b : Body = read_lines at (split 10 bytes) in
      elim (first_fault (bounds p next (lines_in b.lines)) None b.lines) as (λ o. first_fault (bounds p next (lines_in b.lines)) None b.lines ≡ o → by_faults p at bytes o b.fault (parts_from (lines_in b.lines)) ≡ Ok q → IsStateOf p next bytes q) [
        | (Some k) ↦ λ is h. no_parts k q h
        | None ↦ λ is h. elim b.fault as (λ o. b.fault ≡ o → by_faults p at bytes None o (parts_from (lines_in b.lines)) ≡ Ok q → IsStateOf p next bytes q) [
          | (Some k) ↦ λ no e. no_parts (refined_at p at bytes k) q e
          | None ↦ λ none e.
              let was = body_was at bytes b refl none in
              let same : lines_in b.lines ≡ was.lines = ap lines_in was.places ∙ lines_placed at was.lines in
              record {
                lines = was.lines;
                bytes_are = was.bytes_are;
                are_state = record { right = was.right; fit = subst (λ (xs : List Line). Fit (bounds p next xs) None xs) same (fit_was (bounds p next (lines_in b.lines)) None b.lines is) };
                parts_are = sym (parts_were (parts_from (lines_in b.lines)) q e) ∙ ap parts_from same;
              }
        ] refl h
      ] refl given
