-- How the lines that were read decide what a state is.
use Rattle.std.proofs.Common.{◌≡◌, ℕ, List, [], ◌∷◌, Option, Some, None, Result, Ok, Err, refl, sym, ap, subst, ◌∙◌}
use Rattle.text_lines.specs.Lines.{split}
use Rattle.stab_code.specs.Program.{ProgramParts}
use Rattle.image_lines.specs.declared.body.TextFault.{TextFault}
use Rattle.image_lines.specs.declared.head.Next.{Next}
use Rattle.image_lines.specs.Body.{Body, read_lines}
use Rattle.image_state.specs.declared.named.Named.{Named}
use Rattle.image_state.specs.Fits.{Bounds, first_fault}
use Rattle.image_state.specs.Held.{AreNamed}
use Rattle.image_state.specs.Named.{lines_in}
use Rattle.image_state.specs.Parts.{Parts, parts_from}
use Rattle.image_state.specs.Sound.{AreSound}
use Rattle.image_state.specs.State.{by_faults, refined_at, state_by, state_in}
use Rattle.image_state.proofs.Same.{bounds_are, bounds_by}
use Rattle.image_state.proofs.Sounding.{parts_are_sound}
use Rattle.image_state.proofs.StateLaws.{state_was}

abbrev Answer : Type 0
Answer = Result Parts TextFault

module _ (p : ProgramParts) (next : Next) (start : ℕ) (bytes : List ℕ) (b : Body) (n : Named) (read : b ≡ read_lines start (split 10 bytes)) (named : AreNamed n (lines_in b.lines)) where
  decided : (o : Option TextFault) → o ≡ first_fault (bounds_by p next n) None b.lines → state_in p next start bytes ≡ by_faults p start bytes o b.fault (parts_from (lines_in b.lines))
  decided o first =
      ap (state_by p next start bytes) (sym read)
      ∙ ap (λ (x : Option TextFault). by_faults p start bytes x b.fault (parts_from (lines_in b.lines)))
      (ap (λ (d : Bounds). first_fault d None b.lines) (sym (bounds_are p next n (lines_in b.lines) named)) ∙ sym first)

  pub by_line : (k : TextFault) → Some k ≡ first_fault (bounds_by p next n) None b.lines → ◌≡◌ {A = Answer} (Err k) (state_in p next start bytes)
  by_line k first = sym (decided (Some k) first)

  pub by_body : (k r : TextFault) → None ≡ first_fault (bounds_by p next n) None b.lines → b.fault ≡ Some k → r ≡ refined_at p start bytes k → ◌≡◌ {A = Answer} (Err r) (state_in p next start bytes)
  by_body k r first fault is =
      ap (λ (x : TextFault). let a : Answer = Err x in a) is
      ∙ sym (decided None first ∙ ap (λ (x : Option TextFault). by_faults p start bytes None x (parts_from (lines_in b.lines))) fault)

  pub by_none : (q : Parts) → None ≡ first_fault (bounds_by p next n) None b.lines → b.fault ≡ None → q ≡ parts_from (lines_in b.lines) → ◌≡◌ {A = Answer} (Ok q) (state_in p next start bytes)
  by_none q first fault is =
      ap (λ (x : Parts). let a : Answer = Ok x in a) is
      ∙ sym (decided None first ∙ ap (λ (x : Option TextFault). by_faults p start bytes None x (parts_from (lines_in b.lines))) fault)

pub sound_is : (p : ProgramParts) (next : Next) (start : ℕ) (bytes : List ℕ) (q : Parts) → ◌≡◌ {A = Answer} (Ok q) (state_in p next start bytes) → AreSound next q
sound_is p next start bytes q is =
    let was = state_was p next start bytes q (sym is) in
    subst (AreSound next) (sym was.parts_are) (parts_are_sound p next was.lines was.are_state)
