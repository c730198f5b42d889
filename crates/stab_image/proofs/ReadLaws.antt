-- What is read as an image is the text of one, and the text of an image is read as that image.
use Rattle.std.proofs.Common.{◌≡◌, ℕ, ◌-◌, List, length, Result, Ok, Err, refl, sym, ap, subst, ◌∙◌, inl, inr}
use Rattle.stab_code.specs.Program.{ProgramParts}
use Rattle.stab_text.specs.Text.{IsTextOf}
use Rattle.stab_text.proofs.Reading.{not_both, one_program}
use Rattle.image_laws.specs.Image.{Image}
use Rattle.image_lines.specs.declared.body.TextFault.{TextFault}
use Rattle.image_lines.specs.declared.line.Line.{Line}
use Rattle.image_lines.specs.BodyText.{body_text}
use Rattle.image_lines.specs.Counts.{Counts, counts_in}
use Rattle.image_lines.specs.CountsText.{AreCounts, counts_text}
use Rattle.image_lines.specs.HeadText.{IsLength}
use Rattle.image_lines.specs.Opening.{program_in}
use Rattle.image_lines.specs.OpeningText.{opening}
use Rattle.image_lines.proofs.CountsLaws.{counts_back, counts_was}
use Rattle.image_lines.proofs.OpeningLaws.{program_back, program_was}
use Rattle.image_state.specs.Parts.{parts_from}
use Rattle.image_state.specs.State.{AreOfState, state_in}
use Rattle.image_state.proofs.Sounding.{parts_are_sound}
use Rattle.image_state.proofs.StateLaws.{state_back, state_was}
use Rattle.image_text.specs.declared.image_fault.ImageFault.{ImageFault}
use Rattle.image_text.specs.declared.image_fault.ImageFault.TheVariants.{BadProgram}
use Rattle.stab_image.specs.ImageText.{text_of_image}
use Rattle.stab_image.specs.Read.{Answer, IsRead, IsReadBehind, IsReadFrom, OfProgram, counts_read, fault_of, image_with, with_counts, with_state}
use Rattle.stab_image.specs.Written.{IsImageText, IsRight, lines_of, next_of}
use Rattle.stab_image.proofs.Again.{image_again}
use Rattle.stab_image.proofs.LinesOf.{same_lines}
use Rattle.stab_image.proofs.TextOf.{counts_of_image, text_is}

no_image : {P : Type 0} (k : ImageFault) (i : Image) → ◌≡◌ {A = Answer} (Ok i) (Err k) → P
no_image k i h = absurd (let no : ◌≡◌ {A = Answer} (Ok i) (Err k) = h in cc)

image_is : (i j : Image) → ◌≡◌ {A = Answer} (Ok i) (Ok j) → i ≡ j
image_is i j h = cc

-- an image that lines made
module _ (text : List ℕ) (p : ProgramParts) (c : Counts) (ls : List Line) (is_text : IsTextOf text p) (small : IsLength (length text)) (counts : AreCounts c) (state : AreOfState p c.next ls) (rest : c.rest ≡ body_text ls) where
  abbrev made : Image
  made = image_with text p c (parts_from ls)

  lines_are : lines_of made ≡ ls
  lines_are = same_lines text p c ls state

  made_right : IsRight made
  made_right =
      let sound = parts_are_sound p c.next ls state in
      record {
        text = is_text;
        small = small;
        probes = counts.probes;
        script = counts.script;
        next = counts.next;
        state = subst (AreOfState p c.next) (sym lines_are) state;
        channels = sound.channels;
        generations = sound.same;
      }

  -- its text
  made_text : opening text (counts_text c) ≡ text_of_image made
  made_text =
      sym (text_is made ∙ ap (λ (bs : List ℕ). opening text (counts_text (record { script = c.script; used = c.used; next = c.next; at = 0; rest = bs }))) (ap body_text lines_are ∙ sym rest))

-- what is read behind a program's text
behind_was : (text : List ℕ) (at : ℕ) (rest : List ℕ) (i : Image) → IsLength (length text) → OfProgram text at rest (Ok i) → IsImageText (opening text rest) i
behind_was text at rest i small of =
    let p = of.program in
    elim (counts_in at rest) as (λ r. counts_in at rest ≡ r → ◌≡◌ {A = Answer} (Ok i) (with_counts text p r) → IsImageText (opening text rest) i) [
      | (Err k) ↦ λ counted h. no_image (fault_of k) i h
      | (Ok c) ↦ λ counted h. elim (state_in p c.next c.at c.rest) as (λ r. state_in p c.next c.at c.rest ≡ r → ◌≡◌ {A = Answer} (Ok i) (with_state text p c r) → IsImageText (opening text rest) i) [
        | (Err k) ↦ λ held e. no_image (fault_of k) i e
        | (Ok q) ↦ λ held e.
            let were = counts_was at rest c counted in
            let was = state_was p c.next c.at c.rest q held in
            let same : image_with text p c (parts_from was.lines) ≡ i = ap (image_with text p c) (sym was.parts_are) ∙ sym (image_is i (image_with text p c q) e) in
            subst (IsImageText (opening text rest)) same (record {
              bytes_are = ap (opening text) were.bytes_are ∙ made_text text p c was.lines of.is_text small were.right was.are_state was.bytes_are;
              right = made_right text p c was.lines of.is_text small were.right was.are_state was.bytes_are;
            })
      ] refl h
    ] refl of.is

from_program : (text : List ℕ) (at : ℕ) (rest : List ℕ) (i : Image) → IsLength (length text) → IsReadBehind text at rest (Ok i) → IsImageText (opening text rest) i
from_program text at rest i small (inl of) = behind_was text at rest i small of
from_program text at rest i small (inr none) = no_image BadProgram i none.is

pub image_was : (bytes : List ℕ) (i : Image) → IsRead bytes (Ok i) → IsImageText bytes i
image_was bytes i given =
    elim (program_in bytes) as (λ r. program_in bytes ≡ r → IsReadFrom (length bytes) r (Ok i) → IsImageText bytes i) [
      | (Err k) ↦ λ is h. no_image (fault_of k) i h
      | (Ok x) ↦ λ is h.
          let was = program_was bytes x.0 x.1 is in
          subst (λ (bs : List ℕ). IsImageText bs i) (sym was.0) (from_program x.0 (length bytes - length x.1) x.1 i was.1 h)
    ] refl given

-- and the text of an image is read as that image
right_counts : (i : Image) → IsRight i → AreCounts (counts_of_image i)
right_counts i right = record { probes = right.probes; script = right.script; next = right.next }

counts_again : (i : Image) (at : ℕ) → IsRight i → counts_read i.text i.program at (counts_text (counts_of_image i)) ≡ Ok i
counts_again i at right =
    let found = counts_back at (counts_of_image i) (right_counts i right) in
    let rest = body_text (lines_of i) in
    let c : Counts = record { script = i.script; used = i.used; next = next_of i; at = found.behind; rest = rest } in
    ap (with_counts i.text i.program) found.found
    ∙ ap (with_state i.text i.program c) (state_back i.program (next_of i) found.behind (lines_of i) right.state)
    ∙ ap (λ (j : Image). let a : Answer = Ok j in a) (image_again i right found.behind rest)

answer_is : (i : Image) (at : ℕ) (r : Answer) → IsRight i → IsReadBehind i.text at (counts_text (counts_of_image i)) r → r ≡ Ok i
answer_is i at r right (inl of) =
    of.is ∙ ap (λ (p : ProgramParts). counts_read i.text p at (counts_text (counts_of_image i))) (one_program i.text of.program i.program of.is_text right.text) ∙ counts_again i at right
answer_is i at r right (inr none) = absurd (not_both i.text i.program none.fault right.text none.has)

pub image_back : (bytes : List ℕ) (i : Image) (r : Answer) → IsImageText bytes i → IsRead bytes r → r ≡ Ok i
image_back bytes i r h read =
    let rest = counts_text (counts_of_image i) in
    let opened : program_in bytes ≡ Ok (i.text, rest) = ap program_in (h.bytes_are ∙ text_is i) ∙ program_back i.text rest h.right.small in
    answer_is i (length bytes - length rest) r h.right (subst (λ (x : Result (List ℕ × List ℕ) TextFault). IsReadFrom (length bytes) x r) opened read)
