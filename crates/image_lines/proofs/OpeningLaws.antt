-- The program at the front of an image is read from its text and from no other bytes.
use Rattle.std.proofs.Common.{◌≡◌, ℕ, ◌+◌, ◌≤◌, true, false, cond, eqb, List, [], ◌∷◌, ◌++◌, length, take, drop, Some, None, Result, Ok, Err, refl, sym, ap, subst, ◌∙◌, arith, append_assoc}
use Rattle.std.specs.Prelude.{codes, nat_lt}
use Rattle.std.specs.Str.{bytes_eq}
use Rattle.std.proofs.Math.Seq.{drop-append_seam, take-append_seam}
use Rattle.std.proofs.lemmas.Bool.{eqb-true, le-ltb, ltb-false}
use Rattle.std.proofs.lemmas.List.{length-append, length-take-le, take-append-drop}
use Rattle.text_lines.specs.Lines.{split}
use Rattle.image_text.specs.ImageText.{line}
use Rattle.image_text.specs.declared.fault.LineFault.{LineFault}
use Rattle.image_text.specs.declared.fault.LineFault.TheVariants.{BadLine}
use Rattle.image_lines.specs.declared.body.TextFault.{TextFault}
use Rattle.image_lines.specs.declared.body.TextFault.TheVariants.{At, NoEnd}
use Rattle.image_lines.specs.Head.{length_in}
use Rattle.image_lines.specs.HeadText.{IsLength, length_text}
use Rattle.image_lines.specs.Opening.{by_length, cut_line, ended, header_line, length_line, program_in, sized}
use Rattle.image_lines.specs.OpeningText.{opening}
use Rattle.image_lines.proofs.CutLines.{cut_back, cut_was}
use Rattle.image_lines.proofs.HeadRead.{length_exact}
use Rattle.image_lines.proofs.HeadWritten.{length_back, length_whole}
use Rattle.image_lines.proofs.Rows.{named_so}

abbrev Given : Type 0
Given = Result (List ℕ × List ℕ) TextFault

abbrev given : List ℕ → List ℕ → Given
given text rest = Ok (text, rest)

abbrev header : List ℕ
header = codes "stab image 1"

line_front : (a rest : List ℕ) → line a ++ rest ≡ a ++ (10 ∷ rest)
line_front a rest = append_assoc a (10 ∷ []) rest

front : (text rest : List ℕ) → opening text rest ≡ header ++ (10 ∷ (length_text (length text) ++ (10 ∷ (text ++ (10 ∷ rest)))))
front text rest =
    let size = length_text (length text) in
    append_assoc (line header) (line size ++ line text) rest
    ∙ line_front header ((line size ++ line text) ++ rest)
    ∙ ap (λ (bs : List ℕ). header ++ (10 ∷ bs))
    (append_assoc (line size) (line text) rest ∙ line_front size (line text ++ rest) ∙ ap (λ (bs : List ℕ). size ++ (10 ∷ bs)) (line_front text rest))

sized_back : (text rest : List ℕ) (at : ℕ) → sized (length text) at (text ++ (10 ∷ rest)) ≡ given text rest
sized_back text rest at =
    let n = length text in
    let long : length text ≤ length (text ++ (10 ∷ rest)) = omega (arith, length-append text (10 ∷ rest)) in
    ap (λ b. cond b (Err NoEnd) (ended (take (length text) (text ++ (10 ∷ rest))) (at + length text) (drop (length text) (text ++ (10 ∷ rest))))) (le-ltb (length (text ++ (10 ∷ rest))) (length text) long)
    ∙ ap (λ (t : List ℕ). ended t (at + length text) (drop (length text) (text ++ (10 ∷ rest)))) (take-append_seam text (10 ∷ rest))
    ∙ ap (ended text (at + length text)) (drop-append_seam text (10 ∷ rest))

pub program_back : (text rest : List ℕ) → IsLength (length text) → program_in (opening text rest) ≡ given text rest
program_back text rest small =
    let n = length text in
    let tail = text ++ (10 ∷ rest) in
    ap program_in (front text rest)
    ∙ ap header_line (cut_back header (length_text (length text) ++ (10 ∷ (text ++ (10 ∷ rest)))) refl)
    ∙ ap (length_line (length header + 1)) (cut_back (length_text (length text)) (text ++ (10 ∷ rest)) (length_whole (length text) small))
    ∙ ap (λ (r : Result ℕ LineFault). by_length r (length header + 1) ((length header + 1) + length (length_text (length text)) + 1) (text ++ (10 ∷ rest))) (length_back (length text) small)
    ∙ sized_back text rest ((length header + 1) + length (length_text (length text)) + 1)

no_program : {P : Type 0} (k : TextFault) (text rest : List ℕ) → ◌≡◌ {A = Given} (Err k) (given text rest) → P
no_program k text rest h = absurd (let no : ◌≡◌ {A = Given} (Err k) (given text rest) = h in cc)

given_was : (a b text rest : List ℕ) → given a b ≡ given text rest → (a ≡ text) × (b ≡ rest)
given_was a b text rest h =
    let both : ◌≡◌ {A = List ℕ × List ℕ} (a, b) (text, rest) = cc in
    (ap (λ (p : List ℕ × List ℕ). p.0) both, ap (λ (p : List ℕ × List ℕ). p.1) both)

ended_was : (program : List ℕ) (at : ℕ) (behind text rest : List ℕ) → ended program at behind ≡ given text rest → (program ≡ text) × (behind ≡ 10 ∷ rest)
ended_was program at [] text rest h = no_program NoEnd text rest h
ended_was program at (b ∷ behind) text rest given_so =
    elim (eqb b 10) as (λ t. eqb b 10 ≡ t → cond t (given program behind) (Err (At BadLine at)) ≡ given text rest → (program ≡ text) × (b ∷ behind ≡ 10 ∷ rest)) [
      | false ↦ λ is h. no_program (At BadLine at) text rest h
      | true ↦ λ is h.
          let was = given_was program behind text rest h in
          (was.0, ap (λ (n : ℕ). n ∷ behind) (eqb-true b 10 is) ∙ ap (λ (bs : List ℕ). 10 ∷ bs) was.1)
    ] refl given_so

sized_was : (count at : ℕ) (bytes text rest : List ℕ) → sized count at bytes ≡ given text rest → (bytes ≡ text ++ (10 ∷ rest)) × (length text ≡ count)
sized_was count at bytes text rest given_so =
    elim (nat_lt (length bytes) count) as (λ t. nat_lt (length bytes) count ≡ t → cond t (Err NoEnd) (ended (take count bytes) (at + count) (drop count bytes)) ≡ given text rest → (bytes ≡ text ++ (10 ∷ rest)) × (length text ≡ count)) [
      | true ↦ λ is h. no_program NoEnd text rest h
      | false ↦ λ is h.
          let was = ended_was (take count bytes) (at + count) (drop count bytes) text rest h in (
            sym (take-append-drop count bytes) ∙ ap (λ (bs : List ℕ). bs ++ drop count bytes) was.0 ∙ ap (λ (bs : List ℕ). text ++ bs) was.1,
            ap (λ (bs : List ℕ). length bs) (sym was.0) ∙ length-take-le count bytes (ltb-false (length bytes) count is),
          )
    ] refl given_so

-- what a line of the program's length and what follows it are
length_was : (at : ℕ) (bytes text rest : List ℕ) → length_line at (cut_line bytes) ≡ given text rest → (bytes ≡ length_text (length text) ++ (10 ∷ (text ++ (10 ∷ rest)))) × IsLength (length text)
length_was at bytes text rest given_so =
    elim (cut_line bytes) as (λ o. cut_line bytes ≡ o → length_line at o ≡ given text rest → (bytes ≡ length_text (length text) ++ (10 ∷ (text ++ (10 ∷ rest)))) × IsLength (length text)) [
      | None ↦ λ is h. no_program NoEnd text rest h
      | (Some x) ↦ λ is h. elim (length_in (split 32 x.0)) as (λ r. length_in (split 32 x.0) ≡ r → by_length r at (at + length x.0 + 1) x.1 ≡ given text rest → (bytes ≡ length_text (length text) ++ (10 ∷ (text ++ (10 ∷ rest)))) × IsLength (length text)) [
        | (Err k) ↦ λ read no. no_program (At k at) text rest no
        | (Ok count) ↦ λ read k.
            let named = length_exact x.0 count read in
            let was = sized_was count (at + length x.0 + 1) x.1 text rest k in (
              cut_was bytes x.0 x.1 is ∙ ap (λ (bs : List ℕ). bs ++ (10 ∷ x.1)) (named.0 ∙ ap length_text (sym was.1)) ∙ ap (λ (bs : List ℕ). length_text (length text) ++ (10 ∷ bs)) was.0,
              subst IsLength (sym was.1) named.1,
            )
      ] refl h
    ] refl given_so

pub program_was : (bytes text rest : List ℕ) → program_in bytes ≡ given text rest → (bytes ≡ opening text rest) × IsLength (length text)
program_was bytes text rest given_so =
    elim (cut_line bytes) as (λ o. cut_line bytes ≡ o → header_line o ≡ given text rest → (bytes ≡ opening text rest) × IsLength (length text)) [
      | None ↦ λ is h. no_program NoEnd text rest h
      | (Some x) ↦ λ is h. elim (bytes_eq x.0 header) as (λ t. bytes_eq x.0 header ≡ t → cond t (length_line (length x.0 + 1) (cut_line x.1)) (Err (At BadLine 0)) ≡ given text rest → (bytes ≡ opening text rest) × IsLength (length text)) [
        | false ↦ λ test no. no_program (At BadLine 0) text rest no
        | true ↦ λ test k.
            let was = length_was (length x.0 + 1) x.1 text rest k in (
              cut_was bytes x.0 x.1 is ∙ ap (λ (bs : List ℕ). bs ++ (10 ∷ x.1)) (named_so x.0 header test) ∙ ap (λ (bs : List ℕ). header ++ (10 ∷ bs)) was.0 ∙ sym (front text rest),
              was.1,
            )
      ] refl h
    ] refl given_so
