-- The first two lines of an image.
use Rattle.std.proofs.Common.{◌≡◌, ℕ, ◌+◌, Bool, true, false, cond, List, ◌∷◌, length, Result, Err, sym, ap, ◌∙◌}
use Rattle.std.specs.Prelude.{codes}
use Rattle.std.specs.Str.{bytes_eq}
use Rattle.text_lines.specs.Lines.{split}
use Rattle.image_text.specs.declared.fault.LineFault.{LineFault}
use Rattle.image_text.specs.declared.fault.LineFault.TheVariants.{BadLine}
use Rattle.image_lines.specs.declared.body.TextFault.TheVariants.{At}
use Rattle.image_lines.specs.Head.{length_in}
use Rattle.image_lines.specs.Opening.{by_length, cut_line, header_line, length_line, program_in}
use Rattle.image_lines.proofs.CutLines.{cut_some}

header_cut : (bytes header rest : List ℕ) (b : Bool) → split 10 bytes ≡ header ∷ split 10 rest → bytes_eq header (codes "stab image 1") ≡ b
    → program_in bytes ≡ cond b (length_line (length header + 1) (cut_line rest)) (Err (At BadLine 0))
header_cut bytes header rest b pieces is =
    ap header_line (cut_some bytes header rest pieces) ∙ ap (λ t. cond t (length_line (length header + 1) (cut_line rest)) (Err (At BadLine 0))) is

pub header_step : (bytes header rest : List ℕ) → split 10 bytes ≡ header ∷ split 10 rest → bytes_eq header (codes "stab image 1") ≡ true → program_in bytes ≡ length_line (length header + 1) (cut_line rest)
header_step bytes header rest pieces is = header_cut bytes header rest true pieces is

pub header_fault : (bytes header rest : List ℕ) → split 10 bytes ≡ header ∷ split 10 rest → bytes_eq header (codes "stab image 1") ≡ false → program_in bytes ≡ Err (At BadLine 0)
header_fault bytes header rest pieces is = header_cut bytes header rest false pieces is

pub length_step : (at : ℕ) (bytes text rest : List ℕ) (r : Result ℕ LineFault) → split 10 bytes ≡ text ∷ split 10 rest → r ≡ length_in (split 32 text) → length_line at (cut_line bytes) ≡ by_length r at (at + length text + 1) rest
length_step at bytes text rest r pieces is =
    ap (length_line at) (cut_some bytes text rest pieces) ∙ ap (λ (x : Result ℕ LineFault). by_length x at (at + length text + 1) rest) (sym is)
