-- One line more between the program and the lines of the state.
use Rattle.std.proofs.Common.{◌≡◌, ℕ, ℤ, suc, ◌+◌, ◌-◌, ◌<◌, List, [], ◌∷◌, ◌++◌, length, Option, Result, Ok, Err, refl, sym, ap, ◌∙◌, arith, append_assoc}
use Rattle.text_lines.specs.Lines.{split}
use Rattle.image_text.specs.declared.fault.LineFault.{LineFault}
use Rattle.image_lines.specs.declared.body.TextFault.{TextFault}
use Rattle.image_lines.specs.declared.body.TextFault.TheVariants.{NoEnd}
use Rattle.image_lines.specs.declared.head.Next.{Next}
use Rattle.image_lines.specs.declared.head.Probes.{Probes}
use Rattle.image_lines.specs.Counts.{Script, behind, by_next, by_probe, by_probes, counts_in, followed, next_line, probe_line, probes_line, script_in}
use Rattle.image_lines.specs.Head.{next_in, probe_in, probes_in}
use Rattle.image_lines.proofs.CutLines.{cut_none, cut_some}

pub probes_step : (at : ℕ) (bytes text rest : List ℕ) (r : Result Probes LineFault) → split 10 bytes ≡ text ∷ split 10 rest → r ≡ probes_in (split 32 text) → counts_in at bytes ≡ by_probes r at (at + length text + 1) rest
probes_step at bytes text rest r pieces is =
    ap (probes_line at) (cut_some bytes text rest pieces) ∙ ap (λ (x : Result Probes LineFault). by_probes x at (at + length text + 1) rest) (sym is)

pub probes_none : (at : ℕ) (bytes : List ℕ) → split 10 bytes ≡ bytes ∷ [] → counts_in at bytes ≡ Err NoEnd
probes_none at bytes pieces = ap (probes_line at) (cut_none bytes bytes pieces)

pub next_step : (used : ℕ) (s : Script) (text rest : List ℕ) (r : Result Next LineFault) → split 10 s.rest ≡ text ∷ split 10 rest → r ≡ next_in (split 32 text) → followed used s ≡ by_next r used s.numbers s.at (s.at + length text + 1) rest
next_step used s text rest r pieces is =
    ap (next_line used s.numbers s.at) (cut_some s.rest text rest pieces) ∙ ap (λ (x : Result Next LineFault). by_next x used s.numbers s.at (s.at + length text + 1) rest) (sym is)

pub next_none : (used : ℕ) (s : Script) → split 10 s.rest ≡ s.rest ∷ [] → followed used s ≡ Err NoEnd
next_none used s pieces = ap (next_line used s.numbers s.at) (cut_none s.rest s.rest pieces)

abbrev Scripts : Type 0
Scripts = Result Script TextFault

counted : (left : ℕ) → 0 < left → left ≡ suc (left - 1)
counted left some = omega arith

probe_step : (n at : ℕ) (bytes text rest : List ℕ) (r : Result ℤ LineFault) → split 10 bytes ≡ text ∷ split 10 rest → r ≡ probe_in (split 32 text) → script_in (suc n) at bytes ≡ by_probe r at (script_in n (at + length text + 1) rest)
probe_step n at bytes text rest r pieces is =
    ap (λ (o : Option (List ℕ × List ℕ)). probe_line at o (script_in n)) (cut_some bytes text rest pieces) ∙ ap (λ (x : Result ℤ LineFault). by_probe x at (script_in n (at + length text + 1) rest)) (sym is)

-- what all numbers are read as, where those so far are these and the next line is read so
pub next_probe : (all : Scripts) (so_far : List ℤ) (left at : ℕ) (bytes text rest : List ℕ) (r : Result ℤ LineFault) → 0 < left → all ≡ behind so_far (script_in left at bytes) → split 10 bytes ≡ text ∷ split 10 rest → r ≡ probe_in (split 32 text)
    → all ≡ behind so_far (by_probe r at (script_in (left - 1) (at + length text + 1) rest))
next_probe all so_far left at bytes text rest r some h pieces is =
    h ∙ ap (λ (n : ℕ). behind so_far (script_in n at bytes)) (counted left some) ∙ ap (behind so_far) (probe_step (left - 1) at bytes text rest r pieces is)

pub no_probe : (all : Scripts) (so_far : List ℤ) (left at : ℕ) (bytes : List ℕ) → 0 < left → all ≡ behind so_far (script_in left at bytes) → split 10 bytes ≡ bytes ∷ [] → all ≡ Err NoEnd
no_probe all so_far left at bytes some h pieces =
    h ∙ ap (λ (n : ℕ). behind so_far (script_in n at bytes)) (counted left some) ∙ ap (λ (o : Option (List ℕ × List ℕ)). behind so_far (probe_line at o (script_in (left - 1)))) (cut_none bytes bytes pieces)

pub behind_more : (so_far : List ℤ) (z : ℤ) (r : Scripts) → behind so_far (behind (z ∷ []) r) ≡ behind (so_far ++ z ∷ []) r
behind_more so_far z (Ok s) = ap (λ (zs : List ℤ). let t : Scripts = Ok (record { numbers = zs; at = s.at; rest = s.rest }) in t) (sym (append_assoc so_far (z ∷ []) s.numbers))
behind_more so_far z (Err k) = refl
