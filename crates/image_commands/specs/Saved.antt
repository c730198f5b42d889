-- What comes of saving an image.
use Rattle.std.specs.Prelude.{◌≡◌, ◌≢◌, ◌<◌, ℕ, ℤ, List, take}
use Rattle.stab_code.specs.Program.{ProgramParts}
use Rattle.stab_journal.specs.Journal.{Journal}
use Rattle.trace_verify.specs.declared.verdict.Verdict.TheVariants.{Yes}
use Rattle.trace_verify.specs.Verdict.{IsOfRun, IsVerdict}
use Rattle.image_laws.specs.Image.{Image, StandsAt}
use Rattle.stab_image.specs.Written.{IsImageText}
use Rattle.image_commands.specs.declared.saving.Saved.{Saved}
use Rattle.image_commands.specs.declared.saving.Saved.TheVariants.{NoCut, Refused, Text}
use Rattle.image_commands.specs.Cuts.{IsCutOf, cuts_in}

-- the bytes are the text of an image, and would be read as it, that has this text of the program and stands for the program, the script
-- and the events up to the n-th cut
pub record IsImageOf (text : List ℕ) (p : ProgramParts) (script : List ℤ) (j : Journal) (n : ℕ) (bytes : List ℕ) : Type 0 where
  pub of_run : IsOfRun p script j
  pub seq : ℕ
  pub cut : IsCutOf j.events n seq
  pub image : Image
  pub stands : StandsAt p script (take seq j.events) image
  pub text_is : image.text ≡ text
  pub is_text : IsImageText bytes image

-- the history isn't one of a run, or has fewer cuts, or these are the bytes of the image
abbrev pub IsSaved : List ℕ → ProgramParts → List ℤ → Journal → ℕ → Saved → Type 0
IsSaved text p script j n (Refused verdict) = IsVerdict p script j verdict × (verdict ≢ Yes)
IsSaved text p script j n NoCut = IsOfRun p script j × (cuts_in j.events < n)
IsSaved text p script j n (Text bytes) = IsImageOf text p script j n bytes.items
