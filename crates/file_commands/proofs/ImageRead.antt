-- Bytes that are the text of no image.
use Rattle.std.proofs.Common.{◌≡◌, ◌⊎◌, inl, inr, List, ℕ, Err}
use Rattle.image_laws.specs.Image.{Image}
use Rattle.image_text.specs.declared.image_fault.ImageFault.{ImageFault}
use Rattle.image_text.specs.declared.image_fault.ImageFault.TheVariants as faults
use Rattle.stab_image.specs.Read.{IsRead}
use Rattle.stab_image.specs.Written.{IsImageText}
use Rattle.file_commands.specs.Resuming.{IsNoImage}

module _ (bytes : List ℕ) (fault : ImageFault) (other : fault ≡ faults.NoMemory → ⊥) where
  first_of : (fault ≡ faults.NoMemory) ⊎ IsRead bytes (Err fault) → IsRead bytes (Err fault)
  first_of (inl none) = absurd (other none)
  first_of (inr first) = first

  -- what was refused for another fault than want of memory is no image
  pub no_image : ((image : Image) → IsImageText bytes image → fault ≡ faults.NoMemory) → (fault ≡ faults.NoMemory) ⊎ IsRead bytes (Err fault) → IsNoImage bytes fault
  no_image whole first = record { none = λ image is. other (whole image is); first = first_of first }
