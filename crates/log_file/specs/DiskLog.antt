-- A log of a system.
use Rattle.std.specs.Prelude.{ℕ, Bool, Option, Some, None}
use Rattle.log_file.specs.Disk.{Disk}

-- its bytes, where its file tells them, whether it is open, and how many faults there were
pub record SystemLog : Type 0 where
  pub told : Option Disk
  pub is_open : Bool
  pub faults : ℕ

-- what a file tells, if one was opened
abbrev pub told_of : {F : Type 0} → (F → Option Disk) → Option F → Option Disk
told_of told None = None
told_of told (Some file) = told file
