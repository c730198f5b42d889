-- What a call says of loading a file, by the file's role.
use Rattle.std.specs.Prelude.{◌≡◌, ℕ, ◌<◌, ◌≤◌, List, length, Option, Some, None, IfSome, IsSomeAnd, ◌⊎◌}
use Rattle.stab_files.specs.Count.{Rose}
use Rattle.stab_files.specs.Entry.{Entry, contents_of}
use Rattle.call_status.specs.declared.role.Role.{Role}
use Rattle.call_status.specs.declared.status.Status.{Status}
use Rattle.call_status.specs.declared.status.Status.TheVariants.{NoFile, TooBig, FileFault, NoMemory}
use Rattle.call_status.specs.Role.{max_bytes}
use Rattle.call_report.specs.declared.report.Blame.{Blame}
use Rattle.call_report.specs.declared.report.Blame.TheVariants.{File}
use Rattle.sink_lines.specs.Device.{Device}

-- if the files say what they hold, the fact is true of what they hold under the name
abbrev pub Finds : Device (List Entry) → List ℕ → (Option (List ℕ) → Type 0) → Type 0
Finds files name P = IfSome files.told (λ held. P (contents_of held name))

-- the bytes are what the files hold under the name, if they say it, and within the limit, and no fault was counted
pub record Loads (role : Role) (files : Device (List Entry)) (name : List ℕ) (faults : ℕ) (bytes : List ℕ) : Type 0 where
  pub held : Finds files name (λ found. found ≡ Some bytes)
  pub within : length bytes ≤ max_bytes role
  pub no_fault : faults ≡ files.faults

-- why the file couldn't be loaded; NoMemory is always allowed, and other statuses don't occur
abbrev pub LoadRefused : Status → Role → Device (List Entry) → List ℕ → ℕ → Type 0
LoadRefused NoFile role files name faults = (faults ≡ files.faults) × Finds files name (λ found. found ≡ None)
LoadRefused TooBig role files name faults =
    (faults ≡ files.faults) × Finds files name (λ found. IsSomeAnd found (λ bytes. max_bytes role < length bytes))
LoadRefused FileFault role files name faults = Rose files.faults faults
LoadRefused NoMemory role files name faults = faults ≡ files.faults
LoadRefused _ role files name faults = ⊥

-- what is blamed for this status: the file
abbrev pub blamed : Status → Role → Option Blame
blamed NoFile role = Some (File role)
blamed TooBig role = Some (File role)
blamed FileFault role = Some (File role)
blamed _ role = None

-- The file couldn't be loaded, and `Refused` is true; or it was loaded, and `Said` is true of its bytes.
abbrev pub FileSays : Role → Status → Device (List Entry) → List ℕ → ℕ → Type 0 → (List ℕ → Type 0) → Type 0
FileSays role status files name faults Refused Said =
    (LoadRefused status role files name faults × Refused) ⊎ ((bytes : List ℕ) × Loads role files name faults bytes × Said bytes)
