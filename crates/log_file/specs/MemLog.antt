-- A log in memory.
use Rattle.std.specs.Prelude.{◌≡◌, ◌+◌, ◌<◌, ◌⊎◌, ℕ, Bool, false, List, length, Contains}
use Rattle.log_file.specs.Disk.{Disk}

-- its bytes, room for how many, which calls fail, whether another has it open, whether it is open here, and how many calls and
-- faults there were
pub record HeldLog : Type 0 where
  pub disk : Disk
  pub room : ℕ
  pub fails : List ℕ
  pub is_busy : Bool
  pub is_open : Bool
  pub calls : ℕ
  pub faults : ℕ

-- the next call is one of those that fail
abbrev pub IsPlanned : HeldLog → Type 0
IsPlanned log = Contains log.fails (log.calls + 1)

-- the next call fails, whatever it is asked
abbrev pub Fails : HeldLog → Type 0
Fails log = IsPlanned log ⊎ (log.is_open ≡ false)

-- the piece is longer than the room left
abbrev pub Overflows : HeldLog → List ℕ → Type 0
Overflows log piece = log.room < length log.disk.seen + length piece
