-- Files of a system.
use Rattle.std.specs.Prelude.{ℕ, List, Option}
use Rattle.stab_files.specs.Entry.{Entry}

-- what the system holds, where it says so, and how many faults there were
pub record SystemFiles : Type 0 where
  pub held : Option (List Entry)
  pub faults : ℕ
