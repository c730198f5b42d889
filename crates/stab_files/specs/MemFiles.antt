-- Files in memory.
use Rattle.std.specs.Prelude.{ℕ, List}
use Rattle.stab_files.specs.declared.devices.Loaded.{Loaded}
use Rattle.stab_files.specs.Count.{counted}
use Rattle.stab_files.specs.Entry.{Entry}
use Rattle.stab_files.specs.Loaded.{faults_after}

-- what is held, which loads fail, and how many loads and faults there were
pub record HeldFiles : Type 0 where
  pub held : List Entry
  pub fails : List ℕ
  pub loads : ℕ
  pub faults : ℕ

-- one load more, and one fault more where it failed
abbrev pub after_load : HeldFiles → Loaded → HeldFiles
after_load files answer = record files { loads = counted files.loads; faults = faults_after files.faults answer }
