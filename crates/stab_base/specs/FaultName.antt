-- How faults are called in what a run prints.
use Rattle.std.specs.Prelude.{ℕ, List, codes}
use Rattle.stab_base.specs.declared.fault.Fault.{Fault}
use Rattle.stab_base.specs.declared.fault.Fault.TheVariants.{WrongKind, Overflow, ZeroDivisor, TooDeep, DeepValue, NoSection}

-- the name of a fault
abbrev pub fault_name : Fault → List ℕ
fault_name WrongKind = codes "WrongKind"
fault_name Overflow = codes "Overflow"
fault_name ZeroDivisor = codes "ZeroDivisor"
fault_name TooDeep = codes "TooDeep"
fault_name DeepValue = codes "DeepValue"
fault_name NoSection = codes "NoSection"
