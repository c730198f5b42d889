-- Counts of faults over several calls.
use Rattle.std.proofs.Common.{◌≤◌, ℕ, arith}
use Rattle.stab_files.specs.declared.devices.Loaded.{Loaded}
use Rattle.stab_files.specs.declared.devices.Loaded.TheVariants.{Bytes, Missing, TooBig, Failed, NoMemory}
use Rattle.stab_files.specs.Count.{Rose}
use Rattle.stab_files.specs.Loaded.{CountsFault}

-- a count that rose has risen also by a later time
pub rose_then : (a b c : ℕ) → Rose a b → b ≤ c → Rose a c
rose_then a b c p q = record { kept = omega (arith, p.kept); more = grind (arith, p.more) }

-- and from an earlier time on
pub then_rose : (a b c : ℕ) → a ≤ b → Rose b c → Rose a c
then_rose a b c q p = record { kept = omega (arith, p.kept); more = grind (arith, p.more) }

-- no answer of a load lets the count fall
pub counts_fault_grows : (old new : ℕ) (answer : Loaded) → CountsFault old new answer → old ≤ new
counts_fault_grows old new (Bytes bytes) p = omega arith
counts_fault_grows old new Missing p = omega arith
counts_fault_grows old new TooBig p = omega arith
counts_fault_grows old new Failed p = p.kept
counts_fault_grows old new NoMemory p = omega arith
