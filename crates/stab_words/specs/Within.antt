-- The bounds of the numbers in a request.
use Rattle.std.specs.Prelude.{ℕ, ◌≤◌, IfSome}
use Rattle.stab_words.specs.declared.given.Given.{Given}
use Rattle.stab_words.specs.declared.given.Value.{Value}
use Rattle.stab_words.specs.declared.given.Value.TheVariants as value
use Rattle.stab_words.specs.declared.request.Request.{Request}
use Rattle.stab_words.specs.declared.request.Request.TheVariants.{Run, Trace, Verify, Drill, Check, Mill, Types, Save, Resume, Watch, Serve}
use Rattle.stab_words.specs.Command.{most_workers, most_fuel, most_quantum, most_size}

-- a number from 1 to `most`
abbrev pub IsUpTo : ℕ → ℕ → Type 0
IsUpTo most n = (1 ≤ n) × (n ≤ most)

-- what was given so far is within the bounds
pub record IsGiven (given : Given) : Type 0 where
  pub number : IfSome given.number (IsUpTo most_size)
  pub workers : IfSome given.workers (IsUpTo most_workers)
  pub fuel : IfSome given.fuel (IsUpTo most_fuel)
  pub quantum : IfSome given.quantum (IsUpTo most_quantum)

-- a number that a value is, is within its bounds
abbrev pub IsValue : Value → Type 0
IsValue (value.Number n) = IsUpTo most_size n
IsValue (value.Workers n) = IsUpTo most_workers n
IsValue (value.Fuel n) = IsUpTo most_fuel n
IsValue (value.Quantum n) = IsUpTo most_quantum n
IsValue _ = Unit {0}

-- the workers, the fuel and the quantum of a run are within the bounds
pub record IsRunWithin (workers fuel quantum : ℕ) : Type 0 where
  pub workers_within : IsUpTo most_workers workers
  pub fuel_within : IsUpTo most_fuel fuel
  pub quantum_within : IsUpTo most_quantum quantum

-- each number of the request is within its bounds
abbrev pub IsWithin : Request → Type 0
IsWithin (Run args) = IsRunWithin args.workers args.fuel args.quantum
IsWithin (Trace args) = IsRunWithin args.workers args.fuel args.quantum
IsWithin (Watch args) = IsRunWithin args.workers args.fuel args.quantum
IsWithin (Serve args) = IsRunWithin args.workers args.fuel args.quantum
IsWithin (Mill args) = IsUpTo most_size args.size × IsRunWithin args.workers args.fuel args.quantum
IsWithin (Drill args) = IsUpTo most_fuel args.fuel × IsUpTo most_quantum args.quantum
IsWithin (Resume args) = IsUpTo most_fuel args.fuel × IsUpTo most_quantum args.quantum
IsWithin (Save args) = IsUpTo most_size args.at
IsWithin (Verify args) = Unit {0}
IsWithin (Check file) = Unit {0}
IsWithin (Types file) = Unit {0}
