-- What a run is given.
use Rattle.std.specs.Prelude.{ℕ, ◌≤◌, ℤ, List, ◌++◌, length}
use Rattle.stab_code.specs.Limits.{max_fuel, max_quantum, max_script}
use Rattle.stab_code.specs.Program.{ProgramParts}

-- a job: a program, the numbers that its probes get, its fuel, and the most steps that a thread makes at a time
pub record JobParts : Type 0 where
  pub program : ProgramParts
  pub script : List ℤ
  pub fuel : ℕ
  pub quantum : ℕ

abbrev pub job_of : ProgramParts → List ℤ → ℕ → ℕ → JobParts
job_of program script fuel quantum = record { program = program; script = script; fuel = fuel; quantum = quantum }

-- the job with these numbers behind its script
abbrev pub longer : JobParts → List ℤ → JobParts
longer job numbers = record job { script = job.script ++ numbers }

-- a job that keeps its limits
pub record IsWithinLimits (job : JobParts) : Type 0 where
  pub some_fuel : 1 ≤ job.fuel
  pub fuel_within : job.fuel ≤ max_fuel
  pub some_quantum : 1 ≤ job.quantum
  pub quantum_within : job.quantum ≤ max_quantum
  pub script_within : length job.script ≤ max_script
