-- How large programs and jobs may be.
use Rattle.std.specs.Prelude.{ℕ}

-- how deep forms may stand in each other
abbrev pub max_form_depth : ℕ
max_form_depth = 200

-- the most fuel of a job
abbrev pub max_fuel : ℕ
max_fuel = 16_000_000

-- the largest quantum of a job
abbrev pub max_quantum : ℕ
max_quantum = 10_000

-- how many numbers a job's script may have
abbrev pub max_script : ℕ
max_script = 524_288
