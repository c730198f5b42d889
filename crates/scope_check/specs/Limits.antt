-- How many there may be of what a program names.
use Rattle.std.specs.Prelude.{ℕ}

-- the functions of a program
abbrev pub max_functions : ℕ
max_functions = 1000

-- the parameters of a function
abbrev pub max_params : ℕ
max_params = 8

-- the lets of a function
abbrev pub max_lets : ℕ
max_lets = 200

-- the distinct texts of a program
abbrev pub max_texts : ℕ
max_texts = 1000
