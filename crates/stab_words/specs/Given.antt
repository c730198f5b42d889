-- What words have given so far.
use Rattle.std.specs.Prelude.{ℕ, Bool, List, [], ◌∷◌, Option, Some, None, option_map, is_some}
use Rattle.stab_words.specs.declared.command.Setting.{Setting}
use Rattle.stab_words.specs.declared.command.Setting.TheVariants.{Probes, Workers, Fuel, Quantum}
use Rattle.stab_words.specs.declared.command.Place.{Place}
use Rattle.stab_words.specs.declared.command.Place.TheVariants.{File, Second, Number}
use Rattle.stab_words.specs.declared.given.Given.{Given}
use Rattle.stab_words.specs.declared.given.Value.{Value}
use Rattle.stab_words.specs.declared.given.Value.TheVariants as value
use Rattle.stab_words.specs.Command.{most_workers, most_fuel, most_quantum, most_size}
use Rattle.stab_words.specs.Number.{number_in}

-- nothing yet
abbrev pub nothing : Given
nothing = record { file = None; second = None; number = None; probes = None; workers = None; fuel = None; quantum = None }

-- a file name isn't empty
abbrev pub name_in : List ℕ → Option (List ℕ)
name_in [] = None
name_in (b ∷ bs) = Some (b ∷ bs)

-- the option was given
abbrev pub is_given : Setting → Given → Bool
is_given Probes given = is_some given.probes
is_given Workers given = is_some given.workers
is_given Fuel given = is_some given.fuel
is_given Quantum given = is_some given.quantum

-- the place was filled
abbrev pub is_filled : Place → Given → Bool
is_filled File given = is_some given.file
is_filled Second given = is_some given.second
is_filled Number given = is_some given.number

-- with this value of the option, if it is allowed
abbrev pub set : Setting → List ℕ → Given → Option Given
set Probes value given = option_map (λ name. record given { probes = Some name }) (name_in value)
set Workers value given = option_map (λ n. record given { workers = Some n }) (number_in most_workers value)
set Fuel value given = option_map (λ n. record given { fuel = Some n }) (number_in most_fuel value)
set Quantum value given = option_map (λ n. record given { quantum = Some n }) (number_in most_quantum value)

-- with this word in the place, if it is allowed
abbrev pub fill : Place → List ℕ → Given → Option Given
fill File word given = option_map (λ name. record given { file = Some name }) (name_in word)
fill Second word given = option_map (λ name. record given { second = Some name }) (name_in word)
fill Number word given = option_map (λ n. record given { number = Some n }) (number_in most_size word)

-- with this value
abbrev pub with : Value → Given → Given
with (value.File name) given = record given { file = Some name }
with (value.Second name) given = record given { second = Some name }
with (value.Number n) given = record given { number = Some n }
with (value.Probes name) given = record given { probes = Some name }
with (value.Workers n) given = record given { workers = Some n }
with (value.Fuel n) given = record given { fuel = Some n }
with (value.Quantum n) given = record given { quantum = Some n }
