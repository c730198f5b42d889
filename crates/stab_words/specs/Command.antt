-- What the commands and options are called, and what each command takes.
use Rattle.std.specs.Prelude.{ℕ, Bool, true, false, List, [], ◌∷◌, Option, codes}
use Rattle.text_lines.specs.Table.{named_in}
use Rattle.stab_words.specs.declared.command.Command.{Command}
use Rattle.stab_words.specs.declared.command.Command.TheVariants.{Run, Trace, Verify, Drill, Check, Mill, Types, Save, Resume, Watch, Serve}
use Rattle.stab_words.specs.declared.command.Setting.{Setting}
use Rattle.stab_words.specs.declared.command.Setting.TheVariants.{Probes, Workers, Fuel, Quantum}
use Rattle.stab_words.specs.declared.command.Place.{Place}
use Rattle.stab_words.specs.declared.command.Place.TheVariants.{File, Second, Number}

-- the commands
abbrev pub commands : List (List ℕ × Command)
commands =
    (codes "run", Run) ∷ (codes "trace", Trace) ∷ (codes "verify", Verify) ∷ (codes "drill", Drill)
    ∷ (codes "check", Check) ∷ (codes "mill", Mill) ∷ (codes "types", Types) ∷ (codes "save", Save)
    ∷ (codes "resume", Resume) ∷ (codes "watch", Watch) ∷ (codes "serve", Serve) ∷ []

abbrev pub command_named : List ℕ → Option Command
command_named word = named_in commands word

-- the options
abbrev pub options : List (List ℕ × Setting)
options =
    (codes "--probes", Probes) ∷ (codes "--workers", Workers) ∷ (codes "--fuel", Fuel) ∷ (codes "--quantum", Quantum) ∷ []

abbrev pub option_named : List ℕ → Option Setting
option_named word = named_in options word

-- the places of each command
abbrev pub places : Command → List Place
places Run = File ∷ []
places Trace = File ∷ []
places Verify = File ∷ Second ∷ []
places Drill = File ∷ Second ∷ []
places Check = File ∷ []
places Mill = Number ∷ []
places Types = File ∷ []
places Save = File ∷ Second ∷ Number ∷ []
places Resume = File ∷ []
places Watch = File ∷ []
places Serve = File ∷ []

-- the options of each command
abbrev pub takes : Command → Setting → Bool
takes Run option = true
takes Trace option = true
takes Verify Probes = true
takes Verify _ = false
takes Drill Workers = false
takes Drill _ = true
takes Check option = false
takes Mill Probes = false
takes Mill _ = true
takes Types option = false
takes Save Probes = true
takes Save _ = false
takes Resume Fuel = true
takes Resume Quantum = true
takes Resume _ = false
takes Watch option = true
takes Serve Probes = false
takes Serve _ = true

-- the largest value of each number; the smallest is 1
abbrev pub most_workers : ℕ
most_workers = 64

abbrev pub most_fuel : ℕ
most_fuel = 16000000

abbrev pub most_quantum : ℕ
most_quantum = 10000

abbrev pub most_size : ℕ
most_size = 10000

-- the defaults of the options
abbrev pub default_workers : ℕ
default_workers = 4

abbrev pub default_fuel : ℕ
default_fuel = 1000000

abbrev pub default_quantum : ℕ
default_quantum = 1000
