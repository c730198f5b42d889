-- What a list of words asks for.
use Rattle.std.specs.Prelude.{◌≡◌, ◌≢◌, ℕ, suc, Bool, true, false, not, List, [], ◌∷◌, Option, Some, None, is_none, Result, Ok, Err, option_map, unwrap_or, codes, if◌then◌else◌, nat_lt, length, find, ◌==◌}
use Rattle.std.specs.Str.{bytes_eq}
use Rattle.std.specs.List.{before_first, after_first, position_or_len}
use Rattle.std.specs.Option.{option_and_then}
use Rattle.stab_words.specs.declared.command.Command.{Command}
use Rattle.stab_words.specs.declared.command.Command.TheVariants.{Run, Trace, Verify, Drill, Check, Mill, Types, Save, Resume, Watch, Serve}
use Rattle.stab_words.specs.declared.command.Setting.{Setting}
use Rattle.stab_words.specs.declared.given.Given.{Given}
use Rattle.stab_words.specs.declared.request.Request.{Request}
use Rattle.stab_words.specs.declared.request.Request.TheVariants as asks
use Rattle.stab_words.specs.declared.request.RunArgs.{RunArgs}
use Rattle.stab_words.specs.declared.request.WordFault.{WordFault}
use Rattle.stab_words.specs.declared.request.WordFault.TheVariants.{NoCommand, UnknownCommand, UnknownOption, Repeated, NoValue, BadValue, MissingWord, ExtraWord, NoMemory}
use Rattle.stab_words.specs.Command.{command_named, option_named, places, takes, default_workers, default_fuel, default_quantum}
use Rattle.stab_words.specs.Given.{nothing, is_given, is_filled, set, fill}

-- a fault of the first part is the result; otherwise the second part goes on with the value of the first
abbrev pub and_then : {A B : Type 0} → Result A WordFault → (A → Result B WordFault) → Result B WordFault
and_then (Ok a) next = next a
and_then (Err fault) next = Err fault

-- the value if there is one, the fault otherwise
abbrev pub or_fault : {A : Type 0} → Option A → WordFault → Result A WordFault
or_fault (Some a) fault = Ok a
or_fault None fault = Err fault

-- the word begins with `-`
abbrev pub has_dash : List ℕ → Bool
has_dash [] = false
has_dash (b ∷ bs) = b == 45

-- the word begins with `--`
abbrev pub has_dashes : List ℕ → Bool
has_dashes [] = false
has_dashes (b ∷ []) = false
has_dashes (b ∷ c ∷ bs) = if b == 45 then c == 45 else false

-- the name of an option goes up to the first `=`
abbrev pub name_of : List ℕ → List ℕ
name_of word = before_first (λ b. b == 61) word

-- its value is what follows the `=`, if there is one
abbrev pub written_value : List ℕ → Option (List ℕ)
written_value word =
    if nat_lt (position_or_len (λ b. b == 61) word) (length word) then Some (after_first (λ b. b == 61) word) else None

-- the option that the word i names, which the command has and which wasn't given yet
abbrev pub option_of : Command → ℕ → List ℕ → Given → Result Setting WordFault
option_of c i name given = and_then (or_fault (option_named name) (UnknownOption i)) (λ option.
    if not (takes c option) then Err (UnknownOption i) else (if is_given option given then Err (Repeated i) else Ok option))

-- the word i is a plain word: it fills the first place that is empty
abbrev pub plain : Command → ℕ → List ℕ → Given → Result Given WordFault
plain c i word given = and_then (or_fault (find (λ p. not (is_filled p given)) (places c)) (ExtraWord i)) (λ place.
    or_fault (fill place word given) (BadValue i))

-- what follows an option that has no `=`: its value, unless it begins with `-`
abbrev pub next_value : List (List ℕ) → Option (List ℕ)
next_value [] = None
next_value (word ∷ words) = if has_dash word then None else Some word

-- the value of an option: what follows its `=`, or the next word if there is no `=`
abbrev pub option_value : List ℕ → List (List ℕ) → Option (List ℕ)
option_value word words = if is_none (written_value word) then next_value words else written_value word

-- the option that is the word i has this value
abbrev pub valued : Setting → ℕ → List ℕ → Given → Result Given WordFault
valued option i value given = or_fault (set option value given) (BadValue i)

-- the word i is an option, and these words follow it
abbrev pub optional : Command → ℕ → List ℕ → List (List ℕ) → Given → Result Given WordFault
optional c i word words given = and_then (option_of c i (name_of word) given) (λ option.
    and_then (or_fault (option_value word words) (NoValue i)) (λ value. valued option i value given))

-- after a word `--` each word is a plain word
abbrev pub read_plain : Command → ℕ → List (List ℕ) → Given → Result Given WordFault
read_plain c i [] given = Ok given
read_plain c i (word ∷ words) given = and_then (plain c i word given) (read_plain c (suc i) words)

-- the words from the number i on, from the left; the first of them may be the value of the option before it
abbrev pub read : Command → ℕ → Bool → List (List ℕ) → Given → Result Given WordFault
read c i is_value [] given = Ok given
read c i true (word ∷ words) given = read c (suc i) false words given
read c i false (word ∷ words) given =
    if bytes_eq word (codes "--") then read_plain c (suc i) words given
    else (if has_dashes word then and_then (optional c i word words given) (read c (suc i) (is_none (written_value word)) words)
    else (if has_dash word then Err (UnknownOption i)
    else and_then (plain c i word given) (read c (suc i) false words)))

-- the numbers that were given, or their defaults
abbrev pub workers_of : Given → ℕ
workers_of g = unwrap_or g.workers default_workers

abbrev pub fuel_of : Given → ℕ
fuel_of g = unwrap_or g.fuel default_fuel

abbrev pub quantum_of : Given → ℕ
quantum_of g = unwrap_or g.quantum default_quantum

abbrev pub run_args : List ℕ → Given → RunArgs
run_args file g = record { file = file; probes = g.probes; workers = workers_of g; fuel = fuel_of g; quantum = quantum_of g }

-- the request of a command, if each of its places is filled
abbrev pub request_of : Command → Given → Option Request
request_of Run g = option_map (λ file. asks.Run (run_args file g)) g.file
request_of Trace g = option_map (λ file. asks.Trace (run_args file g)) g.file
request_of Watch g = option_map (λ file. asks.Watch (run_args file g)) g.file
request_of Check g = option_map asks.Check g.file
request_of Types g = option_map asks.Types g.file
request_of Verify g = option_and_then (λ file. option_map (λ trace.
    asks.Verify (record { file = file; trace = trace; probes = g.probes })) g.second) g.file
request_of Drill g = option_and_then (λ file. option_map (λ script.
    asks.Drill (record { file = file; script = script; probes = g.probes; fuel = fuel_of g; quantum = quantum_of g })) g.second) g.file
request_of Save g = option_and_then (λ file. option_and_then (λ trace. option_map (λ at.
    asks.Save (record { file = file; trace = trace; at = at; probes = g.probes })) g.number) g.second) g.file
request_of Mill g = option_map (λ size.
    asks.Mill (record { size = size; workers = workers_of g; fuel = fuel_of g; quantum = quantum_of g })) g.number
request_of Resume g = option_map (λ image.
    asks.Resume (record { image = image; fuel = fuel_of g; quantum = quantum_of g })) g.file
request_of Serve g = option_map (λ file.
    asks.Serve (record { file = file; workers = workers_of g; fuel = fuel_of g; quantum = quantum_of g })) g.file

-- the request if each place is filled, MissingWord otherwise
abbrev pub request : Command → Given → Result Request WordFault
request c given = or_fault (request_of c given) MissingWord

-- The request or the fault: the command is the first word, and the others are read from the left.
abbrev pub asked : List (List ℕ) → Result Request WordFault
asked [] = Err NoCommand
asked (word ∷ words) =
    and_then (or_fault (command_named word) UnknownCommand) (λ c. and_then (read c 1 false words nothing) (request c))

-- the result is what is meant, unless memory ran out
abbrev pub Gives : {A B : Type 0} → (A → B) → Result A WordFault → Result B WordFault → Type 0
Gives seen (Ok a) meant = meant ≡ Ok (seen a)
Gives seen (Err fault) meant = fault ≢ NoMemory → meant ≡ Err fault
