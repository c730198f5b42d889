-- Words are read one by one. What they ask for is `asked`, which doesn't depend on this.
use Rattle.std.specs.Prelude.{ℕ, suc, List, [], ◌∷◌, Option, Some, None, Result, Ok, Err, codes, if◌then◌else◌}
use Rattle.std.specs.Str.{bytes_eq}
use Rattle.stab_words.specs.declared.command.Command.{Command}
use Rattle.stab_words.specs.declared.command.Setting.{Setting}
use Rattle.stab_words.specs.declared.given.Given.{Given}
use Rattle.stab_words.specs.declared.reading.Reading.{Reading}
use Rattle.stab_words.specs.declared.reading.Expects.{Expects}
use Rattle.stab_words.specs.declared.reading.Expects.TheVariants.{AnyWord, ValueOf, PlainWord}
use Rattle.stab_words.specs.declared.request.Request.{Request}
use Rattle.stab_words.specs.declared.request.WordFault.{WordFault}
use Rattle.stab_words.specs.declared.request.WordFault.TheVariants.{UnknownOption, NoValue}
use Rattle.stab_words.specs.Asked.{and_then, has_dash, has_dashes, name_of, option_of, plain, request, valued, written_value}
use Rattle.stab_words.specs.Given.{nothing}

-- the reading goes on with these values, and expects this of the next word
abbrev pub goes_on : Expects → Given → Result Reading WordFault
goes_on expects given = Ok (record { given = given; expects = expects })

-- the option that is the word i has the value that follows its `=`, or the next word is to be its value
abbrev pub with_value : Setting → ℕ → Option (List ℕ) → Given → Result Reading WordFault
with_value option i (Some value) given = and_then (valued option i value given) (goes_on AnyWord)
with_value option i None given = goes_on (ValueOf option i) given

-- the word i is an option
abbrev pub option_step : Command → ℕ → List ℕ → Given → Result Reading WordFault
option_step c i word given =
    and_then (option_of c i (name_of word) given) (λ option. with_value option i (written_value word) given)

-- the word i, by what is expected there
abbrev pub step : Command → ℕ → List ℕ → Given → Expects → Result Reading WordFault
step c i word given PlainWord = and_then (plain c i word given) (goes_on PlainWord)
step c i word given (ValueOf option at) =
    if has_dash word then Err (NoValue at) else and_then (valued option at word given) (goes_on AnyWord)
step c i word given AnyWord =
    if bytes_eq word (codes "--") then goes_on PlainWord given
    else (if has_dashes word then option_step c i word given
    else (if has_dash word then Err (UnknownOption i)
    else and_then (plain c i word given) (goes_on AnyWord)))

-- the words from the number i on, from the left
abbrev pub read_from : Command → ℕ → List (List ℕ) → Reading → Result Reading WordFault
read_from c i [] reading = Ok reading
read_from c i (word ∷ words) reading = and_then (step c i word reading.given reading.expects) (λ r. read_from c (suc i) words r)

-- the end of the words: an option still lacks its value, or a place its word, or this is the request
abbrev pub finished : Command → Given → Expects → Result Request WordFault
finished c given (ValueOf option at) = Err (NoValue at)
finished c given AnyWord = request c given
finished c given PlainWord = request c given

-- nothing was read yet
abbrev pub begun : Reading
begun = record { given = nothing; expects = AnyWord }
