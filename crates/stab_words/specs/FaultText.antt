-- The names of faults of words, and the words that they are about.
use Rattle.std.specs.Prelude.{ℕ, List, Option, Some, None, codes}
use Rattle.stab_words.specs.declared.request.WordFault.{WordFault}
use Rattle.stab_words.specs.declared.request.WordFault.TheVariants.{NoCommand, UnknownCommand, UnknownOption, Repeated, NoValue, BadValue, MissingWord, ExtraWord, NoMemory}

-- the name of a fault
abbrev pub fault_name : WordFault → List ℕ
fault_name NoCommand = codes "NoCommand"
fault_name UnknownCommand = codes "UnknownCommand"
fault_name (UnknownOption i) = codes "UnknownOption"
fault_name (Repeated i) = codes "Repeated"
fault_name (NoValue i) = codes "NoValue"
fault_name (BadValue i) = codes "BadValue"
fault_name MissingWord = codes "MissingWord"
fault_name (ExtraWord i) = codes "ExtraWord"
fault_name NoMemory = codes "NoMemory"

-- the number of the word that it is about
abbrev pub fault_word : WordFault → Option ℕ
fault_word (UnknownOption i) = Some i
fault_word (Repeated i) = Some i
fault_word (NoValue i) = Some i
fault_word (BadValue i) = Some i
fault_word (ExtraWord i) = Some i
fault_word _ = None
