-- What an answer of `load` says.
use Rattle.std.specs.Prelude.{◌≡◌, ◌<◌, ◌≤◌, ◌↔◌, ℕ, List, length, Option, Some, None, IsSomeAnd, ⊤}
use Rattle.stab_files.specs.declared.devices.Loaded.{Loaded}
use Rattle.stab_files.specs.declared.devices.Loaded.TheVariants.{Bytes, Missing, TooBig, Failed, NoMemory}
use Rattle.stab_files.specs.Count.{Rose, counted}
use Rattle.stab_files.specs.Entry.{Entry, contents_of}

-- why each answer comes, by what is found under the name and the limit; a fault and want of memory say nothing of it
abbrev pub Answers : Option (List ℕ) → ℕ → Loaded → Type 0
Answers found limit (Bytes bytes) = found ≡ Some bytes.items
Answers found limit Missing = found ≡ None
Answers found limit TooBig = IsSomeAnd found (λ bytes. limit < length bytes)
Answers found limit Failed = ⊤
Answers found limit NoMemory = ⊤

-- an answer has at most `limit` bytes
abbrev pub IsWithin : ℕ → Loaded → Type 0
IsWithin limit (Bytes bytes) = length bytes.items ≤ limit
IsWithin limit Missing = ⊤
IsWithin limit TooBig = ⊤
IsWithin limit Failed = ⊤
IsWithin limit NoMemory = ⊤

-- neither a fault nor want of memory
abbrev pub IsSettled : Loaded → Type 0
IsSettled (Bytes bytes) = ⊤
IsSettled Missing = ⊤
IsSettled TooBig = ⊤
IsSettled Failed = ⊥
IsSettled NoMemory = ⊥

-- a fault is counted where the answer is Failed, and nowhere else
abbrev pub CountsFault : ℕ → ℕ → Loaded → Type 0
CountsFault old new (Bytes bytes) = new ≡ old
CountsFault old new Missing = new ≡ old
CountsFault old new TooBig = new ≡ old
CountsFault old new Failed = Rose old new
CountsFault old new NoMemory = new ≡ old

-- one fault more where the answer is Failed
abbrev pub faults_after : ℕ → Loaded → ℕ
faults_after faults (Bytes bytes) = faults
faults_after faults Missing = faults
faults_after faults TooBig = faults
faults_after faults Failed = counted faults
faults_after faults NoMemory = faults

-- what a load of a name says where the contents are `files`
pub record LoadAnswers (files : List Entry) (name : List ℕ) (limit : ℕ) (answer : Loaded) : Type 0 where
  pub cause : Answers (contents_of files name) limit answer
  pub missing : IsSettled answer → ((answer ≡ Missing) ↔ (contents_of files name ≡ None))
  pub too_big : IsSettled answer → ((answer ≡ TooBig) ↔ IsSomeAnd (contents_of files name) (λ bytes. limit < length bytes))
