-- What an answer of `open` says.
use Rattle.std.specs.Prelude.{◌≡◌, ◌<◌, ◌≤◌, ℕ, Bool, true, false, List, [], length, ⊤}
use Rattle.stab_files.specs.Count.{Rose}
use Rattle.log_file.specs.declared.device.Opened.{Opened}
use Rattle.log_file.specs.declared.device.Opened.TheVariants.{New, Held, Busy, TooBig, Failed, NoMemory}

-- what is given is what is seen; that another has it open, a fault and want of memory say nothing of it
abbrev pub Answers : List ℕ → ℕ → Opened → Type 0
Answers seen limit New = seen ≡ []
Answers seen limit (Held bytes) = bytes.items ≡ seen
Answers seen limit Busy = ⊤
Answers seen limit TooBig = limit < length seen
Answers seen limit Failed = ⊤
Answers seen limit NoMemory = ⊤

-- an answer has at most `limit` bytes
abbrev pub IsWithin : ℕ → Opened → Type 0
IsWithin limit New = ⊤
IsWithin limit (Held bytes) = length bytes.items ≤ limit
IsWithin limit Busy = ⊤
IsWithin limit TooBig = ⊤
IsWithin limit Failed = ⊤
IsWithin limit NoMemory = ⊤

-- the log was opened
abbrev pub is_opened : Opened → Bool
is_opened New = true
is_opened (Held bytes) = true
is_opened Busy = false
is_opened TooBig = false
is_opened Failed = false
is_opened NoMemory = false

-- a fault is counted where the answer is Failed, and nowhere else
abbrev pub CountsFault : ℕ → ℕ → Opened → Type 0
CountsFault old new New = new ≡ old
CountsFault old new (Held bytes) = new ≡ old
CountsFault old new Busy = new ≡ old
CountsFault old new TooBig = new ≡ old
CountsFault old new Failed = Rose old new
CountsFault old new NoMemory = new ≡ old
