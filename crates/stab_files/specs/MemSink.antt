-- A sink in memory.
use Rattle.std.specs.Prelude.{ℕ, ◌+◌, ◌<◌, ◌⊎◌, ◌++◌, List, length, Contains, is_ok, if◌then◌else◌, Result}
use Rattle.stab_files.specs.Count.{counted}

-- the bytes so far, room for how many, which puts fail, and how many puts and faults there were
pub record HeldBytes : Type 0 where
  pub bytes : List ℕ
  pub room : ℕ
  pub fails : List ℕ
  pub puts : ℕ
  pub faults : ℕ

-- the next put is one of those that fail, or the piece is longer than the room left
abbrev pub PutFails : HeldBytes → List ℕ → Type 0
PutFails sink piece = Contains sink.fails (sink.puts + 1) ⊎ (sink.room < length sink.bytes + length piece)

-- one put more, with the piece appended or else one fault more
abbrev pub after_put : {E : Type 0} → HeldBytes → List ℕ → Result Unit E → HeldBytes
after_put sink piece result =
    if is_ok result then record sink { bytes = sink.bytes ++ piece; puts = counted sink.puts }
    else record sink { puts = counted sink.puts; faults = counted sink.faults }
