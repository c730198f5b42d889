-- What a holder of files holds.
use Rattle.std.specs.Prelude.{ℕ, List, Option, Vec, String, map, find, option_map, bytes_eq, string_bytes}
use Rattle.std.specs.declared.alloc.Global.{Global}

-- a file: the bytes of its name, and its bytes
pub record Entry : Type 0 where
  pub name : List ℕ
  pub contents : List ℕ

-- what is held under a name: the contents of the first file of that name
abbrev pub contents_of : List Entry → List ℕ → Option (List ℕ)
contents_of files name = option_map (λ file. file.contents) (find (λ file. bytes_eq file.name name) files)

-- pairs of a name and contents, as files
abbrev pub entries : List (String Global × Vec ℕ Global) → List Entry
entries pairs = map (λ pair. record { name = string_bytes pair.0; contents = pair.1.items }) pairs
