-- The first file of a name among pairs is the first among files.
use Rattle.std.proofs.Common.{◌≡◌, ℕ, List, [], ◌∷◌, true, false, cond, Vec, String, find, option_map, bytes_eq, string_bytes, refl, Some}
use Rattle.std.specs.declared.alloc.Global.{Global}
use Rattle.stab_files.specs.Entry.{contents_of, entries}

pub contents_of_entries : (pairs : List (String Global × Vec ℕ Global)) (name : List ℕ)
    → contents_of (entries pairs) name ≡ option_map (λ pair. pair.1.items) (find (λ pair. bytes_eq (string_bytes pair.0) name) pairs)
contents_of_entries [] name = refl
contents_of_entries (pair ∷ pairs) name =
    elim (bytes_eq (string_bytes pair.0) name) as
    (λ b. option_map (λ file. file.contents) (cond b (Some (record { name = string_bytes pair.0; contents = pair.1.items })) (find (λ file. bytes_eq file.name name) (entries pairs)))
    ≡ option_map (λ p. p.1.items) (cond b (Some pair) (find (λ p. bytes_eq (string_bytes p.0) name) pairs)))
    [ true ↦ refl | false ↦ contents_of_entries pairs name ]
