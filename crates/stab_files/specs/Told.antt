-- What a put does to the bytes of a sink, where the sink tells them.
use Rattle.std.specs.Prelude.{◌≡◌, ◌++◌, ℕ, List, Option, option_map}
use Rattle.stab_base.specs.Gain.{SomePrefix}

-- told bytes grow by these, and bytes that weren't told stay so
abbrev pub Appends : Option (List ℕ) → Option (List ℕ) → List ℕ → Type 0
Appends old new bytes = new ≡ option_map (λ told. told ++ bytes) old

-- told bytes grow by a prefix of the piece
abbrev pub AppendsPrefix : Option (List ℕ) → Option (List ℕ) → List ℕ → Type 0
AppendsPrefix old new piece = SomePrefix (Appends old new) piece
