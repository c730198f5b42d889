-- The variables that a function's parameters are.
use Rattle.std.specs.Prelude.{ℕ, ◌+◌, List, [], ◌∷◌}
use Rattle.scope_check.specs.declared.seen.Variable.{Variable}
use Rattle.stab_parse.specs.declared.tree.Param.{Param}

-- the parameters from a slot on, before others that are seen
abbrev pub params_seen : ℕ → List Param → List Variable → List Variable
params_seen slot [] seen = seen
params_seen slot (x ∷ xs) seen = params_seen (slot + 1) xs (record { name = x.name; slot = slot } ∷ seen)
