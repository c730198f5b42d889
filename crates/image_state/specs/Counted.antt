-- Whether the functions and texts that an expression names are those of a program.
use Rattle.std.specs.Prelude.{ℕ, ◌&&◌, Bool, true, length, nat_lt}
use Rattle.stab_code.specs.Program.{ProgramParts}
use Rattle.language.specs.declared.head.Head.{Head}
use Rattle.language.specs.declared.head.Head.TheVariants.{Call, Spawn, Stable}
use Rattle.language.specs.Expression.{Expr, value, variable, failed, form, Parts, none, part}
use Rattle.image_state.specs.Values.{has_texts}

module _ (p : ProgramParts) where
  abbrev pub has_function : Head → Bool
  has_function (Call f) = nat_lt f.0 (length p.functions)
  has_function (Spawn f) = nat_lt f.0 (length p.functions)
  has_function (Stable f) = nat_lt f.0 (length p.functions)
  has_function h = true

  abbrev mutual
    pub is_of : Expr → Bool
    is_of (value v) = has_texts (length p.texts) v
    is_of (variable x) = true
    is_of (failed k) = true
    is_of (form h ps) = has_function h && are_of ps

    pub are_of : Parts → Bool
    are_of none = true
    are_of (part e ps) = is_of e && are_of ps
