-- What a parser has kept where the tokens end.
use Rattle.std.specs.Prelude.{◌≡◌, Some, None}
use Rattle.stab_parse.specs.declared.fault.ParseFault.{ParseFault}
use Rattle.stab_parse.specs.declared.fault.ParseFault.TheVariants.{EarlyEnd, TooNested}
use Rattle.stab_parse.specs.declared.frame.Phase.TheVariants.{Between}
use Rattle.stab_parse.specs.declared.parser.Parser.{Parser}
use Rattle.stab_parse.specs.declared.tree.Tree.{Tree}

-- a function is complete, no form is too deep, and the tree is what was read
abbrev pub IsWhole : Parser → Tree → Type 0
IsWhole p tree = (p.phase ≡ Between) × (p.reader.too_deep ≡ None) × (tree.functions ≡ p.reader.functions) × (tree.forms ≡ p.reader.forms)

-- something is still owed, or a form that begins there is too deep
abbrev pub EndsWrong : Parser → ParseFault → Type 0
EndsWrong p EarlyEnd = p.phase ≡ Between → ⊥
EndsWrong p (TooNested at) = (p.phase ≡ Between) × (p.reader.too_deep ≡ Some at)
EndsWrong p _ = ⊥
