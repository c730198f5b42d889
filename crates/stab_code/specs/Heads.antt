-- What a head says: the slots of a block's items, and the variable, text and function that it names.
use Rattle.std.specs.Prelude.{ℕ, List, [], Option, Some, None}
use Rattle.stab_base.specs.declared.numbers.FnId.{FnId}
use Rattle.stab_base.specs.declared.numbers.TextId.{TextId}
use Rattle.stab_code.specs.declared.head.Head.{Head}
use Rattle.stab_code.specs.declared.head.Head.TheVariants.{Text, Var, Block, If, Two, Call, Spawn, Stable}
use Rattle.stab_code.specs.declared.head.Op.TheVariants.{Or, And}

-- of a block, a branch, `&&` and `||` the first part alone is a value before the form steps, of every other form all parts are
abbrev pub strict_parts : Head → ℕ → ℕ
strict_parts (Block slots) parts = 1
strict_parts If parts = 1
strict_parts (Two Or) parts = 1
strict_parts (Two And) parts = 1
strict_parts _ parts = parts

-- the slots of a block's items
abbrev pub slots_of : Head → List (Option ℕ)
slots_of (Block slots) = slots
slots_of _ = []

-- the slot of a variable
abbrev pub variable_of : Head → Option ℕ
variable_of (Var slot) = Some slot
variable_of _ = None

-- the text that a literal names
abbrev pub text_of : Head → Option TextId
text_of (Text text) = Some text
text_of _ = None

-- the function that a call, a spawn or a stable section names
abbrev pub callee_of : Head → Option FnId
callee_of (Call f) = Some f
callee_of (Spawn f) = Some f
callee_of (Stable f) = Some f
callee_of _ = None
