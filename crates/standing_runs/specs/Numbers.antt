-- The numbers that a program's nodes have in memory.
use Rattle.std.specs.Prelude.{ℕ, ◌<◌, ◌^◌, ⊤, Option, Some, None, FitsSigned}
use Rattle.std.specs.Int.{w64}
use Rattle.std.specs.List.{All, AllByRecursion}
use Rattle.stab_code.specs.declared.head.Head.{Head}
use Rattle.stab_code.specs.declared.head.Head.TheVariants.{Int, Var, Block}
use Rattle.stab_code.specs.Program.{ProgramParts}

-- the slot of an item that is a let
abbrev pub IsSlot : Option ℕ → Type 0
IsSlot None = ⊤
IsSlot (Some x) = x < 2 ^ 32

-- a number has 64 bits with its sign, a slot has 32
abbrev pub HasNumbers : Head → Type 0
HasNumbers (Int n) = FitsSigned w64 n
HasNumbers (Var x) = x < 2 ^ 32
HasNumbers (Block slots) = AllByRecursion IsSlot slots
HasNumbers h = ⊤

abbrev pub NumbersFit : ProgramParts → Type 0
NumbersFit p = All (λ node. HasNumbers node.head) p.nodes
