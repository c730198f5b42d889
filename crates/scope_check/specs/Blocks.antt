-- What a block with items is in the program, with lets among them or without.
use Rattle.std.specs.Prelude.{◌≡◌, ℕ, ◌+◌, List, length, map, Option, is_some}
use Rattle.stab_code.specs.declared.head.Head.TheVariants.{Block}
use Rattle.stab_code.specs.Trees.{Tree, tree}
use Rattle.stab_parse.specs.declared.symbol.Span.{Span}
use Rattle.scope_check.specs.Scope.{in_order}

-- the tree of a block whose items have these names: an item has a slot just where it is a let, and there is one part more than items
pub record IsBlockOf (names : List (Option Span)) (t : Tree) : Type 0 where
  pub slots : List (Option ℕ)
  pub trees : List Tree
  pub block : t ≡ tree (Block slots) (in_order trees)
  pub lets : map is_some slots ≡ map is_some names
  pub parts : length trees ≡ length names + 1
