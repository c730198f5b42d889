-- A tree that was read from a text.
use Rattle.std.specs.Prelude.{ℕ, ◌≤◌, List, length}
use Rattle.stab_lex.specs.declared.token.Token.{Token}
use Rattle.stab_lex.specs.Limits.{max_text}
use Rattle.stab_lex.specs.Readings.{Reads}
use Rattle.stab_parse.specs.declared.tree.Tree.{Tree}
use Rattle.stab_parse.specs.Faults.{IsParsed}
use Rattle.stab_parse.specs.FormList.{IsTreeOf}
use Rattle.stab_parse.specs.Grammar.{Program}

-- the bytes, of which there are so many at most, are read as tokens whose syntax is the tree's
pub record IsReadFrom (bytes : List ℕ) (tree : Tree) : Type 0 where
  pub small : length bytes ≤ max_text
  pub tokens : List Token
  pub syntax : Program
  pub reads : Reads bytes tokens
  pub parsed : IsParsed tokens syntax
  pub is_tree : IsTreeOf tree syntax
