-- How the names of a block's items are kept.
use Rattle.std.specs.Prelude.{◌≡◌, true, ⊤, List, replicate, Option, None, is_some}
use Rattle.std.specs.List.{list_any}
use Rattle.stab_parse.specs.declared.symbol.Span.{Span}
use Rattle.stab_parse.specs.declared.tree.Kept.{Kept}
use Rattle.stab_parse.specs.declared.tree.Kept.TheVariants as kept

-- the names of so many items without `let`, or those that are there
abbrev pub names_kept : Kept → List (Option Span)
names_kept (kept.Forms items) = replicate items None
names_kept (kept.Names names) = names

-- names are there just where one of the items is a let
abbrev pub HasLet : Kept → Type 0
HasLet (kept.Forms items) = ⊤
HasLet (kept.Names names) = list_any is_some names ≡ true
