-- Blocks of which no item is a let.
use Rattle.std.proofs.Common.{◌≡◌, ℕ, List, Option, None, false, replicate, refl}
use Rattle.std.specs.Prelude.{is_some}
use Rattle.std.proofs.lemmas.List.Elements.{All-replicate}
use Rattle.std.proofs.lemmas.List.Folds.{list_any_none}
use Rattle.stab_parse.specs.declared.symbol.Span.{Span}
use Rattle.stab_parse.specs.declared.tree.Head.TheVariants.{Block}
use Rattle.stab_parse.specs.Forms.{head_of_block}

-- the names of so many items of which none is a let
abbrev nameless : ℕ → List (Option Span)
nameless items = replicate items None

pub no_let : (items : ℕ) → head_of_block (replicate items None) ≡ Block
no_let items =
    let none = list_any_none (is_some {T = Span}) (nameless items) (All-replicate (λ name. is_some {T = Span} name ≡ false) items None refl) in
    rw none refl
