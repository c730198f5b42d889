-- Trees with some parts.
use Rattle.std.specs.Prelude.{ℕ, [], ◌∷◌, Some}
use Rattle.stab_code.specs.declared.head.Head.{Head}
use Rattle.stab_code.specs.declared.head.Head.TheVariants.{Block}
use Rattle.stab_code.specs.Trees.{Tree, tree, none, more}

-- a form without parts
abbrev pub leaf : Head → Tree
leaf head = tree head none

-- a form with one part, with two, with three
abbrev pub form_of_1 : Head → Tree → Tree
form_of_1 head a = tree head (more a none)

abbrev pub form_of_2 : Head → Tree → Tree → Tree
form_of_2 head a b = tree head (more a (more b none))

abbrev pub form_of_3 : Head → Tree → Tree → Tree → Tree
form_of_3 head a b c = tree head (more a (more b (more c none)))

-- a block with one let, and a last form
abbrev pub let_block : ℕ → Tree → Tree → Tree
let_block slot own last = form_of_2 (Block (Some slot ∷ [])) own last
