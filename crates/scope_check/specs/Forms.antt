-- Words on the syntax: the forms of a program's bodies, and what a form's head says.
use Rattle.std.specs.Prelude.{ℕ, ◌+◌, Bool, true, false, List, [], Option}
use Rattle.stab_code.specs.declared.head.Head.{Head as Code}
use Rattle.stab_code.specs.declared.head.Head.TheVariants as code
use Rattle.stab_parse.specs.declared.symbol.ActWord.{ActWord}
use Rattle.stab_parse.specs.declared.symbol.ActWord.TheVariants as word
use Rattle.stab_parse.specs.declared.symbol.Span.{Span}
use Rattle.stab_parse.specs.declared.tree.Head.{Head}
use Rattle.stab_parse.specs.declared.tree.Head.TheVariants as head
use Rattle.stab_parse.specs.Forms.{Parts, no_parts, next_part}

-- how many parts there are
abbrev pub number_of : Parts → ℕ
number_of no_parts = 0
number_of (next_part ps f) = number_of ps + 1

-- for each item of a block with lets the name of its let, or none; other forms have no names
abbrev pub items_of : Head → List (Option Span)
items_of (head.LetBlock names) = names
items_of _ = []

-- whether it is a block with lets
abbrev pub has_lets : Head → Bool
has_lets (head.LetBlock names) = true
has_lets _ = false

-- the act of each word
abbrev pub act_named : ActWord → Code
act_named word.Ref = code.NewRef
act_named word.Get = code.Get
act_named word.Recv = code.Recv
act_named word.Print = code.Print
act_named word.Fst = code.Fst
act_named word.Snd = code.Snd
act_named word.Set = code.Set
act_named word.Send = code.Send
act_named word.Pick = code.Pick
act_named word.Stabilize = code.Stabilize
act_named word.Cut = code.Cut
act_named word.Probe = code.Probe
act_named word.Pin = code.Pin
act_named word.Attempt = code.Attempt
