-- What every syntax has that was read from a text: a form has as many parts as its head, and its texts are texts.
use Rattle.std.specs.Prelude.{◌≡◌, ℕ, ◌+◌, ◌<◌, List, length, ⊤}
use Rattle.stab_lex.specs.Pieces.{IsText}
use Rattle.stab_parse.specs.declared.symbol.ActWord.{ActWord}
use Rattle.stab_parse.specs.declared.symbol.ActWord.TheVariants as word
use Rattle.stab_parse.specs.declared.tree.Head.{Head}
use Rattle.stab_parse.specs.declared.tree.Head.TheVariants as head
use Rattle.stab_parse.specs.Forms.{Form, form, Parts, no_parts, next_part, body_of}
use Rattle.stab_parse.specs.Grammar.{Program, no_functions, next_function}
use Rattle.scope_check.specs.Forms.{number_of}
use Rattle.scope_check.specs.Names.{named}

-- how many operands an act has
abbrev pub operands : ActWord → ℕ
operands word.Stabilize = 0
operands word.Cut = 0
operands word.Probe = 0
operands word.Pin = 0
operands word.Attempt = 0
operands word.Set = 2
operands word.Send = 2
operands word.Pick = 2
operands _ = 1

module _ (bytes : List ℕ) where
  -- the head fits so many parts
  abbrev pub Fits : Head → ℕ → Type 0
  Fits (head.Text span) parts = (parts ≡ 0) × IsText (named bytes span)
  Fits head.Block parts = 1 < parts
  Fits (head.LetBlock names) parts = (0 < length names) × (parts ≡ length names + 1)
  Fits head.If parts = parts ≡ 3
  Fits (head.Two op) parts = parts ≡ 2
  Fits head.Pair parts = parts ≡ 2
  Fits head.Not parts = parts ≡ 1
  Fits head.Neg parts = parts ≡ 1
  Fits (head.Call name) parts = ⊤
  Fits (head.Start w name) parts = ⊤
  Fits (head.Act w) parts = parts ≡ operands w
  Fits _ parts = parts ≡ 0

  abbrev mutual
    pub IsSound : Form → Type 0
    IsSound (form at h parts) = Fits h (number_of parts) × AreSound parts

    pub AreSound : Parts → Type 0
    AreSound no_parts = ⊤
    AreSound (next_part ps f) = AreSound ps × IsSound f

  abbrev pub IsSoundProgram : Program → Type 0
  IsSoundProgram no_functions = ⊤
  IsSoundProgram (next_function p f) = IsSoundProgram p × IsSound (body_of f)
