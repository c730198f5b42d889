-- Whether words have the shape of an expression, whatever its depth and its pairs: one pass with a list of what is owed.
use Rattle.std.specs.Prelude.{◌≡◌, ℕ, zero, suc, Bool, true, false, List, [], ◌∷◌, ◌++◌, Option, Some, None}
use Rattle.std.specs.Bool.{⊤}
use Rattle.stab_base.specs.Datum.{Datum}
use Rattle.language.specs.Expression.{Expr, value, variable, failed, form, Parts, none, part}
use Rattle.expression_text.specs.declared.word.Word.{Word}
use Rattle.expression_text.specs.declared.word.Word.TheVariants.{Let, Do}
use Rattle.expression_text.specs.Reading.{Plan, leaf, both, few, block, stray, plan}
use Rattle.expression_text.specs.Spelling.{count, arity, item_word, spell, spell_value}

-- what may still be owed: an expression, a value, an item of a block
pub data Owed : Type 0 where
  expression : Owed
  val : Owed
  item : Owed

abbrev pub many : ℕ → Owed → List Owed → List Owed
many zero o os = os
many (suc n) o os = o ∷ many n o os

-- what is owed after a word's expression or value has begun; none where no expression or value begins with it
abbrev pub begun : Plan → List Owed → Option (List Owed)
begun (leaf e) os = Some os
begun both os = Some (val ∷ val ∷ os)
begun (few h n) os = Some (many n expression os)
begun (block n) os = Some (many n item (expression ∷ os))
begun stray os = None

abbrev pub begun_value : Plan → List Owed → Option (List Owed)
begun_value (leaf (value v)) os = Some os
begun_value both os = Some (val ∷ val ∷ os)
begun_value p os = None

abbrev pub begun_item : Word → List Owed → Option (List Owed)
begun_item (Let x) os = Some (expression ∷ os)
begun_item Do os = Some (expression ∷ os)
begun_item w os = None

abbrev pub next : Owed → Word → List Owed → Option (List Owed)
next expression w os = begun (plan w) os
next val w os = begun_value (plan w) os
next item w os = begun_item w os

abbrev pub after : Option (List Owed) → Word → Option (List Owed)
after None w = None
after (Some []) w = None
after (Some (o ∷ os)) w = next o w os

abbrev pub is_done : Option (List Owed) → Bool
is_done (Some []) = true
is_done _ = false

abbrev pub shape : Option (List Owed) → List Word → Bool
shape o [] = is_done o
shape o (w ∷ ws) = shape (after o w) ws

-- each form has its number of parts
abbrev mutual
  pub IsFormed : Expr → Type 0
  IsFormed (value v) = ⊤
  IsFormed (variable x) = ⊤
  IsFormed (failed k) = ⊤
  IsFormed (form h ps) = (count ps ≡ arity h (count ps)) × AreFormed ps

  pub AreFormed : Parts → Type 0
  AreFormed none = ⊤
  AreFormed (part e ps) = IsFormed e × AreFormed ps

-- the words are those of what is owed, and no more
abbrev pub Pays : List Owed → List Word → Type 0
Pays [] ws = ws ≡ []
Pays (expression ∷ os) ws = (e : Expr) × (rest : List Word) × IsFormed e × (ws ≡ spell e ++ rest) × Pays os rest
Pays (val ∷ os) ws = (v : Datum) × (rest : List Word) × (ws ≡ spell_value v ++ rest) × Pays os rest
Pays (item ∷ os) ws = (o : Option ℕ) × (e : Expr) × (rest : List Word) × IsFormed e × (ws ≡ item_word o ∷ (spell e ++ rest)) × Pays os rest
