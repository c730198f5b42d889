-- How an expression is written: the word of its form, and then its parts. Before each item of a block stands what the item is.
use Rattle.std.specs.Prelude.{◌≡◌, ℕ, suc, ◌+◌, ◌≤◌, true, List, [], ◌∷◌, ◌++◌, length, Option, Some, None}
use Rattle.std.specs.Bool.{⊤}
use Rattle.stab_base.specs.Datum.{Datum, unit, truth, int, text, chan, reference, pair}
use Rattle.stab_base.specs.Limits.{is_within_limits}
use Rattle.language.specs.declared.head.Head.{Head}
use Rattle.language.specs.declared.head.Head.TheVariants as head
use Rattle.language.specs.Depth.{depth}
use Rattle.language.specs.Expression.{Expr, value, variable, failed, form, Parts, none, part}
use Rattle.expression_text.specs.declared.word.Word.{Word}
use Rattle.expression_text.specs.declared.word.Word.TheVariants.{Unit, Truth, Int, Text, Chan, Ref, Both, Var, Fault, Block, Let, Do, If, Two, Not, Neg, Pair, Fst, Snd, Call, Spawn, Stable, NewChan, NewRef, Get, Set, Send, Recv, Pick, Stabilize, Cut, Pin, Print, Probe, Attempt, Section}

abbrev pub count : Parts → ℕ
count none = 0
count (part e ps) = suc (count ps)

-- how many parts a form has; a call has as many as there are
abbrev pub arity : Head → ℕ → ℕ
arity (head.Block slots) n = length slots + 1
arity head.If n = 3
arity (head.Two op) n = 2
arity head.Not n = 1
arity head.Neg n = 1
arity head.Pair n = 2
arity head.Fst n = 1
arity head.Snd n = 1
arity (head.Call f) n = n
arity (head.Spawn f) n = n
arity (head.Stable f) n = n
arity head.NewChan n = 0
arity head.NewRef n = 1
arity head.Get n = 1
arity head.Set n = 2
arity head.Send n = 2
arity head.Recv n = 1
arity head.Pick n = 2
arity head.Stabilize n = 0
arity head.Cut n = 0
arity head.Pin n = 0
arity head.Print n = 1
arity head.Probe n = 0
arity head.Attempt n = 0
arity (head.Section m) n = 1

-- the word of a form with n parts
abbrev pub opening : Head → ℕ → Word
opening (head.Block slots) n = Block (length slots)
opening head.If n = If
opening (head.Two op) n = Two op
opening head.Not n = Not
opening head.Neg n = Neg
opening head.Pair n = Pair
opening head.Fst n = Fst
opening head.Snd n = Snd
opening (head.Call f) n = Call f n
opening (head.Spawn f) n = Spawn f n
opening (head.Stable f) n = Stable f n
opening head.NewChan n = NewChan
opening head.NewRef n = NewRef
opening head.Get n = Get
opening head.Set n = Set
opening head.Send n = Send
opening head.Recv n = Recv
opening head.Pick n = Pick
opening head.Stabilize n = Stabilize
opening head.Cut n = Cut
opening head.Pin n = Pin
opening head.Print n = Print
opening head.Probe n = Probe
opening head.Attempt n = Attempt
opening (head.Section m) n = Section m

-- what stands before the parts: of a block, what each item is
abbrev pub items_of : Head → List (Option ℕ)
items_of (head.Block slots) = slots
items_of h = []

abbrev pub item_word : Option ℕ → Word
item_word (Some x) = Let x
item_word None = Do

abbrev pub spell_value : Datum → List Word
spell_value unit = Unit ∷ []
spell_value (truth b) = Truth b ∷ []
spell_value (int n) = Int n ∷ []
spell_value (text t) = Text (record { 0 = t }) ∷ []
spell_value (chan c) = Chan (record { 0 = c }) ∷ []
spell_value (reference r) = Ref (record { 0 = r }) ∷ []
spell_value (pair a b) = Both ∷ (spell_value a ++ spell_value b)

abbrev mutual
  pub spell : Expr → List Word
  spell (value v) = spell_value v
  spell (variable x) = Var x ∷ []
  spell (failed k) = Fault k ∷ []
  spell (form h ps) = opening h (count ps) ∷ spell_parts (items_of h) ps

  pub spell_parts : List (Option ℕ) → Parts → List Word
  spell_parts items none = []
  spell_parts [] (part e ps) = spell e ++ spell_parts [] ps
  spell_parts (o ∷ items) (part e ps) = item_word o ∷ (spell e ++ spell_parts items ps)

-- each pair keeps the limits of pairs
abbrev pub IsWithin : Datum → Type 0
IsWithin (pair a b) = (is_within_limits (pair a b) ≡ true) × IsWithin a × IsWithin b
IsWithin v = ⊤

-- each form has its number of parts, and each value is within the limits
abbrev mutual
  pub IsWell : Expr → Type 0
  IsWell (value v) = IsWithin v
  IsWell (variable x) = ⊤
  IsWell (failed k) = ⊤
  IsWell (form h ps) = (count ps ≡ arity h (count ps)) × AreWell ps

  pub AreWell : Parts → Type 0
  AreWell none = ⊤
  AreWell (part e ps) = IsWell e × AreWell ps

-- the words are those of an expression of this depth or less, and then others
pub record Spells (d : ℕ) (words : List Word) (e : Expr) (rest : List Word) : Type 0 where
  pub words_are : words ≡ spell e ++ rest
  pub well : IsWell e
  pub flat : depth e ≤ d
