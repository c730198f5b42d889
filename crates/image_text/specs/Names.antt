-- What the names of words are.
use Rattle.std.specs.Prelude.{ℕ, true, false, List, [], ◌∷◌, Option, codes}
use Rattle.stab_base.specs.declared.fault.Fault.{Fault}
use Rattle.stab_base.specs.declared.fault.Fault.TheVariants.{WrongKind, Overflow, ZeroDivisor, TooDeep, DeepValue, NoSection}
use Rattle.text_lines.specs.Table.{named_in}
use Rattle.stab_code.specs.declared.head.Op.TheVariants.{Or, And, Eq, Ne, Lt, Le, Gt, Ge, Add, Sub, Mul, Div, Rem}
use Rattle.expression_text.specs.declared.word.Word.TheVariants as w
use Rattle.image_text.specs.declared.names.Kind.TheVariants.{Int, Text, Chan, Ref, Var, Block, Let, Section}
use Rattle.image_text.specs.declared.names.Callee.TheVariants.{Call, Spawn, Stable}
use Rattle.image_text.specs.declared.names.Form.{Form}
use Rattle.image_text.specs.declared.names.Form.TheVariants.{Whole, Numbered, Failed, Called}

abbrev pub forms : List (List ℕ × Form)
forms =
    (codes "u", Whole w.Unit) ∷ (codes "t", Whole (w.Truth true)) ∷ (codes "f", Whole (w.Truth false))
    ∷ (codes "i", Numbered Int) ∷ (codes "s", Numbered Text) ∷ (codes "c", Numbered Chan) ∷ (codes "r", Numbered Ref)
    ∷ (codes "p", Whole w.Both) ∷ (codes "v", Numbered Var) ∷ (codes "b", Numbered Block)
    ∷ (codes "l", Numbered Let) ∷ (codes "e", Whole w.Do) ∷ (codes "?", Whole w.If)
    ∷ (codes "||", Whole (w.Two Or)) ∷ (codes "&&", Whole (w.Two And)) ∷ (codes "==", Whole (w.Two Eq)) ∷ (codes "!=", Whole (w.Two Ne))
    ∷ (codes "<", Whole (w.Two Lt)) ∷ (codes "<=", Whole (w.Two Le)) ∷ (codes ">", Whole (w.Two Gt)) ∷ (codes ">=", Whole (w.Two Ge))
    ∷ (codes "+", Whole (w.Two Add)) ∷ (codes "-", Whole (w.Two Sub)) ∷ (codes "*", Whole (w.Two Mul)) ∷ (codes "/", Whole (w.Two Div))
    ∷ (codes "%", Whole (w.Two Rem)) ∷ (codes "!", Whole w.Not) ∷ (codes "~", Whole w.Neg) ∷ (codes ",", Whole w.Pair)
    ∷ (codes "fst", Whole w.Fst) ∷ (codes "snd", Whole w.Snd) ∷ (codes "call", Called Call) ∷ (codes "spawn", Called Spawn)
    ∷ (codes "stable", Called Stable) ∷ (codes "chan", Whole w.NewChan) ∷ (codes "ref", Whole w.NewRef) ∷ (codes "get", Whole w.Get)
    ∷ (codes "set", Whole w.Set) ∷ (codes "send", Whole w.Send) ∷ (codes "recv", Whole w.Recv) ∷ (codes "pick", Whole w.Pick)
    ∷ (codes "stabilize", Whole w.Stabilize) ∷ (codes "cut", Whole w.Cut) ∷ (codes "pin", Whole w.Pin) ∷ (codes "print", Whole w.Print)
    ∷ (codes "probe", Whole w.Probe) ∷ (codes "attempt", Whole w.Attempt) ∷ (codes "sect", Numbered Section) ∷ (codes "fault", Failed) ∷ []

abbrev pub form_named : List ℕ → Option Form
form_named text = named_in forms text

abbrev pub faults : List (List ℕ × Fault)
faults =
    (codes "WrongKind", WrongKind) ∷ (codes "Overflow", Overflow) ∷ (codes "ZeroDivisor", ZeroDivisor) ∷ (codes "TooDeep", TooDeep)
    ∷ (codes "DeepValue", DeepValue) ∷ (codes "NoSection", NoSection) ∷ []

abbrev pub fault_named : List ℕ → Option Fault
fault_named text = named_in faults text
