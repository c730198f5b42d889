-- What was made and met so far, in the words of the definition.
use Rattle.std.specs.Prelude.{◌≡◌, ◌⊎◌, ℕ, ◌≤◌, ◌<◌, List, length, map, reverse, Option, Some, Result, Err, ⊤}
use Rattle.std.specs.List.{All}
use Rattle.stab_lex.specs.Pieces.{IsText}
use Rattle.stab_parse.specs.declared.tree.FormNode.{FormNode}
use Rattle.stab_parse.specs.declared.tree.Function.{Function}
use Rattle.stab_parse.specs.declared.tree.Head.{Head}
use Rattle.stab_parse.specs.declared.tree.Head.TheVariants as head
use Rattle.scope_check.specs.declared.fault.ScopeFault.{ScopeFault}
use Rattle.scope_check.specs.declared.fault.ScopeFault.TheVariants.{NoMemory}
use Rattle.scope_check.specs.declared.progress.Progress.{Progress}
use Rattle.scope_check.specs.declared.seen.Variable.{Variable}
use Rattle.scope_check.specs.Limits.{max_params}
use Rattle.scope_check.specs.Names.{named}
use Rattle.scope_check.specs.Scope.{Met}

-- there was no memory, or it is the fault that the definition has
abbrev pub IsFaultOf : {A : Type 0} → Result A ScopeFault → ScopeFault → Type 0
IsFaultOf defined fault = (fault ≡ NoMemory) ⊎ (defined ≡ Err fault)

-- the same of a first fault
abbrev pub IsFirstFault : Option ScopeFault → ScopeFault → Type 0
IsFirstFault defined fault = (fault ≡ NoMemory) ⊎ (defined ≡ Some fault)

abbrev pub texts_of : Progress → List (List ℕ)
texts_of p = map (λ text. text.items) p.texts.keys

abbrev pub met_of : Progress → Met
met_of p = record { lets = p.lets; texts = texts_of p }

-- the innermost first
abbrev pub seen_of : Progress → List Variable
seen_of p = reverse p.seen.items

-- the heads and what is seen stay
abbrev pub KeepsHeadsAndSeen : Progress → Progress → Type 0
KeepsHeadsAndSeen old new = (new.heads.items ≡ old.heads.items) × (new.seen.items ≡ old.seen.items)

-- a text is one
abbrev pub HasText : List ℕ → Head → Type 0
HasText bytes (head.Text span) = IsText (named bytes span)
HasText bytes _ = ⊤

abbrev pub HaveTexts : List ℕ → List FormNode → Type 0
HaveTexts bytes forms = All (λ f. HasText bytes f.head) forms

-- the function has few parameters, and its forms are there
abbrev pub IsWithin : ℕ → Function → Type 0
IsWithin forms f = (length f.params ≤ max_params) × (0 < f.forms_end) × (f.forms_end ≤ forms)

abbrev pub AreWithin : ℕ → List Function → Type 0
AreWithin forms fs = All (IsWithin forms) fs
