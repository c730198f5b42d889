-- The program that a syntax stands for, or its first fault. It is gone through once, in the order of the text.
use Rattle.std.specs.Prelude.{ℕ, ◌+◌, ◌-◌, ◌==◌, nat_le, Bool, false, not, if◌then◌else◌, List, [], ◌∷◌, ◌++◌, length, map, replicate, reverse, Option, Some, None, Result, Ok, Err, bytes_eq, codes, slice_get, position}
use Rattle.std.specs.List.{list_any, position_or_len}
use Rattle.stab_code.specs.declared.head.Head.{Head as Code}
use Rattle.stab_code.specs.declared.head.Head.TheVariants as code
use Rattle.stab_code.specs.Layout.{own_node, nodes_of_all, size_of_all}
use Rattle.stab_code.specs.Program.{FunctionParts, ProgramParts, function_of, program_of}
use Rattle.stab_code.specs.Trees.{Tree, Trees, tree, none, more}
use Rattle.stab_parse.specs.declared.symbol.CallWord.TheVariants.{Spawn, Stable}
use Rattle.stab_parse.specs.declared.symbol.Span.{Span}
use Rattle.stab_parse.specs.declared.tree.Function.{Function}
use Rattle.stab_parse.specs.declared.tree.Head.{Head}
use Rattle.stab_parse.specs.declared.tree.Head.TheVariants as head
use Rattle.stab_parse.specs.declared.tree.Param.{Param}
use Rattle.stab_parse.specs.Forms.{Form, form, Parts, no_parts, next_part, body_of}
use Rattle.stab_parse.specs.FormList.{function_of as written_function, functions_of}
use Rattle.stab_parse.specs.Grammar.{Program, no_functions, next_function}
use Rattle.scope_check.specs.declared.fault.ScopeFault.{ScopeFault}
use Rattle.scope_check.specs.declared.fault.ScopeFault.TheVariants.{NoMain, MainTakes, Twice, Unknown, Arity, TooMany}
use Rattle.scope_check.specs.declared.seen.Variable.{Variable}
use Rattle.scope_check.specs.Forms.{number_of, items_of, act_named}
use Rattle.scope_check.specs.Limits.{max_functions, max_params, max_lets, max_texts}
use Rattle.scope_check.specs.Names.{named, is_same, text_at, slot_of}
use Rattle.scope_check.specs.Seen.{params_seen}

-- the result of a second step, or the fault of the first
abbrev pub after : {A B : Type 0} → Result A ScopeFault → (A → Result B ScopeFault) → Result B ScopeFault
after (Ok a) step = step a
after (Err fault) step = Err fault

-- the first of two faults
abbrev pub first_fault : Option ScopeFault → Option ScopeFault → Option ScopeFault
first_fault None second = second
first_fault (Some fault) second = Some fault

abbrev pub unless : {A : Type 0} → Option ScopeFault → Result A ScopeFault → Result A ScopeFault
unless None result = result
unless (Some fault) result = Err fault

-- the faults of a name that was there before, and of one that isn't seen
abbrev pub twice : Span → ScopeFault
twice name = Twice name.start (name.end - name.start)

abbrev pub unknown : Span → ScopeFault
unknown name = Unknown name.start (name.end - name.start)

-- trees from left to right, of which the last comes first
abbrev pub in_order_before : List Tree → Trees → Trees
in_order_before [] ts = ts
in_order_before (x ∷ xs) ts = in_order_before xs (more x ts)

abbrev pub in_order : List Tree → Trees
in_order xs = in_order_before xs none

-- what was met so far: how many lets in the function, and the distinct texts in the program
pub record Met : Type 0 where
  pub lets : ℕ
  pub texts : List (List ℕ)

-- the parts so far, the last one first: their trees, what is seen behind them, and the slots of those that are items of a block with lets
pub record Behind : Type 0 where
  pub trees : List Tree
  pub seen : List Variable
  pub slots : List (Option ℕ)
  pub met : Met

abbrev pub behind : List Tree → List Variable → List (Option ℕ) → Met → Behind
behind trees seen slots met = record { trees = trees; seen = seen; slots = slots; met = met }

-- ---- what a name may be

-- the function takes so many arguments
abbrev pub has_arity : Option Function → ℕ → Bool
has_arity None n = false
has_arity (Some f) n = length f.params == n

-- main is there, and takes nothing
abbrev pub main_found : List Function → Option ℕ → Result ℕ ScopeFault
main_found fs None = Err NoMain
main_found fs (Some n) = if has_arity (slice_get fs n) 0 then Ok n else Err MainTakes

-- a variable is one that is seen
abbrev pub slot_found : Span → Option ℕ → Result ℕ ScopeFault
slot_found name None = Err (unknown name)
slot_found name (Some slot) = Ok slot

-- a function is there, and takes so many arguments
abbrev pub callee_found : List Function → Span → ℕ → Option ℕ → Result ℕ ScopeFault
callee_found fs name arguments None = Err (unknown name)
callee_found fs name arguments (Some n) = if has_arity (slice_get fs n) arguments then Ok n else Err (Arity name.start)

-- a text is numbered where it comes first: its number, and the texts with it
abbrev pub text_numbered : Span → List ℕ → List (List ℕ) → Result (ℕ × List (List ℕ)) ScopeFault
text_numbered span text texts =
    if list_any (bytes_eq text) texts then Ok (position_or_len (bytes_eq text) texts, texts)
    else if nat_le max_texts (length texts) then Err (TooMany span.start)
    else Ok (length texts, texts ++ text ∷ [])

-- the slots behind those of so many parameters are the lets'
abbrev pub let_numbered : ℕ → Span → Met → Result (Variable × Met) ScopeFault
let_numbered arity name met =
    if nat_le max_lets met.lets then Err (TooMany name.start)
    else Ok (record { name = name; slot = arity + met.lets }, record met { lets = met.lets + 1 })

-- ---- parts

-- One part more, which is an item of a block with lets where there is a name or none for it. A let is counted before its own form, and seen
-- behind it.
abbrev pub part_met : ℕ → Option (Option Span) → Behind → (Met → Result (Tree × Met) ScopeFault) → Result Behind ScopeFault
part_met arity None b scoped = after (scoped b.met) (λ t. Ok (behind (t.0 ∷ b.trees) b.seen b.slots t.1))
part_met arity (Some None) b scoped = after (scoped b.met) (λ t. Ok (behind (t.0 ∷ b.trees) b.seen (None ∷ b.slots) t.1))
part_met arity (Some (Some name)) b scoped =
    after (let_numbered arity name b.met) (λ x. after (scoped x.1) (λ t. Ok (behind (t.0 ∷ b.trees) (x.0 ∷ b.seen) (Some x.0.slot ∷ b.slots) t.1)))

-- a block with the slots of its items, of which the last comes first; one without lets has them already
abbrev pub with_slots : List (Option ℕ) → Code → Code
with_slots (slot ∷ slots) (code.Block none_yet) = code.Block (reverse (slot ∷ slots))
with_slots _ h = h

-- the functions so far, their bodies, the last one first, and the texts so far
pub record Defined : Type 0 where
  pub functions : List FunctionParts
  pub trees : List Tree
  pub texts : List (List ℕ)

-- one function more
abbrev pub function_defined : Defined → Function → Tree × Met → Defined
function_defined d f body = record {
  functions = d.functions ++ function_of (map (λ x. x.ty) f.params) f.gives (length f.params + body.1.lets) (own_node (size_of_all (in_order d.trees)) body.0) ∷ [];
  trees = body.0 ∷ d.trees;
  texts = body.1.texts;
}

module _ (bytes : List ℕ) where
  -- ---- functions and parameters

  abbrev pub names_of : List Function → List (List ℕ)
  names_of fs = map (λ f. named bytes f.name) fs

  -- the number of the function with this name
  abbrev pub function_named : List Function → List ℕ → Option ℕ
  function_named fs name = position (bytes_eq name) (names_of fs)

  -- the first fault among parameters behind others
  abbrev pub param_fault : List Param → List Param → Option ScopeFault
  param_fault before [] = None
  param_fault before (x ∷ xs) =
      if nat_le max_params (length before) then Some (TooMany x.name.start)
      else if list_any (λ y. is_same bytes x.name y.name) before then Some (twice x.name)
      else param_fault (before ++ x ∷ []) xs

  -- the fault of a function with so many before it, by whether its name is new
  abbrev pub own_fault : ℕ → Bool → Function → Option ScopeFault
  own_fault n is_new f =
      if nat_le max_functions n then Some (TooMany f.name.start)
      else if not is_new then Some (twice f.name)
      else param_fault [] f.params

  -- the first fault among functions behind others
  abbrev pub function_fault : List Function → List Function → Option ScopeFault
  function_fault before [] = None
  function_fault before (f ∷ fs) =
      if nat_le max_functions (length before) then Some (TooMany f.name.start)
      else if list_any (λ g. is_same bytes f.name g.name) before then Some (twice f.name)
      else first_fault (param_fault [] f.params) (function_fault (before ++ f ∷ []) fs)

  abbrev pub main_of : List Function → Result ℕ ScopeFault
  main_of fs = main_found fs (function_named fs (codes "main"))

  abbrev pub callee_of : List Function → Span → ℕ → Result ℕ ScopeFault
  callee_of fs name arguments = callee_found fs name arguments (function_named fs (named bytes name))

  -- ---- forms, in a program with these functions

  -- the head of a form with so many parts; the slots of a block with lets are known behind its items
  abbrev pub head_met : List Function → List Variable → Met → Head → ℕ → Result (Code × Met) ScopeFault
  head_met fs seen met head.Unit parts = Ok (code.Unit, met)
  head_met fs seen met (head.Truth b) parts = Ok (code.Truth b, met)
  head_met fs seen met (head.Int n) parts = Ok (code.Int n, met)
  head_met fs seen met (head.Text span) parts =
      after (text_numbered span (text_at bytes span) met.texts) (λ text. Ok (code.Text (record { 0 = text.0 }), record met { texts = text.1 }))
  head_met fs seen met (head.Variable name) parts = after (slot_found name (slot_of bytes seen name)) (λ slot. Ok (code.Var slot, met))
  head_met fs seen met head.Block parts = Ok (code.Block (replicate (parts - 1) None), met)
  head_met fs seen met (head.LetBlock names) parts = Ok (code.Block [], met)
  head_met fs seen met head.If parts = Ok (code.If, met)
  head_met fs seen met (head.Two op) parts = Ok (code.Two op, met)
  head_met fs seen met head.Not parts = Ok (code.Not, met)
  head_met fs seen met head.Neg parts = Ok (code.Neg, met)
  head_met fs seen met head.Pair parts = Ok (code.Pair, met)
  head_met fs seen met (head.Call name) parts = after (callee_of fs name parts) (λ f. Ok (code.Call (record { 0 = f }), met))
  head_met fs seen met (head.Start Spawn name) parts = after (callee_of fs name parts) (λ f. Ok (code.Spawn (record { 0 = f }), met))
  head_met fs seen met (head.Start Stable name) parts = after (callee_of fs name parts) (λ f. Ok (code.Stable (record { 0 = f }), met))
  head_met fs seen met (head.NewChan ty) parts = Ok (code.NewChan ty, met)
  head_met fs seen met (head.Act word) parts = Ok (act_named word, met)

  -- in a function that takes so many arguments
  module _ (fs : List Function) (arity : ℕ) where
    abbrev mutual
      pub form_scoped : List Variable → Met → Form → Result (Tree × Met) ScopeFault
      form_scoped seen met (form at h parts) =
          after (head_met fs seen met h (number_of parts)) (λ own. after (parts_scoped (items_of h) (behind [] seen [] own.1) parts) (λ b.
          Ok (tree (with_slots b.slots own.0) (in_order b.trees), b.met)))

      pub parts_scoped : List (Option Span) → Behind → Parts → Result Behind ScopeFault
      parts_scoped names b no_parts = Ok b
      parts_scoped names b (next_part ps f) =
          after (parts_scoped names b ps) (λ a. part_met arity (slice_get names (number_of ps)) a (λ met. form_scoped a.seen met f))

  -- ---- programs

  abbrev pub function_scoped : List Function → Defined → Function → Form → Result Defined ScopeFault
  function_scoped fs d f body =
      after (form_scoped fs (length f.params) (params_seen 0 f.params []) (record { lets = 0; texts = d.texts }) body) (λ t. Ok (function_defined d f t))

  abbrev pub functions_scoped : List Function → Program → Result Defined ScopeFault
  functions_scoped fs no_functions = Ok (record { functions = []; trees = []; texts = [] })
  functions_scoped fs (next_function p f) =
      after (functions_scoped fs p) (λ d. function_scoped fs d (written_function 0 f) (body_of f))

  -- the program, or the first fault
  abbrev pub program_scoped : Program → Result ProgramParts ScopeFault
  program_scoped p =
      let fs = functions_of p in
      unless (function_fault [] fs) (after (main_of fs) (λ main. after (functions_scoped fs p) (λ d.
      Ok (program_of d.functions (nodes_of_all 0 (in_order d.trees)) d.texts (record { 0 = main })))))
