-- What is known of a syntax that was read, before its bodies are gone through.
use Rattle.std.proofs.Common.{◌≡◌, ℕ, ◌+◌, ◌<◌, ◌≤◌, ◌^◌, Bool, true, false, List, [], ◌∷◌, ◌++◌, length, Option, Some, None, refl, sym, subst, ◌∙◌, arith, length-append, inl, inr}
use Rattle.std.specs.Prelude.{Ok, IfOk, nat_le, if◌then◌else◌}
use Rattle.std.specs.List.{All, list_any}
use Rattle.std.proofs.lemmas.Bool.{true≢false}
use Rattle.std.proofs.lemmas.Bool.Decides.{leb_tells}
use Rattle.std.proofs.lemmas.List.Elements.{All-append, All-cons, All-nil}
use Rattle.stab_code.specs.Program.{ProgramParts}
use Rattle.stab_code.specs.Valid.{IsValid}
use Rattle.stab_lex.proofs.Spans.{reads_in_order, reads_slices}
use Rattle.stab_parse.specs.declared.tree.FormNode.{FormNode}
use Rattle.stab_parse.specs.declared.tree.Function.{Function}
use Rattle.stab_parse.specs.declared.tree.Head.{Head}
use Rattle.stab_parse.specs.declared.tree.Head.TheVariants as head
use Rattle.stab_parse.specs.declared.tree.Param.{Param}
use Rattle.stab_parse.specs.declared.tree.Tree.{Tree}
use Rattle.stab_parse.specs.Forms.{Form, form, Parts, no_parts, next_part, body_of}
use Rattle.stab_parse.specs.FormList.{count_of, function_of as written_function, functions_of, nodes_of, nodes_of_parts, nodes_of_program}
use Rattle.stab_parse.specs.Moves.{node_of}
use Rattle.stab_parse.specs.Grammar.{Program, no_functions, next_function, Function as Rule, function}
use Rattle.scope_check.specs.declared.fault.ScopeFault.{ScopeFault}
use Rattle.scope_check.specs.Forms.{number_of}
use Rattle.scope_check.specs.Limits.{max_functions, max_params}
use Rattle.scope_check.specs.Names.{is_same}
use Rattle.scope_check.specs.Progress.{AreWithin, HasText, HaveTexts}
use Rattle.scope_check.specs.Reading.{IsReadFrom}
use Rattle.scope_check.specs.Scope.{first_fault, function_fault, param_fault, program_scoped, twice}
use Rattle.scope_check.specs.Sound.{AreSound, Fits, IsSound, IsSoundProgram}
use Rattle.scope_check.proofs.Places.{some-size}
use Rattle.scope_check.proofs.Programs.{few-functions, program-valid}
use Rattle.scope_check.proofs.Sizes.{length-nodes_of}
use Rattle.scope_check.proofs.SoundTokens.{few-forms, few-nodes, sound-parsed}

-- ---- texts are texts

module _ (bytes : List ℕ) where
  text-head : (h : Head) (parts : ℕ) → Fits bytes h parts → HasText bytes h
  text-head (head.Text span) parts fits = fits.1
  text-head head.Unit parts fits = tt
  text-head (head.Truth b) parts fits = tt
  text-head (head.Int n) parts fits = tt
  text-head (head.Variable name) parts fits = tt
  text-head head.Block parts fits = tt
  text-head (head.LetBlock names) parts fits = tt
  text-head head.If parts fits = tt
  text-head (head.Two op) parts fits = tt
  text-head head.Not parts fits = tt
  text-head head.Neg parts fits = tt
  text-head head.Pair parts fits = tt
  text-head (head.Call name) parts fits = tt
  text-head (head.Start w name) parts fits = tt
  text-head (head.NewChan ty) parts fits = tt
  text-head (head.Act w) parts fits = tt

  abbrev Texts : FormNode → Type 0
  Texts n = HasText bytes n.head

  mutual
    texts-form : (f : Form) → IsSound bytes f → HaveTexts bytes (nodes_of f)
    texts-form (form at h ps) sound =
        let node = node_of h (count_of ps) in
        All-append Texts (nodes_of_parts ps) (node ∷ []) (texts-parts ps sound.1) (All-cons Texts node [] (text-head h (number_of ps) sound.0) (All-nil Texts))

    texts-parts : (ps : Parts) → AreSound bytes ps → HaveTexts bytes (nodes_of_parts ps)
    texts-parts no_parts sound = All-nil Texts
    texts-parts (next_part ps f) sound = All-append Texts (nodes_of_parts ps) (nodes_of f) (texts-parts ps sound.0) (texts-form f sound.1)

  texts-program : (p : Program) → IsSoundProgram bytes p → HaveTexts bytes (nodes_of_program p)
  texts-program no_functions sound = All-nil Texts
  texts-program (next_function p r) sound = All-append Texts (nodes_of_program p) (nodes_of (body_of r)) (texts-program p sound.0) (texts-form (body_of r) sound.1)

-- ---- functions have few parameters, and their forms are there

param-passed : (b c : Bool) (x y : ScopeFault) (next : Option ScopeFault) → (if b then Some x else if c then Some y else next) ≡ None → (b ≡ false) × (next ≡ None)
param-passed true c x y next e = absurd cc
param-passed false true x y next e = absurd cc
param-passed false false x y next e = (refl, e)

few-params : (bytes : List ℕ) (before rest : List Param) → param_fault bytes before rest ≡ None → length before ≤ max_params → length before + length rest ≤ max_params
few-params bytes before [] e h = omega arith
few-params bytes before (x ∷ xs) e h =
    let step = param-passed (nat_le max_params (length before)) (list_any (λ y. is_same bytes x.name y.name) before) _ (twice x.name) (param_fault bytes (before ++ x ∷ []) xs) e in
    let room : length before < max_params = elim (leb_tells max_params (length before)) [ inl w ↦ absurd (true≢false (sym w.0 ∙ step.0)) | inr w ↦ w.1 ] in
    let rest = few-params bytes (before ++ x ∷ []) xs step.1 (omega (arith, length-append before (x ∷ []))) in
    omega (arith, length-append before (x ∷ []))

function-passed : (b c : Bool) (x y : ScopeFault) (o next : Option ScopeFault) → (if b then Some x else if c then Some y else first_fault o next) ≡ None → (o ≡ None) × (next ≡ None)
function-passed true c x y o next e = absurd cc
function-passed false true x y o next e = absurd cc
function-passed false false x y None next e = (refl, e)
function-passed false false x y (Some z) next e = absurd cc

abbrev FewParams : Function → Type 0
FewParams f = length f.params ≤ max_params

all-few-params : (bytes : List ℕ) (before fs : List Function) → function_fault bytes before fs ≡ None → All FewParams fs
all-few-params bytes before [] e = All-nil FewParams
all-few-params bytes before (f ∷ fs) e =
    let step = function-passed (nat_le max_functions (length before)) (list_any (λ g. is_same bytes f.name g.name) before) _ (twice f.name) (param_fault bytes [] f.params) (function_fault bytes (before ++ f ∷ []) fs) e in
    let own : 0 + length f.params ≤ max_params = few-params bytes [] f.params step.0 (omega arith) in
    All-cons FewParams f fs (omega arith) (all-few-params bytes (before ++ f ∷ []) fs step.1)

abbrev HasEnd : ℕ → Function → Type 0
HasEnd n f = (0 < f.forms_end) × (f.forms_end ≤ n)

end-is : (end : ℕ) (r : Rule) → (written_function end r).forms_end ≡ end
end-is end (function g x o ps e q t b) = refl

ends-grow : (m n : ℕ) (fs : List Function) → m ≤ n → All (HasEnd m) fs → All (HasEnd n) fs
ends-grow m n fs h all = λ i d k. let e = all i d k in (e.0, omega arith)

all-ends : (p : Program) → All (HasEnd (length (nodes_of_program p))) (functions_of p)
all-ends no_functions = All-nil (HasEnd 0)
all-ends (next_function p r) =
    let n = length (nodes_of_program (next_function p r)) in
    let grown : length (nodes_of_program p) + length (nodes_of (body_of r)) ≡ n = sym (length-append (nodes_of_program p) (nodes_of (body_of r))) in
    let own = written_function n r in
    let end : own.forms_end ≡ n = end-is n r in
    All-append (HasEnd n) (functions_of p) (own ∷ []) (ends-grow (length (nodes_of_program p)) n (functions_of p) (omega arith) (all-ends p))
    (All-cons (HasEnd n) own [] (omega (arith, some-size (body_of r), length-nodes_of (body_of r)), omega arith) (All-nil (HasEnd n)))

pub all-within : (bytes : List ℕ) (p : Program) → function_fault bytes [] (functions_of p) ≡ None → AreWithin (length (nodes_of_program p)) (functions_of p)
all-within bytes p e = λ i d h. let few = all-few-params bytes [] (functions_of p) e i d h in let end = all-ends p i d h in (few, end.0, end.1)

pub few-named : (bytes : List ℕ) (fs : List Function) → function_fault bytes [] fs ≡ None → length fs ≤ 1000
few-named bytes fs e = let h = few-functions bytes [] fs e (omega arith) in omega arith

-- ---- what was read

module _ (bytes : List ℕ) (tree : Tree) (read : IsReadFrom bytes tree) where
  sound : IsSoundProgram bytes read.syntax
  sound = sound-parsed bytes read.tokens read.syntax (reads_slices read.reads) read.parsed.is_program.written

  pub few-read : length (nodes_of_program read.syntax) < 2 ^ 32
  few-read = few-nodes read.syntax bytes read.small (few-forms read.tokens read.syntax _ (reads_in_order read.reads) read.parsed.is_program.written)

  pub texts-read : HaveTexts bytes (nodes_of_program read.syntax)
  texts-read = texts-program bytes read.syntax sound

  pub valid-read : (program : ProgramParts) → program_scoped bytes read.syntax ≡ Ok program → IsValid program
  valid-read program e = subst (λ r. IfOk r IsValid) e (program-valid bytes read.syntax sound read.parsed.no_deep few-read)
