-- A whole program.
use Rattle.std.proofs.Common.{◌≡◌, ℕ, List, [], length, None, sym, ap, ◌∙◌}
use Rattle.std.specs.Prelude.{Result, Ok}
use Rattle.stab_code.specs.declared.node_id.NodeId.{NodeId}
use Rattle.stab_code.specs.Layout.{nodes_of_all}
use Rattle.stab_code.specs.Program.{FunctionParts, ProgramParts, program_of}
use Rattle.stab_parse.specs.declared.tree.FormNode.{FormNode}
use Rattle.stab_parse.specs.declared.tree.Function.{Function}
use Rattle.stab_parse.specs.FormList.{functions_of}
use Rattle.stab_parse.specs.Grammar.{Program}
use Rattle.scope_check.specs.declared.fault.ScopeFault.{ScopeFault}
use Rattle.scope_check.specs.declared.progress.Progress.{Progress}
use Rattle.scope_check.specs.Made.{AreFunctionsMade, HaveParts, nodes_now}
use Rattle.scope_check.specs.Places.{part_lists}
use Rattle.scope_check.specs.Progress.{texts_of}
use Rattle.scope_check.specs.Scope.{Defined, after, function_fault, functions_scoped, in_order, main_of, program_scoped, unless}
use Rattle.scope_check.proofs.Places.{length-part_lists}

module _ (bytes : List ℕ) (p : Program) where
  abbrev made_of : ℕ → Defined → Result ProgramParts ScopeFault
  made_of main d = Ok (program_of d.functions (nodes_of_all 0 (in_order d.trees)) d.texts (record { 0 = main }))

  abbrev bodies : List Function → Result ProgramParts ScopeFault
  bodies fs = after (main_of bytes fs) (λ main. after (functions_scoped bytes fs p) (made_of main))

  abbrev whole : List Function → Result ProgramParts ScopeFault
  whole fs = unless (function_fault bytes [] fs) (bodies fs)

  module _ (fs : List Function) (is : functions_of p ≡ fs) where
    whole-is : program_scoped bytes p ≡ whole fs
    whole-is = ap whole is

    module _ (none : function_fault bytes [] fs ≡ None) where
      behind-names : program_scoped bytes p ≡ bodies fs
      behind-names = whole-is ∙ ap (λ o. unless o (bodies fs)) none

      pub program-made : (forms : List FormNode) (main : ℕ) (new : Progress) (made : List FunctionParts) → main_of bytes fs ≡ Ok main → AreFunctionsMade bytes fs forms p new made
          → program_scoped bytes p ≡ Ok (program_of made (nodes_now forms new) (texts_of new) (record { 0 = main }))
      program-made forms main new made e are =
          behind-names ∙ ap (λ r. after r (λ m. after (functions_scoped bytes fs p) (made_of m))) e ∙ ap (λ r. after r (made_of main)) are.scoped
          ∙ ap (λ fs_made. Ok (program_of fs_made (nodes_of_all 0 (in_order are.defined.trees)) are.defined.texts (record { 0 = main }))) (sym are.functions)
          ∙ ap (λ nodes. Ok (program_of made nodes are.defined.texts (record { 0 = main }))) (sym are.nodes)
          ∙ ap (λ texts. Ok (program_of made (nodes_now forms new) texts (record { 0 = main }))) (sym are.texts)

-- each head has its list of parts
pub heads-and-lists : (forms : List FormNode) (new : Progress) (lists : List (List NodeId)) → lists ≡ part_lists 0 [] forms → HaveParts forms new → length (nodes_now forms new) ≡ length forms → length new.heads.items ≡ length lists
heads-and-lists forms new lists e whole count = sym whole ∙ count ∙ sym (ap length e ∙ length-part_lists 0 [] forms)
