use Rattle.std.proofs.Common.{◌<◌, ◌^◌, length, ap, sym, subst, ◌∙◌}
use Rattle.stab_code.proofs.LaidOut.{length-nodes_of_all}
use Rattle.scope_check.specs.Scope.{in_order}
use Rattle.stab_code.specs.Program.{program_of}
use Rattle.stab_code.specs.Nodes.{nodes_in}
use Rattle.stab_code.specs.Valid.{IsValid}
use Rattle.stab_parse.specs.FormList.{nodes_of_program}
use Rattle.scope_check.specs.Progress.{AreWithin, HaveTexts, texts_of}
use Rattle.scope_check.proofs.Known.{all-within, few-named, few-read, texts-read, valid-read}
use Rattle.scope_check.proofs.Whole.{heads-and-lists, program-made}
use Rattle.scope_check.proofs.scoping.scope.Goals as goal

pub part_lists-requires : goal.part_lists-requires
part_lists-requires c = subst (λ l. length l < 2 ^ 32) (sym (c.all-forms.ensures ∙ c.requires.is_tree.1)) (few-read c.args.bytes.now c.args.tree.now c.requires)

pub plain_from-requires : goal.plain_from-requires
plain_from-requires c = subst (λ l. length l < 2 ^ 32) (sym (c.all-forms.ensures ∙ c.requires.is_tree.1)) (few-read c.args.bytes.now c.args.tree.now c.requires)

pub invariant_of-plan : goal.invariant_of-plan
invariant_of-plan c =
    let forms_is = c.all-forms.ensures ∙ c.requires.is_tree.1 in
    let fs_is = c.all-functions.ensures ∙ c.requires.is_tree.0 in
    let none = c.in_ok-names.ensures.none in
    record {
      named = c.in_ok-names.ensures.names;
      few = few-named c.args.bytes.now c.all-functions.result.now none;
      within = subst (λ l. AreWithin (length l) c.all-functions.result.now) (sym forms_is) (subst (AreWithin (length (nodes_of_program c.requires.syntax))) (sym fs_is) (all-within c.args.bytes.now c.requires.syntax (rw fs_is at none)));
      small = c.requires.small;
      fewer = subst (λ l. length l < 2 ^ 32) (sym forms_is) (few-read c.args.bytes.now c.args.tree.now c.requires);
      laid = c.in_ok-parts.ensures.lists;
      marked = c.in_ok-plain_from.ensures.length;
      plain = c.in_ok-plain_from.ensures.numbers;
    }

pub planned-requires-clause-functions : goal.planned-requires-clause-functions
planned-requires-clause-functions c = λ read. sym (c.all-functions.ensures ∙ read.is_tree.0)

pub planned-requires-clause-forms : goal.planned-requires-clause-forms
planned-requires-clause-forms c = λ read. sym (c.all-forms.ensures ∙ read.is_tree.1)
