use Rattle.std.proofs.Common.{◌<◌, ◌^◌, length, ap, sym, subst, ◌∙◌}
use Rattle.stab_code.proofs.LaidOut.{length-nodes_of_all}
use Rattle.scope_check.specs.Scope.{in_order}
use Rattle.stab_code.specs.Program.{program_of}
use Rattle.stab_code.specs.Nodes.{nodes_in}
use Rattle.stab_code.specs.Valid.{IsValid}
use Rattle.stab_parse.specs.FormList.{nodes_of_program}
use Rattle.scope_check.specs.Progress.{AreWithin, HaveTexts, texts_of}
use Rattle.scope_check.proofs.Known.{all-within, few-named, few-read, texts-read, valid-read}
use Rattle.scope_check.proofs.Whole.{heads-and-lists, program-made}
use Rattle.scope_check.proofs.scoping.planned.Goals as goal

pub functions-requires-clause-texts : goal.functions-requires-clause-texts
functions-requires-clause-texts c =
    subst (HaveTexts c.args.plan.bytes.now) (c.requires.forms c.requires.read) (texts-read c.args.plan.bytes.now c.args.tree.now c.requires.read)

pub program_of-requires-clause-laid : goal.program_of-requires-clause-laid
program_of-requires-clause-laid c =
    let forms_is = sym (c.requires.forms c.requires.read) in
    let fs_is = sym (c.requires.functions c.requires.read) in
    let are = c.in_ok-made.ensures.ok c.requires.read.syntax (sym fs_is) (sym forms_is) in
    heads-and-lists c.args.plan.forms.now c.functions.new.progress c.args.plan.parts c.requires.laid are.whole
    (ap length are.nodes ∙ length-nodes_of_all 0 (in_order are.defined.trees) ∙ are.size ∙ ap length (sym forms_is))

pub program_of-requires-clause-valid : goal.program_of-requires-clause-valid
program_of-requires-clause-valid c =
    let forms_is = sym (c.requires.forms c.requires.read) in
    let fs_is = sym (c.requires.functions c.requires.read) in
    let bytes = c.args.plan.bytes.now in
    let are = c.in_ok-made.ensures.ok c.requires.read.syntax (sym fs_is) (sym forms_is) in
    let scoped = program-made bytes c.requires.read.syntax c.args.plan.functions.now (sym fs_is) c.requires.names c.args.plan.forms.now c.in_ok-main.main.0 c.functions.new.progress c.in_ok-made.made.items c.in_ok-main.ensures.main are in
    subst (λ lists. IsValid (program_of c.in_ok-made.made.items (nodes_in c.functions.new.progress.heads.items lists) (texts_of c.functions.new.progress) c.in_ok-main.main)) (sym c.requires.laid)
    (valid-read bytes c.args.tree.now c.requires.read _ scoped)
