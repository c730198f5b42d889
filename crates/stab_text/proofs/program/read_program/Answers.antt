use Rattle.std.proofs.lemmas.Result.{err_from_is_err_and}
use Rattle.stab_text.proofs.Whole.{has_scope_fault, is_text_of, read_from}
use Rattle.stab_text.proofs.program.read_program.Goals as goal

pub returns-in_err-scope-clause-fault : goal.returns-in_err-scope-clause-fault
returns-in_err-scope-clause-fault c =
    let p = err_from_is_err_and c.from_residual-in_err-scope.result c.from_residual-in_err-scope.ensures.1 in
    let tree = c.in_ok-tree.tree in
    let read = read_from c.args.bytes.now c.in_ok-lex.field-0.items c.deref.result.now tree c.requires c.in_ok-lex.ensures.read c.deref.ensures.value c.in_ok-tree.ensures.parsed in
    rw (p.1, p.2) (has_scope_fault c.args.bytes.now tree c.in_err-scope.field-0.0 read (c.in_err-scope.ensures.fault read))

pub returns-clause-program : goal.returns-clause-program
returns-clause-program c =
    let tree = c.in_ok-tree.tree in
    let read = read_from c.args.bytes.now c.in_ok-lex.field-0.items c.deref.result.now tree c.requires c.in_ok-lex.ensures.read c.deref.ensures.value c.in_ok-tree.ensures.parsed in
    is_text_of c.args.bytes.now tree c.in_ok-scope.field-0 read (c.in_ok-scope.ensures.program read)
