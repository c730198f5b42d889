use Rattle.stab_top.proofs.TypesFound.{text_valid, told_typed}
use Rattle.typed_book.proofs.Wrong.{no_wrong_fault}
use Rattle.stab_top.proofs.laws.typed_files_never_go_wrong.Goals as goal

pub returns : goal.returns
returns c = λ words call file bytes program book says is done held text language same t.
    let typed = told_typed words call file bytes program says is done held text in
    let valid = text_valid c.programs_are_valid.ensures bytes program held.within text in
    no_wrong_fault program book language.run same (λ s run r. c.typed_programs_never_go_wrong.ensures program valid typed run s r) t
