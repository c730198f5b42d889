use Rattle.std.proofs.Common.{map as each, string_bytes, sym, ap, ◌∙◌}
use Rattle.std.proofs.lemmas.Result.{err_from_is_err_and}
use Rattle.stab_words.specs.Asked.{and_then}
use Rattle.stab_words.specs.Steps.{finished}
use Rattle.stab_words.proofs.WordByWord.{gives, read_is}
use Rattle.stab_words.proofs.reading.read_behind.Goals as goal

pub returns-in_err-reading-clause-asked : goal.returns-in_err-reading-clause-asked
returns-in_err-reading-clause-asked c =
    let p = err_from_is_err_and c.from_residual.result c.from_residual.ensures.1 in
    rw (p.1, p.2) (λ some. sym (read_is c.args.command (each string_bytes c.args.words.now)) ∙ ap (λ x. and_then x (λ r. finished c.args.command r.given r.expects)) (c.in_err-reading.ensures.read some))

pub returns-clause-asked : goal.returns-clause-asked
returns-clause-asked c =
    let words = each string_bytes c.args.words.now in
    gives c.finished.result _
    (c.finished.ensures.request ∙ sym (ap (λ x. and_then x (λ r. finished c.args.command r.given r.expects)) c.in_ok-reading.ensures.read) ∙ read_is c.args.command words)
