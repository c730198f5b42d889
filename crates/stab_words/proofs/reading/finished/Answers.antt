use Rattle.std.proofs.Common.{sym, subst}
use Rattle.std.specs.Prelude.{IfOk, IfSome}
use Rattle.stab_words.specs.declared.request.WordFault.TheVariants.{MissingWord}
use Rattle.stab_words.specs.Within.{IsWithin}
use Rattle.stab_words.proofs.Bounds.{answer_within, request_within}
use Rattle.stab_words.proofs.reading.finished.Goals as goal

pub returns-clause-within : goal.returns-clause-within
returns-clause-within c =
    subst (λ r. IfOk r IsWithin) (sym c.ok_or.ensures.value)
    (answer_within c.request_of.result MissingWord (subst (λ o. IfSome o IsWithin) (sym c.request_of.ensures) (request_within c.args.command c.args.reading.given c.requires)))
