use Rattle.std.proofs.Common.{ap, ◌∙◌}
use Rattle.std.specs.Prelude.{Some}
use Rattle.plain_language.specs.declared.look.ActKind.TheVariants.{Get, Set}
use Rattle.plain_language.specs.declared.look.Look.TheVariants.{Act}
use Rattle.ready_steps.proofs.Labelling.{can}
use Rattle.ready_steps.proofs.label.label_for.Goals as goal

pub returns-in-Get-clause-can : goal.returns-in-Get-clause-can
returns-in-Get-clause-can c = λ p s q at opened. can p s q c.args.t c.args.given opened (Act (Get c.in-Get.r)) (at ∙ ap Some c.in-Act.is ∙ ap (λ k. Some (Act k)) c.in-Get.is)

pub returns-in-Set-clause-can : goal.returns-in-Set-clause-can
returns-in-Set-clause-can c = λ p s q at opened. can p s q c.args.t c.args.given opened (Act (Set c.in-Set.r)) (at ∙ ap Some c.in-Act.is ∙ ap (λ k. Some (Act k)) c.in-Set.is)
