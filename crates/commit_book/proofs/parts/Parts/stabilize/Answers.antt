use Rattle.std.proofs.Common.{◌≡◌, ◌≤◌, subst, arith}
use Rattle.std.specs.Prelude.{option_map}
use Rattle.stab_code.specs.Valid.{IsValid}
use Rattle.language.specs.Redex.{mark}
use Rattle.step_eval.specs.ControlView.{ControlView, Fits, expr_of}
use Rattle.stab_journal.specs.Journal.{survivors}
use Rattle.commit_book.proofs.Undoing.Granting.{held_low, held_none, mark_is, no_mark}
use Rattle.commit_book.proofs.parts.Parts.stabilize.Goals as goal

pub take_back-requires-clause-mark : goal.take_back-requires-clause-mark
take_back-requires-clause-mark c =
    mark_is c.mark.result (mark (expr_of c.args.job.now.program c.args.progress.end)) c.in-Some.mark
    (subst (λ (g : ControlView). IsValid c.args.job.now.program → Fits c.args.job.now.program g → option_map (λ m. m.0) c.mark.result ≡ mark (expr_of c.args.job.now.program g)) c.end.ensures.end (c.mark.ensures c.args.job.now.program) c.requires.may.kept.valid c.requires.may.made.fits) c.in-Some.is

pub refuse-requires-clause-held : goal.refuse-requires-clause-held
refuse-requires-clause-held c =
    let low : c.in-Some.mark.0 ≤ c.args.self.now.rollback.floor.0 = omega arith in
    held_low (survivors c.args.self.now.history) (mark (expr_of c.args.job.now.program c.args.progress.end)) c.in-Some.mark.0 c.args.self.now.rollback.floor.0
    (mark_is c.mark.result (mark (expr_of c.args.job.now.program c.args.progress.end)) c.in-Some.mark
    (subst (λ (g : ControlView). IsValid c.args.job.now.program → Fits c.args.job.now.program g → option_map (λ m. m.0) c.mark.result ≡ mark (expr_of c.args.job.now.program g)) c.end.ensures.end (c.mark.ensures c.args.job.now.program) c.requires.may.kept.valid c.requires.may.made.fits) c.in-Some.is) c.requires.may.kept.read.floor low

pub refuse-requires-in-None-clause-held : goal.refuse-requires-in-None-clause-held
refuse-requires-in-None-clause-held c =
    held_none (survivors c.args.self.now.history) (mark (expr_of c.args.job.now.program c.args.progress.end))
    (no_mark c.mark.result (mark (expr_of c.args.job.now.program c.args.progress.end))
    (subst (λ (g : ControlView). IsValid c.args.job.now.program → Fits c.args.job.now.program g → option_map (λ m. m.0) c.mark.result ≡ mark (expr_of c.args.job.now.program g)) c.end.ensures.end (c.mark.ensures c.args.job.now.program) c.requires.may.kept.valid c.requires.may.made.fits) c.in-None.is)
