use Rattle.std.proofs.Common.{sym, ap, subst, ◌∙◌, arith}
use Rattle.std.specs.Prelude.{IsSome, Ok}
use Rattle.std.proofs.lemmas.Bool.{false≢true}
use Rattle.stab_journal.specs.Since.{AreBelow}
use Rattle.language.specs.Plain.{plain_step}
use Rattle.trace_verify.specs.Surviving.{PlaysOn}
use Rattle.image_run.specs.Machine.{run_of, state_of}
use Rattle.image_run.proofs.Stepping.{stepped}
use Rattle.image_run.proofs.machine.Machine.step.Goals as goal

pub play-requires-clause-kept : goal.play-requires-clause-kept
play-requires-clause-kept c = (c.args.self.now.origin.state.state, c.requires.at.played.kept)

pub play-requires-clause-below : goal.play-requires-clause-below
play-requires-clause-below c = subst (λ q. AreBelow q (run_of c.args.self.now)) (sym c.number-seq.ensures) c.requires.at.played.below

pub play-requires-clause-above : goal.play-requires-clause-above
play-requires-clause-above c = omega (arith, c.number-seq.ensures, c.requires.at.played.since)

pub unreachable-requires : goal.unreachable-requires
unreachable-requires c =
    let m = c.args.self.now in
    let none = rw c.in-Err-NoStep.field-0-is at (c.in-Err-NoStep.ensures m.origin.state.state c.requires.at.played.kept) in
    false≢true (subst IsSome (ap (λ q. plain_step m.surviving.state.program (state_of m) q c.args.label) (sym c.number-seq.ensures) ∙ none) c.requires.may.has)

pub returns-clause-at : goal.returns-clause-at
returns-clause-at c =
    stepped c.args.self.now c.note.new.self c.play.new.self c.args.label c.requires.at c.requires.room c.requires.may.fits
    (subst (λ q. PlaysOn c.args.self.now.origin.state.state c.args.self.now.surviving c.play.new.self q c.args.label (Ok tt)) c.number-seq.ensures (c.in-Ok.ensures c.args.self.now.origin.state.state c.requires.at.played.kept))
    c.in_ok-note.ensures
