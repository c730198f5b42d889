use Rattle.std.proofs.Common.{sym, ap, subst, ◌∙◌, arith}
use Rattle.std.specs.Prelude.{Ok}
use Rattle.stab_journal.specs.declared.event.Label.TheVariants.{Local}
use Rattle.stab_journal.specs.Since.{AreBelow}
use Rattle.plain_language.specs.Plays.{step_in}
use Rattle.trace_verify.specs.declared.surviving.Surviving.{Surviving}
use Rattle.trace_verify.specs.Surviving.{PlaysOn}
use Rattle.image_run.specs.Machine.{IsAt, run_of}
use Rattle.image_run.proofs.Stepping.{local_fits, none_stretched, some_stretched, stepped}
use Rattle.image_run.proofs.machine.Machine.local.Goals as goal

pub stretch-requires-clause-kept : goal.stretch-requires-clause-kept
stretch-requires-clause-kept c = (c.args.self.now.origin.state.state, c.requires.at.played.kept)

pub stretch-requires-clause-below : goal.stretch-requires-clause-below
stretch-requires-clause-below c = subst (λ q. AreBelow q (run_of c.args.self.now)) (sym c.number-seq.ensures) c.requires.at.played.below

pub stretch-requires-clause-above : goal.stretch-requires-clause-above
stretch-requires-clause-above c = omega (arith, c.number-seq.ensures, c.requires.at.played.since)

pub returns-then-made-eq0-clause-at : goal.returns-then-made-eq0-clause-at
returns-then-made-eq0-clause-at c =
    let m = c.args.self.now in
    let none = none_stretched m.origin.state.state m.surviving c.stretch.new.self c.number-seq.result.0 c.args.t c.in_ok-made.made c.if-made-eq0.true (c.in_ok-made.ensures.stretched m.origin.state.state c.requires.at.played.kept) in
    subst IsAt (ap (λ (s : Surviving). record m { surviving = s }) (sym none.0)) c.requires.at

pub returns-then-made-eq0-clause-none : goal.returns-then-made-eq0-clause-none
returns-then-made-eq0-clause-none c = λ zero.
    let m = c.args.self.now in
    let none = none_stretched m.origin.state.state m.surviving c.stretch.new.self c.number-seq.result.0 c.args.t c.in_ok-made.made c.if-made-eq0.true (c.in_ok-made.ensures.stretched m.origin.state.state c.requires.at.played.kept) in
    ap (λ q. step_in m.surviving.state q (Local c.args.t 1)) (sym c.number-seq.ensures) ∙ none.1

pub returns-clause-at : goal.returns-clause-at
returns-clause-at c =
    let m = c.args.self.now in
    stepped m c.note.new.self c.stretch.new.self (Local c.args.t c.in_ok-made.made) c.requires.at c.requires.room (local_fits m c.args.t c.in_ok-made.made c.if-made-eq0.false (omega (arith, c.in_ok-made.ensures.most, c.requires.most)))
    (subst (λ q. PlaysOn m.origin.state.state m.surviving c.stretch.new.self q (Local c.args.t c.in_ok-made.made) (Ok tt)) c.number-seq.ensures
    (some_stretched m.origin.state.state m.surviving c.stretch.new.self c.number-seq.result.0 c.args.t c.in_ok-made.made c.if-made-eq0.false (c.in_ok-made.ensures.stretched m.origin.state.state c.requires.at.played.kept)))
    c.in_ok-note.ensures
