use Rattle.std.proofs.Common.{◌≡◌, sym, subst}
use Rattle.std.specs.Prelude.{None}
use Rattle.language.specs.Held.{Held}
use Rattle.language.specs.Plain.{language_of}
use Rattle.language.specs.Quiet.{IsQuiet}
use Rattle.ready_steps.specs.Ready.{IsReady, look_of}
use Rattle.image_run.proofs.Turning.{first_thread, not_quiet}
use Rattle.image_run.proofs.turn.Run.can_step.Goals as goal

pub first_ready-requires : goal.first_ready-requires
first_ready-requires c = subst (λ (h : Held). look_of h.program h.state 0 ≡ None) (sym c.state.ensures) (first_thread c.args.self.now.machine c.requires.at)

pub returns-in-Some-clause-some : goal.returns-in-Some-clause-some
returns-in-Some-clause-some c = λ can.
    not_quiet c.args.self.now.machine c.in-Some.field-0 (subst (λ (h : Held). IsReady h.program h.state c.in-Some.field-0) c.state.ensures (rw c.in-Some.is at c.in_ok-first_ready.ensures))

pub returns-in-None-clause-none : goal.returns-in-None-clause-none
returns-in-None-clause-none c = λ can.
    subst (λ (h : Held). IsQuiet (language_of h.program) h.state) c.state.ensures (rw c.in-None.is at c.in_ok-first_ready.ensures)
