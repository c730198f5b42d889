use Rattle.std.proofs.Common.{◌≡◌, sym, subst}
use Rattle.std.specs.Prelude.{None, IfOk, MatchOption}
use Rattle.language.specs.Held.{Held}
use Rattle.language.specs.Plain.{language_of}
use Rattle.language.specs.Quiet.{IsQuiet}
use Rattle.ready_steps.specs.Ready.{IsReady, look_of}
use Rattle.image_run.proofs.Turning.{first_thread}
use Rattle.image_run.proofs.turn.Run.next.Goals as goal

pub first_chosen-requires : goal.first_chosen-requires
first_chosen-requires c = subst (λ (h : Held). look_of h.program h.state 0 ≡ None) (sym c.state-state.ensures) (first_thread c.args.self.now.machine c.requires.at)

pub returns-in-None-clause-next : goal.returns-in-None-clause-next
returns-in-None-clause-next c =
    subst (λ (h : Held). IfOk c.first_chosen.result (λ o. MatchOption o (IsQuiet (language_of h.program) h.state) (λ k. IsReady h.program h.state k.ready))) c.state-state.ensures c.first_chosen.ensures
