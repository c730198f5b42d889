use Rattle.std.proofs.Common.{◌≡◌, ◌<◌, List, sym, ap, subst, ◌∙◌, arith}
use Rattle.stab_journal.specs.declared.event.Event.{Event}
use Rattle.stab_journal.specs.Event.{weight_of}
use Rattle.language.specs.Plain.{language_of}
use Rattle.language.specs.Quiet.{IsQuiet}
use Rattle.ready_steps.specs.Ready.{IsReady}
use Rattle.image_run.specs.declared.machine.Machine.{Machine}
use Rattle.image_run.specs.Machine.{state_of}
use Rattle.image_run.specs.Turns.{Adds, AreTurns, IsTurn}
use Rattle.image_run.proofs.Added.{turned}
use Rattle.image_run.proofs.turn.Run.play.Goals as goal

pub loop-self-smaller : goal.loop-self-smaller
loop-self-smaller c = omega (arith, ap (λ (m : Machine). m.weight) c.in_ok-chosen.ensures.machine, c.in_ok-turn-in-Some.ensures.moved.more)

pub loop-self-preserved : goal.loop-self-preserved
loop-self-preserved c =
    let machine = c.in_ok-chosen.ensures.machine in
    let quantum = c.in_ok-chosen.ensures.quantum ∙ c.loop-self.invariant.quantum in
    let this = c.in_ok-turn-in-Some.ensures in
    let before = c.next.new.self.machine.events.items in
    let after = c.turn.new.self.machine.events.items in
    let begun : weight_of before < c.args.fuel = omega (arith, ap (λ (m : Machine). m.weight) machine, c.in_ok-chosen.ensures.run.at.counted.weight) in
    record {
      run = this.moved.run;
      origin = this.moved.origin ∙ ap (λ (m : Machine). m.origin) machine ∙ c.loop-self.invariant.origin;
      quantum = this.moved.quantum ∙ quantum;
      turns =
          turned c.args.fuel c.args.self.now.quantum before after
          (subst (λ (m : Machine). AreTurns c.args.fuel c.args.self.now.quantum m.events.items) (sym machine) c.loop-self.invariant.turns)
          begun (subst (λ k. Adds (IsTurn k) before after) quantum this.added);
    }

pub turn-requires-clause-room : goal.turn-requires-clause-room
turn-requires-clause-room c = omega (arith, ap (λ (m : Machine). m.weight) c.in_ok-chosen.ensures.machine)

pub turn-requires-clause-ready : goal.turn-requires-clause-ready
turn-requires-clause-ready c =
    subst (λ (m : Machine). IsReady m.surviving.state.program (state_of m) c.in-Some.chosen.ready) (sym c.in_ok-chosen.ensures.machine) (rw c.in-Some.is at c.in_ok-chosen.ensures.next)

pub returns-in-None-clause-quiet : goal.returns-in-None-clause-quiet
returns-in-None-clause-quiet c = λ off.
    subst (λ (m : Machine). IsQuiet (language_of m.surviving.state.program) (state_of m)) (sym c.in_ok-chosen.ensures.machine) (rw c.in-None.is at c.in_ok-chosen.ensures.next)
