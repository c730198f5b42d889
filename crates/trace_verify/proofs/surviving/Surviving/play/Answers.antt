use Rattle.std.proofs.Common.{sym, subst, ◌∙◌, arith}
use Rattle.trace_verify.specs.Parts.{run_in}
use Rattle.trace_verify.specs.Surviving.{LeadsOn}
use Rattle.trace_verify.proofs.Leading.{based_on, near_on, run_on}
use Rattle.trace_verify.proofs.surviving.Surviving.play.Goals as goal

pub add-requires-clause-parted : goal.add-requires-clause-parted
add-requires-clause-parted c = c.requires.kept.1.parted

pub add-requires-clause-rise : goal.add-requires-clause-rise
add-requires-clause-rise c = c.requires.kept.1.leads.rises

pub returns : goal.returns
returns c = λ from kept.
    let s = c.args.self.now in
    let same = c.in_ok-play.ensures.1 in (
      record {
        parted = c.in_ok-add.ensures.parted;
        leads = subst (λ p. LeadsOn p from (run_in c.add.new.self) c.play.new.self.state) (sym same)
            (subst (λ run. LeadsOn s.state.program from run c.play.new.self.state) (sym c.in_ok-add.ensures.run)
            (run_on s.state.program from (run_in s.parts) _ s.state.state c.play.new.self.state kept.leads c.requires.below (omega arith) c.in_ok-play.ensures.0));
        based = based_on s.state.program c.play.new.self.program from s.based s.parts.settled.items c.add.new.self.settled.items s.base same kept.based c.in_ok-add.ensures.settled;
        near = near_on s.state.program c.play.new.self.program from s.nearby (run_in s.parts) (run_in c.add.new.self) s.near same kept.near (record { back = _; is = c.in_ok-add.ensures.run });
      },
      same,
      c.in_ok-add.ensures.run,
      c.in_ok-play.ensures.0,
      c.add.ensures.since,
    )
