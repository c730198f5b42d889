use Rattle.std.proofs.Common.{◌≡◌, sym, ◌∙◌}
use Rattle.eval_trial.specs.Alone.{events_of}
use Rattle.eval_trial.proofs.Alone.{stands_more}
use Rattle.eval_trial.proofs.tests.played.is_made.Goals as goal

pub returns-in-Ok-clause-stands : goal.returns-in-Ok-clause-stands
returns-in-Ok-clause-stands c = λ _ taken numbered stands.
    let here : c.args.next ≡ c.args.step.seq.0 = search in
    let may = c.asks_more.ensures c.if-asks_more.false (events_of taken) taken c.args.state.now.state in
    stands_more c.args.state.now.program taken c.args.step c.args.state.now.state c.play.new.self.state (numbered ∙ here) stands may c.in-Ok.ensures.0
