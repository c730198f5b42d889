use Rattle.std.proofs.Common.{◌≡◌, sym, ap, subst, ◌∙◌, arith}
use Rattle.stab_code.specs.JobParts.{JobParts}
use Rattle.step_eval.specs.Progress.{Advances, Rests}
use Rattle.schedule_drill.specs.declared.held.At.{At}
use Rattle.schedule_drill.specs.Out.{IsStepped}
use Rattle.schedule_drill.proofs.play.stepped.Goals as goal

pub returns-in-Ok-clause-made : goal.returns-in-Ok-clause-made
returns-in-Ok-clause-made c =
    let g = c.in-Ok.progress in
    let program : g.program ≡ c.args.book.now.job.program = c.in-Ok.ensures.program ∙ c.program.ensures.value ∙ ap (λ (j : JobParts). j.program) c.job-2.ensures.job in
    let quantum : c.quantum-quantum.result ≡ c.args.book.now.job.quantum = c.quantum-quantum.ensures.value ∙ ap (λ (j : JobParts). j.quantum) c.job.ensures.job in
    subst (λ (a : At). IsStepped c.args.book.now.job a g) (sym c.in-Lent.is) (record {
      origin = c.in-Ok.ensures.origin;
      made = subst (λ p. Advances p g.origin g.steps g.end) program c.end-end.ensures.made;
      within = let w = c.in-Ok.ensures.within in omega (arith, w, quantum);
      stops = λ less. subst (λ p. Rests p g.end) program (c.in-Ok.ensures.stops (omega (arith, less, quantum)));
    })
