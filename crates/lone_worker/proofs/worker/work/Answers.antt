use Rattle.std.proofs.Common.{◌≡◌, refl, ap, subst, ◌∙◌, arith}
use Rattle.stab_code.specs.JobParts.{JobParts}
use Rattle.step_eval.specs.Progress.{Advances, Rests}
use Rattle.lone_worker.proofs.Turning.{IsGivenBack, gave_back}
use Rattle.lone_worker.proofs.worker.work.Goals as goal

pub commit-requires-clause-advanced : goal.commit-requires-clause-advanced
commit-requires-clause-advanced c =
    let g = c.in-Ok.progress in
    let program : g.program ≡ c.args.book.now.job.program = c.in-Ok.ensures.program ∙ c.program.ensures.value ∙ ap (λ (j : JobParts). j.program) c.job-2.ensures.job in
    let quantum : c.quantum-quantum.result ≡ c.args.book.now.job.quantum = c.quantum-quantum.ensures.value ∙ ap (λ (j : JobParts). j.quantum) c.job.ensures.job in
    record {
      origin = refl;
      made = subst (λ p. Advances p g.origin g.steps g.end) program c.end-end.ensures.made;
      within = let w = c.in-Ok.ensures.within in omega (arith, w, quantum);
      stops = λ less. subst (λ p. Rests p g.end) program (c.in-Ok.ensures.stops (omega (arith, less, quantum)));
    }

back : (c : goal.Joined-this) → IsGivenBack c.args.book.now c.give_back.new.self
back c = gave_back c.args.book.now c.give_back.new.self c.args.lease c.args.control c.requires c.give_back.ensures.given

pub returns-clause-later : goal.returns-clause-later
returns-clause-later c = (back c).later

pub returns-clause-free : goal.returns-clause-free
returns-clause-free c = (back c).free

pub returns-clause-stopped : goal.returns-clause-stopped
returns-clause-stopped c = (back c).history
