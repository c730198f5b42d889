use Rattle.std.proofs.Common.{ℤ, ◌+◌, ◌-◌, List, [], ◌∷◌, ◌++◌, length, Ok, Err, sym, ap, ◌∙◌, arith}
use Rattle.std.specs.Int.{w64}
use Rattle.std.proofs.lemmas.Int.{to_z-of_z}
use Rattle.image_lines.specs.Counts.{behind, script_in}
use Rattle.image_lines.proofs.CountsSteps.{behind_more, next_probe, no_probe}
use Rattle.image_lines.proofs.HeadRead.{probe_exact}
use Rattle.image_lines.proofs.counts.script_in.Goals as goal

pub returns-in_default-clause-script : goal.returns-in_default-clause-script
returns-in_default-clause-script c =
    sym (no_probe (script_in c.args.count c.args.start c.args.bytes.now) c.loop-left.numbers.items c.loop-left.left c.loop-left.at c.loop-left.rest.now c.loop-left-test.true c.loop-left.invariant.same c.in_default.ensures.pieces)

pub returns-in-Err-clause-script : goal.returns-in-Err-clause-script
returns-in-Err-clause-script c =
    sym (next_probe (script_in c.args.count c.args.start c.args.bytes.now) c.loop-left.numbers.items c.loop-left.left c.loop-left.at c.loop-left.rest.now c.in-Some.line.now c.in-Some.others.now (Err c.in-Err.fault)
    c.loop-left-test.true c.loop-left.invariant.same c.in-Some.ensures.pieces (sym c.in-Err.is ∙ c.probe_in.ensures))

pub loop-left-preserved : goal.loop-left-preserved
loop-left-preserved c =
    let so_far = c.loop-left.numbers.items in
    let later = script_in (c.loop-left.left - 1) (c.loop-left.at + length c.in-Some.line.now + 1) c.in-Some.others.now in
    let fits = (probe_exact c.in-Some.line.now c.in-Ok.number (sym (sym c.in-Ok.is ∙ c.probe_in.ensures))).1 in
    record {
      same =
          next_probe (script_in c.args.count c.args.start c.args.bytes.now) so_far c.loop-left.left c.loop-left.at c.loop-left.rest.now c.in-Some.line.now c.in-Some.others.now (Ok c.in-Ok.number)
          c.loop-left-test.true c.loop-left.invariant.same c.in-Some.ensures.pieces (sym c.in-Ok.is ∙ c.probe_in.ensures)
          ∙ behind_more so_far c.in-Ok.number later
          ∙ ap (λ (zs : List ℤ). behind zs later) (ap (λ (z : ℤ). so_far ++ z ∷ []) (sym (to_z-of_z w64 c.in-Ok.number fits)) ∙ sym c.in_ok-push.ensures.items);
      place = omega (arith, c.loop-left.invariant.place, c.in-Some.ensures.length);
    }
