use Rattle.std.proofs.Common.{inl, ◌++◌, ◌∷◌, [], ap, arith, append_assoc, get_or, ◌∙◌}
use Rattle.std.proofs.lemmas.Option.{slice_get-get_or}
use Rattle.std.proofs.lemmas.Result.{err_from_is_err_and}
use Rattle.scope_check.specs.Progress.{met_of}
use Rattle.scope_check.proofs.PlainForms.{stretch-breaks, stretch-next}
use Rattle.scope_check.proofs.plan.Plan.stretch.Goals as goal

pub returns-in_err-add-clause-fault : goal.returns-in_err-add-clause-fault
returns-in_err-add-clause-fault c =
    let p = err_from_is_err_and c.from_residual.result c.from_residual.ensures.1 in
    let plan = c.args.self.now in
    let far = c.loop-i.invariant.heads in
    let found = slice_get-get_or plan.forms.now c.loop-i.i c.index-self-i.result (omega (arith, c.loop-i-test.true, c.requires.there)) in
    rw (p.1, p.2) (stretch-breaks plan.bytes.now plan.functions.now plan.forms.now c.args.at c.args.progress.now c.loop-i.progress c.loop-i.i far.0 (get_or plan.forms.now c.loop-i.i c.index-self-i.result) found
    c.loop-i.invariant.from far.1 c.loop-i.invariant.seen c.in_err-add.field-0.0 (omega (arith, c.loop-i-test.true)) c.in_err-add.ensures.fault)

pub loop-i-preserved : goal.loop-i-preserved
loop-i-preserved c =
    let plan = c.args.self.now in
    let far = c.loop-i.invariant.heads in
    let found = slice_get-get_or plan.forms.now c.loop-i.i c.index-self-i.result (omega (arith, c.loop-i-test.true, c.requires.there)) in
    let added = c.in_ok-add.ensures.ok in
    let own = added.0 in
    record {
      heads = (
        far.0 ++ own ∷ [],
        stretch-next plan.bytes.now plan.functions.now plan.forms.now c.args.at c.args.progress.now c.loop-i.progress c.loop-i.i far.0 (get_or plan.forms.now c.loop-i.i c.index-self-i.result) found
            c.loop-i.invariant.from far.1 c.loop-i.invariant.seen own (met_of c.add.new.progress) added.1,
        added.2 ∙ ap (λ l. l ++ own ∷ []) far.2 ∙ append_assoc c.args.progress.now.heads.items far.0 (own ∷ []),
      );
      seen = added.3 ∙ c.loop-i.invariant.seen;
      from = omega (arith, c.loop-i.invariant.from);
      to = inl (omega (arith, c.loop-i-test.true));
    }
