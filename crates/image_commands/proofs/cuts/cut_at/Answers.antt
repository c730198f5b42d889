use Rattle.std.proofs.Common.{◌≡◌, true, false, add-one, sym, ap, ◌∙◌, arith}
use Rattle.std.specs.Prelude.{Some}
use Rattle.stab_journal.specs.declared.event.What.{What}
use Rattle.stab_journal.specs.Journal.{event_at}
use Rattle.language.specs.Standing.{event}
use Rattle.image_commands.specs.Cuts.{is_cut}
use Rattle.image_commands.proofs.Counting.{cut_of, one, one_counted}
use Rattle.image_commands.proofs.cuts.cut_at.Goals as goal
use Rattle.image_commands.proofs.cuts.cut_at.Goals.{then-is_cut+else-cuts-n, else-is_cut}

pub returns-then-cuts-n : goal.returns-then-cuts-n
returns-then-cuts-n c =
    let es = c.args.history.now.events in
    let e = c.unwrap.result in
    let there = sym (sym c.unwrap.ensures ∙ c.get.ensures.event) in
    let is : is_cut e.what ≡ true = sym c.is_cut.ensures ∙ c.if-is_cut.true in
    let cut = cut_of e.what is in
    let counted : one (is_cut e.what) ≡ 1 = ap one is in
    record {
      cut = (e.worker, cut.0, there ∙ ap (λ (w : What). Some (event e.worker w)) cut.1);
      nth = omega (arith, one_counted es c.loop-i.i e (sym (sym c.unwrap.ensures ∙ c.get.ensures.event ∙ ap (event_at es) (add-one c.loop-i.i))), counted, c.loop-i.invariant.cuts, c.if-cuts-n.true);
    }

pub loop-i-preserved : goal.loop-i-preserved
loop-i-preserved c =
    let es = c.args.history.now.events in
    let e = c.unwrap.result in
    let more = one_counted es c.loop-i.i e (sym (sym c.unwrap.ensures ∙ c.get.ensures.event ∙ ap (event_at es) (add-one c.loop-i.i))) in
    elim c.if-is_cut.branch [
      | then-is_cut+else-cuts-n w ↦
          let is : is_cut e.what ≡ true = sym c.is_cut.ensures ∙ w.if-is_cut.true in
          let counted : one (is_cut e.what) ≡ 1 = ap one is in
          record {
            cuts = omega (arith, more, counted, c.loop-i.invariant.cuts, w.cuts-is);
            few = omega (arith, w.if-cuts-n.false, c.loop-i.invariant.few, w.cuts-is);
          }
      | else-is_cut w ↦
          let is : is_cut e.what ≡ false = sym c.is_cut.ensures ∙ w.if-is_cut.false in
          let counted : one (is_cut e.what) ≡ 0 = ap one is in
          record {
            cuts = omega (arith, more, counted, c.loop-i.invariant.cuts, w.cuts-is);
            few = omega (arith, c.loop-i.invariant.few, w.cuts-is);
          }
    ]
