use Rattle.std.proofs.Common.{◌≡◌, Some, sym, ap, subst₂, ◌∙◌}
use Rattle.std.specs.Prelude.{decimal}
use Rattle.std.specs.FinMap as map
use Rattle.std.proofs.lemmas.Result.{IfOk-weaker}
use Rattle.commit_book.specs.Book.{BookView}
use Rattle.commit_book.specs.Leases.{LeaseView}
use Rattle.schedule_drill.specs.declared.held.At.TheVariants.{Stepped}
use Rattle.schedule_drill.specs.Out.{AreUnder, Out}
use Rattle.schedule_drill.specs.Played.{IsStep, stand}
use Rattle.schedule_drill.proofs.Under.{on_any, one_more, put_again, some_and, taken_away}
use Rattle.schedule_drill.proofs.play.step.Goals as goal

pub hold-requires : goal.hold-requires
hold-requires c = record { new = ap (λ (o : Out). map.get o c.args.k) c.take.ensures.left ∙ taken_away c.args.leases.now c.args.k }

module _ (c : goal.After-step_line) where
  found : map.get c.args.leases.now c.args.k ≡ Some c.unwrap-held.result
  found = sym c.take.ensures.taken ∙ c.unwrap-held.ensures

  book : c.hold.new.book ≡ c.args.book.now
  book = c.in_ok-hold.ensures.book ∙ c.in_ok-steps.ensures.book

  out : c.hold.new.leases ≡ map.insert c.args.leases.now c.args.k (record { lease = c.unwrap-held.result.lease; at = Stepped c.in_ok-steps.progress })
  out =
      c.in_ok-hold.ensures.out
      ∙ ap (λ (o : Out). map.insert o c.args.k (record { lease = c.in_ok-steps.lease; at = Stepped c.in_ok-steps.progress })) c.take.ensures.left
      ∙ put_again c.args.leases.now c.args.k (record { lease = c.in_ok-steps.lease; at = Stepped c.in_ok-steps.progress })
      ∙ ap (λ (l : LeaseView). map.insert c.args.leases.now c.args.k (record { lease = l; at = Stepped c.in_ok-steps.progress })) c.in_ok-steps.ensures.lease

pub returns-clause-answered : goal.returns-clause-answered
returns-clause-answered c =
    IfOk-weaker c.step_line.result _ _ (λ text written. record {
      what = decimal c.in_ok-steps.steps;
      obeyed = some_and (map.get c.args.leases.now c.args.k) c.unwrap-held.result (IsStep (stand c.args.book.now c.args.leases.now) (stand c.hold.new.book c.hold.new.leases) c.args.k (decimal c.in_ok-steps.steps)) (found c) (record {
        progress = c.in_ok-steps.progress;
        stepped = c.in_ok-steps.ensures.made;
        book = book c;
        out = out c;
        told = ap decimal c.in_ok-steps.ensures.steps;
      });
      written = written;
    }) c.step_line.ensures

pub returns-clause-under : goal.returns-clause-under
returns-clause-under c =
    let program : c.hold.new.book.job.program ≡ c.args.book.now.job.program = ap (λ (b : BookView). b.job.program) (book c) in
    on_any c.step_line.result (AreUnder c.hold.new.book.job.program c.hold.new.leases)
    (subst₂ AreUnder (sym program) (sym (out c)) (one_more c.args.book.now.job.program c.args.leases.now c.args.k (record { lease = c.unwrap-held.result.lease; at = Stepped c.in_ok-steps.progress }) c.in_ok-steps.ensures.under c.requires.under))
