use Rattle.std.proofs.Common.{◌≡◌, ◌≤◌, sym, arith, subst}
use Rattle.thread_slots.specs.declared.state.State.TheVariants.{Ready}
use Rattle.commit_book.specs.Counts.{in_state}
use Rattle.book_runs.proofs.Resting.{rest_by_counts}
use Rattle.book_runs.proofs.Served.{over_rests, over_spent}
use Rattle.book_runs.proofs.serving.end_of.Goals as goal

pub returns-then-counts-gt0 : goal.returns-then-counts-gt0
returns-then-counts-gt0 c =
    λ shown. over_spent c.args.book.now shown c.requires.over c.requires.free (subst (λ n. 1 ≤ n) c.counts.ensures.counts.ready (omega (arith, c.if-counts-gt0.true)))

pub returns : goal.returns
returns c =
    let b = c.args.book.now in
    let none = subst (λ n. n ≡ 0) c.counts.ensures.counts.ready (omega (arith, c.if-counts-gt0.false)) in
    λ shown. rest_by_counts b c.at_rest.ensures.valid shown (over_rests b shown c.requires.over c.requires.free none) none c.requires.free c.at_rest.result c.at_rest.ensures.status
