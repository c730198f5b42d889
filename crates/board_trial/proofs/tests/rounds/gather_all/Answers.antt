use Rattle.std.proofs.Common.{◌≡◌, ap, ◌∙◌}
use Rattle.std.proofs.lemmas.List.Elements.{All-rest}
use Rattle.std.specs.Vec.Iter.{into_iter_items}
use Rattle.board_trial.proofs.tests.rounds.gather_all.Goals as goal

pub loop-reader-preserved : goal.loop-reader-preserved
loop-reader-preserved g c = (
  ap (λ w. w.board) c.gather-gathered.ensures.writer ∙ c.loop-reader.invariant.0,
  All-rest (λ r. r.pass.board ≡ c.args.board.now) c.in-Some.reader (into_iter_items c.next.new.self) (into_iter_items c.loop-reader.reader-iterator) c.in-Some.ensures.steps.0 c.loop-reader.invariant.1,
)
