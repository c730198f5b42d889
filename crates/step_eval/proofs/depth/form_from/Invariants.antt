use Rattle.step_eval.specs.FrameView.{FrameView}
use Rattle.step_eval.specs.Searched.{IsSearched}
use Rattle.step_eval.proofs.Searching.{Past}
use Rattle.step_eval.proofs.depth.form_from.Given as goal

-- the parts before the k-th are literals and variables
abbrev pub invariant-loop-k : goal.invariant-loop-k
invariant-loop-k l = (here : FrameView) → IsSearched l.p l.fn.n l.from l.taken here → Past l.p l.fn.n l.from l.k here
