use Rattle.std.proofs.Common.{◌+◌, ◌<◌, ◌≤◌, List, length, Option}
use Rattle.stab_base.specs.declared.numbers.Seq.{Seq}
use Rattle.step_eval.specs.FrameView.{FrameView}
use Rattle.step_eval.specs.Fits.{FramesFit, IsLeft}
use Rattle.step_eval.specs.Meaning.{form_at, node_at, within_forms}
use Rattle.step_eval.specs.Searched.{IsSearched}
use Rattle.step_eval.proofs.Searching.{Deeper}
use Rattle.step_eval.proofs.depth.depth_of.Given as goal

-- the form that is searched lies so many forms deeper than the first
abbrev pub invariant-inward : goal.invariant-inward
invariant-inward l = record {
  there : l.n.0 < length l.p.nodes;
  left : 0 < l.from → IsLeft (node_at l.p l.n).head l.from;
  few : l.depth + l.n.0 ≤ l.fn.n.0;
  deeper : (here : FrameView) (mark : Option Seq) (round : List FrameView) → IsSearched l.p l.fn.n l.fn.from l.fn.taken here → FramesFit l.p mark round → Deeper l.p l.n l.from l.taken l.depth mark round (within_forms l.p round (form_at l.p here));
}

abbrev pub decreases-inward : goal.decreases-inward
decreases-inward l = l.n.0
