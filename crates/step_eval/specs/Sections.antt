-- Sections among the frames.
use Rattle.std.specs.Prelude.{List, [], Option, Some, None}
use Rattle.stab_base.specs.Datum.{Datum}
use Rattle.stab_base.specs.declared.numbers.Seq.{Seq}
use Rattle.stab_code.specs.declared.node_id.NodeId.{NodeId}
use Rattle.step_eval.specs.declared.machine.Focus.{Focus}
use Rattle.step_eval.specs.declared.machine.Focus.TheVariants as focus
use Rattle.step_eval.specs.declared.site.Site.TheVariants.{Section}
use Rattle.step_eval.specs.FrameView.{FrameView}

-- the section that is entered at a number, where the innermost section round it is this one
abbrev pub section_frame : Seq → Option Seq → List Datum → FrameView
section_frame q outer env = record { site = Section q outer; done = []; env = env }

-- a node that is to be evaluated, or its value
abbrev pub entry_of : NodeId → Option Datum → Focus
entry_of n None = focus.Begun n
entry_of n (Some v) = focus.Value v
