-- What a machine holds, without addresses.
use Rattle.std.specs.Prelude.{List, ◌++◌, option_to_list}
use Rattle.std.specs.Arc.{arc_value}
use Rattle.step_eval.specs.FrameView.{FrameView}
use Rattle.step_eval.specs.declared.machine.Machine.{Machine}

-- the form at hand
abbrev pub here_of : Machine → FrameView
here_of m = record { site = m.site; done = m.done.items; env = arc_value m.env }

-- the frames, the innermost first
abbrev pub round_of : Machine → List FrameView
round_of m = option_to_list m.top ++ m.frames
