-- What a control looks at beside the machine that it shares.
use Rattle.std.specs.Prelude.{[], None}
use Rattle.step_eval.specs.declared.machine.Focus.{Focus}
use Rattle.step_eval.specs.declared.machine.Focus.TheVariants as focus
use Rattle.step_eval.specs.declared.machine.Machine.{Machine}
use Rattle.step_eval.specs.ControlView.{ControlView, FocusView, begun, settled, acting, value, fault}
use Rattle.step_eval.specs.View.{here_of, round_of}

-- a control that looks at this, in the frames of the machine
abbrev pub within_round : FocusView → Machine → ControlView
within_round what m = record { focus = what; round = round_of m; mark = m.mark }

-- a control that looks at this beside the machine; nothing stands round a fault
abbrev pub seen_at : Focus → Machine → ControlView
seen_at (focus.Begun n) m = within_round (begun n (here_of m).env) m
seen_at focus.Form m = within_round (settled (here_of m)) m
seen_at (focus.Act a) m = within_round (acting a (here_of m)) m
seen_at (focus.Value v) m = within_round (value v) m
seen_at (focus.Fault k) m = record { focus = fault k; round = []; mark = None }
