use Rattle.std.proofs.Common.{◌≡◌}
use Rattle.std.specs.Prelude.{◌-◌}
use Rattle.language.specs.Look.{language}
use Rattle.language.specs.Program.{body}
use Rattle.language.specs.Table.{pure_steps}
use Rattle.plain_language.proofs.expr.Expr.stepped_times.Given as goal

abbrev pub invariant-loop-step : goal.invariant-loop-step
invariant-loop-step l = pure_steps (language (body l.program)) l.fn.n l.fn.self ≡ pure_steps (language (body l.program)) (l.fn.n - l._step) l.e
