-- Forms that are being evaluated, without addresses.
use Rattle.std.specs.Prelude.{List}
use Rattle.stab_base.specs.Datum.{Datum}
use Rattle.step_eval.specs.declared.site.Site.{Site}

-- where the form is, the values of its parts so far, and the values of the variables by their slots
pub record FrameView : Type 0 where
  pub site : Site
  pub done : List Datum
  pub env : List Datum
