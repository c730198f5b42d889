-- What numbers of 32 bits say of a form's place.
use Rattle.std.specs.Prelude.{ℕ, zero, suc, Option, None, Some}
use Rattle.stab_base.specs.declared.numbers.Seq.{Seq}
use Rattle.step_eval.specs.declared.place.Narrow.{Narrow}
use Rattle.step_eval.specs.declared.place.Narrow.TheVariants as narrow
use Rattle.step_eval.specs.declared.site.Site.{Site}
use Rattle.step_eval.specs.declared.site.Site.TheVariants.{Form, Section}

-- 0 for no section, else one more than its number
abbrev pub mark_of : ℕ → Option Seq
mark_of zero = None
mark_of (suc q) = Some (record { 0 = q })

-- the place that is meant
abbrev pub site_of : Narrow → Site
site_of (narrow.Form n from) = Form n from
site_of (narrow.Section q outer) = Section (record { 0 = q }) (mark_of outer)
