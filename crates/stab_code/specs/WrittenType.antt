-- Which written type a `TyForm` is.
use Rattle.stab_code.specs.declared.ty.TyForm.{TyForm, Unit, Bool, Int, Text, Chan', Ref', Pair'}
use Rattle.stab_code.specs.Written.{Written, unit_type, bool_type, int_type, text_type, chan_type, ref_type, pair_type}

-- the written type that a form is
abbrev pub written_by : TyForm → Written
written_by Unit = unit_type
written_by Bool = bool_type
written_by Int = int_type
written_by Text = text_type
written_by (Chan' p t) = chan_type (written_by t)
written_by (Ref' p t) = ref_type (written_by t)
written_by (Pair' p a q b) = pair_type (written_by a) (written_by b)
