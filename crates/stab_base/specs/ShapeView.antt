-- What a shape is as a value, and what a pair notes of itself.
use Rattle.std.specs.Prelude.{◌≡◌, ⊤}
use Rattle.std.specs.Arc.{arc_value}
use Rattle.stab_base.specs.Datum.{Datum, unit, truth, int, text, chan, reference, pair, depth_of, leaves_of}
use Rattle.stab_base.specs.declared.value.Shape.{Shape}
use Rattle.stab_base.specs.declared.value.Shape.TheVariants.{Unit, Truth, Int, Text, Chan, Ref, Pair}

-- the value that a shape is
abbrev pub datum_of : Shape → Datum
datum_of Unit = unit
datum_of (Truth b) = truth b
datum_of (Int n) = int n
datum_of (Text t) = text t.0
datum_of (Chan c) = chan c.0
datum_of (Ref r) = reference r.0
datum_of (Pair depth leaves parts) = pair (arc_value parts).first (arc_value parts).second

-- a pair notes how deep it is and how many leaves it has
abbrev pub IsMeasured : Shape → Type 0
IsMeasured (Pair depth leaves parts) = (depth ≡ depth_of (datum_of (Pair depth leaves parts))) × (leaves ≡ leaves_of (datum_of (Pair depth leaves parts)))
IsMeasured _ = ⊤
