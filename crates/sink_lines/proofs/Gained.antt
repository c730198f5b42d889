-- What a sink gains, piece after piece.
use Rattle.std.proofs.Common.{◌∙◌, ℕ, List, [], ◌++◌, Option, Some, None, refl, sym, ap, append-nil}
use Rattle.stab_files.specs.Told.{Appends}
use Rattle.stab_files.proofs.Puts.{appends_trans}
use Rattle.sink_lines.specs.Device.{Device, Gains}

pub gains_nothing : (sink : Device (List ℕ)) → Gains sink sink []
gains_nothing sink = (by sink.told, refl)
  where
    by : (told : Option (List ℕ)) → Appends told told []
    by None = refl
    by (Some bytes) = ap (λ l. Some l) (sym (append-nil bytes))

pub gains_on : (a b c : Device (List ℕ)) (first second : List ℕ) → Gains a b first → Gains b c second → Gains a c (first ++ second)
gains_on a b c first second x y = (appends_trans a.told b.told c.told first second x.0 y.0, y.1 ∙ x.1)
