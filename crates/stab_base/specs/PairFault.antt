-- What a pair that wasn't made gives back.
use Rattle.std.specs.Prelude.{◌≡◌, IsTrue, IsFalse}
use Rattle.stab_base.specs.Datum.{Datum, pair}
use Rattle.stab_base.specs.Limits.{is_within_limits}
use Rattle.stab_base.specs.declared.value.PairFault.{PairFault}
use Rattle.stab_base.specs.declared.value.PairFault.TheVariants.{Deep, NoMemory}

-- the fault hands both values back, and is Deep exactly where their pair is past a limit
abbrev pub IsPairFault : Datum → Datum → PairFault → Type 0
IsPairFault a b (Deep x y) = (x ≡ a) × (y ≡ b) × IsFalse (is_within_limits (pair a b))
IsPairFault a b (NoMemory x y) = (x ≡ a) × (y ≡ b) × IsTrue (is_within_limits (pair a b))
