-- What a step reads and makes, and whether a number is among some.
use Rattle.std.specs.Prelude.{ℕ, Bool, true, false, cond, nat_eq, List, [], ◌∷◌, Option, Some, None}
use Rattle.stab_journal.specs.declared.event.Label.{Label}
use Rattle.stab_journal.specs.declared.event.Label.TheVariants.{NewChan, Get}

-- the reference that a step reads
abbrev pub read : Label → Option ℕ
read (Get t r) = Some r.0
read _ = None

-- the channel that a step makes
abbrev pub made : Label → Option ℕ
made (NewChan t c) = Some c.0
made _ = None

-- the number is one of these
abbrev pub has : List ℕ → ℕ → Bool
has [] q = false
has (t ∷ ts) q = cond (nat_eq q t) true (has ts q)

-- the number is this one
abbrev pub is_at : Option ℕ → ℕ → Bool
is_at None q = false
is_at (Some t) q = nat_eq q t
