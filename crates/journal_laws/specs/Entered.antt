-- Which sections a thread entered in a run.
use Rattle.std.specs.Prelude.{ℕ, Bool, false, ◌&&◌, ◌||◌, nat_eq, List, [], ◌∷◌}
use Rattle.stab_journal.specs.declared.event.Label.{Label}
use Rattle.stab_journal.specs.declared.event.Label.TheVariants.{Enter}
use Rattle.stab_journal.specs.declared.event.Numbered.{Numbered}

-- the thread t enters a section
abbrev pub enters_by : ℕ → Label → Bool
enters_by t (Enter u) = nat_eq t u.0
enters_by t _ = false

-- the step numbered m is one in which the thread t enters a section
abbrev pub is_entered_by : ℕ → List Numbered → ℕ → Bool
is_entered_by t [] m = false
is_entered_by t (n ∷ ns) m = (nat_eq m n.seq.0 && enters_by t n.label) || is_entered_by t ns m
