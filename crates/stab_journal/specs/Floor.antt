-- The last cut of a run, and which of its sections can be taken back.
use Rattle.std.specs.Prelude.{ℕ, Bool, true, false, cond, not, ◌&&◌, ◌||◌, nat_eq, nat_lt, List, [], ◌∷◌, Option, Some, None}
use Rattle.stab_journal.specs.declared.event.Label.{Label}
use Rattle.stab_journal.specs.declared.event.Label.TheVariants.{Enter, Cut, Pin}
use Rattle.stab_journal.specs.declared.event.Numbered.{Numbered}
use Rattle.stab_journal.specs.Names.{has}
use Rattle.stab_journal.specs.Reached.{reached}

abbrev pub is_cut : Label → Bool
is_cut (Cut t) = true
is_cut _ = false

abbrev pub is_enter : Label → Bool
is_enter (Enter t) = true
is_enter _ = false

abbrev pub is_pin : Label → Bool
is_pin (Pin t) = true
is_pin _ = false

-- the number of the last cut, f where there is none
abbrev pub floor_from : ℕ → List Numbered → ℕ
floor_from f [] = f
floor_from f (n ∷ ns) = floor_from (cond (is_cut n.label) n.seq.0 f) ns

-- the number of the last cut, 0 before the first
abbrev pub floor : List Numbered → ℕ
floor run = floor_from 0 run

-- the step numbered m enters a section
abbrev pub is_entered : ℕ → List Numbered → Bool
is_entered m [] = false
is_entered m (n ∷ ns) = (nat_eq m n.seq.0 && is_enter n.label) || is_entered m ns

-- a step with one of these numbers is a pin
abbrev pub has_pin : List ℕ → List Numbered → Bool
has_pin qs [] = false
has_pin qs (n ∷ ns) = (has qs n.seq.0 && is_pin n.label) || has_pin qs ns

-- the section entered at m can be taken back: it was entered after the last cut, and no pin is reached from it
abbrev pub is_revocable : List Numbered → ℕ → Bool
is_revocable run m = is_entered m run && nat_lt (floor run) m && not (has_pin (reached run m) run)

-- there is a section, and it can be taken back
abbrev pub is_mark_revocable : List Numbered → Option ℕ → Bool
is_mark_revocable run None = false
is_mark_revocable run (Some m) = is_revocable run m
