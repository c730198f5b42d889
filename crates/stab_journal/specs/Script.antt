-- Whether the probes of a journal got the numbers of a script.
use Rattle.std.specs.Prelude.{◌≡◌, ℕ, ℤ, pos, List, [], ◌∷◌, ◌++◌, slice_get, unwrap_or, IfSome}
use Rattle.stab_journal.specs.declared.event.Label.TheVariants.{Probe}
use Rattle.stab_journal.specs.declared.event.What.{What}
use Rattle.stab_journal.specs.declared.event.What.TheVariants.{Step}
use Rattle.stab_journal.specs.declared.event.Event.{Event}

abbrev pub probed_by : What → List ℤ
probed_by (Step (Probe t i)) = i ∷ []
probed_by _ = []

-- the numbers that probes got, those of undone steps too, in order
abbrev pub probed : List Event → List ℤ
probed [] = []
probed (e ∷ es) = probed_by e.what ++ probed es

-- what the script has for the probe with i before it: its number there, or 0 past its end
abbrev pub script_at : List ℤ → ℕ → ℤ
script_at script i = unwrap_or (slice_get script i) (pos 0)

-- each probe got what the script has for it
abbrev pub FollowsScript : List ℤ → List Event → Type 0
FollowsScript script events = (i : ℕ) → IfSome (slice_get (probed events) i) (λ n. n ≡ script_at script i)
