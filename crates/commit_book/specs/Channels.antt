-- Which channels are there.
use Rattle.std.specs.Prelude.{◌≡◌, ℕ}
use Rattle.std.specs.FinMap as map
use Rattle.std.specs.FinSet as set
use Rattle.rendezvous.specs.Line.{Lines}
use Rattle.language.specs.Steps.{State}

-- the channels are those of the state
abbrev pub AreChannels : {E : Type 0} → Lines → State E → Type 0
AreChannels lines s = (c : ℕ) → map.contains_key lines c ≡ set.contains s.channels c
