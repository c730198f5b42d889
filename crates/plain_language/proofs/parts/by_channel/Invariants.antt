use Rattle.std.proofs.Common.{◌≡◌, length, map}
use Rattle.std.specs.FinSet.{from_list}
use Rattle.language.specs.Parts.{channels_of}
use Rattle.language.proofs.Onto.{among}
use Rattle.plain_language.proofs.parts.by_channel.Given as goal

-- what is left, put into what was taken, gives all of it
abbrev pub invariant-loop-c : goal.invariant-loop-c
invariant-loop-c l = among (map (λ c. c.0) l.channels.items) (from_list l.among.keys) ≡ channels_of l.fn.channels.items

abbrev pub decreases-loop-c : goal.decreases-loop-c
decreases-loop-c l = length l.channels.items
