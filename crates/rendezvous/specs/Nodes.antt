-- The lines of the channels, from the linked lists of nodes.
use Rattle.std.specs.Prelude.{◌≡◌, ℕ, ◌+◌, ◌-◌, ◌*◌, ◌/◌, ◌<◌, ◌||◌, true, false, nat_eq, List, [], ◌∷◌, ◌++◌, length, map}
use Rattle.linked_lists.specs.Lists.{is_listed, list_at}
use Rattle.rendezvous.specs.declared.offer.Side.{Side}
use Rattle.rendezvous.specs.declared.offer.Side.TheVariants as side
use Rattle.rendezvous.specs.declared.offer.Offer.{Offer}
use Rattle.rendezvous.specs.Offer.{sends_on, receives_on}
use Rattle.rendezvous.specs.Line.{Line}

-- the list of those who wait on one side of the channel c
abbrev pub list_number : Side → ℕ → ℕ
list_number side.Send c = 2 * c
list_number side.Recv c = 2 * c + 1

-- the thread of a node: t has the nodes 2 * t + 1 and 2 * t + 2
abbrev pub thread_of : ℕ → ℕ
thread_of n = (n - 1) / 2

-- the line of the channel c
abbrev pub line_at : List (List ℕ) → ℕ → Line
line_at lists c = record { sends = map thread_of (list_at lists (2 * c)); receives = map thread_of (list_at lists (2 * c + 1)) }

-- t comes last on one side
abbrev pub joined_at : Side → ℕ → Line → Line
joined_at side.Send t line = record { sends = line.sends ++ t ∷ []; receives = line.receives }
joined_at side.Recv t line = record { sends = line.sends; receives = line.receives ++ t ∷ [] }

-- t waits on no channel
abbrev pub IsAway : ℕ → List (List ℕ) → Type 0
IsAway t lists = (c : ℕ) → (is_listed t (line_at lists c).sends ≡ false) × (is_listed t (line_at lists c).receives ≡ false)

-- each channel of the offer has its lists
abbrev pub AreListed : Offer → List (List ℕ) → Type 0
AreListed offer lists = (c : ℕ) → (sends_on c offer || receives_on c offer) ≡ true → 2 * c + 1 < length lists
