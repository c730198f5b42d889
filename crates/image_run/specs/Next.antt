-- The numbers that new threads, channels and references get.
use Rattle.std.specs.Prelude.{◌≡◌, ℕ, ◌+◌, ◌<◌, ◌≤◌, true}
use Rattle.std.specs.FinMap as map
use Rattle.std.specs.FinSet as set
use Rattle.stab_journal.specs.declared.event.Label.{Label}
use Rattle.stab_journal.specs.declared.event.Label.TheVariants.{Spawn, NewChan, NewRef}
use Rattle.stab_journal.specs.declared.event.What.{What}
use Rattle.stab_journal.specs.declared.event.What.TheVariants.{Step}
use Rattle.language.specs.Plain.{PlainState}
use Rattle.image_run.specs.declared.next.Next.{Next}

-- the next numbers after an event
abbrev pub next_after : Next → What → Next
next_after n (Step (Spawn t u)) = record n { thread = n.thread + 1 }
next_after n (Step (NewChan t c)) = record n { chan = n.chan + 1 }
next_after n (Step (NewRef t r)) = record n { reference = n.reference + 1 }
next_after n what = n

-- each number of the state is below the next one, and threads are numbered from 1
pub record AreBelowNext (n : Next) (s : PlainState) : Type 0 where
  pub threads : (t : ℕ) → map.contains_key s.threads t ≡ true → (1 ≤ t) × (t < n.thread)
  pub channels : (c : ℕ) → set.contains s.channels c ≡ true → c < n.chan
  pub references : (r : ℕ) → map.contains_key s.references r ≡ true → r < n.reference

-- what the step makes is below the next number, and threads are numbered from 1
abbrev pub IsMadeBelow : Next → Label → Type 0
IsMadeBelow n (Spawn t u) = (1 ≤ u.0) × (u.0 < n.thread)
IsMadeBelow n (NewChan t c) = c.0 < n.chan
IsMadeBelow n (NewRef t r) = r.0 < n.reference
IsMadeBelow n l = Unit {0}

-- what the step makes has the next number
abbrev pub IsMadeNext : Next → Label → Type 0
IsMadeNext n (Spawn t u) = u.0 ≡ n.thread
IsMadeNext n (NewChan t c) = c.0 ≡ n.chan
IsMadeNext n (NewRef t r) = r.0 ≡ n.reference
IsMadeNext n l = Unit {0}
