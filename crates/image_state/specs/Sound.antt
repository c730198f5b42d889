-- What is true of the parts of a state.
use Rattle.std.specs.Prelude.{◌≡◌, ℕ, ◌<◌, ◌≤◌, true, Some}
use Rattle.std.specs.Ordering.{nat_cmp}
use Rattle.std.specs.FinMap as map
use Rattle.std.specs.FinMap.{from_entries}
use Rattle.std.specs.FinSet as set
use Rattle.journal_laws.specs.Known.{IsExprIn, IsKnown}
use Rattle.language.specs.Depth.{are_flat}
use Rattle.language.specs.Parts.{state_of}
use Rattle.language.specs.Plain.{PlainState}
use Rattle.image_text.specs.Rising.{IsRising}
use Rattle.image_lines.specs.declared.head.Next.{Next}
use Rattle.image_state.specs.Parts.{Parts}

abbrev pub state_from : Parts → PlainState
state_from p = state_of p.threads p.channels p.references p.output

-- a number from 1 on, and below the next one
abbrev pub IsBelow : ℕ → ℕ → Type 0
IsBelow next n = (1 ≤ n) × (n < next)

-- each channel and each reference that occurs in the state is there, each number is below the next one, no thread stands at an expression
-- that is too deep, and each has one generation, in the order of their numbers
pub record AreSound (next : Next) (p : Parts) : Type 0 where
  pub known : IsKnown IsExprIn (state_from p)
  pub channels : (c : ℕ) → set.contains (state_from p).channels c ≡ true → IsBelow next.chan c
  pub references : (r : ℕ) → map.contains_key (state_from p).references r ≡ true → IsBelow next.reference r
  pub threads : (t : ℕ) → map.contains_key (state_from p).threads t ≡ true → IsBelow next.thread t
  pub flat : are_flat p.threads ≡ true
  pub rising : IsRising 0 p.generations
  pub same : (t : ℕ) → map.contains_key (from_entries {R = nat_cmp} p.generations) t ≡ map.contains_key (state_from p).threads t
  pub few : (t g : ℕ) → map.get (from_entries {R = nat_cmp} p.generations) t ≡ Some g → g ≤ 4294967295
