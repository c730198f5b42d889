-- What contracts see of bounds and of parts in memory.
use Rattle.std.specs.Prelude.{◌≡◌, ℕ, List}
use Rattle.std.specs.List.{list_any}
use Rattle.std.specs.Ordering.{nat_cmp}
use Rattle.std.specs.BTreeSet.{contains}
use Rattle.journal_laws.specs.Known.{Known}
use Rattle.image_lines.specs.declared.line.Line.{Line}
use Rattle.image_state.specs.declared.bounds.Bounds.{Bounds as HeldBounds}
use Rattle.image_state.specs.declared.named.Named.{Named}
use Rattle.image_state.specs.declared.parts.Parts.{Parts as HeldParts}
use Rattle.image_state.specs.Fits.{Bounds}
use Rattle.image_state.specs.Named.{is_channel, is_reference, is_section}
use Rattle.image_state.specs.Parts.{Parts}

-- what has a line, by the sets of numbers
pub record AreNamed (n : Named) (ls : List Line) : Type 0 where
  pub channels : (c : ℕ) → contains nat_cmp n.channels c ≡ list_any (is_channel c) ls
  pub references : (r : ℕ) → contains nat_cmp n.references r ≡ list_any (is_reference r) ls

abbrev pub known_of : HeldBounds → Known
known_of b = record { channels = contains nat_cmp b.named.now.channels; references = contains nat_cmp b.named.now.references; sections = is_section b.next.cut }

abbrev pub bounds_of : HeldBounds → Bounds
bounds_of b = record { program = b.program.now; next = b.next; known = known_of b }

abbrev pub held_parts : HeldParts → Parts
held_parts p = record {
  channels = p.channels.items;
  references = p.references.items;
  output = p.output.items;
  threads = p.threads.items;
  generations = p.generations.items;
}
