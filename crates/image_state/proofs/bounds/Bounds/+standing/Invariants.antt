-- The parts so far stand, with the slots that they bind.
use Rattle.std.proofs.Common.{◌≡◌, ◌+◌, ◌*◌, drop, length, take}
use Rattle.language.specs.Expression.{parts_of}
use Rattle.language.specs.Size.{size_of, size_of_parts}
use Rattle.image_state.specs.Held.{known_of}
use Rattle.image_state.specs.Stands.{parts_stand}
use Rattle.image_state.proofs.bounds.Bounds.+standing.Given as goal

abbrev pub decreases-stands : goal.decreases-stands
decreases-stands l = 2 * size_of l.e.now

abbrev pub decreases-parts_stand : goal.decreases-parts_stand
decreases-parts_stand l = 2 * size_of_parts (parts_of l.parts.now) + 1

abbrev pub invariant-parts_stand-loop-i : goal.invariant-parts_stand-loop-i
invariant-parts_stand-loop-i l = record {
  same :
      parts_stand l.self.program.now (known_of l.self) l.initial.bound l.items (parts_of l.parts)
      ≡ parts_stand l.self.program.now (known_of l.self) l.bound (drop l.i l.items) (parts_of (drop l.i l.parts));
  slots : take (length l.initial.bound) l.bound ≡ l.initial.bound;
}
