-- What is known by sets of numbers is what has a line.
use Rattle.std.proofs.Common.{◌≡◌, ℕ, Bool, List, Option, Result, sym, ap, ◌∙◌}
use Rattle.std.proofs.Math.Path.{fun_ext}
use Rattle.std.specs.List.{list_any}
use Rattle.std.specs.Ordering.{nat_cmp}
use Rattle.std.specs.BTreeSet.{contains}
use Rattle.stab_code.specs.Program.{ProgramParts}
use Rattle.journal_laws.specs.Known.{Known}
use Rattle.image_lines.specs.declared.head.Next.{Next}
use Rattle.image_lines.specs.declared.line.Line.{Line}
use Rattle.image_state.specs.declared.named.Named.{Named}
use Rattle.image_state.specs.Fits.{Bounds}
use Rattle.image_state.specs.Held.{AreNamed}
use Rattle.image_state.specs.Named.{is_channel, is_reference, is_section, named_by}
use Rattle.image_state.specs.State.{bounds}

module _ (cut : ℕ) where
  abbrev pub made : (ℕ → Bool) → (ℕ → Bool) → Known
  made f g = record { channels = f; references = g; sections = is_section cut }

  known_is : (n : Named) (ls : List Line) → AreNamed n ls → made (contains nat_cmp n.channels) (contains nat_cmp n.references) ≡ named_by cut ls
  known_is n ls h =
      ap (λ (f : ℕ → Bool). made f (contains nat_cmp n.references)) (fun_ext h.channels) ∙ ap (λ (g : ℕ → Bool). made (λ c. list_any (is_channel c) ls) g) (fun_ext h.references)

abbrev pub bounds_by : ProgramParts → Next → Named → Bounds
bounds_by p next n = record { program = p; next = next; known = made next.cut (contains nat_cmp n.channels) (contains nat_cmp n.references) }

pub bounds_are : (p : ProgramParts) (next : Next) (n : Named) (ls : List Line) → AreNamed n ls → bounds_by p next n ≡ bounds p next ls
bounds_are p next n ls h = ap (λ (k : Known). let b : Bounds = record { program = p; next = next; known = k } in b) (known_is next.cut n ls h)
