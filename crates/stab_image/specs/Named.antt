-- The greatest numbers that events name, as they are kept.
use Rattle.std.specs.Prelude.{◌≡◌, ◌≤◌, List}
use Rattle.stab_journal.specs.declared.event.Event.{Event}
use Rattle.stab_journal.specs.Numbers.{chans_in, refs_in, named_by, threads_by, greatest}
use Rattle.stab_image.specs.declared.named.Named.{Named}

pub record AreNamed (events : List Event) (n : Named) : Type 0 where
  pub thread : n.thread ≡ greatest threads_by events
  pub chan : n.chan ≡ greatest (named_by chans_in) events
  pub reference : n.reference ≡ greatest (named_by refs_in) events

-- no number is above the greatest that a name may have
pub record AreNames (n : Named) : Type 0 where
  pub thread : n.thread ≤ 4000000000
  pub chan : n.chan ≤ 4000000000
  pub reference : n.reference ≤ 4000000000
