-- Where a run goes on, as an image, and what is asked of it.
use Rattle.std.specs.Prelude.{ℕ, ◌≤◌, []}
use Rattle.std.specs.FinMap.{from_entries}
use Rattle.journal_laws.specs.Known.{IsExprIn, IsKnown}
use Rattle.image_laws.specs.Image.{Image, generation_at}
use Rattle.image_run.specs.declared.origin.Origin.{Origin}
use Rattle.image_run.specs.Next.{AreBelowNext}

-- the image without the text of its program
abbrev pub image_of : Origin → Image
image_of o = record {
  text = [];
  program = o.state.program;
  script = o.script.items;
  used = o.used;
  seq = o.cut;
  next_thread = o.next.thread;
  next_chan = o.next.chan;
  next_ref = o.next.reference;
  state = o.state.state;
  generations = from_entries o.generations.entries;
}

-- the most probes, events and undos of a thread before the cut
abbrev pub max_number : ℕ
max_number = 4294967295

-- one more than the greatest number of a thread, a channel or a reference
abbrev pub max_next : ℕ
max_next = 4000000001

-- numbers are in their ranges, each number of the state is below the next one, and each channel and reference that occurs is there
pub record IsOrigin (o : Origin) : Type 0 where
  pub known : IsKnown IsExprIn o.state.state
  pub used : o.used ≤ max_number
  pub cut : o.cut ≤ max_number
  pub first : 1 ≤ o.next.thread
  pub thread : o.next.thread ≤ max_next
  pub chan : o.next.chan ≤ max_next
  pub reference : o.next.reference ≤ max_next
  pub below : AreBelowNext o.next o.state.state
  pub generations : (t : ℕ) → generation_at (image_of o) t ≤ max_number
