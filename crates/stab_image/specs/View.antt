-- What contracts see of an image in memory, and what is true of each.
use Rattle.std.specs.Prelude.{◌≡◌, ℕ, ◌≤◌, false, length}
use Rattle.std.specs.Arc.{arc_value}
use Rattle.std.specs.Ordering.{nat_cmp}
use Rattle.std.specs.FinMap as map
use Rattle.std.specs.FinMap.{from_entries}
use Rattle.stab_code.specs.Limits.{max_script}
use Rattle.stab_text.specs.Text.{IsTextOf}
use Rattle.journal_laws.specs.Known.{IsExprIn, IsKnown}
use Rattle.image_laws.specs.Image.{Image, generation_at}
use Rattle.image_lines.specs.HeadText.{IsLength}
use Rattle.image_run.specs.Next.{AreBelowNext}
use Rattle.stab_image.specs.declared.image.Image.TheInside.{Inside}
use Rattle.image_text.specs.Rising.{IsRising}
use Rattle.stab_image.specs.Limits.{IsNext, max_number}
use Rattle.stab_image.specs.Numbered.{AreBelow}

abbrev pub image_of : Inside → Image
image_of a = record {
  text = a.text.items;
  program = arc_value a.program;
  script = a.script.items;
  used = a.used;
  seq = a.cut;
  next_thread = a.next_thread;
  next_chan = a.next_chan;
  next_ref = a.next_ref;
  state = a.state.state;
  generations = from_entries a.generations.items;
}

-- the text is that of the program, which is the state's, and as short as one may be, each number is in its range, each channel and
-- reference that occurs in the state is there, those and the threads are below the next ones, and each thread has its generation, in the
-- order of their numbers
pub record IsSound (a : Inside) : Type 0 where
  pub text : IsTextOf a.text.items (arc_value a.program)
  pub short : IsLength (length a.text.items)
  pub program : a.state.program ≡ arc_value a.program
  pub script : length a.script.items ≤ max_script
  pub used : a.used ≤ max_number
  pub cut : a.cut ≤ max_number
  pub thread : IsNext a.next_thread
  pub chan : IsNext a.next_chan
  pub reference : IsNext a.next_ref
  pub known : IsKnown IsExprIn a.state.state
  pub below : AreBelow a.next_chan a.state.state
  pub thread_0 : map.contains_key a.state.state.threads 0 ≡ false
  pub rising : IsRising 0 a.generations.items
  pub same : (t : ℕ) → map.contains_key (from_entries {R = nat_cmp} a.generations.items) t ≡ map.contains_key a.state.state.threads t
  pub named : AreBelowNext (record { thread = a.next_thread; chan = a.next_chan; reference = a.next_ref }) a.state.state
  pub put_back : (t : ℕ) → generation_at (image_of a) t ≤ max_number
