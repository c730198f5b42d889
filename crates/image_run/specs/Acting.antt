-- What a machine gives a step that the language leaves open.
use Rattle.std.specs.Prelude.{◌≡◌, ◌+◌, ℕ, Bool, true, false}
use Rattle.stab_journal.specs.Script.{script_at}
use Rattle.plain_language.specs.declared.look.ActKind.TheVariants.{Send, Recv, Pick}
use Rattle.plain_language.specs.declared.look.Look.{Look}
use Rattle.plain_language.specs.declared.look.Look.TheVariants.{Done, Failed, Pure, Act}
use Rattle.trace_verify.specs.Generations.{times}
use Rattle.image_laws.specs.Image.{generation_at}
use Rattle.ready_steps.specs.declared.label.Given.{Given}
use Rattle.image_run.specs.declared.machine.Machine.{Machine}
use Rattle.image_run.specs.Origin.{image_of}

-- the next numbers, what the script has next, and the thread's generation
pub record IsGivenBy (m : Machine) (t : ℕ) (g : Given) : Type 0 where
  pub thread : g.thread.0 ≡ m.next.thread
  pub chan : g.chan.0 ≡ m.next.chan
  pub reference : g.reference.0 ≡ m.next.reference
  pub probe : g.probe ≡ script_at m.origin.script.items (m.origin.used + m.probes)
  pub generation : g.generation ≡ generation_at (image_of m.origin) t + times m.generations t

-- a thread that does this makes a step by itself that isn't pure
abbrev pub is_lone : Look → Bool
is_lone Done = false
is_lone (Failed k) = false
is_lone Pure = false
is_lone (Act (Send c)) = false
is_lone (Act (Recv c)) = false
is_lone (Act (Pick c d)) = false
is_lone look = true
