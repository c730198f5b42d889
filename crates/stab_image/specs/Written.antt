-- Which bytes are the text of an image.
use Rattle.std.specs.Prelude.{◌≡◌, ℕ, ◌-◌, ◌<◌, ◌≤◌, true, List, ◌++◌, length, map as each}
use Rattle.std.specs.List.{AllByRecursion}
use Rattle.std.specs.FinMap as map
use Rattle.std.specs.FinSet as set
use Rattle.stab_base.specs.Datum.{Datum}
use Rattle.stab_text.specs.Text.{IsTextOf}
use Rattle.language.specs.Expression.{Expr}
use Rattle.image_laws.specs.Image.{Image, generation_at}
use Rattle.image_text.specs.Rising.{those}
use Rattle.image_lines.specs.declared.head.Next.{Next}
use Rattle.image_lines.specs.declared.line.Line.{Line}
use Rattle.image_lines.specs.declared.line.Line.TheVariants.{Chan, Ref, Out, Thread}
use Rattle.image_lines.specs.HeadText.{AreNext, AreProbes, IsLength, IsProbe}
use Rattle.image_state.specs.State.{AreOfState}
use Rattle.stab_image.specs.ImageText.{text_of_image}

abbrev pub channel_line : ℕ → Line
channel_line c = Chan (record { 0 = c })

abbrev pub reference_line : ℕ × Datum → Line
reference_line r = Ref (record { 0 = r.0 }) r.1

abbrev pub output_line : Datum → Line
output_line v = Out v

abbrev pub thread_line : Image → ℕ × Expr → Line
thread_line i t = Thread (record { 0 = t.0 }) (generation_at i t.0) t.1

-- the lines of the state: channels, references and threads in the order of their numbers, printed values in the order of printing
abbrev pub lines_of : Image → List Line
lines_of i =
    each channel_line (those (set.contains i.state.channels) 1 (i.next_chan - 1))
    ++ (each reference_line (map.entries i.state.references) ++ (each output_line i.state.output ++ each (thread_line i) (map.entries i.state.threads)))

abbrev pub next_of : Image → Next
next_of i = record { cut = i.seq; thread = i.next_thread; chan = i.next_chan; reference = i.next_ref }

-- the text is that of the program, each number is in its range, the lines of the state are right and fit together, and what has no line
-- isn't there
pub record IsRight (i : Image) : Type 0 where
  pub text : IsTextOf i.text i.program
  pub small : IsLength (length i.text)
  pub probes : AreProbes (record { count = length i.script; used = i.used })
  pub script : AllByRecursion IsProbe i.script
  pub next : AreNext (next_of i)
  pub state : AreOfState i.program (next_of i) (lines_of i)
  pub channels : (c : ℕ) → set.contains i.state.channels c ≡ true → (1 ≤ c) × (c < i.next_chan)
  pub generations : (t : ℕ) → map.contains_key i.generations t ≡ map.contains_key i.state.threads t

-- the bytes are the text of the image, which is right
pub record IsImageText (bytes : List ℕ) (i : Image) : Type 0 where
  pub bytes_are : bytes ≡ text_of_image i
  pub right : IsRight i
