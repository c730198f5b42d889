-- What the lines of a state say.
use Rattle.std.specs.Prelude.{ℕ, List, [], ◌∷◌, ◌++◌, Option, Some, None}
use Rattle.std.specs.List.{filter_map}
use Rattle.stab_base.specs.Datum.{Datum}
use Rattle.stab_base.specs.declared.numbers.ChanId.{ChanId}
use Rattle.stab_base.specs.declared.numbers.RefId.{RefId}
use Rattle.stab_base.specs.declared.numbers.ThreadId.{ThreadId}
use Rattle.language.specs.Expression.{Expr}
use Rattle.image_lines.specs.declared.line.Line.{Line}
use Rattle.image_lines.specs.declared.line.Line.TheVariants.{Chan, Ref, Out, Thread}

abbrev pub channel_of : Line → Option ChanId
channel_of (Chan c) = Some c
channel_of l = None

abbrev pub reference_of : Line → Option (RefId × Datum)
reference_of (Ref r v) = Some (r, v)
reference_of l = None

abbrev pub output_of : Line → Option Datum
output_of (Out v) = Some v
output_of l = None

abbrev pub thread_of : Line → Option (ThreadId × Expr)
thread_of (Thread t g e) = Some (t, e)
thread_of l = None

abbrev pub generation_of : Line → Option (ℕ × ℕ)
generation_of (Thread t g e) = Some (t.0, g)
generation_of l = None

pub record Parts : Type 0 where
  pub channels : List ChanId
  pub references : List (RefId × Datum)
  pub output : List Datum
  pub threads : List (ThreadId × Expr)
  pub generations : List (ℕ × ℕ)

abbrev pub parts_from : List Line → Parts
parts_from ls = record {
  channels = filter_map channel_of ls;
  references = filter_map reference_of ls;
  output = filter_map output_of ls;
  threads = filter_map thread_of ls;
  generations = filter_map generation_of ls;
}

-- with what one line more says
abbrev pub with_line : Parts → Line → Parts
with_line p (Chan c) = record p { channels = p.channels ++ c ∷ [] }
with_line p (Ref r v) = record p { references = p.references ++ (r, v) ∷ [] }
with_line p (Out v) = record p { output = p.output ++ v ∷ [] }
with_line p (Thread t g e) = record p { threads = p.threads ++ (t, e) ∷ []; generations = p.generations ++ (t.0, g) ∷ [] }
with_line p l = p
