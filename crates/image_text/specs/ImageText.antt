-- The text of an image, part by part: lines, each ended by a line feed.
use Rattle.std.specs.Prelude.{ℕ, ℤ, ◌-◌, List, [], ◌∷◌, ◌++◌, length, codes, decimal, unwrap_or}
use Rattle.std.specs.List.{flat_map}
use Rattle.std.specs.Fmt.{signed_decimal}
use Rattle.std.specs.Ordering.{nat_cmp}
use Rattle.std.specs.FinMap as map
use Rattle.std.specs.FinMap.{FinMap}
use Rattle.std.specs.FinSet as set
use Rattle.std.specs.FinSet.{FinSet}
use Rattle.stab_base.specs.Datum.{Datum}
use Rattle.language.specs.Expression.{Expr}
use Rattle.language.specs.Plain.{PlainState}
use Rattle.expression_text.specs.Spelling.{spell, spell_value}
use Rattle.expression_text.specs.WordText.{spaced, words_text}
use Rattle.image_text.specs.Rising.{those}

-- a line of bytes
abbrev pub line : List ℕ → List ℕ
line bytes = bytes ++ 10 ∷ []

-- a line of a name and numbers
abbrev pub row : List ℕ → List (List ℕ) → List ℕ
row name numbers = line (name ++ spaced numbers)

-- a line of a name, numbers, and words
abbrev pub long_row : List ℕ → List (List ℕ) → List ℕ → List ℕ
long_row name numbers words = line ((name ++ spaced numbers) ++ words)

-- what the text begins with: the program
abbrev pub program_text : List ℕ → List ℕ
program_text text = line (codes "stab image 1") ++ (row (codes "program") (decimal (length text) ∷ []) ++ line text)

-- the script, and how many probes were made
abbrev pub number_line : ℤ → List ℕ
number_line n = line (signed_decimal n)

abbrev pub probes_text : List ℤ → ℕ → List ℕ
probes_text script used = row (codes "probes") (decimal (length script) ∷ decimal used ∷ []) ++ flat_map number_line script

-- the cut, and the next numbers of threads, channels and references
abbrev pub next_text : ℕ → ℕ → ℕ → ℕ → List ℕ
next_text seq thread chan ref = row (codes "next") (decimal seq ∷ decimal thread ∷ decimal chan ∷ decimal ref ∷ [])

-- the channels, in the order of their numbers
abbrev pub channel_line : ℕ → List ℕ
channel_line c = row (codes "chan") (decimal c ∷ [])

-- the channels below this number
abbrev pub channels_text : FinSet nat_cmp → ℕ → List ℕ
channels_text channels next = flat_map channel_line (those (set.contains channels) 1 (next - 1))

-- the references and what they hold, in the order of their numbers
abbrev pub reference_line : ℕ × Datum → List ℕ
reference_line r = long_row (codes "ref") (decimal r.0 ∷ []) (words_text (spell_value r.1))

abbrev pub references_text : List (ℕ × Datum) → List ℕ
references_text rs = flat_map reference_line rs

-- the values that were printed, in their order
abbrev pub output_line : Datum → List ℕ
output_line v = long_row (codes "out") [] (words_text (spell_value v))

abbrev pub output_text : List Datum → List ℕ
output_text vs = flat_map output_line vs

-- the threads with their generations and expressions, in the order of their numbers
abbrev pub thread_line : FinMap nat_cmp ℕ → ℕ × Expr → List ℕ
thread_line generations t = long_row (codes "thread") (decimal t.0 ∷ decimal (unwrap_or (map.get generations t.0) 0) ∷ []) (words_text (spell t.1))

abbrev pub threads_text : FinMap nat_cmp ℕ → List (ℕ × Expr) → List ℕ
threads_text generations ts = flat_map (thread_line generations) ts

abbrev pub end_text : List ℕ
end_text = line (codes "end")

-- the lines of a state whose channels are below this number
abbrev pub state_text : FinMap nat_cmp ℕ → ℕ → PlainState → List ℕ
state_text generations next s =
    channels_text s.channels next ++ (references_text (map.entries s.references) ++ (output_text s.output ++ threads_text generations (map.entries s.threads)))
