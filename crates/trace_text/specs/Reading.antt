-- What a text is read as: events, or the first fault with its place.
use Rattle.std.specs.Prelude.{◌≡◌, ℕ, suc, ◌+◌, ◌-◌, ◌^◌, ◌==◌, ◌&&◌, Bool, true, false, nat_lt, List, [], ◌∷◌, ◌++◌, length, Option, Some, None, IsSome, option_map, Result, Ok, Err, codes, if◌then◌else◌}
use Rattle.std.specs.Option.{option_and_then}
use Rattle.std.specs.Str.{bytes_eq}
use Rattle.stab_journal.specs.declared.event.Event.{Event}
use Rattle.stab_journal.specs.declared.event.What.{What}
use Rattle.stab_journal.specs.declared.event.What.TheVariants.{Undo}
use Rattle.stab_journal.specs.Event.{IsEvent, label_of}
use Rattle.trace_text.specs.declared.fault.TraceFault.{TraceFault}
use Rattle.trace_text.specs.declared.fault.TraceFault.TheVariants.{BadLine, BadNumber, OutOfOrder, NoEnd, NoMemory}
use Rattle.trace_text.specs.declared.form.Header.{Header}
use Rattle.trace_text.specs.declared.form.Sign.{Sign}
use Rattle.trace_text.specs.declared.form.Sign.TheVariants.{Struck}
use Rattle.trace_text.specs.declared.line.Entry.{Entry}
use Rattle.trace_text.specs.declared.line.Line.{Line}
use Rattle.trace_text.specs.declared.line.Line.TheVariants as is
use Rattle.trace_text.specs.Form.{header_named}
use Rattle.text_lines.specs.Numeral.{number_in}
use Rattle.trace_text.specs.Shape.{Shape, is_word, seq_in, shape_of, what_of}
use Rattle.text_lines.specs.Lines.{split}

-- a step is struck by its sign
abbrev pub is_struck : Sign → Bool
is_struck Struck = true
is_struck _ = false

-- the mark of an undo is before the event q
abbrev pub is_in_order : ℕ → What → Bool
is_in_order q (Undo t m) = nat_lt m.0 q
is_in_order q _ = true

-- what is there, or else the line
abbrev pub or_line : {A : Type 0} → Option A → Line → (A → Line) → Line
or_line None line next = line
or_line (Some a) line next = next a

-- the number of a line and its event, where all numbers are spelled right and within their ranges
abbrev pub numbers : Shape → Option (ℕ × Event)
numbers s = option_and_then (λ seq. option_and_then (λ worker. option_map (λ what. (seq, record { worker = worker; what = what }))
    (what_of s.verb s.numbers)) (number_in 1 64 s.worker)) (seq_in s.seq)

-- the event where its number is the next one, q, and its mark is before it
abbrev pub in_place : ℕ → Sign → ℕ × Event → Line
in_place q sign x = if x.0 == q && is_in_order q x.1.what then is.Event (record { event = x.1; struck = is_struck sign }) else is.OutOfOrder

-- a line of an event: its numbers, and then their order
abbrev pub event_is : ℕ → Shape → Line
event_is q s = or_line (numbers s) is.BadNumber (in_place q s.sign)

-- an end line, where q is the number of the next event
abbrev pub end_is : ℕ → List ℕ → Line
end_is q count = or_line (number_in 0 (2 ^ 64 - 1) count) is.BadNumber (λ n. if n + 1 == q then is.End else is.OutOfOrder)

-- the words of an end line
abbrev pub is_end : List (List ℕ) → Bool
is_end (word ∷ count ∷ []) = bytes_eq word (codes "end") && is_word count
is_end _ = false

abbrev pub second : List (List ℕ) → List ℕ
second (word ∷ count ∷ words) = count
second _ = []

-- what a line is, by its words: one without a shape is a bad line, then its numbers are tested, then their order
abbrev pub line_is : Header → ℕ → List (List ℕ) → Line
line_is header q words =
    if is_end words then end_is q (second words)
    else or_line (shape_of header words) is.BadLine (event_is q)

-- the events before, and then those that are read
abbrev pub after : List Entry → Result (List Entry) TraceFault → Result (List Entry) TraceFault
after before (Ok es) = Ok (before ++ es)
after before (Err fault) = Err fault

-- behind the end line nothing may stand; its place is `at`
abbrev pub nothing_more : ℕ → List (List ℕ) → Result (List Entry) TraceFault
nothing_more at ([] ∷ []) = Ok []
nothing_more at _ = Err (BadLine at)

-- what comes of a line at `at`, where what follows begins at `next`
abbrev pub follow : Line → ℕ → ℕ → List (List ℕ) → Result (List Entry) TraceFault → Result (List Entry) TraceFault
follow is.BadLine at next lines others = Err (BadLine at)
follow is.BadNumber at next lines others = Err (BadNumber at)
follow is.OutOfOrder at next lines others = Err (OutOfOrder at)
follow is.End at next lines others = nothing_more next lines
follow (is.Event e) at next lines others = after (e ∷ []) others

-- the lines from the place `at` on, the next event being q; the last piece is no line, since no line feed ends it
abbrev pub read_lines : Header → ℕ → ℕ → List (List ℕ) → Result (List Entry) TraceFault
read_lines header at q [] = Err NoEnd
read_lines header at q (line ∷ []) = Err NoEnd
read_lines header at q (line ∷ next ∷ lines) =
    follow (line_is header q (split 32 line)) at (at + length line + 1) (next ∷ lines) (read_lines header (at + length line + 1) (suc q) (next ∷ lines))

-- the lines behind the header
abbrev pub read_behind : Option Header → ℕ → List (List ℕ) → Result (List Entry) TraceFault
read_behind None at lines = Err (BadLine 0)
read_behind (Some header) at lines = read_lines header at 1 lines

-- the header, and the lines behind it
abbrev pub read_text : List (List ℕ) → Result (List Entry) TraceFault
read_text [] = Err NoEnd
read_text (line ∷ []) = Err NoEnd
read_text (line ∷ next ∷ lines) = read_behind (header_named line) (length line + 1) (next ∷ lines)

-- The events that a text is read as, or its first fault.
abbrev pub reading : List ℕ → Result (List Entry) TraceFault
reading bytes = read_text (split 10 bytes)

-- an answer is what is meant; that memory was refused says nothing
abbrev pub Gives : {A : Type 0} → (A → List Entry) → Result A TraceFault → Result (List Entry) TraceFault → Type 0
Gives seen (Ok a) meant = meant ≡ Ok (seen a)
Gives seen (Err NoMemory) meant = Unit {0}
Gives seen (Err fault) meant = meant ≡ Err fault

-- what a line may stand for: an event in its range, and no struck one but a step
pub record IsEntryAt (q : ℕ) (e : Entry) : Type 0 where
  pub event : IsEvent q e.event
  pub struck : e.struck ≡ true → IsSome (label_of e.event.what)
