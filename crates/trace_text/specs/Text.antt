-- The text of a history.
use Rattle.std.specs.Prelude.{◌≡◌, ◌⊎◌, ℕ, suc, Bool, cond, List, [], ◌∷◌, ◌++◌, length, codes, decimal}
use Rattle.std.specs.Fmt.{signed_decimal}
use Rattle.std.specs.FinSet.{FinSet, contains}
use Rattle.std.specs.Ordering.{nat_cmp}
use Rattle.stab_journal.specs.declared.event.Label.{Label}
use Rattle.stab_journal.specs.declared.event.Label.TheVariants.{Local, Spawn, NewChan, Comm, NewRef, Get, Set, Enter, Cut, Print, Probe, Refuse, Pin, Attempt}
use Rattle.stab_journal.specs.declared.event.What.{What}
use Rattle.stab_journal.specs.declared.event.What.TheVariants.{Step, Undo, Release}
use Rattle.stab_journal.specs.declared.event.Event.{Event}
use Rattle.stab_journal.specs.Journal.{Journal}
use Rattle.trace_text.specs.declared.form.Header.{Header}
use Rattle.trace_text.specs.declared.form.Header.TheVariants.{First, Second}
use Rattle.trace_text.specs.declared.form.Sign.{Sign}
use Rattle.trace_text.specs.declared.form.Sign.TheVariants as signs
use Rattle.trace_text.specs.declared.form.Verb.{Verb}
use Rattle.trace_text.specs.declared.form.Verb.TheVariants as verbs
use Rattle.trace_text.specs.declared.line.Entry.{Entry}
use Rattle.text_lines.specs.Lines.{separated}
use Rattle.trace_text.specs.Form.{header_text, sign_text, verb_text}

-- the verb and the numbers of a step
abbrev pub label_verb : Label → Verb
label_verb (Local t n) = verbs.Local
label_verb (Spawn t u) = verbs.Spawn
label_verb (NewChan t c) = verbs.NewChan
label_verb (Comm s r c) = verbs.Comm
label_verb (NewRef t r) = verbs.NewRef
label_verb (Get t r) = verbs.Get
label_verb (Set t r) = verbs.Set
label_verb (Enter t) = verbs.Enter
label_verb (Cut t) = verbs.Cut
label_verb (Print t) = verbs.Print
label_verb (Probe t i) = verbs.Probe
label_verb (Refuse t) = verbs.Refuse
label_verb (Pin t) = verbs.Pin
label_verb (Attempt t g) = verbs.Attempt

abbrev pub label_numbers : Label → List (List ℕ)
label_numbers (Local t n) = decimal t.0 ∷ decimal n ∷ []
label_numbers (Spawn t u) = decimal t.0 ∷ decimal u.0 ∷ []
label_numbers (NewChan t c) = decimal t.0 ∷ decimal c.0 ∷ []
label_numbers (Comm s r c) = decimal s.0 ∷ decimal r.0 ∷ decimal c.0 ∷ []
label_numbers (NewRef t r) = decimal t.0 ∷ decimal r.0 ∷ []
label_numbers (Get t r) = decimal t.0 ∷ decimal r.0 ∷ []
label_numbers (Set t r) = decimal t.0 ∷ decimal r.0 ∷ []
label_numbers (Enter t) = decimal t.0 ∷ []
label_numbers (Cut t) = decimal t.0 ∷ []
label_numbers (Print t) = decimal t.0 ∷ []
label_numbers (Probe t i) = decimal t.0 ∷ signed_decimal i ∷ []
label_numbers (Refuse t) = decimal t.0 ∷ []
label_numbers (Pin t) = decimal t.0 ∷ []
label_numbers (Attempt t g) = decimal t.0 ∷ decimal g ∷ []

-- the verb and the numbers of an event
abbrev pub verb_of : What → Verb
verb_of (Step label) = label_verb label
verb_of (Undo t m) = verbs.Undo
verb_of (Release k) = verbs.Release

abbrev pub numbers_of : What → List (List ℕ)
numbers_of (Step label) = label_numbers label
numbers_of (Undo t m) = decimal t.0 ∷ decimal m.0 ∷ []
numbers_of (Release k) = decimal k ∷ []

-- the sign of an event: a step's tells whether it is struck
abbrev pub sign_of : Bool → What → Sign
sign_of struck (Step label) = cond struck signs.Struck signs.Live
sign_of struck (Undo t m) = signs.Undone
sign_of struck (Release k) = signs.Released

-- words with one space between them
abbrev pub spaced : List ℕ → List (List ℕ) → List ℕ
spaced word words = separated 32 word words

-- the line of the event q: SIGN SEQ wWORKER VERB NUMBERS
abbrev pub event_line : ℕ → Entry → List ℕ
event_line q e =
    spaced (sign_text (sign_of e.struck e.event.what))
    (decimal q ∷ (119 ∷ decimal e.event.worker) ∷ verb_text (verb_of e.event.what) ∷ numbers_of e.event.what)

-- the lines of the events from q on
abbrev pub event_lines : ℕ → List Entry → List (List ℕ)
event_lines q [] = []
event_lines q (e ∷ es) = event_line q e ∷ event_lines (suc q) es

-- the last line: end COUNT
abbrev pub end_line : ℕ → List ℕ
end_line count = spaced (codes "end") (decimal count ∷ [])

-- every line ends with a line feed
abbrev pub ended : List (List ℕ) → List ℕ
ended [] = []
ended (line ∷ lines) = line ++ (10 ∷ ended lines)

-- the text of events: the header, a line for each of them, and the end
abbrev pub text : Header → List Entry → List ℕ
text header es = ended (header_text header ∷ (event_lines 1 es ++ (end_line (length es) ∷ [])))

-- the events of a journal from q on, each with whether it is struck
abbrev pub entries_from : FinSet nat_cmp → ℕ → List Event → List Entry
entries_from struck q [] = []
entries_from struck q (e ∷ es) = record { event = e; struck = contains struck q } ∷ entries_from struck (suc q) es

abbrev pub entries : Journal → List Entry
entries j = entries_from j.struck 1 j.events

-- the trace of a journal
abbrev pub trace : Journal → List ℕ
trace j = text Second (entries j)

-- no event is a release
abbrev pub IsNoRelease : What → Type 0
IsNoRelease (Release k) = ⊥
IsNoRelease _ = Unit {0}

abbrev pub NoRelease : List Entry → Type 0
NoRelease [] = Unit {0}
NoRelease (e ∷ es) = IsNoRelease e.event.what × NoRelease es

-- the bytes are the trace of these events, or would be with the second header and none is a release
abbrev pub IsTextOf : List ℕ → List Entry → Type 0
IsTextOf bytes es = (bytes ≡ text Second es) ⊎ (NoRelease es × (bytes ≡ text First es))
