-- What is packed in an entry of 16 bytes.
use Rattle.stab_journal.specs.Entry.{Entry}
use Rattle.stab_journal.specs.declared.entry.Note.{Note}
use Rattle.stab_journal.specs.declared.entry.Packed.{Packed}
use Rattle.stab_journal.specs.declared.entry.Packed.TheVariants as packed
use Rattle.stab_journal.specs.declared.event.Label.TheVariants as label
use Rattle.stab_journal.specs.declared.event.What.{What}
use Rattle.stab_journal.specs.declared.event.What.TheVariants.{Step, Undo, Release}

-- who made it, and whether it was struck
abbrev pub note_of : Packed → Note
note_of (packed.Local note t n) = note
note_of (packed.Spawn note t u) = note
note_of (packed.NewChan note t c) = note
note_of (packed.Comm note s r c) = note
note_of (packed.NewRef note t r) = note
note_of (packed.Get note t r) = note
note_of (packed.Set note t r) = note
note_of (packed.Enter note t) = note
note_of (packed.Cut note t) = note
note_of (packed.Print note t) = note
note_of (packed.Probe note t i) = note
note_of (packed.Refuse note t) = note
note_of (packed.Pin note t) = note
note_of (packed.Attempt note t g) = note
note_of (packed.Undo note t m) = note
note_of (packed.Release note k) = note

-- what happened
abbrev pub what_of : Packed → What
what_of (packed.Local note t n) = Step (label.Local t n)
what_of (packed.Spawn note t u) = Step (label.Spawn t u)
what_of (packed.NewChan note t c) = Step (label.NewChan t c)
what_of (packed.Comm note s r c) = Step (label.Comm s r c)
what_of (packed.NewRef note t r) = Step (label.NewRef t r)
what_of (packed.Get note t r) = Step (label.Get t r)
what_of (packed.Set note t r) = Step (label.Set t r)
what_of (packed.Enter note t) = Step (label.Enter t)
what_of (packed.Cut note t) = Step (label.Cut t)
what_of (packed.Print note t) = Step (label.Print t)
what_of (packed.Probe note t i) = Step (label.Probe t i)
what_of (packed.Refuse note t) = Step (label.Refuse t)
what_of (packed.Pin note t) = Step (label.Pin t)
what_of (packed.Attempt note t g) = Step (label.Attempt t g)
what_of (packed.Undo note t m) = Undo t m
what_of (packed.Release note k) = Release k

-- the event, and whether it was struck
abbrev pub entry_of : Packed → Entry
entry_of p = record { event = record { worker = (note_of p).worker; what = what_of p }; struck = (note_of p).struck }
