-- The marks and words of a trace, and how many numbers follow each word.
use Rattle.std.specs.Prelude.{ℕ, ◌&&◌, Bool, true, false, List, [], ◌∷◌, Option, codes}
use Rattle.text_lines.specs.Table.{named_in}
use Rattle.trace_text.specs.declared.form.Header.{Header}
use Rattle.trace_text.specs.declared.form.Header.TheVariants.{First, Second}
use Rattle.trace_text.specs.declared.form.Sign.{Sign}
use Rattle.trace_text.specs.declared.form.Sign.TheVariants.{Live, Struck, Undone, Released}
use Rattle.trace_text.specs.declared.form.Verb.{Verb}
use Rattle.trace_text.specs.declared.form.Verb.TheVariants.{Local, Spawn, NewChan, Comm, NewRef, Get, Set, Enter, Cut, Print, Probe, Refuse, Pin, Attempt, Undo, Release}

-- the first line
abbrev pub header_text : Header → List ℕ
header_text First = codes "stab trace 1"
header_text Second = codes "stab trace 2"

-- `+` and `-` for steps, `!` for an undo, `=` for a release
abbrev pub sign_text : Sign → List ℕ
sign_text Live = codes "+"
sign_text Struck = codes "-"
sign_text Undone = codes "!"
sign_text Released = codes "="

-- the words of events
abbrev pub verb_text : Verb → List ℕ
verb_text Local = codes "local"
verb_text Spawn = codes "spawn"
verb_text NewChan = codes "newchan"
verb_text Comm = codes "comm"
verb_text NewRef = codes "newref"
verb_text Get = codes "get"
verb_text Set = codes "set"
verb_text Enter = codes "enter"
verb_text Cut = codes "cut"
verb_text Print = codes "print"
verb_text Probe = codes "probe"
verb_text Refuse = codes "refuse"
verb_text Pin = codes "pin"
verb_text Attempt = codes "attempt"
verb_text Undo = codes "undo"
verb_text Release = codes "release"

-- how many numbers follow a word
abbrev pub arity : Verb → ℕ
arity Local = 2
arity Spawn = 2
arity NewChan = 2
arity Comm = 3
arity NewRef = 2
arity Get = 2
arity Set = 2
arity Enter = 1
arity Cut = 1
arity Print = 1
arity Probe = 2
arity Refuse = 1
arity Pin = 1
arity Attempt = 2
arity Undo = 2
arity Release = 1

-- `+` and `-` are signs of steps
abbrev pub is_step_sign : Sign → Bool
is_step_sign Live = true
is_step_sign Struck = true
is_step_sign _ = false

abbrev pub is_undo_sign : Sign → Bool
is_undo_sign Undone = true
is_undo_sign _ = false

abbrev pub is_release_sign : Sign → Bool
is_release_sign Released = true
is_release_sign _ = false

abbrev pub is_second : Header → Bool
is_second First = false
is_second Second = true

-- the sign stands before the verb: `!` before `undo`, `=` before `release`, and this under the second header alone
abbrev pub fits : Verb → Sign → Header → Bool
fits Undo sign header = is_undo_sign sign
fits Release sign header = is_release_sign sign && is_second header
fits _ sign header = is_step_sign sign

-- the header, the sign and the verb that a text is
abbrev pub headers : List (List ℕ × Header)
headers = (header_text Second, Second) ∷ (header_text First, First) ∷ []

abbrev pub header_named : List ℕ → Option Header
header_named text = named_in headers text

abbrev pub signs : List (List ℕ × Sign)
signs = (codes "+", Live) ∷ (codes "-", Struck) ∷ (codes "!", Undone) ∷ (codes "=", Released) ∷ []

abbrev pub sign_named : List ℕ → Option Sign
sign_named text = named_in signs text

abbrev pub verbs : List (List ℕ × Verb)
verbs =
    (codes "local", Local) ∷ (codes "spawn", Spawn) ∷ (codes "newchan", NewChan) ∷ (codes "comm", Comm)
    ∷ (codes "newref", NewRef) ∷ (codes "get", Get) ∷ (codes "set", Set) ∷ (codes "enter", Enter) ∷ (codes "cut", Cut)
    ∷ (codes "print", Print) ∷ (codes "probe", Probe) ∷ (codes "refuse", Refuse) ∷ (codes "pin", Pin)
    ∷ (codes "attempt", Attempt) ∷ (codes "undo", Undo) ∷ (codes "release", Release) ∷ []

abbrev pub verb_named : List ℕ → Option Verb
verb_named text = named_in verbs text
