-- The order in which the lines of a state stand.
use Rattle.std.specs.Prelude.{◌≡◌, Bool, true, false, nat_lt, List, [], ◌∷◌, Option, Some, None}
use Rattle.image_lines.specs.declared.line.Line.{Line}
use Rattle.image_lines.specs.declared.line.Line.TheVariants.{Chan, Ref, Out, Thread, End}

-- first the channels, then the references, then what was printed, then the threads; channels, references and threads by rising numbers
abbrev pub follows : Line → Line → Bool
follows (Chan c) (Chan d) = nat_lt c.0 d.0
follows (Chan c) l = true
follows (Ref r v) (Chan c) = false
follows (Ref r v) (Ref s w) = nat_lt r.0 s.0
follows (Ref r v) l = true
follows (Out v) (Chan c) = false
follows (Out v) (Ref r w) = false
follows (Out v) l = true
follows (Thread t g e) (Thread u h f) = nat_lt t.0 u.0
follows (Thread t g e) l = false
follows End l = false

-- any line may be the first
abbrev pub follows_last : Option Line → Line → Bool
follows_last None l = true
follows_last (Some before) l = follows before l

-- each line may stand behind the one before it
abbrev pub AreOrdered : Option Line → List Line → Type 0
AreOrdered last [] = Unit {0}
AreOrdered last (l ∷ ls) = (follows_last last l ≡ true) × AreOrdered (Some l) ls
