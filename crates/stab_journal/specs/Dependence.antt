-- When a step of a run depends on an earlier one, directly and by a chain.
use Rattle.std.specs.Prelude.{◌≡◌, ℕ, Bool, true, false, not, ◌&&◌, ◌||◌, List, [], ◌∷◌, ◌++◌, Option, Some, None}
use Rattle.std.specs.List.{list_any}
use Rattle.stab_journal.specs.declared.event.Label.{Label}
use Rattle.stab_journal.specs.declared.event.Numbered.{Numbered}
use Rattle.stab_journal.specs.Label.{actors, touched, written}
use Rattle.stab_journal.specs.Names.{read, has, is_at}

-- a thread that e touches acts in f
abbrev pub shares : Label → Label → Bool
shares e f = list_any (has (touched e)) (actors f)

-- one of the steps writes the reference
abbrev pub writes : ℕ → List Numbered → Bool
writes r [] = false
writes r (n ∷ ns) = is_at (written n.label) r || writes r ns

-- e writes the reference, and no step between does
abbrev pub writes_what : Label → List Numbered → Option ℕ → Bool
writes_what e between None = false
writes_what e between (Some r) = is_at (written e) r && not (writes r between)

-- f comes after e in the run and depends on it directly: a thread that e touches acts in f, or f reads a reference whose last write before f is e
pub record DependsOn (run : List Numbered) (e f : Numbered) : Type 0 where
  pub before : List Numbered
  pub between : List Numbered
  pub after : List Numbered
  pub is : run ≡ before ++ e ∷ (between ++ f ∷ after)
  pub how : (shares e.label f.label || writes_what e.label between (read f.label)) ≡ true

-- what depends on a step of which P holds has it too
abbrev pub IsUpward : (Numbered → Type 0) → List Numbered → Type 0
IsUpward P run = (e f : Numbered) → DependsOn run e f → P e → P f

-- a chain of direct dependences leads from the step numbered m, which itself is reached
pub data Reaches (run : List Numbered) (m : ℕ) : Numbered → Type 0 where
  itself : (before : List Numbered) (n : Numbered) (after : List Numbered) → run ≡ before ++ n ∷ after → m ≡ n.seq.0 → Reaches run m n
  link : (e f : Numbered) → Reaches run m e → DependsOn run e f → Reaches run m f
