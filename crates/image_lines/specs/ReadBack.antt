-- What it is that lines are read back.
use Rattle.std.specs.Prelude.{◌≡◌, ℕ, ◌==◌, not, Bool, true, List, Result, Ok}
use Rattle.std.specs.List.{list_all}
use Rattle.text_lines.specs.Lines.{split}
use Rattle.image_text.specs.declared.fault.LineFault.{LineFault}

abbrev pub has_no_feed : List ℕ → Bool
has_no_feed bytes = list_all (λ b. not (b == 10)) bytes

-- each thing that is right is read from its text, in which there is no line feed, and from no other bytes
pub record IsReadBack {X : Type 0} (read : List (List ℕ) → Result X LineFault) (text : X → List ℕ) (IsRight : X → Type 0) : Type 0 where
  pub written : (x : X) → IsRight x → read (split 32 (text x)) ≡ Ok x
  pub whole : (x : X) → IsRight x → has_no_feed (text x) ≡ true
  pub exact : (bytes : List ℕ) (x : X) → read (split 32 bytes) ≡ Ok x → (bytes ≡ text x) × IsRight x
