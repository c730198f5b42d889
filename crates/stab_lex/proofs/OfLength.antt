-- A spelling is found among the rows of its length.
use Rattle.std.proofs.Common.{◌≡◌, ℕ, Bool, true, false, List, [], ◌∷◌, length, Some, refl, sym, ap, ◌∙◌}
use Rattle.std.specs.Prelude.{◌==◌, if◌then◌else◌}
use Rattle.std.specs.Str.{bytes_eq}
use Rattle.std.proofs.lemmas.Bool.{false≢true, false_from_ne_true}
use Rattle.std.proofs.lemmas.Bool.Decides.{Decides-eqb}
use Rattle.std.proofs.lemmas.Slice.Eq.{bytes_eq-Decides}
use Rattle.stab_lex.specs.declared.kind.Kind.{Kind}
use Rattle.stab_lex.specs.Kinds.{kind_in}
use Rattle.stab_lex.specs.Steps.{of_length}

lengths_differ : (a b : List ℕ) → (length a == length b) ≡ false → bytes_eq a b ≡ false
lengths_differ a b differ = false_from_ne_true _ (λ same. false≢true (sym differ ∙ (Decides-eqb (length a) (length b)).1 (ap length ((bytes_eq-Decides a b).0 same))))

row_kept : (e : Bool) (row : List ℕ × Kind) (kept rest : List (List ℕ × Kind)) (s : List ℕ) → (e ≡ false → bytes_eq row.0 s ≡ false) → kind_in kept s ≡ kind_in rest s
    → kind_in (if e then row ∷ kept else kept) s ≡ kind_in (row ∷ rest) s
row_kept true row kept rest s h same = ap (λ o. if bytes_eq row.0 s then Some row.1 else o) same
row_kept false row kept rest s h same = same ∙ sym (ap (λ b. if b then Some row.1 else kind_in rest s) (h refl))

pub kind_of_length : (rows : List (List ℕ × Kind)) (s : List ℕ) → kind_in (of_length (length s) rows) s ≡ kind_in rows s
kind_of_length [] s = refl
kind_of_length (row ∷ rows) s = row_kept (length row.0 == length s) row (of_length (length s) rows) rows s (lengths_differ row.0 s) (kind_of_length rows s)
