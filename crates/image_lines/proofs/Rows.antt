-- Lines of a name and numbers, and answers that are faults.
use Rattle.std.proofs.Common.{◌≡◌, ℕ, Bool, true, false, not, eqb, List, [], ◌∷◌, ◌++◌, length, Result, Ok, Err, refl, sym, ap, ◌∙◌}
use Rattle.std.specs.Str.{bytes_eq}
use Rattle.std.proofs.lemmas.Bool.{false≢true}
use Rattle.std.proofs.lemmas.Slice.Eq.{bytes_eq-Decides}
use Rattle.text_lines.specs.Lines.{split}
use Rattle.text_lines.proofs.Splits.{all_lack, lacks, lacks-separated, pieces, rejoined, split-separated}
use Rattle.expression_text.specs.WordText.{spaced}
use Rattle.image_text.specs.declared.fault.LineFault.{LineFault}
use Rattle.image_text.specs.Reading.{is_piece}
use Rattle.image_text.proofs.WordBytes.{spaced_separated}

pub row_pieces : (first : List ℕ) (others : List (List ℕ)) → lacks 32 first ≡ true → all_lack 32 others ≡ true → split 32 (first ++ spaced others) ≡ first ∷ others
row_pieces first others h k = ap (split 32) (spaced_separated first others) ∙ split-separated 32 first others h k

pub row_lacks_feeds : (first : List ℕ) (others : List (List ℕ)) → lacks 10 first ≡ true → all_lack 10 others ≡ true → lacks 10 (first ++ spaced others) ≡ true
row_lacks_feeds first others h k = ap (lacks 10) (spaced_separated first others) ∙ lacks-separated 32 10 first others refl h k

-- bytes that have the same pieces are the same
pub same_bytes : (a b : List ℕ) → split 32 a ≡ split 32 b → a ≡ b
same_bytes a b h =
    let p = pieces 32 b in
    rejoined 32 a p.first p.others (h ∙ p.are) ∙ sym (rejoined 32 b p.first p.others p.are)

pub named_so : (name text : List ℕ) → bytes_eq name text ≡ true → name ≡ text
named_so name text h = (bytes_eq-Decides name text).0 h

pub ok_was : {X : Type 0} (a b : X) → ◌≡◌ {A = Result X LineFault} (Ok a) (Ok b) → a ≡ b
ok_was a b h = cc

pub no_ok : {X P : Type 0} (k : LineFault) (x : X) → ◌≡◌ {A = Result X LineFault} (Err k) (Ok x) → P
no_ok {X} k x h = absurd (let no : ◌≡◌ {A = Result X LineFault} (Err k) (Ok x) = h in cc)

-- a piece that isn't empty, and a test that failed
pub piece_there : (a : List ℕ) → false ≡ eqb (length a) 0 → is_piece a ≡ true
piece_there [] h = absurd (false≢true h)
piece_there (b ∷ bytes) h = refl

pub not_failed : (b : Bool) → false ≡ not b → b ≡ true
not_failed true h = refl
not_failed false h = absurd (false≢true h)

pub not_passed : (b : Bool) → true ≡ not b → b ≡ false
not_passed true h = absurd (false≢true (sym h))
not_passed false h = refl
