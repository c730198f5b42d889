-- Words that were read, before those that are still to be read.
use Rattle.std.proofs.Common.{◌≡◌, ℕ, Bool, true, false, ◌&&◌, List, [], ◌∷◌, ◌++◌, Option, Some, None, Bor, refl, sym, ap, ◌∙◌, append_assoc}
use Rattle.std.specs.Prelude.{is_some}
use Rattle.std.specs.Option.{option_copied, option_map}
use Rattle.std.proofs.lemmas.Bool.{false≢true}
use Rattle.std.proofs.lemmas.List.{append-nil}
use Rattle.text_lines.proofs.Splits.{pieces}
use Rattle.expression_text.specs.declared.word.Word.{Word}
use Rattle.image_text.specs.declared.filling.Filled.{Filled}
use Rattle.image_text.specs.Pieces.{pieces_left}
use Rattle.image_text.specs.Reading.{Words, first_word, nothing, onto, reading}
use Rattle.image_text.proofs.WordsWritten.{reading_none, reading_some}

-- the first words and then the others
abbrev pub before : Words → Words → Words
before a b = record { words = a.words ++ b.words; counted = a.counted && b.counted; whole = a.whole && b.whole }

abbrev pub made : List Word → Bool → Bool → Words
made words counted whole = record { words = words; counted = counted; whole = whole }

and_nested : (a b c : Bool) → (a && (b && c)) ≡ ((a && b) && c)
and_nested true b c = refl
and_nested false b c = refl

and_last : (a : Bool) → (a && true) ≡ a
and_last true = refl
and_last false = refl

same_words : (a b : List Word) (c d e f : Bool) → a ≡ b → c ≡ d → e ≡ f → made a c e ≡ made b d f
same_words a b c d e f p q r = ap (λ (ws : List Word). made ws c e) p ∙ ap (λ t. made b t e) q ∙ ap (λ t. made b d t) r

pub none_before : (o : Option Words) → o ≡ option_map (before nothing) o
none_before None = refl
none_before (Some r) = refl

pub none_behind : (f : Words) → before f nothing ≡ f
none_behind f = same_words (f.words ++ []) f.words (f.counted && true) f.counted (f.whole && true) f.whole (append-nil f.words) (and_last f.counted) (and_last f.whole)

one_before : (f g : Words) (x : Filled) (o : Option Words) → g.words ≡ f.words ++ x.word ∷ [] → g.counted ≡ (f.counted && x.counted) → g.whole ≡ (f.whole && x.whole) → option_map (before f) (option_map (onto x) o) ≡ option_map (before g) o
one_before f g x None p q r = refl
one_before f g x (Some others) p q r = ap Some (
    same_words (f.words ++ (x.word ∷ others.words)) (g.words ++ others.words) (f.counted && (x.counted && others.counted)) (g.counted && others.counted) (f.whole && (x.whole && others.whole)) (g.whole && others.whole)
    (sym (append_assoc f.words (x.word ∷ []) others.words) ∙ ap (λ (ws : List Word). ws ++ others.words) (sym p))
    (and_nested f.counted x.counted others.counted ∙ ap (λ t. t && others.counted) (sym q))
    (and_nested f.whole x.whole others.whole ∙ ap (λ t. t && others.whole) (sym r)))

-- one word more
pub one_more : (all : Option Words) (f g : Words) (ps rest : List (List ℕ)) (x : Filled) → all ≡ option_map (before f) (reading ps) → first_word ps ≡ Some (x, rest)
    → g.words ≡ f.words ++ x.word ∷ [] → g.counted ≡ (f.counted && x.counted) → g.whole ≡ (f.whole && x.whole) → all ≡ option_map (before g) (reading rest)
one_more all f g ps rest x so_far first p q r = so_far ∙ ap (option_map (before f)) (reading_some ps rest x first) ∙ one_before f g x (reading rest) p q r

-- where no word begins, there are no words
pub none_begins : (all : Option Words) (f : Words) (left : Option (Bor (List ℕ))) → all ≡ option_map (before f) (reading (pieces_left (option_copied left))) → is_some left ≡ true
    → first_word (pieces_left (option_copied left)) ≡ None → all ≡ None
none_begins all f None so_far some none = absurd (false≢true some)
none_begins all f (Some bytes) so_far some none =
    let p = pieces 32 bytes.now in
    so_far ∙ ap (λ (ps : List (List ℕ)). option_map (before f) (reading ps)) p.are
    ∙ ap (option_map (before f)) (reading_none p.first p.others (ap first_word (sym p.are) ∙ none))
