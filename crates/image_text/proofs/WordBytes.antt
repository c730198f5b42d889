-- The bytes of words are their pieces, each behind a blank.
use Rattle.std.proofs.Common.{◌≡◌, ℕ, ℤ, pos, negsuc, suc, ◌^◌, ◌<◌, true, false, not, eqb, List, [], ◌∷◌, ◌++◌, refl, sym, ap, ◌∙◌, arith, append_assoc}
use Rattle.std.specs.Prelude.{decimal, FitsSigned}
use Rattle.std.specs.Int.{w64}
use Rattle.std.specs.Fmt.{signed_decimal}
use Rattle.std.proofs.lemmas.Bool.{and_from, and_parts, ne_eqb}
use Rattle.std.proofs.lemmas.List.{append-nil}
use Rattle.std.proofs.lemmas.List.Concat.{flat_map-append}
use Rattle.stab_base.specs.declared.fault.Fault.TheVariants as fault
use Rattle.stab_code.specs.declared.head.Op.TheVariants.{Or, And, Eq, Ne, Lt, Le, Gt, Ge, Add, Sub, Mul, Div, Rem}
use Rattle.text_lines.specs.Lines.{separated, split}
use Rattle.text_lines.proofs.Numerals.{decimal_digits}
use Rattle.text_lines.proofs.Splits.{all_lack, lacks, lacks-digits, split-separated}
use Rattle.expression_text.specs.declared.word.Word.{Word}
use Rattle.expression_text.specs.declared.word.Word.TheVariants as w
use Rattle.expression_text.specs.WordText.{spaced, words_text}
use Rattle.image_text.specs.Range.{AreInRange, IsInRange, all_pieces, pieces}

pub number_lacks : (mark n : ℕ) → mark < 48 → n < 2 ^ 64 → lacks mark (decimal n) ≡ true
number_lacks mark n below small = lacks-digits mark (decimal n) below (decimal_digits n small)

pub one_lacks : (mark n : ℕ) → mark < 45 → n < 2 ^ 64 → all_lack mark (decimal n ∷ []) ≡ true
one_lacks mark n below small = and_from (lacks mark (decimal n)) true (number_lacks mark n (omega arith) small) refl

pub two_lack : (mark m n : ℕ) → mark < 45 → m < 2 ^ 64 → n < 2 ^ 64 → all_lack mark (decimal m ∷ decimal n ∷ []) ≡ true
two_lack mark m n below hm hn = and_from (lacks mark (decimal m)) (all_lack mark (decimal n ∷ [])) (number_lacks mark m (omega arith) hm) (one_lacks mark n below hn)

pub signed_lacks : (mark : ℕ) (z : ℤ) → mark < 45 → FitsSigned w64 z → all_lack mark (signed_decimal z ∷ []) ≡ true
signed_lacks mark (pos n) below fits = let small : n < 2 ^ 63 = fits.sfits in one_lacks mark n below (omega arith)
signed_lacks mark (negsuc n) below fits =
    let small : n < 2 ^ 63 = fits.sfits in
    let dash : eqb 45 mark ≡ false = ne_eqb 45 mark (λ same. omega arith) in
    and_from (lacks mark (signed_decimal (negsuc n))) true (and_from (not (eqb 45 mark)) (lacks mark (decimal (suc n))) (ap not dash) (number_lacks mark (suc n) (omega arith) (omega arith))) refl

pub lack_blanks : (word : Word) → IsInRange word → all_lack 32 (pieces word) ≡ true
lack_blanks (w.Truth true) h = refl
lack_blanks (w.Truth false) h = refl
lack_blanks w.Unit h = refl
lack_blanks w.Both h = refl
lack_blanks w.Do h = refl
lack_blanks w.If h = refl
lack_blanks w.Not h = refl
lack_blanks w.Neg h = refl
lack_blanks w.Pair h = refl
lack_blanks w.Fst h = refl
lack_blanks w.Snd h = refl
lack_blanks w.NewChan h = refl
lack_blanks w.NewRef h = refl
lack_blanks w.Get h = refl
lack_blanks w.Set h = refl
lack_blanks w.Send h = refl
lack_blanks w.Recv h = refl
lack_blanks w.Pick h = refl
lack_blanks w.Stabilize h = refl
lack_blanks w.Cut h = refl
lack_blanks w.Pin h = refl
lack_blanks (w.Print) h = refl
lack_blanks w.Probe h = refl
lack_blanks w.Attempt h = refl
lack_blanks (w.Fault fault.WrongKind) h = refl
lack_blanks (w.Fault fault.Overflow) h = refl
lack_blanks (w.Fault fault.ZeroDivisor) h = refl
lack_blanks (w.Fault fault.TooDeep) h = refl
lack_blanks (w.Fault fault.DeepValue) h = refl
lack_blanks (w.Fault fault.NoSection) h = refl
lack_blanks (w.Two Or) h = refl
lack_blanks (w.Two And) h = refl
lack_blanks (w.Two Eq) h = refl
lack_blanks (w.Two Ne) h = refl
lack_blanks (w.Two Lt) h = refl
lack_blanks (w.Two Le) h = refl
lack_blanks (w.Two Gt) h = refl
lack_blanks (w.Two Ge) h = refl
lack_blanks (w.Two Add) h = refl
lack_blanks (w.Two Sub) h = refl
lack_blanks (w.Two Mul) h = refl
lack_blanks (w.Two Div) h = refl
lack_blanks (w.Two Rem) h = refl
lack_blanks (w.Int z) h = signed_lacks 32 z (omega arith) h
lack_blanks (w.Text t) h = one_lacks 32 t.0 (omega arith) (omega arith)
lack_blanks (w.Var x) h = one_lacks 32 x (omega arith) (omega arith)
lack_blanks (w.Block n) h = one_lacks 32 n (omega arith) (omega arith)
lack_blanks (w.Let x) h = one_lacks 32 x (omega arith) (omega arith)
lack_blanks (w.Section m) h = one_lacks 32 m.0 (omega arith) (omega arith)
lack_blanks (w.Chan c) h = one_lacks 32 c.0 (omega arith) (omega arith)
lack_blanks (w.Ref r) h = one_lacks 32 r.0 (omega arith) (omega arith)
lack_blanks (w.Call f n) h = two_lack 32 f.0 n (omega arith) (omega arith) (omega arith)
lack_blanks (w.Spawn f n) h = two_lack 32 f.0 n (omega arith) (omega arith) (omega arith)
lack_blanks (w.Stable f n) h = two_lack 32 f.0 n (omega arith) (omega arith) (omega arith)

pub lack_feeds : (word : Word) → IsInRange word → all_lack 10 (pieces word) ≡ true
lack_feeds (w.Truth true) h = refl
lack_feeds (w.Truth false) h = refl
lack_feeds w.Unit h = refl
lack_feeds w.Both h = refl
lack_feeds w.Do h = refl
lack_feeds w.If h = refl
lack_feeds w.Not h = refl
lack_feeds w.Neg h = refl
lack_feeds w.Pair h = refl
lack_feeds w.Fst h = refl
lack_feeds w.Snd h = refl
lack_feeds w.NewChan h = refl
lack_feeds w.NewRef h = refl
lack_feeds w.Get h = refl
lack_feeds w.Set h = refl
lack_feeds w.Send h = refl
lack_feeds w.Recv h = refl
lack_feeds w.Pick h = refl
lack_feeds w.Stabilize h = refl
lack_feeds w.Cut h = refl
lack_feeds w.Pin h = refl
lack_feeds (w.Print) h = refl
lack_feeds w.Probe h = refl
lack_feeds w.Attempt h = refl
lack_feeds (w.Fault fault.WrongKind) h = refl
lack_feeds (w.Fault fault.Overflow) h = refl
lack_feeds (w.Fault fault.ZeroDivisor) h = refl
lack_feeds (w.Fault fault.TooDeep) h = refl
lack_feeds (w.Fault fault.DeepValue) h = refl
lack_feeds (w.Fault fault.NoSection) h = refl
lack_feeds (w.Two Or) h = refl
lack_feeds (w.Two And) h = refl
lack_feeds (w.Two Eq) h = refl
lack_feeds (w.Two Ne) h = refl
lack_feeds (w.Two Lt) h = refl
lack_feeds (w.Two Le) h = refl
lack_feeds (w.Two Gt) h = refl
lack_feeds (w.Two Ge) h = refl
lack_feeds (w.Two Add) h = refl
lack_feeds (w.Two Sub) h = refl
lack_feeds (w.Two Mul) h = refl
lack_feeds (w.Two Div) h = refl
lack_feeds (w.Two Rem) h = refl
lack_feeds (w.Int z) h = signed_lacks 10 z (omega arith) h
lack_feeds (w.Text t) h = one_lacks 10 t.0 (omega arith) (omega arith)
lack_feeds (w.Var x) h = one_lacks 10 x (omega arith) (omega arith)
lack_feeds (w.Block n) h = one_lacks 10 n (omega arith) (omega arith)
lack_feeds (w.Let x) h = one_lacks 10 x (omega arith) (omega arith)
lack_feeds (w.Section m) h = one_lacks 10 m.0 (omega arith) (omega arith)
lack_feeds (w.Chan c) h = one_lacks 10 c.0 (omega arith) (omega arith)
lack_feeds (w.Ref r) h = one_lacks 10 r.0 (omega arith) (omega arith)
lack_feeds (w.Call f n) h = two_lack 10 f.0 n (omega arith) (omega arith) (omega arith)
lack_feeds (w.Spawn f n) h = two_lack 10 f.0 n (omega arith) (omega arith) (omega arith)
lack_feeds (w.Stable f n) h = two_lack 10 f.0 n (omega arith) (omega arith) (omega arith)

pub lack_more : (mark : ℕ) (xs ys : List (List ℕ)) → all_lack mark xs ≡ true → all_lack mark ys ≡ true → all_lack mark (xs ++ ys) ≡ true
lack_more mark [] ys h k = k
lack_more mark (x ∷ xs) ys h k = let both = and_parts (lacks mark x) (all_lack mark xs) h in and_from (lacks mark x) (all_lack mark (xs ++ ys)) both.0 (lack_more mark xs ys both.1 k)

pub all_lack_blanks : (ws : List Word) → AreInRange ws → all_lack 32 (all_pieces ws) ≡ true
all_lack_blanks [] h = refl
all_lack_blanks (word ∷ ws) h = lack_more 32 (pieces word) (all_pieces ws) (lack_blanks word h.0) (all_lack_blanks ws h.1)

-- words are their pieces, each behind a blank
pub words_spaced : (ws : List Word) → words_text ws ≡ spaced (all_pieces ws)
words_spaced [] = refl
words_spaced (word ∷ ws) = ap (λ (t : List ℕ). spaced (pieces word) ++ t) (words_spaced ws) ∙ sym (flat_map-append (λ (t : List ℕ). 32 ∷ t) (pieces word) (all_pieces ws))

pub spaced_separated : (first : List ℕ) (ps : List (List ℕ)) → first ++ spaced ps ≡ separated 32 first ps
spaced_separated first [] = append-nil first
spaced_separated first (p ∷ ps) = ap (λ (t : List ℕ). first ++ (32 ∷ t)) (spaced_separated p ps)

-- the pieces of a line whose words stand behind its name and numbers
pub line_pieces : (first : List ℕ) (others : List (List ℕ)) (ws : List Word) → lacks 32 first ≡ true → all_lack 32 others ≡ true → AreInRange ws → split 32 ((first ++ spaced others) ++ words_text ws) ≡ first ∷ (others ++ all_pieces ws)
line_pieces first others ws h k range =
    ap (split 32) (
    append_assoc first (spaced others) (words_text ws)
    ∙ ap (λ (t : List ℕ). first ++ (spaced others ++ t)) (words_spaced ws)
    ∙ ap (λ (t : List ℕ). first ++ t) (sym (flat_map-append (λ (t : List ℕ). 32 ∷ t) others (all_pieces ws)))
    ∙ spaced_separated first (others ++ all_pieces ws))
    ∙ split-separated 32 first (others ++ all_pieces ws) h (lack_more 32 others (all_pieces ws) k (all_lack_blanks ws range))
