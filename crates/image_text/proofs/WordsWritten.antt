-- The pieces of words are read as the words.
use Rattle.std.proofs.Common.{◌≡◌, ℕ, ℤ, pos, negsuc, ◌^◌, ◌<◌, ◌≤◌, true, false, ◌&&◌, cond, List, [], ◌∷◌, ◌++◌, length, Option, Some, None, refl, ap, ◌∙◌, arith}
use Rattle.std.specs.Prelude.{decimal, FitsSigned}
use Rattle.std.specs.Option.{option_map, option_and_then}
use Rattle.std.specs.Int.{w64}
use Rattle.std.specs.Fmt.{signed_decimal}
use Rattle.std.proofs.lemmas.Bool.{and_from}
use Rattle.std.proofs.lemmas.Fmt.{decimal_nonempty}
use Rattle.stab_base.specs.declared.fault.Fault.{Fault}
use Rattle.stab_base.specs.declared.fault.Fault.TheVariants as fault
use Rattle.stab_code.specs.declared.head.Op.TheVariants.{Or, And, Eq, Ne, Lt, Le, Gt, Ge, Add, Sub, Mul, Div, Rem}
use Rattle.text_lines.proofs.Numerals.{number_in-decimal}
use Rattle.trace_text.proofs.Numerals.{signed_in-decimal}
use Rattle.expression_text.specs.declared.word.Word.{Word}
use Rattle.expression_text.specs.declared.word.Word.TheVariants as w
use Rattle.image_text.specs.declared.filling.Filled.{Filled}
use Rattle.image_text.specs.declared.names.Kind.{Kind}
use Rattle.image_text.specs.declared.names.Kind.TheVariants.{Int, Text, Chan, Ref, Var, Block, Let, Section}
use Rattle.image_text.specs.declared.names.Callee.{Callee}
use Rattle.image_text.specs.declared.names.Callee.TheVariants.{Call, Spawn, Stable}
use Rattle.image_text.specs.declared.names.Form.{Form}
use Rattle.image_text.specs.declared.names.Form.TheVariants.{Whole, Numbered, Failed, Called}
use Rattle.image_text.specs.Names.{fault_named, form_named}
use Rattle.image_text.specs.Range.{AreInRange, IsCount, IsInRange, IsName, all_pieces, pieces}
use Rattle.image_text.specs.Reading.{all_read, behind, behind_one, behind_two, called, called_word, count_in, fill, fine, first_word, is_piece, name_in, numbered, onto, read_on, reading, with_count, with_number}

-- a word and what is left
abbrev pub Found : Type 0
Found = Option (Filled × List (List ℕ))

abbrev pub failing : List (List ℕ) → Fault → Filled × List (List ℕ)
failing ps k = (fine (w.Fault k), ps)

-- a word and what is left, from what was found
pub found_was : (x y : Filled) (ps qs : List (List ℕ)) → ◌≡◌ {A = Found} (Some (x, ps)) (Some (y, qs)) → (x ≡ y) × (ps ≡ qs)
found_was x y ps qs h =
    let both : ◌≡◌ {A = Filled × List (List ℕ)} (x, ps) (y, qs) = cc in
    (ap (λ (p : Filled × List (List ℕ)). p.0) both, ap (λ (p : Filled × List (List ℕ)). p.1) both)

pub not_found : {P : Type 0} (x : Filled) (ps : List (List ℕ)) → ◌≡◌ {A = Found} None (Some (x, ps)) → P
not_found x ps h = absurd (let no : ◌≡◌ {A = Found} None (Some (x, ps)) = h in cc)

-- what stands behind a form is read behind it
behind_is : (form : Form) (ps rest : List (List ℕ)) (x : Filled) → fill form ps ≡ Some (x, rest) → behind form (reading ps) (behind_one ps) (behind_two ps) ≡ reading rest
behind_is (Whole word) ps rest x e = ap reading (found_was (fine word) x ps rest e).1
behind_is (Numbered k) [] rest x e = not_found x rest e
behind_is (Numbered k) (a ∷ ps) rest x e =
    (elim (is_piece a) as (λ b. cond {A = Found} b (Some (numbered k a, ps)) None ≡ Some (x, rest) → reading ps ≡ reading rest) [
      | true ↦ λ is. ap reading (found_was (numbered k a) x ps rest is).1
      | false ↦ λ is. not_found x rest is
    ]) e
behind_is Failed [] rest x e = not_found x rest e
behind_is Failed (a ∷ ps) rest x e =
    (elim (fault_named a) as (λ o. option_map (failing ps) o ≡ Some (x, rest) → reading ps ≡ reading rest) [
      | (Some k) ↦ λ is. ap reading (found_was (fine (w.Fault k)) x ps rest is).1
      | None ↦ λ is. not_found x rest is
    ]) e
behind_is (Called c) [] rest x e = not_found x rest e
behind_is (Called c) (a ∷ []) rest x e = not_found x rest e
behind_is (Called c) (a ∷ b ∷ ps) rest x e =
    (elim (is_piece a && is_piece b) as (λ t. cond {A = Found} t (Some (called c (count_in a) (count_in b), ps)) None ≡ Some (x, rest) → reading ps ≡ reading rest) [
      | true ↦ λ is. ap reading (found_was (called c (count_in a) (count_in b)) x ps rest is).1
      | false ↦ λ is. not_found x rest is
    ]) e

-- the first word, and then the others
pub reading_some : (ps rest : List (List ℕ)) (x : Filled) → first_word ps ≡ Some (x, rest) → reading ps ≡ option_map (onto x) (reading rest)
reading_some [] rest x e = not_found x rest e
reading_some (n ∷ ps) rest x e =
    (elim (form_named n) as (λ o. option_and_then (λ form. fill form ps) o ≡ Some (x, rest) → option_and_then (λ form. read_on (fill form ps) (behind form (reading ps) (behind_one ps) (behind_two ps))) o ≡ option_map (onto x) (reading rest)) [
      | (Some form) ↦ λ is. ap (λ (o : Option (Filled × List (List ℕ))). read_on o (behind form (reading ps) (behind_one ps) (behind_two ps))) is ∙ ap (option_map (onto x)) (behind_is form ps rest x is)
      | None ↦ λ is. not_found x rest is
    ]) e

pub reading_none : (n : List ℕ) (ps : List (List ℕ)) → first_word (n ∷ ps) ≡ None → reading (n ∷ ps) ≡ None
reading_none n ps e =
    (elim (form_named n) as (λ o. option_and_then (λ form. fill form ps) o ≡ None → option_and_then (λ form. read_on (fill form ps) (behind form (reading ps) (behind_one ps) (behind_two ps))) o ≡ None) [
      | (Some form) ↦ λ is. ap (λ (o : Option (Filled × List (List ℕ))). read_on o (behind form (reading ps) (behind_one ps) (behind_two ps))) is
      | None ↦ λ is. refl
    ]) e

-- what is behind a word is less
pub shorter : (ps rest : List (List ℕ)) (x : Filled) → first_word ps ≡ Some (x, rest) → length rest < length ps
shorter [] rest x e = not_found x rest e
shorter (n ∷ ps) rest x e =
    (elim (form_named n) as (λ o. option_and_then (λ form. fill form ps) o ≡ Some (x, rest) → length rest < length (n ∷ ps)) [
      | (Some form) ↦ λ is. let less : length rest ≤ length ps = by form ps is in omega (arith, less)
      | None ↦ λ is. not_found x rest is
    ]) e
  where
    by : (form : Form) (qs : List (List ℕ)) → fill form qs ≡ Some (x, rest) → length rest ≤ length qs
    by (Whole word) qs is = omega (arith, ap (λ (l : List (List ℕ)). length l) (found_was (fine word) x qs rest is).1)
    by (Numbered k) [] is = not_found x rest is
    by (Numbered k) (a ∷ qs) is =
        (elim (is_piece a) as (λ b. cond {A = Found} b (Some (numbered k a, qs)) None ≡ Some (x, rest) → length rest ≤ length (a ∷ qs)) [
          | true ↦ λ i. omega (arith, ap (λ (l : List (List ℕ)). length l) (found_was (numbered k a) x qs rest i).1)
          | false ↦ λ i. not_found x rest i
        ]) is
    by Failed [] is = not_found x rest is
    by Failed (a ∷ qs) is =
        (elim (fault_named a) as (λ o. option_map (failing qs) o ≡ Some (x, rest) → length rest ≤ length (a ∷ qs)) [
          | (Some k) ↦ λ i. omega (arith, ap (λ (l : List (List ℕ)). length l) (found_was (fine (w.Fault k)) x qs rest i).1)
          | None ↦ λ i. not_found x rest i
        ]) is
    by (Called c) [] is = not_found x rest is
    by (Called c) (a ∷ []) is = not_found x rest is
    by (Called c) (a ∷ b ∷ qs) is =
        (elim (is_piece a && is_piece b) as (λ t. cond {A = Found} t (Some (called c (count_in a) (count_in b), qs)) None ≡ Some (x, rest) → length rest ≤ length (a ∷ b ∷ qs)) [
          | true ↦ λ i. omega (arith, ap (λ (l : List (List ℕ)). length l) (found_was (called c (count_in a) (count_in b)) x qs rest i).1)
          | false ↦ λ i. not_found x rest i
        ]) is

pub count_reads : (n : ℕ) → IsCount n → count_in (decimal n) ≡ Some n
count_reads n h = number_in-decimal 0 4294967295 n (omega arith) h (omega arith)

pub name_reads : (n : ℕ) → IsName n → name_in (decimal n) ≡ Some n
name_reads n h = number_in-decimal 1 4000000000 n h.0 h.1 (omega arith)

some_piece : (a : List ℕ) → 0 < length a → is_piece a ≡ true
some_piece [] h = absurd (omega arith)
some_piece (b ∷ bytes) h = refl

pub count_piece : (n : ℕ) → IsCount n → is_piece (decimal n) ≡ true
count_piece n h = some_piece (decimal n) (decimal_nonempty n (omega arith))

pub name_piece : (n : ℕ) → IsName n → is_piece (decimal n) ≡ true
name_piece n h = some_piece (decimal n) (decimal_nonempty n (omega arith))

int_piece : (z : ℤ) → FitsSigned w64 z → is_piece (signed_decimal z) ≡ true
int_piece (pos n) fits = let small : n < 2 ^ 63 = fits.sfits in some_piece (decimal n) (decimal_nonempty n (omega arith))
int_piece (negsuc n) fits = refl

one_numbered : (k : Kind) (word : Word) (a : List ℕ) (ps : List (List ℕ)) → is_piece a ≡ true → numbered k a ≡ fine word → fill (Numbered k) (a ∷ ps) ≡ Some (fine word, ps)
one_numbered k word a ps piece is = ap (λ b. cond {A = Found} b (Some (numbered k a, ps)) None) piece ∙ ap (λ (x : Filled). Some (x, ps)) is

one_called : (c : Callee) (f n : ℕ) (ps : List (List ℕ)) → IsCount f → IsCount n → fill (Called c) (decimal f ∷ decimal n ∷ ps) ≡ Some (fine (called_word c f n), ps)
one_called c f n ps hf hn =
    ap (λ b. cond {A = Found} b (Some (called c (count_in (decimal f)) (count_in (decimal n)), ps)) None) (and_from (is_piece (decimal f)) (is_piece (decimal n)) (count_piece f hf) (count_piece n hn))
    ∙ ap (λ o. Some (called c o (count_in (decimal n)), ps)) (count_reads f hf)
    ∙ ap (λ o. Some (called c (Some f) o, ps)) (count_reads n hn)

-- the pieces of a word are read as it
pub one_written : (word : Word) (ps : List (List ℕ)) → IsInRange word → first_word (pieces word ++ ps) ≡ Some (fine word, ps)
one_written w.Unit ps h = refl
one_written (w.Truth true) ps h = refl
one_written (w.Truth false) ps h = refl
one_written (w.Int z) ps h = one_numbered Int (w.Int z) (signed_decimal z) ps (int_piece z h) (ap (with_number w.Int (pos 0)) (signed_in-decimal z h))
one_written (w.Text t) ps h = one_numbered Text (w.Text t) (decimal t.0) ps (count_piece t.0 h) (ap (with_number (λ (n : ℕ). w.Text (record { 0 = n })) 0) (count_reads t.0 h))
one_written (w.Chan c) ps h = one_numbered Chan (w.Chan c) (decimal c.0) ps (name_piece c.0 h) (ap (with_number (λ (n : ℕ). w.Chan (record { 0 = n })) 1) (name_reads c.0 h))
one_written (w.Ref r) ps h = one_numbered Ref (w.Ref r) (decimal r.0) ps (name_piece r.0 h) (ap (with_number (λ (n : ℕ). w.Ref (record { 0 = n })) 1) (name_reads r.0 h))
one_written w.Both ps h = refl
one_written (w.Var x) ps h = one_numbered Var (w.Var x) (decimal x) ps (count_piece x h) (ap (with_number w.Var 0) (count_reads x h))
one_written (w.Fault fault.WrongKind) ps h = refl
one_written (w.Fault fault.Overflow) ps h = refl
one_written (w.Fault fault.ZeroDivisor) ps h = refl
one_written (w.Fault fault.TooDeep) ps h = refl
one_written (w.Fault fault.DeepValue) ps h = refl
one_written (w.Fault fault.NoSection) ps h = refl
one_written (w.Block n) ps h = one_numbered Block (w.Block n) (decimal n) ps (count_piece n h) (ap (with_count w.Block) (count_reads n h))
one_written (w.Let x) ps h = one_numbered Let (w.Let x) (decimal x) ps (count_piece x h) (ap (with_number w.Let 0) (count_reads x h))
one_written w.Do ps h = refl
one_written w.If ps h = refl
one_written (w.Two Or) ps h = refl
one_written (w.Two And) ps h = refl
one_written (w.Two Eq) ps h = refl
one_written (w.Two Ne) ps h = refl
one_written (w.Two Lt) ps h = refl
one_written (w.Two Le) ps h = refl
one_written (w.Two Gt) ps h = refl
one_written (w.Two Ge) ps h = refl
one_written (w.Two Add) ps h = refl
one_written (w.Two Sub) ps h = refl
one_written (w.Two Mul) ps h = refl
one_written (w.Two Div) ps h = refl
one_written (w.Two Rem) ps h = refl
one_written w.Not ps h = refl
one_written w.Neg ps h = refl
one_written w.Pair ps h = refl
one_written w.Fst ps h = refl
one_written w.Snd ps h = refl
one_written (w.Call f n) ps h = one_called Call f.0 n ps h.0 h.1
one_written (w.Spawn f n) ps h = one_called Spawn f.0 n ps h.0 h.1
one_written (w.Stable f n) ps h = one_called Stable f.0 n ps h.0 h.1
one_written w.NewChan ps h = refl
one_written w.NewRef ps h = refl
one_written w.Get ps h = refl
one_written w.Set ps h = refl
one_written w.Send ps h = refl
one_written w.Recv ps h = refl
one_written w.Pick ps h = refl
one_written w.Stabilize ps h = refl
one_written w.Cut ps h = refl
one_written w.Pin ps h = refl
one_written (w.Print) ps h = refl
one_written w.Probe ps h = refl
one_written w.Attempt ps h = refl
one_written (w.Section m) ps h = one_numbered Section (w.Section m) (decimal m.0) ps (count_piece m.0 h) (ap (with_number (λ (n : ℕ). w.Section (record { 0 = n })) 0) (count_reads m.0 h))

-- the pieces of words in range are read as the words
pub all_written : (ws : List Word) → AreInRange ws → reading (all_pieces ws) ≡ Some (all_read ws)
all_written [] h = refl
all_written (word ∷ ws) h = reading_some (all_pieces (word ∷ ws)) (all_pieces ws) (fine word) (one_written word (all_pieces ws) h.0) ∙ ap (option_map (onto (fine word))) (all_written ws h.1)
