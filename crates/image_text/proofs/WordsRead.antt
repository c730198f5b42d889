-- Words that are read from pieces are the words of these pieces.
use Rattle.std.proofs.Common.{◌≡◌, ℕ, pos, zero, suc, ◌≤◌, true, false, ◌&&◌, cond, List, [], ◌∷◌, ◌++◌, length, Option, Some, None, refl, sym, ap, subst, ◌∙◌, arith}
use Rattle.std.specs.Prelude.{decimal, codes}
use Rattle.std.specs.List.{AllByRecursion}
use Rattle.std.specs.Option.{option_map, option_and_then}
use Rattle.std.specs.Str.{bytes_eq}
use Rattle.std.proofs.lemmas.Bool.{and_from, and_parts, false≢true}
use Rattle.stab_base.specs.declared.fault.Fault.{Fault}
use Rattle.stab_base.specs.FaultName.{fault_name}
use Rattle.text_lines.proofs.Numerals.{IsNumber, number_in-some}
use Rattle.text_lines.specs.Table.{named_in}
use Rattle.trace_text.specs.Number.{signed_in}
use Rattle.trace_text.proofs.Lines.{named_in-some}
use Rattle.trace_text.proofs.Numerals.{signed_in-some}
use Rattle.expression_text.specs.declared.word.Word.{Word}
use Rattle.expression_text.specs.declared.word.Word.TheVariants as w
use Rattle.expression_text.specs.WordText.{name, numbers}
use Rattle.image_text.specs.declared.filling.Filled.{Filled}
use Rattle.image_text.specs.declared.names.Kind.{Kind}
use Rattle.image_text.specs.declared.names.Kind.TheVariants.{Int, Text, Chan, Ref, Var, Block, Let, Section}
use Rattle.image_text.specs.declared.names.Callee.{Callee}
use Rattle.image_text.specs.declared.names.Callee.TheVariants.{Call, Spawn, Stable}
use Rattle.image_text.specs.declared.names.Form.{Form}
use Rattle.image_text.specs.declared.names.Form.TheVariants.{Whole, Numbered, Failed, Called}
use Rattle.image_text.specs.Names.{fault_named, faults, form_named, forms}
use Rattle.image_text.specs.Range.{IsCount, IsInRange, pieces}
use Rattle.image_text.specs.Reading.{AreRead, Words, called, called_word, count_in, fill, fine, first_word, is_piece, name_in, nothing, numbered, onto, reading, with_count, with_number}
use Rattle.image_text.proofs.WordsWritten.{Found, failing, found_was, not_found, reading_none, reading_some, shorter}

-- the name of a form
abbrev kind_text : Kind → List ℕ
kind_text Int = codes "i"
kind_text Text = codes "s"
kind_text Chan = codes "c"
kind_text Ref = codes "r"
kind_text Var = codes "v"
kind_text Block = codes "b"
kind_text Let = codes "l"
kind_text Section = codes "sect"

abbrev callee_text : Callee → List ℕ
callee_text Call = codes "call"
callee_text Spawn = codes "spawn"
callee_text Stable = codes "stable"

abbrev form_text : Form → List ℕ
form_text (Whole word) = name word
form_text (Numbered k) = kind_text k
form_text Failed = codes "fault"
form_text (Called c) = callee_text c

-- a whole word has no numbers
abbrev IsBare : Form → Type 0
IsBare (Whole word) = (numbers word ≡ []) × IsInRange word
IsBare form = Unit {0}

-- what holds of each row of a table holds of what it has for a text
named_in-all : {T : Type 0} (P : T → Type 0) (rows : List (List ℕ × T)) (word : List ℕ) (x : T) → AllByRecursion (λ (row : List ℕ × T). P row.1) rows → named_in rows word ≡ Some x → P x
named_in-all P [] word x all e = absurd (let no : None ≡ Some x = e in cc)
named_in-all P (row ∷ rows) word x all given =
    (elim (bytes_eq row.0 word) as (λ b. cond b (Some row.1) (named_in rows word) ≡ Some x → P x) [
      | true ↦ λ e. let here : row.1 ≡ x = cc in subst P here all.0
      | false ↦ λ e. named_in-all P rows word x all.1 e
    ]) given

form_was : (n : List ℕ) (form : Form) → form_named n ≡ Some form → n ≡ form_text form
form_was n form e = named_in-some form_text forms n form (refl, (refl, (refl, (refl, (refl, (refl, (refl, (refl, (refl, (refl, (refl, (refl, (refl, (refl, (refl, (refl, (refl, (refl, (refl, (refl, (refl, (refl, (refl, (refl, (refl, (refl, (refl, (refl, (refl, (refl, (refl, (refl, (refl, (refl, (refl, (refl, (refl, (refl, (refl, (refl, (refl, (refl, (refl, (refl, (refl, (refl, (refl, (refl, (refl, tt))))))))))))))))))))))))))))))))))))))))))))))))) e

bare : (n : List ℕ) (form : Form) → form_named n ≡ Some form → IsBare form
bare n form e = named_in-all IsBare forms n form ((refl, tt), ((refl, tt), ((refl, tt), (tt, (tt, (tt, (tt, ((refl, tt), (tt, (tt, (tt, ((refl, tt), ((refl, tt), ((refl, tt), ((refl, tt), ((refl, tt), ((refl, tt), ((refl, tt), ((refl, tt), ((refl, tt), ((refl, tt), ((refl, tt), ((refl, tt), ((refl, tt), ((refl, tt), ((refl, tt), ((refl, tt), ((refl, tt), ((refl, tt), ((refl, tt), ((refl, tt), (tt, (tt, (tt, ((refl, tt), ((refl, tt), ((refl, tt), ((refl, tt), ((refl, tt), ((refl, tt), ((refl, tt), ((refl, tt), ((refl, tt), ((refl, tt), ((refl, tt), ((refl, tt), ((refl, tt), (tt, (tt, tt))))))))))))))))))))))))))))))))))))))))))))))))) e

fault_was : (n : List ℕ) (k : Fault) → fault_named n ≡ Some k → n ≡ fault_name k
fault_was n k e = named_in-some fault_name faults n k (refl, (refl, (refl, (refl, (refl, (refl, tt)))))) e

-- the pieces with which others begin are those of a word in range
pub record IsFirst (x : Filled) (ps rest : List (List ℕ)) : Type 0 where
  pub pieces_are : ps ≡ pieces x.word ++ rest
  pub range : IsInRange x.word
  pub counted : x.counted ≡ true

-- a number that was read: the piece is spelled so
number_was : {A : Type 0} (f : A → Word) (other : A) (o : Option A) (x : Filled) → with_number f other o ≡ x → x.whole ≡ true → (n : A) × (o ≡ Some n) × (x ≡ fine (f n))
number_was f other (Some n) x e whole = (n, refl, sym e)
number_was f other None x e whole = absurd (false≢true (ap (λ (y : Filled). y.whole) e ∙ whole))

counted_was : (f : ℕ → Word) (o : Option ℕ) (x : Filled) → with_count f o ≡ x → x.whole ≡ true → (n : ℕ) × (o ≡ Some n) × (x ≡ fine (f n))
counted_was f (Some n) x e whole = (n, refl, sym e)
counted_was f None x e whole = absurd (false≢true (ap (λ (y : Filled). y.whole) e ∙ whole))

count_was : (a : List ℕ) (n : ℕ) → count_in a ≡ Some n → IsNumber 0 4294967295 a n
count_was a n e = number_in-some 0 4294967295 a n (omega arith) e

name_was : (a : List ℕ) (n : ℕ) → name_in a ≡ Some n → IsNumber 1 4000000000 a n
name_was a n e = number_in-some 1 4000000000 a n (omega arith) e

-- a word of one number
one_number : (n a text : List ℕ) (ps : List (List ℕ)) (x : Filled) (word : Word) → x ≡ fine word → n ≡ name word → a ≡ text → numbers word ≡ text ∷ [] → IsInRange word → IsFirst x (n ∷ a ∷ ps) ps
one_number n a text ps x word is named spelled has range =
    subst (λ (y : Filled). IsFirst y (n ∷ a ∷ ps) ps) (sym is) (record {
      pieces_are = ap (λ (m : List ℕ). m ∷ a ∷ ps) named ∙ ap (λ (t : List ℕ). name word ∷ t ∷ ps) spelled ∙ ap (λ (ts : List (List ℕ)). name word ∷ (ts ++ ps)) (sym has);
      range = range;
      counted = refl;
    })

numbered_was : (k : Kind) (n a : List ℕ) (ps : List (List ℕ)) (x : Filled) → n ≡ kind_text k → numbered k a ≡ x → x.whole ≡ true → IsFirst x (n ∷ a ∷ ps) ps
numbered_was Int n a ps x named e whole =
    let r = number_was w.Int (pos 0) (signed_in a) x e whole in
    let is = signed_in-some a r.0 r.1 in
    one_number n a _ ps x (w.Int r.0) r.2 named is.spelled refl is.fits
numbered_was Text n a ps x named e whole =
    let r = number_was (λ (m : ℕ). w.Text (record { 0 = m })) 0 (count_in a) x e whole in
    let is = count_was a r.0 r.1 in
    one_number n a _ ps x (w.Text (record { 0 = r.0 })) r.2 named is.spelled refl is.high
numbered_was Chan n a ps x named e whole =
    let r = number_was (λ (m : ℕ). w.Chan (record { 0 = m })) 1 (name_in a) x e whole in
    let is = name_was a r.0 r.1 in
    one_number n a _ ps x (w.Chan (record { 0 = r.0 })) r.2 named is.spelled refl (is.low, is.high)
numbered_was Ref n a ps x named e whole =
    let r = number_was (λ (m : ℕ). w.Ref (record { 0 = m })) 1 (name_in a) x e whole in
    let is = name_was a r.0 r.1 in
    one_number n a _ ps x (w.Ref (record { 0 = r.0 })) r.2 named is.spelled refl (is.low, is.high)
numbered_was Var n a ps x named e whole =
    let r = number_was w.Var 0 (count_in a) x e whole in
    let is = count_was a r.0 r.1 in
    one_number n a _ ps x (w.Var r.0) r.2 named is.spelled refl is.high
numbered_was Block n a ps x named e whole =
    let r = counted_was w.Block (count_in a) x e whole in
    let is = count_was a r.0 r.1 in
    one_number n a _ ps x (w.Block r.0) r.2 named is.spelled refl is.high
numbered_was Let n a ps x named e whole =
    let r = number_was w.Let 0 (count_in a) x e whole in
    let is = count_was a r.0 r.1 in
    one_number n a _ ps x (w.Let r.0) r.2 named is.spelled refl is.high
numbered_was Section n a ps x named e whole =
    let r = number_was (λ (m : ℕ). w.Section (record { 0 = m })) 0 (count_in a) x e whole in
    let is = count_was a r.0 r.1 in
    one_number n a _ ps x (w.Section (record { 0 = r.0 })) r.2 named is.spelled refl is.high

-- a call whose numbers were read
two_were : (c : Callee) (f n : Option ℕ) (x : Filled) → called c f n ≡ x → x.whole ≡ true → (i : ℕ) × (j : ℕ) × (f ≡ Some i) × (n ≡ Some j) × (x ≡ fine (called_word c i j))
two_were c (Some i) (Some j) x e whole = (i, j, refl, refl, sym e)
two_were c None (Some j) x e whole = absurd (false≢true (ap (λ (y : Filled). y.whole) e ∙ whole))
two_were c (Some i) None x e whole = absurd (false≢true (ap (λ (y : Filled). y.whole) e ∙ whole))
two_were c None None x e whole = absurd (false≢true (ap (λ (y : Filled). y.whole) e ∙ whole))

call_pieces : (c : Callee) (i j : ℕ) → pieces (called_word c i j) ≡ callee_text c ∷ decimal i ∷ decimal j ∷ []
call_pieces Call i j = refl
call_pieces Spawn i j = refl
call_pieces Stable i j = refl

call_range : (c : Callee) (i j : ℕ) → IsCount i → IsCount j → IsInRange (called_word c i j)
call_range Call i j h k = (h, k)
call_range Spawn i j h k = (h, k)
call_range Stable i j h k = (h, k)

called_was : (c : Callee) (n a b : List ℕ) (ps : List (List ℕ)) (x : Filled) → n ≡ callee_text c → called c (count_in a) (count_in b) ≡ x → x.whole ≡ true → IsFirst x (n ∷ a ∷ b ∷ ps) ps
called_was c n a b ps x named e whole =
    let r = two_were c (count_in a) (count_in b) x e whole in
    let i = count_was a r.0 r.2 in
    let j = count_was b r.1 r.3 in
    subst (λ (y : Filled). IsFirst y (n ∷ a ∷ b ∷ ps) ps) (sym r.4) (record {
      pieces_are =
          ap (λ (m : List ℕ). m ∷ a ∷ b ∷ ps) named ∙ ap (λ (t : List ℕ). callee_text c ∷ t ∷ b ∷ ps) i.spelled ∙ ap (λ (t : List ℕ). callee_text c ∷ decimal r.0 ∷ t ∷ ps) j.spelled
          ∙ ap (λ (ts : List (List ℕ)). ts ++ ps) (sym (call_pieces c r.0 r.1));
      range = call_range c r.0 r.1 i.high j.high;
      counted = refl;
    })

filled_was : (form : Form) (n : List ℕ) (ps rest : List (List ℕ)) (x : Filled) → n ≡ form_text form → IsBare form → fill form ps ≡ Some (x, rest) → x.whole ≡ true → IsFirst x (n ∷ ps) rest
filled_was (Whole word) n ps rest x named is_bare e whole =
    let was = found_was (fine word) x ps rest e in
    let is = was.0 in
    let same = was.1 in
    subst (λ (y : Filled). IsFirst y (n ∷ ps) rest) is (record {
      pieces_are = ap (λ (m : List ℕ). m ∷ ps) named ∙ ap (λ (qs : List (List ℕ)). name word ∷ qs) same ∙ ap (λ (ts : List (List ℕ)). name word ∷ (ts ++ rest)) (sym is_bare.0);
      range = is_bare.1;
      counted = refl;
    })
filled_was (Numbered k) n [] rest x named is_bare e whole = not_found x rest e
filled_was (Numbered k) n (a ∷ ps) rest x named is_bare e whole =
    (elim (is_piece a) as (λ b. cond {A = Found} b (Some (numbered k a, ps)) None ≡ Some (x, rest) → IsFirst x (n ∷ a ∷ ps) rest) [
      | true ↦ λ h.
          let was = found_was (numbered k a) x ps rest h in
          subst (IsFirst x (n ∷ a ∷ ps)) was.1 (numbered_was k n a ps x named was.0 whole)
      | false ↦ λ h. not_found x rest h
    ]) e
filled_was Failed n [] rest x named is_bare e whole = not_found x rest e
filled_was Failed n (a ∷ ps) rest x named is_bare e whole =
    elim (fault_named a) as (λ o. fault_named a ≡ o → option_map (failing ps) o ≡ Some (x, rest) → IsFirst x (n ∷ a ∷ ps) rest) [
      | (Some k) ↦ λ at h.
          let was = found_was (fine (w.Fault k)) x ps rest h in
          subst (IsFirst x (n ∷ a ∷ ps)) was.1 (one_number n a _ ps x (w.Fault k) (sym was.0) named (fault_was a k at) refl tt)
      | None ↦ λ at h. not_found x rest h
    ] refl e
filled_was (Called c) n [] rest x named is_bare e whole = not_found x rest e
filled_was (Called c) n (a ∷ []) rest x named is_bare e whole = not_found x rest e
filled_was (Called c) n (a ∷ b ∷ ps) rest x named is_bare e whole =
    (elim (is_piece a && is_piece b) as (λ t. cond {A = Found} t (Some (called c (count_in a) (count_in b), ps)) None ≡ Some (x, rest) → IsFirst x (n ∷ a ∷ b ∷ ps) rest) [
      | true ↦ λ h.
          let was = found_was (called c (count_in a) (count_in b)) x ps rest h in
          subst (IsFirst x (n ∷ a ∷ b ∷ ps)) was.1 (called_was c n a b ps x named was.0 whole)
      | false ↦ λ h. not_found x rest h
    ]) e

-- the first word that was read
pub first_was : (ps rest : List (List ℕ)) (x : Filled) → first_word ps ≡ Some (x, rest) → x.whole ≡ true → IsFirst x ps rest
first_was [] rest x e whole = not_found x rest e
first_was (n ∷ ps) rest x e whole =
    elim (form_named n) as (λ o. form_named n ≡ o → option_and_then (λ form. fill form ps) o ≡ Some (x, rest) → IsFirst x (n ∷ ps) rest) [
      | (Some form) ↦ λ is h. filled_was form n ps rest x (form_was n form is) (bare n form is) h whole
      | None ↦ λ is h. not_found x rest h
    ] refl e

-- the first word and the others, which were read
were_behind : (ps rest : List (List ℕ)) (r : Words) (x : Filled) → ((qs : Words) → reading rest ≡ Some qs → qs.whole ≡ true → AreRead rest qs) → first_word ps ≡ Some (x, rest) → reading ps ≡ Some r → r.whole ≡ true → AreRead ps r
were_behind ps rest r x later is e whole =
    elim (reading rest) as (λ o. reading rest ≡ o → option_map (onto x) o ≡ Some r → AreRead ps r) [
      | (Some others) ↦ λ at h.
          let same : onto x others ≡ r = cc in
          let both = and_parts x.whole others.whole (ap (λ (y : Words). y.whole) same ∙ whole) in
          let first = first_was ps rest x is both.0 in
          let more = later others at both.1 in
          subst (AreRead ps) same (record {
            pieces_are = first.pieces_are ∙ ap (λ (qs : List (List ℕ)). pieces x.word ++ qs) more.pieces_are;
            range = (first.range, more.range);
            counted = and_from x.counted others.counted first.counted more.counted;
          })
      | None ↦ λ at h. absurd (let no : None ≡ Some r = h in cc)
    ] refl (sym (reading_some ps rest x is) ∙ e)

-- all words that were read
pub all_were : (k : ℕ) (ps : List (List ℕ)) (r : Words) → length ps ≤ k → reading ps ≡ Some r → r.whole ≡ true → AreRead ps r
all_were k [] r few e whole =
    let is : nothing ≡ r = cc in
    subst (AreRead []) is (record { pieces_are = refl; range = tt; counted = refl })
all_were zero (n ∷ ps) r few e whole = absurd (omega arith)
all_were (suc k) (n ∷ ps) r few e whole =
    elim (first_word (n ∷ ps)) as (λ o. first_word (n ∷ ps) ≡ o → AreRead (n ∷ ps) r) [
      | (Some x) ↦ λ is. were_behind (n ∷ ps) x.1 r x.0 (λ qs at all. all_were k x.1 qs (omega (arith, shorter (n ∷ ps) x.1 x.0 is)) at all) is e whole
      | None ↦ λ is. absurd (let no : None ≡ Some r = sym (reading_none n ps is) ∙ e in cc)
    ] refl
