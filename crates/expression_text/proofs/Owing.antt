-- What is owed, in memory.
use Rattle.std.proofs.Common.{◌≡◌, ℕ, zero, suc, ◌+◌, ◌-◌, ◌<◌, ◌≤◌, Bool, true, false, List, [], ◌∷◌, ◌++◌, length, drop, get_or, add-one, drop-cons, Some, None, refl, sym, ap, subst, ◌∙◌, arith}
use Rattle.std.specs.Prelude.{◌==◌}
use Rattle.std.proofs.lemmas.Bool.{ne_eqb}
use Rattle.expression_text.specs.Shape as shape
use Rattle.expression_text.specs.Shape.{expression, val, item, many, next, after, is_done}
use Rattle.expression_text.specs.Owing.{owed, owed_onto, owed_by, AreSome, BeginsBy}
use Rattle.expression_text.specs.declared.shaping.Owed.{Owed}
use Rattle.expression_text.specs.declared.shaping.Owes.{Owes}
use Rattle.expression_text.specs.declared.word.Word.{Word}
use Rattle.expression_text.specs.declared.word.Word.TheVariants.{Do}

onto_last : (xs : List Owes) (x : Owes) (os : List shape.Owed) → owed_onto (xs ++ x ∷ []) os ≡ many x.count (owed x.what) (owed_onto xs os)
onto_last [] x os = refl
onto_last (y ∷ xs) x os = onto_last xs x (many y.count (owed y.what) os)

pub owed_last : (xs : List Owes) (x : Owes) → owed_by (xs ++ x ∷ []) ≡ many x.count (owed x.what) (owed_by xs)
owed_last xs x = onto_last xs x []

pub some_last : (xs : List Owes) (x : Owes) → AreSome xs → 1 ≤ x.count → AreSome (xs ++ x ∷ [])
some_last [] x all h = (h, tt)
some_last (y ∷ xs) x all h = (all.0, some_last xs x all.1 h)

pub some_front : (xs : List Owes) (x : Owes) → AreSome (xs ++ x ∷ []) → AreSome xs × (1 ≤ x.count)
some_front [] x all = (tt, all.0)
some_front (y ∷ xs) x all = let r = some_front xs x all.1 in ((all.0, r.0), r.1)

many_suc : (n k : ℕ) (o : shape.Owed) (os : List shape.Owed) → n ≡ k + 1 → many n o os ≡ o ∷ many k o os
many_suc n k o os h = ap (λ m. many m o os) (h ∙ add-one k)

-- one of the last is taken: its entry goes, or counts one less
pub taken_last : (front : List Owes) (x : Owes) → x.count ≡ 1 → owed_by (front ++ x ∷ []) ≡ owed x.what ∷ owed_by front
taken_last front x h = owed_last front x ∙ many_suc x.count 0 (owed x.what) (owed_by front) (h ∙ (omega arith))

pub taken_one : (front : List Owes) (x y : Owes) → y.what ≡ x.what → x.count ≡ y.count + 1 → owed_by (front ++ x ∷ []) ≡ owed x.what ∷ owed_by (front ++ y ∷ [])
taken_one front x y same h =
    owed_last front x ∙ many_suc x.count y.count (owed x.what) (owed_by front) h
    ∙ ap (λ (w : Owed). owed x.what ∷ many y.count (owed w) (owed_by front)) (sym same) ∙ ap (λ l. owed x.what ∷ l) (sym (owed_last front y))

many_some : (xs : List Owes) → ((o : shape.Owed) (os : List shape.Owed) → is_done (Some (owed_onto xs (o ∷ os))) ≡ false) → (n : ℕ) (w o : shape.Owed) (os : List shape.Owed) → is_done (Some (owed_onto xs (many n w (o ∷ os)))) ≡ false
many_some xs f zero w o os = f o os
many_some xs f (suc n) w o os = f w (many n w (o ∷ os))

onto_some : (xs : List Owes) (o : shape.Owed) (os : List shape.Owed) → is_done (Some (owed_onto xs (o ∷ os))) ≡ false
onto_some [] o os = refl
onto_some (x ∷ xs) o os = many_some xs (onto_some xs) x.count (owed x.what) o os

-- where something is owed, it isn't done
pub not_done : (x : Owes) (xs : List Owes) → 1 ≤ x.count → is_done (Some (owed_by (x ∷ xs))) ≡ false
not_done x xs h = ap (λ l. is_done (Some (owed_onto xs l))) (many_suc x.count (x.count - 1) (owed x.what) [] (omega (arith, h))) ∙ onto_some xs (owed x.what) (many (x.count - 1) (owed x.what) [])

none_false : (ws : List Word) → shape.shape None ws ≡ false
none_false [] = refl
none_false (w ∷ ws) = none_false ws

here : (words : List Word) (i : ℕ) (d : Word) → i < length words → drop i words ≡ get_or words i d ∷ drop (i + 1) words
here words i d lt = drop-cons words i d lt ∙ ap (λ n. get_or words i d ∷ drop n words) (sym (add-one i))

-- a word further
pub further : (words : List Word) (i : ℕ) (d : Word) (old mid new : List Owes) (what : Owed) (b : Bool) → i < length words → owed_by old ≡ owed what ∷ owed_by mid → BeginsBy (next (owed what) (get_or words i d) (owed_by mid)) (owed_by new) b → b ≡ true
    → shape.shape (Some (owed_by old)) (drop i words) ≡ shape.shape (Some (owed_by new)) (drop (i + 1) words)
further words i d old mid new what b lt took begins is =
    ap (shape.shape (Some (owed_by old))) (here words i d lt) ∙ ap (λ os. shape.shape (after (Some os) (get_or words i d)) (drop (i + 1) words)) took
    ∙ ap (λ o. shape.shape o (drop (i + 1) words)) (subst (BeginsBy (next (owed what) (get_or words i d) (owed_by mid)) (owed_by new)) is begins)

-- a word where nothing is owed, or that can't begin what is owed
pub too_long : (words : List Word) (i : ℕ) (old : List Owes) → i < length words → owed_by old ≡ [] → shape.shape (Some (owed_by old)) (drop i words) ≡ false
too_long words i old lt took =
    ap (shape.shape (Some (owed_by old))) (here words i Do lt) ∙ ap (λ os. shape.shape (after (Some os) (get_or words i Do)) (drop (i + 1) words)) took ∙ none_false (drop (i + 1) words)

pub unfit : (words : List Word) (i : ℕ) (d : Word) (old mid new : List Owes) (what : Owed) (b : Bool) → i < length words → owed_by old ≡ owed what ∷ owed_by mid → BeginsBy (next (owed what) (get_or words i d) (owed_by mid)) (owed_by new) b → b ≡ false → shape.shape (Some (owed_by old)) (drop i words) ≡ false
unfit words i d old mid new what b lt took begins is =
    ap (shape.shape (Some (owed_by old))) (here words i d lt) ∙ ap (λ os. shape.shape (after (Some os) (get_or words i d)) (drop (i + 1) words)) took
    ∙ ap (λ o. shape.shape o (drop (i + 1) words)) (subst (BeginsBy (next (owed what) (get_or words i d) (owed_by mid)) (owed_by new)) is begins) ∙ none_false (drop (i + 1) words)

-- what is pushed and popped
pub pushed : (old new : List Owes) (x : Owes) → new ≡ old ++ x ∷ [] → AreSome old → 1 ≤ x.count → AreSome new × (owed_by new ≡ many x.count (owed x.what) (owed_by old))
pushed old new x is all h = (subst AreSome (sym is) (some_last old x all h), ap owed_by is ∙ owed_last old x)

pub popped : (old new : List Owes) (x : Owes) → old ≡ new ++ x ∷ [] → AreSome old → x.count ≤ 1 → AreSome new × (owed_by old ≡ owed x.what ∷ owed_by new)
popped old new x is all h = let f = some_front new x (subst AreSome is all) in (f.0, ap owed_by is ∙ taken_last new x (omega (arith, f.1)))

pub lowered : (old mid new : List Owes) (x y : Owes) → old ≡ mid ++ x ∷ [] → new ≡ mid ++ y ∷ [] → AreSome old → y.what ≡ x.what → x.count ≡ y.count + 1 → 1 ≤ y.count → AreSome new × (owed_by old ≡ owed x.what ∷ owed_by new)
lowered old mid new x y is js all same h le =
    let f = some_front mid x (subst AreSome is all) in
    (subst AreSome (sym js) (some_last mid y f.0 le), ap owed_by is ∙ taken_one mid x y same h ∙ ap (λ l. owed x.what ∷ owed_by l) (sym js))

pub empty_is : (xs : List Owes) (n : ℕ) → n ≡ length xs → AreSome xs → (n == 0) ≡ is_done (Some (owed_by xs))
empty_is [] n h all = ap (λ k. k == 0) h
empty_is (x ∷ xs) n h all = ne_eqb n 0 (λ e. omega (arith, e, h)) ∙ sym (not_done x xs all.0)
