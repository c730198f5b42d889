-- Lists of what parts have, with one part more, and the slots of lets among them.
use Rattle.std.proofs.Common.{◌≡◌, ℕ, zero, suc, ◌+◌, ◌≤◌, ◌⊎◌, inl, inr, Bool, true, false, cond, not, ◌==◌, eqb-true, List, [], ◌∷◌, ◌++◌, length, Option, Some, None, refl, sym, ap, subst, ◌∙◌, arith, append_assoc, append-nil}
use Rattle.std.specs.List.{All, filter, range_with_len}
use Rattle.std.specs.Prelude.{max, replicate, reverse}
use Rattle.std.proofs.lemmas.Bool.{true≢false}
use Rattle.std.proofs.lemmas.Bool.Decides.{eqb_tells}
use Rattle.std.proofs.lemmas.List.Elements.{All-append, All-cons, All-head, All-nil, All-tail}
use Rattle.stab_code.specs.declared.head.Head.{Head}
use Rattle.stab_code.specs.Syntax.{deepest, one_or_none, with_own, without, left_open}
use Rattle.stab_code.specs.Trees.{Tree, Trees, none, more, fold, fold_all}
use Rattle.stab_code.proofs.Lists.{All-left, All-right}
use Rattle.scope_check.specs.Scope.{in_order}
use Rattle.scope_check.proofs.Joined.{join, in_order-join}

-- ---- the values of parts

module _ {A : Type 0} (value : Head → List A → A) where
  fold_all-join : (a b : Trees) → fold_all value (join a b) ≡ fold_all value a ++ fold_all value b
  fold_all-join none b = refl
  fold_all-join (more t a) b = ap (λ rest. fold value t ∷ rest) (fold_all-join a b)

  -- the values of trees, of which the last comes first
  abbrev pub values : List Tree → List A
  values xs = fold_all value (in_order xs)

  pub values-next : (t : Tree) (xs : List Tree) → values (t ∷ xs) ≡ values xs ++ fold value t ∷ []
  values-next t xs = ap (fold_all value) (in_order-join xs (more t none)) ∙ fold_all-join (in_order xs) (more t none)

  length-fold_all : (ts : Trees) (us : Trees) → length (fold_all value (join ts us)) ≡ length (fold_all value ts) + length (fold_all value us)
  length-fold_all none us = omega arith
  length-fold_all (more t ts) us = omega (arith, length-fold_all ts us)

  pub length-values : (xs : List Tree) → length (values xs) ≡ length xs
  length-values [] = refl
  length-values (t ∷ xs) = ap length (ap (fold_all value) (in_order-join xs (more t none))) ∙ length-fold_all (in_order xs) (more t none) ∙ omega (arith, length-values xs)

pub deepest-last : (ds : List ℕ) (d : ℕ) → deepest (ds ++ d ∷ []) ≡ max (deepest ds) d
deepest-last [] d = omega arith
deepest-last (x ∷ ds) d = omega (arith, deepest-last ds d)

-- ---- the slots that parts have, each with the slot of its own let before it

pub with_own-item : (own : List (Option ℕ)) (parts : List (List ℕ)) (slot : Option ℕ) (part : List ℕ) → length own ≡ length parts → with_own (own ++ slot ∷ []) (parts ++ part ∷ []) ≡ with_own own parts ++ (one_or_none slot ++ part)
with_own-item [] [] slot part e = ap (λ l. one_or_none slot ++ l) (append-nil part)
with_own-item [] (x ∷ parts) slot part e = absurd (omega arith)
with_own-item (s ∷ own) [] slot part e = absurd (omega arith)
with_own-item (s ∷ own) (x ∷ parts) slot part e =
    ap (λ l. one_or_none s ++ (x ++ l)) (with_own-item own parts slot part (omega arith))
    ∙ ap (λ l. one_or_none s ++ l) (sym (append_assoc x (with_own own parts) (one_or_none slot ++ part)))
    ∙ sym (append_assoc (one_or_none s) (x ++ with_own own parts) (one_or_none slot ++ part))

pub with_own-last : (own : List (Option ℕ)) (parts : List (List ℕ)) (part : List ℕ) → length own ≤ length parts → with_own own (parts ++ part ∷ []) ≡ with_own own parts ++ part
with_own-last [] [] part h = append-nil part
with_own-last [] (x ∷ parts) part h = ap (λ l. x ++ l) (with_own-last [] parts part (omega arith)) ∙ sym (append_assoc x (with_own [] parts) part)
with_own-last (s ∷ own) [] part h = absurd (omega arith)
with_own-last (s ∷ own) (x ∷ parts) part h =
    ap (λ l. one_or_none s ++ (x ++ l)) (with_own-last own parts part (omega arith))
    ∙ ap (λ l. one_or_none s ++ l) (sym (append_assoc x (with_own own parts) part)) ∙ sym (append_assoc (one_or_none s) (x ++ with_own own parts) part)

-- ---- items without lets

none-own : (k : ℕ) (parts : List (List ℕ)) → with_own (replicate k None) parts ≡ with_own [] parts
none-own zero parts = refl
none-own (suc k) [] = refl
none-own (suc k) (x ∷ parts) = ap (λ l. x ++ l) (none-own k parts)

none-open : (k : ℕ) (parts : List (List ℕ)) → left_open (replicate k None) parts ≡ left_open [] parts
none-open zero parts = refl
none-open (suc k) [] = refl
none-open (suc k) (x ∷ parts) = ap (λ l. x ++ l) (none-open k parts)

-- whatever the parts, they have the same lets and leave the same slots open with these slots as with those
pub record AreSame (own slots : List (Option ℕ)) : Type 0 where
  pub lets : (parts : List (List ℕ)) → with_own own parts ≡ with_own slots parts
  pub opened : (parts : List (List ℕ)) → left_open own parts ≡ left_open slots parts

pub no-lets : (own slots : List (Option ℕ)) (k : ℕ) → own ≡ replicate k None → slots ≡ [] → AreSame own (reverse slots)
no-lets own slots k e empty =
    subst (λ o. AreSame o (reverse slots)) (sym e) (subst (λ s. AreSame (replicate k None) (reverse s)) (sym empty) (record { lets = none-own k; opened = none-open k }))

-- ---- the slots that parts leave open

abbrev pub IsAmong : ℕ → List (Option ℕ) → Type 0
IsAmong y [] = ⊥
IsAmong y (None ∷ own) = IsAmong y own
IsAmong y (Some x ∷ own) = (y ≡ x) ⊎ IsAmong y own

pub among-left : (y : ℕ) (own later : List (Option ℕ)) → IsAmong y own → IsAmong y (own ++ later)
among-left y [] later h = absurd h
among-left y (None ∷ own) later h = among-left y own later h
among-left y (Some x ∷ own) later h = elim h [ inl e ↦ inl e | inr rest ↦ inr (among-left y own later rest) ]

pub among-last : (y : ℕ) (own : List (Option ℕ)) → IsAmong y (own ++ Some y ∷ [])
among-last y [] = inl refl
among-last y (None ∷ own) = among-last y own
among-last y (Some x ∷ own) = inr (among-last y own)

module _ (x : ℕ) where
  keeps-case : (P : ℕ → Type 0) (y : ℕ) (ys : List ℕ) (same : Bool) → (y == x) ≡ same → ((y ≡ x → ⊥) → P y) → All P (filter (λ z. not (z == x)) ys) → All P (cond (not same) (y ∷ filter (λ z. not (z == x)) ys) (filter (λ z. not (z == x)) ys))
  keeps-case P y ys true e p all = all
  keeps-case P y ys false e p all =
      All-cons P y (filter (λ z. not (z == x)) ys) (p (elim (eqb_tells y x) [ inl w ↦ absurd (true≢false (sym w.0 ∙ e)) | inr w ↦ w.1 ])) all

  keeps : (P : ℕ → Type 0) (ys : List ℕ) → All (λ y. (y ≡ x → ⊥) → P y) ys → All P (filter (λ z. not (z == x)) ys)
  keeps P [] all = All-nil P
  keeps P (y ∷ ys) all =
      keeps-case P y ys (y == x) refl (All-head (λ y. (y ≡ x → ⊥) → P y) y ys all) (keeps P ys (All-tail (λ y. (y ≡ x → ⊥) → P y) y ys all))

  back-case : (P : ℕ → Type 0) (y : ℕ) (ys : List ℕ) (same : Bool) → (y == x) ≡ same → All P (cond (not same) (y ∷ filter (λ z. not (z == x)) ys) (filter (λ z. not (z == x)) ys)) → ((y ≡ x → ⊥) → P y) × All P (filter (λ z. not (z == x)) ys)
  back-case P y ys true e all = (λ other. absurd (other (eqb-true y x e)), all)
  back-case P y ys false e all = (λ _. All-head P y (filter (λ z. not (z == x)) ys) all, All-tail P y (filter (λ z. not (z == x)) ys) all)

  back : (P : ℕ → Type 0) (ys : List ℕ) → All P (filter (λ z. not (z == x)) ys) → All (λ y. (y ≡ x → ⊥) → P y) ys
  back P [] all = All-nil (λ y. (y ≡ x → ⊥) → P y)
  back P (y ∷ ys) all =
      let both = back-case P y ys (y == x) refl all in
      All-cons (λ y. (y ≡ x → ⊥) → P y) y ys both.0 (back P ys both.1)

pub All-mapped : (P Q : ℕ → Type 0) (ys : List ℕ) → ((y : ℕ) → P y → Q y) → All P ys → All Q ys
All-mapped P Q [] h all = All-nil Q
All-mapped P Q (y ∷ ys) h all = All-cons Q y ys (h y (All-head P y ys all)) (All-mapped P Q ys h (All-tail P y ys all))

All-nil-end : (P : ℕ → Type 0) (ys : List ℕ) → All P ys → All P (ys ++ [])
All-nil-end P ys all = subst (All P) (sym (append-nil ys)) all

-- what the last part leaves open, but for the lets before it
abbrev pub Left : (ℕ → Type 0) → List (Option ℕ) → ℕ → Type 0
Left P own y = (IsAmong y own → ⊥) → P y

pub open-last : (P : ℕ → Type 0) (own : List (Option ℕ)) (parts : List (List ℕ)) (part : List ℕ) → length own ≤ length parts → All P (left_open own parts) → All (Left P own) part → All P (left_open own (parts ++ part ∷ []))
open-last P [] [] part h all last = All-nil-end P part (All-mapped (Left P []) P part (λ y l. l (λ none. none)) last)
open-last P [] (x ∷ parts) part h all last =
    All-append P x (left_open [] (parts ++ part ∷ [])) (All-left P x (left_open [] parts) all) (open-last P [] parts part (omega arith) (All-right P x (left_open [] parts) all) last)
open-last P (s ∷ own) [] part h all last = absurd (omega arith)
open-last P (None ∷ own) (x ∷ parts) part h all last =
    All-append P x (left_open own (parts ++ part ∷ [])) (All-left P x (left_open own parts) all) (open-last P own parts part (omega arith) (All-right P x (left_open own parts) all) last)
open-last P (Some o ∷ own) (x ∷ parts) part h all last =
    let Q : ℕ → Type 0 = λ y. (y ≡ o → ⊥) → P y in
    let rest : All Q (left_open own (parts ++ part ∷ [])) =
    open-last Q own parts part (omega arith) (back o P (left_open own parts) (All-right P x (without (Some o) (left_open own parts)) all))
    (All-mapped (Left P (Some o ∷ own)) (Left Q own) part (λ y l outside other. l (λ among. elim among [ inl e ↦ other e | inr inside ↦ outside inside ])) last) in
    All-append P x (without (Some o) (left_open own (parts ++ part ∷ []))) (All-left P x (without (Some o) (left_open own parts)) all) (keeps o P (left_open own (parts ++ part ∷ [])) rest)

-- a let is open for nothing before it
pub open-item : (P : ℕ → Type 0) (own : List (Option ℕ)) (parts : List (List ℕ)) (slot : Option ℕ) (part : List ℕ) → length own ≡ length parts → All P (left_open own parts) → All (Left P own) part → All P (left_open (own ++ slot ∷ []) (parts ++ part ∷ []))
open-item P [] [] None part h all last = All-nil-end P part (All-mapped (Left P []) P part (λ y l. l (λ none. none)) last)
open-item P [] [] (Some o) part h all last = All-nil-end P part (All-mapped (Left P []) P part (λ y l. l (λ none. none)) last)
open-item P [] (x ∷ parts) slot part h all last = absurd (omega arith)
open-item P (s ∷ own) [] slot part h all last = absurd (omega arith)
open-item P (None ∷ own) (x ∷ parts) slot part h all last =
    All-append P x (left_open (own ++ slot ∷ []) (parts ++ part ∷ [])) (All-left P x (left_open own parts) all) (open-item P own parts slot part (omega arith) (All-right P x (left_open own parts) all) last)
open-item P (Some o ∷ own) (x ∷ parts) slot part h all last =
    let Q : ℕ → Type 0 = λ y. (y ≡ o → ⊥) → P y in
    let rest : All Q (left_open (own ++ slot ∷ []) (parts ++ part ∷ [])) =
    open-item Q own parts slot part (omega arith) (back o P (left_open own parts) (All-right P x (without (Some o) (left_open own parts)) all))
    (All-mapped (Left P (Some o ∷ own)) (Left Q own) part (λ y l outside other. l (λ among. elim among [ inl e ↦ other e | inr inside ↦ outside inside ])) last) in
    All-append P x (without (Some o) (left_open (own ++ slot ∷ []) (parts ++ part ∷ []))) (All-left P x (without (Some o) (left_open own parts)) all) (keeps o P (left_open (own ++ slot ∷ []) (parts ++ part ∷ [])) rest)

-- ---- slots in a row

no-step : (n : ℕ) → n + 0 ≡ n
no-step n = omega arith

none-first : (b : ℕ) → b ≡ 0 + b
none-first b = omega arith

one-step : (n a : ℕ) → n + suc a ≡ (n + 1) + a
one-step n a = omega arith

one-first : (a b : ℕ) → suc (a + b) ≡ suc a + b
one-first a b = omega arith

pub range-join : (from a b : ℕ) → range_with_len from a ++ range_with_len (from + a) b ≡ range_with_len from (a + b)
range-join from zero b = ap (λ n. range_with_len n b) (no-step from) ∙ ap (range_with_len from) (none-first b)
range-join from (suc a) b =
    ap (λ n. from ∷ (range_with_len (from + 1) a ++ range_with_len n b)) (one-step from a) ∙ ap (λ l. from ∷ l) (range-join (from + 1) a b) ∙ ap (range_with_len from) (one-first a b)
