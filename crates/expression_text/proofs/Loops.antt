-- How the loops over parts and items go on.
use Rattle.std.proofs.Common.{◌≡◌, ℕ, suc, ◌+◌, ◌-◌, ◌<◌, List, [], ◌∷◌, ◌++◌, Option, Some, None, refl, sym, ap, ◌∙◌, append_assoc, append-nil, arith}
use Rattle.std.specs.Prelude.{option_map, option_and_then}
use Rattle.language.specs.Expression.{Expr}
use Rattle.expression_text.specs.declared.word.Word.{Word}
use Rattle.expression_text.specs.Reading.{Read, item_of, read_list, read_items}

-- what was read before, and what is read behind it
abbrev onto : List Expr → List Expr × List Word → List Expr × List Word
onto es q = (es ++ q.0, q.1)

abbrev before : Expr → List Expr × List Word → List Expr × List Word
before e q = (e ∷ q.0, q.1)

abbrev onto_items : List (Option ℕ) → List Expr → (List (Option ℕ) × List Expr) × List Word → (List (Option ℕ) × List Expr) × List Word
onto_items os es q = ((os ++ q.0.0, es ++ q.0.1), q.1)

abbrev before_items : Option ℕ → Expr → (List (Option ℕ) × List Expr) × List Word → (List (Option ℕ) × List Expr) × List Word
before_items x e q = ((x ∷ q.0.0, e ∷ q.0.1), q.1)

module _ (one : List Word → Read Expr) where
  -- of so many parts these are read, of which there are i, and the others are still to come
  abbrev pub InList : ℕ → List Word → List Expr → List Word → ℕ → Type 0
  InList count words es rest i = (k : ℕ) → i + k ≡ count → read_list one count words ≡ option_map (onto es) (read_list one k rest)

  same : (o : Read (List Expr)) → o ≡ option_map (onto []) o
  same None = refl
  same (Some q) = refl

  pub list_first : (count : ℕ) (words : List Word) → InList count words [] words 0
  list_first count words k at = ap (λ n. read_list one n words) (sym at ∙ (omega arith)) ∙ same (read_list one k words)

  further : (es : List Expr) (e : Expr) (o : Read (List Expr)) → option_map (onto es) (option_map (before e) o) ≡ option_map (onto (es ++ e ∷ [])) o
  further es e None = refl
  further es e (Some q) = ap (λ l. Some (l, q.1)) (sym (append_assoc es (e ∷ []) q.0))

  pub list_more : (count i : ℕ) (words rest behind : List Word) (es : List Expr) (e : Expr) → InList count words es rest i → one rest ≡ Some (e, behind) → InList count words (es ++ e ∷ []) behind (i + 1)
  list_more count i words rest behind es e h is k at =
      h (suc k) (omega (arith, at))
      ∙ ap (λ (o : Read Expr). option_map (onto es) (option_and_then (λ (p : Expr × List Word). option_map (before p.0) (read_list one k p.1)) o)) is
      ∙ further es e (read_list one k behind)

  pub list_none : (count i : ℕ) (words rest : List Word) (es : List Expr) → InList count words es rest i → i < count → one rest ≡ None → read_list one count words ≡ None
  list_none count i words rest es h lt is =
      h (suc (count - (i + 1))) (omega (arith, lt))
      ∙ ap (λ (o : Read Expr). option_map (onto es) (option_and_then (λ (p : Expr × List Word). option_map (before p.0) (read_list one (count - (i + 1)) p.1)) o)) is

  pub list_end : (count : ℕ) (words rest : List Word) (es : List Expr) → InList count words es rest count → read_list one count words ≡ Some (es, rest)
  list_end count words rest es h = h 0 (omega arith) ∙ ap (λ l. Some (l, rest)) (append-nil es)

  abbrev pub InItems : ℕ → List Word → List (Option ℕ) → List Expr → List Word → ℕ → Type 0
  InItems count words os es rest i = (k : ℕ) → i + k ≡ count → read_items one count words ≡ option_map (onto_items os es) (read_items one k rest)

  same_items : (o : Read (List (Option ℕ) × List Expr)) → o ≡ option_map (onto_items [] []) o
  same_items None = refl
  same_items (Some q) = refl

  pub items_first : (count : ℕ) (words : List Word) → InItems count words [] [] words 0
  items_first count words k at = ap (λ n. read_items one n words) (sym at ∙ (omega arith)) ∙ same_items (read_items one k words)

  further_items : (os : List (Option ℕ)) (x : Option ℕ) (es : List Expr) (e : Expr) (o : Read (List (Option ℕ) × List Expr))
      → option_map (onto_items os es) (option_map (before_items x e) o) ≡ option_map (onto_items (os ++ x ∷ []) (es ++ e ∷ [])) o
  further_items os x es e None = refl
  further_items os x es e (Some q) = ap (λ l. Some ((l, es ++ e ∷ q.0.1), q.1)) (sym (append_assoc os (x ∷ []) q.0.0)) ∙ ap (λ l. Some (((os ++ x ∷ []) ++ q.0.0, l), q.1)) (sym (append_assoc es (e ∷ []) q.0.1))

  -- one item
  goes : (k : ℕ) (os : List (Option ℕ)) (es : List Expr) (i : Read (Option ℕ)) → Read (List (Option ℕ) × List Expr)
  goes k os es i = option_map (onto_items os es) (option_and_then (λ (o : Option ℕ × List Word). option_and_then (λ (p : Expr × List Word). option_map (before_items o.0 p.0) (read_items one k p.1)) (one o.1)) i)

  pub items_more : (count i : ℕ) (words rest item behind : List Word) (os : List (Option ℕ)) (es : List Expr) (x : Option ℕ) (e : Expr) → InItems count words os es rest i → item_of rest ≡ Some (x, item) → one item ≡ Some (e, behind)
      → InItems count words (os ++ x ∷ []) (es ++ e ∷ []) behind (i + 1)
  unfolding goes
  items_more count i words rest item behind os es x e h at is k n =
      h (suc k) (omega (arith, n)) ∙ ap (goes k os es) at
      ∙ ap (λ (r : Read Expr). option_map (onto_items os es) (option_and_then (λ (p : Expr × List Word). option_map (before_items x p.0) (read_items one k p.1)) r)) is
      ∙ further_items os x es e (read_items one k behind)

  pub items_none : (count i : ℕ) (words rest : List Word) (os : List (Option ℕ)) (es : List Expr) → InItems count words os es rest i → i < count → item_of rest ≡ None → read_items one count words ≡ None
  unfolding goes
  items_none count i words rest os es h lt at = h (suc (count - (i + 1))) (omega (arith, lt)) ∙ ap (goes (count - (i + 1)) os es) at

  pub items_none_behind : (count i : ℕ) (words rest item : List Word) (os : List (Option ℕ)) (es : List Expr) (x : Option ℕ) → InItems count words os es rest i → i < count → item_of rest ≡ Some (x, item) → one item ≡ None → read_items one count words ≡ None
  unfolding goes
  items_none_behind count i words rest item os es x h lt at is =
      let k : ℕ = count - (i + 1) in
      h (suc k) (omega (arith, lt)) ∙ ap (goes k os es) at
      ∙ ap (λ (r : Read Expr). option_map (onto_items os es) (option_and_then (λ (p : Expr × List Word). option_map (before_items x p.0) (read_items one k p.1)) r)) is

  pub items_end : (count : ℕ) (words rest : List Word) (os : List (Option ℕ)) (es : List Expr) → InItems count words os es rest count → read_items one count words ≡ Some ((os, es), rest)
  items_end count words rest os es h = h 0 (omega arith) ∙ ap (λ l. Some ((l, es ++ []), rest)) (append-nil os) ∙ ap (λ l. Some ((os, l), rest)) (append-nil es)
