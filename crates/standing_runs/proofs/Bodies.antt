-- The bodies of a program's functions are whole and low.
use Rattle.std.proofs.Common.{◌≡◌, ℕ, zero, suc, ◌+◌, ◌<◌, ◌≤◌, ◌^◌, Bool, true, false, ◌||◌, not, nat_eq, List, [], ◌∷◌, ◌++◌, length, Option, Some, None, All, IfSome, IsSomeAnd, filter, map, option_map, slice_get, refl, sym, ap, subst, ◌∙◌, if◌then◌else◌, arith}
use Rattle.std.specs.List.{AllByRecursion}
use Rattle.std.proofs.lemmas.Bool.{false≢true, eqb-false, eqb-true}
use Rattle.std.proofs.lemmas.Bool.Decides.{nat_tests}
use Rattle.std.proofs.lemmas.List.Elements.{All-head, All-tail}
use Rattle.std.proofs.lemmas.List.Folds.{list_any-append}
use Rattle.stab_base.specs.Datum.{Datum}
use Rattle.stab_code.specs.declared.head.Head as code
use Rattle.stab_code.specs.declared.head.Head.TheVariants as code_head
use Rattle.stab_code.specs.EachForm.{AllForms, AllFormsIn, count_of}
use Rattle.stab_code.specs.Heads.{slots_of, text_of, variable_of}
use Rattle.stab_code.specs.Layout.{size_of, size_of_all}
use Rattle.stab_code.specs.Limits.{max_form_depth}
use Rattle.stab_code.specs.Program.{FunctionParts, ProgramParts, arity_of, body_of, tree_among, trees_among, trees_of}
use Rattle.stab_code.specs.Syntax.{depth_from, depth_of, deepest, left_open, one_or_none, open_from, open_in, without}
use Rattle.stab_code.specs.Trees.{Tree, Trees, tree, none as no_trees, more, fold_all}
use Rattle.stab_code.specs.Valid.{HasItem, IsValid, head_parts}
use Rattle.stab_code.proofs.AllForms.{HoldsOf, forms-bodies}
use Rattle.stab_code.proofs.InOrder.{size_of_bodies}
use Rattle.stab_code.proofs.Lists.{All-at}
use Rattle.language.specs.declared.head.Head.{Head}
use Rattle.language.specs.Expression.{Parts, put}
use Rattle.language.specs.Outcome.{called}
use Rattle.language.specs.Program.{body, body_by, expr_of, exprs_of, form_of}
use Rattle.expression_text.specs.Spelling.{arity, count}
use Rattle.standing_runs.specs.Numbers.{HasNumbers, NumbersFit}
use Rattle.standing_runs.specs.Whole.{bound_by, is_bound, IsValue, IsHead, IsForm, IsWhole, AreWhole, Takes}
use Rattle.standing_runs.proofs.Outcomes.{IsNew}
use Rattle.standing_runs.proofs.Putting.{height, heights, height_put, put_whole}

by_recursion : {A : Type 0} (P : A → Type 0) (xs : List A) → All P xs → AllByRecursion P xs
by_recursion P [] all = tt
by_recursion P (x ∷ xs) all = (All-head P x xs all, by_recursion P xs (All-tail P x xs all))

left_all : {A : Type 0} (P : A → Type 0) (xs ys : List A) → AllByRecursion P (xs ++ ys) → AllByRecursion P xs × AllByRecursion P ys
left_all P [] ys all = (tt, all)
left_all P (x ∷ xs) ys all = let more = left_all P xs ys all.1 in ((all.0, more.0), more.1)

-- the slots of so many parameters
abbrev slots_below : ℕ → List ℕ
slots_below zero = []
slots_below (suc n) = n ∷ slots_below n

bound_below : (n x : ℕ) → x < n → is_bound (slots_below n) x ≡ true
bound_below zero x lt = absurd (omega arith)
bound_below (suc n) x lt =
    elim (nat_eq n x) as (λ b. nat_eq n x ≡ b → (b || is_bound (slots_below n) x) ≡ true) [
      | true ↦ λ is. refl
      | false ↦ λ is.
          let other : n ≡ x → ⊥ = eqb-false n x is in
          bound_below n x (omega (arith, other))
    ] refl

below_bound : (n x : ℕ) → is_bound (slots_below n) x ≡ true → x < n
below_bound zero x h = absurd (false≢true h)
below_bound (suc n) x h =
    elim (nat_eq n x) as (λ b. nat_eq n x ≡ b → (b || is_bound (slots_below n) x) ≡ true → x < suc n) [
      | true ↦ λ is h.
          let same : n ≡ x = eqb-true n x is in
          omega arith
      | false ↦ λ is h. omega (arith, below_bound n x h)
    ] refl h

abbrev IsBound : List ℕ → ℕ → Type 0
IsBound bound x = is_bound bound x ≡ true

-- what is free behind a let is bound there
kept_or : (bound : List ℕ) (x y : ℕ) (b : Bool) → (b ≡ false → is_bound bound y ≡ true) → nat_eq x y ≡ b → is_bound (bound ++ x ∷ []) y ≡ true
kept_or bound x y true h is = list_any-append (λ z. nat_eq z y) bound (x ∷ []) ∙ ap (λ b. is_bound bound y || (b || false)) is ∙ or_true (is_bound bound y)
  where
    or_true : (b : Bool) → (b || true) ≡ true
    or_true true = refl
    or_true false = refl
kept_or bound x y false h is = list_any-append (λ z. nat_eq z y) bound (x ∷ []) ∙ ap (λ b. b || is_bound (x ∷ []) y) (h refl)

behind_let : (bound : List ℕ) (x : ℕ) (ys : List ℕ) → AllByRecursion (IsBound bound) (filter (λ slot. not (nat_eq slot x)) ys) → AllByRecursion (IsBound (bound ++ x ∷ [])) ys
behind_let bound x [] all = tt
behind_let bound x (y ∷ ys) all =
    elim (nat_eq y x) as (λ b. nat_eq y x ≡ b → AllByRecursion (IsBound bound) (if not b then y ∷ filter (λ slot. not (nat_eq slot x)) ys else filter (λ slot. not (nat_eq slot x)) ys) → AllByRecursion (IsBound (bound ++ x ∷ [])) (y ∷ ys)) [
      | true ↦ λ is all. (kept_or bound x y true (λ no. absurd (false≢true (sym no))) (same y x is), behind_let bound x ys all)
      | false ↦ λ is all. (kept_or bound x y (nat_eq x y) (λ no. all.0) refl, behind_let bound x ys all.1)
    ] refl all
  where
    same : (a b : ℕ) → nat_eq a b ≡ true → nat_eq b a ≡ true
    same a b is = grind (arith, nat_tests)

behind : (bound : List ℕ) (o : Option ℕ) (ys : List ℕ) → AllByRecursion (IsBound bound) (without o ys) → AllByRecursion (IsBound (bound_by bound o)) ys
behind bound None ys all = all
behind bound (Some x) ys all = behind_let bound x ys all

-- what each node of the program has
record IsNode (p : ProgramParts) (h : code.Head) (n : ℕ) : Type 0 where
  parts : head_parts p.functions h ≡ Some n
  item : HasItem h
  text : IfSome (text_of h) (λ t. t.0 < length p.texts)
  numbers : HasNumbers h

some_of : (a b : ℕ) → Some a ≡ Some b → b ≡ a
some_of a b is = cc

-- the function of a call takes its arguments
takes : (o : Option FunctionParts) (n : ℕ) → option_map arity_of o ≡ Some n → Takes o n
takes None n is = absurd (let no : None ≡ Some n = is in cc)
takes (Some f) n is = sym (some_of (arity_of f) n is)

count_exprs : (ts : Trees) → count (exprs_of ts) ≡ count_of ts
count_exprs no_trees = refl
count_exprs (more t ts) = ap suc (count_exprs ts)

some_size : (t : Tree) → 1 ≤ size_of t
some_size (tree h ts) = omega arith

count_size : (ts : Trees) → count_of ts ≤ size_of_all ts
count_size no_trees = omega arith
count_size (more t ts) = omega (arith, some_size t, count_size ts)

-- how deep the expression of a form is
form_height : (h : code.Head) (ps : Parts) → height (form_of h ps) ≤ heights ps + 1
form_height code_head.Unit ps = omega arith
form_height (code_head.Truth b) ps = omega arith
form_height (code_head.Int n) ps = omega arith
form_height (code_head.Text t) ps = omega arith
form_height (code_head.Var x) ps = omega arith
form_height h ps = omega arith

mutual
  tree_height : (t : Tree) → height (expr_of t) ≤ depth_of t
  tree_height (tree h ts) = omega (arith, form_height h (exprs_of ts), trees_height ts)

  trees_height : (ts : Trees) → heights (exprs_of ts) ≤ deepest (fold_all depth_from ts)
  trees_height no_trees = omega arith
  trees_height (more t ts) = omega (arith, tree_height t, trees_height ts)

-- a body is no larger than all bodies together
body_size : (trees : List Tree) (fs : List FunctionParts) (k : ℕ) (f : FunctionParts) → slice_get fs k ≡ Some f → size_of (tree_among trees f.body) ≤ size_of_all (trees_among trees (map (λ (g : FunctionParts). g.body) fs))
body_size trees [] k f found = absurd (let no : None ≡ Some f = found in cc)
body_size trees (g ∷ fs) zero f found =
    let same : g ≡ f = cc in
    subst (λ (x : FunctionParts). size_of (tree_among trees x.body) ≤ size_of_all (trees_among trees (map (λ (y : FunctionParts). y.body) (g ∷ fs)))) same (omega arith)
body_size trees (g ∷ fs) (suc k) f found = omega (arith, body_size trees fs k f found)

no_more : (vs : List Datum) (x : ℕ) → x < length vs → slice_get vs x ≡ None → ⊥
no_more [] x lt at = omega arith
no_more (v ∷ vs) zero lt at = let no : Some v ≡ None = at in cc
no_more (v ∷ vs) (suc x) lt at = no_more vs x (omega arith) at

module _ (p : ProgramParts) where
  form_is : (h : Head) (ps : Parts) (n : ℕ) → count ps ≡ n → n ≡ arity h n → n < 2 ^ 32 → IsHead p h n → IsForm p h (count ps)
  form_is h ps n same parts few head = subst (IsForm p h) (sym same) (record { parts = parts; few = few; head = head })

  form_whole : (bound : List ℕ) (h : code.Head) (ts : Trees) → IsNode p h (count_of ts) → count_of ts < 2 ^ 32 → AllByRecursion (IsBound bound) (open_from h (fold_all open_from ts)) → AreWhole p bound (slots_of h) (exprs_of ts) → IsWhole p bound (form_of h (exprs_of ts))
  form_whole bound code_head.Unit ts node few free parts = tt
  form_whole bound (code_head.Truth b) ts node few free parts = tt
  form_whole bound (code_head.Int n) ts node few free parts = node.numbers
  form_whole bound (code_head.Text t) ts node few free parts = node.text
  form_whole bound (code_head.Var x) ts node few free parts = (free.0, node.numbers)
  form_whole bound (code_head.Block []) ts node few free parts = absurd (let no : 0 < 0 = node.item in omega arith)
  form_whole bound (code_head.Block (s ∷ slots)) ts node few free parts = (form_is _ (exprs_of ts) (count_of ts) (count_exprs ts) (some_of _ _ node.parts) few node.numbers, parts)
  form_whole bound (code_head.Call f) ts node few free parts = (form_is _ (exprs_of ts) (count_of ts) (count_exprs ts) refl few (takes (slice_get p.functions f.0) (count_of ts) node.parts), parts)
  form_whole bound (code_head.Spawn f) ts node few free parts = (form_is _ (exprs_of ts) (count_of ts) (count_exprs ts) refl few (takes (slice_get p.functions f.0) (count_of ts) node.parts), parts)
  form_whole bound (code_head.Stable f) ts node few free parts = (form_is _ (exprs_of ts) (count_of ts) (count_exprs ts) refl few (takes (slice_get p.functions f.0) (count_of ts) node.parts), parts)
  form_whole bound h ts node few free parts = (form_is _ (exprs_of ts) (count_of ts) (count_exprs ts) (some_of _ _ node.parts) few tt, parts)

  mutual
    tree_whole : (bound : List ℕ) (t : Tree) → AllForms (IsNode p) t → size_of t < 2 ^ 32 → AllByRecursion (IsBound bound) (open_in t) → IsWhole p bound (expr_of t)
    tree_whole bound (tree h ts) forms few free =
        form_whole bound h ts forms.0 (omega (arith, count_size ts)) free
        (trees_whole bound (slots_of h) ts forms.1 (omega arith) (left_all (IsBound bound) (one_or_none (variable_of h)) (left_open (slots_of h) (fold_all open_from ts)) free).1)

    trees_whole : (bound : List ℕ) (items : List (Option ℕ)) (ts : Trees) → AllFormsIn (IsNode p) ts → size_of_all ts < 2 ^ 32 → AllByRecursion (IsBound bound) (left_open items (fold_all open_from ts)) → AreWhole p bound items (exprs_of ts)
    trees_whole bound items no_trees forms few free = tt
    trees_whole bound [] (more t ts) forms few free =
        let split = left_all (IsBound bound) (open_in t) (left_open [] (fold_all open_from ts)) free in
        (tree_whole bound t forms.0 (omega arith) split.0, trees_whole bound [] ts forms.1 (omega arith) split.1)
    trees_whole bound (o ∷ items) (more t ts) forms few free =
        let split = left_all (IsBound bound) (open_in t) (without o (left_open items (fold_all open_from ts))) free in
        (tree_whole bound t forms.0 (omega arith) split.0, trees_whole (bound_by bound o) items ts forms.1 (omega arith) (behind bound o (left_open items (fold_all open_from ts)) split.1))

  values_at : (vs : List Datum) → AllByRecursion (IsValue p) vs → (x : ℕ) (v : Datum) → slice_get vs x ≡ Some v → IsValue p v
  values_at [] all x v is = absurd (let no : None ≡ Some v = is in cc)
  values_at (w ∷ vs) all zero v is = let same : w ≡ v = cc in subst (IsValue p) same all.0
  values_at (w ∷ vs) all (suc x) v is = values_at vs all.1 x v is

  params_bound : (n : ℕ) (xs : List ℕ) → AllByRecursion (λ x. x < n) xs → AllByRecursion (IsBound (slots_below n)) xs
  params_bound n [] all = tt
  params_bound n (x ∷ xs) all = (bound_below n x all.0, params_bound n xs all.1)

  module _ (valid : IsValid p) (fit : NumbersFit p) where
    all_nodes : All (HoldsOf (IsNode p)) p.nodes
    all_nodes = λ k d lt. record { parts = valid.parts_fit k d lt; item = valid.blocks_have_items k d lt; text = valid.texts_there k d lt; numbers = fit k d lt }

    body_whole : (k : ℕ) (f : FunctionParts) → slice_get p.functions k ≡ Some f → IsWhole p (slots_below (arity_of f)) (expr_of (body_of p f))
    body_whole k f found =
        tree_whole (slots_below (arity_of f)) (body_of p f) (forms-bodies (IsNode p) p valid.nodes_in_order all_nodes k f found)
        (omega (arith, body_size (trees_of p.nodes) p.functions k f found, size_of_bodies p valid.nodes_in_order, valid.counts_within.1))
        (params_bound (arity_of f) (open_in (body_of p f)) (by_recursion (λ x. x < arity_of f) (open_in (body_of p f)) (All-at (λ (g : FunctionParts). All (λ slot. slot < arity_of g) (open_in (body_of p g))) p.functions k f valid.variables_seen found)))

    called_by : (vs : List Datum) (k : ℕ) (o : Option FunctionParts) → slice_get p.functions k ≡ o → Takes o (length vs) → AllByRecursion (IsValue p) vs → IsNew p (put (slice_get vs) (body_by p o))
    called_by vs k None found fits all = absurd fits
    called_by vs k (Some f) found fits all = record {
      whole =
          put_whole p (slice_get vs) (values_at vs all) (slots_below (arity_of f)) [] (λ x here at. absurd (no_more vs x (omega (arith, fits, below_bound (arity_of f) x here)) at)) (expr_of (body_of p f)) (body_whole k f found);
      low =
          omega (arith, height_put (slice_get vs) (expr_of (body_of p f)), tree_height (body_of p f), All-at (λ (g : FunctionParts). depth_of (body_of p g) ≤ max_form_depth) p.functions k f valid.depths_within found);
    }

    -- a function with values in place of its parameters
    pub body_new : (f : ℕ) (vs : List Datum) → Takes (slice_get p.functions f) (length vs) → AllByRecursion (IsValue p) vs → IsNew p (called (body p) f vs)
    body_new f vs fits all = called_by vs f (slice_get p.functions f) refl fits all

    main_takes : (o : Option FunctionParts) → IsSomeAnd o (λ f. f.takes ≡ []) → Takes o 0
    main_takes None h = h
    main_takes (Some f) h = ap length h

    pub main_new : IsNew p (called (body p) p.main.0 [])
    main_new = body_new p.main.0 [] (main_takes (slice_get p.functions p.main.0) valid.main_there) tt
