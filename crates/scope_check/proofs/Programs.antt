-- The program that the definition gives is valid.
use Rattle.std.proofs.Common.{◌≡◌, ℕ, suc, ◌+◌, ◌-◌, ◌<◌, ◌≤◌, ◌^◌, Bool, true, false, List, [], ◌∷◌, ◌++◌, length, map, Option, Some, None, refl, sym, ap, subst, ◌∙◌, arith, length-append, inl, inr, eqb}
use Rattle.std.specs.Prelude.{Result, Ok, Err, IfOk, IsSomeAnd, slice_get, option_map, ⊤, if◌then◌else◌, codes, nat_le}
use Rattle.std.specs.List.{All, range_with_len, list_any}
use Rattle.std.proofs.lemmas.Bool.{true≢false}
use Rattle.std.proofs.lemmas.Bool.Decides.{eqb_tells, leb_tells}
use Rattle.std.proofs.lemmas.List.{length-map, map-append}
use Rattle.std.proofs.lemmas.List.Elements.{All-cons, All-nil}
use Rattle.std.proofs.lemmas.Option.{slice_get-map}
use Rattle.stab_code.specs.Layout.{own_node, own_nodes, nodes_of_all, size_of_all}
use Rattle.stab_code.specs.Limits.{max_form_depth}
use Rattle.stab_code.specs.Nodes.{NodeParts}
use Rattle.stab_code.specs.Program.{FunctionParts, ProgramParts, arity_of, body_of as body_tree, function_of, program_of, tree_among, trees_among, trees_of}
use Rattle.stab_code.specs.Syntax.{depth_of, lets_of, open_in}
use Rattle.stab_code.specs.Trees.{Tree, Trees, none, more}
use Rattle.stab_code.specs.Valid.{IsValid}
use Rattle.stab_code.specs.EachForm.{AllFormsIn}
use Rattle.stab_code.proofs.AllForms.{HoldsOf, nodes_of_all-forms}
use Rattle.stab_code.proofs.InOrder.{laid_out-bodies, laid_out-order}
use Rattle.stab_code.proofs.LaidOut.{length-nodes_of_all}
use Rattle.stab_parse.specs.declared.tree.Function.{Function}
use Rattle.stab_parse.specs.declared.tree.Param.{Param}
use Rattle.stab_parse.specs.Forms.{Form, form, Parts, no_parts, next_part, body_of}
use Rattle.stab_parse.specs.FormList.{depth_of as form_depth, depth_of_parts as parts_depth, deep_in, deep_in_parts, deep_in_program, functions_of, function_of as written_function, nodes_of, nodes_of_program}
use Rattle.stab_parse.specs.Grammar.{Program, no_functions, next_function, Function as Rule, function}
use Rattle.scope_check.specs.declared.fault.ScopeFault.{ScopeFault}
use Rattle.scope_check.specs.declared.fault.ScopeFault.TheVariants.{MainTakes}
use Rattle.scope_check.specs.declared.seen.Variable.{Variable}
use Rattle.scope_check.specs.Limits.{max_functions, max_texts}
use Rattle.scope_check.specs.Names.{is_same}
use Rattle.scope_check.specs.Scope.{after, first_fault, unless, in_order, Met, form_scoped, has_arity, main_found, main_of, function_named, Defined, function_defined, function_scoped, functions_scoped, function_fault, param_fault, program_scoped, twice}
use Rattle.scope_check.specs.Seen.{params_seen}
use Rattle.scope_check.specs.Sound.{IsSoundProgram}
use Rattle.scope_check.proofs.Joined.{join, in_order-join, own-join, size-join}
use Rattle.scope_check.proofs.Facts.{FormFacts, form-facts, AllForms-next}
use Rattle.scope_check.proofs.HeadFacts.{Agree, FormFits, IsSeen, arity-is}
use Rattle.scope_check.proofs.Sizes.{length-nodes_of}
use Rattle.scope_check.proofs.OwnSlots.{All-mapped, range-join}
use Rattle.scope_check.proofs.After.{IfOk-after}

-- ---- depths

none-left : {A : Type 0} (xs ys : List A) → xs ++ ys ≡ [] → xs ≡ []
none-left [] ys e = refl
none-left (x ∷ xs) ys e = absurd cc

none-right : {A : Type 0} (xs ys : List A) → xs ++ ys ≡ [] → ys ≡ []
none-right [] ys e = e
none-right (x ∷ xs) ys e = absurd cc

not-there : (at : ℕ) (b : Bool) → (if b then at ∷ [] else []) ≡ [] → b ≡ false
not-there at true e = absurd cc
not-there at false e = refl

less-deep : (d : ℕ) → d ≤ 200 → (d ≡ 200 → ⊥) → suc d ≤ 200
less-deep d h other = omega (arith, other)

mutual
  depth-within : (f : Form) → deep_in f ≡ [] → form_depth f ≤ max_form_depth
  depth-within (form at h parts) e =
      let inside = parts-within parts (none-left (deep_in_parts parts) (if eqb (parts_depth parts) 200 then at ∷ [] else []) e) in
      let other = not-there at (eqb (parts_depth parts) 200) (none-right (deep_in_parts parts) (if eqb (parts_depth parts) 200 then at ∷ [] else []) e) in
      elim (eqb_tells (parts_depth parts) 200) [ inl w ↦ absurd (true≢false (sym w.0 ∙ other)) | inr w ↦ less-deep (parts_depth parts) inside w.1 ]

  parts-within : (ps : Parts) → deep_in_parts ps ≡ [] → parts_depth ps ≤ max_form_depth
  parts-within no_parts e = omega arith
  parts-within (next_part ps f) e =
      let before = parts-within ps (none-left (deep_in_parts ps) (deep_in f) e) in
      let last = depth-within f (none-right (deep_in_parts ps) (deep_in f) e) in
      omega arith

-- ---- functions and their bodies

module _ (R : FunctionParts → Tree → Type 0) where
  abbrev AllBodies : List FunctionParts → Trees → Type 0
  AllBodies [] none = ⊤
  AllBodies (f ∷ fs) (more t ts) = R f t × AllBodies fs ts
  AllBodies _ _ = ⊥

  bodies-next : (fs : List FunctionParts) (ts : Trees) (f : FunctionParts) (t : Tree) → AllBodies fs ts → R f t → AllBodies (fs ++ f ∷ []) (join ts (more t none))
  bodies-next [] none f t all own = (own, tt)
  bodies-next [] (more u ts) f t all own = absurd all
  bodies-next (g ∷ fs) none f t all own = absurd all
  bodies-next (g ∷ fs) (more u ts) f t all own = (all.0, bodies-next fs ts f t all.1 own)

  bodies-at : (trees : List Tree) (fs : List FunctionParts) (ts : Trees) → trees_among trees (map (λ f. f.body) fs) ≡ ts → AllBodies fs ts → All (λ f. R f (tree_among trees f.body)) fs
  bodies-at trees [] ts e all = All-nil (λ f. R f (tree_among trees f.body))
  bodies-at trees (f ∷ fs) none e all = absurd all
  bodies-at trees (f ∷ fs) (more t ts) e all =
      let first : tree_among trees f.body ≡ t = cc in
      let others : trees_among trees (map (λ g. g.body) fs) ≡ ts = cc in
      All-cons (λ g. R g (tree_among trees g.body)) f fs (subst (R f) (sym first) all.0) (bodies-at trees fs ts others all.1)

-- what a function's body has
pub record BodyFits (f : FunctionParts) (t : Tree) : Type 0 where
  slots : range_with_len 0 (arity_of f) ++ lets_of t ≡ range_with_len 0 f.slots
  seen : All (λ slot. slot < arity_of f) (open_in t)
  depth : depth_of t ≤ max_form_depth

first-below : (z slot n k : ℕ) → slot + suc k ≤ n → z ≡ slot → z < n
first-below z slot n k h e = omega arith

params-below : (n slot : ℕ) (xs : List Param) (seen : List Variable) → slot + length xs ≤ n → ((y : ℕ) → IsSeen y seen → y < n) → (y : ℕ) → IsSeen y (params_seen slot xs seen) → y < n
params-below n slot [] seen h all y is = all y is
params-below n slot (x ∷ xs) seen h all y is =
    params-below n (slot + 1) xs (record { name = x.name; slot = slot } ∷ seen) (omega arith) (λ z zs. elim zs [ inl e ↦ first-below z slot n (length xs) h e | inr s ↦ all z s ]) y is

same-name : (m n : ℕ) (r : Rule) → (written_function m r).params ≡ (written_function n r).params
same-name m n (function f x o ps e q t b) = refl

zero-first : (n : ℕ) → n ≡ 0 + n
zero-first n = omega arith

no-first : (n : ℕ) → 0 + n ≤ n
no-first n = omega arith

plus-zero : (n : ℕ) → n + 0 ≡ 0 + n
plus-zero n = omega arith

no-less : (a n : ℕ) → a + (n - 0) ≡ a + n
no-less a n = omega arith

grew-below : {a b : ℕ} (n : ℕ) → b ≤ n → a ≤ b → a ≤ n
grew-below n h k = omega arith

sizes-on : (a b c d : ℕ) → a ≡ b → c ≡ d → a + (c + 0) ≡ b + d
sizes-on a b c d e f = omega arith

one-more-room : (before : List Function) (f : Function) → length before < max_functions → length (before ++ f ∷ []) ≤ max_functions
one-more-room before f h = omega (arith, length-append before (f ∷ []))

some-zero : (n : ℕ) → Some n ≡ Some 0 → n ≡ 0
some-zero n e = cc

no-more-than : (n : ℕ) → n ≤ n
no-more-than n = omega arith

same-lengths : (functions : List FunctionParts) (fs : List Function) → map arity_of functions ≡ map (λ f. length f.params) fs → length functions ≡ length fs
same-lengths functions fs e = sym (length-map functions arity_of) ∙ ap length e ∙ length-map fs (λ f. length f.params)

counted-functions : (functions : List FunctionParts) (fs : List Function) → length functions ≡ length fs → length fs ≤ max_functions → length functions < 2 ^ 32
counted-functions functions fs e h = omega arith

counted-nodes : (nodes : List NodeParts) (ts : Trees) → length nodes ≡ size_of_all ts → (n : ℕ) → size_of_all ts ≡ n → n < 2 ^ 32 → length nodes < 2 ^ 32
counted-nodes nodes ts e n f h = omega arith

counted-texts : (n : ℕ) → n ≤ max_texts → n < 2 ^ 32
counted-texts n h = omega arith

module _ (bytes : List ℕ) (fs : List Function) where
  pub record ProgramFacts (p : Program) (d : Defined) : Type 0 where
    arities : map arity_of d.functions ≡ map (λ f. length f.params) (functions_of p)
    bodies : map (λ f. f.body) d.functions ≡ own_nodes 0 (in_order d.trees)
    fit : AllBodies BodyFits d.functions (in_order d.trees)
    forms : (functions : List FunctionParts) → Agree fs functions → (n : ℕ) → length d.texts ≤ n → AllFormsIn (FormFits functions n) (in_order d.trees)
    texts : length d.texts ≤ max_texts
    size : size_of_all (in_order d.trees) ≡ length (nodes_of_program p)

  -- one function more
  body-fits : (d : Defined) (f : Function) (b : Form) (t : Tree × Met) → deep_in b ≡ [] → FormFacts fs (length f.params) (params_seen 0 f.params []) (record { lets = 0; texts = d.texts }) b t
      → BodyFits (function_of (map (λ x. x.ty) f.params) f.gives (length f.params + t.1.lets) (own_node (size_of_all (in_order d.trees)) t.0)) t.0
  body-fits d f b t deep facts =
      let arity : length (map (λ x. x.ty) f.params) ≡ length f.params = length-map f.params (λ x. x.ty) in
      record {
        slots = ap (λ n. range_with_len 0 n ++ lets_of t.0) arity ∙ ap (λ l. range_with_len 0 (length f.params) ++ l) facts.lets
            ∙ ap (λ n. range_with_len 0 (length f.params) ++ range_with_len n (t.1.lets - 0)) (plus-zero (length f.params)) ∙ range-join 0 (length f.params) (t.1.lets - 0)
            ∙ ap (range_with_len 0) (no-less (length f.params) t.1.lets);
        seen = subst (λ n. All (λ slot. slot < n) (open_in t.0)) (sym arity)
            (All-mapped (λ y. IsSeen y (params_seen 0 f.params [])) (λ y. y < length f.params) (open_in t.0)
            (params-below (length f.params) 0 f.params [] (no-first (length f.params)) (λ y nobody. absurd nobody)) facts.opened);
        depth = subst (λ n. n ≤ max_form_depth) (sym facts.depth) (depth-within b deep);
      }

  program-next : (p : Program) (r : Rule) (d : Defined) (t : Tree × Met) → deep_in (body_of r) ≡ [] → ProgramFacts p d
      → FormFacts fs (length (written_function 0 r).params) (params_seen 0 (written_function 0 r).params []) (record { lets = 0; texts = d.texts }) (body_of r) t
      → ProgramFacts (next_function p r) (function_defined d (written_function 0 r) t)
  program-next p r d t deep facts own =
      let f = written_function 0 r in
      let n = length (nodes_of_program (next_function p r)) in
      let new = function_of (map (λ x. x.ty) f.params) f.gives (length f.params + t.1.lets) (own_node (size_of_all (in_order d.trees)) t.0) in
      record {
        arities = map-append arity_of d.functions (new ∷ []) ∙ ap (λ l. l ++ length (map (λ x. x.ty) f.params) ∷ []) facts.arities
            ∙ ap (λ k. map (λ g. length g.params) (functions_of p) ++ k ∷ []) (length-map f.params (λ x. x.ty) ∙ ap length (same-name 0 n r))
            ∙ sym (map-append (λ g. length g.params) (functions_of p) (written_function n r ∷ []));
        bodies = map-append (λ g. g.body) d.functions (new ∷ []) ∙ ap (λ l. l ++ new.body ∷ []) facts.bodies
            ∙ ap (λ k. own_nodes 0 (in_order d.trees) ++ own_node k t.0 ∷ []) (zero-first (size_of_all (in_order d.trees)))
            ∙ sym (ap (own_nodes 0) (in_order-join d.trees (more t.0 none)) ∙ own-join 0 (in_order d.trees) (more t.0 none));
        fit = subst (AllBodies BodyFits (d.functions ++ new ∷ [])) (sym (in_order-join d.trees (more t.0 none))) (bodies-next BodyFits d.functions (in_order d.trees) new t.0 facts.fit (body-fits d f (body_of r) t deep own));
        forms = λ functions agree k h. AllForms-next (FormFits functions k) t.0 d.trees (own.forms functions agree k h) (facts.forms functions agree k (grew-below k h own.texts.more));
        texts = own.texts.within facts.texts;
        size = ap size_of_all (in_order-join d.trees (more t.0 none)) ∙ size-join (in_order d.trees) (more t.0 none)
            ∙ sizes-on (size_of_all (in_order d.trees)) (length (nodes_of_program p)) _ (length (nodes_of (body_of r))) facts.size (own.size ∙ sym (length-nodes_of (body_of r))) ∙ sym (length-append (nodes_of_program p) (nodes_of (body_of r)));
      }

  program-facts : (p : Program) → IsSoundProgram bytes p → deep_in_program p ≡ [] → IfOk (functions_scoped bytes fs p) (ProgramFacts p)
  program-facts no_functions sound deep = record {
    arities = refl;
    bodies = refl;
    fit = tt;
    forms = λ functions agree n h. tt;
    texts = omega arith;
    size = refl;
  }
  program-facts (next_function p r) sound deep =
      let f = written_function 0 r in
      IfOk-after (functions_scoped bytes fs p) (λ d. function_scoped bytes fs d f (body_of r)) (ProgramFacts p) (ProgramFacts (next_function p r))
      (program-facts p sound.0 (none-left (deep_in_program p) (deep_in (body_of r)) deep)) (λ d facts.
      IfOk-after (form_scoped bytes fs (length f.params) (params_seen 0 f.params []) (record { lets = 0; texts = d.texts }) (body_of r)) (λ t. Ok (function_defined d f t))
      (FormFacts fs (length f.params) (params_seen 0 f.params []) (record { lets = 0; texts = d.texts }) (body_of r)) (ProgramFacts (next_function p r))
      (form-facts fs (length f.params) bytes (body_of r) sound.1 (params_seen 0 f.params []) (record { lets = 0; texts = d.texts })) (λ t own.
      program-next p r d t (none-right (deep_in_program p) (deep_in (body_of r)) deep) facts own))

-- ---- the functions

passed : (b c : Bool) (x y : ScopeFault) (o next : Option ScopeFault) → (if b then Some x else if c then Some y else first_fault o next) ≡ None → (b ≡ false) × (next ≡ None)
passed true c x y o next e = absurd cc
passed false true x y o next e = absurd cc
passed false false x y None next e = (refl, e)
passed false false x y (Some z) next e = absurd cc

pub few-functions : (bytes : List ℕ) (before rest : List Function) → function_fault bytes before rest ≡ None → length before ≤ max_functions → length before + length rest ≤ max_functions
few-functions bytes before [] e h = omega arith
few-functions bytes before (f ∷ fs) e h =
    let step = passed (nat_le max_functions (length before)) (list_any (λ g. is_same bytes f.name g.name) before) _ (twice f.name) (param_fault bytes [] f.params) (function_fault bytes (before ++ f ∷ []) fs) e in
    let room : length before < max_functions = elim (leb_tells max_functions (length before)) [ inl w ↦ absurd (true≢false (sym w.0 ∙ step.0)) | inr w ↦ w.1 ] in
    let rest = few-functions bytes (before ++ f ∷ []) fs step.1 (one-more-room before f room) in
    omega (arith, length-append before (f ∷ []))

none-before : (n : ℕ) → 0 + n ≤ max_functions → n ≤ max_functions
none-before n h = omega arith

main-arity : (fs : List Function) (n main : ℕ) (right : Bool) → has_arity (slice_get fs n) 0 ≡ right → (if right then Ok n else Err MainTakes) ≡ Ok main → option_map (λ f. length f.params) (slice_get fs main) ≡ Some 0
main-arity fs n main true e is = let same : n ≡ main = cc in subst (λ m. option_map (λ f. length f.params) (slice_get fs m) ≡ Some 0) same (arity-is (slice_get fs n) 0 e)
main-arity fs n main false e is = absurd cc

main-takes-nothing : (fs : List Function) (o : Option ℕ) (main : ℕ) → main_found fs o ≡ Ok main → option_map (λ f. length f.params) (slice_get fs main) ≡ Some 0
main-takes-nothing fs None main e = absurd cc
main-takes-nothing fs (Some n) main e = main-arity fs n main (has_arity (slice_get fs n) 0) refl e

no-params : {A : Type 0} (xs : List A) → length xs ≡ 0 → xs ≡ []
no-params [] e = refl
no-params (x ∷ xs) e = absurd (omega arith)

main-is-there : (o : Option FunctionParts) → option_map arity_of o ≡ Some 0 → IsSomeAnd o (λ f. f.takes ≡ [])
main-is-there None e = absurd cc
main-is-there (Some f) e = no-params f.takes (some-zero (arity_of f) e)

-- ---- the program

module _ (bytes : List ℕ) (p : Program) (d : Defined) (main : ℕ) where
  abbrev made : ProgramParts
  made = program_of d.functions (nodes_of_all 0 (in_order d.trees)) d.texts (record { 0 = main })

  is-valid : ProgramFacts bytes (functions_of p) p d → main_of bytes (functions_of p) ≡ Ok main → length (functions_of p) ≤ max_functions → length (nodes_of_program p) < 2 ^ 32 → IsValid made
  is-valid facts is-main functions nodes =
      let fs = functions_of p in
      let agree : Agree fs d.functions = λ n. sym (slice_get-map arity_of d.functions n) ∙ ap (λ l. slice_get l n) facts.arities ∙ slice_get-map (λ f. length f.params) fs n in
      let forms : All (HoldsOf (FormFits d.functions (length d.texts))) made.nodes = nodes_of_all-forms (FormFits d.functions (length d.texts)) 0 (in_order d.trees) (facts.forms d.functions agree (length d.texts) (no-more-than (length d.texts))) in
      let bodies : All (λ f. BodyFits f (body_tree made f)) d.functions = bodies-at BodyFits (trees_of made.nodes) d.functions (in_order d.trees) (laid_out-bodies made (in_order d.trees) refl facts.bodies) facts.fit in
      record {
        nodes_in_order = laid_out-order made (in_order d.trees) refl facts.bodies;
        parts_fit = λ k x h. (forms k x h).0;
        texts_there = λ k x h. (forms k x h).1;
        blocks_have_items = λ k x h. (forms k x h).2;
        slots_in_order = λ k x h. (bodies k x h).slots;
        variables_seen = λ k x h. (bodies k x h).seen;
        depths_within = λ k x h. (bodies k x h).depth;
        main_there = main-is-there (slice_get d.functions main) (agree main ∙ main-takes-nothing fs (function_named bytes fs (codes "main")) main is-main);
        counts_within = (counted-functions d.functions fs (same-lengths d.functions fs facts.arities) functions, counted-nodes made.nodes (in_order d.trees) (length-nodes_of_all 0 (in_order d.trees)) (length (nodes_of_program p)) facts.size nodes, counted-texts (length d.texts) facts.texts);
      }

valid-scoped : (bytes : List ℕ) (p : Program) (main : Result ℕ ScopeFault) → main_of bytes (functions_of p) ≡ main → IsSoundProgram bytes p → deep_in_program p ≡ [] → length (nodes_of_program p) < 2 ^ 32 → length (functions_of p) ≤ max_functions
    → IfOk (after main (λ m. after (functions_scoped bytes (functions_of p) p) (λ d. Ok (made bytes p d m)))) IsValid
valid-scoped bytes p (Err e) is sound deep nodes functions = tt
valid-scoped bytes p (Ok m) is sound deep nodes functions =
    IfOk-after (functions_scoped bytes (functions_of p) p) (λ d. Ok (made bytes p d m)) (ProgramFacts bytes (functions_of p) p) IsValid
    (program-facts bytes (functions_of p) p sound deep) (λ d facts. is-valid bytes p d m facts is functions nodes)

valid-unless : (bytes : List ℕ) (p : Program) (o : Option ScopeFault) → function_fault bytes [] (functions_of p) ≡ o → IsSoundProgram bytes p → deep_in_program p ≡ [] → length (nodes_of_program p) < 2 ^ 32
    → IfOk (unless o (after (main_of bytes (functions_of p)) (λ m. after (functions_scoped bytes (functions_of p) p) (λ d. Ok (made bytes p d m))))) IsValid
valid-unless bytes p (Some fault) is sound deep nodes = tt
valid-unless bytes p None is sound deep nodes =
    valid-scoped bytes p (main_of bytes (functions_of p)) refl sound deep nodes (none-before (length (functions_of p)) (few-functions bytes [] (functions_of p) is (omega arith)))

-- what the definition gives for a text that was read is valid
pub program-valid : (bytes : List ℕ) (p : Program) → IsSoundProgram bytes p → deep_in_program p ≡ [] → length (nodes_of_program p) < 2 ^ 32 → IfOk (program_scoped bytes p) IsValid
program-valid bytes p sound deep nodes = valid-unless bytes p (function_fault bytes [] (functions_of p)) refl sound deep nodes
