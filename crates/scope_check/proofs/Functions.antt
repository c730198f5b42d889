-- Function after function.
use Rattle.std.proofs.Common.{◌≡◌, inl, inr, ℕ, ◌+◌, ◌-◌, ◌<◌, List, [], ◌∷◌, ◌++◌, length, map, slice_get, Some, refl, sym, ap, subst, ◌∙◌, arith, append_assoc, append-nil, length-append}
use Rattle.std.specs.Prelude.{Ok, Err}
use Rattle.std.proofs.lemmas.Bool.Decides.{eqb_tells}
use Rattle.stab_code.specs.Layout.{nodes_of as tree_nodes, nodes_of_all, own_node, size_of as tree_size, size_of_all}
use Rattle.stab_code.specs.Nodes.{id, nodes_in}
use Rattle.stab_code.specs.Program.{FunctionParts, function_of}
use Rattle.stab_code.specs.Trees.{Tree}
use Rattle.stab_code.specs.Written.{Written}
use Rattle.stab_code.proofs.LaidOut.{length-nodes_of_all, own_node-last}
use Rattle.stab_code.proofs.Lists.{slice_get-right}
use Rattle.stab_parse.specs.declared.tree.FormNode.{FormNode}
use Rattle.stab_parse.specs.declared.tree.Function.{Function}
use Rattle.stab_parse.specs.Forms.{Form, body_of}
use Rattle.stab_parse.specs.FormList.{function_of as written_function, functions_of, nodes_of, nodes_of_program}
use Rattle.stab_parse.specs.Grammar.{Program, no_functions, next_function, Function as Rule, function}
use Rattle.scope_check.specs.declared.fault.ScopeFault.{ScopeFault}
use Rattle.scope_check.specs.declared.progress.Progress.{Progress}
use Rattle.scope_check.specs.Made.{AreFunctionsMade, nodes_now, IsBody, IsFormMade, IsFunctionFault, IsFunctionMade, body_now}
use Rattle.scope_check.specs.Placed.{size_of}
use Rattle.scope_check.specs.Places.{IsAt, part_lists}
use Rattle.scope_check.specs.Progress.{IsFaultOf, met_of, seen_of, texts_of}
use Rattle.scope_check.specs.Scope.{Defined, Met, after, form_scoped, function_defined, function_scoped, functions_scoped, in_order}
use Rattle.scope_check.specs.Seen.{params_seen}
use Rattle.scope_check.proofs.Added.{more_one}
use Rattle.scope_check.proofs.Joined.{in_order-join, nodes-join, size-join}
use Rattle.scope_check.proofs.Places.{some-size}
use Rattle.scope_check.proofs.Sizes.{length-nodes_of}

-- ---- one function

same-number : (m n end : ℕ) → m + 1 ≡ end → n + 1 ≡ end → m ≡ n
same-number m n end e f = omega arith

module _ (bytes : List ℕ) (fs : List Function) (forms : List FormNode) (f : Function) (old begun : Progress)
    (seen : seen_of begun ≡ params_seen 0 f.params []) (lets : begun.lets ≡ 0) (heads : begun.heads.items ≡ old.heads.items) (texts : texts_of begun ≡ texts_of old) where
  begun-now : (b : Form) → body_now bytes fs forms f old b ≡ form_scoped bytes fs (length f.params) (seen_of begun) (met_of begun) b
  begun-now b =
      ap (λ s. form_scoped bytes fs (length f.params) s (record { lets = 0; texts = texts_of old }) b) (sym seen)
      ∙ ap (λ n. form_scoped bytes fs (length f.params) (seen_of begun) (record { lets = n; texts = texts_of old }) b) (sym lets)
      ∙ ap (λ t. form_scoped bytes fs (length f.params) (seen_of begun) (record { lets = begun.lets; texts = t }) b) (sym texts)

  begun-nodes : nodes_now forms begun ≡ nodes_now forms old
  begun-nodes = ap (λ l. nodes_in l (part_lists 0 [] forms)) heads

  begun-place : (b : Form) → IsBody bytes fs forms f old b → IsAt forms (length (nodes_now forms begun)) (f.forms_end - 1) b
  begun-place b is = subst (λ l. IsAt forms (length l) (f.forms_end - 1) b) (sym begun-nodes) is

  pub function-made : (new : Progress) (takes : List Written) (gives : Written) (slots : ℕ) (body : ℕ) → IsFormMade bytes fs (length f.params) forms (f.forms_end - 1) begun new
      → takes ≡ map (λ x. x.ty) f.params → gives ≡ f.gives → slots ≡ length f.params + new.lets → body ≡ f.forms_end - 1
      → IsFunctionMade bytes fs forms f old new (function_of takes gives slots (id body))
  function-made new takes gives slots body made takes_is gives_is slots_is body_is b is =
      let own = made b (begun-place b is) in
      let own_is = is.own_is in
      let number : (d : Defined) → size_of_all (in_order d.trees) ≡ length (nodes_now forms old) → own_node (size_of_all (in_order d.trees)) own.0 ≡ id body =
      λ d e. ap id (same-number (own_node (size_of_all (in_order d.trees)) own.0).0 body (length (nodes_now forms old) + size_of b)
      (own_node-last (size_of_all (in_order d.trees)) own.0 ∙ ap (λ n. n + tree_size own.0) e ∙ ap (λ s. length (nodes_now forms old) + s) own.2.1)
      (ap (λ n. n + 1) body_is ∙ own_is)) in (
        (own.0, met_of new),
        begun-now b ∙ own.1,
        (own.2.0 ∙ ap (λ l. l ++ tree_nodes (length l) own.0) begun-nodes, own.2.1),
        refl,
        own.3,
        λ d e. ap (λ l. d.functions ++ function_of l f.gives (length f.params + new.lets) (own_node (size_of_all (in_order d.trees)) own.0) ∷ []) (sym takes_is)
            ∙ ap (λ g. d.functions ++ function_of takes g (length f.params + new.lets) (own_node (size_of_all (in_order d.trees)) own.0) ∷ []) (sym gives_is)
            ∙ ap (λ s. d.functions ++ function_of takes gives s (own_node (size_of_all (in_order d.trees)) own.0) ∷ []) (sym slots_is)
            ∙ ap (λ o. d.functions ++ function_of takes gives slots o ∷ []) (number d e),
      )

-- ---- functions before others

-- a program's functions, and then these
abbrev pub followed_by : Program → List Rule → Program
followed_by p [] = p
followed_by p (r ∷ rs) = followed_by (next_function p r) rs

functions-followed : (p : Program) (rs : List Rule) → (rest : List Function) × (functions_of (followed_by p rs) ≡ functions_of p ++ rest)
functions-followed p [] = ([], sym (append-nil (functions_of p)))
functions-followed p (r ∷ rs) =
    let next = functions-followed (next_function p r) rs in
    let own = written_function (length (nodes_of_program (next_function p r))) r in
    (own ∷ next.0, next.1 ∙ append_assoc (functions_of p) (own ∷ []) next.0)

nodes-followed_by : (p : Program) (rs : List Rule) → (rest : List FormNode) × (nodes_of_program (followed_by p rs) ≡ nodes_of_program p ++ rest)
nodes-followed_by p [] = ([], sym (append-nil (nodes_of_program p)))
nodes-followed_by p (r ∷ rs) =
    let next = nodes-followed_by (next_function p r) rs in
    (nodes_of (body_of r) ++ next.0, next.1 ∙ append_assoc (nodes_of_program p) (nodes_of (body_of r)) next.0)

scoped-follow : (bytes : List ℕ) (fs : List Function) (p : Program) (rs : List Rule) (fault : ScopeFault) → functions_scoped bytes fs p ≡ Err fault → functions_scoped bytes fs (followed_by p rs) ≡ Err fault
scoped-follow bytes fs p [] fault e = e
scoped-follow bytes fs p (r ∷ rs) fault e =
    scoped-follow bytes fs (next_function p r) rs fault (ap (λ m. after m (λ d. function_scoped bytes fs d (written_function 0 r) (body_of r))) e)

-- the function that so many stand before
pub record SplitProgram (all : Program) (i : ℕ) : Type 0 where
  pub done : Program
  pub own : Rule
  pub rest : List Rule
  pub all_is : all ≡ followed_by (next_function done own) rest
  pub number : length (functions_of done) ≡ i

one-more-function : (p : Program) (r : Rule) → length (functions_of (next_function p r)) ≡ length (functions_of p) + 1
one-more-function p r = length-append (functions_of p) (written_function (length (nodes_of_program (next_function p r))) r ∷ [])

before-last : (i n m : ℕ) → i < m → m ≡ n + 1 → (i ≡ n → ⊥) → i < n
before-last i n m h e other = omega (arith, other)

split-program : (p : Program) (rs : List Rule) (i : ℕ) → i < length (functions_of p) → SplitProgram (followed_by p rs) i
split-program no_functions rs i h = absurd (omega arith)
split-program (next_function p r) rs i h =
    elim (eqb_tells i (length (functions_of p))) [
      | inl w ↦ record { done = p; own = r; rest = rs; all_is = refl; number = sym w.1 }
      | inr w ↦ split-program p (r ∷ rs) i (before-last i (length (functions_of p)) (length (functions_of (next_function p r))) h (one-more-function p r) w.1)
    ]

module _ (bytes : List ℕ) (fs : List Function) (forms : List FormNode) where
  -- the first functions of each program with these were made
  abbrev pub FunctionsSoFar : Progress → List FunctionParts → ℕ → Type 0
  FunctionsSoFar now made i =
      (done : Program) (rest : List Rule) → functions_of (followed_by done rest) ≡ fs → nodes_of_program (followed_by done rest) ≡ forms → length (functions_of done) ≡ i
      → AreFunctionsMade bytes fs forms done now made

  pub functions-none : (now : Progress) (made : List FunctionParts) → now.heads.items ≡ [] → texts_of now ≡ [] → made ≡ [] → FunctionsSoFar now made 0
  functions-none now made heads texts e no_functions rest is_fs is_forms n =
      record { defined = record { functions = []; trees = []; texts = [] }; scoped = refl; functions = e; whole = ap (λ l. length (nodes_in l (part_lists 0 [] forms))) heads ∙ ap length (sym heads); nodes = ap (λ l. nodes_in l (part_lists 0 [] forms)) heads; texts = texts; size = refl }
  functions-none now made heads texts e (next_function p r) rest is_fs is_forms n = absurd (omega (arith, one-more-function p r))

  zero-first : (n : ℕ) → n ≡ 0 + n
  zero-first n = omega arith

  last-end : (n end total : ℕ) → end ≡ n + total → 0 < total → (end - 1) + 1 ≡ n + total
  last-end n end total e h = omega arith

  module _ (now : Progress) (made : List FunctionParts) (i : ℕ) (f : Function) (found : slice_get fs i ≡ Some f) where
    written-is : (done : Program) (r : Rule) (rest : List Rule) → functions_of (followed_by (next_function done r) rest) ≡ fs → length (functions_of done) ≡ i → written_function (length (nodes_of_program (next_function done r))) r ≡ f
    written-is done r rest is n =
        let own = written_function (length (nodes_of_program (next_function done r))) r in
        let others = functions-followed (next_function done r) rest in
        let at : slice_get fs i ≡ Some own = ap (λ l. slice_get l i) (sym is ∙ others.1 ∙ append_assoc (functions_of done) (own ∷ []) others.0) ∙ slice_get-right (functions_of done) (own ∷ others.0) i 0 (omega arith) in
        cc (at, found)

    end-is : (end : ℕ) (r : Rule) → (written_function end r).forms_end ≡ end
    end-is end (function g x o ps e q t b) = refl

    body-at : (done : Program) (r : Rule) (rest : List Rule) → functions_of (followed_by (next_function done r) rest) ≡ fs → nodes_of_program (followed_by (next_function done r) rest) ≡ forms → length (functions_of done) ≡ i
        → AreFunctionsMade bytes fs forms done now made → IsBody bytes fs forms f now (body_of r)
    body-at done r rest is_fs is_forms n are =
        let others = nodes-followed_by (next_function done r) rest in
        let end : f.forms_end ≡ length (nodes_of_program (next_function done r)) = ap (λ g. g.forms_end) (sym (written-is done r rest is_fs n)) ∙ end-is (length (nodes_of_program (next_function done r))) r in
        let first : length (nodes_of_program done) ≡ length (nodes_now forms now) = sym (ap length are.nodes ∙ length-nodes_of_all 0 (in_order are.defined.trees) ∙ are.size) in
        let total : f.forms_end ≡ length (nodes_now forms now) + size_of (body_of r) = end ∙ length-append (nodes_of_program done) (nodes_of (body_of r)) ∙ ap (λ n. n + length (nodes_of (body_of r))) first ∙ ap (λ s. length (nodes_now forms now) + s) (length-nodes_of (body_of r)) in
        record {
          before = nodes_of_program done;
          after = others.0;
          forms_are = sym is_forms ∙ others.1 ∙ append_assoc (nodes_of_program done) (nodes_of (body_of r)) others.0;
          first_is = first;
          own_is = last-end (length (nodes_now forms now)) f.forms_end (size_of (body_of r)) total (some-size (body_of r));
        }

    -- the definition sees the parameters and the types of a function alone
    written-params : (m n : ℕ) (r : Rule) → (written_function m r).params ≡ (written_function n r).params
    written-params m n (function g x o ps e q t b) = refl

    defined-same : (m n : ℕ) (r : Rule) (d : Defined) (t : Tree × Met) → function_defined d (written_function m r) t ≡ function_defined d (written_function n r) t
    defined-same m n (function g x o ps e q t b) d u = refl

    scoped-body : (d : Defined) (r : Rule) (end : ℕ) → written_function end r ≡ f → d.texts ≡ texts_of now → form_scoped bytes fs (length (written_function 0 r).params) (params_seen 0 (written_function 0 r).params []) (record { lets = 0; texts = d.texts }) (body_of r) ≡ body_now bytes fs forms f now (body_of r)
    scoped-body d r end same texts =
        ap (λ ps. form_scoped bytes fs (length ps) (params_seen 0 ps []) (record { lets = 0; texts = d.texts }) (body_of r)) (written-params 0 end r ∙ ap (λ g. g.params) same)
        ∙ ap (λ l. form_scoped bytes fs (length f.params) (params_seen 0 f.params []) (record { lets = 0; texts = l }) (body_of r)) texts

    pub functions-next : (far : FunctionsSoFar now made i) (new : Progress) (own : FunctionParts) → IsFunctionMade bytes fs forms f now new own → FunctionsSoFar new (made ++ own ∷ []) (i + 1)
    functions-next far new own is no_functions rest is_fs is_forms n = absurd (omega arith)
    functions-next far new own is (next_function done r) rest is_fs is_forms n =
        let number : length (functions_of done) ≡ i = omega (arith, one-more-function done r) in
        let are = far done (r ∷ rest) is_fs is_forms number in
        let d = are.defined in
        let end = length (nodes_of_program (next_function done r)) in
        let same : written_function end r ≡ f = written-is done r rest is_fs number in
        let body = is (body_of r) (body-at done r rest is_fs is_forms number are) in
        let t = body.0 in
        let whole = in_order d.trees in
        let count : size_of_all whole ≡ length (nodes_now forms now) = sym (ap length are.nodes ∙ length-nodes_of_all 0 whole) in
        let made_is : function_defined d (written_function 0 r) t ≡ function_defined d f t = defined-same 0 end r d t ∙ ap (λ g. function_defined d g t) same in
        let behind_is = in_order-join d.trees (more_one t.0) in
        record {
          defined = function_defined d (written_function 0 r) t;
          scoped = ap (λ m. after m (λ e. function_scoped bytes fs e (written_function 0 r) (body_of r))) are.scoped
              ∙ ap (λ m. after m (λ u. Ok (function_defined d (written_function 0 r) u))) (scoped-body d r end same (sym are.texts) ∙ body.1);
          whole = body.4;
          functions = ap (λ l. l ++ own ∷ []) are.functions ∙ sym (body.5 d count) ∙ ap (λ e. e.functions) (sym made_is);
          nodes = body.2.0 ∙ ap (λ m. nodes_now forms now ++ tree_nodes m t.0) (sym count) ∙ ap (λ l. l ++ tree_nodes (size_of_all whole) t.0) are.nodes
              ∙ ap (λ l. nodes_of_all 0 whole ++ l) (sym (append-nil (tree_nodes (size_of_all whole) t.0)))
              ∙ ap (λ m. nodes_of_all 0 whole ++ nodes_of_all m (more_one t.0)) (zero-first (size_of_all whole))
              ∙ sym (ap (nodes_of_all 0) behind_is ∙ nodes-join 0 whole (more_one t.0));
          texts = sym body.3;
          size = ap size_of_all behind_is ∙ size-join whole (more_one t.0)
              ∙ omega (arith, are.size, body.2.1, length-append (nodes_of_program done) (nodes_of (body_of r)), length-nodes_of (body_of r));
        }

    pub functions-fault : (far : FunctionsSoFar now made i) (fault : ScopeFault) → IsFunctionFault bytes fs forms f now fault → i < length fs → (p : Program) → functions_of p ≡ fs → nodes_of_program p ≡ forms → IsFaultOf (functions_scoped bytes fs p) fault
    functions-fault far fault h room p is_fs is_forms =
        let s = split-program p [] i (subst (λ l. i < length l) (sym is_fs) room) in
        let there = next_function s.done s.own in
        let all_fs : functions_of (followed_by there s.rest) ≡ fs = ap functions_of (sym s.all_is) ∙ is_fs in
        let all_forms : nodes_of_program (followed_by there s.rest) ≡ forms = ap nodes_of_program (sym s.all_is) ∙ is_forms in
        let are = far s.done (s.own ∷ s.rest) all_fs all_forms s.number in
        let same = written-is s.done s.own s.rest all_fs s.number in
        let end = length (nodes_of_program there) in
        let own = h (body_of s.own) (body-at s.done s.own s.rest all_fs all_forms s.number are) in
        elim own [
          | inl memory ↦ inl memory
          | inr e ↦ inr (ap (functions_scoped bytes fs) s.all_is ∙ scoped-follow bytes fs there s.rest fault
              (ap (λ m. after m (λ d. function_scoped bytes fs d (written_function 0 s.own) (body_of s.own))) are.scoped
              ∙ ap (λ m. after m (λ u. Ok (function_defined are.defined (written_function 0 s.own) u))) (scoped-body are.defined s.own end same (sym are.texts) ∙ e)))
        ]

  pub functions-all : (now : Progress) (made : List FunctionParts) (i : ℕ) → i ≡ length fs → FunctionsSoFar now made i → (p : Program) → functions_of p ≡ fs → nodes_of_program p ≡ forms → AreFunctionsMade bytes fs forms p now made
  functions-all now made i all far p is_fs is_forms = far p [] is_fs is_forms (ap length is_fs ∙ sym all)
