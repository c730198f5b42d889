-- One form more, from its head and its parts.
use Rattle.std.proofs.Common.{◌≡◌, inl, inr, ℕ, ◌+◌, ◌<◌, ◌≤◌, ◌^◌, List, [], ◌∷◌, ◌++◌, length, slice_get, Some, refl, sym, ap, subst, ◌∙◌, arith, append-nil, length-append, length-take}
use Rattle.std.specs.Prelude.{Result, Ok, Err, IfErr, OnOk, Option, None, reverse, take, false}
use Rattle.std.proofs.lemmas.Bool.{true≢false}
use Rattle.std.proofs.lemmas.Bool.Decides.{eqb_tells}
use Rattle.std.proofs.lemmas.List.{reverse-append, take-take}
use Rattle.std.proofs.lemmas.Option.{slice_get_within}
use Rattle.stab_code.specs.declared.head.Head.{Head as Code}
use Rattle.stab_code.specs.declared.head.Head.TheVariants as code
use Rattle.stab_code.specs.declared.node_id.NodeId.{NodeId}
use Rattle.stab_code.specs.Layout.{nodes_of as tree_nodes, nodes_of_all}
use Rattle.stab_code.proofs.LaidOut.{length-nodes_of_all}
use Rattle.stab_code.specs.Nodes.{node_of, nodes_in}
use Rattle.stab_code.specs.Trees.{Tree, tree}
use Rattle.stab_parse.specs.declared.symbol.Span.{Span}
use Rattle.stab_parse.specs.declared.tree.FormNode.{FormNode}
use Rattle.stab_parse.specs.declared.tree.Function.{Function}
use Rattle.stab_parse.specs.declared.tree.Head.{Head}
use Rattle.stab_parse.specs.declared.tree.Head.TheVariants as kind
use Rattle.stab_parse.specs.Forms.{Form, form, Parts, no_parts, next_part}
use Rattle.stab_parse.specs.FormList.{count_of}
use Rattle.stab_parse.specs.Moves.{node_of as form_node}
use Rattle.scope_check.specs.declared.fault.ScopeFault.{ScopeFault}
use Rattle.scope_check.specs.declared.progress.Progress.{Progress}
use Rattle.scope_check.specs.declared.seen.Variable.{Variable}
use Rattle.scope_check.specs.Forms.{has_lets, items_of, number_of}
use Rattle.scope_check.specs.Made.{Adds, AddsParts, ArePartsMade, IsFormFault, IsFormMade, IsPartMade, IsPartFault, IsPartsFault, nodes_now, parts_now, part_now, scoped_now}
use Rattle.scope_check.specs.Placed.{size_of_parts}
use Rattle.scope_check.specs.Places.{IsAt, own_number, own_numbers, part_lists}
use Rattle.scope_check.specs.Progress.{IsFaultOf, met_of, seen_of}
use Rattle.scope_check.specs.Scope.{Behind, Met, after, behind, form_scoped, head_met, in_order, let_numbered, part_met, parts_scoped, with_slots}
use Rattle.scope_check.proofs.Added.{added-count, adds-next, adds-whole, node_added, whole_added}
use Rattle.scope_check.proofs.Places.{at-within, count-is, followed, length-own_numbers, node-at, own-at, part-at, parts-at}

-- two facts of a success
pub on-ok : {A E : Type 0} {P Q R : Type 0} (r : Result A E) → OnOk r P → OnOk r Q → (P → Q → R) → OnOk r R
on-ok (Ok a) p q then = then p q
on-ok (Err e) p q then = tt

pub on-err : {A E : Type 0} {P Q : E → Type 0} (r : Result A E) → IfErr r P → ((e : E) → P e → Q e) → IfErr r Q
on-err (Ok a) p then = tt
on-err (Err e) p then = then e p

-- what is seen stays behind two steps
pub seen-on : {A : Type 0} (a b c : List A) → take (length a) b ≡ a → take (length b) c ≡ b → take (length a) c ≡ a
seen-on a b c e f =
    let short : length a ≤ length b = omega (arith, ap length e, length-take (length a) b) in
    sym (take-take (length a) (length b) c short) ∙ ap (take (length a)) f ∙ e

-- the fault of a first step is the fault of both, and so is that of a second
pub fault-first : {A B : Type 0} (m : Result A ScopeFault) (step : A → Result B ScopeFault) (fault : ScopeFault) → IsFaultOf m fault → IsFaultOf (after m step) fault
fault-first m step fault h = elim h [ inl memory ↦ inl memory | inr e ↦ inr (ap (λ r. after r step) e) ]

pub fault-second : {A B : Type 0} (m : Result A ScopeFault) (a : A) (step : A → Result B ScopeFault) (fault : ScopeFault) → m ≡ Ok a → IsFaultOf (step a) fault → IsFaultOf (after m step) fault
fault-second m a step fault e h = elim h [ inl memory ↦ inl memory | inr s ↦ inr (ap (λ r. after r step) e ∙ s) ]

pub fault-same : {A : Type 0} (a b : Result A ScopeFault) (fault : ScopeFault) → a ≡ b → IsFaultOf b fault → IsFaultOf a fault
fault-same a b fault e h = subst (λ r. IsFaultOf r fault) (sym e) h

-- a form that isn't a block with lets has no names
pub no-items : (h : Head) → has_lets h ≡ false → items_of h ≡ []
no-items kind.Unit e = refl
no-items (kind.Truth b) e = refl
no-items (kind.Int n) e = refl
no-items (kind.Text span) e = refl
no-items (kind.Variable name) e = refl
no-items kind.Block e = refl
no-items (kind.LetBlock names) e = absurd (true≢false e)
no-items kind.If e = refl
no-items (kind.Two op) e = refl
no-items kind.Not e = refl
no-items kind.Neg e = refl
no-items kind.Pair e = refl
no-items (kind.Call name) e = refl
no-items (kind.Start word name) e = refl
no-items (kind.NewChan ty) e = refl
no-items (kind.Act word) e = refl

pub no-item : (h : Head) (i : ℕ) → has_lets h ≡ false → None ≡ slice_get (items_of h) i
no-item h i e = ap (λ items. slice_get items i) (sym (no-items h e))

-- the slots of a block with lets are those of its items
pub slots-known : (slots : List (Option ℕ)) → with_slots slots (code.Block []) ≡ code.Block (reverse slots)
slots-known [] = refl
slots-known (slot ∷ slots) = refl

below-last : (i n : ℕ) → i < n + 1 → (i ≡ n → ⊥) → i < n
below-last i n h other = omega (arith, other)

pub sizes-in : (first s n : ℕ) → first + (s + 1) ≤ n → n < 2 ^ 32 → s < 2 ^ 32
sizes-in first s n h k = omega arith

module _ (bytes : List ℕ) (fs : List Function) (arity : ℕ) (forms : List FormNode) (at : ℕ) where
  -- the first parts of each form at the place were made
  abbrev pub SoFar : Progress → Progress → List (Option ℕ) → ℕ → Type 0
  SoFar old now slots i =
      (place : ℕ) (h : Head) (done : Parts) (rest : List Form) → IsAt forms (length (nodes_now forms old)) at (form place h (followed done rest)) → number_of done ≡ i
      → (trees : List Tree) × (parts_now bytes fs arity forms at old h done ≡ Ok (behind trees (seen_of now) (reverse slots) (met_of now))) × AddsParts (nodes_now forms old) (nodes_now forms now) done trees

module _ (bytes : List ℕ) (fs : List Function) (arity : ℕ) (forms : List FormNode) (small : length forms < 2 ^ 32) where
  -- the head that stands in the list is the form's
  node-is : (first at place : ℕ) (h : Head) (ps : Parts) (node : FormNode) → slice_get forms at ≡ Some node → IsAt forms first at (form place h ps) → form_node h (number_of ps) ≡ node
  node-is first at place h ps node found is =
      let few = sizes-in first (size_of_parts ps) (length forms) (at-within forms first at (form place h ps) is) small in
      let there : form_node h (count_of ps) ≡ node = cc (node-at forms first at place h ps is, found) in
      ap (form_node h) (sym (count-is ps few)) ∙ there

  head-at : (seen : List Variable) (met : Met) (first at place : ℕ) (h : Head) (ps : Parts) (node : FormNode) → slice_get forms at ≡ Some node → IsAt forms first at (form place h ps) → head_met bytes fs seen met h (number_of ps) ≡ head_met bytes fs seen met node.head node.parts
  head-at seen met first at place h ps node found is = ap (λ n. head_met bytes fs seen met n.head n.parts) (node-is first at place h ps node found is)

  -- what stays while a head is met
  pub record HeadMet (node : FormNode) (old next : Progress) (own : Code) : Type 0 where
    pub met : head_met bytes fs (seen_of old) (met_of old) node.head node.parts ≡ Ok (own, met_of next)
    pub heads : next.heads.items ≡ old.heads.items
    pub seen : next.seen.items ≡ old.seen.items

  pub block-met : (old : Progress) (node : FormNode) (names : List (Option Span)) → node.head ≡ kind.LetBlock names → HeadMet node old old (code.Block [])
  block-met old node names e = record { met = ap (λ h. head_met bytes fs (seen_of old) (met_of old) h node.parts) e; heads = refl; seen = refl }

  module _ (at : ℕ) (old next : Progress) (node : FormNode) (found : slice_get forms at ≡ Some node) where
    pub form-head-fault : (fault : ScopeFault) → IsFaultOf (head_met bytes fs (seen_of old) (met_of old) node.head node.parts) fault → (f : Form) → IsAt forms (length (nodes_now forms old)) at f → IsFaultOf (scoped_now bytes fs arity forms at old f) fault
    form-head-fault fault h (form place g ps) is =
        fault-first (head_met bytes fs (seen_of old) (met_of old) g (number_of ps)) _ fault
        (fault-same _ _ fault (head-at (seen_of old) (met_of old) (length (nodes_now forms old)) at place g ps node found is) h)

    module _ (own : Code) (head : HeadMet node old next own) where
      head-now : (place : ℕ) (g : Head) (ps : Parts) → IsAt forms (length (nodes_now forms old)) at (form place g ps) → head_met bytes fs (seen_of old) (met_of old) g (number_of ps) ≡ Ok (own, met_of next)
      head-now place g ps is = head-at (seen_of old) (met_of old) (length (nodes_now forms old)) at place g ps node found is ∙ head.met

      nodes-same : nodes_now forms next ≡ nodes_now forms old
      nodes-same = ap (λ l. nodes_in l (part_lists 0 [] forms)) head.heads

      place-now : (f : Form) → IsAt forms (length (nodes_now forms old)) at f → IsAt forms (length (nodes_now forms next)) at f
      place-now f is = subst (λ nodes. IsAt forms (length nodes) at f) (sym nodes-same) is

      parts-same : (g : Head) (ps : Parts) → parts_scoped bytes fs arity (items_of g) (behind [] (seen_of old) [] (met_of next)) ps ≡ parts_now bytes fs arity forms at next g ps
      parts-same g ps = ap (λ s. parts_scoped bytes fs arity (items_of g) (behind [] (reverse s) [] (met_of next)) ps) (sym head.seen)

      pub form-parts-fault : (fault : ScopeFault) → IsPartsFault bytes fs arity forms at next fault → (f : Form) → IsAt forms (length (nodes_now forms old)) at f → IsFaultOf (scoped_now bytes fs arity forms at old f) fault
      form-parts-fault fault h (form place g ps) is =
          fault-second (head_met bytes fs (seen_of old) (met_of old) g (number_of ps)) (own, met_of next) _ fault (head-now place g ps is)
          (fault-first (parts_scoped bytes fs arity (items_of g) (behind [] (seen_of old) [] (met_of next)) ps) _ fault
          (fault-same _ _ fault (parts-same g ps) (h place g ps (place-now (form place g ps) is))))

      pub form-made : (last : Progress) (slots : List (Option ℕ)) (heads : List Code) → ArePartsMade bytes fs arity forms at next last slots
          → heads ≡ last.heads.items ++ with_slots (reverse slots) own ∷ []
          → (f : Form) → IsAt forms (length (nodes_now forms old)) at f
          → (t : Tree) × (scoped_now bytes fs arity forms at old f ≡ Ok (t, met_of last)) × Adds (nodes_now forms old) (nodes_in heads (part_lists 0 [] forms)) f t × (length (nodes_in heads (part_lists 0 [] forms)) ≡ length heads)
      form-made last slots heads made pushed (form place g ps) is =
          let inner = made place g ps (place-now (form place g ps) is) in
          let trees = inner.0 in
          let code = with_slots (reverse slots) own in
          let n = length (nodes_now forms old) in
          let adds : AddsParts (nodes_now forms old) (nodes_now forms last) ps trees = subst (λ l. AddsParts l (nodes_now forms last) ps trees) nodes-same inner.2 in
          let listed = parts-at forms n at place g ps small is in
          let count : length (nodes_now forms last) ≡ at = added-count (nodes_now forms old) (nodes_now forms last) ps trees at adds is.own_is in
          let added : nodes_in heads (part_lists 0 [] forms) ≡ nodes_now forms last ++ node_of code (own_numbers n ps) ∷ [] =
          ap (λ l. nodes_in l (part_lists 0 [] forms)) pushed ∙ node_added last.heads.items (part_lists 0 [] forms) code (own_numbers n ps) at count listed in (
            tree code (in_order trees),
            ap (λ r. after r (λ o. after (parts_scoped bytes fs arity (items_of g) (behind [] (seen_of old) [] o.1) ps) (λ b. Ok (tree (with_slots b.slots o.0) (in_order b.trees), b.met)))) (head-now place g ps is)
                ∙ ap (λ r. after r (λ b. Ok (tree (with_slots b.slots own) (in_order b.trees), b.met))) (parts-same g ps ∙ inner.1),
            adds-whole (nodes_now forms old) (nodes_now forms last) (nodes_in heads (part_lists 0 [] forms)) place g ps code trees adds added,
            ap (λ l. length (nodes_in l (part_lists 0 [] forms))) pushed ∙ whole_added last.heads.items (part_lists 0 [] forms) code (own_numbers n ps) at count listed ∙ ap length (sym pushed),
          )

  -- ---- one part more

  module _ (at : ℕ) (slots : List (Option ℕ)) where
    pub part-none : (item : Option (Option Span)) (old new : Progress) → item ≡ None → IsFormMade bytes fs arity forms at old new → new.seen.items ≡ old.seen.items → IsPartMade bytes fs arity forms at item old slots new slots
    part-none item old new item_is made seen f trees is =
        let own = made f is in (
          own.0,
          ap (λ o. part_now bytes fs arity forms at o old slots trees f) item_is
              ∙ ap (λ r. after r (λ t. Ok (behind (t.0 ∷ trees) (seen_of old) (reverse slots) t.1))) own.1
              ∙ ap (λ s. Ok (behind (own.0 ∷ trees) (reverse s) (reverse slots) (met_of new))) (sym seen),
          own.2,
        )

    pub part-none-fault : (old : Progress) (fault : ScopeFault) → IsFormFault bytes fs arity forms at old fault → IsPartFault bytes fs arity forms at None old slots fault
    part-none-fault old fault h f trees is = fault-first (scoped_now bytes fs arity forms at old f) _ fault (h f is)

    pub part-form : (item : Option (Option Span)) (old new : Progress) (slots_now : List (Option ℕ)) → item ≡ Some None → IsFormMade bytes fs arity forms at old new → new.seen.items ≡ old.seen.items → slots_now ≡ slots ++ None ∷ [] → IsPartMade bytes fs arity forms at item old slots new slots_now
    part-form item old new slots_now item_is made seen e f trees is =
        let own = made f is in (
          own.0,
          ap (λ o. part_now bytes fs arity forms at o old slots trees f) item_is
              ∙ ap (λ r. after r (λ t. Ok (behind (t.0 ∷ trees) (seen_of old) (None ∷ reverse slots) t.1))) own.1
              ∙ ap (λ s. Ok (behind (own.0 ∷ trees) (reverse s) (None ∷ reverse slots) (met_of new))) (sym seen)
              ∙ ap (λ s. Ok (behind (own.0 ∷ trees) (seen_of new) s (met_of new))) (sym (ap reverse e ∙ reverse-append slots (None ∷ []))),
          own.2,
        )

    module _ (name : Span) (x : Variable) (old next : Progress) (numbered : let_numbered arity name (met_of old) ≡ Ok (x, met_of next)) (heads : next.heads.items ≡ old.heads.items) (seen : next.seen.items ≡ old.seen.items) where
      let-nodes : nodes_now forms next ≡ nodes_now forms old
      let-nodes = ap (λ l. nodes_in l (part_lists 0 [] forms)) heads

      let-place : (f : Form) → IsAt forms (length (nodes_now forms old)) at f → IsAt forms (length (nodes_now forms next)) at f
      let-place f is = subst (λ l. IsAt forms (length l) at f) (sym let-nodes) is

      pub part-let : (item : Option (Option Span)) (last : Progress) (seen_now : List Variable) (slots_now : List (Option ℕ)) → item ≡ Some (Some name) → IsFormMade bytes fs arity forms at next last → last.seen.items ≡ next.seen.items
          → seen_now ≡ last.seen.items ++ x ∷ [] → slots_now ≡ slots ++ Some x.slot ∷ []
          → (f : Form) (trees : List Tree) → IsAt forms (length (nodes_now forms old)) at f
          → (t : Tree) × (part_now bytes fs arity forms at item old slots trees f ≡ Ok (behind (t ∷ trees) (reverse seen_now) (reverse slots_now) (met_of last))) × Adds (nodes_now forms old) (nodes_now forms last) f t
      part-let item last seen_now slots_now item_is made kept pushed e f trees is =
          let own = made f (let-place f is) in
          let scoped : form_scoped bytes fs arity (seen_of old) (met_of next) f ≡ Ok (own.0, met_of last) = ap (λ s. form_scoped bytes fs arity (reverse s) (met_of next) f) (sym seen) ∙ own.1 in
          let behind_is : reverse seen_now ≡ x ∷ seen_of old = ap reverse (pushed ∙ ap (λ s. s ++ x ∷ []) (kept ∙ seen)) ∙ reverse-append old.seen.items (x ∷ []) in
          let step = λ (y : Variable × Met). after (form_scoped bytes fs arity (seen_of old) y.1 f) (λ t. Ok (behind (t.0 ∷ trees) (y.0 ∷ seen_of old) (Some y.0.slot ∷ reverse slots) t.1)) in (
            own.0,
            ap (λ o. part_now bytes fs arity forms at o old slots trees f) item_is
                ∙ ap (λ r. after r step) numbered
                ∙ ap (λ r. after r (λ t. Ok (behind (t.0 ∷ trees) (x ∷ seen_of old) (Some x.slot ∷ reverse slots) t.1))) scoped
                ∙ ap (λ s. Ok (behind (own.0 ∷ trees) s (Some x.slot ∷ reverse slots) (met_of last))) (sym behind_is)
                ∙ ap (λ s. Ok (behind (own.0 ∷ trees) (reverse seen_now) s (met_of last))) (sym (ap reverse e ∙ reverse-append slots (Some x.slot ∷ []))),
            (own.2.0 ∙ ap (λ l. l ++ tree_nodes (length l) own.0) let-nodes, own.2.1),
          )

  -- ---- part after part

  pub so-far-none : (at : ℕ) (old now : Progress) (slots : List (Option ℕ)) → now ≡ old → slots ≡ [] → SoFar bytes fs arity forms at old now slots 0
  so-far-none at old now slots e empty place h no_parts rest is n = (
    [],
    ap (λ p. Ok (behind [] (seen_of p) [] (met_of p))) (sym e) ∙ ap (λ s. Ok (behind [] (seen_of now) (reverse s) (met_of now))) (sym empty),
    record { nodes = ap (nodes_now forms) e ∙ sym (append-nil (nodes_now forms old)); own = refl; size = refl },
  )
  so-far-none at old now slots e empty place h (next_part done f) rest is n = absurd (omega arith)

  -- parts behind those in which the fault is
  parts-follow : (names : List (Option Span)) (b : Behind) (ps : Parts) (rest : List Form) (fault : ScopeFault) → parts_scoped bytes fs arity names b ps ≡ Err fault → parts_scoped bytes fs arity names b (followed ps rest) ≡ Err fault
  parts-follow names b ps [] fault e = e
  parts-follow names b ps (f ∷ rest) fault e =
      parts-follow names b (next_part ps f) rest fault
      (ap (λ r. after r (λ a. part_met arity (slice_get names (number_of ps)) a (λ met. form_scoped bytes fs arity a.seen met f))) e)

  -- the part that so many stand before
  pub record Split (all : Parts) (i : ℕ) : Type 0 where
    pub done : Parts
    pub own : Form
    pub rest : List Form
    pub all_is : all ≡ followed (next_part done own) rest
    pub number : number_of done ≡ i

  split-parts : (ps : Parts) (rest : List Form) (i : ℕ) → i < number_of ps → Split (followed ps rest) i
  split-parts no_parts rest i h = absurd (omega arith)
  split-parts (next_part ps f) rest i h =
      elim (eqb_tells i (number_of ps)) [
        | inl w ↦ record { done = ps; own = f; rest = rest; all_is = refl; number = sym w.1 }
        | inr w ↦ split-parts ps (f ∷ rest) i (below-last i (number_of ps) h w.1)
      ]

  -- the number of a part, and where it stands behind those so far
  module _ (at : ℕ) (old now : Progress) (slots : List (Option ℕ)) (node : FormNode) (parts : List NodeId) (i : ℕ) (part : NodeId) (item : Option (Option Span))
      (found : slice_get forms at ≡ Some node) (listed : slice_get (part_lists 0 [] forms) at ≡ Some parts) (own : slice_get parts i ≡ Some part)
      (item_is : item ≡ slice_get (items_of node.head) i) (far : SoFar bytes fs arity forms at old now slots i) where
    part-place : (place : ℕ) (h : Head) (done : Parts) (f : Form) (rest : List Form) (trees : List Tree) → IsAt forms (length (nodes_now forms old)) at (form place h (followed (next_part done f) rest)) → number_of done ≡ i
        → AddsParts (nodes_now forms old) (nodes_now forms now) done trees → IsAt forms (length (nodes_now forms now)) part.0 f
    part-place place h done f rest trees is n adds =
        let first = length (nodes_now forms old) in
        let count : length (nodes_now forms now) ≡ first + size_of_parts done = omega (arith, ap length adds.nodes, length-append (nodes_now forms old) (nodes_of_all first (in_order trees)), length-nodes_of_all first (in_order trees), adds.size) in
        let numbers : parts ≡ own_numbers first (followed (next_part done f) rest) = cc (listed, parts-at forms first at place h (followed (next_part done f) rest) small is) in
        let part_is : slice_get parts i ≡ Some (own_number (first + size_of_parts done) f) = ap (λ l. slice_get l i) numbers ∙ ap (slice_get (own_numbers first (followed (next_part done f) rest))) (sym n) ∙ own-at first done f rest in
        let same : own_number (first + size_of_parts done) f ≡ part = cc (part_is, own) in
        subst (λ m. IsAt forms m part.0 f) (sym count) (subst (λ o. IsAt forms (first + size_of_parts done) o.0 f) same (part-at forms first at place h done f rest is))

    item-at : (place : ℕ) (h : Head) (done : Parts) (ps : Parts) → IsAt forms (length (nodes_now forms old)) at (form place h ps) → number_of done ≡ i → slice_get (items_of h) (number_of done) ≡ item
    item-at place h done ps is n = ap (slice_get (items_of h)) n ∙ ap (λ g. slice_get (items_of g.head) i) (node-is (length (nodes_now forms old)) at place h ps node found is) ∙ sym item_is

    part-next : (place : ℕ) (h : Head) (done : Parts) (f : Form) (rest : List Form) (trees : List Tree) → IsAt forms (length (nodes_now forms old)) at (form place h (followed (next_part done f) rest)) → number_of done ≡ i
        → parts_now bytes fs arity forms at old h done ≡ Ok (behind trees (seen_of now) (reverse slots) (met_of now))
        → parts_now bytes fs arity forms at old h (next_part done f) ≡ part_now bytes fs arity forms part.0 item now slots trees f
    part-next place h done f rest trees is n e =
        ap (λ r. after r (λ a. part_met arity (slice_get (items_of h) (number_of done)) a (λ met. form_scoped bytes fs arity a.seen met f))) e
        ∙ ap (λ o. part_met arity o (behind trees (seen_of now) (reverse slots) (met_of now)) (λ met. form_scoped bytes fs arity (seen_of now) met f)) (item-at place h done (followed (next_part done f) rest) is n)

    pub so-far-next : (new : Progress) (more_slots : List (Option ℕ)) → IsPartMade bytes fs arity forms part.0 item now slots new more_slots → SoFar bytes fs arity forms at old new more_slots (i + 1)
    so-far-next new more_slots made place h no_parts rest is n = absurd (omega arith)
    so-far-next new more_slots made place h (next_part done f) rest is n =
        let number : number_of done ≡ i = omega arith in
        let before = far place h done (f ∷ rest) is number in
        let trees = before.0 in
        let last = made f trees (part-place place h done f rest trees is number before.2) in
        (last.0 ∷ trees, part-next place h done f rest trees is number before.1 ∙ last.1, adds-next (nodes_now forms old) (nodes_now forms now) (nodes_now forms new) done f trees last.0 before.2 last.2)

    pub so-far-fault : (fault : ScopeFault) → IsPartFault bytes fs arity forms part.0 item now slots fault → IsPartsFault bytes fs arity forms at old fault
    so-far-fault fault h place g ps is =
        let first = length (nodes_now forms old) in
        let numbers : parts ≡ own_numbers first ps = cc (listed, parts-at forms first at place g ps small is) in
        let room : i < number_of ps = omega (arith, slice_get_within parts i part own, ap length numbers, length-own_numbers first ps) in
        let s = split-parts ps [] i room in
        let there : IsAt forms first at (form place g (followed (next_part s.done s.own) s.rest)) = subst (λ q. IsAt forms first at (form place g q)) s.all_is is in
        let before = far place g s.done (s.own ∷ s.rest) there s.number in
        let last = h s.own before.0 (part-place place g s.done s.own s.rest before.0 there s.number before.2) in
        elim last [
          | inl memory ↦ inl memory
          | inr e ↦ inr (ap (parts_now bytes fs arity forms at old g) s.all_is
              ∙ parts-follow (items_of g) (behind [] (seen_of old) [] (met_of old)) (next_part s.done s.own) s.rest fault (part-next place g s.done s.own s.rest before.0 there s.number before.1 ∙ e))
        ]

  pub so-far-all : (at : ℕ) (old now : Progress) (slots : List (Option ℕ)) (parts : List NodeId) (i : ℕ) → slice_get (part_lists 0 [] forms) at ≡ Some parts → i ≡ length parts → SoFar bytes fs arity forms at old now slots i → ArePartsMade bytes fs arity forms at old now slots
  so-far-all at old now slots parts i listed all far place h ps is =
      let first = length (nodes_now forms old) in
      let numbers : parts ≡ own_numbers first ps = cc (listed, parts-at forms first at place h ps small is) in
      far place h ps [] is (sym (all ∙ ap length numbers ∙ length-own_numbers first ps))
