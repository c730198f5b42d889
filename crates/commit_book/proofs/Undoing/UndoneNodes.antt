-- The nodes of the graph after an undo.
use Rattle.std.proofs.Common.{◌≡◌, ℕ, ◌<◌, Bool, true, false, cond, not, ◌&&◌, List, [], ◌∷◌, ◌++◌, refl, sym, ap, ◌∙◌}
use Rattle.std.specs.Prelude.{filter, nat_lt}
use Rattle.std.specs.List.{list_any}
use Rattle.std.proofs.lemmas.List.Elements.{filter-append}
use Rattle.stab_journal.specs.declared.event.Label.{Label}
use Rattle.stab_journal.specs.declared.event.Label.TheVariants.{Spawn, Comm, NewRef, Get, Set, Enter, Pin}
use Rattle.stab_journal.specs.declared.event.Numbered.{Numbered}
use Rattle.stab_journal.specs.Floor.{floor}
use Rattle.stab_journal.specs.Journal.{RiseFrom}
use Rattle.stab_journal.specs.Label.{actors, written}
use Rattle.stab_journal.specs.Names.{is_at}
use Rattle.stab_journal.specs.Reached.{Lost, nothing_lost, lose, keep, after_step, depends, rest}
use Rattle.comm_graph.specs.Node.{Node}
use Rattle.journal_laws.proofs.Without.{IsClosedFrom}
use Rattle.journal_laws.proofs.Applying.{or_false}
use Rattle.commit_book.specs.Graph.{node_of, wrote_by, nodes_from, nodes_above, AreNodesOf}
use Rattle.commit_book.proofs.Undoing.UndoneParts.{floor_rest}

-- the two know the same last write of each reference whose last write isn't lost
abbrev pub Agree : Lost → (ℕ → ℕ) → (ℕ → ℕ) → Type 0
Agree x w w' = (r : ℕ) → x.references r ≡ false → w' r ≡ w r

agree_lost : (x : Lost) (w w' : ℕ → ℕ) (q : ℕ) (l : Label) → Agree x w w' → Agree (lose l x) (wrote_by q l w) w'
agree_lost x w w' q l same r h =
    let parts = or_false (is_at (written l) r) (x.references r) h in
    same r parts.1 ∙ ap (λ b. cond b q (w r)) (sym parts.0)

agree_kept : (x : Lost) (w w' : ℕ → ℕ) (q : ℕ) (l : Label) → Agree x w w' → Agree (keep l x) (wrote_by q l w) (wrote_by q l w')
agree_kept x w w' q l same r h = elim (is_at (written l) r) as (λ b. (not b && x.references r) ≡ false → cond b q (w' r) ≡ cond b q (w r)) [ true ↦ λ h. refl | false ↦ λ h. same r h ] h

same_node : (x : Lost) (w w' : ℕ → ℕ) (q : ℕ) (l : Label) → Agree x w w' → depends l x ≡ false → node_of w' q l ≡ node_of w q l
same_node x w w' q (Get t r) same free = ap (λ k. node_of (λ _. k) q (Get t r)) (same r.0 (or_false (list_any x.threads (actors (Get t r))) (x.references r.0) free).1)
same_node x w w' q (Enter t) same free = refl
same_node x w w' q (Spawn t u) same free = refl
same_node x w w' q (Comm s r c) same free = refl
same_node x w w' q (Set t r) same free = refl
same_node x w w' q (NewRef t r) same free = refl
same_node x w w' q (Pin t) same free = refl
same_node x w w' q _ same free = refl

pub swap : {X : Type 0} (p q : X → Bool) (xs : List X) → filter p (filter q xs) ≡ filter q (filter p xs)
swap p q [] = refl
swap p q (x ∷ xs) = elim (p x) as (λ a. p x ≡ a → filter p (cond (q x) (x ∷ filter q xs) (filter q xs)) ≡ filter q (cond a (x ∷ filter p xs) (filter p xs))) [
  | true ↦ λ at. elim (q x) as (λ b. filter p (cond b (x ∷ filter q xs) (filter q xs)) ≡ cond b (x ∷ filter q (filter p xs)) (filter q (filter p xs))) [
    | true ↦ ap (λ b. cond b (x ∷ filter p (filter q xs)) (filter p (filter q xs))) at ∙ ap (λ k. x ∷ k) (swap p q xs)
    | false ↦ swap p q xs
  ]
  | false ↦ λ at. elim (q x) as (λ b. filter p (cond b (x ∷ filter q xs) (filter q xs)) ≡ filter q (filter p xs)) [
    | true ↦ ap (λ b. cond b (x ∷ filter p (filter q xs)) (filter p (filter q xs))) at ∙ swap p q xs
    | false ↦ swap p q xs
  ]
] refl

module _ (gone : ℕ → Bool) where
  abbrev pub stay : List Node → List Node
  stay ks = filter (λ (k : Node). not (gone k.number)) ks

  abbrev nothing : List Node
  nothing = []

  just : (k : Node) → stay (k ∷ []) ≡ cond (gone k.number) nothing (k ∷ [])
  just k = elim (gone k.number) as (λ b. cond (not b) (k ∷ nothing) nothing ≡ cond b nothing (k ∷ nothing)) [ true ↦ refl | false ↦ refl ]

  one : (w : ℕ → ℕ) (q : ℕ) (l : Label) → stay (node_of w q l) ≡ cond (gone q) nothing (node_of w q l)
  one w q (Enter t) = just _
  one w q (Spawn t u) = just _
  one w q (Comm s r c) = just _
  one w q (Get t r) = just _
  one w q (Set t r) = just _
  one w q (NewRef t r) = just _
  one w q (Pin t) = just _
  one w q _ = elim (gone q) as (λ b. nothing ≡ cond b nothing nothing) [ true ↦ refl | false ↦ refl ]

  pub nodes_rest : (ns : List Numbered) (x : Lost) (w w' : ℕ → ℕ) → Agree x w w' → IsClosedFrom gone x ns → nodes_from w' (rest gone ns) ≡ stay (nodes_from w ns)
  nodes_rest [] x w w' same shut = refl
  nodes_rest (n ∷ ns) x w w' same shut =
      elim (gone n.seq.0) as (λ b. gone n.seq.0 ≡ b → (b ≡ false → depends n.label x ≡ false) → IsClosedFrom gone (after_step b n.label x) ns → nodes_from w' (cond b (rest gone ns) (n ∷ rest gone ns)) ≡ cond b nothing (node_of w n.seq.0 n.label) ++ stay (nodes_from (wrote_by n.seq.0 n.label w) ns)) [
        | true ↦ λ is free more. nodes_rest ns (lose n.label x) (wrote_by n.seq.0 n.label w) w' (agree_lost x w w' n.seq.0 n.label same) more
        | false ↦ λ is free more.
            ap (λ ks. ks ++ nodes_from (wrote_by n.seq.0 n.label w') (rest gone ns)) (same_node x w w' n.seq.0 n.label same (free refl))
            ∙ ap (λ ks. node_of w n.seq.0 n.label ++ ks) (nodes_rest ns (keep n.label x) (wrote_by n.seq.0 n.label w) (wrote_by n.seq.0 n.label w') (agree_kept x w w' n.seq.0 n.label same) more)
      ] refl shut.0 shut.1
      ∙ ap (λ ks. ks ++ stay (nodes_from (wrote_by n.seq.0 n.label w) ns)) (sym (one w n.seq.0 n.label))
      ∙ sym (filter-append (λ (k : Node). not (gone k.number)) (node_of w n.seq.0 n.label) (nodes_from (wrote_by n.seq.0 n.label w) ns))

  -- after an undo the nodes are those of what stays
  pub nodes_undone : (run : List Numbered) (q : ℕ) (nodes new : List Node) → RiseFrom q run → IsClosedFrom gone nothing_lost run → ((k : ℕ) → gone k ≡ true → floor run < k) → new ≡ stay nodes → AreNodesOf nodes run → AreNodesOf new (rest gone run)
  nodes_undone run q nodes new rise shut above is shown =
      is ∙ ap stay shown ∙ swap (λ (k : Node). not (gone k.number)) (λ (k : Node). nat_lt (floor run) k.number) (nodes_from (λ _. 0) run)
      ∙ ap (filter (λ (k : Node). nat_lt (floor run) k.number)) (sym (nodes_rest run nothing_lost (λ _. 0) (λ _. 0) (λ r h. refl) shut))
      ∙ ap (λ f. nodes_above f (rest gone run)) (sym (floor_rest gone run 0 q rise above))
