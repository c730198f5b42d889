-- What edges of the graph reach from a section is what is reached from it in the run: nodes and edges of the graph, from those of the run.
use Rattle.std.proofs.Common.{◌≡◌, ◌⊎◌, inl, inr, ℕ, suc, Bool, true, false, cond, ◌&&◌, ◌||◌, nat_eq, List, [], ◌∷◌, ◌++◌, map as each, refl, sym, ap, ◌∙◌}
use Rattle.std.specs.Prelude.{filter, is_some}
use Rattle.std.specs.List.{list_any}
use Rattle.std.specs.Cmp.{nat_eq_equiv}
use Rattle.std.proofs.lemmas.Bool.{false≢true, eqb-true}
use Rattle.std.proofs.lemmas.List.Elements.{filter-append}
use Rattle.std.proofs.lemmas.List.Folds.{list_any-append}
use Rattle.stab_journal.specs.declared.event.Label.{Label}
use Rattle.stab_journal.specs.declared.event.Label.TheVariants.{Spawn, Comm, NewRef, Get, Set, Enter, Pin}
use Rattle.stab_journal.specs.declared.event.Numbered.{Numbered}
use Rattle.stab_journal.specs.Floor.{is_pin}
use Rattle.stab_journal.specs.Journal.{RiseFrom}
use Rattle.stab_journal.specs.Label.{actors, spawned, touched, written}
use Rattle.stab_journal.specs.Names.{has, is_at, read}
use Rattle.stab_journal.specs.Dependence.{writes}
use Rattle.stab_journal.specs.Reached.{reads_of}
use Rattle.comm_graph.specs.declared.node.NodeFor.{NodeFor}
use Rattle.comm_graph.specs.declared.node.NodeFor.TheVariants as node
use Rattle.comm_graph.specs.Node as graph
use Rattle.comm_graph.specs.Node.{Node, acts, is_write, reads}
use Rattle.comm_graph.specs.Edge.{next_of, readers_of, from_number}
use Rattle.restore.specs.Line.{starts}
use Rattle.journal_laws.specs.Lines.{is_node, has_node}
use Rattle.journal_laws.proofs.Applying.{or_false}
use Rattle.journal_laws.proofs.Chains.{or_right}
use Rattle.journal_laws.proofs.Numbers.{rise_front}
use Rattle.commit_book.specs.Graph.{is_pinned, node_of, one_node, wrote_by, nodes_from}
use Rattle.commit_book.specs.Step.{wrote_after}
use Rattle.commit_book.proofs.Keeping.Floors.{differs}

-- a number among some, in both words for it
pub listed_is : (q : ℕ) (xs : List ℕ) → list_any (nat_eq q) xs ≡ has xs q
listed_is q [] = refl
listed_is q (x ∷ xs) = elim (nat_eq q x) as (λ b. (b || list_any (nat_eq q) xs) ≡ cond b true (has xs q)) [ true ↦ refl | false ↦ listed_is q xs ]

-- the node of a step touches, reads and writes what the step does
pub record IsNodeOf (w : ℕ → ℕ) (q : ℕ) (l : Label) : Type 0 where
  pub kind : NodeFor
  pub one : node_of w q l ≡ one_node q kind
  pub actors : graph.actors kind ≡ actors l
  pub touched : graph.touched kind ≡ touched l
  pub writes : is_write kind ≡ is_some (written l)
  pub reads : (p : ℕ) → reads p kind ≡ reads_of (read l) (λ r. nat_eq p (w r))
  pub starts : (t : ℕ) → starts t kind ≡ is_at (spawned l) t
  pub pins : is_pinned kind ≡ is_pin l

pub node_here : (w : ℕ → ℕ) (q : ℕ) (l : Label) → is_node l ≡ true → IsNodeOf w q l
node_here w q (Enter t) h = record { kind = node.Enter t; one = refl; actors = refl; touched = refl; writes = refl; reads = λ p. refl; starts = λ t. refl; pins = refl }
node_here w q (Spawn t u) h = record { kind = node.Spawn t u; one = refl; actors = refl; touched = refl; writes = refl; reads = λ p. refl; starts = λ t. refl; pins = refl }
node_here w q (Comm s r c) h = record { kind = node.Comm s r; one = refl; actors = refl; touched = refl; writes = refl; reads = λ p. refl; starts = λ t. refl; pins = refl }
node_here w q (Get t r) h = record { kind = node.Get t (record { 0 = w r.0 }); one = refl; actors = refl; touched = refl; writes = refl; reads = λ p. refl; starts = λ t. refl; pins = refl }
node_here w q (Set t r) h = record { kind = node.Set t; one = refl; actors = refl; touched = refl; writes = refl; reads = λ p. refl; starts = λ t. refl; pins = refl }
node_here w q (NewRef t r) h = record { kind = node.NewRef t; one = refl; actors = refl; touched = refl; writes = refl; reads = λ p. refl; starts = λ t. refl; pins = refl }
node_here w q (Pin t) h = record { kind = node.Pin t; one = refl; actors = refl; touched = refl; writes = refl; reads = λ p. refl; starts = λ t. refl; pins = refl }
node_here w q _ h = absurd (false≢true h)

no_node : (w : ℕ → ℕ) (q : ℕ) (l : Label) → is_node l ≡ false → node_of w q l ≡ []
no_node w q (Enter t) h = absurd (false≢true (sym h))
no_node w q (Spawn t u) h = absurd (false≢true (sym h))
no_node w q (Comm s r c) h = absurd (false≢true (sym h))
no_node w q (Get t r) h = absurd (false≢true (sym h))
no_node w q (Set t r) h = absurd (false≢true (sym h))
no_node w q (NewRef t r) h = absurd (false≢true (sym h))
no_node w q (Pin t) h = absurd (false≢true (sym h))
no_node w q _ h = refl

-- ---- the next node of a thread

next_cons : (w : ℕ → ℕ) (n : Numbered) (ns : List Numbered) (t : ℕ)
    → next_of t (nodes_from w (n ∷ ns)) ≡ cond (is_node n.label && has (actors n.label) t) (n.seq.0 ∷ []) (next_of t (nodes_from (wrote_by n.seq.0 n.label w) ns))
next_cons w n ns t =
    let more = nodes_from (wrote_by n.seq.0 n.label w) ns in
    elim (is_node n.label) as (λ b. is_node n.label ≡ b → next_of t (node_of w n.seq.0 n.label ++ more) ≡ cond (b && has (actors n.label) t) (n.seq.0 ∷ []) (next_of t more)) [
      | true ↦ λ is.
          let k = node_here w n.seq.0 n.label is in
          ap (λ ks. next_of t (ks ++ more)) k.one ∙ ap (λ b. cond b (n.seq.0 ∷ []) (next_of t more)) (listed_is t (graph.actors k.kind) ∙ ap (λ ts. has ts t) k.actors)
      | false ↦ λ off. ap (λ ks. next_of t (ks ++ more)) (no_node w n.seq.0 n.label off)
    ] refl

-- the step numbered q is the next node in which the thread t acts
pub record IsNext (t : ℕ) (ns : List Numbered) (q : ℕ) : Type 0 where
  pub between : List Numbered
  pub f : Numbered
  pub after : List Numbered
  pub is : ns ≡ between ++ f ∷ after
  pub number : f.seq.0 ≡ q
  pub node : is_node f.label ≡ true
  pub acts : has (actors f.label) t ≡ true
  pub none : has_node t between ≡ false

or_no : (b : Bool) → (b || false) ≡ b
or_no true = refl
or_no false = refl

both_of : (a b : Bool) → (a && b) ≡ true → (a ≡ true) × (b ≡ true)
both_of true b h = (refl, h)
both_of false b h = absurd (false≢true h)

pub next_step : (t q : ℕ) (w : ℕ → ℕ) (ns : List Numbered) → list_any (nat_eq q) (next_of t (nodes_from w ns)) ≡ true → IsNext t ns q
next_step t q w [] h = absurd (false≢true h)
next_step t q w (n ∷ ns) h =
    let more = nodes_from (wrote_by n.seq.0 n.label w) ns in
    elim (is_node n.label && has (actors n.label) t) as (λ b. (is_node n.label && has (actors n.label) t) ≡ b → list_any (nat_eq q) (cond b (n.seq.0 ∷ []) (next_of t more)) ≡ true → IsNext t (n ∷ ns) q) [
      | true ↦ λ here h.
          let parts = both_of (is_node n.label) (has (actors n.label) t) here in
          record { between = []; f = n; after = ns; is = refl; number = sym (eqb-true q n.seq.0 (sym (or_no (nat_eq q n.seq.0)) ∙ h)); node = parts.0; acts = parts.1; none = refl }
      | false ↦ λ off h.
          let k = next_step t q (wrote_by n.seq.0 n.label w) ns h in
          record { between = n ∷ k.between; f = k.f; after = k.after; is = ap (λ l. n ∷ l) k.is; number = k.number; node = k.node; acts = k.acts; none = ap (λ b. b || has_node t k.between) off ∙ k.none }
    ] refl (ap (list_any (nat_eq q)) (sym (next_cons w n ns t)) ∙ h)

pub next_is : (t : ℕ) (w : ℕ → ℕ) (between : List Numbered) (f : Numbered) (after : List Numbered) → has_node t between ≡ false → is_node f.label ≡ true → has (actors f.label) t ≡ true
    → next_of t (nodes_from w (between ++ f ∷ after)) ≡ f.seq.0 ∷ []
next_is t w [] f after none is acts =
    next_cons w f after t ∙ ap (λ b. cond (b && has (actors f.label) t) (f.seq.0 ∷ []) (next_of t (nodes_from (wrote_by f.seq.0 f.label w) after))) is
    ∙ ap (λ b. cond b (f.seq.0 ∷ []) (next_of t (nodes_from (wrote_by f.seq.0 f.label w) after))) acts
next_is t w (n ∷ between) f after none is acts =
    let parts = or_false (is_node n.label && has (actors n.label) t) (has_node t between) none in
    next_cons w n (between ++ f ∷ after) t ∙ ap (λ b. cond b (n.seq.0 ∷ []) (next_of t (nodes_from (wrote_by n.seq.0 n.label w) (between ++ f ∷ after)))) parts.0
    ∙ next_is t (wrote_by n.seq.0 n.label w) between f after parts.1 is acts

-- ---- the readers of a write

each-append : (xs ys : List Node) → each (λ (n : Node). n.number) (xs ++ ys) ≡ each (λ (n : Node). n.number) xs ++ each (λ (n : Node). n.number) ys
each-append [] ys = refl
each-append (x ∷ xs) ys = ap (λ l. x.number ∷ l) (each-append xs ys)

readers-append : (p : ℕ) (xs ys : List Node) → readers_of p (xs ++ ys) ≡ readers_of p xs ++ readers_of p ys
readers-append p xs ys = ap (each (λ (n : Node). n.number)) (filter-append (λ (n : Node). reads p n.kind) xs ys) ∙ each-append (filter (λ (n : Node). reads p n.kind) xs) (filter (λ (n : Node). reads p n.kind) ys)

one_reader : (p : ℕ) (w : ℕ → ℕ) (q : ℕ) (l : Label) → readers_of p (node_of w q l) ≡ cond (reads_of (read l) (λ r. nat_eq p (w r))) (q ∷ []) []
one_reader p w q (Get t r) = elim (nat_eq p (w r.0)) as (λ b. each (λ (n : Node). n.number) (cond b (one_node q (node.Get t (record { 0 = w r.0 }))) []) ≡ cond b (q ∷ []) []) [ true ↦ refl | false ↦ refl ]
one_reader p w q (Enter t) = refl
one_reader p w q (Spawn t u) = refl
one_reader p w q (Comm s r c) = refl
one_reader p w q (Set t r) = refl
one_reader p w q (NewRef t r) = refl
one_reader p w q (Pin t) = refl
one_reader p w q _ = refl

-- the step numbered q reads a reference whose last write before it has the number p
pub record IsRead (p : ℕ) (w : ℕ → ℕ) (ns : List Numbered) (q : ℕ) : Type 0 where
  pub before : List Numbered
  pub f : Numbered
  pub after : List Numbered
  pub is : ns ≡ before ++ f ∷ after
  pub number : f.seq.0 ≡ q
  pub reads : reads_of (read f.label) (λ r. nat_eq p (wrote_after w before r)) ≡ true

pub reader_step : (p q : ℕ) (w : ℕ → ℕ) (ns : List Numbered) → list_any (nat_eq q) (readers_of p (nodes_from w ns)) ≡ true → IsRead p w ns q
reader_step p q w [] h = absurd (false≢true h)
reader_step p q w (n ∷ ns) h =
    let more = nodes_from (wrote_by n.seq.0 n.label w) ns in
    let split : (list_any (nat_eq q) (cond (reads_of (read n.label) (λ r. nat_eq p (w r))) (n.seq.0 ∷ []) []) || list_any (nat_eq q) (readers_of p more)) ≡ true =
    sym (list_any-append (nat_eq q) (cond (reads_of (read n.label) (λ r. nat_eq p (w r))) (n.seq.0 ∷ []) []) (readers_of p more))
    ∙ ap (list_any (nat_eq q)) (sym (readers-append p (node_of w n.seq.0 n.label) more ∙ ap (λ l. l ++ readers_of p more) (one_reader p w n.seq.0 n.label))) ∙ h in
    elim (reads_of (read n.label) (λ r. nat_eq p (w r))) as (λ b. reads_of (read n.label) (λ r. nat_eq p (w r)) ≡ b → (list_any (nat_eq q) (cond b (n.seq.0 ∷ []) []) || list_any (nat_eq q) (readers_of p more)) ≡ true → IsRead p w (n ∷ ns) q) [
      | true ↦ λ here h. elim (nat_eq q n.seq.0) as (λ b. nat_eq q n.seq.0 ≡ b → ((b || false) || list_any (nat_eq q) (readers_of p more)) ≡ true → IsRead p w (n ∷ ns) q) [
        | true ↦ λ e h. record { before = []; f = n; after = ns; is = refl; number = sym (eqb-true q n.seq.0 e); reads = here }
        | false ↦ λ e h. deeper n ns (reader_step p q (wrote_by n.seq.0 n.label w) ns h)
      ] refl h
      | false ↦ λ off h. deeper n ns (reader_step p q (wrote_by n.seq.0 n.label w) ns h)
    ] refl split
  where
    deeper : (n : Numbered) (ns : List Numbered) → IsRead p (wrote_by n.seq.0 n.label w) ns q → IsRead p w (n ∷ ns) q
    deeper n ns k = record { before = n ∷ k.before; f = k.f; after = k.after; is = ap (λ l. n ∷ l) k.is; number = k.number; reads = k.reads }

pub reader_is : (p : ℕ) (w : ℕ → ℕ) (before : List Numbered) (f : Numbered) (after : List Numbered) → reads_of (read f.label) (λ r. nat_eq p (wrote_after w before r)) ≡ true
    → list_any (nat_eq f.seq.0) (readers_of p (nodes_from w (before ++ f ∷ after))) ≡ true
reader_is p w [] f after is =
    ap (list_any (nat_eq f.seq.0)) (readers-append p (node_of w f.seq.0 f.label) (nodes_from (wrote_by f.seq.0 f.label w) after) ∙ ap (λ l. l ++ readers_of p (nodes_from (wrote_by f.seq.0 f.label w) after)) (one_reader p w f.seq.0 f.label ∙ ap (λ b. cond b (f.seq.0 ∷ []) []) is))
    ∙ ap (λ b. b || list_any (nat_eq f.seq.0) (readers_of p (nodes_from (wrote_by f.seq.0 f.label w) after))) (nat_eq_equiv.refl f.seq.0)
reader_is p w (n ∷ before) f after is =
    ap (list_any (nat_eq f.seq.0)) (readers-append p (node_of w n.seq.0 n.label) (nodes_from (wrote_by n.seq.0 n.label w) (before ++ f ∷ after)))
    ∙ list_any-append (nat_eq f.seq.0) (readers_of p (node_of w n.seq.0 n.label)) (readers_of p (nodes_from (wrote_by n.seq.0 n.label w) (before ++ f ∷ after)))
    ∙ or_right (list_any (nat_eq f.seq.0) (readers_of p (node_of w n.seq.0 n.label))) _ (reader_is p (wrote_by n.seq.0 n.label w) before f after is)

-- ---- the number of the last write

-- the last step before the end that wrote the reference, if one did
pub record IsWritten (r : ℕ) (ns : List Numbered) (q : ℕ) : Type 0 where
  pub before : List Numbered
  pub n : Numbered
  pub after : List Numbered
  pub is : ns ≡ before ++ n ∷ after
  pub number : n.seq.0 ≡ q
  pub written : is_at (written n.label) r ≡ true
  pub last : writes r after ≡ false

pub last_write : (w : ℕ → ℕ) (r q : ℕ) (ns : List Numbered) → wrote_after w ns r ≡ q → ((w r ≡ q) × (writes r ns ≡ false)) ⊎ IsWritten r ns q
last_write w r q [] is = inl (is, refl)
last_write w r q (n ∷ ns) is = elim (last_write (wrote_by n.seq.0 n.label w) r q ns is) [
  | (inr k) ↦ inr (record { before = n ∷ k.before; n = k.n; after = k.after; is = ap (λ l. n ∷ l) k.is; number = k.number; written = k.written; last = k.last })
  | (inl k) ↦ elim (is_at (written n.label) r) as (λ b. is_at (written n.label) r ≡ b → cond b n.seq.0 (w r) ≡ q → ((w r ≡ q) × ((b || writes r ns) ≡ false)) ⊎ IsWritten r (n ∷ ns) q) [
    | true ↦ λ at e. inr (record { before = []; n = n; after = ns; is = refl; number = e; written = at; last = k.1 })
    | false ↦ λ off e. inl (e, k.1)
  ] refl k.0
]

pub write_is : (w : ℕ → ℕ) (r : ℕ) (before : List Numbered) (n : Numbered) (after : List Numbered) → is_at (written n.label) r ≡ true → writes r after ≡ false → wrote_after w (before ++ n ∷ after) r ≡ n.seq.0
write_is w r (k ∷ before) n after at none = write_is (wrote_by k.seq.0 k.label w) r before n after at none
write_is w r [] n after at none = unwritten (wrote_by n.seq.0 n.label w) r after none ∙ ap (λ b. cond b n.seq.0 (w r)) at
  where
    unwritten : (w : ℕ → ℕ) (r : ℕ) (ns : List Numbered) → writes r ns ≡ false → wrote_after w ns r ≡ w r
    unwritten w r [] none = refl
    unwritten w r (k ∷ ns) none =
        let parts = or_false (is_at (written k.label) r) (writes r ns) none in
        unwritten (wrote_by k.seq.0 k.label w) r ns parts.1 ∙ ap (λ b. cond b k.seq.0 (w r)) parts.0

-- ---- the node of a step among the nodes

skips : (w : ℕ → ℕ) (q : ℕ) (n : Numbered) (ks : List Node) → nat_eq q n.seq.0 ≡ false → from_number q (node_of w n.seq.0 n.label ++ ks) ≡ from_number q ks
skips w q n ks other =
    elim (is_node n.label) as (λ b. is_node n.label ≡ b → from_number q (node_of w n.seq.0 n.label ++ ks) ≡ from_number q ks) [
      | true ↦ λ is.
          let k = node_here w n.seq.0 n.label is in
          ap (λ ns. from_number q (ns ++ ks)) k.one ∙ ap (λ b. cond b (record { number = n.seq.0; kind = k.kind } ∷ ks) (from_number q ks)) other
      | false ↦ λ off. ap (λ ns. from_number q (ns ++ ks)) (no_node w n.seq.0 n.label off)
    ] refl

-- the nodes from a step on are its own and those of the steps after it
pub from_step : (w : ℕ → ℕ) (p : ℕ) (before : List Numbered) (e : Numbered) (after : List Numbered) → RiseFrom p (before ++ e ∷ after) → (is : is_node e.label ≡ true)
    → from_number e.seq.0 (nodes_from w (before ++ e ∷ after)) ≡ node_of (wrote_after w before) e.seq.0 e.label ++ nodes_from (wrote_after w (before ++ e ∷ [])) after
from_step w p (n ∷ before) e after rise is =
    skips w e.seq.0 n (nodes_from (wrote_by n.seq.0 n.label w) (before ++ e ∷ after)) (differs e.seq.0 n.seq.0 (rise_front (suc n.seq.0) before e after rise.1))
    ∙ from_step (wrote_by n.seq.0 n.label w) (suc n.seq.0) before e after rise.1 is
from_step w p [] e after rise is =
    let k = node_here w e.seq.0 e.label is in
    let more = nodes_from (wrote_by e.seq.0 e.label w) after in
    ap (λ ns. from_number e.seq.0 (ns ++ more)) k.one
    ∙ ap (λ b. cond b (record { number = e.seq.0; kind = k.kind } ∷ more) (from_number e.seq.0 more)) (nat_eq_equiv.refl e.seq.0)
    ∙ ap (λ ns. ns ++ more) (sym k.one)
