-- One edge after another.
use Rattle.std.proofs.Common.{◌≡◌, ℕ, zero, suc, ◌+◌, ◌<◌, ◌≤◌, Bool, true, false, not, cond, ◌&&◌, List, [], ◌∷◌, ◌++◌, length, drop, reverse, Option, Some, None, refl, sym, ap, subst, ◌∙◌, arith, inl, inr, append_assoc}
use Rattle.std.specs.List.{flat_map, AllByRecursion}
use Rattle.std.proofs.lemmas.Bool.{cases_eq, cases_Bool, and_parts}
use Rattle.stab_base.specs.declared.numbers.Seq.{Seq}
use Rattle.comm_graph.specs.declared.node.NodeFor.{NodeFor}
use Rattle.comm_graph.specs.declared.node.NodeFor.TheVariants.{Enter, Spawn, Comm, Get, Set, NewRef, Pin}
use Rattle.comm_graph.specs.declared.edges.Left.TheVariants.{First, Second, Reads}
use Rattle.comm_graph.specs.declared.edges.Edges.{Edges}
use Rattle.comm_graph.specs.declared.table.Entry.{Entry}
use Rattle.comm_graph.specs.Node.{Node, first_of, second_of, touched, is_write, reads}
use Rattle.comm_graph.specs.Edge.{next_of, readers_of, thread_ends, read_ends, ends_at, kind_at, kind_of, from_number}
use Rattle.comm_graph.specs.Left.{left_of, second_at, second_ends, reads_at, until, IsTurn, IsReady, IsLastReader, AreReadersLeft, IsWriter, IsReader, IsLeft, AreEdges, number_of}
use Rattle.comm_graph.specs.Table.{entry_at, stands, nodes_of, nodes_behind, in_line, before_of, readers, IsSorted, IsFound, IsLineOf}
use Rattle.comm_graph.specs.Walk.{number_at, nodes_before}
use Rattle.std.specs.Option.{IsSome, is_some}
use Rattle.std.specs.List.{slice_get}
use Rattle.std.proofs.lemmas.Bool.Decides.{eqb_tells}
use Rattle.comm_graph.proofs.Tables.{in_range, at_front, at_behind}
use Rattle.comm_graph.proofs.Joins.{read_at, member_entry, member_range}
use Rattle.comm_graph.proofs.Reading.{from_place, kind_found}
use Rattle.comm_graph.proofs.Ahead.{until_place, before_all, no_readers, more_readers, last_first, both_true}

append_nil : (ns : List ℕ) → ns ++ [] ≡ ns
append_nil [] = refl
append_nil (n ∷ ns) = ap (λ r. n ∷ r) (append_nil ns)

first_and_rest : (k : NodeFor) (ns : List Node) → thread_ends k ns ≡ next_of (first_of k).0 ns ++ flat_map (λ t. next_of t ns) (drop 1 (touched k))
first_and_rest (Enter t) ns = refl
first_and_rest (Spawn t u) ns = refl
first_and_rest (Comm t u) ns = refl
first_and_rest (Get t q) ns = refl
first_and_rest (Set t) ns = refl
first_and_rest (NewRef t) ns = refl
first_and_rest (Pin t) ns = refl

the_second : (k : NodeFor) (ns : List Node) → flat_map (λ t. next_of t ns) (drop 1 (touched k)) ≡ second_ends (second_of k) ns
the_second (Enter t) ns = refl
the_second (Spawn t u) ns = append_nil (next_of u.0 ns)
the_second (Comm t u) ns = append_nil (next_of u.0 ns)
the_second (Get t q) ns = refl
the_second (Set t) ns = refl
the_second (NewRef t) ns = refl
the_second (Pin t) ns = refl

module _ (es : List Entry) (g p q : ℕ) (e : Entry) (sorted : IsSorted es g) (at : entry_at es g p ≡ Some e) (live : e.live ≡ true) (num : e.number.0 ≡ q) where
  from_here : from_number q (nodes_of es) ≡ record { number = e.number.0; kind = e.kind } ∷ nodes_behind es g p
  from_here = from_place es g p q e sorted at live num

  pub first_left : left_of (nodes_of es) q First ≡ next_of (first_of e.kind).0 (nodes_behind es g p) ++ left_of (nodes_of es) q Second
  first_left =
      let ns = nodes_behind es g p in
      let a = next_of (first_of e.kind).0 ns in
      let b = flat_map (λ t. next_of t ns) (drop 1 (touched e.kind)) in
      let r = read_ends (record { number = e.number.0; kind = e.kind }) (nodes_of es) in
      ap (λ l. ends_at l (nodes_of es)) from_here
      ∙ ap (λ l. l ++ r) (first_and_rest e.kind ns)
      ∙ append_assoc a b r
      ∙ ap (λ l. a ++ l) (sym (ap (λ l. second_at l ++ reads_at l (nodes_of es)) from_here))

  pub second_left : left_of (nodes_of es) q Second ≡ second_ends (second_of e.kind) (nodes_behind es g p) ++ left_of (nodes_of es) q Reads
  second_left =
      let ns = nodes_behind es g p in
      let r = read_ends (record { number = e.number.0; kind = e.kind }) (nodes_of es) in
      ap (λ l. second_at l ++ reads_at l (nodes_of es)) from_here
      ∙ ap (λ l. l ++ r) (the_second e.kind ns)
      ∙ ap (λ l. second_ends (second_of e.kind) ns ++ l) (sym (ap (λ l. reads_at l (nodes_of es)) from_here))

  pub reads_left : left_of (nodes_of es) q Reads ≡ cond (is_write e.kind) (reverse (readers_of q (nodes_of es))) []
  reads_left = ap (λ l. reads_at l (nodes_of es)) from_here ∙ ap (λ n. cond (is_write e.kind) (reverse (readers_of n (nodes_of es))) []) num

-- a number that is at a place
pub at_place : (es : List Entry) (g p : ℕ) (e : Entry) → entry_at es g p ≡ Some e → number_at es g (Some p) ≡ e.number.0 ∷ []
at_place es g p e at = read_at (λ (x : Entry). x.number.0 ∷ []) [] es g p e at

-- an edge that was found, before those that are left
pub turn_some : (ns : List Node) (q : ℕ) (left : List ℕ) (r : Seq) (edges : Edges) (here : List ℕ) → here ≡ r.0 ∷ [] → left ≡ here ++ left_of ns q edges.left → edges.node.0 ≡ q → IsLeft ns q edges.left → IsTurn ns q left (Some r) edges
turn_some ns q left r edges here is split same there = record { end = split ∙ ap (λ l. l ++ left_of ns q edges.left) is; none = tt; same = same; there = there }

-- none was there, so it is as if one had begun later
pub turn_later : (ns : List Node) (q : ℕ) (left later here : List ℕ) (r : Option Seq) (edges : Edges) → here ≡ [] → left ≡ here ++ later → IsTurn ns q later r edges → IsTurn ns q left r edges
turn_later ns q left later here r edges none split turn = subst (λ l. IsTurn ns q l r edges) (sym (split ∙ ap (λ l. l ++ later) none)) turn

-- no edge is left
pub turn_none : (ns : List Node) (q : ℕ) (left : List ℕ) (edges : Edges) → left ≡ [] → left_of ns q edges.left ≡ [] → edges.node.0 ≡ q → IsLeft ns q edges.left → IsTurn ns q left None edges
turn_none ns q left edges none after same there = record { end = none ∙ sym after; none = none; same = same; there = there }

module _ (es : List Entry) (g q v : ℕ) (left : List ℕ) (ready : IsReady es g []) (l : AreReadersLeft es g q v left) where
  pub none_left : v ≤ g → left ≡ []
  none_left low = l.left_is ∙ ap reverse (no_readers q es g l.bound (λ j lo hi. l.last.none j (omega arith) hi))

  pub reader_place : g < v → (g < v) × (v ≤ g + length es)
  reader_place up = member_range (readers q) es g v (l.last.there up)

  pub some_left : g < v → (e : Entry) → entry_at es g v ≡ Some e → (left ≡ e.number.0 ∷ reverse (readers_of q (until e.number.0 (nodes_of es)))) × IsReader (nodes_of es) q e.number.0
  some_left up e at =
      let m = member_entry (readers q) es g v (l.last.there up) in
      let same : m.0 ≡ e = (let both : Some m.0 ≡ Some e = sym m.1 ∙ at in cc) in
      let stands : (e.live && reads q e.kind) ≡ true = ap (λ (x : Entry). x.live && reads q x.kind) (sym same) ∙ m.2 in
      let parts = and_parts e.live (reads q e.kind) stands in
      let sorted = ready.2.sorted in (
        l.left_is ∙ ap reverse (more_readers q es g l.bound v e l.last.below l.last.none at stands) ∙ last_first (readers_of q (nodes_before es g v)) e.number.0
            ∙ ap (λ ns. e.number.0 ∷ reverse (readers_of q ns)) (sym (until_place es g v e.number.0 e sorted at parts.0 refl)),
        (e.kind, kind_found es g e.number.0 v e sorted (record { entry = e; at = at; live = parts.0; number = refl }) at, parts.1),
      )

-- all readers are left, up to the last one
pub all_readers : (es : List Entry) (g q v : ℕ) (left : List ℕ) → IsLineOf es g (readers q) v → left ≡ reverse (readers_of q (nodes_of es)) → AreReadersLeft es g q v left
all_readers es g q v left line is = record {
  bound = suc (g + length es + v);
  last = record {
    below = omega arith;
    there = line.member;
    none = λ j lo hi. line.end j lo;
  };
  left_is = is ∙ ap (λ ns. reverse (readers_of q ns)) (sym (before_all es g (suc (g + length es + v)) (omega arith)));
}

-- those before a reader
pub readers_before : (es : List Entry) (g q p last r v : ℕ) (left : List ℕ) (e : Entry) → IsSorted es g → IsLineOf es g (readers q) last → entry_at es g p ≡ Some e → e.live ≡ true → e.number.0 ≡ r → in_line (readers q) es g p ≡ true → v ≡ before_of (readers q) es g p → left ≡ reverse (readers_of q (until r (nodes_of es))) → AreReadersLeft es g q v left
readers_before es g q p last r v left e sorted line at live num mem is left_is = record {
  bound = p;
  last = subst (λ u. IsLastReader es g q p u) (sym is) (line.back p mem);
  left_is = left_is ∙ ap (λ ns. reverse (readers_of q ns)) (until_place es g p r e sorted at live num);
}

pub less_ready : (es : List Entry) (g : ℕ) (tails : List ℕ) → IsReady es g tails → IsReady es g []
less_ready es g tails ready =
    let s = ready.2 in
    (ready.0, ready.1, record { nodes = s.nodes; sorted = s.sorted; closed = s.closed; small = s.small; count = s.count; acting = λ t lt. absurd (omega arith); reading = s.reading; past = s.past; under = s.under })

-- the entry of a node that is there, from its kind
pub entry_of_kind : (es : List Entry) (g q : ℕ) (k : NodeFor) → IsSorted es g → kind_of (nodes_of es) q ≡ Some k → (p : ℕ) → IsFound es g q p → (e : Entry) → entry_at es g p ≡ Some e → e.kind ≡ k
entry_of_kind es g q k sorted is p found e at = let both : Some e.kind ≡ Some k = sym (kind_found es g q p e sorted found at) ∙ is in cc

pub same_entry : (es : List Entry) (g q p : ℕ) (e : Entry) → IsFound es g q p → entry_at es g p ≡ Some e → (e.live ≡ true) × (e.number.0 ≡ q)
same_entry es g q p e f at =
    let both : Some e ≡ Some f.entry = sym at ∙ f.at in
    let same : e ≡ f.entry = cc in
    (ap (λ (x : Entry). x.live) same ∙ f.live, ap (λ (x : Entry). x.number.0) same ∙ f.number)

-- a number that has a kind has an entry
pub kind_place : (es : List Entry) (g q : ℕ) (k : NodeFor) → kind_of (nodes_of es) q ≡ Some k → (p : ℕ) × (e : Entry) × (entry_at es g p ≡ Some e) × (e.live ≡ true) × (e.number.0 ≡ q) × (e.kind ≡ k)
kind_place [] g q k h = absurd (cc)
kind_place (x ∷ es) g q k h = elim (cases_Bool x.live) [
  | inl y ↦ elim (eqb_tells q x.number.0) [
    | inl s ↦
        let here : kind_of (nodes_of (x ∷ es)) q ≡ Some x.kind = ap (λ b. kind_of (cond b (record { number = x.number.0; kind = x.kind } ∷ nodes_of es) (nodes_of es)) q) y ∙ ap (λ b. kind_at (cond b (record { number = x.number.0; kind = x.kind } ∷ nodes_of es) (from_number q (nodes_of es)))) s.0 in
        let both : Some x.kind ≡ Some k = sym here ∙ h in
        (suc g, x, at_front x es g (suc g) refl, y, sym s.1, cc)
    | inr n ↦
        let there : kind_of (nodes_of (x ∷ es)) q ≡ kind_of (nodes_of es) q = ap (λ b. kind_of (cond b (record { number = x.number.0; kind = x.kind } ∷ nodes_of es) (nodes_of es)) q) y ∙ ap (λ b. kind_at (cond b (record { number = x.number.0; kind = x.kind } ∷ nodes_of es) (from_number q (nodes_of es)))) n.0 in
        let w = kind_place es (suc g) q k (sym there ∙ h) in
        let r = in_range es (suc g) w.0 w.1 w.2 in
        (w.0, w.1, at_behind x es g w.0 r.0 ∙ w.2, w.3, w.4, w.5)
  ]
  | inr n ↦
      let there : kind_of (nodes_of (x ∷ es)) q ≡ kind_of (nodes_of es) q = ap (λ b. kind_of (cond b (record { number = x.number.0; kind = x.kind } ∷ nodes_of es) (nodes_of es)) q) n in
      let w = kind_place es (suc g) q k (sym there ∙ h) in
      let r = in_range es (suc g) w.0 w.1 w.2 in
      (w.0, w.1, at_behind x es g w.0 r.0 ∙ w.2, w.3, w.4, w.5)
]

-- the line of a write's readers
pub writer_line : (es : List Entry) (g q : ℕ) → IsReady es g [] → IsWriter (nodes_of es) q → (last : ℕ) × IsLineOf es g (readers q) last
writer_line es g q ready w =
    let p = kind_place es g q w.0 w.1 in
    (p.1.last_reader, subst (λ n. IsLineOf es g (readers n) p.1.last_reader) p.4 (ready.2.reading p.0 p.1 p.2 p.3 (ap is_write p.5 ∙ w.2)))

pub reader_stands : (es : List Entry) (g q r p : ℕ) (e : Entry) → IsReady es g [] → IsReader (nodes_of es) q r → IsFound es g r p → entry_at es g p ≡ Some e → in_line (readers q) es g p ≡ true
reader_stands es g q r p e ready rd found at =
    let k = entry_of_kind es g r rd.0 ready.2.sorted rd.1 p found e at in
    let f = same_entry es g r p e found at in
    read_at (stands (readers q)) false es g p e at ∙ both_true e.live (reads q e.kind) f.0 (ap (reads q) k ∙ rd.2)

drop_next : (xs : List ℕ) (n x : ℕ) (ys : List ℕ) → drop n xs ≡ x ∷ ys → (drop (suc n) xs ≡ ys) × (slice_get xs n ≡ Some x)
drop_next [] zero x ys h = absurd (cc)
drop_next [] (suc n) x ys h = absurd (cc)
drop_next (y ∷ xs) zero x ys h = (cc, cc)
drop_next (y ∷ xs) (suc n) x ys h = drop_next xs n x ys h

drop_end : (xs : List ℕ) (n i : ℕ) → drop n xs ≡ [] → n ≤ i → slice_get xs i ≡ None
drop_end [] n i h le = refl
drop_end (y ∷ xs) zero i h le = absurd (cc)
drop_end (y ∷ xs) (suc n) zero h le = absurd (omega arith)
drop_end (y ∷ xs) (suc n) (suc i) h le = drop_end xs n i h (omega arith)

-- what a turn says where so many edges were passed
pub turn_get : (ns : List Node) (q n : ℕ) (left xs : List ℕ) (r : Option Seq) (edges : Edges) → IsTurn ns q left r edges → left ≡ drop n xs → number_of r ≡ slice_get xs n
turn_get ns q n left xs None edges t is = sym (drop_end xs n n (sym is ∙ t.none) (omega arith))
turn_get ns q n left xs (Some x) edges t is = sym (drop_next xs n x.0 (left_of ns q edges.left) (sym is ∙ t.end)).1

pub turn_drop : (ns : List Node) (q n : ℕ) (left xs : List ℕ) (r : Option Seq) (edges : Edges) (b : Bool) → IsTurn ns q left r edges → left ≡ drop n xs → is_some r ≡ not b → b ≡ false → left_of ns q edges.left ≡ drop (suc n) xs
turn_drop ns q n left xs None edges b t is some z = let bad : false ≡ true = some ∙ ap not z in absurd (cc)
turn_drop ns q n left xs (Some x) edges b t is some z = sym (drop_next xs n x.0 (left_of ns q edges.left) (sym is ∙ t.end)).0

pub turn_past : (ns : List Node) (q n i : ℕ) (left xs : List ℕ) (r : Option Seq) (edges : Edges) (b : Bool) → IsTurn ns q left r edges → left ≡ drop n xs → is_some r ≡ not b → b ≡ true → n ≤ i → None ≡ slice_get xs i
turn_past ns q n i left xs None edges b t is none y le = sym (drop_end xs n i (sym is ∙ t.none) le)
turn_past ns q n i left xs (Some x) edges b t is none y le = let bad : true ≡ false = none ∙ ap not y in absurd (cc)

-- edges after a turn
pub turned : (ns : List Node) (q : ℕ) (left : List ℕ) (r : Option Seq) (before after : Edges) → before.node.0 ≡ q → AreEdges ns before → IsTurn ns q left r after → AreEdges ns after
turned ns q left r before after is edges t = record {
  there = subst (λ n. IsSome (kind_of ns n)) (is ∙ sym t.same) edges.there;
  left = subst (λ n. IsLeft ns n after.left) (sym t.same) t.there;
}

all_cond : (P : Node → Type 0) (b : Bool) (n : Node) (ns : List Node) → (b ≡ true → P n) → AllByRecursion P ns → AllByRecursion P (cond b (n ∷ ns) ns)
all_cond P true n ns h all = (h refl, all)
all_cond P false n ns h all = all

-- what holds of each live entry holds of all nodes
pub all_of : (P : Node → Type 0) (es : List Entry) (g : ℕ) → ((k : ℕ) (e : Entry) → entry_at es g k ≡ Some e → e.live ≡ true → P (record { number = e.number.0; kind = e.kind })) → AllByRecursion P (nodes_of es)
all_of P [] g h = tt
all_of P (x ∷ es) g h =
    all_cond P x.live (record { number = x.number.0; kind = x.kind }) (nodes_of es) (λ live. h (suc g) x (at_front x es g (suc g) refl) live)
    (all_of P es (suc g) (λ k e at live. let r = in_range es (suc g) k e at in h k e (at_behind x es g k r.0 ∙ at) live))

pub between : (es : List Entry) (g : ℕ) (a b : Entry) → IsSorted es g → entry_at es g (suc g) ≡ Some a → entry_at es g (g + length es) ≡ Some b → AllByRecursion (λ (n : Node). (a.number.0 ≤ n.number) × (n.number ≤ b.number.0)) (nodes_of es)
between es g a b s first last = all_of (λ (n : Node). (a.number.0 ≤ n.number) × (n.number ≤ b.number.0)) es g (λ k e at live.
    let r = in_range es g k e at in (
      elim (cases_eq k (suc g)) [
        | inl same ↦ (let both : Some e ≡ Some a = sym (ap (entry_at es g) (sym same) ∙ at) ∙ first in let is : e ≡ a = cc in omega (arith, ap (λ (y : Entry). y.number.0) is))
        | inr n ↦ omega (arith, s.rise (suc g) k a e first at (omega arith))
      ],
      elim (cases_eq k (g + length es)) [
        | inl same ↦ (let both : Some e ≡ Some b = sym (ap (entry_at es g) (sym same) ∙ at) ∙ last in let is : e ≡ b = cc in omega (arith, ap (λ (y : Entry). y.number.0) is))
        | inr n ↦ omega (arith, s.rise k (g + length es) e b at last (omega arith))
      ],
    ))

pub in_order : (es : List Entry) (g : ℕ) (a b : Entry) → IsSorted es g → entry_at es g (suc g) ≡ Some a → entry_at es g (g + length es) ≡ Some b → a.number.0 ≤ b.number.0
in_order es g a b s first last =
    let r = in_range es g (suc g) a first in
    elim (cases_eq (suc g) (g + length es)) [
      | inl same ↦ (let both : Some a ≡ Some b = sym first ∙ ap (entry_at es g) same ∙ last in let is : a ≡ b = cc in omega (arith, ap (λ (y : Entry). y.number.0) is))
      | inr n ↦ omega (arith, s.rise (suc g) (g + length es) a b first last (omega arith))
    ]
