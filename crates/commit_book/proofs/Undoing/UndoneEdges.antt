-- The edges of the graph are those of the run above its last cut, so what they reach from a section is what is reached from it.
use Rattle.std.proofs.Common.{◌≡◌, inl, inr, ℕ, suc, ◌<◌, ◌≤◌, Bool, true, false, cond, not, ◌&&◌, ◌||◌, nat_eq, List, [], ◌∷◌, ◌++◌, reverse, Option, Some, None, refl, sym, ap, subst, ◌∙◌, arith, append_assoc}
use Rattle.std.specs.Prelude.{filter, nat_lt, is_some}
use Rattle.std.specs.List.{AllByRecursion, list_any, flat_map}
use Rattle.std.specs.Cmp.{nat_eq_equiv}
use Rattle.std.proofs.lemmas.Bool.{false≢true, eqb-true}
use Rattle.std.proofs.lemmas.Bool.Decides.{nat_tests}
use Rattle.std.proofs.lemmas.List.Elements.{filter-append}
use Rattle.std.proofs.lemmas.List.Folds.{list_any-append}
use Rattle.std.proofs.lemmas.List.Sorted.{IsPermutation-reverse, list_any-IsPermutation}
use Rattle.stab_journal.specs.declared.event.Label.{Label}
use Rattle.stab_journal.specs.declared.event.Label.TheVariants.{Spawn, Comm, NewRef, Get, Set, Enter, Pin}
use Rattle.stab_journal.specs.declared.event.Numbered.{Numbered}
use Rattle.stab_journal.specs.Dependence.{writes, writes_what}
use Rattle.stab_journal.specs.Floor.{floor, is_enter, is_entered, is_pin, is_revocable}
use Rattle.stab_journal.specs.Journal.{RiseFrom}
use Rattle.stab_journal.specs.Label.{actors, spawned, touched, written}
use Rattle.stab_journal.specs.Names.{has, is_at, read}
use Rattle.stab_journal.specs.Reached.{reads_of, reached}
use Rattle.comm_graph.specs.Node as graph
use Rattle.comm_graph.specs.Node.{Node, is_write}
use Rattle.comm_graph.specs.declared.node.NodeFor.{NodeFor}
use Rattle.comm_graph.specs.Edge.{next_of, readers_of, read_ends, ends_at, ends, kind_at, kind_of}
use Rattle.reach_line.specs.Reached as marks
use Rattle.restore.specs.Line.{starts, IsMarkedAs, AreThere}
use Rattle.journal_laws.specs.Lines.{is_node, has_node, Leads, by_thread, by_write, IsEdge, Marked, itself, edge}
use Rattle.journal_laws.proofs.Chains.{or_cases, or_right}
use Rattle.journal_laws.proofs.Entries.{nodes as marked_nodes}
use Rattle.journal_laws.proofs.Held.{parts_of, entry_of, reached_above}
use Rattle.journal_laws.proofs.Numbers.{one_step}
use Rattle.commit_book.specs.Graph.{is_pinned, node_of, wrote_by, nodes_from, AreNodesOf}
use Rattle.commit_book.specs.Step.{wrote_after}
use Rattle.commit_book.proofs.Keeping.Floors.{less_is}
use Rattle.commit_book.proofs.Keeping.NodeSteps.{above_floor}
use Rattle.commit_book.proofs.Undoing.UndoneMarks.{listed_is, IsNodeOf, node_here, next_step, next_is, IsRead, reader_step, reader_is, IsWritten, last_write, write_is, from_step}

-- ---- the run above its last cut

below_floor : (f q : ℕ) (w : ℕ → ℕ) (l : Label) → nat_lt f q ≡ false → filter (λ (k : Node). nat_lt f k.number) (node_of w q l) ≡ []
below_floor f q w (Enter t) low = ap (λ b. cond b (node_of w q (Enter t)) []) low
below_floor f q w (Spawn t u) low = ap (λ b. cond b (node_of w q (Spawn t u)) []) low
below_floor f q w (Comm s r c) low = ap (λ b. cond b (node_of w q (Comm s r c)) []) low
below_floor f q w (Get t r) low = ap (λ b. cond b (node_of w q (Get t r)) []) low
below_floor f q w (Set t r) low = ap (λ b. cond b (node_of w q (Set t r)) []) low
below_floor f q w (NewRef t r) low = ap (λ b. cond b (node_of w q (NewRef t r)) []) low
below_floor f q w (Pin t) low = ap (λ b. cond b (node_of w q (Pin t)) []) low
below_floor f q w _ low = refl

all_above : (f p : ℕ) (w : ℕ → ℕ) (ns : List Numbered) → f < p → RiseFrom p ns → filter (λ (k : Node). nat_lt f k.number) (nodes_from w ns) ≡ nodes_from w ns
all_above f p w [] low rise = refl
all_above f p w (n ∷ ns) low rise =
    filter-append (λ (k : Node). nat_lt f k.number) (node_of w n.seq.0 n.label) (nodes_from (wrote_by n.seq.0 n.label w) ns)
    ∙ ap (λ ks. ks ++ filter (λ (k : Node). nat_lt f k.number) (nodes_from (wrote_by n.seq.0 n.label w) ns)) (above_floor f n.seq.0 w n.label (less_is f n.seq.0 (omega (arith, rise.0))))
    ∙ ap (λ ks. node_of w n.seq.0 n.label ++ ks) (all_above f (suc n.seq.0) (wrote_by n.seq.0 n.label w) ns (omega (arith, rise.0)) rise.1)

-- a run in two parts, of which the second has the nodes above f
record AboveFloor (f : ℕ) (w : ℕ → ℕ) (run : List Numbered) : Type 0 where
  low : List Numbered
  high : List Numbered
  now : ℕ → ℕ
  is : run ≡ low ++ high
  nodes : filter (λ (k : Node). nat_lt f k.number) (nodes_from w run) ≡ nodes_from now high
  under : AllByRecursion (λ (n : Numbered). n.seq.0 ≤ f) low
  over : RiseFrom (suc f) high
  before : (r : ℕ) → now r ≤ f

over_is : (f q : ℕ) → nat_lt f q ≡ true → f < q
over_is f q h = grind (arith, nat_tests)

under_is : (f q : ℕ) → nat_lt f q ≡ false → q ≤ f
under_is f q h = grind (arith, nat_tests)

above_of : (f p : ℕ) (w : ℕ → ℕ) (run : List Numbered) → RiseFrom p run → ((r : ℕ) → w r ≤ f) → AboveFloor f w run
above_of f p w [] rise before = record { low = []; high = []; now = w; is = refl; nodes = refl; under = tt; over = tt; before = before }
above_of f p w (n ∷ ns) rise before =
    elim (nat_lt f n.seq.0) as (λ b. nat_lt f n.seq.0 ≡ b → AboveFloor f w (n ∷ ns)) [
      | true ↦ λ e. record { low = []; high = n ∷ ns; now = w; is = refl; nodes = all_above f n.seq.0 w (n ∷ ns) (over_is f n.seq.0 e) (omega arith, rise.1); under = tt; over = (let h = over_is f n.seq.0 e in omega arith, rise.1); before = before }
      | false ↦ λ e.
          let small : n.seq.0 ≤ f = under_is f n.seq.0 e in
          let k = above_of f (suc n.seq.0) (wrote_by n.seq.0 n.label w) ns rise.1 (λ r. elim (is_at (written n.label) r) as (λ b. cond b n.seq.0 (w r) ≤ f) [ true ↦ small | false ↦ before r ]) in
          record {
            low = n ∷ k.low;
            high = k.high;
            now = k.now;
            is = ap (λ l. n ∷ l) k.is;
            nodes = filter-append (λ (k : Node). nat_lt f k.number) (node_of w n.seq.0 n.label) (nodes_from (wrote_by n.seq.0 n.label w) ns)
                ∙ ap (λ ks. ks ++ filter (λ (k : Node). nat_lt f k.number) (nodes_from (wrote_by n.seq.0 n.label w) ns)) (below_floor f n.seq.0 w n.label e) ∙ k.nodes;
            under = (small, k.under);
            over = k.over;
            before = k.before;
          }
    ] refl

record InHigh (low high before : List Numbered) (e : Numbered) (after : List Numbered) : Type 0 where
  front : List Numbered
  is : high ≡ front ++ e ∷ after

heads : {n m : Numbered} {ns ms : List Numbered} → n ∷ ns ≡ m ∷ ms → n ≡ m
heads h = cc

tails : {n m : Numbered} {ns ms : List Numbered} → n ∷ ns ≡ m ∷ ms → ns ≡ ms
tails h = cc

in_high : (f : ℕ) (low high before : List Numbered) (e : Numbered) (after : List Numbered) → AllByRecursion (λ (n : Numbered). n.seq.0 ≤ f) low → f < e.seq.0 → low ++ high ≡ before ++ e ∷ after → InHigh low high before e after
in_high f [] high before e after under over is = record { front = before; is = is }
in_high f (k ∷ low) high [] e after under over is = absurd (let same : k.seq.0 ≡ e.seq.0 = ap (λ (n : Numbered). n.seq.0) (heads is) in let small : k.seq.0 ≤ f = under.0 in omega arith)
in_high f (k ∷ low) high (n ∷ before) e after under over is = let h = in_high f low high before e after under.1 over (tails is) in record { front = h.front; is = h.is }

-- ---- what edges there are

record Among (f : ℕ → List ℕ) (ts : List ℕ) (q : ℕ) : Type 0 where
  t : ℕ
  here : has ts t ≡ true
  end : list_any (nat_eq q) (f t) ≡ true

in_flat : (f : ℕ → List ℕ) (ts : List ℕ) (q : ℕ) → list_any (nat_eq q) (flat_map f ts) ≡ true → Among f ts q
in_flat f [] q h = absurd (false≢true h)
in_flat f (t ∷ ts) q h = or_cases (list_any (nat_eq q) (f t)) (list_any (nat_eq q) (flat_map f ts)) (Among f (t ∷ ts) q)
    (λ here. record { t = t; here = ap (λ b. cond b true (has ts t)) (nat_eq_equiv.refl t); end = here })
    (λ later. let k = in_flat f ts q later in record { t = k.t; here = has_later k.t t ts k.here; end = k.end })
    (sym (list_any-append (nat_eq q) (f t) (flat_map f ts)) ∙ h)
  where
    has_later : (u t : ℕ) (ts : List ℕ) → has ts u ≡ true → has (t ∷ ts) u ≡ true
    has_later u t ts h = elim (nat_eq u t) as (λ b. cond b true (has ts u) ≡ true) [ true ↦ refl | false ↦ h ]

flat_in : (f : ℕ → List ℕ) (ts : List ℕ) (t q : ℕ) → has ts t ≡ true → list_any (nat_eq q) (f t) ≡ true → list_any (nat_eq q) (flat_map f ts) ≡ true
flat_in f [] t q here end = absurd (false≢true here)
flat_in f (u ∷ ts) t q here end =
    list_any-append (nat_eq q) (f u) (flat_map f ts)
    ∙ (elim (nat_eq t u) as (λ b. nat_eq t u ≡ b → cond b true (has ts t) ≡ true → (list_any (nat_eq q) (f u) || list_any (nat_eq q) (flat_map f ts)) ≡ true) [
      | true ↦ λ e h. ap (λ b. b || list_any (nat_eq q) (flat_map f ts)) (ap (λ k. list_any (nat_eq q) (f k)) (sym (eqb-true t u e)) ∙ end)
      | false ↦ λ e h. or_right (list_any (nat_eq q) (f u)) _ (flat_in f ts t q h end)
    ] refl here)

reader_is_node : (l : Label) (r : ℕ) → read l ≡ Some r → is_node l ≡ true
reader_is_node (Get t s) r h = refl
reader_is_node _ r h = absurd (none_some h)
  where
    none_some : {x : ℕ} → ◌≡◌ {A = Option ℕ} None (Some x) → ⊥
    none_some h = cc

-- where the edges of a step's node lead
edges_of : (w : ℕ → ℕ) (p : ℕ) (before : List Numbered) (e : Numbered) (after : List Numbered) → RiseFrom p (before ++ e ∷ after) → (is : is_node e.label ≡ true)
    → let k = node_here (wrote_after w before) e.seq.0 e.label is in
    ends (nodes_from w (before ++ e ∷ after)) e.seq.0
    ≡ flat_map (λ t. next_of t (nodes_from (wrote_after w (before ++ e ∷ [])) after)) (graph.touched k.kind) ++ read_ends (record { number = e.seq.0; kind = k.kind }) (nodes_from w (before ++ e ∷ after))
edges_of w p before e after rise is =
    let k = node_here (wrote_after w before) e.seq.0 e.label is in
    let all = nodes_from w (before ++ e ∷ after) in
    ap (λ ns. ends_at ns all) (from_step w p before e after rise is ∙ ap (λ ns. ns ++ nodes_from (wrote_after w (before ++ e ∷ [])) after) k.one)

-- an end of an edge, with the step that it is
pub record IsEnd (run : List Numbered) (e : Numbered) (q : ℕ) : Type 0 where
  pub f : Numbered
  pub number : f.seq.0 ≡ q
  pub edge : IsEdge run e f

reads_case : (o : Option ℕ) (x : ℕ → Bool) (Q : Type 0) → ((r : ℕ) → o ≡ Some r → x r ≡ true → Q) → reads_of o x ≡ true → Q
reads_case None x Q f h = absurd (false≢true h)
reads_case (Some r) x Q f h = f r refl h

not_true : (b : Bool) → not b ≡ true → b ≡ false
not_true true h = absurd (false≢true h)
not_true false h = refl

two_of : (a b : Bool) → (a && not b) ≡ true → (a ≡ true) × (b ≡ false)
two_of true b h = (refl, not_true b h)
two_of false b h = absurd (false≢true h)

what_case : (e : Label) (between : List Numbered) (o : Option ℕ) (Q : Type 0) → ((r : ℕ) → o ≡ Some r → is_at (written e) r ≡ true → writes r between ≡ false → Q) → writes_what e between o ≡ true → Q
what_case e between None Q f h = absurd (false≢true h)
what_case e between (Some r) Q f h = let both = two_of (is_at (written e) r) (writes r between) h in f r refl both.0 both.1

at_some : (o : Option ℕ) (r : ℕ) → is_at o r ≡ true → is_some o ≡ true
at_some None r h = absurd (false≢true h)
at_some (Some k) r h = refl

pub enter_node : (l : Label) → is_enter l ≡ true → is_node l ≡ true
enter_node (Enter t) h = refl
enter_node _ h = absurd (false≢true h)

-- the section entered at m was entered after the last cut; a pin may depend on it
pub record IsUncut (run : List Numbered) (m : ℕ) : Type 0 where
  pub entered : is_entered m run ≡ true
  pub above : floor run < m

pub uncut_of : (run : List Numbered) (m : ℕ) → is_revocable run m ≡ true → IsUncut run m
uncut_of run m revocable = let parts = parts_of run m revocable in record { entered = parts.entered; above = parts.above }

-- what is reached from it stands above the last cut
pub stays_above : (run : List Numbered) (m q : ℕ) → RiseFrom 1 run → IsUncut run m → has (reached run m) q ≡ true → floor run < q
stays_above run m q rise uncut lost = omega (arith, uncut.above, reached_above run m 1 q rise lost)

-- the node of a step is there, and its threads are the step's
pub record IsKindOf (nodes : List Node) (n : Numbered) : Type 0 where
  pub kind : NodeFor
  pub there : kind_of nodes n.seq.0 ≡ Some kind
  pub acts : (t : ℕ) → graph.acts t kind ≡ has (actors n.label) t
  pub touches : (t : ℕ) → graph.touches t kind ≡ has (touched n.label) t
  pub starts : (t : ℕ) → starts t kind ≡ is_at (spawned n.label) t
  pub pins : is_pinned kind ≡ is_pin n.label

write_end : (a b : Bool) → a ≡ true → b ≡ false → (a && not b) ≡ true
write_end a b first second = ap (λ c. c && not b) first ∙ ap (λ c. not c) second

module _ (run : List Numbered) (nodes : List Node) (rise : RiseFrom 1 run) (are : AreNodesOf nodes run) where
  parts : AboveFloor (floor run) (λ _. 0) run
  parts = above_of (floor run) 1 (λ _. 0) run rise (λ r. omega arith)

  graph_is : nodes ≡ nodes_from parts.now parts.high
  graph_is = are ∙ parts.nodes

  module _ (e : Numbered) (before after : List Numbered) (cut : run ≡ before ++ e ∷ after) (is : is_node e.label ≡ true) (over : floor run < e.seq.0) where
    place : InHigh parts.low parts.high before e after
    place = in_high (floor run) parts.low parts.high before e after parts.under over (sym parts.is ∙ cut)

    rises : RiseFrom (suc (floor run)) (place.front ++ e ∷ after)
    rises = subst (λ (l : List Numbered). RiseFrom (suc (floor run)) l) place.is parts.over

    own : IsNodeOf (wrote_after parts.now place.front) e.seq.0 e.label
    own = node_here (wrote_after parts.now place.front) e.seq.0 e.label is

    later : List Node
    later = nodes_from (wrote_after parts.now (place.front ++ e ∷ [])) after

    pub kind_step : IsKindOf nodes e
    unfolding own later
    kind_step = record {
      kind = own.kind;
      there = ap (λ ns. kind_of ns e.seq.0) (graph_is ∙ ap (nodes_from parts.now) place.is) ∙ ap kind_at (from_step parts.now (suc (floor run)) place.front e after rises is ∙ ap (λ ns. ns ++ later) own.one);
      acts = λ t. listed_is t (graph.actors own.kind) ∙ ap (λ ts. has ts t) own.actors;
      touches = λ t. listed_is t (graph.touched own.kind) ∙ ap (λ ts. has ts t) own.touched;
      starts = own.starts;
      pins = own.pins;
    }

    leads_to : ends nodes e.seq.0 ≡ flat_map (λ t. next_of t later) (graph.touched own.kind) ++ read_ends (record { number = e.seq.0; kind = own.kind }) (nodes_from parts.now (place.front ++ e ∷ after))
    unfolding own later
    leads_to = ap (λ ns. ends ns e.seq.0) (graph_is ∙ ap (nodes_from parts.now) place.is) ∙ edges_of parts.now (suc (floor run)) place.front e after rises is

    by_threads : (q : ℕ) → list_any (nat_eq q) (flat_map (λ t. next_of t later) (graph.touched own.kind)) ≡ true → IsEnd run e q
    unfolding later
    by_threads q h =
        let a = in_flat (λ t. next_of t later) (graph.touched own.kind) q h in
        let n = next_step a.t q (wrote_after parts.now (place.front ++ e ∷ [])) after a.end in
        record {
          f = n.f;
          number = n.number;
          edge = record { before = before; between = n.between; after = n.after; is = cut ∙ ap (λ l. before ++ e ∷ l) n.is; from = is; to = n.node; how = by_thread a.t (ap (λ ts. has ts a.t) (sym own.touched) ∙ a.here) n.acts n.none };
        }

    -- the write that a reader read is e
    read_edge : (q r : ℕ) (d : IsRead e.seq.0 parts.now (place.front ++ e ∷ after) q) → read d.f.label ≡ Some r → IsWritten r d.before e.seq.0 → IsEnd run e q
    read_edge q r d reads w =
        let front : List Numbered = parts.low ++ w.before in
        let at : run ≡ front ++ w.n ∷ (w.after ++ d.f ∷ d.after) =
        parts.is ∙ ap (λ l. parts.low ++ l) (place.is ∙ d.is ∙ ap (λ l. l ++ d.f ∷ d.after) w.is ∙ append_assoc w.before (w.n ∷ w.after) (d.f ∷ d.after)) ∙ sym (append_assoc parts.low w.before (w.n ∷ (w.after ++ d.f ∷ d.after))) in
        let same : w.n ≡ e = one_step 1 front w.n (w.after ++ d.f ∷ d.after) before e after (subst (λ (l : List Numbered). RiseFrom 1 l) at rise) (sym at ∙ cut) w.number in
        record {
          f = d.f;
          number = d.number;
          edge = record {
            before = front;
            between = w.after;
            after = d.after;
            is = at ∙ ap (λ k. front ++ k ∷ (w.after ++ d.f ∷ d.after)) same;
            from = is;
            to = reader_is_node d.f.label r reads;
            how = by_write (ap (writes_what e.label w.after) reads ∙ write_end (is_at (written e.label) r) (writes r w.after) (ap (λ (k : Numbered). is_at (written k.label) r) (sym same) ∙ w.written) w.last);
          };
        }

    by_reads : (q : ℕ) → list_any (nat_eq q) (read_ends (record { number = e.seq.0; kind = own.kind }) (nodes_from parts.now (place.front ++ e ∷ after))) ≡ true → IsEnd run e q
    by_reads q h =
        let all = readers_of e.seq.0 (nodes_from parts.now (place.front ++ e ∷ after)) in
        elim (is_write own.kind) as (λ b. list_any (nat_eq q) (cond b (reverse all) []) ≡ true → IsEnd run e q) [
          | true ↦ λ h.
              let d = reader_step e.seq.0 q parts.now (place.front ++ e ∷ after) (list_any-IsPermutation (nat_eq q) all (reverse all) (IsPermutation-reverse all) ∙ h) in
              reads_case (read d.f.label) (λ r. nat_eq e.seq.0 (wrote_after parts.now d.before r)) (IsEnd run e q)
              (λ r reads now. elim (last_write parts.now r e.seq.0 d.before (sym (eqb-true e.seq.0 (wrote_after parts.now d.before r) now))) [
                | (inl old) ↦ absurd (let small = parts.before r in let same = old.0 in omega arith)
                | (inr w) ↦ read_edge q r d reads w
              ]) d.reads
          | false ↦ λ h. absurd (false≢true h)
        ] h

    -- where an edge leads from e
    pub edge_end : (q : ℕ) → list_any (nat_eq q) (ends nodes e.seq.0) ≡ true → IsEnd run e q
    edge_end q h =
        let threads = flat_map (λ t. next_of t later) (graph.touched own.kind) in
        let readers = read_ends (record { number = e.seq.0; kind = own.kind }) (nodes_from parts.now (place.front ++ e ∷ after)) in
        or_cases (list_any (nat_eq q) threads) (list_any (nat_eq q) readers) (IsEnd run e q) (by_threads q) (by_reads q) (sym (list_any-append (nat_eq q) threads readers) ∙ ap (list_any (nat_eq q)) (sym leads_to) ∙ h)

    or_left : (a b : Bool) → a ≡ true → (a || b) ≡ true
    or_left a b h = ap (λ c. c || b) h

    thread_end : (between : List Numbered) (f : Numbered) (rest : List Numbered) (t : ℕ) → after ≡ between ++ f ∷ rest → is_node f.label ≡ true → has (touched e.label) t ≡ true → has (actors f.label) t ≡ true → has_node t between ≡ false
        → list_any (nat_eq f.seq.0) (ends nodes e.seq.0) ≡ true
    unfolding later
    thread_end between f rest t at node touches acts none =
        let next : next_of t later ≡ f.seq.0 ∷ [] = ap (λ l. next_of t (nodes_from (wrote_after parts.now (place.front ++ e ∷ [])) l)) at ∙ next_is t (wrote_after parts.now (place.front ++ e ∷ [])) between f rest none node acts in
        let threads = flat_map (λ t. next_of t later) (graph.touched own.kind) in
        let readers = read_ends (record { number = e.seq.0; kind = own.kind }) (nodes_from parts.now (place.front ++ e ∷ after)) in
        ap (list_any (nat_eq f.seq.0)) leads_to ∙ list_any-append (nat_eq f.seq.0) threads readers
        ∙ or_left (list_any (nat_eq f.seq.0) threads) (list_any (nat_eq f.seq.0) readers)
        (flat_in (λ t. next_of t later) (graph.touched own.kind) t f.seq.0 (ap (λ ts. has ts t) own.touched ∙ touches) (ap (list_any (nat_eq f.seq.0)) next ∙ ap (λ b. b || false) (nat_eq_equiv.refl f.seq.0)))

    read_end : (between : List Numbered) (f : Numbered) (rest : List Numbered) (r : ℕ) → after ≡ between ++ f ∷ rest → read f.label ≡ Some r → is_at (written e.label) r ≡ true → writes r between ≡ false
        → list_any (nat_eq f.seq.0) (ends nodes e.seq.0) ≡ true
    read_end between f rest r at reads wrote none =
        let threads = flat_map (λ t. next_of t later) (graph.touched own.kind) in
        let all = readers_of e.seq.0 (nodes_from parts.now (place.front ++ e ∷ after)) in
        let split : place.front ++ e ∷ after ≡ (place.front ++ e ∷ between) ++ f ∷ rest = ap (λ l. place.front ++ e ∷ l) at ∙ sym (append_assoc place.front (e ∷ between) (f ∷ rest)) in
        let found : list_any (nat_eq f.seq.0) all ≡ true =
        ap (λ l. list_any (nat_eq f.seq.0) (readers_of e.seq.0 (nodes_from parts.now l))) split
        ∙ reader_is e.seq.0 parts.now (place.front ++ e ∷ between) f rest
        (ap (λ o. reads_of o (λ r. nat_eq e.seq.0 (wrote_after parts.now (place.front ++ e ∷ between) r))) reads ∙ ap (nat_eq e.seq.0) (write_is parts.now r place.front e between wrote none) ∙ nat_eq_equiv.refl e.seq.0) in
        let writer : is_write own.kind ≡ true = own.writes ∙ at_some (written e.label) r wrote in
        ap (list_any (nat_eq f.seq.0)) leads_to ∙ list_any-append (nat_eq f.seq.0) threads (cond (is_write own.kind) (reverse all) [])
        ∙ or_right (list_any (nat_eq f.seq.0) threads) _ (ap (λ b. list_any (nat_eq f.seq.0) (cond b (reverse all) [])) writer ∙ sym (list_any-IsPermutation (nat_eq f.seq.0) all (reverse all) (IsPermutation-reverse all)) ∙ found)

  -- an edge of the run is an edge of the graph
  pub end_of_edge : (e f : Numbered) → floor run < e.seq.0 → IsEdge run e f → list_any (nat_eq f.seq.0) (ends nodes e.seq.0) ≡ true
  end_of_edge e f over d = leads d.how
    where
      leads : Leads e.label d.between f.label → list_any (nat_eq f.seq.0) (ends nodes e.seq.0) ≡ true
      leads (by_thread t touches acts none) = thread_end e d.before (d.between ++ f ∷ d.after) d.is d.from over d.between f d.after t refl d.to touches acts none
      leads (by_write h) = what_case e.label d.between (read f.label) (list_any (nat_eq f.seq.0) (ends nodes e.seq.0) ≡ true) (λ r reads wrote none. read_end e d.before (d.between ++ f ∷ d.after) d.is d.from over d.between f d.after r refl reads wrote none) h

  module _ (m : ℕ) (uncut : IsUncut run m) where
    entered : is_entered m run ≡ true
    entered = uncut.entered

    -- the step numbered q is marked in the run
    pub record IsMark (q : ℕ) : Type 0 where
      pub f : Numbered
      pub number : f.seq.0 ≡ q
      pub marked : Marked run m f

    -- a marked step is a node of the run above its last cut
    record IsPlaced (f : Numbered) : Type 0 where
      before : List Numbered
      after : List Numbered
      is : run ≡ before ++ f ∷ after
      node : is_node f.label ≡ true

    placed : (f : Numbered) → Marked run m f → IsPlaced f
    placed _ (itself before n after cut at node) = record { before = before; after = after; is = cut; node = node }
    placed _ (edge e f chain d) = record { before = d.before ++ e ∷ d.between; after = d.after; is = d.is ∙ sym (append_assoc d.before (e ∷ d.between) (f ∷ d.after)); node = d.to }

    goes : (f : Numbered) → Marked run m f → has (reached run m) f.seq.0 ≡ true
    goes f marked = let p = placed f marked in (marked_nodes run m rise entered p.before f p.after p.is p.node).1 marked

    above : (f : Numbered) → Marked run m f → floor run < f.seq.0
    above f marked = stays_above run m f.seq.0 rise uncut (goes f marked)

    pub reached_mark : (q : ℕ) → marks.Reached nodes m q → IsMark q
    reached_mark _ marks.itself =
        let e = entry_of m run entered in
        record { f = e.n; number = sym e.at; marked = itself e.place.before e.n e.place.after e.place.is e.at (enter_node e.n.label e.enters) }
    reached_mark _ (marks.edge p q chain end) =
        let k = reached_mark p chain in
        let at = placed k.f k.marked in
        let d = edge_end k.f at.before at.after at.is at.node (above k.f k.marked) q (ap (λ j. list_any (nat_eq q) (ends nodes j)) k.number ∙ end) in
        record { f = d.f; number = d.number; marked = edge k.f d.f k.marked d.edge }

    pub mark_reached : (f : Numbered) → Marked run m f → marks.Reached nodes m f.seq.0
    mark_reached _ (itself before n after cut at node) = subst (marks.Reached nodes m) at marks.itself
    mark_reached _ (edge e f chain d) = marks.edge e.seq.0 f.seq.0 (mark_reached e chain) (end_of_edge e f (above e chain) d)

    among : (P : ℕ → Type 0) (qs : List ℕ) (q : ℕ) → AllByRecursion P qs → marks.has q qs ≡ true → P q
    among P [] q all h = absurd (false≢true h)
    among P (k ∷ qs) q all h = or_cases (nat_eq q k) (marks.has q qs) (P q) (λ same. subst P (sym (eqb-true q k same)) all.0) (λ later. among P qs q all.1 later) h

    -- the marks are the nodes that are reached in the run
    pub marks_are : (qs : List ℕ) → marks.AreReached nodes m qs → (before : List Numbered) (f : Numbered) (after : List Numbered) → run ≡ before ++ f ∷ after → is_node f.label ≡ true → marks.has f.seq.0 qs ≡ has (reached run m) f.seq.0
    marks_are qs reach before f after cut node =
        elim (has (reached run m) f.seq.0) as (λ b. has (reached run m) f.seq.0 ≡ b → marks.has f.seq.0 qs ≡ b) [
          | true ↦ λ lost. reach.all f.seq.0 (mark_reached f ((marked_nodes run m rise entered before f after cut node).0 lost))
          | false ↦ λ stays. elim (marks.has f.seq.0 qs) as (λ b. marks.has f.seq.0 qs ≡ b → b ≡ false) [
            | true ↦ λ marked.
                let k = reached_mark f.seq.0 (among (marks.Reached nodes m) qs f.seq.0 reach.only marked) in
                absurd (false≢true (sym stays ∙ ap (has (reached run m)) (sym k.number) ∙ goes k.f k.marked))
            | false ↦ λ unmarked. refl
          ] refl
        ] refl

    -- and nothing else is marked
    pub marks_only : (qs : List ℕ) → marks.AreReached nodes m qs → (q : ℕ) → marks.has q qs ≡ true → has (reached run m) q ≡ true
    marks_only qs reach q marked =
        let k = reached_mark q (among (marks.Reached nodes m) qs q reach.only marked) in
        ap (has (reached run m)) (sym k.number) ∙ goes k.f k.marked

    -- a lost node is marked, as what its step is
    pub marked_as : (qs : List ℕ) → marks.AreReached nodes m qs → (P : NodeFor → Bool) (before : List Numbered) (f : Numbered) (after : List Numbered) (cut : run ≡ before ++ f ∷ after) (node : is_node f.label ≡ true) (lost : has (reached run m) f.seq.0 ≡ true)
        → P (kind_step f before after cut node (stays_above run m f.seq.0 rise uncut lost)).kind ≡ true → IsMarkedAs nodes qs P f.seq.0
    marked_as qs reach P before f after cut node lost passes =
        let k = kind_step f before after cut node (stays_above run m f.seq.0 rise uncut lost) in
        record { kind = k.kind; marked = marks_are qs reach before f after cut node ∙ lost; there = k.there; passes = passes }

    -- the lost step of a marked node
    pub record IsLost (P : NodeFor → Bool) (q : ℕ) : Type 0 where
      pub before : List Numbered
      pub f : Numbered
      pub after : List Numbered
      pub is : run ≡ before ++ f ∷ after
      pub number : f.seq.0 ≡ q
      pub lost : has (reached run m) f.seq.0 ≡ true
      pub kind : IsKindOf nodes f
      pub passes : P kind.kind ≡ true

    same_kind : (a b : NodeFor) (o : Option NodeFor) → o ≡ Some a → o ≡ Some b → a ≡ b
    same_kind a b o first second = cc

    pub lost_mark : (qs : List ℕ) → marks.AreReached nodes m qs → (P : NodeFor → Bool) (q : ℕ) → IsMarkedAs nodes qs P q → IsLost P q
    lost_mark qs reach P q is =
        let k = reached_mark q (among (marks.Reached nodes m) qs q reach.only is.marked) in
        let at = placed k.f k.marked in
        let own = kind_step k.f at.before at.after at.is at.node (above k.f k.marked) in
        record {
          before = at.before;
          f = k.f;
          after = at.after;
          is = at.is;
          number = k.number;
          lost = goes k.f k.marked;
          kind = own;
          passes = ap P (same_kind own.kind is.kind (kind_of nodes k.f.seq.0) own.there (ap (kind_of nodes) k.number ∙ is.there)) ∙ is.passes;
        }

    -- the lost node of a mark
    pub record IsNodeAt (q : ℕ) : Type 0 where
      pub before : List Numbered
      pub f : Numbered
      pub after : List Numbered
      pub is : run ≡ before ++ f ∷ after
      pub number : f.seq.0 ≡ q
      pub lost : has (reached run m) f.seq.0 ≡ true
      pub node : is_node f.label ≡ true

    pub marked_at : (qs : List ℕ) → marks.AreReached nodes m qs → (q : ℕ) → marks.has q qs ≡ true → IsNodeAt q
    marked_at qs reach q marked =
        let k = reached_mark q (among (marks.Reached nodes m) qs q reach.only marked) in
        let at = placed k.f k.marked in
        record { before = at.before; f = k.f; after = at.after; is = at.is; number = k.number; lost = goes k.f k.marked; node = at.node }

    -- each marked node is in the graph
    pub marks_there : (qs : List ℕ) → marks.AreReached nodes m qs → AreThere nodes qs
    marks_there qs reach q marked =
        let k = reached_mark q (among (marks.Reached nodes m) qs q reach.only marked) in
        let at = placed k.f k.marked in
        let own = kind_step k.f at.before at.after at.is at.node (above k.f k.marked) in
        subst (λ j. is_some (kind_of nodes j) ≡ true) k.number (ap is_some own.there)
