-- A graph after a strike and after a cut.
use Rattle.std.proofs.Common.{◌≡◌, ℕ, suc, ◌+◌, ◌-◌, ◌<◌, ◌≤◌, Bool, true, false, not, cond, ◌&&◌, nat_eq, nat_le, List, [], ◌∷◌, ◌++◌, length, filter, slice_index, Option, Some, None, refl, sym, ap, subst, ◌∙◌, arith, inl, inr, eq-eqb, length-append}
use Rattle.std.specs.List.{AllByRecursion}
use Rattle.std.specs.Option.{option_map, option_map_or}
use Rattle.std.proofs.lemmas.Bool.{cases_eq, cases_lt, cases_Bool, and_parts}
use Rattle.std.proofs.lemmas.Bool.Decides.{nat_tests}
use Rattle.std.proofs.lemmas.List.Elements.{filter-append}
use Rattle.stab_base.specs.declared.numbers.Seq.{Seq}
use Rattle.comm_graph.specs.declared.node.NodeFor.{NodeFor}
use Rattle.comm_graph.specs.declared.table.Line.{Line}
use Rattle.comm_graph.specs.declared.table.Line.TheVariants.{Thread, Readers}
use Rattle.comm_graph.specs.declared.table.Entry.{Entry}
use Rattle.comm_graph.specs.Node.{Node, reads}
use Rattle.comm_graph.specs.Edge.{AreNodes, IsRead}
use Rattle.comm_graph.specs.Table.{stands, links_of, struck, entry_at, change, nodes_of, in_line, before_of, after_of, thread, readers, IsSorted, IsFound, IsLineOf, IsLineBut, Keeps, BesideThreads, BesideReaders, AreTails, AreTailsBut, AreReaders, AreReadersBut}
use Rattle.std.specs.VecDeque.{deque_capacity}
use Rattle.comm_graph.specs.declared.table.Table.{Table}
use Rattle.comm_graph.specs.Sound.{IsClosed, IsAtLeast, IsSound, IsTrimmed, IsDropped, IsGrown, spare_of}
use Rattle.comm_graph.proofs.Grown.{no_line}
use Rattle.comm_graph.proofs.Tables.{change_same, change_other, change_length, in_range, at_front, at_behind, apart, below_none}
use Rattle.comm_graph.proofs.Lines.{line-agrees, line-cut}
use Rattle.comm_graph.proofs.Joins.{same_members, read_at, member_entry, but_self, but_other}
use Rattle.comm_graph.proofs.Relinks.{look_other, look_same, look_kept, keeps_twice}
use Rattle.comm_graph.proofs.Ends.{nodes_append, drop_other}
use Rattle.comm_graph.proofs.Kept.{sorted_kept, tails_but_kept, keeps_back}
use Rattle.comm_graph.proofs.ReaderLines.{entry_before}

clash : {X : Type 0} (b : Bool) → b ≡ true → b ≡ false → X
clash b t f = absurd (cc)

filter_cond : (f : Node → Bool) (b : Bool) (n : Node) (ns : List Node) → filter f (cond b (n ∷ ns) ns) ≡ cond b (cond (f n) (n ∷ filter f ns) (filter f ns)) (filter f ns)
filter_cond f true n ns = refl
filter_cond f false n ns = refl

behind : (x : Entry) (es : List Entry) (g k : ℕ) (e : Entry) → entry_at es (suc g) k ≡ Some e → entry_at (x ∷ es) g k ≡ Some e
behind x es g k e at = let r = in_range es (suc g) k e at in at_behind x es g k r.0 ∙ at

-- where each entry's node passes, all nodes are kept
pub filter_all : (f : Node → Bool) (es : List Entry) (g : ℕ) → ((k : ℕ) (e : Entry) → entry_at es g k ≡ Some e → f (record { number = e.number.0; kind = e.kind }) ≡ true) → filter f (nodes_of es) ≡ nodes_of es
filter_all f [] g h = refl
filter_all f (x ∷ es) g h =
    let more = filter_all f es (suc g) (λ k e at. h k e (behind x es g k e at)) in
    filter_cond f x.live (record { number = x.number.0; kind = x.kind }) (nodes_of es)
    ∙ ap (λ b. cond x.live (cond b (record { number = x.number.0; kind = x.kind } ∷ filter f (nodes_of es)) (filter f (nodes_of es))) (filter f (nodes_of es))) (h (suc g) x (at_front x es g (suc g) refl))
    ∙ ap (λ ns. cond x.live (record { number = x.number.0; kind = x.kind } ∷ ns) ns) more

cond_same : (b : Bool) (ns : List Node) → cond b ns ns ≡ ns
cond_same true ns = refl
cond_same false ns = refl

-- where none passes, none is
pub filter_none : (f : Node → Bool) (es : List Entry) (g : ℕ) → ((k : ℕ) (e : Entry) → entry_at es g k ≡ Some e → f (record { number = e.number.0; kind = e.kind }) ≡ false) → filter f (nodes_of es) ≡ []
filter_none f [] g h = refl
filter_none f (x ∷ es) g h =
    filter_cond f x.live (record { number = x.number.0; kind = x.kind }) (nodes_of es)
    ∙ ap (λ b. cond x.live (cond b (record { number = x.number.0; kind = x.kind } ∷ filter f (nodes_of es)) (filter f (nodes_of es))) (filter f (nodes_of es))) (h (suc g) x (at_front x es g (suc g) refl))
    ∙ cond_same x.live (filter f (nodes_of es))
    ∙ filter_none f es (suc g) (λ k e at. h k e (behind x es g k e at))

pub sorted_tail : (x : Entry) (es : List Entry) (g : ℕ) → IsSorted (x ∷ es) g → IsSorted es (suc g)
sorted_tail x es g s = record { rise = λ p r e f a b lt. s.rise p r e f (behind x es g p e a) (behind x es g r f b) lt }

-- the nodes but the one that is struck
pub nodes_struck : (es : List Entry) (g p q : ℕ) (e : Entry) → IsSorted es g → entry_at es g p ≡ Some e → e.live ≡ true → e.number.0 ≡ q → nodes_of (change struck g p es) ≡ filter (λ (n : Node). not (nat_eq q n.number)) (nodes_of es)
nodes_struck [] g p q e s at live num = absurd (cc)
nodes_struck (x ∷ es) g p q e s at live num = elim (cases_eq p (suc g)) [
  | inl here ↦
      let both : Some x ≡ Some e = sym (at_front x es g p here) ∙ at in
      let same : x ≡ e = cc in
      let xl : x.live ≡ true = ap (λ (y : Entry). y.live) same ∙ live in
      let xn : q ≡ x.number.0 = sym num ∙ sym (ap (λ (y : Entry). y.number.0) same) in
      let f : Node → Bool = λ n. not (nat_eq q n.number) in
      let fx : f (record { number = x.number.0; kind = x.kind }) ≡ false = ap not (eq-eqb q x.number.0 xn) in
      let rest = filter_all f es (suc g) (λ k y ay.
      let lt = s.rise (suc g) k x y (at_front x es g (suc g) refl) (behind x es g k y ay) (let r = in_range es (suc g) k y ay in r.0) in
      ap not (apart q y.number.0 (λ t. omega arith))) in
      ap (λ b. nodes_of (cond b (struck x ∷ es) (x ∷ change struck (suc g) p es))) (eq-eqb p (suc g) here)
      ∙ sym (filter_cond f x.live (record { number = x.number.0; kind = x.kind }) (nodes_of es)
      ∙ ap (λ b. cond b (cond (f (record { number = x.number.0; kind = x.kind })) (record { number = x.number.0; kind = x.kind } ∷ filter f (nodes_of es)) (filter f (nodes_of es))) (filter f (nodes_of es))) xl
      ∙ ap (λ b. cond b (record { number = x.number.0; kind = x.kind } ∷ filter f (nodes_of es)) (filter f (nodes_of es))) fx
      ∙ rest)
  | inr there ↦
      let f : Node → Bool = λ n. not (nat_eq q n.number) in
      let at2 : entry_at es (suc g) p ≡ Some e = sym (ap (λ b. cond b (Some x) (entry_at es (suc g) p)) (apart p (suc g) there)) ∙ at in
      let more = nodes_struck es (suc g) p q e (sorted_tail x es g s) at2 live num in
      let r = in_range es (suc g) p e at2 in
      let lt = s.rise (suc g) p x e (at_front x es g (suc g) refl) at r.0 in
      let fx : f (record { number = x.number.0; kind = x.kind }) ≡ true = ap not (apart q x.number.0 (λ t. omega arith)) in
      ap (λ b. nodes_of (cond b (struck x ∷ es) (x ∷ change struck (suc g) p es))) (apart p (suc g) there)
      ∙ ap (λ ns. cond x.live (record { number = x.number.0; kind = x.kind } ∷ ns) ns) more
      ∙ sym (filter_cond f x.live (record { number = x.number.0; kind = x.kind }) (nodes_of es)
      ∙ ap (λ b. cond x.live (cond b (record { number = x.number.0; kind = x.kind } ∷ filter f (nodes_of es)) (filter f (nodes_of es))) (filter f (nodes_of es))) fx)
]

pub count_struck : (es : List Entry) (g p : ℕ) (e : Entry) → entry_at es g p ≡ Some e → e.live ≡ true → length (nodes_of (change struck g p es)) + 1 ≡ length (nodes_of es)
count_struck [] g p e at live = absurd (cc)
count_struck (x ∷ es) g p e at live = elim (cases_eq p (suc g)) [
  | inl here ↦
      let both : Some x ≡ Some e = sym (at_front x es g p here) ∙ at in
      let same : x ≡ e = cc in
      let xl : x.live ≡ true = ap (λ (y : Entry). y.live) same ∙ live in
      let a = ap (λ b. length (nodes_of (cond b (struck x ∷ es) (x ∷ change struck (suc g) p es)))) (eq-eqb p (suc g) here) in
      let b = ap (λ b. length (cond b (record { number = x.number.0; kind = x.kind } ∷ nodes_of es) (nodes_of es))) xl in
      omega arith
  | inr there ↦
      let more = count_struck es (suc g) p e (sym (ap (λ b. cond b (Some x) (entry_at es (suc g) p)) (apart p (suc g) there)) ∙ at) live in
      let a = ap (λ b. length (nodes_of (cond b (struck x ∷ es) (x ∷ change struck (suc g) p es)))) (apart p (suc g) there) in
      elim (cases_Bool x.live) [
        | inl t ↦
            let b = ap (λ b. length (cond b (record { number = x.number.0; kind = x.kind } ∷ nodes_of es) (nodes_of es))) t in
            let c = ap (λ b. length (cond b (record { number = x.number.0; kind = x.kind } ∷ nodes_of (change struck (suc g) p es)) (nodes_of (change struck (suc g) p es)))) t in
            omega arith
        | inr f ↦
            let b = ap (λ b. length (cond b (record { number = x.number.0; kind = x.kind } ∷ nodes_of es) (nodes_of es))) f in
            let c = ap (λ b. length (cond b (record { number = x.number.0; kind = x.kind } ∷ nodes_of (change struck (suc g) p es)) (nodes_of (change struck (suc g) p es)))) f in
            omega arith
      ]
]

all_cond : (P : Node → Type 0) (b : Bool) (n : Node) (ns : List Node) → P n → AllByRecursion P ns → AllByRecursion P (cond b (n ∷ ns) ns)
all_cond P true n ns h all = (h, all)
all_cond P false n ns h all = all

all_filter : (P : Node → Type 0) (f : Node → Bool) (ns : List Node) → AllByRecursion P ns → AllByRecursion P (filter f ns)
all_filter P f [] all = tt
all_filter P f (n ∷ ns) all = all_cond P (f n) n (filter f ns) all.0 (all_filter P f ns all.1)

nodes_cond : (b : Bool) (n : Node) (ns : List Node) → AllByRecursion (λ (m : Node). n.number < m.number) ns → IsRead n → AreNodes ns → AreNodes (cond b (n ∷ ns) ns)
nodes_cond true n ns low h all = (low, h, all)
nodes_cond false n ns low h all = all

pub nodes_filter : (f : Node → Bool) (ns : List Node) → AreNodes ns → AreNodes (filter f ns)
nodes_filter f [] all = tt
nodes_filter f (n ∷ ns) all = nodes_cond (f n) n (filter f ns) (all_filter (λ (m : Node). n.number < m.number) f ns all.0) all.1 (nodes_filter f ns all.2)

dead_out : (line : Line) (o : Option Entry) → option_map_or (λ e. stands line (struck e)) o false ≡ false
dead_out line None = refl
dead_out (Thread t) (Some e) = refl
dead_out (Readers q) (Some e) = refl

struck_before : (line : Line) (e : Entry) → (links_of line (struck e)).before ≡ (links_of line e).before
struck_before (Thread t) e = refl
struck_before (Readers q) e = refl

struck_after : (line : Line) (e : Entry) → (links_of line (struck e)).after ≡ (links_of line e).after
struck_after (Thread t) e = refl
struck_after (Readers q) e = refl

live_member : (line : Line) (e : Entry) → stands line e ≡ true → e.live ≡ true
live_member (Thread t) e h = (and_parts e.live _ h).0
live_member (Readers q) e h = (and_parts e.live _ h).0

-- a line without the entry that is struck
pub struck_line : (line : Line) (es : List Entry) (g last p : ℕ) → IsLineBut es g line last p → IsLineOf (change struck g p es) g line last
struck_line line es g last p =
    let fs = change struck g p es in
    line-agrees (λ k. in_line line es g k && not (nat_eq k p)) (in_line line fs g) (before_of line es g) (before_of line fs g) (after_of line es g) (after_of line fs g) g last
    (λ k. elim (cases_eq k p) [
      | inl s ↦ ap (in_line line fs g) s ∙ look_same (stands line) false struck es g p ∙ dead_out line (entry_at es g p) ∙ sym (ap (λ y. in_line line es g y && not (nat_eq y p)) s ∙ but_self (in_line line es g p) p)
      | inr n ↦ look_other (stands line) false struck es g p k n ∙ sym (but_other (in_line line es g k) k p n)
    ])
    (λ k m. look_kept (λ e. (links_of line e).before) 0 struck es g p k (λ e. struck_before line e))
    (λ k m. look_kept (λ e. (links_of line e).after) 0 struck es g p k (λ e. struck_after line e))

-- a line when struck entries leave the end
pub trimmed_line : (line : Line) (es fs : List Entry) (g last : ℕ) → IsTrimmed es fs g → IsLineOf es g line last → IsLineOf fs g line last
trimmed_line line es fs g last t =
    let same : (k : ℕ) → in_line line es g k ≡ true → (e : Entry) × (entry_at es g k ≡ Some e) × (entry_at fs g k ≡ Some e) = λ k m.
    let e = member_entry line es g k m in (e.0, e.1, t.live k e.0 e.1 (live_member line e.0 e.2)) in
    line-agrees (in_line line es g) (in_line line fs g) (before_of line es g) (before_of line fs g) (after_of line es g) (after_of line fs g) g last
    (λ k. elim (cases_Bool (in_line line es g k)) [
      | inl y ↦ (let e = same k y in read_at (stands line) false fs g k e.0 e.2 ∙ sym (read_at (stands line) false es g k e.0 e.1))
      | inr n ↦ elim (cases_Bool (in_line line fs g k)) [
        | inl y ↦ (let e = member_entry line fs g k y in clash (in_line line es g k) (read_at (stands line) false es g k e.0 (t.kept k e.0 e.1) ∙ e.2) n)
        | inr n2 ↦ n2 ∙ sym n
      ]
    ])
    (λ k m. let e = same k m in read_at (λ x. (links_of line x).before) 0 fs g k e.0 e.2 ∙ sym (read_at (λ x. (links_of line x).before) 0 es g k e.0 e.1))
    (λ k m. let e = same k m in read_at (λ x. (links_of line x).after) 0 fs g k e.0 e.2 ∙ sym (read_at (λ x. (links_of line x).after) 0 es g k e.0 e.1))

module _ (es fs gs : List Entry) (g p q : ℕ) (tails left : List ℕ) (total top : ℕ) (sound : IsSound es g tails total top) (found : IsFound es g q p)
    (threads : BesideThreads es fs g) (acting : AreTailsBut fs g left p) (others : BesideReaders fs gs g) (reading : AreReadersBut gs g p) where
  keeps : Keeps es gs g
  keeps = keeps_twice es fs gs g threads.keeps others.keeps

  struck_entry : (e : Entry) × (entry_at gs g p ≡ Some e) × (e.live ≡ true) × (e.number.0 ≡ q)
  unfolding keeps
  struck_entry =
      let e = entry_before gs es g p found.entry (keeps_back es gs g keeps) found.at in
      (e.0, e.1, ap (λ (x : Seq × NodeFor × Bool). x.2) e.2 ∙ found.live, ap (λ (x : Seq × NodeFor × Bool). x.0.0) e.2 ∙ found.number)

  tails_struck : AreTails (change struck g p gs) g left
  tails_struck = λ t lt. struck_line (thread t) gs g (slice_index left t) p (tails_but_kept fs gs g p left others acting t lt)

  readers_struck : AreReaders (change struck g p gs) g
  readers_struck = λ x f at live wr. elim (cases_eq x p) [
    | inl s ↦ (let e = struck_entry in
        let both : Some f ≡ Some (struck e.0) = sym (ap (entry_at (change struck g p gs) g) (sym s) ∙ at) ∙ change_same struck gs g p ∙ ap (option_map struck) e.1 in
        let same : f ≡ struck e.0 = cc in
        clash f.live live (ap (λ (y : Entry). y.live) same))
    | inr n ↦ struck_line (readers f.number.0) gs g f.last_reader p (reading x f (sym (change_other struck gs g p x n) ∙ at) live wr)
  ]

  -- an entry of the struck list is one of the old, but for its links
  from_struck : (i : ℕ) (f : Entry) → entry_at (change struck g p gs) g i ≡ Some f → (e : Entry) × (entry_at es g i ≡ Some e) × (e.number.0 ≡ f.number.0) × (e.kind ≡ f.kind)
  unfolding keeps
  from_struck i f at = elim (cases_eq i p) [
    | inl s ↦ (let e = struck_entry in
        let b = entry_before es gs g p e.0 keeps e.1 in
        let both : Some f ≡ Some (struck e.0) = sym (ap (entry_at (change struck g p gs) g) (sym s) ∙ at) ∙ change_same struck gs g p ∙ ap (option_map struck) e.1 in
        let same : f ≡ struck e.0 = cc in
        (b.0, ap (entry_at es g) s ∙ b.1, ap (λ (x : Seq × NodeFor × Bool). x.0.0) b.2 ∙ sym (ap (λ (y : Entry). y.number.0) same), ap (λ (x : Seq × NodeFor × Bool). x.1) b.2 ∙ sym (ap (λ (y : Entry). y.kind) same)))
    | inr n ↦ (let b = entry_before es gs g i f keeps (sym (change_other struck gs g p i n) ∙ at) in
        (b.0, b.1, ap (λ (x : Seq × NodeFor × Bool). x.0.0) b.2, ap (λ (x : Seq × NodeFor × Bool). x.1) b.2))
  ]

  pub struck_nodes : (hs : List Entry) → IsTrimmed (change struck g p gs) hs g → nodes_of hs ≡ filter (λ (n : Node). not (nat_eq q n.number)) (nodes_of es)
  unfolding keeps
  struck_nodes hs trimmed =
      let e = struck_entry in
      trimmed.nodes ∙ nodes_struck gs g p q e.0 (sorted_kept es gs g keeps sound.sorted) e.1 e.2 e.3 ∙ ap (filter (λ (n : Node). not (nat_eq q n.number))) keeps.nodes

  pub struck_sound : (hs : List Entry) (less : ℕ) → IsTrimmed (change struck g p gs) hs g → IsClosed hs g → less + 1 ≡ total → IsSound hs g left less top
  unfolding keeps
  struck_sound hs less trimmed closed fewer =
      let e = struck_entry in
      record {
        nodes = subst AreNodes (sym (struck_nodes hs trimmed)) (nodes_filter (λ (n : Node). not (nat_eq q n.number)) (nodes_of es) sound.nodes);
        sorted = record {
          rise = λ i j x y a b lt.
              let u = from_struck i x (trimmed.kept i x a) in
              let v = from_struck j y (trimmed.kept j y b) in
              omega (arith, sound.sorted.rise i j u.0 v.0 u.1 v.1 lt, u.2, v.2);
        };
        closed = closed;
        small = (let a = trimmed.count in let b = change_length struck gs g p in let c = keeps.count in let d = sound.small in omega arith);
        count = (let a = ap length trimmed.nodes in let b = count_struck gs g p e.0 e.1 e.2 in let c = ap length keeps.nodes in let d = sound.count in omega arith);
        acting = λ t lt. trimmed_line (thread t) (change struck g p gs) hs g (slice_index left t) trimmed (tails_struck t lt);
        reading = λ x f at live wr. trimmed_line (readers f.number.0) (change struck g p gs) hs g f.last_reader trimmed (readers_struck x f (trimmed.kept x f at) live wr);
        past = λ i m x at r.
            let u = from_struck i x (trimmed.kept i x at) in
            omega (arith, sound.past i m u.0 u.1 (ap (reads m) u.3 ∙ r), u.2);
        under = λ i t m.
            let x = member_entry (thread t) hs g i m in
            let y = trimmed.kept i x.0 x.1 in
            elim (cases_eq i p) [
              | inl s ↦ (let both : Some x.0 ≡ Some (struck e.0) = sym (ap (entry_at (change struck g p gs) g) (sym s) ∙ y) ∙ change_same struck gs g p ∙ ap (option_map struck) e.1 in
                  let same : x.0 ≡ struck e.0 = cc in
                  clash x.0.live (and_parts x.0.live _ x.2).0 (ap (λ (z : Entry). z.live) same))
              | inr n ↦ sound.under i t (sym (same_members (thread t) es gs g keeps i) ∙ read_at (stands (thread t)) false gs g i x.0 (sym (change_other struck gs g p i n) ∙ y) ∙ x.2)
            ];
      }

drop_line : (line : Line) (es ds fs : List Entry) (g g' last : ℕ) → es ≡ ds ++ fs → g' ≡ g + length ds → IsLineOf es g line last → IsLineOf fs g' line last
drop_line line es ds fs g g' last split moved =
    let there : (k : ℕ) → g' < k → entry_at fs g' k ≡ entry_at es g k = λ k lt. ap (λ n. entry_at fs n k) moved ∙ sym (drop_other ds fs g k (omega arith)) ∙ sym (ap (λ l. entry_at l g k) split) in
    line-cut (in_line line es g) (in_line line fs g') (before_of line es g) (before_of line fs g') (after_of line es g) (after_of line fs g') g g' last
    (omega arith)
    (λ k lt. ap (λ o. option_map_or (stands line) o false) (there k lt))
    (λ k le. ap (λ o. option_map_or (stands line) o false) (below_none fs g' k le))
    (λ k lt. ap (λ o. option_map_or (λ e. (links_of line e).before) o 0) (there k lt))
    (λ k lt. ap (λ o. option_map_or (λ e. (links_of line e).after) o 0) (there k lt))

nodes_suffix : (ns ms : List Node) → AreNodes (ns ++ ms) → AreNodes ms
nodes_suffix [] ms all = all
nodes_suffix (n ∷ ns) ms all = nodes_suffix ns ms all.2

same_end : (g h a b c : ℕ) → a ≡ b + c → h ≡ g + b → g + a ≡ h + c
same_end g h a b c e f = omega arith

below_test : (q m : ℕ) → m < q → nat_le q m ≡ false
below_test q m lt = grind (arith, nat_tests)

least_test : (q m : ℕ) → q ≤ m → nat_le q m ≡ true
least_test q m le = grind (arith, nat_tests)

pub first_entry : (es : List Entry) (g : ℕ) → 0 < length es → (e : Entry) × (entry_at es g (suc g) ≡ Some e)
first_entry [] g lt = absurd (omega arith)
first_entry (x ∷ es) g lt = (x, at_front x es g (suc g) refl)

module _ (es fs : List Entry) (g g' q n : ℕ) (tails : List ℕ) (total top : ℕ) (sound : IsSound es g tails total top) (d : IsDropped es g fs g' q n) (front : IsAtLeast fs g' q) where
  from_dropped : (k : ℕ) (e : Entry) → entry_at fs g' k ≡ Some e → entry_at es g k ≡ Some e
  from_dropped k e at =
      let r = in_range fs g' k e at in
      ap (λ l. entry_at l g k) d.split ∙ drop_other d.dropped fs g k (let m = d.moved in omega arith) ∙ ap (λ h. entry_at fs h k) (sym d.moved) ∙ at

  lengths : length es ≡ length d.dropped + length fs
  lengths = ap length d.split ∙ length-append d.dropped fs

  all_nodes : nodes_of es ≡ nodes_of d.dropped ++ nodes_of fs
  all_nodes = ap nodes_of d.split ∙ nodes_append d.dropped fs

  at_least : (k : ℕ) (e : Entry) → entry_at fs g' k ≡ Some e → q ≤ e.number.0
  at_least k e at = elim (cases_eq k (suc g')) [
    | inl s ↦ front e (sym (ap (entry_at fs g') s) ∙ at)
    | inr m ↦ (let r = in_range fs g' k e at in let f = first_entry fs g' (omega arith) in omega (arith, front f.0 f.1, sound.sorted.rise (suc g') k f.0 e (from_dropped (suc g') f.0 f.1) (from_dropped k e at) (omega arith)))
  ]

  pub dropped_count : n ≤ total
  dropped_count = let a = d.count in let b = sound.count in let c = ap length all_nodes ∙ length-append (nodes_of d.dropped) (nodes_of fs) in omega arith

  pub dropped_nodes : nodes_of fs ≡ filter (λ (m : Node). nat_le q m.number) (nodes_of es)
  dropped_nodes =
      let f : Node → Bool = λ m. nat_le q m.number in
      sym (ap (filter f) all_nodes ∙ filter-append f (nodes_of d.dropped) (nodes_of fs)
      ∙ ap (λ l. l ++ filter f (nodes_of fs)) (filter_none f d.dropped g (λ k e at. below_test q e.number.0 (d.below k e at)))
      ∙ filter_all f fs g' (λ k e at. least_test q e.number.0 (at_least k e at)))

  pub dropped_sound : IsSound fs g' tails (total - n) top
  dropped_sound = record {
    nodes = nodes_suffix (nodes_of d.dropped) (nodes_of fs) (subst AreNodes all_nodes sound.nodes);
    sorted = record { rise = λ i j x y a b lt. sound.sorted.rise i j x y (from_dropped i x a) (from_dropped j y b) lt };
    closed = λ e at. sound.closed e (ap (entry_at es g) (let l = lengths in let m = d.moved in same_end g g' (length es) (length d.dropped) (length fs) l m) ∙ from_dropped (g' + length fs) e at);
    small = (let l = lengths in let m = d.moved in let s = sound.small in omega arith);
    count = (let a = d.count in let b = sound.count in let c = ap length all_nodes ∙ length-append (nodes_of d.dropped) (nodes_of fs) in omega arith);
    acting = λ t lt. drop_line (thread t) es d.dropped fs g g' (slice_index tails t) d.split d.moved (sound.acting t lt);
    reading = λ x f at live wr. drop_line (readers f.number.0) es d.dropped fs g g' f.last_reader d.split d.moved (sound.reading x f (from_dropped x f at) live wr);
    past = λ i m e at r. sound.past i m e (from_dropped i e at) r;
    under = λ i t m. let e = member_entry (thread t) fs g' i m in sound.under i t (read_at (stands (thread t)) false es g i e.0 (from_dropped i e.0 e.1) ∙ e.2);
  }

-- a strike leaves no less room
pub more_room : (t u : Table) → length u.entries.items ≤ length t.entries.items → deque_capacity u.entries ≡ deque_capacity t.entries → u.gone ≡ t.gone → spare_of t ≤ spare_of u
more_room t u len cap gone =
    let a = t.entries.ok.0 in
    let b = u.entries.ok.0 in
    omega arith

pub live_counts : (es : List Entry) (g k : ℕ) (e : Entry) → entry_at es g k ≡ Some e → e.live ≡ true → 0 < length (nodes_of es)
live_counts es g k e at live = let n = count_struck es g k e at live in omega arith

-- lines for more threads, with nobody in them
pub grown_sound : (es : List Entry) (g : ℕ) (tails more : List ℕ) (total top : ℕ) → IsSound es g tails total top → IsGrown tails more top total → IsSound es g more total top
grown_sound es g tails more total top sound grown = record {
  nodes = sound.nodes;
  sorted = sound.sorted;
  closed = sound.closed;
  small = sound.small;
  count = sound.count;
  acting = λ t lt. elim (cases_lt t (length tails)) [
    | inl old ↦ subst (λ v. IsLineOf es g (thread t) v) (sym (grown.same t old)) (sound.acting t old)
    | inr new ↦ (let f = grown.fresh t new lt in subst (λ v. IsLineOf es g (thread t) v) (sym f.0) (no_line es g (thread t) (λ i. elim (cases_Bool (in_line (thread t) es g i)) [
      | inl y ↦ elim f.1 [
        | inl low ↦ (let u = sound.under i t y in absurd (omega arith))
        | inr zero ↦ (let m = member_entry (thread t) es g i y in let c = live_counts es g i m.0 m.1 (live_member (thread t) m.0 m.2) in let n = sound.count in absurd (omega arith))
      ]
      | inr f ↦ f
    ])))
  ];
  reading = sound.reading;
  past = sound.past;
  under = sound.under;
}
