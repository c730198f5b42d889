-- A graph after a node was added.
use Rattle.std.proofs.Common.{◌≡◌, ◌≢◌, ℕ, suc, ◌+◌, ◌-◌, ◌^◌, ◌<◌, ◌≤◌, Bool, true, false, not, cond, ◌&&◌, nat_eq, List, [], ◌∷◌, ◌++◌, length, slice_index, Some, refl, sym, ap, subst, ◌∙◌, arith, inl, inr, length-append}
use Rattle.std.specs.List.{AllByRecursion}
use Rattle.std.specs.Option.{option_map_or}
use Rattle.std.proofs.lemmas.Bool.{cases_eq, cases_lt, cases_Bool, and_parts}
use Rattle.stab_base.specs.declared.numbers.Seq.{Seq}
use Rattle.comm_graph.specs.declared.node.NodeFor.{NodeFor}
use Rattle.comm_graph.specs.declared.table.Line.{Line}
use Rattle.comm_graph.specs.declared.table.Line.TheVariants.{Thread, Readers}
use Rattle.comm_graph.specs.declared.table.Entry.{Entry}
use Rattle.comm_graph.specs.Node.{Node, first_of, touches, reads}
use Rattle.comm_graph.specs.Edge.{AreNodes, IsRead}
use Rattle.comm_graph.specs.Table.{stands, look, links_of, no_links, unlinked, entry_at, nodes_of, in_line, before_of, after_of, thread, readers, IsSorted, IsNodeAt, IsLineOf, IsLineBut, Keeps, AreTails, AreTailsBut, AreReaders, AreReadersBut}
use Rattle.std.specs.VecDeque.{deque_capacity}
use Rattle.comm_graph.specs.declared.table.Table.{Table}
use Rattle.comm_graph.specs.Sound.{IsSound, spare_of}
use Rattle.comm_graph.proofs.Tables.{push_other, push_same, in_range, at_front, at_behind, apart}
use Rattle.comm_graph.proofs.Lines.{line-agrees}
use Rattle.comm_graph.proofs.Joins.{same_members, read_at, member_entry, member_range, none_beyond, but_self, but_other}
use Rattle.comm_graph.proofs.ThreadLines.{standing}
use Rattle.comm_graph.proofs.ReaderLines.{entry_before, reading}
use Rattle.comm_graph.proofs.Ends.{nodes_append}
use Rattle.comm_graph.proofs.Kept.{sorted_kept, past_kept}

clash : {X : Type 0} (b : Bool) → b ≡ true → b ≡ false → X
clash b t f = absurd (cc)

no_after : (line : Line) (q : Seq) (k : NodeFor) → (links_of line (unlinked q k)).after ≡ 0
no_after (Thread t) q k = elim (nat_eq (first_of k).0 t.0) as (λ b. (cond b no_links no_links).after ≡ 0) [ true ↦ refl | false ↦ refl ]
no_after (Readers r) q k = refl

all_first : (P : Node → Type 0) (n : Node) (ns : List Node) → AllByRecursion P (n ∷ ns) → P n
all_first P n ns h = h.0

all_rest : (P : Node → Type 0) (b : Bool) (n : Node) (ns : List Node) → AllByRecursion P (cond b (n ∷ ns) ns) → AllByRecursion P ns
all_rest P true n ns h = h.1
all_rest P false n ns h = h

pub all_at : (P : Node → Type 0) (es : List Entry) (g k : ℕ) (e : Entry) → AllByRecursion P (nodes_of es) → entry_at es g k ≡ Some e → e.live ≡ true → P (record { number = e.number.0; kind = e.kind })
all_at P [] g k e all at live = absurd (cc)
all_at P (x ∷ es) g k e all at live = elim (cases_eq k (suc g)) [
  | inl s ↦
      let both : Some x ≡ Some e = sym (at_front x es g k s) ∙ at in
      let same : x ≡ e = cc in
      let xl : x.live ≡ true = ap (λ (y : Entry). y.live) same ∙ live in
      subst (λ (y : Entry). P (record { number = y.number.0; kind = y.kind })) same
      (all_first P (record { number = x.number.0; kind = x.kind }) (nodes_of es) (subst (λ b. AllByRecursion P (cond b (record { number = x.number.0; kind = x.kind } ∷ nodes_of es) (nodes_of es))) xl all))
  | inr n ↦ all_at P es (suc g) k e (all_rest P x.live (record { number = x.number.0; kind = x.kind }) (nodes_of es) all) (sym (ap (λ b. cond b (Some x) (entry_at es (suc g) k)) (apart k (suc g) n)) ∙ at) live
]

module _ (es : List Entry) (g p : ℕ) (q : Seq) (k : NodeFor) (end : p ≡ suc (g + length es)) where
  pub pushed_node : IsNodeAt (es ++ unlinked q k ∷ []) g p k
  pushed_node = record { entry = unlinked q k; at = push_same es (unlinked q k) g p end; live = refl; kind_is = refl }

  pub pushed_alone : (line : Line) → after_of line (es ++ unlinked q k ∷ []) g p ≡ 0
  pushed_alone line = read_at (λ e. (links_of line e).after) 0 (es ++ unlinked q k ∷ []) g p (unlinked q k) (push_same es (unlinked q k) g p end) ∙ no_after line q k

  same_look : {X : Type 0} (f : Entry → X) (d : X) (i : ℕ) → i ≢ p → look f d (es ++ unlinked q k ∷ []) g i ≡ look f d es g i
  same_look f d i n = ap (λ o. option_map_or f o d) (push_other es (unlinked q k) g i (λ s. n (s ∙ sym end)))

  inside : (line : Line) (i : ℕ) → in_line line es g i ≡ true → i ≢ p
  inside line i m = λ s. let r = member_range line es g i m in omega arith

  pub pushed_but : (line : Line) (last : ℕ) → IsLineOf es g line last → IsLineBut (es ++ unlinked q k ∷ []) g line last p
  pushed_but line last =
      let fs = es ++ unlinked q k ∷ [] in
      line-agrees (in_line line es g) (λ i. in_line line fs g i && not (nat_eq i p)) (before_of line es g) (before_of line fs g) (after_of line es g) (after_of line fs g) g last
      (λ i. elim (cases_eq i p) [
        | inl s ↦ ap (λ y. in_line line fs g y && not (nat_eq y p)) s ∙ but_self (in_line line fs g p) p ∙ sym (none_beyond line es g p (omega arith)) ∙ sym (ap (in_line line es g) s)
        | inr n ↦ but_other (in_line line fs g i) i p n ∙ same_look (stands line) false i n
      ])
      (λ i m. same_look (λ e. (links_of line e).before) 0 i (inside line i m))
      (λ i m. same_look (λ e. (links_of line e).after) 0 i (inside line i m))

  pub pushed_tails : (tails : List ℕ) → AreTails es g tails → AreTailsBut (es ++ unlinked q k ∷ []) g tails p
  pushed_tails tails all = λ t lt. pushed_but (thread t) (slice_index tails t) (all t lt)

moved : (a b : ℕ) → a + suc b ≡ suc a + b
moved a b = omega arith

-- a line with nobody in it
pub no_line : (es : List Entry) (g : ℕ) (line : Line) → ((i : ℕ) → in_line line es g i ≡ false) → IsLineOf es g line 0
no_line es g line none = record {
  above = λ i m. clash (in_line line es g i) m (none i);
  back = λ i m. clash (in_line line es g i) m (none i);
  on = λ i m. clash (in_line line es g i) m (none i);
  member = λ lt. absurd (omega arith);
  end = λ i lt. none i;
}

pub last_entry : (es : List Entry) (g : ℕ) → 0 < length es → (e : Entry) × (entry_at es g (g + length es) ≡ Some e)
last_entry [] g lt = absurd (omega arith)
last_entry (x ∷ es) g lt = elim (cases_lt 0 (length es)) [
  | inl more ↦ (let r = last_entry es (suc g) more in (r.0, at_behind x es g (g + suc (length es)) (omega arith) ∙ ap (entry_at es (suc g)) (moved g (length es)) ∙ r.1))
  | inr none ↦ (x, at_front x es g (g + suc (length es)) (omega arith))
]

module _ (es : List Entry) (g p : ℕ) (q : Seq) (k : NodeFor) (end : p ≡ suc (g + length es)) (tails : List ℕ) (total top : ℕ) (sound : IsSound es g tails total top)
    (above : AllByRecursion (λ (n : Node). n.number < q.0) (nodes_of es)) (back : (m : ℕ) → reads m k ≡ true → m < q.0) where
  -- each entry is below the new one, since the last one is live
  pub all_below : (i : ℕ) (e : Entry) → entry_at es g i ≡ Some e → e.number.0 < q.0
  all_below i e at =
      let r = in_range es g i e at in
      let l = last_entry es g (omega arith) in
      let live = sound.closed l.0 l.1 in
      let top_low = all_at (λ (n : Node). n.number < q.0) es g (g + length es) l.0 above l.1 live in
      elim (cases_eq i (g + length es)) [
        | inl s ↦ (let both : Some e ≡ Some l.0 = sym at ∙ ap (entry_at es g) s ∙ l.1 in let same : e ≡ l.0 = cc in omega (arith, ap (λ (y : Entry). y.number.0) same))
        | inr n ↦ omega (arith, sound.sorted.rise i (g + length es) e l.0 at l.1 (omega arith))
      ]

  -- nobody has read what isn't written yet
  unread : (i : ℕ) → in_line (readers q.0) es g i ≡ false
  unread i = elim (cases_Bool (in_line (readers q.0) es g i)) [
    | inl y ↦
        let m = member_entry (readers q.0) es g i y in
        let lt = sound.past i q.0 m.0 m.1 (and_parts m.0.live _ m.2).1 in
        let gt = all_below i m.0 m.1 in
        absurd (omega arith)
    | inr f ↦ f
  ]

  pub pushed_sorted : IsSorted (es ++ unlinked q k ∷ []) g
  pushed_sorted = record {
    rise = λ i j e f a b lt.
        let rb = in_range (es ++ unlinked q k ∷ []) g j f b in
        let n = length-append es (unlinked q k ∷ []) in
        let old_i = sym (push_other es (unlinked q k) g i (λ s. omega arith)) ∙ a in
        elim (cases_eq j p) [
          | inl s ↦ (let both : Some f ≡ Some (unlinked q k) = sym b ∙ push_same es (unlinked q k) g j (s ∙ end) in let same : f ≡ unlinked q k = cc in
              omega (arith, ap (λ (y : Entry). y.number.0) same, all_below i e old_i))
          | inr m ↦ sound.sorted.rise i j e f old_i (sym (push_other es (unlinked q k) g j (λ s. m (s ∙ sym end))) ∙ b) lt
        ];
  }

  pub pushed_readers : AreReadersBut (es ++ unlinked q k ∷ []) g p
  pushed_readers = λ x f at live wr. elim (cases_eq x p) [
    | inl s ↦
        let both : Some f ≡ Some (unlinked q k) = sym at ∙ push_same es (unlinked q k) g x (s ∙ end) in
        let same : f ≡ unlinked q k = cc in
        subst (λ (y : Entry). IsLineBut (es ++ unlinked q k ∷ []) g (readers y.number.0) y.last_reader p) (sym same)
        (pushed_but es g p q k end (readers q.0) 0 (no_line es g (readers q.0) (λ i. unread i)))
    | inr m ↦ pushed_but es g p q k end (readers f.number.0) f.last_reader (sound.reading x f (sym (push_other es (unlinked q k) g x (λ s. m (s ∙ sym end))) ∙ at) live wr)
  ]

all_push : (P : Node → Type 0) (ns : List Node) (n : Node) → AllByRecursion P ns → P n → AllByRecursion P (ns ++ n ∷ [])
all_push P [] n all h = (h, tt)
all_push P (m ∷ ns) n all h = (all.0, all_push P ns n all.1 h)

nodes_push : (ns : List Node) (n : Node) → AreNodes ns → AllByRecursion (λ (m : Node). m.number < n.number) ns → IsRead n → AreNodes (ns ++ n ∷ [])
nodes_push [] n all low h = (tt, h, tt)
nodes_push (m ∷ ns) n all low h = (all_push (λ (x : Node). m.number < x.number) ns n all.0 low.0, all.1, nodes_push ns n all.2 low.1 h)

module _ (es : List Entry) (g p : ℕ) (q : Seq) (k : NodeFor) (end : p ≡ suc (g + length es)) (tails : List ℕ) (total top : ℕ) (sound : IsSound es g tails total top)
    (above : AllByRecursion (λ (n : Node). n.number < q.0) (nodes_of es)) (back : (m : ℕ) → reads m k ≡ true → m < q.0) where
  -- the new graph, with the same links but in the new node's lines
  pub added : (fs : List Entry) (left : List ℕ) (top' : ℕ) → Keeps (es ++ unlinked q k ∷ []) fs g → AreTails fs g left → AreReaders fs g → p < 2 ^ 32 → top ≤ top' → ((t : ℕ) → touches t k ≡ true → t ≤ top') → IsSound fs g left (total + 1) top'
  added fs left top' keeps acting reading small le tops =
      let es1 = es ++ unlinked q k ∷ [] in
      let len : length es1 ≡ length es + 1 = length-append es (unlinked q k ∷ []) in
      let ns : nodes_of es1 ≡ nodes_of es ++ record { number = q.0; kind = k } ∷ [] = nodes_append es (unlinked q k ∷ []) in
      record {
        nodes = subst AreNodes (sym (keeps.nodes ∙ ns)) (nodes_push (nodes_of es) (record { number = q.0; kind = k }) sound.nodes above back);
        sorted = sorted_kept es1 fs g keeps (pushed_sorted es g p q k end tails total top sound above back);
        closed = λ f at.
            let e = entry_before es1 fs g (g + length fs) f keeps at in
            let place : g + length fs ≡ suc (g + length es) = (let c = keeps.count in omega arith) in
            let both : Some e.0 ≡ Some (unlinked q k) = sym e.1 ∙ push_same es (unlinked q k) g (g + length fs) place in
            let same : e.0 ≡ unlinked q k = cc in
            sym (ap (λ (x : Seq × NodeFor × Bool). x.2) e.2) ∙ ap (λ (y : Entry). y.live) same;
        small = (let c = keeps.count in omega arith);
        count = (let c = sound.count in let n = ap length (keeps.nodes ∙ ns) ∙ length-append (nodes_of es) (record { number = q.0; kind = k } ∷ []) in omega arith);
        acting = acting;
        reading = reading;
        past = past_kept es1 fs g keeps (λ i m e at r. elim (cases_eq i p) [
          | inl s ↦
              (let both : Some e ≡ Some (unlinked q k) = sym at ∙ push_same es (unlinked q k) g i (s ∙ end) in
              let same : e ≡ unlinked q k = cc in
              omega (arith, back m (ap (λ (y : Entry). reads m y.kind) (sym same) ∙ r), ap (λ (y : Entry). y.number.0) same))
          | inr n ↦ sound.past i m e (sym (push_other es (unlinked q k) g i (λ s. n (s ∙ sym end))) ∙ at) r
        ]);
        under = λ i t m.
            let m1 = sym (same_members (thread t) es1 fs g keeps i) ∙ m in
            elim (cases_eq i p) [
              | inl s ↦ tops t (sym (standing es1 g p k t (pushed_node es g p q k end)) ∙ ap (in_line (thread t) es1 g) (sym s) ∙ m1)
              | inr n ↦ (let u = sound.under i t (sym (ap (λ o. option_map_or (stands (thread t)) o false) (push_other es (unlinked q k) g i (λ s. n (s ∙ sym end)))) ∙ m1) in omega arith)
            ];
      }

-- the entries and their number after a push, and the place of the new one
pub record IsPushed (es : List Entry) (g : ℕ) (q : Seq) (k : NodeFor) (fs : List Entry) (h p : ℕ) : Type 0 where
  pub entries : fs ≡ es ++ unlinked q k ∷ []
  pub gone : h ≡ g
  pub place : p ≡ h + length fs

moved_to : (P : List Entry → ℕ → Type 0) (es fs : List Entry) (g h : ℕ) → fs ≡ es → h ≡ g → P es g → P fs h
moved_to P es fs g h e f x = subst (λ l. P l h) (sym e) (subst (λ n. P es n) (sym f) x)

module _ (es : List Entry) (g : ℕ) (q : Seq) (k : NodeFor) (fs : List Entry) (h p : ℕ) (is : IsPushed es g q k fs h p) where
  pub place_is : p ≡ suc (g + length es)
  place_is = let n = ap length is.entries ∙ length-append es (unlinked q k ∷ []) in let a = is.gone in let b = is.place in omega arith

  pub p_node : IsNodeAt fs h p k
  p_node = moved_to (λ l n. IsNodeAt l n p k) (es ++ unlinked q k ∷ []) fs g h is.entries is.gone (pushed_node es g p q k place_is)

  pub p_alone : (line : Line) → after_of line fs h p ≡ 0
  p_alone line = moved_to (λ l n. after_of line l n p ≡ 0) (es ++ unlinked q k ∷ []) fs g h is.entries is.gone (pushed_alone es g p q k place_is line)

  pub p_tails : (tails : List ℕ) → AreTails es g tails → AreTailsBut fs h tails p
  p_tails tails all = moved_to (λ l n. AreTailsBut l n tails p) (es ++ unlinked q k ∷ []) fs g h is.entries is.gone (pushed_tails es g p q k place_is tails all)

  module _ (tails : List ℕ) (total top : ℕ) (sound : IsSound es g tails total top) (above : AllByRecursion (λ (n : Node). n.number < q.0) (nodes_of es)) (back : (m : ℕ) → reads m k ≡ true → m < q.0) where
    pub p_sorted : IsSorted fs h
    p_sorted = moved_to (λ l n. IsSorted l n) (es ++ unlinked q k ∷ []) fs g h is.entries is.gone (pushed_sorted es g p q k place_is tails total top sound above back)

    pub p_readers : AreReadersBut fs h p
    p_readers = moved_to (λ l n. AreReadersBut l n p) (es ++ unlinked q k ∷ []) fs g h is.entries is.gone (pushed_readers es g p q k place_is tails total top sound above back)

    pub p_added : (gs : List Entry) (left : List ℕ) (top' : ℕ) → Keeps fs gs h → AreTails gs h left → AreReaders gs h → p < 2 ^ 32 → top ≤ top' → ((t : ℕ) → touches t k ≡ true → t ≤ top') → IsSound gs h left (total + 1) top'
    p_added gs left top' keeps acting reading small le tops =
        subst (λ n. IsSound gs n left (total + 1) top') (sym is.gone)
        (added es g p q k place_is tails total top sound above back gs left top'
        (subst (λ l. Keeps l gs g) is.entries (subst (λ n. Keeps fs gs n) is.gone keeps))
        (subst (λ n. AreTails gs n left) is.gone acting) (subst (λ n. AreReaders gs n) is.gone reading) small le tops)

pub few_nodes : (es : List Entry) → length (nodes_of es) ≤ length es
few_nodes [] = omega arith
few_nodes (e ∷ es) =
    let more = few_nodes es in
    let n : Node = record { number = e.number.0; kind = e.kind } in
    elim e.live as (λ b. length (cond b (n ∷ nodes_of es) (nodes_of es)) ≤ length (e ∷ es)) [ true ↦ omega arith | false ↦ omega arith ]

-- a node more leaves room for one less
pub rooms : (t u : Table) → length u.entries.items ≡ length t.entries.items + 1 → deque_capacity u.entries ≡ deque_capacity t.entries → u.gone ≡ t.gone → spare_of u ≡ spare_of t - 1
rooms t u len cap gone =
    let a = t.entries.ok.0 in
    let b = u.entries.ok.0 in
    omega arith
