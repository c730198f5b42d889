-- What new links leave of a graph.
use Rattle.std.proofs.Common.{◌≡◌, ℕ, ◌<◌, Bool, true, List, slice_index, Some, sym, ap, subst, ◌∙◌, arith}
use Rattle.stab_base.specs.declared.numbers.Seq.{Seq}
use Rattle.comm_graph.specs.declared.node.NodeFor.{NodeFor}
use Rattle.comm_graph.specs.declared.table.Entry.{Entry}
use Rattle.comm_graph.specs.Node.{reads, is_write}
use Rattle.comm_graph.specs.Table.{shape, entry_at, thread, readers, IsSorted, IsNodeAt, IsLineOf, IsLineBut, Keeps, BesideThreads, BesideReaders, AreTails, AreTailsBut, AreReaders, AreReadersBut}
use Rattle.comm_graph.proofs.Joins.{read_at, line_kept, but_kept}
use Rattle.comm_graph.proofs.ReaderLines.{entry_before}

number_is : (e f : Entry) → shape e ≡ shape f → e.number.0 ≡ f.number.0
number_is e f s = ap (λ (x : Seq × NodeFor × Bool). x.0.0) s

kind_is : (e f : Entry) → shape e ≡ shape f → e.kind ≡ f.kind
kind_is e f s = ap (λ (x : Seq × NodeFor × Bool). x.1) s

live_is : (e f : Entry) → shape e ≡ shape f → e.live ≡ f.live
live_is e f s = ap (λ (x : Seq × NodeFor × Bool). x.2) s

pub keeps_back : (es fs : List Entry) (g : ℕ) → Keeps es fs g → Keeps fs es g
keeps_back es fs g a = record { count = sym a.count; nodes = sym a.nodes; shapes = λ k. sym (a.shapes k) }

pub node_kept : (es fs : List Entry) (g p : ℕ) (k : NodeFor) → Keeps es fs g → IsNodeAt es g p k → IsNodeAt fs g p k
node_kept es fs g p k a n =
    let f = entry_before fs es g p n.entry (keeps_back es fs g a) n.at in
    record { entry = f.0; at = f.1; live = live_is f.0 n.entry f.2 ∙ n.live; kind_is = kind_is f.0 n.entry f.2 ∙ n.kind_is }

pub sorted_kept : (es fs : List Entry) (g : ℕ) → Keeps es fs g → IsSorted es g → IsSorted fs g
sorted_kept es fs g a s = record {
  rise = λ p r e f at bt lt.
      let x = entry_before es fs g p e a at in
      let y = entry_before es fs g r f a bt in
      omega (arith, s.rise p r x.0 y.0 x.1 y.1 lt, number_is x.0 e x.2, number_is y.0 f y.2);
}

pub past_kept : (es fs : List Entry) (g : ℕ) → Keeps es fs g → ((p m : ℕ) (e : Entry) → entry_at es g p ≡ Some e → reads m e.kind ≡ true → m < e.number.0) → (p m : ℕ) (e : Entry) → entry_at fs g p ≡ Some e → reads m e.kind ≡ true → m < e.number.0
past_kept es fs g a h p m e at r =
    let x = entry_before es fs g p e a at in
    omega (arith, h p m x.0 x.1 (ap (reads m) (kind_is x.0 e x.2) ∙ r), number_is x.0 e x.2)

-- lines of threads where links of readers changed, and the other way round
pub tails_kept : (es fs : List Entry) (g : ℕ) (tails : List ℕ) → BesideReaders es fs g → AreTails es g tails → AreTails fs g tails
tails_kept es fs g tails b all = λ t lt. line_kept (thread t) es fs g (slice_index tails t) b.keeps (b.acting t) (all t lt)

pub tails_but_kept : (es fs : List Entry) (g p : ℕ) (tails : List ℕ) → BesideReaders es fs g → AreTailsBut es g tails p → AreTailsBut fs g tails p
tails_but_kept es fs g p tails b all = λ t lt. but_kept (thread t) es fs g (slice_index tails t) p b.keeps (b.acting t) (all t lt)

module _ (es fs : List Entry) (g : ℕ) (b : BesideThreads es fs g) where
  last_is : (x : ℕ) (e f : Entry) → entry_at es g x ≡ Some e → entry_at fs g x ≡ Some f → f.last_reader ≡ e.last_reader
  last_is x e f at bt = sym (read_at (λ y. y.last_reader) 0 fs g x f bt) ∙ b.last_readers x ∙ read_at (λ y. y.last_reader) 0 es g x e at

  pub readers_kept : AreReaders es g → AreReaders fs g
  readers_kept all = λ x f at live wr.
      let e = entry_before es fs g x f b.keeps at in
      let l = all x e.0 e.1 (live_is e.0 f e.2 ∙ live) (ap is_write (kind_is e.0 f e.2) ∙ wr) in
      subst (λ v. IsLineOf fs g (readers f.number.0) v) (sym (last_is x e.0 f e.1 at)) (subst (λ v. IsLineOf fs g (readers v) e.0.last_reader) (number_is e.0 f e.2)
      (line_kept (readers e.0.number.0) es fs g e.0.last_reader b.keeps (b.reading e.0.number.0) l))

  pub readers_but_kept : (p : ℕ) → AreReadersBut es g p → AreReadersBut fs g p
  readers_but_kept p all = λ x f at live wr.
      let e = entry_before es fs g x f b.keeps at in
      let l = all x e.0 e.1 (live_is e.0 f e.2 ∙ live) (ap is_write (kind_is e.0 f e.2) ∙ wr) in
      subst (λ v. IsLineBut fs g (readers f.number.0) v p) (sym (last_is x e.0 f e.1 at)) (subst (λ v. IsLineBut fs g (readers v) e.0.last_reader p) (number_is e.0 f e.2)
      (but_kept (readers e.0.number.0) es fs g e.0.last_reader p b.keeps (b.reading e.0.number.0) l))
