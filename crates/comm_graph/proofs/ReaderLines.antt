-- The lines of readers after a node joined one, and after it left it.
use Rattle.std.proofs.Common.{◌≡◌, ◌≢◌, ℕ, Bool, true, false, not, nat_eq, ◌&&◌, List, Option, Some, None, refl, sym, ap, subst, ◌∙◌, arith, inl, inr}
use Rattle.std.specs.Option.{option_map, option_map_or, IfSome, IfNone}
use Rattle.std.proofs.lemmas.Bool.{cases_eq, cases_lt, cases_Bool}
use Rattle.stab_base.specs.declared.numbers.Seq.{Seq}
use Rattle.comm_graph.specs.declared.node.NodeFor.{NodeFor}
use Rattle.comm_graph.specs.declared.table.Line.{Line}
use Rattle.comm_graph.specs.declared.table.Line.TheVariants.{Thread, Readers}
use Rattle.comm_graph.specs.declared.table.Entry.{Entry}
use Rattle.comm_graph.specs.Node.{reads, read_by, is_write}
use Rattle.comm_graph.specs.Table.{stands, links_of, shape, entry_at, change, with_last_reader, in_line, before_of, after_of, thread, readers, IsSorted, IsFound, IsNodeAt, IsWriteAt, IsLineOf, IsLineBut, Keeps, Beside, BesideReaders, AreReaders, AreReadersBut}
use Rattle.comm_graph.proofs.Touches.{reads_one, reads_it, reads_nothing}
use Rattle.comm_graph.proofs.Tables.{change_same, change_other}
use Rattle.comm_graph.proofs.Lines.{line-agrees}
use Rattle.comm_graph.proofs.Joins.{same_members, read_at, line_beside, but_beside, line_but, line_whole}
use Rattle.comm_graph.proofs.Relinks.{look_kept, keeps, keeps_twice}
use Rattle.comm_graph.proofs.ThreadLines.{reader_apart, acting_apart}

some_shape : (o : Option Entry) (s : Seq × NodeFor × Bool) → option_map_or (λ e. Some (shape e)) o None ≡ Some s → (e : Entry) × (o ≡ Some e) × (shape e ≡ s)
some_shape None s h = absurd (cc)
some_shape (Some e) s h = (e, refl, cc)

-- an entry had the same shape before
pub entry_before : (es fs : List Entry) (g k : ℕ) (f : Entry) → Keeps es fs g → entry_at fs g k ≡ Some f → (e : Entry) × (entry_at es g k ≡ Some e) × (shape e ≡ shape f)
entry_before es fs g k f keeps at = some_shape (entry_at es g k) (shape f) (sym (keeps.shapes k) ∙ read_at (λ e. Some (shape e)) None fs g k f at)

same_before : (v : ℕ) (line : Line) (e : Entry) → (links_of line (with_last_reader v e)).before ≡ (links_of line e).before
same_before v (Thread t) e = refl
same_before v (Readers q) e = refl

same_after : (v : ℕ) (line : Line) (e : Entry) → (links_of line (with_last_reader v e)).after ≡ (links_of line e).after
same_after v (Thread t) e = refl
same_after v (Readers q) e = refl

-- another last reader changes no line
module _ (v : ℕ) (es : List Entry) (g x : ℕ) where
  pub last_keeps : Keeps es (change (with_last_reader v) g x es) g
  last_keeps = keeps (with_last_reader v) es g x (λ e. refl)

  pub last_agrees : (line : Line) (k : ℕ) → (before_of line (change (with_last_reader v) g x es) g k ≡ before_of line es g k) × (after_of line (change (with_last_reader v) g x es) g k ≡ after_of line es g k)
  last_agrees line k = (look_kept (λ e. (links_of line e).before) 0 (with_last_reader v) es g x k (λ e. same_before v line e), look_kept (λ e. (links_of line e).after) 0 (with_last_reader v) es g x k (λ e. same_after v line e))

  pub last_line : (line : Line) (last : ℕ) → IsLineOf es g line last → IsLineOf (change (with_last_reader v) g x es) g line last
  last_line line last =
      let fs = change (with_last_reader v) g x es in
      line-agrees (in_line line es g) (in_line line fs g) (before_of line es g) (before_of line fs g) (after_of line es g) (after_of line fs g) g last
      (same_members line es fs g last_keeps) (λ k m. (last_agrees line k).0) (λ k m. (last_agrees line k).1)

  pub last_but : (line : Line) (last p : ℕ) → IsLineBut es g line last p → IsLineBut (change (with_last_reader v) g x es) g line last p
  last_but line last p =
      let fs = change (with_last_reader v) g x es in
      line-agrees (λ k. in_line line es g k && not (nat_eq k p)) (λ k. in_line line fs g k && not (nat_eq k p)) (before_of line es g) (before_of line fs g) (after_of line es g) (after_of line fs g) g last
      (λ k. ap (λ b. b && not (nat_eq k p)) (same_members line es fs g last_keeps k)) (λ k m. (last_agrees line k).0) (λ k m. (last_agrees line k).1)

  mapped : (o : Option Entry) (f : Entry) → option_map (with_last_reader v) o ≡ Some f → (e : Entry) × (o ≡ Some e) × (f ≡ with_last_reader v e)
  mapped None f h = absurd (cc)
  mapped (Some e) f h = (e, refl, let s : with_last_reader v e ≡ f = cc in sym s)

  pub last_at : (f : Entry) → entry_at (change (with_last_reader v) g x es) g x ≡ Some f → (e : Entry) × (entry_at es g x ≡ Some e) × (f ≡ with_last_reader v e)
  last_at f h = mapped (entry_at es g x) f (sym (change_same (with_last_reader v) es g x) ∙ h)

both : (a b : Bool) → a ≡ true → (a && b) ≡ b
both true b h = refl
both false b h = absurd (cc)

-- a node is a reader of what it read
pub reading : (es : List Entry) (g p : ℕ) (k : NodeFor) (q : ℕ) → IsNodeAt es g p k → in_line (readers q) es g p ≡ reads q k
reading es g p k q n = read_at (stands (readers q)) false es g p n.entry n.at ∙ both n.entry.live (reads q n.entry.kind) n.live ∙ ap (reads q) n.kind_is

reads_other : (k : NodeFor) (m q : ℕ) → reads q k ≡ true → m ≢ q → reads m k ≡ false
reads_other k m q h n = elim (cases_Bool (reads m k)) [ inl y ↦ absurd (n (reads_one m q k y h)) | inr f ↦ f ]

-- two places have two numbers
pub numbers_apart : (es : List Entry) (g p r : ℕ) (e f : Entry) → IsSorted es g → entry_at es g p ≡ Some e → entry_at es g r ≡ Some f → p ≢ r → e.number.0 ≢ f.number.0
numbers_apart es g p r e f s a b n = λ same. elim (cases_lt p r) [ inl lt ↦ omega (arith, s.rise p r e f a b lt) | inr ge ↦ omega (arith, s.rise r p f e b a (omega arith)) ]

module _ (es fs : List Entry) (g p q w : ℕ) (k : NodeFor) (node : IsNodeAt es g p k) (sorted : IsSorted es g) (reads_q : reads q k ≡ true) (write : IsWriteAt es g q w) (beside : Beside (readers q) es fs g) where
  -- the write itself, with another last reader
  writer : (v : ℕ) (f : Entry) → entry_at (change (with_last_reader v) g w fs) g w ≡ Some f → (f.number.0 ≡ q) × (f.last_reader ≡ v)
  writer v f at =
      let m = last_at v fs g w f at in
      let b = entry_before es fs g w m.0 beside.keeps m.1 in
      let same : b.0 ≡ write.entry = (let e : Some b.0 ≡ Some write.entry = sym b.1 ∙ write.at in cc) in
      (ap (λ (x : Entry). x.number.0) m.2 ∙ sym (ap (λ (s : Seq × NodeFor × Bool). s.0.0) b.2) ∙ ap (λ (x : Entry). x.number.0) same ∙ write.number, ap (λ (x : Entry). x.last_reader) m.2)

  -- another write is as it was
  other_write : (v x : ℕ) (f : Entry) → x ≢ w → entry_at (change (with_last_reader v) g w fs) g x ≡ Some f → f.live ≡ true → is_write f.kind ≡ true
      → (e : Entry) × (entry_at es g x ≡ Some e) × (e.live ≡ true) × (is_write e.kind ≡ true) × (e.number.0 ≡ f.number.0) × (e.last_reader ≡ f.last_reader) × (f.number.0 ≢ q)
  other_write v x f n at live wr =
      let here = sym (change_other (with_last_reader v) fs g w x n) ∙ at in
      let b = entry_before es fs g x f beside.keeps here in
      let number = ap (λ (s : Seq × NodeFor × Bool). s.0.0) b.2 in (
        b.0,
        b.1,
        ap (λ (s : Seq × NodeFor × Bool). s.2) b.2 ∙ live,
        ap (λ (s : Seq × NodeFor × Bool). is_write s.1) b.2 ∙ wr,
        number,
        sym (read_at (λ e. e.last_reader) 0 es g x b.0 b.1) ∙ sym (beside.readers x) ∙ read_at (λ e. e.last_reader) 0 fs g x f here,
        λ s. numbers_apart es g x w b.0 write.entry sorted b.1 write.at n (number ∙ s ∙ sym write.number),
      )

  pub readers_joined : IsLineOf fs g (readers q) p → AreReadersBut es g p → AreReaders (change (with_last_reader p) g w fs) g
  readers_joined joined but = λ x f at live wr.
      let gs = change (with_last_reader p) g w fs in
      elim (cases_eq x w) [
        | inl e ↦
            let m = writer p f (sym (ap (entry_at gs g) e) ∙ at) in
            subst (λ v. IsLineOf gs g (readers f.number.0) v) (sym m.1) (subst (λ v. IsLineOf gs g (readers v) p) (sym m.0) (last_line p fs g w (readers q) p joined))
        | inr n ↦
            let o = other_write p x f n at live wr in
            let l : IsLineBut es g (readers f.number.0) f.last_reader p = subst (λ v. IsLineBut es g (readers f.number.0) v p) o.5 (subst (λ v. IsLineBut es g (readers v) o.0.last_reader p) o.4 (but x o.0 o.1 o.2 o.3)) in
            last_line p fs g w (readers f.number.0) f.last_reader
            (line_whole (readers f.number.0) fs g f.last_reader p (same_members (readers f.number.0) es fs g beside.keeps p ∙ reading es g p k f.number.0 node ∙ reads_other k f.number.0 q reads_q o.6)
            (but_beside (readers q) (readers f.number.0) es fs g f.last_reader p beside (reader_apart f.number.0 q o.6) l))
      ]

  pub readers_left : (v : ℕ) → IsLineBut fs g (readers q) v p → AreReaders es g → AreReadersBut (change (with_last_reader v) g w fs) g p
  readers_left v left all = λ x f at live wr.
      let gs = change (with_last_reader v) g w fs in
      elim (cases_eq x w) [
        | inl e ↦
            let m = writer v f (sym (ap (entry_at gs g) e) ∙ at) in
            subst (λ u. IsLineBut gs g (readers f.number.0) u p) (sym m.1) (subst (λ u. IsLineBut gs g (readers u) v p) (sym m.0) (last_but v fs g w (readers q) v p left))
        | inr n ↦
            let o = other_write v x f n at live wr in
            let l : IsLineOf es g (readers f.number.0) f.last_reader = subst (λ u. IsLineOf es g (readers f.number.0) u) o.5 (subst (λ u. IsLineOf es g (readers u) o.0.last_reader) o.4 (all x o.0 o.1 o.2 o.3)) in
            last_but v fs g w (readers f.number.0) f.last_reader p
            (line_but (readers f.number.0) fs g f.last_reader p (same_members (readers f.number.0) es fs g beside.keeps p ∙ reading es g p k f.number.0 node ∙ reads_other k f.number.0 q reads_q o.6)
            (line_beside (readers q) (readers f.number.0) es fs g f.last_reader beside (reader_apart f.number.0 q o.6) l))
      ]

  pub beside_readers : (v : ℕ) → BesideReaders es (change (with_last_reader v) g w fs) g
  beside_readers v = record {
    keeps = keeps_twice es fs _ g beside.keeps (last_keeps v fs g w);
    acting = λ t i m.
        let x = beside.others (thread t) (acting_apart t q) i m in
        let y = last_agrees v fs g w (thread t) i in
        (y.0 ∙ x.0, y.1 ∙ x.1);
  }

-- nobody's reader
module _ (es : List Entry) (g p : ℕ) (k : NodeFor) (node : IsNodeAt es g p k) (none : (x : ℕ) (e : Entry) → entry_at es g x ≡ Some e → e.live ≡ true → is_write e.kind ≡ true → reads e.number.0 k ≡ false) where
  pub whole_readers : AreReadersBut es g p → AreReaders es g
  whole_readers but = λ x e at live wr. line_whole (readers e.number.0) es g e.last_reader p (reading es g p k e.number.0 node ∙ none x e at live wr) (but x e at live wr)

  pub but_readers : AreReaders es g → AreReadersBut es g p
  but_readers all = λ x e at live wr. line_but (readers e.number.0) es g e.last_reader p (reading es g p k e.number.0 node ∙ none x e at live wr) (all x e at live wr)

pub no_read : (es : List Entry) (g : ℕ) (k : NodeFor) → read_by k ≡ None → (x : ℕ) (e : Entry) → entry_at es g x ≡ Some e → e.live ≡ true → is_write e.kind ≡ true → reads e.number.0 k ≡ false
no_read es g k h = λ x e at live wr. reads_nothing k e.number.0 h

pub no_write : (es : List Entry) (g : ℕ) (k : NodeFor) (q : Seq) → read_by k ≡ Some q → ((w : ℕ) → IsWriteAt es g q.0 w → ⊥) → (x : ℕ) (e : Entry) → entry_at es g x ≡ Some e → e.live ≡ true → is_write e.kind ≡ true → reads e.number.0 k ≡ false
no_write es g k q h none = λ x e at live wr. elim (cases_Bool (reads e.number.0 k)) [
  | inl y ↦ absurd (none x (record { entry = e; at = at; live = live; number = reads_one e.number.0 q.0 k y (reads_it k q h); write = wr }))
  | inr f ↦ f
]

-- the write at a place
pub write_found : (es : List Entry) (g q p w : ℕ) → IsFound es g q p → w ≡ p → ((e : Entry) → entry_at es g p ≡ Some e → is_write e.kind ≡ true) → IsWriteAt es g q w
write_found es g q p w f s write = subst (λ v. IsWriteAt es g q v) (sym s) (record { entry = f.entry; at = f.at; live = f.live; number = f.number; write = write f.entry f.at })

pub write_else : (es : List Entry) (g q p : ℕ) → IsSorted es g → IsFound es g q p → ((e : Entry) → entry_at es g p ≡ Some e → is_write e.kind ≡ true → ⊥) → (w : ℕ) → IsWriteAt es g q w → ⊥
write_else es g q p s f other w write = elim (cases_eq w p) [
  | inl e ↦ other write.entry (sym (ap (entry_at es g) e) ∙ write.at) write.write
  | inr n ↦ numbers_apart es g w p write.entry f.entry s write.at f.at n (write.number ∙ sym f.number)
]

pub write_none : (es : List Entry) (g q : ℕ) → ((p : ℕ) → IsFound es g q p → ⊥) → (w : ℕ) → IsWriteAt es g q w → ⊥
write_none es g q none w write = none w (record { entry = write.entry; at = write.at; live = write.live; number = write.number })

pub one_entry : (es : List Entry) (g p : ℕ) (e f : Entry) → entry_at es g p ≡ Some e → entry_at es g p ≡ Some f → e ≡ f
one_entry es g p e f a b = let h : Some e ≡ Some f = sym a ∙ b in cc

pub so_some : {T : Type 0} (o : Option T) (P Q : T → Type 0) → IfSome o P → ((x : T) → P x → Q x) → IfSome o Q
so_some None P Q h f = tt
so_some (Some x) P Q h f = f x h

pub so_none : {T : Type 0} (o : Option T) (P Q : Type 0) → IfNone o P → (P → Q) → IfNone o Q
so_none None P Q h f = f h
so_none (Some x) P Q h f = tt

pub none_of : {T : Type 0} (o : Option T) (P : Type 0) → IfNone o P → o ≡ None → P
none_of None P h e = h
none_of (Some x) P h e = absurd (cc)
