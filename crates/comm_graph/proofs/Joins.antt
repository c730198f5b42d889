-- A line of the entries after a join and after a leave.
use Rattle.std.proofs.Common.{◌≡◌, ◌≢◌, ℕ, ◌+◌, ◌<◌, ◌≤◌, Bool, true, false, not, ◌&&◌, nat_eq, List, length, Option, Some, None, refl, sym, ap, subst, ◌∙◌, arith, inl, inr, eq-eqb}
use Rattle.std.specs.Option.{option_map_or}
use Rattle.std.proofs.lemmas.Bool.{cases_eq, cases_lt, cases_Bool, and_parts}
use Rattle.comm_graph.specs.declared.table.Line.{Line}
use Rattle.comm_graph.specs.declared.table.Links.{Links}
use Rattle.comm_graph.specs.declared.table.Entry.{Entry}
use Rattle.stab_base.specs.declared.numbers.Seq.{Seq}
use Rattle.comm_graph.specs.declared.node.NodeFor.{NodeFor}
use Rattle.comm_graph.specs.declared.table.Line.TheVariants.{Thread, Readers}
use Rattle.comm_graph.specs.Node.{touches, reads}
use Rattle.comm_graph.specs.Table.{shape, Beside, links_of, relinked, before_in, after_in, with_before, with_after, stands, look, entry_at, change, Keeps, Agrees, SameReaders, in_line, before_of, after_of, IsLineOf, IsLineBut}
use Rattle.comm_graph.proofs.Tables.{in_range, apart}
use Rattle.comm_graph.proofs.Relinks.{look_other, look_same, look_kept, stands-shape, keeps, keeps_twice, relinked_shape, relinked_reader, relinked_own, relinked_other}
use Rattle.comm_graph.proofs.Lines.{line-agrees, line-join, line-leave}

clash : {X : Type 0} (b : Bool) → b ≡ true → b ≡ false → X
clash b t f = absurd (cc)

some_entry : (line : Line) (o : Option Entry) → option_map_or (stands line) o false ≡ true → (e : Entry) × (o ≡ Some e) × (stands line e ≡ true)
some_entry line None h = absurd (cc)
some_entry line (Some e) h = (e, refl, h)

-- a member is an entry that stands in the line
pub member_entry : (line : Line) (es : List Entry) (g k : ℕ) → in_line line es g k ≡ true → (e : Entry) × (entry_at es g k ≡ Some e) × (stands line e ≡ true)
member_entry line es g k h = some_entry line (entry_at es g k) h

pub member_range : (line : Line) (es : List Entry) (g k : ℕ) → in_line line es g k ≡ true → (g < k) × (k ≤ g + length es)
member_range line es g k h = let m = member_entry line es g k h in in_range es g k m.0 m.1

pub none_beyond : (line : Line) (es : List Entry) (g k : ℕ) → g + length es < k → in_line line es g k ≡ false
none_beyond line es g k lt = elim (cases_Bool (in_line line es g k)) [ inl t ↦ (let r = member_range line es g k t in absurd (omega arith)) | inr f ↦ f ]

pub read_at : {X : Type 0} (f : Entry → X) (d : X) (es : List Entry) (g k : ℕ) (e : Entry) → entry_at es g k ≡ Some e → look f d es g k ≡ f e
read_at f d es g k e h = ap (λ o. option_map_or f o d) h

module _ (h : Links → Links) (line : Line) (es : List Entry) (g x : ℕ) where
  pub members_kept : (other : Line) (k : ℕ) → in_line other (change (relinked h line) g x es) g k ≡ in_line other es g k
  members_kept other k = look_kept (stands other) false (relinked h line) es g x k (λ e. stands-shape other e (relinked h line e) (relinked_shape h line e))

  pub readers_kept : SameReaders es (change (relinked h line) g x es) g
  readers_kept = λ k. look_kept (λ e. e.last_reader) 0 (relinked h line) es g x k (λ e. relinked_reader h line e)

  pub shapes_kept : Keeps es (change (relinked h line) g x es) g
  shapes_kept = keeps (relinked h line) es g x (λ e. relinked_shape h line e)

  pub others_agree : (g < x → in_line line es g x ≡ true) → (other : Line) → other ≢ line → Agrees es (change (relinked h line) g x es) g other
  others_agree mem other ne = λ k in_it. elim (cases_eq k x) [
    | inl s ↦
        let in_x : in_line other es g x ≡ true = sym (ap (in_line other es g) s) ∙ in_it in
        let m = member_entry other es g x in_x in
        let r = in_range es g x m.0 m.1 in
        let n = member_entry line es g x (mem r.0) in
        let same : n.0 ≡ m.0 = (let both : Some n.0 ≡ Some m.0 = sym n.1 ∙ m.1 in cc) in
        let links : links_of other (relinked h line m.0) ≡ links_of other m.0 = relinked_other h line other m.0 ne (sym (ap (stands line) same) ∙ n.2) m.2 in
        subst (λ y. (before_of other (change (relinked h line) g x es) g y ≡ before_of other es g y) × (after_of other (change (relinked h line) g x es) g y ≡ after_of other es g y)) (sym s) (
          look_same (λ e. (links_of other e).before) 0 (relinked h line) es g x ∙ read_at (λ e. (links_of other (relinked h line e)).before) 0 es g x m.0 m.1 ∙ ap (λ (l : Links). l.before) links ∙ sym (read_at (λ e. (links_of other e).before) 0 es g x m.0 m.1),
          look_same (λ e. (links_of other e).after) 0 (relinked h line) es g x ∙ read_at (λ e. (links_of other (relinked h line e)).after) 0 es g x m.0 m.1 ∙ ap (λ (l : Links). l.after) links ∙ sym (read_at (λ e. (links_of other e).after) 0 es g x m.0 m.1),
        )
    | inr n ↦ (look_other (λ e. (links_of other e).before) 0 (relinked h line) es g x k n, look_other (λ e. (links_of other e).after) 0 (relinked h line) es g x k n)
  ]

module _ (line : Line) (es : List Entry) (g x v : ℕ) where
  pub before_new : in_line line es g x ≡ true → before_of line (change (with_before line v) g x es) g x ≡ v
  before_new mem =
      let m = member_entry line es g x mem in
      look_same (λ e. (links_of line e).before) 0 (with_before line v) es g x
      ∙ read_at (λ e. (links_of line (with_before line v e)).before) 0 es g x m.0 m.1
      ∙ ap (λ (l : Links). l.before) (relinked_own (before_in v) line m.0)

  pub after_new : in_line line es g x ≡ true → after_of line (change (with_after line v) g x es) g x ≡ v
  after_new mem =
      let m = member_entry line es g x mem in
      look_same (λ e. (links_of line e).after) 0 (with_after line v) es g x
      ∙ read_at (λ e. (links_of line (with_after line v e)).after) 0 es g x m.0 m.1
      ∙ ap (λ (l : Links). l.after) (relinked_own (after_in v) line m.0)

  pub before_kept : (k : ℕ) → before_of line (change (with_after line v) g x es) g k ≡ before_of line es g k
  before_kept k = look_kept (λ e. (links_of line e).before) 0 (with_after line v) es g x k (λ e. ap (λ (l : Links). l.before) (relinked_own (after_in v) line e))

  pub after_kept : (k : ℕ) → after_of line (change (with_before line v) g x es) g k ≡ after_of line es g k
  after_kept k = look_kept (λ e. (links_of line e).after) 0 (with_before line v) es g x k (λ e. ap (λ (l : Links). l.after) (relinked_own (before_in v) line e))

  pub before_other : (k : ℕ) → k ≢ x → before_of line (change (with_before line v) g x es) g k ≡ before_of line es g k
  before_other k n = look_other (λ e. (links_of line e).before) 0 (with_before line v) es g x k n

  pub after_other : (k : ℕ) → k ≢ x → after_of line (change (with_after line v) g x es) g k ≡ after_of line es g k
  after_other k n = look_other (λ e. (links_of line e).after) 0 (with_after line v) es g x k n

pub but_self : (b : Bool) (p : ℕ) → (b && not (nat_eq p p)) ≡ false
but_self b p = elim b as (λ c. (c && not (nat_eq p p)) ≡ false) [ true ↦ ap not (eq-eqb p p refl) | false ↦ refl ]

pub but_other : (b : Bool) (k p : ℕ) → k ≢ p → (b && not (nat_eq k p)) ≡ b
but_other b k p n = elim b as (λ c. (c && not (nat_eq k p)) ≡ c) [ true ↦ ap not (apart k p n) | false ↦ refl ]

pub but_parts : (b : Bool) (k p : ℕ) → (b && not (nat_eq k p)) ≡ true → (b ≡ true) × (k ≢ p)
but_parts b k p h = ((and_parts b _ h).0, λ s. clash (b && not (nat_eq k p)) h (ap (λ y. b && not (nat_eq y p)) s ∙ but_self b p))

module _ (line : Line) (es : List Entry) (g p last : ℕ) where
  pub last_before : IsLineBut es g line last p → in_line line es g p ≡ true → (g < last → in_line line es g last ≡ true) × (last ≢ p)
  last_before l mem = (λ lt. (but_parts (in_line line es g last) last p (l.member lt)).0, λ s. elim (cases_lt g last) [ inl lt ↦ (but_parts (in_line line es g last) last p (l.member lt)).1 s | inr ge ↦ (let r = member_range line es g p mem in omega arith) ])

  pub line_joined : p ≡ g + length es → in_line line es g p ≡ true → after_of line es g p ≡ 0 → IsLineBut es g line last p → IsLineOf (change (with_after line p) g last (change (with_before line last) g p es)) g line p
  line_joined end mem alone l =
      let e1 = change (with_before line last) g p es in
      let e2 = change (with_after line p) g last e1 in
      let r = member_range line es g p mem in
      let w = last_before l mem in
      let kept : (k : ℕ) → in_line line e2 g k ≡ in_line line es g k = λ k. members_kept (after_in p) line e1 g last line k ∙ members_kept (before_in last) line es g p line k in
      line-join (λ k. in_line line es g k && not (nat_eq k p)) (in_line line e2 g) (before_of line es g) (before_of line e2 g) (after_of line es g) (after_of line e2 g) g last p
      r.0
      (λ k le. elim (cases_eq k p) [ inl s ↦ ap (λ y. in_line line es g y && not (nat_eq y p)) s ∙ but_self (in_line line es g p) p | inr n ↦ ap (λ b. b && not (nat_eq k p)) (none_beyond line es g k (omega arith)) ])
      (kept p ∙ mem)
      (λ k n. kept k ∙ sym (but_other (in_line line es g k) k p n))
      (before_kept line e1 g last p p ∙ before_new line es g p last mem)
      (λ k m. before_kept line e1 g last p k ∙ before_other line es g p last k (but_parts (in_line line es g k) k p m).1)
      (after_other line e1 g last p p (λ s. w.1 (sym s)) ∙ after_kept line es g p last p ∙ alone)
      (λ lt. after_new line e1 g last p (members_kept (before_in last) line es g p line last ∙ w.0 lt))
      (λ k m n. after_other line e1 g last p k n ∙ after_kept line es g p last k)
      l

module _ (line : Line) (es : List Entry) (g p last b a : ℕ) where
  pub line_left : in_line line es g p ≡ true → b ≡ before_of line es g p → a ≡ after_of line es g p → IsLineOf es g line last → (v : ℕ) → (0 < a → v ≡ last) → (a ≡ 0 → v ≡ b)
      → IsLineBut (change (with_before line b) g a (change (with_after line a) g b es)) g line v p
  line_left mem bi ai l v some none =
      let e1 = change (with_after line a) g b es in
      let e2 = change (with_before line b) g a e1 in
      let pb = l.back p mem in
      let pa = l.on p mem in
      let kept : (k : ℕ) → in_line line e2 g k ≡ in_line line es g k = λ k. members_kept (before_in b) line e1 g a line k ∙ members_kept (after_in a) line es g b line k in
      line-leave (in_line line es g) (λ k. in_line line e2 g k && not (nat_eq k p)) (before_of line es g) (before_of line e2 g) (after_of line es g) (after_of line e2 g) g last v p
      mem
      (but_self (in_line line e2 g p) p)
      (λ k n. but_other (in_line line e2 g k) k p n ∙ kept k)
      (λ pos. let t = pa.there pos in
      ap (before_of line e2 g) (sym ai) ∙ before_new line e1 g a b (members_kept (after_in a) line es g b line a ∙ ap (in_line line es g) ai ∙ t.1) ∙ bi)
      (λ k m n. before_other line e1 g a b k (λ s. n (s ∙ ai)) ∙ before_kept line es g b a k)
      (λ lt. ap (after_of line e2 g) (sym bi) ∙ after_kept line e1 g a b b ∙ after_new line es g b a (ap (in_line line es g) bi ∙ pb.there lt) ∙ ai)
      (λ k m n. after_kept line e1 g a b k ∙ after_other line es g b a k (λ s. n (s ∙ bi)))
      (λ pos. some (omega arith))
      (λ z. none (omega arith) ∙ bi)
      l

by_shape : Line → Seq × NodeFor × Bool → Bool
by_shape (Thread t) s = s.2 && touches t.0 s.1
by_shape (Readers q) s = s.2 && reads q.0 s.1

by_shapes : (line : Line) (o : Option Entry) → option_map_or (stands line) o false ≡ option_map_or (by_shape line) (option_map_or (λ e. Some (shape e)) o None) false
unfolding by_shape
by_shapes (Thread t) None = refl
by_shapes (Thread t) (Some e) = refl
by_shapes (Readers q) None = refl
by_shapes (Readers q) (Some e) = refl

-- with the same shapes there are the same members
pub same_members : (line : Line) (es fs : List Entry) (g : ℕ) → Keeps es fs g → (k : ℕ) → in_line line fs g k ≡ in_line line es g k
same_members line es fs g keeps k = by_shapes line (entry_at fs g k) ∙ ap (λ o. option_map_or (by_shape line) o false) (keeps.shapes k) ∙ sym (by_shapes line (entry_at es g k))

pub beside_twice : (line : Line) (es fs gs : List Entry) (g : ℕ) → Beside line es fs g → Beside line fs gs g → Beside line es gs g
beside_twice line es fs gs g a b = record {
  keeps = keeps_twice es fs gs g a.keeps b.keeps;
  readers = λ k. b.readers k ∙ a.readers k;
  others = λ other n k m.
      let x = a.others other n k m in
      let y = b.others other n k (same_members other es fs g a.keeps k ∙ m) in
      (y.0 ∙ x.0, y.1 ∙ x.1);
}

pub relink_beside : (h : Links → Links) (line : Line) (es : List Entry) (g x : ℕ) → (g < x → in_line line es g x ≡ true) → Beside line es (change (relinked h line) g x es) g
relink_beside h line es g x m = record {
  keeps = shapes_kept h line es g x;
  readers = readers_kept h line es g x;
  others = others_agree h line es g x m;
}

-- a line that is not the one which changed
pub line_beside : (line other : Line) (es fs : List Entry) (g last : ℕ) → Beside line es fs g → other ≢ line → IsLineOf es g other last → IsLineOf fs g other last
line_beside line other es fs g last b n =
    line-agrees (in_line other es g) (in_line other fs g) (before_of other es g) (before_of other fs g) (after_of other es g) (after_of other fs g) g last
    (same_members other es fs g b.keeps) (λ k m. (b.others other n k m).0) (λ k m. (b.others other n k m).1)

pub but_beside : (line other : Line) (es fs : List Entry) (g last p : ℕ) → Beside line es fs g → other ≢ line → IsLineBut es g other last p → IsLineBut fs g other last p
but_beside line other es fs g last p b n =
    line-agrees (λ k. in_line other es g k && not (nat_eq k p)) (λ k. in_line other fs g k && not (nat_eq k p)) (before_of other es g) (before_of other fs g) (after_of other es g) (after_of other fs g) g last
    (λ k. ap (λ c. c && not (nat_eq k p)) (same_members other es fs g b.keeps k)) (λ k m. (b.others other n k (and_parts (in_line other es g k) _ m).0).0) (λ k m. (b.others other n k (and_parts (in_line other es g k) _ m).0).1)

-- who isn't a member may be left out, and who is left out doesn't count
pub line_but : (line : Line) (es : List Entry) (g last p : ℕ) → in_line line es g p ≡ false → IsLineOf es g line last → IsLineBut es g line last p
line_but line es g last p out =
    line-agrees (in_line line es g) (λ k. in_line line es g k && not (nat_eq k p)) (before_of line es g) (before_of line es g) (after_of line es g) (after_of line es g) g last
    (λ k. elim (cases_eq k p) [ inl s ↦ ap (λ y. in_line line es g y && not (nat_eq y p)) s ∙ but_self (in_line line es g p) p ∙ sym out ∙ sym (ap (in_line line es g) s) | inr n ↦ but_other (in_line line es g k) k p n ])
    (λ k m. refl) (λ k m. refl)

pub line_whole : (line : Line) (es : List Entry) (g last p : ℕ) → in_line line es g p ≡ false → IsLineBut es g line last p → IsLineOf es g line last
line_whole line es g last p out =
    line-agrees (λ k. in_line line es g k && not (nat_eq k p)) (in_line line es g) (before_of line es g) (before_of line es g) (after_of line es g) (after_of line es g) g last
    (λ k. elim (cases_eq k p) [ inl s ↦ ap (in_line line es g) s ∙ out ∙ sym (ap (λ y. in_line line es g y && not (nat_eq y p)) s ∙ but_self (in_line line es g p) p) | inr n ↦ sym (but_other (in_line line es g k) k p n) ])
    (λ k m. refl) (λ k m. refl)

-- what is read of an entry's links
pub links_before : (line : Line) (es : List Entry) (g p : ℕ) (e : Entry) (l : Links) → entry_at es g p ≡ Some e → l ≡ links_of line e → l.before ≡ before_of line es g p
links_before line es g p e l at is = ap (λ (k : Links). k.before) is ∙ sym (read_at (λ x. (links_of line x).before) 0 es g p e at)

pub links_after : (line : Line) (es : List Entry) (g p : ℕ) (e : Entry) (l : Links) → entry_at es g p ≡ Some e → l ≡ links_of line e → l.after ≡ after_of line es g p
links_after line es g p e l at is = ap (λ (k : Links). k.after) is ∙ sym (read_at (λ x. (links_of line x).after) 0 es g p e at)

-- a line whose members know the same
pub line_kept : (line : Line) (es fs : List Entry) (g last : ℕ) → Keeps es fs g → Agrees es fs g line → IsLineOf es g line last → IsLineOf fs g line last
line_kept line es fs g last keeps a =
    line-agrees (in_line line es g) (in_line line fs g) (before_of line es g) (before_of line fs g) (after_of line es g) (after_of line fs g) g last
    (same_members line es fs g keeps) (λ k m. (a k m).0) (λ k m. (a k m).1)

pub but_kept : (line : Line) (es fs : List Entry) (g last p : ℕ) → Keeps es fs g → Agrees es fs g line → IsLineBut es g line last p → IsLineBut fs g line last p
but_kept line es fs g last p keeps a =
    line-agrees (λ k. in_line line es g k && not (nat_eq k p)) (λ k. in_line line fs g k && not (nat_eq k p)) (before_of line es g) (before_of line fs g) (after_of line es g) (after_of line fs g) g last
    (λ k. ap (λ c. c && not (nat_eq k p)) (same_members line es fs g keeps k)) (λ k m. (a k (and_parts (in_line line es g k) _ m).0).0) (λ k m. (a k (and_parts (in_line line es g k) _ m).0).1)
