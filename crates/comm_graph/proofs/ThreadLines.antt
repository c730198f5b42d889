-- The lines of threads after a node joined them, and after it left them.
use Rattle.std.proofs.Common.{◌≡◌, ◌≢◌, ℕ, ◌<◌, Bool, true, false, ◌&&◌, List, length, slice_index, slice_set, Some, None, refl, sym, ap, subst, ◌∙◌, arith, inl, inr, get_or-set_same, get_or-set_other}
use Rattle.std.proofs.Math.ListN.{length-set}
use Rattle.std.proofs.lemmas.Bool.{cases_eq, cases_Bool}
use Rattle.stab_base.specs.declared.numbers.ThreadId.{ThreadId}
use Rattle.comm_graph.specs.declared.node.NodeFor.{NodeFor}
use Rattle.comm_graph.specs.declared.table.Line.{Line}
use Rattle.comm_graph.specs.declared.table.Line.TheVariants.{Thread, Readers}
use Rattle.comm_graph.specs.declared.table.Entry.{Entry}
use Rattle.comm_graph.specs.Node.{first_of, other_of, touches}
use Rattle.comm_graph.specs.Table.{stands, in_line, thread, readers, IsNodeAt, IsLineOf, IsLineBut, Beside, AreTails, AreTailsBut}
use Rattle.comm_graph.proofs.Touches.{touched_two, other_parts}
use Rattle.comm_graph.proofs.Joins.{same_members, read_at, line_beside, but_beside, line_but, line_whole}

id_of : Line → ℕ
id_of (Thread t) = t.0
id_of (Readers q) = q.0

pub thread_apart : (t u : ℕ) → t ≢ u → thread t ≢ thread u
unfolding id_of
thread_apart t u n s = n (ap id_of s)

pub reader_apart : (p q : ℕ) → p ≢ q → readers p ≢ readers q
unfolding id_of
reader_apart p q n s = n (ap id_of s)

pub acting_apart : (t q : ℕ) → thread t ≢ readers q
acting_apart t q s = cc

both : (a b : Bool) → a ≡ true → (a && b) ≡ b
both true b h = refl
both false b h = absurd (cc)

-- a node stands in the line of a thread where it touches the thread
pub standing : (es : List Entry) (g p : ℕ) (k : NodeFor) (t : ℕ) → IsNodeAt es g p k → in_line (thread t) es g p ≡ touches t k
standing es g p k t n = read_at (stands (thread t)) false es g p n.entry n.at ∙ both n.entry.live (touches t n.entry.kind) n.live ∙ ap (touches t) n.kind_is

-- a thread that is neither
untouched : (es : List Entry) (g p : ℕ) (k : NodeFor) (t : ℕ) → IsNodeAt es g p k → t ≢ (first_of k).0 → ((x : ThreadId) → other_of k ≡ Some x → t ≢ x.0) → in_line (thread t) es g p ≡ false
untouched es g p k t n a b = elim (cases_Bool (touches t k)) [
  | inl y ↦ elim (touched_two t k y) [ inl e ↦ absurd (a e) | inr w ↦ absurd (b w.0 w.1 (sym w.2)) ]
  | inr f ↦ standing es g p k t n ∙ f
]

none_other : (k : NodeFor) (x : ThreadId) (P : Type 0) → other_of k ≡ None → other_of k ≡ Some x → P
none_other k x P a b = let e : None ≡ Some x = sym a ∙ b in absurd (cc)

same_other : (k : NodeFor) (x y : ThreadId) → other_of k ≡ Some x → other_of k ≡ Some y → x ≡ y
same_other k x y a b = let e : Some x ≡ Some y = sym a ∙ b in cc

module _ (es fs gs : List Entry) (g p : ℕ) (k : NodeFor) (tails : List ℕ) (a : ThreadId) (is_first : a ≡ first_of k) (node : IsNodeAt es g p k) (here : Beside (thread a.0) es fs g) where
  apart_from : (x : ThreadId) → other_of k ≡ Some x → x.0 ≢ a.0
  apart_from x h = λ s. (other_parts k x h).1 (s ∙ ap (λ (y : ThreadId). y.0) is_first)

  not_touched : (t : ℕ) → t ≢ a.0 → ((x : ThreadId) → other_of k ≡ Some x → t ≢ x.0) → in_line (thread t) es g p ≡ false
  not_touched t n m = untouched es g p k t node (λ s. n (s ∙ sym (ap (λ (y : ThreadId). y.0) is_first))) m

  pub joined_one : (lone : other_of k ≡ None) → (a.0 < length tails → IsLineOf fs g (thread a.0) p) → AreTailsBut es g tails p → AreTails fs g (slice_set tails a.0 p)
  joined_one lone joined but = λ t lt.
      let small : t < length tails = omega (arith, length-set tails a.0 p) in
      elim (cases_eq t a.0) [
        | inl e ↦ subst (λ v. IsLineOf fs g (thread t) v) (sym (ap (slice_index (slice_set tails a.0 p)) e ∙ get_or-set_same tails a.0 p 0 (omega arith))) (subst (λ u. IsLineOf fs g (thread u) p) (sym e) (joined (omega arith)))
        | inr n ↦ subst (λ v. IsLineOf fs g (thread t) v) (sym (get_or-set_other tails a.0 t p 0 n))
            (line_whole (thread t) fs g (slice_index tails t) p (same_members (thread t) es fs g here.keeps p ∙ not_touched t n (λ x h. none_other k x _ lone h))
            (but_beside (thread a.0) (thread t) es fs g (slice_index tails t) p here (thread_apart t a.0 n) (but t small)))
      ]

  pub joined_two : (x : ThreadId) → other_of k ≡ Some x → Beside (thread x.0) fs gs g
      → (a.0 < length tails → IsLineOf fs g (thread a.0) p) → (x.0 < length (slice_set tails a.0 p) → IsLineOf gs g (thread x.0) p)
      → AreTailsBut es g tails p → AreTails gs g (slice_set (slice_set tails a.0 p) x.0 p)
  joined_two x is there first second but = λ t lt.
      let once = slice_set tails a.0 p in
      let small : t < length once = omega (arith, length-set once x.0 p) in
      let smaller : t < length tails = omega (arith, length-set tails a.0 p) in
      let apart = apart_from x is in
      elim (cases_eq t x.0) [
        | inl e ↦ subst (λ v. IsLineOf gs g (thread t) v) (sym (ap (slice_index (slice_set once x.0 p)) e ∙ get_or-set_same once x.0 p 0 (omega arith))) (subst (λ u. IsLineOf gs g (thread u) p) (sym e) (second (omega arith)))
        | inr n ↦ subst (λ v. IsLineOf gs g (thread t) v) (sym (get_or-set_other once x.0 t p 0 n))
            (elim (cases_eq t a.0) [
              | inl e ↦ subst (λ v. IsLineOf gs g (thread t) v) (sym (ap (slice_index once) e ∙ get_or-set_same tails a.0 p 0 (omega arith)))
                  (line_beside (thread x.0) (thread t) fs gs g p there (thread_apart t x.0 n) (subst (λ u. IsLineOf fs g (thread u) p) (sym e) (first (omega arith))))
              | inr m ↦ subst (λ v. IsLineOf gs g (thread t) v) (sym (get_or-set_other tails a.0 t p 0 m))
                  (line_whole (thread t) gs g (slice_index tails t) p
                  (same_members (thread t) fs gs g there.keeps p ∙ same_members (thread t) es fs g here.keeps p ∙ not_touched t m (λ y h s. n (s ∙ ap (λ (z : ThreadId). z.0) (same_other k y x h is))))
                  (but_beside (thread x.0) (thread t) fs gs g (slice_index tails t) p there (thread_apart t x.0 n)
                  (but_beside (thread a.0) (thread t) es fs g (slice_index tails t) p here (thread_apart t a.0 m) (but t smaller))))
            ])
      ]

  pub left_one : (left : List ℕ) → other_of k ≡ None → length left ≡ length tails → ((u : ℕ) → u ≢ a.0 → slice_index left u ≡ slice_index tails u)
      → (a.0 < length tails → IsLineBut fs g (thread a.0) (slice_index left a.0) p) → AreTails es g tails → AreTailsBut fs g left p
  left_one left lone count others gone all = λ t lt.
      elim (cases_eq t a.0) [
        | inl e ↦ subst (λ u. IsLineBut fs g (thread u) (slice_index left u) p) (sym e) (gone (omega arith))
        | inr n ↦ subst (λ v. IsLineBut fs g (thread t) v p) (sym (others t n))
            (line_but (thread t) fs g (slice_index tails t) p (same_members (thread t) es fs g here.keeps p ∙ not_touched t n (λ x h. none_other k x _ lone h))
            (line_beside (thread a.0) (thread t) es fs g (slice_index tails t) here (thread_apart t a.0 n) (all t (omega arith))))
      ]

  -- the line of the other thread, once the first one's is left
  pub other_line : (left : List ℕ) (x : ThreadId) → other_of k ≡ Some x → length left ≡ length tails → ((u : ℕ) → u ≢ a.0 → slice_index left u ≡ slice_index tails u) → AreTails es g tails
      → x.0 < length left → IsLineOf fs g (thread x.0) (slice_index left x.0)
  other_line left x is count others all lt =
      let apart = apart_from x is in
      subst (λ v. IsLineOf fs g (thread x.0) v) (sym (others x.0 apart)) (line_beside (thread a.0) (thread x.0) es fs g (slice_index tails x.0) here (thread_apart x.0 a.0 apart) (all x.0 (omega arith)))

  pub other_but : (x : ThreadId) → other_of k ≡ Some x → AreTailsBut es g tails p → x.0 < length (slice_set tails a.0 p) → IsLineBut fs g (thread x.0) (slice_index (slice_set tails a.0 p) x.0) p
  other_but x is all lt =
      let apart = apart_from x is in
      subst (λ v. IsLineBut fs g (thread x.0) v p) (sym (get_or-set_other tails a.0 x.0 p 0 apart)) (but_beside (thread a.0) (thread x.0) es fs g (slice_index tails x.0) p here (thread_apart x.0 a.0 apart) (all x.0 (omega (arith, length-set tails a.0 p))))

  pub left_two : (once twice : List ℕ) (x : ThreadId) → other_of k ≡ Some x → Beside (thread x.0) fs gs g
      → length once ≡ length tails → ((u : ℕ) → u ≢ a.0 → slice_index once u ≡ slice_index tails u)
      → length twice ≡ length once → ((u : ℕ) → u ≢ x.0 → slice_index twice u ≡ slice_index once u)
      → (a.0 < length tails → IsLineBut fs g (thread a.0) (slice_index once a.0) p)
      → (x.0 < length once → IsLineBut gs g (thread x.0) (slice_index twice x.0) p)
      → AreTails es g tails → AreTailsBut gs g twice p
  left_two once twice x is there count others count2 others2 first second all = λ t lt.
      elim (cases_eq t x.0) [
        | inl e ↦ subst (λ u. IsLineBut gs g (thread u) (slice_index twice u) p) (sym e) (second (omega arith))
        | inr n ↦ subst (λ v. IsLineBut gs g (thread t) v p) (sym (others2 t n))
            (but_beside (thread x.0) (thread t) fs gs g (slice_index once t) p there (thread_apart t x.0 n)
            (elim (cases_eq t a.0) [
              | inl e ↦ subst (λ u. IsLineBut fs g (thread u) (slice_index once u) p) (sym e) (first (omega arith))
              | inr m ↦ subst (λ v. IsLineBut fs g (thread t) v p) (sym (others t m))
                  (line_but (thread t) fs g (slice_index tails t) p
                  (same_members (thread t) es fs g here.keeps p ∙ not_touched t m (λ y h s. n (s ∙ ap (λ (z : ThreadId). z.0) (same_other k y x h is))))
                  (line_beside (thread a.0) (thread t) es fs g (slice_index tails t) here (thread_apart t a.0 m) (all t (omega arith))))
            ]))
      ]
