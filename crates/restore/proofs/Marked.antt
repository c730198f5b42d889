-- The line of a thread when one more node is marked.
use Rattle.std.proofs.Common.{◌≡◌, ◌⊎◌, inl, inr, ℕ, zero, suc, ◌<◌, ◌≤◌, ◌+◌, Bool, true, false, cond, ◌||◌, nat_eq, List, [], ◌∷◌, ◌++◌, length, get_or, take, Option, Some, None, IsSome, refl, sym, ap, subst, ◌∙◌, arith}
use Rattle.std.specs.Prelude.{min, nat_le}
use Rattle.std.proofs.lemmas.Bool.{false≢true}
use Rattle.std.proofs.lemmas.Bool.Decides.{nat_tests}
use Rattle.std.proofs.lemmas.List.{take_all, take_more, get_or-map}
use Rattle.std.proofs.lemmas.List.Folds.{list_any-append}
use Rattle.std.specs.Ordering.{nat_cmp}
use Rattle.std.specs.FinMap as map
use Rattle.std.specs.FinMap.{FinMap}
use Rattle.stab_base.specs.declared.numbers.Seq.{Seq}
use Rattle.stab_base.specs.declared.numbers.ThreadId.{ThreadId}
use Rattle.comm_graph.specs.declared.node.NodeFor.{NodeFor}
use Rattle.comm_graph.specs.declared.node.NodeFor.TheVariants.{Enter, Spawn, Comm, Get, Set, NewRef, Pin}
use Rattle.comm_graph.specs.Node.{Node, acts, touches}
use Rattle.comm_graph.specs.Edge.{kind_of}
use Rattle.reach_line.specs.Reached.{has, IsOnce}
use Rattle.reach_line.specs.MarkList.{numbers}
use Rattle.restore.specs.declared.line.Line.{Line}
use Rattle.restore.specs.declared.line.Line.TheVariants.{From, Gone}
use Rattle.restore.specs.Line.{starts, IsMarkedAs, IsLineOf}
use Rattle.restore.specs.Noted.{with_line, noted}
use Rattle.restore.proofs.Carried.{not_before}

or_false : (b : Bool) → (b || false) ≡ b
or_false true = refl
or_false false = refl

or_true : (b : Bool) → (b || true) ≡ true
or_true true = refl
or_true false = refl

-- who is touched acts or is started
touched_how : (t : ℕ) (k : NodeFor) → touches t k ≡ (acts t k || starts t k)
touched_how t (Spawn s u) = ap (λ b. nat_eq t s.0 || b) (or_false (nat_eq t u.0)) ∙ sym (ap (λ b. b || nat_eq t u.0) (or_false (nat_eq t s.0)))
touched_how t (Enter s) = sym (or_false _)
touched_how t (Comm s r) = sym (or_false _)
touched_how t (Get s q) = sym (or_false _)
touched_how t (Set s) = sym (or_false _)
touched_how t (NewRef s) = sym (or_false _)
touched_how t (Pin s) = sym (or_false _)

pub acts_touches : (t : ℕ) (k : NodeFor) → acts t k ≡ true → touches t k ≡ true
acts_touches t k is = touched_how t k ∙ ap (λ b. b || starts t k) is

pub starts_touches : (t : ℕ) (k : NodeFor) → starts t k ≡ true → touches t k ≡ true
starts_touches t k is = touched_how t k ∙ ap (λ b. acts t k || b) is ∙ or_true (acts t k)

untouched : (t : ℕ) (k : NodeFor) → acts t k ≡ false → starts t k ≡ false → touches t k ≡ false
untouched t k unstarted none = touched_how t k ∙ ap (λ b. b || starts t k) unstarted ∙ none

some_kind : (a b : NodeFor) → Some a ≡ Some b → a ≡ b
some_kind a b is = cc

module _ (nodes : List Node) (marks : List ℕ) (q : ℕ) (k : NodeFor) (there : kind_of nodes q ≡ Some k) where
  -- what was marked stays so
  pub marked_still : (P : NodeFor → Bool) (p : ℕ) → IsMarkedAs nodes marks P p → IsMarkedAs nodes (marks ++ q ∷ []) P p
  marked_still P p is = record {
    kind = is.kind;
    marked = list_any-append (nat_eq p) marks (q ∷ []) ∙ ap (λ b. b || (nat_eq p q || false)) is.marked;
    there = is.there;
    passes = is.passes;
  }

  -- the last one is marked
  pub marked_last : (P : NodeFor → Bool) → P k ≡ true → IsMarkedAs nodes (marks ++ q ∷ []) P q
  marked_last P passes = record {
    kind = k;
    marked = (let e : nat_eq q q ≡ true = grind (arith, nat_tests) in list_any-append (nat_eq q) marks (q ∷ []) ∙ ap (λ b. has q marks || (b || false)) e ∙ or_true (has q marks));
    there = there;
    passes = passes;
  }

  -- what is marked was so, or is the last one
  pub marked_how : (P : NodeFor → Bool) (p : ℕ) → IsMarkedAs nodes (marks ++ q ∷ []) P p → IsMarkedAs nodes marks P p ⊎ ((p ≡ q) × (P k ≡ true))
  marked_how P p is =
      let split : (has p marks || (nat_eq p q || false)) ≡ true = sym (list_any-append (nat_eq p) marks (q ∷ [])) ∙ is.marked in
      elim (has p marks) as (λ b. has p marks ≡ b → (b || (nat_eq p q || false)) ≡ true → IsMarkedAs nodes marks P p ⊎ ((p ≡ q) × (P k ≡ true))) [
        | true ↦ λ e h. inl (record { kind = is.kind; marked = e; there = is.there; passes = is.passes })
        | false ↦ λ e h.
            let same : p ≡ q = (let f : nat_eq p q ≡ true = sym (or_false (nat_eq p q)) ∙ h in grind (arith, nat_tests)) in
            let kind : is.kind ≡ k = some_kind is.kind k (sym is.there ∙ ap (kind_of nodes) same ∙ there) in
            inr (same, ap P (sym kind) ∙ is.passes)
      ] refl split

  -- no more are so marked, where the last one isn't so
  pub none_more : (P : NodeFor → Bool) → P k ≡ false → ((p : ℕ) → IsMarkedAs nodes marks P p → ⊥) → (p : ℕ) → IsMarkedAs nodes (marks ++ q ∷ []) P p → ⊥
  none_more P off none p is = elim (marked_how P p is) [ inl old ↦ none p old | inr new ↦ false≢true (sym off ∙ new.1) ]

  weaker : (P R : NodeFor → Bool) → ((k : NodeFor) → P k ≡ true → R k ≡ true) → (p : ℕ) → IsMarkedAs nodes marks P p → IsMarkedAs nodes marks R p
  weaker P R so p is = record { kind = is.kind; marked = is.marked; there = is.there; passes = so is.kind is.passes }

  first_of_more : (t p : ℕ) → ((r : ℕ) → IsMarkedAs nodes marks (acts t) r → p ≤ r) → (r : ℕ) → IsMarkedAs nodes (marks ++ q ∷ []) (acts t) r → min p q ≤ r
  first_of_more t p least r is = elim (marked_how (acts t) r is) [
    | inl old ↦ (let low : p ≤ r = least r old in omega arith)
    | inr new ↦ (let e : r ≡ q = new.0 in omega arith)
  ]

  earliest : (t p : ℕ) → IsMarkedAs nodes marks (acts t) p → acts t k ≡ true → IsMarkedAs nodes (marks ++ q ∷ []) (acts t) (min p q)
  earliest t p is now =
      let M : ℕ → Type 0 = λ n. IsMarkedAs nodes (marks ++ q ∷ []) (acts t) n in
      elim (nat_le p q) as (λ b. nat_le p q ≡ b → M (min p q)) [
        | true ↦ λ e. (let same : p ≡ min p q = grind (arith, nat_tests) in subst M same (marked_still (acts t) p is))
        | false ↦ λ e. (let same : q ≡ min p q = grind (arith, nat_tests) in subst M same (marked_last (acts t) now))
      ] refl

  -- it acts in the last one
  from_more : (t : ℕ) (o : Option Line) → acts t k ≡ true → starts t k ≡ false → IsLineOf nodes marks t o → IsLineOf nodes (marks ++ q ∷ []) t (with_line (From (record { 0 = q })) o)
  from_more t None now unstarted is = (
    none_more (starts t) unstarted (λ p h. is p (weaker (starts t) (touches t) (starts_touches t) p h)),
    marked_last (acts t) now,
    λ p h. elim (marked_how (acts t) p h) [
      | inl old ↦ absurd (is p (weaker (acts t) (touches t) (acts_touches t) p old))
      | inr new ↦ (let e : p ≡ q = new.0 in omega arith)
    ],
  )
  from_more t (Some Gone) now unstarted is = (is.0, marked_still (starts t) is.0 is.1)
  from_more t (Some (From p)) now unstarted is = (none_more (starts t) unstarted is.0, earliest t p.0 is.1 now, first_of_more t p.0 is.2)

  -- the last one doesn't touch it
  same_more : (t : ℕ) (o : Option Line) → acts t k ≡ false → starts t k ≡ false → IsLineOf nodes marks t o → IsLineOf nodes (marks ++ q ∷ []) t o
  same_more t None off unstarted is = none_more (touches t) (untouched t k off unstarted) is
  same_more t (Some Gone) off unstarted is = (is.0, marked_still (starts t) is.0 is.1)
  same_more t (Some (From p)) off unstarted is = (
    none_more (starts t) unstarted is.0,
    marked_still (acts t) p.0 is.1,
    λ r h. elim (marked_how (acts t) r h) [
      | inl old ↦ is.2 r old
      | inr new ↦ absurd (false≢true (sym off ∙ new.1))
    ],
  )

  pub line_more : (t : ℕ) (o : Option Line) → IsLineOf nodes marks t o → IsLineOf nodes (marks ++ q ∷ []) t (noted (record { 0 = q }) k t o)
  line_more t o is =
      let L : Option Line → Type 0 = λ l. IsLineOf nodes (marks ++ q ∷ []) t l in
      elim (starts t k) as (λ b. starts t k ≡ b → L (cond b (Some Gone) (cond (acts t k) (with_line (From (record { 0 = q })) o) o))) [
        | true ↦ λ s. (q, marked_last (starts t) s)
        | false ↦ λ s. elim (acts t k) as (λ b. acts t k ≡ b → L (cond b (with_line (From (record { 0 = q })) o) o)) [
          | true ↦ λ a. from_more t o a s is
          | false ↦ λ a. same_more t o a s is
        ] refl
      ] refl

-- no line without marks
pub line_none : (nodes : List Node) (t : ℕ) → IsLineOf nodes [] t None
line_none nodes t q is = false≢true is.marked

-- a number that stands at a place is among the numbers
pub has_at : (marks : List ℕ) (i q : ℕ) → i < length marks → get_or marks i 0 ≡ q → has q marks ≡ true
has_at [] i q low is = absurd (omega arith)
has_at (m ∷ marks) zero q low is = (let e : nat_eq q m ≡ true = grind (arith, nat_tests) in ap (λ b. b || has q marks) e)
has_at (m ∷ marks) (suc i) q low is = ap (λ b. nat_eq q m || b) (has_at marks i q (omega arith) is) ∙ or_true (nat_eq q m)

-- ---- who is touched

alike : (a b : ℕ) → a ≡ b → nat_eq a b ≡ true
alike a b same = grind (arith, nat_tests)

pub first_touched : (t u : ThreadId) → touches t.0 (Spawn t u) ≡ true
first_touched t u = ap (λ b. b || (nat_eq t.0 u.0 || false)) (alike t.0 t.0 refl)

pub child_touched : (t u : ThreadId) → touches u.0 (Spawn t u) ≡ true
child_touched t u = ap (λ b. nat_eq u.0 t.0 || (b || false)) (alike u.0 u.0 refl) ∙ or_true (nat_eq u.0 t.0)

pub sender_touched : (s r : ThreadId) → touches s.0 (Comm s r) ≡ true
sender_touched s r = ap (λ b. b || (nat_eq s.0 r.0 || false)) (alike s.0 s.0 refl)

pub receiver_touched : (s r : ThreadId) → touches r.0 (Comm s r) ≡ true
receiver_touched s r = ap (λ b. nat_eq r.0 s.0 || (b || false)) (alike r.0 r.0 refl) ∙ or_true (nat_eq r.0 s.0)

-- of a node with one thread
pub alone_touched : (t : ThreadId) (k : NodeFor) → (k ≡ Enter t) ⊎ (((q : Seq) × (k ≡ Get t q)) ⊎ ((k ≡ Set t) ⊎ ((k ≡ NewRef t) ⊎ (k ≡ Pin t)))) → touches t.0 k ≡ true
alone_touched t k how =
    let own : (nat_eq t.0 t.0 || false) ≡ true = ap (λ b. b || false) (alike t.0 t.0 refl) in
    elim how [
      | inl enter ↦ ap (touches t.0) enter ∙ own
      | inr more ↦ elim more [
        | inl get ↦ ap (touches t.0) get.1 ∙ own
        | inr more ↦ elim more [
          | inl is ↦ ap (touches t.0) is ∙ own
          | inr more ↦ elim more [ inl is ↦ ap (touches t.0) is ∙ own | inr is ↦ ap (touches t.0) is ∙ own ]
        ]
      ]
    ]

-- ---- one mark after the other

pub line_at_start : (nodes : List Node) (t : ℕ) (lines : FinMap nat_cmp Line) → lines ≡ map.empty → IsLineOf nodes [] t (map.get lines t)
line_at_start nodes t lines none = subst (λ o. IsLineOf nodes [] t o) (sym (ap (λ (m : FinMap nat_cmp Line). map.get m t) none ∙ map.get-empty nat_cmp t)) (line_none nodes t)

length-marks : (qs : List Seq) → length (numbers qs) ≡ length qs
length-marks [] = refl
length-marks (q ∷ qs) = ap suc (length-marks qs)

-- the mark at a place
at_mark : (qs : List Seq) (marks : List ℕ) (i : ℕ) → i < length qs → numbers qs ≡ marks → get_or marks i 0 ≡ (get_or qs i (record { 0 = 0 })).0
at_mark qs marks i low is = ap (λ ms. get_or ms i 0) (sym is) ∙ get_or-map (λ (q : Seq). q.0) qs i (record { 0 = 0 }) 0 low

pub mark_at : (qs : List Seq) (marks : List ℕ) (i : ℕ) → i < length qs → numbers qs ≡ marks → has (get_or qs i (record { 0 = 0 })).0 marks ≡ true
mark_at qs marks i low is = has_at marks i (get_or qs i (record { 0 = 0 })).0 (let n : length marks ≡ length qs = ap length (sym is) ∙ length-marks qs in omega arith) (at_mark qs marks i low is)

pub take_marks : (qs : List Seq) (marks : List ℕ) (i : ℕ) → length qs ≤ i → numbers qs ≡ marks → take i marks ≡ marks
take_marks qs marks i high is = take_all i marks (let n : length marks ≡ length qs = ap length (sym is) ∙ length-marks qs in omega arith)

pub marks_more : (qs : List Seq) (marks : List ℕ) (i : ℕ) → i < length qs → numbers qs ≡ marks → take (i + 1) marks ≡ take i marks ++ (get_or qs i (record { 0 = 0 })).0 ∷ []
marks_more qs marks i low is = take_more marks i 0 (let n : length marks ≡ length qs = ap length (sym is) ∙ length-marks qs in omega arith) ∙ ap (λ q. take i marks ++ q ∷ []) (at_mark qs marks i low is)

pub line_next : (nodes : List Node) (qs : List Seq) (marks : List ℕ) (i t : ℕ) (o p : Option Line) → i < length qs → numbers qs ≡ marks → IsSome (kind_of nodes (get_or qs i (record { 0 = 0 })).0)
    → ((k : NodeFor) → kind_of nodes (get_or qs i (record { 0 = 0 })).0 ≡ Some k → p ≡ noted (get_or qs i (record { 0 = 0 })) k t o)
    → IsLineOf nodes (take i marks) t o → IsLineOf nodes (take (i + 1) marks) t p
line_next nodes qs marks i t o p low is there now line =
    let q = get_or qs i (record { 0 = 0 }) in
    elim (kind_of nodes q.0) as (λ k. kind_of nodes q.0 ≡ k → IsSome k → IsLineOf nodes (take (i + 1) marks) t p) [
      | None ↦ λ e some. absurd (false≢true some)
      | (Some k) ↦ λ e some. subst (λ ms. IsLineOf nodes ms t p) (sym (marks_more qs marks i low is)) (subst (λ l. IsLineOf nodes (take i marks ++ q.0 ∷ []) t l) (sym (now k e)) (line_more nodes (take i marks) q.0 k e t o line))
    ] refl there

-- a mark wasn't gone through before
pub mark_fresh : (qs : List Seq) (marks : List ℕ) (i : ℕ) → IsOnce marks → i < length qs → numbers qs ≡ marks → has (get_or qs i (record { 0 = 0 })).0 (take i marks) ≡ false
mark_fresh qs marks i once low is = ap (λ q. has q (take i marks)) (sym (at_mark qs marks i low is)) ∙ not_before marks i once (let n : length marks ≡ length qs = ap length (sym is) ∙ length-marks qs in omega arith)
