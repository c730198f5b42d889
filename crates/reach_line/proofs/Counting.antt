-- Four steps a node: each marked node is the reader of one marked write at most.
use Rattle.std.proofs.Common.{◌≡◌, ◌≢◌, ℕ, zero, suc, ◌+◌, ◌*◌, ◌<◌, ◌≤◌, Bool, true, false, cond, ◌||◌, ◌&&◌, nat_eq, List, [], ◌∷◌, ◌++◌, length, drop, reverse, map, filter, refl, sym, ap, subst, ◌∙◌, arith, inl, inr, eq-eqb, eqb-true, length-append}
use Rattle.std.specs.List.{AllByRecursion, flat_map}
use Rattle.std.proofs.lemmas.Bool.{cases_eq, cases_lt, cases_Bool, and_parts}
use Rattle.std.proofs.lemmas.List.{reverse-append}
use Rattle.comm_graph.specs.declared.node.NodeFor.{NodeFor}
use Rattle.comm_graph.specs.declared.node.NodeFor.TheVariants.{Enter, Spawn, Comm, Get, Set, NewRef, Pin}
use Rattle.comm_graph.specs.Node.{Node, acts, touched, is_write, reads}
use Rattle.comm_graph.specs.Edge.{next_of, readers_of, thread_ends, read_ends, from_number, ends_at, ends, AreNodes}
use Rattle.comm_graph.proofs.Touches.{reads_one}
use Rattle.reach_line.specs.Reached.{has, IsOnce}
use Rattle.reach_line.specs.Progress.{AreClosed, cost}
use Rattle.reach_line.proofs.Marking.{apart, has_append}
use Rattle.reach_line.proofs.Closing.{all_map, all_has, has_more}

clash : {X : Type 0} (b : Bool) → b ≡ true → b ≡ false → X
clash b t f = absurd (cc)

-- 1 for true, 0 for false
abbrev one : Bool → ℕ
one b = cond b 1 0

-- how many nodes pass
abbrev tally : (Node → Bool) → List Node → ℕ
tally f [] = 0
tally f (n ∷ ns) = one (f n) + tally f ns

-- a sum over numbers
abbrev total : (ℕ → ℕ) → List ℕ → ℕ
total f [] = 0
total f (x ∷ xs) = f x + total f xs

or_left : (a b : Bool) → a ≡ true → (a || b) ≡ true
or_left a b h = ap (λ c. c || b) h

or_right : (a b : Bool) → b ≡ true → (a || b) ≡ true
or_right true b h = refl
or_right false b h = h

and_true : (b : Bool) → (b && true) ≡ b
and_true true = refl
and_true false = refl

and_false : (b : Bool) → (b && false) ≡ false
and_false true = refl
and_false false = refl

total_same : (f g : ℕ → ℕ) (xs : List ℕ) → ((x : ℕ) → f x ≡ g x) → total f xs ≡ total g xs
total_same f g [] h = refl
total_same f g (x ∷ xs) h = let a = h x in let b = total_same f g xs h in omega arith

total_zero : (f : ℕ → ℕ) (xs : List ℕ) → ((x : ℕ) → f x ≡ 0) → total f xs ≡ 0
total_zero f [] h = refl
total_zero f (x ∷ xs) h = let a = h x in let b = total_zero f xs h in omega arith

total_sum : (f g : ℕ → ℕ) (xs : List ℕ) → total (λ x. f x + g x) xs ≡ total f xs + total g xs
total_sum f g [] = refl
total_sum f g (x ∷ xs) = let b = total_sum f g xs in omega arith

tally_zero : (f : Node → Bool) (ns : List Node) → ((n : Node) → f n ≡ false) → tally f ns ≡ 0
tally_zero f [] h = refl
tally_zero f (n ∷ ns) h = let a : one (f n) ≡ 0 = ap (λ (b : Bool). cond {A = ℕ} b 1 0) (h n) in let b = tally_zero f ns h in omega arith

one_or : (a b : Bool) → one (a || b) ≤ one a + one b
one_or true b = omega arith
one_or false b = omega arith

tally_or : (f g : Node → Bool) (ns : List Node) → tally (λ n. f n || g n) ns ≤ tally f ns + tally g ns
tally_or f g [] = omega arith
tally_or f g (n ∷ ns) = let a = one_or (f n) (g n) in let b = tally_or f g ns in omega arith

none_after : (x : ℕ) (n : Node) (ns : List Node) → n.number ≡ x → AllByRecursion (λ (m : Node). n.number < m.number) ns → tally (λ (m : Node). nat_eq m.number x) ns ≡ 0
none_after x n [] is all = refl
none_after x n (m ∷ ns) is all =
    let lt = all.0 in
    let ne : nat_eq m.number x ≡ false = apart m.number x (λ s. omega arith) in
    let a : one (nat_eq m.number x) ≡ 0 = ap (λ (b : Bool). cond {A = ℕ} b 1 0) ne in
    let b = none_after x n ns is all.1 in
    omega arith

no_write : (k : NodeFor) (p : ℕ) (ms : List ℕ) → reads p k ≡ true → has p ms ≡ false → total (λ q. one (reads q k)) ms ≡ 0
no_write k p [] y out = refl
no_write k p (q ∷ ms) y out =
    let apart_pq : p ≢ q = λ s. clash (has p (q ∷ ms)) (or_left (nat_eq p q) (has p ms) (eq-eqb p q s)) out in
    let rest : has p ms ≡ false = sym (ap (λ b. b || has p ms) (apart p q apart_pq)) ∙ out in
    let ne : reads q k ≡ false = elim (cases_Bool (reads q k)) [ inl t ↦ absurd (apart_pq (reads_one p q k y t)) | inr f ↦ f ] in
    let a : one (reads q k) ≡ 0 = ap (λ (b : Bool). cond {A = ℕ} b 1 0) ne in
    let b = no_write k p ms y rest in
    omega arith

first_number : (p : ℕ) (ns : List Node) (n : Node) (later : List Node) → from_number p ns ≡ n ∷ later → n.number ≡ p
first_number p [] n later is = absurd (cc)
first_number p (m ∷ ns) n later is = elim (cases_Bool (nat_eq p m.number)) [
  | inl y ↦
      let both : m ∷ ns ≡ n ∷ later = sym (ap (λ b. cond b (m ∷ ns) (from_number p ns)) y) ∙ is in
      let same : m ≡ n = cc in
      sym (ap (λ (x : Node). x.number) same) ∙ sym (eqb-true p m.number y)
  | inr z ↦ first_number p ns n later (sym (ap (λ b. cond b (m ∷ ns) (from_number p ns)) z) ∙ is)
]

next_short : (t : ℕ) (ns : List Node) → length (next_of t ns) ≤ 1
next_short t [] = omega arith
next_short t (n ∷ ns) = let more = next_short t ns in elim (acts t n.kind) as (λ b. length (cond b (n.number ∷ []) (next_of t ns)) ≤ 1) [ true ↦ omega arith | false ↦ more ]

one_end : (t : ℕ) (ns : List Node) → length (next_of t ns ++ []) ≤ 2
one_end t ns = let a = next_short t ns in let nil : List ℕ = [] in let b = length-append (next_of t ns) nil in omega arith

two_ends : (t u : ℕ) (ns : List Node) → length (next_of t ns ++ (next_of u ns ++ [])) ≤ 2
two_ends t u ns = let a = next_short t ns in let b = next_short u ns in let nil : List ℕ = [] in let c = length-append (next_of u ns) nil in let d = length-append (next_of t ns) (next_of u ns ++ []) in omega arith

-- at most two edges for threads
threads_few : (k : NodeFor) (ns : List Node) → length (thread_ends k ns) ≤ 2
threads_few (Enter t) ns = one_end t.0 ns
threads_few (Spawn t u) ns = two_ends t.0 u.0 ns
threads_few (Comm t u) ns = two_ends t.0 u.0 ns
threads_few (Get t q) ns = one_end t.0 ns
threads_few (Set t) ns = one_end t.0 ns
threads_few (NewRef t) ns = one_end t.0 ns
threads_few (Pin t) ns = one_end t.0 ns

length_reverse : (xs : List ℕ) → length (reverse xs) ≡ length xs
length_reverse [] = refl
length_reverse (x ∷ xs) = let more = length_reverse xs in ap length (reverse-append (x ∷ []) xs) ∙ length-append (reverse xs) (x ∷ []) ∙ (let e : length (reverse xs) + 1 ≡ suc (length xs) = omega arith in e)

in_reverse : (x : ℕ) (xs : List ℕ) → has x xs ≡ true → has x (reverse xs) ≡ true
in_reverse x [] h = h
in_reverse x (y ∷ xs) h =
    ap (has x) (reverse-append (y ∷ []) xs) ∙ has_append x (reverse xs) (y ∷ [])
    ∙ elim (cases_Bool (nat_eq x y)) [
      | inl t ↦ or_right (has x (reverse xs)) (has x (y ∷ [])) (ap (λ b. b || false) t)
      | inr f ↦ or_left (has x (reverse xs)) (has x (y ∷ [])) (in_reverse x xs (sym (ap (λ b. b || has x xs) f) ∙ h))
    ]

-- a reader of p, when all of p's readers are among the marks
readers_marked : (p : ℕ) (ns : List Node) (ms : List ℕ) → ((x : ℕ) → has x (readers_of p ns) ≡ true → has x ms ≡ true) → length (readers_of p ns) ≤ tally (λ (n : Node). reads p n.kind && has n.number ms) ns
readers_marked p [] ms h = omega arith
readers_marked p (n ∷ ns) ms h = elim (cases_Bool (reads p n.kind)) [
  | inl y ↦
      let cons : readers_of p (n ∷ ns) ≡ n.number ∷ readers_of p ns = ap (λ b. map (λ (m : Node). m.number) (cond b (n ∷ filter (λ (m : Node). reads p m.kind) ns) (filter (λ (m : Node). reads p m.kind) ns))) y in
      let here : has n.number ms ≡ true = h n.number (ap (has n.number) cons ∙ or_left (nat_eq n.number n.number) (has n.number (readers_of p ns)) (eq-eqb n.number n.number refl)) in
      let both : (reads p n.kind && has n.number ms) ≡ true = ap (λ b. b && has n.number ms) y ∙ here in
      let is : one (reads p n.kind && has n.number ms) ≡ 1 = ap (λ (b : Bool). cond {A = ℕ} b 1 0) both in
      let more = readers_marked p ns ms (λ x z. h x (ap (has x) cons ∙ or_right (nat_eq x n.number) (has x (readers_of p ns)) z)) in
      let len = ap length cons in
      omega arith
  | inr z ↦
      let same : readers_of p (n ∷ ns) ≡ readers_of p ns = ap (λ b. map (λ (m : Node). m.number) (cond b (n ∷ filter (λ (m : Node). reads p m.kind) ns) (filter (λ (m : Node). reads p m.kind) ns))) z in
      let more = readers_marked p ns ms (λ x w. h x (ap (has x) same ∙ w)) in
      let len = ap length same in
      omega arith
]

-- the edges of one node
edges_few : (p : ℕ) (ns : List Node) (ms : List ℕ) (from : List Node) → from ≡ from_number p ns → ((x : ℕ) → has x (ends_at from ns) ≡ true → has x ms ≡ true) → length (ends_at from ns) ≤ 2 + tally (λ (n : Node). reads p n.kind && has n.number ms) ns
edges_few p ns ms [] is h = omega arith
edges_few p ns ms (n ∷ later) is h =
    let num : n.number ≡ p = first_number p ns n later (sym is) in
    let a = threads_few n.kind later in
    let len = length-append (thread_ends n.kind later) (read_ends n ns) in
    elim (cases_Bool (is_write n.kind)) [
      | inl y ↦
          let rd : read_ends n ns ≡ reverse (readers_of p ns) = ap (λ b. cond b (reverse (readers_of n.number ns)) []) y ∙ ap (λ q. reverse (readers_of q ns)) num in
          let few = readers_marked p ns ms (λ x w. h x (has_append x (thread_ends n.kind later) (read_ends n ns) ∙ or_right (has x (thread_ends n.kind later)) (has x (read_ends n ns)) (ap (has x) rd ∙ in_reverse x (readers_of p ns) w))) in
          let b = ap length rd ∙ length_reverse (readers_of p ns) in
          omega arith
      | inr z ↦
          let rd : read_ends n ns ≡ [] = ap (λ b. cond b (reverse (readers_of n.number ns)) []) z in
          let b = ap length rd in
          omega arith
    ]

-- nobody reads two writes, so with each write once a node counts once at most
one_write : (k : NodeFor) (ms : List ℕ) → IsOnce ms → total (λ p. one (reads p k)) ms ≤ 1
one_write k [] once = omega arith
one_write k (p ∷ ms) once = elim (cases_Bool (reads p k)) [
  | inl y ↦
      let none : total (λ q. one (reads q k)) ms ≡ 0 = no_write k p ms y once.0 in
      let is : one (reads p k) ≡ 1 = ap (λ (b : Bool). cond {A = ℕ} b 1 0) y in
      omega arith
  | inr z ↦
      let more = one_write k ms once.1 in
      let is : one (reads p k) ≡ 0 = ap (λ (b : Bool). cond {A = ℕ} b 1 0) z in
      omega arith
]

once_marked : (k : NodeFor) (b : Bool) (ms : List ℕ) → IsOnce ms → total (λ p. one (reads p k && b)) ms ≤ one b
once_marked k true ms once = let a = one_write k ms once in let s = total_same (λ p. one (reads p k && true)) (λ p. one (reads p k)) ms (λ p. ap (λ (c : Bool). cond {A = ℕ} c 1 0) (and_true (reads p k))) in omega arith
once_marked k false ms once = let s = total_zero (λ p. one (reads p k && false)) ms (λ p. ap (λ (c : Bool). cond {A = ℕ} c 1 0) (and_false (reads p k))) in omega arith

-- over all marks, readers are at most the marked nodes
readers_total : (ms full : List ℕ) (ns : List Node) → IsOnce ms → total (λ p. tally (λ (n : Node). reads p n.kind && has n.number full) ns) ms ≤ tally (λ (n : Node). has n.number full) ns
readers_total ms full [] once = let s = total_zero (λ p. 0) ms (λ p. refl) in omega arith
readers_total ms full (n ∷ ns) once =
    let more = readers_total ms full ns once in
    let here = once_marked n.kind (has n.number full) ms once in
    let split = total_sum (λ p. one (reads p n.kind && has n.number full)) (λ p. tally (λ (m : Node). reads p m.kind && has m.number full) ns) ms in
    omega arith

-- a number is that of one node at most
one_node : (x : ℕ) (ns : List Node) → AreNodes ns → tally (λ (n : Node). nat_eq n.number x) ns ≤ 1
one_node x [] all = omega arith
one_node x (n ∷ ns) all = elim (cases_Bool (nat_eq n.number x)) [
  | inl y ↦
      let none = none_after x n ns (eqb-true n.number x y) all.0 in
      let is : one (nat_eq n.number x) ≡ 1 = ap (λ (b : Bool). cond {A = ℕ} b 1 0) y in
      omega arith
  | inr z ↦
      let more = one_node x ns all.2 in
      let is : one (nat_eq n.number x) ≡ 0 = ap (λ (b : Bool). cond {A = ℕ} b 1 0) z in
      omega arith
]

-- as many nodes are marked as there are marks, at most
marked_few : (ms : List ℕ) (ns : List Node) → AreNodes ns → tally (λ (n : Node). has n.number ms) ns ≤ length ms
marked_few [] ns all = let z = tally_zero (λ (n : Node). false) ns (λ n. refl) in omega arith
marked_few (m ∷ ms) ns all =
    let more = marked_few ms ns all in
    let here = one_node m ns all in
    let split = tally_or (λ (n : Node). nat_eq n.number m) (λ (n : Node). has n.number ms) ns in
    omega arith

cost_few : (ns : List Node) (full ms : List ℕ) → AreClosed ns full ms → cost ns ms ≤ 3 * length ms + total (λ p. tally (λ (n : Node). reads p n.kind && has n.number full) ns) ms
cost_few ns full [] closed = omega arith
cost_few ns full (p ∷ ms) closed =
    let more = cost_few ns full ms closed.1 in
    let here = edges_few p ns full (from_number p ns) refl (λ x h. all_has (λ q. has q full ≡ true) x (ends ns p) closed.0 h) in
    omega arith

-- four steps a node
pub four_a_node : (ns : List Node) (ms : List ℕ) → AreNodes ns → IsOnce ms → AreClosed ns ms ms → cost ns ms ≤ 4 * length ms
four_a_node ns ms all once closed =
    let a = cost_few ns ms ms closed in
    let b = readers_total ms ms ns once in
    let c = marked_few ms ns all in
    omega arith
