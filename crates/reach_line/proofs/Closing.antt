-- Marks that grow: what stays marked, and what is then closed.
use Rattle.std.proofs.Common.{◌≡◌, ℕ, zero, suc, ◌+◌, ◌<◌, ◌≤◌, Bool, true, false, cond, ◌||◌, nat_eq, List, [], ◌∷◌, ◌++◌, length, take, reverse, map, filter, Some, None, IsSome, refl, sym, ap, subst, ◌∙◌, arith, inl, inr, ◌⊎◌, eq-eqb, eqb-true, length-append}
use Rattle.std.specs.List.{AllByRecursion, flat_map, slice_get}
use Rattle.std.proofs.lemmas.Bool.{cases_Bool}
use Rattle.std.proofs.lemmas.List.{reverse-append}
use Rattle.std.proofs.lemmas.List.Elements.{recursion_from_All}
use Rattle.stab_base.specs.declared.numbers.Seq.{Seq}
use Rattle.comm_graph.specs.declared.edges.Edges.{Edges}
use Rattle.comm_graph.specs.Node.{Node, acts, touched, is_write, reads}
use Rattle.comm_graph.specs.Edge.{next_of, readers_of, thread_ends, read_ends, from_number, ends_at, ends, kind_at, kind_of}
use Rattle.comm_graph.specs.Left.{left_of, IsTurn}
use Rattle.reach_line.specs.Reached.{has, Reached}
use Rattle.reach_line.specs.Reached.Reached.{itself, edge}
use Rattle.reach_line.specs.MarkList.{MarkList, HasSpare}
use Rattle.reach_line.specs.Progress.{IsPart, named, AreClosed, cost}
use Rattle.reach_line.proofs.Marking.{has_append, has_push}

clash : {X : Type 0} (b : Bool) → b ≡ true → b ≡ false → X
clash b t f = absurd (cc)

or_parts : (a b : Bool) → (a || b) ≡ true → (a ≡ true) ⊎ (b ≡ true)
or_parts true b h = inl refl
or_parts false b h = inr h

or_left : (a b : Bool) → a ≡ true → (a || b) ≡ true
or_left a b h = ap (λ c. c || b) h

or_right : (a b : Bool) → b ≡ true → (a || b) ≡ true
or_right true b h = refl
or_right false b h = h

-- whose number an end is

named_rest : (x : ℕ) (n : Node) (ns : List Node) → named x ns ≡ true → named x (n ∷ ns) ≡ true
named_rest x n ns h = or_right (nat_eq x n.number) (named x ns) h

next_named : (x t : ℕ) (ns : List Node) → has x (next_of t ns) ≡ true → named x ns ≡ true
next_named x t [] h = h
next_named x t (n ∷ ns) h = elim (cases_Bool (acts t n.kind)) [
  | inl y ↦ elim (or_parts (nat_eq x n.number) false (sym (ap (λ b. has x (cond b (n.number ∷ []) (next_of t ns))) y) ∙ h)) [ inl e ↦ or_left (nat_eq x n.number) (named x ns) e | inr e ↦ clash false e refl ]
  | inr z ↦ named_rest x n ns (next_named x t ns (sym (ap (λ b. has x (cond b (n.number ∷ []) (next_of t ns))) z) ∙ h))
]

threads_named : (x : ℕ) (ts : List ℕ) (ns : List Node) → has x (flat_map (λ t. next_of t ns) ts) ≡ true → named x ns ≡ true
threads_named x [] ns h = clash false h refl
threads_named x (t ∷ ts) ns h = elim (or_parts (has x (next_of t ns)) (has x (flat_map (λ u. next_of u ns) ts)) (sym (has_append x (next_of t ns) (flat_map (λ u. next_of u ns) ts)) ∙ h)) [
  | inl e ↦ next_named x t ns e
  | inr e ↦ threads_named x ts ns e
]

has_reverse : (x : ℕ) (xs : List ℕ) → has x (reverse xs) ≡ true → has x xs ≡ true
has_reverse x [] h = h
has_reverse x (y ∷ xs) h = elim (or_parts (has x (reverse xs)) (nat_eq x y) (sym (ap (has x) (reverse-append (y ∷ []) xs) ∙ has_push x y (reverse xs)) ∙ h)) [
  | inl e ↦ or_right (nat_eq x y) (has x xs) (has_reverse x xs e)
  | inr e ↦ or_left (nat_eq x y) (has x xs) e
]

readers_named : (x q : ℕ) (ns : List Node) → has x (readers_of q ns) ≡ true → named x ns ≡ true
readers_named x q [] h = h
readers_named x q (n ∷ ns) h = elim (cases_Bool (reads q n.kind)) [
  | inl y ↦ elim (or_parts (nat_eq x n.number) (has x (readers_of q ns)) (sym (ap (λ b. has x (map (λ (m : Node). m.number) (cond b (n ∷ filter (λ (m : Node). reads q m.kind) ns) (filter (λ (m : Node). reads q m.kind) ns)))) y) ∙ h)) [
    | inl e ↦ or_left (nat_eq x n.number) (named x ns) e
    | inr e ↦ named_rest x n ns (readers_named x q ns e)
  ]
  | inr z ↦ named_rest x n ns (readers_named x q ns (sym (ap (λ b. has x (map (λ (m : Node). m.number) (cond b (n ∷ filter (λ (m : Node). reads q m.kind) ns) (filter (λ (m : Node). reads q m.kind) ns)))) z) ∙ h))
]

-- later nodes are nodes
suffix_named : (x q : ℕ) (ns later : List Node) (n : Node) → from_number q ns ≡ n ∷ later → named x later ≡ true → named x ns ≡ true
suffix_named x q [] later n is h = absurd (cc)
suffix_named x q (m ∷ ns) later n is h = elim (cases_Bool (nat_eq q m.number)) [
  | inl y ↦
      let both : m ∷ ns ≡ n ∷ later = sym (ap (λ b. cond b (m ∷ ns) (from_number q ns)) y) ∙ is in
      let same : ns ≡ later = cc in
      named_rest x m ns (ap (named x) same ∙ h)
  | inr z ↦ named_rest x m ns (suffix_named x q ns later n (sym (ap (λ b. cond b (m ∷ ns) (from_number q ns)) z) ∙ is) h)
]

read_named : (x : ℕ) (b : Bool) (q : ℕ) (ns : List Node) → has x (cond b (reverse (readers_of q ns)) []) ≡ true → named x ns ≡ true
read_named x true q ns h = readers_named x q ns (has_reverse x (readers_of q ns) h)
read_named x false q ns h = clash false h refl

at_named : (x q : ℕ) (ns from : List Node) → from_number q ns ≡ from → has x (ends_at from ns) ≡ true → named x ns ≡ true
at_named x q ns [] is h = clash false h refl
at_named x q ns (n ∷ later) is h = elim (or_parts (has x (thread_ends n.kind later)) (has x (read_ends n ns)) (sym (has_append x (thread_ends n.kind later) (read_ends n ns)) ∙ h)) [
  | inl e ↦ suffix_named x q ns later n is (threads_named x (touched n.kind) later e)
  | inr e ↦ read_named x (is_write n.kind) n.number ns e
]

pub ends_named : (x q : ℕ) (ns : List Node) → has x (ends ns q) ≡ true → named x ns ≡ true
ends_named x q ns h = at_named x q ns (from_number q ns) refl h

-- what holds of each node holds of one with the number
pub of_named : (P : ℕ → Type 0) (x : ℕ) (ns : List Node) → AllByRecursion (λ (n : Node). P n.number) ns → named x ns ≡ true → P x
of_named P x [] all h = clash false h refl
of_named P x (n ∷ ns) all h = elim (cases_Bool (nat_eq x n.number)) [
  | inl y ↦ subst P (sym (eqb-true x n.number y)) all.0
  | inr z ↦ of_named P x ns all.1 (sym (ap (λ b. b || named x ns) z) ∙ h)
]

pub in_room : (m : MarkList) (ns : List Node) (x : ℕ) → HasSpare m ns → named x ns ≡ true → (m.lowest ≤ x) × (x < m.beyond)
in_room m ns x spare h = of_named (λ q. (m.lowest ≤ q) × (q < m.beyond)) x ns (recursion_from_All (λ (n : Node). (m.lowest ≤ n.number) × (n.number < m.beyond)) ns spare) h

pub kind_named : (x : ℕ) (ns : List Node) → IsSome (kind_of ns x) → named x ns ≡ true
kind_named x [] some = absurd (cc)
kind_named x (n ∷ ns) some = elim (cases_Bool (nat_eq x n.number)) [
  | inl y ↦ or_left (nat_eq x n.number) (named x ns) y
  | inr z ↦ named_rest x n ns (kind_named x ns (subst IsSome (ap (λ b. kind_at (cond b (n ∷ ns) (from_number x ns))) z) some))
]

pub named_kind : (x : ℕ) (ns : List Node) → named x ns ≡ true → IsSome (kind_of ns x)
named_kind x [] h = clash false h refl
named_kind x (n ∷ ns) h = elim (cases_Bool (nat_eq x n.number)) [
  | inl y ↦ subst IsSome (sym (ap (λ b. kind_at (cond b (n ∷ ns) (from_number x ns))) y)) refl
  | inr z ↦ subst IsSome (sym (ap (λ b. kind_at (cond b (n ∷ ns) (from_number x ns))) z)) (named_kind x ns (sym (ap (λ b. b || named x ns) z) ∙ h))
]

-- facts of each element

pub all_map : {X : Type 0} (P Q : X → Type 0) (xs : List X) → ((x : X) → P x → Q x) → AllByRecursion P xs → AllByRecursion Q xs
all_map P Q [] f all = tt
all_map P Q (x ∷ xs) f all = (f x all.0, all_map P Q xs f all.1)

pub all_append : {X : Type 0} (P : X → Type 0) (xs ys : List X) → AllByRecursion P xs → AllByRecursion P ys → AllByRecursion P (xs ++ ys)
all_append P [] ys a b = b
all_append P (x ∷ xs) ys a b = (a.0, all_append P xs ys a.1 b)

pub all_has : (P : ℕ → Type 0) (x : ℕ) (xs : List ℕ) → AllByRecursion P xs → has x xs ≡ true → P x
all_has P x [] all h = clash false h refl
all_has P x (y ∷ xs) all h = elim (cases_Bool (nat_eq x y)) [
  | inl t ↦ subst P (sym (eqb-true x y t)) all.0
  | inr f ↦ all_has P x xs all.1 (sym (ap (λ b. b || has x xs) f) ∙ h)
]

pub has_self : (x : ℕ) (xs : List ℕ) → has x (x ∷ xs) ≡ true
has_self x xs = or_left (nat_eq x x) (has x xs) (eq-eqb x x refl)

pub has_more : (x : ℕ) (xs ys : List ℕ) → has x xs ≡ true → has x (xs ++ ys) ≡ true
has_more x xs ys h = has_append x xs ys ∙ or_left (has x xs) (has x ys) h

append_assoc_cons : (xs ys : List ℕ) (x : ℕ) → xs ++ (x ∷ ys) ≡ (xs ++ x ∷ []) ++ ys
append_assoc_cons [] ys x = refl
append_assoc_cons (y ∷ xs) ys x = ap (λ r. y ∷ r) (append_assoc_cons xs ys x)

append_twice : (xs ys zs : List ℕ) → (xs ++ ys) ++ zs ≡ xs ++ (ys ++ zs)
append_twice [] ys zs = refl
append_twice (x ∷ xs) ys zs = ap (λ r. x ∷ r) (append_twice xs ys zs)

-- one end more is marked
pub part_more : (ends left : List ℕ) (before mid after : MarkList) (start steps steps' x : ℕ) → IsPart ends (x ∷ left) before mid start steps → after ≡ record mid { nodes = cond (has x mid.nodes) mid.nodes (mid.nodes ++ x ∷ []) } → steps' ≡ steps + 1 → IsPart ends left before after start steps'
part_more ends left before mid after start steps steps' x part is one =
    let s = part.spread in
    let nodes : after.nodes ≡ cond (has x mid.nodes) mid.nodes (mid.nodes ++ x ∷ []) = ap (λ (m : MarkList). m.nodes) is in
    let among_x : has x ends ≡ true = ap (has x) (sym part.split) ∙ has_append x part.done (x ∷ left) ∙ or_right (has x part.done) (has x (x ∷ left)) (has_self x left) in
    let low : after.lowest ≡ before.lowest = ap (λ (m : MarkList). m.lowest) is ∙ s.lowest in
    let high : after.beyond ≡ before.beyond = ap (λ (m : MarkList). m.beyond) is ∙ s.beyond in
    let split : (part.done ++ x ∷ []) ++ left ≡ ends = sym (append_assoc_cons part.done left x) ∙ part.split in
    let count : steps' ≡ start + length (part.done ++ x ∷ []) = (let c = part.count in let n = length-append part.done (x ∷ []) in omega arith) in
    elim (cases_Bool (has x mid.nodes)) [
      | inl y ↦
          let same : after.nodes ≡ mid.nodes = nodes ∙ ap (λ b. cond b mid.nodes (mid.nodes ++ x ∷ [])) y in
          record {
            done = part.done ++ x ∷ [];
            split = split;
            spread = record {
              lowest = low;
              beyond = high;
              more = s.more;
              grown = same ∙ s.grown;
              among = s.among;
              all = subst (λ l. AllByRecursion (λ q. has q l ≡ true) (part.done ++ x ∷ [])) (sym same) (all_append (λ q. has q mid.nodes ≡ true) part.done (x ∷ []) s.all (y, tt));
            };
            count = count;
          }
      | inr z ↦
          let more : after.nodes ≡ mid.nodes ++ x ∷ [] = nodes ∙ ap (λ b. cond b mid.nodes (mid.nodes ++ x ∷ [])) z in
          record {
            done = part.done ++ x ∷ [];
            split = split;
            spread = record {
              lowest = low;
              beyond = high;
              more = s.more ++ x ∷ [];
              grown = more ∙ ap (λ l. l ++ x ∷ []) s.grown ∙ append_twice before.nodes s.more (x ∷ []);
              among = all_append (λ q. has q ends ≡ true) s.more (x ∷ []) s.among (among_x, tt);
              all = subst (λ l. AllByRecursion (λ q. has q l ≡ true) (part.done ++ x ∷ [])) (sym more)
                  (all_append (λ q. has q (mid.nodes ++ x ∷ []) ≡ true) part.done (x ∷ [])
                  (all_map (λ q. has q mid.nodes ≡ true) (λ q. has q (mid.nodes ++ x ∷ []) ≡ true) part.done (λ q h. has_more q mid.nodes (x ∷ []) h) s.all)
                  (has_append x mid.nodes (x ∷ []) ∙ or_right (has x mid.nodes) (has x (x ∷ [])) (has_self x []), tt));
            };
            count = count;
          }
    ]

-- an end that is next
pub next_end : (ns : List Node) (q : ℕ) (ends left : List ℕ) (before mid : MarkList) (start steps : ℕ) (x : Seq) (edges : Edges) → IsPart ends left before mid start steps → IsTurn ns q left (Some x) edges → IsPart ends (x.0 ∷ left_of ns q edges.left) before mid start steps
next_end ns q ends left before mid start steps x edges part turn = subst (λ l. IsPart ends l before mid start steps) turn.end part

pub end_among : (ends left : List ℕ) (before mid : MarkList) (start steps x : ℕ) → IsPart ends (x ∷ left) before mid start steps → has x ends ≡ true
end_among ends left before mid start steps x part = ap (has x) (sym part.split) ∙ has_append x part.done (x ∷ left) ∙ or_right (has x part.done) (has x (x ∷ left)) (has_self x left)

pub all_get : (P : ℕ → Type 0) (xs : List ℕ) (i x : ℕ) → AllByRecursion P xs → Some x ≡ slice_get xs i → P x
all_get P [] i x all at = absurd (cc)
all_get P (y ∷ xs) zero x all at = let same : x ≡ y = cc in subst P (sym same) all.0
all_get P (y ∷ xs) (suc i) x all at = all_get P xs i x all.1 at

pub get_within : (xs : List ℕ) (i x : ℕ) → Some x ≡ slice_get xs i → i < length xs
get_within [] i x at = absurd (cc)
get_within (y ∷ xs) zero x at = omega arith
get_within (y ∷ xs) (suc i) x at = let more = get_within xs i x at in omega arith

pub take_next : (xs ys : List ℕ) (i x : ℕ) → Some x ≡ slice_get xs i → take (suc i) (xs ++ ys) ≡ take i xs ++ x ∷ []
take_next [] ys i x at = absurd (cc)
take_next (y ∷ xs) ys zero x at = let same : x ≡ y = cc in ap (λ z. z ∷ []) (sym same)
take_next (y ∷ xs) ys (suc i) x at = ap (λ l. y ∷ l) (take_next xs ys i x at)

take_nothing : (i : ℕ) → take {A = ℕ} i [] ≡ []
take_nothing zero = refl
take_nothing (suc i) = refl

pub get_none : (xs : List ℕ) (i : ℕ) → None ≡ slice_get xs i → take i xs ≡ xs
get_none [] i at = take_nothing i
get_none (y ∷ xs) zero at = absurd (cc)
get_none (y ∷ xs) (suc i) at = ap (λ l. y ∷ l) (get_none xs i at)

pub cost_push : (ns : List Node) (xs : List ℕ) (x : ℕ) → cost ns (xs ++ x ∷ []) ≡ cost ns xs + (length (ends ns x) + 1)
cost_push ns [] x = omega arith
cost_push ns (y ∷ xs) x = let more = cost_push ns xs x in omega arith

pub closed_more : (ns : List Node) (ms more xs : List ℕ) (x : ℕ) → AreClosed ns ms xs → AllByRecursion (λ q. has q (ms ++ more) ≡ true) (ends ns x) → AreClosed ns (ms ++ more) (xs ++ x ∷ [])
closed_more ns ms more xs x closed here =
    all_append (λ p. AllByRecursion (λ q. has q (ms ++ more) ≡ true) (ends ns p)) xs (x ∷ [])
    (all_map (λ p. AllByRecursion (λ q. has q ms ≡ true) (ends ns p)) (λ p. AllByRecursion (λ q. has q (ms ++ more) ≡ true) (ends ns p)) xs (λ p all. all_map (λ q. has q ms ≡ true) (λ q. has q (ms ++ more) ≡ true) (ends ns p) (λ q h. has_more q ms more h) all) closed)
    (here, tt)

-- closed marks have all that is reached
pub all_reached : (ns : List Node) (m : ℕ) (ms : List ℕ) → has m ms ≡ true → AreClosed ns ms ms → (q : ℕ) → Reached ns m q → has q ms ≡ true
all_reached ns m ms first closed q (itself) = first
all_reached ns m ms first closed q (edge p _ r h) = all_has (λ x. has x ms ≡ true) q (ends ns p) (all_has (λ y. AllByRecursion (λ x. has x ms ≡ true) (ends ns y)) p ms closed (all_reached ns m ms first closed p r)) h
