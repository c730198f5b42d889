-- The next node of a thread, and the readers before a place.
use Rattle.std.proofs.Common.{◌≡◌, ℕ, suc, ◌+◌, ◌<◌, ◌≤◌, Bool, true, false, cond, ◌&&◌, nat_eq, nat_lt, List, [], ◌∷◌, ◌++◌, length, reverse, filter, map, Option, Some, None, refl, sym, ap, ◌∙◌, arith, inl, inr, eq-eqb}
use Rattle.std.specs.Option.{option_map_or}
use Rattle.std.proofs.lemmas.Bool.{cases_eq, cases_lt, cases_Bool, and_parts}
use Rattle.std.proofs.lemmas.Bool.Decides.{nat_tests}
use Rattle.std.proofs.lemmas.List.{reverse-append}
use Rattle.comm_graph.specs.declared.table.Entry.{Entry}
use Rattle.comm_graph.specs.Node.{Node, acts, touches, reads}
use Rattle.comm_graph.specs.Edge.{next_of, readers_of}
use Rattle.comm_graph.specs.Left.{until}
use Rattle.comm_graph.specs.Table.{entry_at, stands, nodes_of, nodes_behind, in_line, after_of, thread, readers, IsSorted, IsLineOf}
use Rattle.comm_graph.specs.Walk.{acting, IsAhead, nodes_before}
use Rattle.comm_graph.proofs.Tables.{in_range, at_front, at_behind, apart}
use Rattle.comm_graph.proofs.Touches.{acting_touched}
use Rattle.comm_graph.proofs.Joins.{member_range}
use Rattle.comm_graph.proofs.Shrunk.{sorted_tail}

clash : {X : Type 0} (b : Bool) → b ≡ true → b ≡ false → X
clash b t f = absurd (cc)

-- who acts stands in the thread's line
acts_stands : (t : ℕ) (o : Option Entry) → option_map_or (λ e. e.live && acts t e.kind) o false ≡ true → option_map_or (stands (thread t)) o false ≡ true
acts_stands t None h = h
acts_stands t (Some e) h = let p = and_parts e.live (acts t e.kind) h in ap (λ b. b && touches t e.kind) p.0 ∙ acting_touched t e.kind p.1

outside : (t : ℕ) (es : List Entry) (g k : ℕ) → in_line (thread t) es g k ≡ false → acting t es g k ≡ false
outside t es g k out = elim (cases_Bool (acting t es g k)) [ inl y ↦ clash (in_line (thread t) es g k) (acts_stands t (entry_at es g k) y) out | inr n ↦ n ]

nobody : (t : ℕ) (es : List Entry) (g k : ℕ) → g + length es < k → acting t es g k ≡ false
nobody t es g k far = elim (cases_Bool (acting t es g k)) [ inl y ↦ (let r = member_range (thread t) es g k (acts_stands t (entry_at es g k) y) in absurd (omega arith)) | inr n ↦ n ]

-- the next one of the thread's line
pub ahead_in_line : (es : List Entry) (g threads t p last v : ℕ) → IsLineOf es g (thread t) last → in_line (thread t) es g p ≡ true → v ≡ after_of (thread t) es g p → IsAhead es g threads t p v
ahead_in_line es g threads t p last v line mem is =
    let a = line.on p mem in
    record {
      none = λ z k lt. outside t es g k (a.end (sym is ∙ z) k lt);
      between = λ k lt lv. outside t es g k (a.none k lt (omega arith));
      within = λ pos. let w = a.there (omega arith) in let r = member_range (thread t) es g (after_of (thread t) es g p) w.1 in (omega (arith, w.0), omega (arith, r.1));
      line = λ pos _. let w = a.there (omega arith) in ap (in_line (thread t) es g) is ∙ w.1;
    }

pub ahead_none : (es : List Entry) (g threads t p : ℕ) → g + length es ≤ p → IsAhead es g threads t p 0
ahead_none es g threads t p far = record {
  none = λ _ k lt. nobody t es g k (omega arith);
  between = λ k lo hi. absurd (omega arith);
  within = λ pos. absurd (omega arith);
  line = λ pos _. absurd (omega arith);
}

-- one that doesn't act is passed
pub ahead_more : (es : List Entry) (g threads t p v w : ℕ) → IsAhead es g threads t p v → 0 < v → acting t es g v ≡ false → IsAhead es g threads t v w → IsAhead es g threads t p w
ahead_more es g threads t p v w a pos dead b =
    let i = a.within pos in
    record {
      none = λ z k lt. elim (cases_eq k v) [ inl s ↦ ap (acting t es g) s ∙ dead | inr n ↦ elim (cases_lt k v) [ inl kv ↦ a.between k lt kv | inr vk ↦ b.none z k (omega arith) ] ];
      between = λ k lt kw. elim (cases_eq k v) [ inl s ↦ ap (acting t es g) s ∙ dead | inr n ↦ elim (cases_lt k v) [ inl kv ↦ a.between k lt kv | inr vk ↦ b.between k (omega arith) kw ] ];
      within = λ pos2. let j = b.within pos2 in (omega (arith, i.0, j.0), j.1);
      line = b.line;
    }

live_next : (t : ℕ) (e : Entry) (ns : List Node) → (e.live && acts t e.kind) ≡ true → next_of t (cond e.live (record { number = e.number.0; kind = e.kind } ∷ ns) ns) ≡ e.number.0 ∷ []
live_next t e ns h =
    let p = and_parts e.live (acts t e.kind) h in
    ap (λ b. next_of t (cond b (record { number = e.number.0; kind = e.kind } ∷ ns) ns)) p.0 ∙ ap (λ b. cond b (e.number.0 ∷ []) (next_of t ns)) p.1

dead_next : (t : ℕ) (e : Entry) (ns : List Node) → (e.live && acts t e.kind) ≡ false → next_of t (cond e.live (record { number = e.number.0; kind = e.kind } ∷ ns) ns) ≡ next_of t ns
dead_next t e ns h = elim (cases_Bool e.live) [
  | inl y ↦ ap (λ b. next_of t (cond b (record { number = e.number.0; kind = e.kind } ∷ ns) ns)) y ∙ ap (λ b. cond b (e.number.0 ∷ []) (next_of t ns)) (sym (ap (λ b. b && acts t e.kind) y) ∙ h)
  | inr n ↦ ap (λ b. next_of t (cond b (record { number = e.number.0; kind = e.kind } ∷ ns) ns)) n
]

at_tail : (t : ℕ) (x : Entry) (es : List Entry) (g k : ℕ) → suc g < k → acting t (x ∷ es) g k ≡ acting t es (suc g) k
at_tail t x es g k lt = ap (λ o. option_map_or (λ e. e.live && acts t e.kind) o false) (at_behind x es g k lt)

at_head : (t : ℕ) (x : Entry) (es : List Entry) (g : ℕ) → acting t (x ∷ es) g (suc g) ≡ (x.live && acts t x.kind)
at_head t x es g = ap (λ o. option_map_or (λ e. e.live && acts t e.kind) o false) (at_front x es g (suc g) refl)

-- the first one of all entries that acts
first_acting : (t : ℕ) (es : List Entry) (g v : ℕ) (e : Entry) → ((k : ℕ) → g < k → k < v → acting t es g k ≡ false) → entry_at es g v ≡ Some e → (e.live && acts t e.kind) ≡ true → next_of t (nodes_of es) ≡ e.number.0 ∷ []
first_acting t [] g v e none at h = absurd (cc)
first_acting t (x ∷ es) g v e none at h = elim (cases_eq v (suc g)) [
  | inl s ↦
      let both : Some x ≡ Some e = sym (at_front x es g v s) ∙ at in
      let same : x ≡ e = cc in
      live_next t x (nodes_of es) (ap (λ (y : Entry). y.live && acts t y.kind) same ∙ h) ∙ ap (λ (y : Entry). y.number.0 ∷ []) same
  | inr n ↦
      let r = in_range (x ∷ es) g v e at in
      let at2 : entry_at es (suc g) v ≡ Some e = sym (at_behind x es g v (omega arith)) ∙ at in
      dead_next t x (nodes_of es) (sym (at_head t x es g) ∙ none (suc g) (omega arith) (omega arith))
      ∙ first_acting t es (suc g) v e (λ k lo hi. sym (at_tail t x es g k lo) ∙ none k (omega arith) hi) at2 h
]

none_acting : (t : ℕ) (es : List Entry) (g : ℕ) → ((k : ℕ) → g < k → acting t es g k ≡ false) → next_of t (nodes_of es) ≡ []
none_acting t [] g none = refl
none_acting t (x ∷ es) g none =
    dead_next t x (nodes_of es) (sym (at_head t x es g) ∙ none (suc g) (omega arith))
    ∙ none_acting t es (suc g) (λ k lo. sym (at_tail t x es g k lo) ∙ none k (omega arith))

behind_skip : (x : Entry) (es : List Entry) (g p : ℕ) → suc g < p → nodes_behind (x ∷ es) g p ≡ nodes_behind es (suc g) p
behind_skip x es g p lt = ap (λ b. cond b (nodes_of es) (nodes_behind es (suc g) p)) (apart p (suc g) (λ s. omega arith))

behind_here : (x : Entry) (es : List Entry) (g p : ℕ) → p ≡ suc g → nodes_behind (x ∷ es) g p ≡ nodes_of es
behind_here x es g p s = ap (λ b. cond b (nodes_of es) (nodes_behind es (suc g) p)) (eq-eqb p (suc g) s)

-- the first one behind a place that acts
pub next_at : (t : ℕ) (es : List Entry) (g p v : ℕ) (e : Entry) → g < p → p ≤ g + length es → p < v → ((k : ℕ) → p < k → k < v → acting t es g k ≡ false) → entry_at es g v ≡ Some e → (e.live && acts t e.kind) ≡ true → next_of t (nodes_behind es g p) ≡ e.number.0 ∷ []
next_at t [] g p v e lo hi pv none at h = absurd (cc)
next_at t (x ∷ es) g p v e lo hi pv none at h =
    let at2 : entry_at es (suc g) v ≡ Some e = sym (at_behind x es g v (omega arith)) ∙ at in
    elim (cases_eq p (suc g)) [
      | inl s ↦ ap (next_of t) (behind_here x es g p s) ∙ first_acting t es (suc g) v e (λ k lk kv. sym (at_tail t x es g k lk) ∙ none k (omega arith) kv) at2 h
      | inr n ↦ ap (next_of t) (behind_skip x es g p (omega arith)) ∙ next_at t es (suc g) p v e (omega arith) (omega arith) pv (λ k lk kv. sym (at_tail t x es g k (omega arith)) ∙ none k lk kv) at2 h
    ]

pub next_none : (t : ℕ) (es : List Entry) (g p : ℕ) → g < p → p ≤ g + length es → ((k : ℕ) → p < k → acting t es g k ≡ false) → next_of t (nodes_behind es g p) ≡ []
next_none t [] g p lo hi none = refl
next_none t (x ∷ es) g p lo hi none = elim (cases_eq p (suc g)) [
  | inl s ↦ ap (next_of t) (behind_here x es g p s) ∙ none_acting t es (suc g) (λ k lk. sym (at_tail t x es g k lk) ∙ none k (omega arith))
  | inr n ↦ ap (next_of t) (behind_skip x es g p (omega arith)) ∙ next_none t es (suc g) p (omega arith) (omega arith) (λ k lk. sym (at_tail t x es g k (omega arith)) ∙ none k lk)
]

pub both_true : (a b : Bool) → a ≡ true → b ≡ true → (a && b) ≡ true
both_true a b x y = ap (λ c. c && b) x ∙ y

pub one_false : (a b : Bool) → a ≡ false → (a && b) ≡ false
one_false a b x = ap (λ c. c && b) x

pub other_false : (a b : Bool) → b ≡ false → (a && b) ≡ false
other_false a b y = elim (cases_Bool a) [ inl t ↦ ap (λ c. c && b) t ∙ y | inr f ↦ ap (λ c. c && b) f ]

-- the nodes before a node are those before its place
before_skip : (x : Entry) (es : List Entry) (g p : ℕ) → suc g < p → nodes_before (x ∷ es) g p ≡ cond x.live (record { number = x.number.0; kind = x.kind } ∷ nodes_before es (suc g) p) (nodes_before es (suc g) p)
before_skip x es g p lt =
    let test : nat_lt (suc g) p ≡ true = grind (arith, nat_tests) in
    ap (λ b. cond b (cond x.live (record { number = x.number.0; kind = x.kind } ∷ nodes_before es (suc g) p) (nodes_before es (suc g) p)) []) test

before_here : (x : Entry) (es : List Entry) (g p : ℕ) → p ≤ suc g → nodes_before (x ∷ es) g p ≡ []
before_here x es g p le =
    let test : nat_lt (suc g) p ≡ false = grind (arith, nat_tests) in
    ap (λ b. cond b (cond x.live (record { number = x.number.0; kind = x.kind } ∷ nodes_before es (suc g) p) (nodes_before es (suc g) p)) []) test

until_cond : (q : ℕ) (b : Bool) (n : Node) (ns ms : List Node) → (b ≡ true → nat_eq q n.number ≡ false) → until q ns ≡ ms → until q (cond b (n ∷ ns) ns) ≡ cond b (n ∷ ms) ms
until_cond q true n ns ms ne more = ap (λ c. cond c [] (n ∷ until q ns)) (ne refl) ∙ ap (λ l. n ∷ l) more
until_cond q false n ns ms ne more = more

pub until_place : (es : List Entry) (g p q : ℕ) (e : Entry) → IsSorted es g → entry_at es g p ≡ Some e → e.live ≡ true → e.number.0 ≡ q → until q (nodes_of es) ≡ nodes_before es g p
until_place [] g p q e s at live num = absurd (cc)
until_place (x ∷ es) g p q e s at live num = elim (cases_eq p (suc g)) [
  | inl here ↦
      let both : Some x ≡ Some e = sym (at_front x es g p here) ∙ at in
      let same : x ≡ e = cc in
      let n : Node = record { number = x.number.0; kind = x.kind } in
      ap (λ b. until q (cond b (n ∷ nodes_of es) (nodes_of es))) (ap (λ (y : Entry). y.live) same ∙ live)
      ∙ ap (λ b. cond b [] (n ∷ until q (nodes_of es))) (eq-eqb q x.number.0 (sym num ∙ sym (ap (λ (y : Entry). y.number.0) same)))
      ∙ sym (before_here x es g p (omega arith))
  | inr there ↦
      let at2 : entry_at es (suc g) p ≡ Some e = sym (ap (λ b. cond b (Some x) (entry_at es (suc g) p)) (apart p (suc g) there)) ∙ at in
      let r = in_range es (suc g) p e at2 in
      let lt = s.rise (suc g) p x e (at_front x es g (suc g) refl) at r.0 in
      until_cond q x.live (record { number = x.number.0; kind = x.kind }) (nodes_of es) (nodes_before es (suc g) p) (λ _. apart q x.number.0 (λ t. omega arith)) (until_place es (suc g) p q e (sorted_tail x es g s) at2 live num)
      ∙ sym (before_skip x es g p r.0)
]

-- before a place behind the end stand all
pub before_all : (es : List Entry) (g p : ℕ) → g + length es < p → nodes_before es g p ≡ nodes_of es
before_all [] g p lt = refl
before_all (x ∷ es) g p lt = before_skip x es g p (omega arith) ∙ ap (λ ns. cond x.live (record { number = x.number.0; kind = x.kind } ∷ ns) ns) (before_all es (suc g) p (omega arith))

reads_cond : (q : ℕ) (x : Entry) (ns : List Node) → (x.live && reads q x.kind) ≡ false → readers_of q (cond x.live (record { number = x.number.0; kind = x.kind } ∷ ns) ns) ≡ readers_of q ns
reads_cond q x ns h = elim (cases_Bool x.live) [
  | inl y ↦
      ap (λ b. readers_of q (cond b (record { number = x.number.0; kind = x.kind } ∷ ns) ns)) y
      ∙ ap (λ b. map (λ (n : Node). n.number) (cond b (record { number = x.number.0; kind = x.kind } ∷ filter (λ (n : Node). reads q n.kind) ns) (filter (λ (n : Node). reads q n.kind) ns))) (sym (ap (λ b. b && reads q x.kind) y) ∙ h)
  | inr n ↦ ap (λ b. readers_of q (cond b (record { number = x.number.0; kind = x.kind } ∷ ns) ns)) n
]

reads_more : (q : ℕ) (x : Entry) (ns : List Node) → (x.live && reads q x.kind) ≡ true → readers_of q (cond x.live (record { number = x.number.0; kind = x.kind } ∷ ns) ns) ≡ x.number.0 ∷ readers_of q ns
reads_more q x ns h =
    let p = and_parts x.live (reads q x.kind) h in
    ap (λ b. readers_of q (cond b (record { number = x.number.0; kind = x.kind } ∷ ns) ns)) p.0
    ∙ ap (λ b. map (λ (n : Node). n.number) (cond b (record { number = x.number.0; kind = x.kind } ∷ filter (λ (n : Node). reads q n.kind) ns) (filter (λ (n : Node). reads q n.kind) ns))) p.1

reader_tail : (q : ℕ) (x : Entry) (es : List Entry) (g k : ℕ) → suc g < k → in_line (readers q) (x ∷ es) g k ≡ in_line (readers q) es (suc g) k
reader_tail q x es g k lt = ap (λ o. option_map_or (stands (readers q)) o false) (at_behind x es g k lt)

reader_head : (q : ℕ) (x : Entry) (es : List Entry) (g : ℕ) → in_line (readers q) (x ∷ es) g (suc g) ≡ (x.live && reads q x.kind)
reader_head q x es g = ap (λ o. option_map_or (stands (readers q)) o false) (at_front x es g (suc g) refl)

-- no reader before a place
pub no_readers : (q : ℕ) (es : List Entry) (g k : ℕ) → ((j : ℕ) → g < j → j < k → in_line (readers q) es g j ≡ false) → readers_of q (nodes_before es g k) ≡ []
no_readers q [] g k none = refl
no_readers q (x ∷ es) g k none = elim (cases_lt (suc g) k) [
  | inl lt ↦
      ap (readers_of q) (before_skip x es g k lt)
      ∙ reads_cond q x (nodes_before es (suc g) k) (sym (reader_head q x es g) ∙ none (suc g) (omega arith) lt)
      ∙ no_readers q es (suc g) k (λ j lo hi. sym (reader_tail q x es g j lo) ∙ none j (omega arith) hi)
  | inr ge ↦ ap (readers_of q) (before_here x es g k ge)
]

-- the readers before a place are those before the last of them, and that one
pub more_readers : (q : ℕ) (es : List Entry) (g k v : ℕ) (e : Entry) → v < k → ((j : ℕ) → v < j → j < k → in_line (readers q) es g j ≡ false) → entry_at es g v ≡ Some e → (e.live && reads q e.kind) ≡ true → readers_of q (nodes_before es g k) ≡ readers_of q (nodes_before es g v) ++ e.number.0 ∷ []
more_readers q [] g k v e vk none at h = absurd (cc)
more_readers q (x ∷ es) g k v e vk none at h =
    let r = in_range (x ∷ es) g v e at in
    elim (cases_eq v (suc g)) [
      | inl s ↦
          let both : Some x ≡ Some e = sym (at_front x es g v s) ∙ at in
          let same : x ≡ e = cc in
          ap (readers_of q) (before_skip x es g k (omega arith))
          ∙ reads_more q x (nodes_before es (suc g) k) (ap (λ (y : Entry). y.live && reads q y.kind) same ∙ h)
          ∙ ap (λ (y : Entry). y.number.0 ∷ readers_of q (nodes_before es (suc g) k)) same
          ∙ ap (λ l. e.number.0 ∷ l) (no_readers q es (suc g) k (λ j lo hi. sym (reader_tail q x es g j lo) ∙ none j (omega arith) hi))
          ∙ sym (ap (λ l. readers_of q l ++ e.number.0 ∷ []) (before_here x es g v (omega arith)))
      | inr n ↦
          let at2 : entry_at es (suc g) v ≡ Some e = sym (at_behind x es g v (omega arith)) ∙ at in
          let more = more_readers q es (suc g) k v e vk (λ j lo hi. sym (reader_tail q x es g j (omega arith)) ∙ none j lo hi) at2 h in
          ap (readers_of q) (before_skip x es g k (omega arith))
          ∙ elim (cases_Bool (x.live && reads q x.kind)) [
            | inl y ↦ reads_more q x (nodes_before es (suc g) k) y ∙ ap (λ l. x.number.0 ∷ l) more ∙ ap (λ l. l ++ e.number.0 ∷ []) (sym (ap (readers_of q) (before_skip x es g v (omega arith)) ∙ reads_more q x (nodes_before es (suc g) v) y))
            | inr z ↦ reads_cond q x (nodes_before es (suc g) k) z ∙ more ∙ ap (λ l. l ++ e.number.0 ∷ []) (sym (ap (readers_of q) (before_skip x es g v (omega arith)) ∙ reads_cond q x (nodes_before es (suc g) v) z))
          ]
    ]

pub last_first : (xs : List ℕ) (x : ℕ) → reverse (xs ++ x ∷ []) ≡ x ∷ reverse xs
last_first xs x = reverse-append xs (x ∷ [])
