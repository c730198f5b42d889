-- The count of failed threads, when one touched thread after the other isn't counted any more; and pins among marked nodes.
use Rattle.std.proofs.Common.{◌≡◌, ℕ, ◌+◌, ◌<◌, ◌≤◌, Bool, true, false, not, ◌&&◌, ◌||◌, nat_eq, List, [], ◌∷◌, ◌++◌, length, get_or, take, Option, Some, None, IsSome, refl, sym, ap, subst, ◌∙◌, arith}
use mir.Val.{bool_byte}
use Rattle.std.specs.Prelude.{IfSome, IsSomeAnd}
use Rattle.std.specs.FinMap as map
use Rattle.std.specs.Cmp.{nat_eq_equiv}
use Rattle.std.proofs.lemmas.Bool.{false≢true}
use Rattle.std.proofs.lemmas.List.Folds.{list_any-append}
use Rattle.linked_lists.specs.Lists.{is_listed}
use Rattle.stab_base.specs.declared.numbers.Seq.{Seq}
use Rattle.thread_slots.specs.Ready.{numbers as threads_below}
use Rattle.thread_slots.proofs.Counted.{numbers-same}
use Rattle.comm_graph.specs.declared.node.NodeFor.{NodeFor}
use Rattle.comm_graph.specs.Node.{Node}
use Rattle.comm_graph.specs.Edge.{kind_of}
use Rattle.reach_line.specs.MarkList.{numbers}
use Rattle.reach_line.specs.Reached.{has}
use Rattle.restore.specs.Line.{IsMarkedAs}
use Rattle.restore.specs.Left.{LineMap, is_touched}
use Rattle.restore.proofs.Ordered.{listed_key}
use Rattle.restore.proofs.Marked.{marks_more, none_more, take_marks}
use Rattle.commit_book.specs.Graph.{is_pinned}
use Rattle.commit_book.proofs.Threads.Faulted.{one_if, one_other}

or_no : (b : Bool) → (b || false) ≡ b
or_no true = refl
or_no false = refl

or_true : (b : Bool) → (b || true) ≡ true
or_true true = refl
or_true false = refl

and_true : (b : Bool) → (b && true) ≡ b
and_true true = refl
and_true false = refl

and_no : (b : Bool) → (b && false) ≡ false
and_no true = refl
and_no false = refl

-- ---- the failed threads

-- who passes and isn't listed
abbrev pub uncounted : (ℕ → Bool) → List ℕ → ℕ → Bool
uncounted p ts u = p u && not (is_listed u ts)

pub count_all : (p : ℕ → Bool) (n : ℕ) → length (threads_below p n) ≡ length (threads_below (uncounted p []) n)
count_all p n = ap length (sym (numbers-same p (uncounted p []) n (λ u low. and_true (p u))))

listed_end : (u t : ℕ) (ts : List ℕ) → is_listed u (ts ++ t ∷ []) ≡ (is_listed u ts || nat_eq u t)
listed_end u t ts = list_any-append (nat_eq u) ts (t ∷ []) ∙ ap (λ b. is_listed u ts || b) (or_no (nat_eq u t))

-- with one more listed
pub count_less : (p : ℕ → Bool) (ts : List ℕ) (t n : ℕ) → t < n → is_listed t ts ≡ false → length (threads_below (uncounted p (ts ++ t ∷ [])) n) + one_if (p t) ≡ length (threads_below (uncounted p ts) n)
count_less p ts t n low fresh =
    let sum = one_other (uncounted p ts) (uncounted p (ts ++ t ∷ [])) t n low (λ u apart. ap (λ b. p u && not b) (listed_end u t ts ∙ ap (λ b. is_listed u ts || b) apart ∙ or_no (is_listed u ts))) in
    let was : one_if (uncounted p ts t) ≡ one_if (p t) = ap one_if (ap (λ b. p t && not b) fresh ∙ and_true (p t)) in
    let now : one_if (uncounted p (ts ++ t ∷ []) t) ≡ 0 = ap one_if (ap (λ b. p t && not b) (listed_end t t ts ∙ ap (λ b. is_listed t ts || b) (nat_eq_equiv.refl t) ∙ or_true (is_listed t ts)) ∙ and_no (p t)) in
    omega (arith, sum, was, now)

-- so many have failed of those that are listed
pub none_counted : (p : ℕ → Bool) (n : ℕ) → 0 + length (threads_below (uncounted p []) n) ≡ length (threads_below p n)
none_counted p n = let same = count_all p n in omega (arith, same)

-- one more is listed
pub next_counted : (p : ℕ → Bool) (ts more : List ℕ) (t n k one : ℕ) (b : Bool) → t < n → is_listed t ts ≡ false → more ≡ ts ++ t ∷ [] → b ≡ p t → one ≡ one_if b → k + length (threads_below (uncounted p ts) n) ≡ length (threads_below p n) → k + one + length (threads_below (uncounted p more) n) ≡ length (threads_below p n)
next_counted p ts more t n k one b low fresh is same counts count =
    let sum = count_less p ts t n low fresh in
    let here : one ≡ one_if (p t) = counts ∙ ap one_if same in
    let listed : length (threads_below (uncounted p more) n) ≡ length (threads_below (uncounted p (ts ++ t ∷ [])) n) = ap (λ l. length (threads_below (uncounted p l) n)) is in
    omega (arith, sum, here, count, listed)

pub one_from : (b : Bool) (one : ℕ) → one ≡ bool_byte b → one ≡ one_if b
one_from true one is = is
one_from false one is = is

pub at_most_one : (b : Bool) (one : ℕ) → one ≡ one_if b → one ≤ 1
at_most_one true one is = omega (arith, is)
at_most_one false one is = omega (arith, is)

-- all that have a line are listed
pub all_counted : (lines : LineMap) (p : ℕ → Bool) (n k : ℕ) (ts : List ℕ) → ts ≡ map.keys lines → k + length (threads_below (uncounted p ts) n) ≡ length (threads_below p n) → k + length (threads_below (λ t. p t && not (is_touched lines t)) n) ≡ length (threads_below p n)
all_counted lines p n k ts all count =
    let same : length (threads_below (λ t. p t && not (is_touched lines t)) n) ≡ length (threads_below (uncounted p ts) n) =
    ap length (numbers-same (uncounted p ts) (λ t. p t && not (is_touched lines t)) n (λ t low. ap (λ b. p t && not b) (sym (listed_key lines t) ∙ ap (is_listed t) (sym all)))) in
    omega (arith, same, count)

-- ---- pins

module _ (nodes : List Node) where
  pub pin_marked : (marks : List ℕ) (q : ℕ) (o : Option NodeFor) → has q marks ≡ true → o ≡ kind_of nodes q → IsSomeAnd o (λ k. is_pinned k ≡ true) → (r : ℕ) × IsMarkedAs nodes marks is_pinned r
  pin_marked marks q None marked is some = absurd some
  pin_marked marks q (Some k) marked is some = (q, record { kind = k; marked = marked; there = sym is; passes = some })

  pub no_pin_yet : (q : ℕ) → IsMarkedAs nodes [] is_pinned q → ⊥
  no_pin_yet q is = false≢true is.marked

  pub no_pin_next : (qs : List Seq) (marks : List ℕ) (i : ℕ) (o : Option NodeFor) → i < length qs → numbers qs ≡ marks → IsSome (kind_of nodes (get_or qs i (record { 0 = 0 })).0) → o ≡ kind_of nodes (get_or qs i (record { 0 = 0 })).0 → IfSome o (λ k. is_pinned k ≡ false)
      → ((q : ℕ) → IsMarkedAs nodes (take i marks) is_pinned q → ⊥) → (q : ℕ) → IsMarkedAs nodes (take (i + 1) marks) is_pinned q → ⊥
  no_pin_next qs marks i None low is there at off none q pin = absurd (false≢true (subst (λ p. IsSome p) (sym at) there))
  no_pin_next qs marks i (Some k) low is there at off none q pin =
      none_more nodes (take i marks) (get_or qs i (record { 0 = 0 })).0 k (sym at) is_pinned off none q
      (subst (λ ms. IsMarkedAs nodes ms is_pinned q) (marks_more qs marks i low is) pin)

  pub no_pin_all : (qs : List Seq) (marks : List ℕ) (i : ℕ) → length qs ≤ i → numbers qs ≡ marks → ((q : ℕ) → IsMarkedAs nodes (take i marks) is_pinned q → ⊥) → (q : ℕ) → IsMarkedAs nodes marks is_pinned q → ⊥
  no_pin_all qs marks i high is none q pin = none q (subst (λ ms. IsMarkedAs nodes ms is_pinned q) (sym (take_marks qs marks i high is)) pin)
