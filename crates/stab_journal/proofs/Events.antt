-- A list of events under one more event and under a strike.
use Rattle.std.proofs.Common.{◌≡◌, ℕ, zero, suc, ◌+◌, Bool, true, false, cond, not, ◌||◌, nat_eq, List, [], ◌∷◌, ◌++◌, length, Option, Some, None, IsSome, filter, refl, sym, ap, subst, ◌∙◌, arith, add-zero, append_assoc, append-nil}
use Rattle.std.proofs.lemmas.Bool.{eqb-true}
use Rattle.std.specs.Ordering.{nat_cmp}
use Rattle.std.specs.Cmp.{nat_cmp_total, unsigned_tied}
use Rattle.std.specs.List.{slice_get}
use Rattle.std.specs.Option.{option_and_then}
use Rattle.std.specs.FinSet.{FinSet, contains, insert, contains-insert}
use Rattle.std.proofs.lemmas.List.Elements.{filter-append}
use Rattle.stab_journal.specs.declared.event.Label.{Label}
use Rattle.stab_journal.specs.declared.event.What.{What}
use Rattle.stab_journal.specs.declared.event.What.TheVariants.{Step, Undo, Release}
use Rattle.stab_journal.specs.declared.event.Event.{Event}
use Rattle.stab_journal.specs.declared.event.Numbered.{Numbered}
use Rattle.stab_journal.specs.Event.{IsEvent, AreEvents, label_of}
use Rattle.stab_journal.specs.Journal.{Journal, label_at, IsValid, step_at, survivors_from}

pub next_place : (q n : ℕ) → q + suc n ≡ suc q + n
next_place q n = omega arith

-- one more event that may stand there
pub AreEvents-push : (q : ℕ) (es : List Event) (e : Event) → AreEvents q es → IsEvent (q + length es) e → AreEvents q (es ++ e ∷ [])
AreEvents-push q [] e are is = (subst (λ n. IsEvent n e) (add-zero q) is, tt)
AreEvents-push q (x ∷ es) e are is = (are.0, AreEvents-push (suc q) es e are.1 (subst (λ n. IsEvent n e) (next_place q (length es)) is))

-- an event that is there may stand there
pub AreEvents-at : (q : ℕ) (es : List Event) (i : ℕ) (e : Event) → AreEvents q es → slice_get es i ≡ Some e → IsEvent (q + i) e
AreEvents-at q [] i e are at = cc
AreEvents-at q (x ∷ es) zero e are at = let same : x ≡ e = cc in subst (IsEvent (q + 0)) same (subst (λ n. IsEvent n x) (sym (add-zero q)) are.0)
AreEvents-at q (x ∷ es) (suc i) e are at = subst (λ n. IsEvent n e) (sym (next_place q i)) (AreEvents-at (suc q) es i e are.1 at)

abbrev pub label_in : List Event → ℕ → Option Label
label_in es i = option_and_then (λ (e : Event). label_of e.what) (slice_get es i)

labels_stay : (es : List Event) (e : Event) (i : ℕ) → IsSome (label_in es i) → IsSome (label_in (es ++ e ∷ []) i)
labels_stay [] e i is = cc
labels_stay (x ∷ es) e zero is = is
labels_stay (x ∷ es) e (suc i) is = labels_stay es e i is

-- a step keeps its number when an event comes after it
pub label_at-push : (es : List Event) (e : Event) (q : ℕ) → IsSome (label_at es q) → IsSome (label_at (es ++ e ∷ []) q)
label_at-push es e zero is = cc
label_at-push es e (suc i) is = labels_stay es e i is

no_label : (es : List Event) → label_at es (suc (length es)) ≡ None
no_label [] = refl
no_label (e ∷ es) = no_label es

-- the next number isn't struck
pub next_not_struck : (j : Journal) → IsValid j → contains j.struck (suc (length j.events)) ≡ false
next_not_struck j valid =
    elim (contains j.struck (suc (length j.events))) as (λ b. contains j.struck (suc (length j.events)) ≡ b → b ≡ false) [
      | true ↦ λ is. let some = valid.steps_only _ is in let none = no_label j.events in cc
      | false ↦ λ _. refl
    ] refl

-- the survivors of a list with one more event
pub survivors_from-push : (struck : FinSet nat_cmp) (q : ℕ) (es : List Event) (e : Event) → survivors_from struck q (es ++ e ∷ []) ≡ survivors_from struck q es ++ cond (contains struck (q + length es)) [] (step_at (q + length es) e.what)
survivors_from-push struck q [] e = rw add-zero (append-nil _)
survivors_from-push struck q (x ∷ es) e =
    ap (λ r. cond (contains struck q) [] (step_at q x.what) ++ r) (survivors_from-push struck (suc q) es e)
    ∙ sym (append_assoc (cond (contains struck q) [] (step_at q x.what)) (survivors_from struck (suc q) es) _)
    ∙ ap (λ n. (cond (contains struck q) [] (step_at q x.what) ++ survivors_from struck (suc q) es) ++ cond (contains struck n) [] (step_at n e.what)) (sym (next_place q (length es)))

abbrev pub is_other : ℕ → Numbered → Bool
is_other m n = not (nat_eq n.seq.0 m)

nothing : (b : Bool) → cond {A = List Numbered} (b || false) [] [] ≡ []
nothing true = refl
nothing false = refl

unstruck : (m q : ℕ) (w : What) → cond (nat_eq q m || false) [] (step_at q w) ≡ filter (is_other m) (step_at q w)
unstruck m q (Step l) = elim (nat_eq q m) as (λ b. cond (b || false) [] (step_at q (Step l)) ≡ cond (not b) (step_at q (Step l)) []) [ true ↦ refl | false ↦ refl ]
unstruck m q (Undo t n) = nothing (nat_eq q m)
unstruck m q (Release k) = nothing (nat_eq q m)

one_struck : (m q : ℕ) (b : Bool) (w : What) → cond (nat_eq q m || b) [] (step_at q w) ≡ filter (is_other m) (cond b [] (step_at q w))
one_struck m q b w =
    elim b as (λ b. cond (nat_eq q m || b) [] (step_at q w) ≡ filter (is_other m) (cond b [] (step_at q w))) [
      | true ↦ elim (nat_eq q m) as (λ c. cond (c || true) [] (step_at q w) ≡ []) [ true ↦ refl | false ↦ refl ]
      | false ↦ unstruck m q w
    ]

pub member_struck : (struck : FinSet nat_cmp) (m q : ℕ) → contains (insert struck m) q ≡ (nat_eq q m || contains struck q)
member_struck struck m q = contains-insert nat_cmp_total struck m q ∙ ap (λ b. b || contains struck q) (unsigned_tied q m)

-- a strike takes one survivor away
pub survivors_from-insert : (struck : FinSet nat_cmp) (m q : ℕ) (es : List Event) → survivors_from (insert struck m) q es ≡ filter (is_other m) (survivors_from struck q es)
survivors_from-insert struck m q [] = refl
survivors_from-insert struck m q (e ∷ es) =
    ap (λ b. cond b [] (step_at q e.what) ++ survivors_from (insert struck m) (suc q) es) (member_struck struck m q)
    ∙ ap (λ r. r ++ survivors_from (insert struck m) (suc q) es) (one_struck m q (contains struck q) e.what)
    ∙ ap (λ r. filter (is_other m) (cond (contains struck q) [] (step_at q e.what)) ++ r) (survivors_from-insert struck m (suc q) es)
    ∙ sym (filter-append (is_other m) (cond (contains struck q) [] (step_at q e.what)) (survivors_from struck (suc q) es))

-- only steps are struck after a strike of a step
pub steps_only-insert : (es : List Event) (struck : FinSet nat_cmp) (m : ℕ) → ((q : ℕ) → contains struck q ≡ true → IsSome (label_at es q)) → IsSome (label_at es m) → (q : ℕ) → contains (insert struck m) q ≡ true → IsSome (label_at es q)
steps_only-insert es struck m all step q is =
    elim (nat_eq q m) as (λ b. nat_eq q m ≡ b → (b || contains struck q) ≡ true → IsSome (label_at es q)) [
      | true ↦ λ same _. subst (λ n. IsSome (label_at es n)) (sym (eqb-true q m same)) step
      | false ↦ λ _ old. all q old
    ] refl (sym (member_struck struck m q) ∙ is)
