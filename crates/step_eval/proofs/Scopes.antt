-- The scopes of a form's parts, and the values of variables in them.
use Rattle.std.proofs.Common.{◌≡◌, ◌⊎◌, inl, inr, ℕ, zero, suc, ◌+◌, ◌-◌, ◌<◌, ◌≤◌, ◌==◌, nat_eq, not, Bool, true, false, cond, List, [], ◌∷◌, ◌++◌, length, slice_get, replicate, Option, Some, None, get_or, refl, ap, sym, ◌∙◌, subst, arith, length-append}
use Rattle.std.specs.List.{All, filter}
use Rattle.std.proofs.lemmas.Bool.{eqb-true}
use Rattle.std.proofs.lemmas.Bool.Decides.{eqb_tells}
use Rattle.std.proofs.lemmas.List.{length-replicate}
use Rattle.std.proofs.lemmas.List.Elements.{All-cons, All-head, All-nil, All-tail}
use Rattle.std.proofs.lemmas.Option.{slice_get_cases, slice_get_past}
use Rattle.stab_base.specs.Datum.{Datum, unit}
use Rattle.stab_code.specs.declared.head.Head.{Head}
use Rattle.stab_code.specs.declared.head.Head.TheVariants.{Unit, Truth, Int, Text, Var, Block}
use Rattle.stab_code.specs.declared.node_id.NodeId.{NodeId}
use Rattle.stab_code.specs.Heads.{slots_of, variable_of}
use Rattle.stab_code.specs.Program.{ProgramParts, tree_at, trees_at}
use Rattle.stab_code.specs.Syntax.{left_open, lets_from, lets_of, one_or_none, open_from, open_in, with_own, without}
use Rattle.stab_code.specs.Trees.{Tree, Trees, tree, none, more, fold_all}
use Rattle.stab_code.proofs.Lists.{All-left, All-right, slice_get-left, slice_get-right}
use Rattle.language.specs.declared.head.Head.TheVariants as head
use Rattle.language.specs.Expression.{form, only, put, put_parts, put_variable, part}
use Rattle.language.specs.Program.{expr_of, exprs_of}
use Rattle.step_eval.specs.Meaning.{head_of}
use Rattle.step_eval.specs.Scoped.{bound, IsScoped, SlotsRise}

rise-less : (a b : ℕ) (xs : List ℕ) → b ≤ a → SlotsRise a xs → SlotsRise b xs
rise-less a b [] h r = tt
rise-less a b (x ∷ xs) h r = (let least : a ≤ x = r.0 in omega arith, r.1)

rise-left : (a : ℕ) (xs ys : List ℕ) → SlotsRise a (xs ++ ys) → SlotsRise a xs
rise-left a [] ys r = tt
rise-left a (x ∷ xs) ys r = (r.0, rise-left (x + 1) xs ys r.1)

rise-right : (a : ℕ) (xs ys : List ℕ) → SlotsRise a (xs ++ ys) → SlotsRise a ys
rise-right a [] ys r = r
rise-right a (x ∷ xs) ys r = rise-less (x + 1) a ys (let least : a ≤ x = r.0 in omega arith) (rise-right (x + 1) xs ys r.1)

rise-all : (a : ℕ) (xs : List ℕ) → SlotsRise a xs → All (λ x. a ≤ x) xs
rise-all a [] r = All-nil (λ x. a ≤ x)
rise-all a (x ∷ xs) r = All-cons (λ y. a ≤ y) x xs r.0 (rise-all a xs (rise-less (x + 1) a xs (let least : a ≤ x = r.0 in omega arith) r.1))

weaker : (P Q : ℕ → Type 0) (xs : List ℕ) → ((x : ℕ) → P x → Q x) → All P xs → All Q xs
weaker P Q xs f all = λ k d h. f _ (all k d h)

-- what the values by slots have to do with parts, the first of which have lets
pub record AreScoped (size : ℕ) (own : List (Option ℕ)) (ts : Trees) : Type 0 where
  pub seen : All (λ slot. slot < size) (left_open own (fold_all open_from ts))
  pub ahead : SlotsRise size (with_own own (fold_all lets_from ts))

pub parts-scoped : (size : ℕ) (h : Head) (ts : Trees) → IsScoped size (tree h ts) → AreScoped size (slots_of h) ts
parts-scoped size h ts s = record { seen = All-right (λ slot. slot < size) (one_or_none (variable_of h)) (left_open (slots_of h) (fold_all open_from ts)) s.seen; ahead = s.ahead }

pub first-scoped : (size : ℕ) (own : List (Option ℕ)) (t : Tree) (ts : Trees) → AreScoped size own (more t ts) → IsScoped size t
first-scoped size [] t ts s = record { seen = All-left (λ slot. slot < size) (open_in t) _ s.seen; ahead = rise-left size (lets_of t) _ s.ahead }
first-scoped size (None ∷ own) t ts s = record { seen = All-left (λ slot. slot < size) (open_in t) _ s.seen; ahead = rise-left size (lets_of t) _ s.ahead }
first-scoped size (Some x ∷ own) t ts s = record {
  seen = All-left (λ slot. slot < size) (open_in t) _ s.seen;
  ahead = rise-left size (lets_of t) _ (rise-less (x + 1) size _ (let least : size ≤ x = s.ahead.0 in omega arith) s.ahead.1);
}

pub part-scoped : (p : ProgramParts) (size : ℕ) (ns : List NodeId) (k : ℕ) (q : NodeId) → AreScoped size [] (trees_at p ns) → slice_get ns k ≡ Some q → IsScoped size (tree_at p q)
part-scoped p size [] k q s e = cc
part-scoped p size (n ∷ ns) zero q s e =
    let same : n ≡ q = cc in
    subst (λ (m : NodeId). IsScoped size (tree_at p m)) same (first-scoped size [] (tree_at p n) (trees_at p ns) s)
part-scoped p size (n ∷ ns) (suc k) q s e =
    part-scoped p size ns k q (record {
      seen = All-right (λ slot. slot < size) (open_in (tree_at p n)) _ s.seen;
      ahead = rise-right size (lets_of (tree_at p n)) _ s.ahead;
    }) e

not_false : (b : Bool) → not b ≡ false → b ≡ true
not_false true e = refl
not_false false e = cc

kept-by : (P : ℕ → Type 0) (b : Bool) (y : ℕ) (ys : List ℕ) → (b ≡ false → P y) → All P (cond b (y ∷ ys) ys) → P y × All P ys
kept-by P true y ys out all = (All-head P y ys all, All-tail P y ys all)
kept-by P false y ys out all = (out refl, all)

with_slot : (P : ℕ → Type 0) (x : ℕ) → P x → (xs : List ℕ) → All P (without (Some x) xs) → All P xs
with_slot P x here [] all = All-nil P
with_slot P x here (y ∷ ys) all =
    let both = kept-by P (not (y == x)) y (filter (λ slot. not (slot == x)) ys) (λ e. subst P (sym (eqb-true y x (not_false (y == x) e))) here) all in
    All-cons P y ys both.0 (with_slot P x here ys both.1)

-- the parts behind an item, whose value is bound
pub rest-scoped : (size : ℕ) (own : List (Option ℕ)) (t : Tree) (ts : Trees) → AreScoped size (None ∷ own) (more t ts) → AreScoped size own ts
rest-scoped size own t ts s = record {
  seen = All-right (λ slot. slot < size) (open_in t) _ s.seen;
  ahead = rise-right size (lets_of t) _ s.ahead;
}

pub bound-scoped : (size x : ℕ) (own : List (Option ℕ)) (t : Tree) (ts : Trees) → AreScoped size (Some x ∷ own) (more t ts) → AreScoped (x + 1) own ts
bound-scoped size x own t ts s =
    let least : size ≤ x = s.ahead.0 in
    let rest : All (λ slot. slot < size) (without (Some x) (left_open own (fold_all open_from ts))) = All-right (λ slot. slot < size) (open_in t) _ s.seen in
    record {
      seen = with_slot (λ slot. slot < x + 1) x (omega arith) (left_open own (fold_all open_from ts)) (weaker (λ slot. slot < size) (λ slot. slot < x + 1) _ (λ y h. omega arith) rest);
      ahead = rise-right (x + 1) (lets_of t) _ s.ahead.1;
    }

pub slot-ahead : (size x : ℕ) (own : List (Option ℕ)) (t : Tree) (ts : Trees) → AreScoped size (Some x ∷ own) (more t ts) → size ≤ x
slot-ahead size x own t ts s = s.ahead.0

-- two substitutions that agree on each variable of a form
module _ (P : ℕ → Type 0) (f g h : ℕ → Option Datum) (same : (x : ℕ) → P x → put_variable (f x) x ≡ put h (put_variable (g x) x)) where
  mutual
    put-composed : (t : Tree) → All P (open_in t) → All P (lets_of t) → put f (expr_of t) ≡ put h (put g (expr_of t))
    put-composed (tree Unit ts) seen lets = refl
    put-composed (tree (Truth b) ts) seen lets = refl
    put-composed (tree (Int n) ts) seen lets = refl
    put-composed (tree (Text t) ts) seen lets = refl
    put-composed (tree (Var x) ts) seen lets = same x (All-head P x _ seen)
    put-composed (tree (Block slots) ts) seen lets = ap (form (head.Block slots)) (parts-composed slots ts seen lets)
    put-composed (tree k ts) seen lets = ap (form (head_of k)) (parts-composed [] ts seen lets)

    parts-composed : (own : List (Option ℕ)) (ts : Trees) → All P (left_open own (fold_all open_from ts)) → All P (with_own own (fold_all lets_from ts)) → put_parts f (exprs_of ts) ≡ put_parts h (put_parts g (exprs_of ts))
    parts-composed own none seen lets = refl
    parts-composed [] (more t ts) seen lets =
        ap (λ e. part e (put_parts f (exprs_of ts))) (put-composed t (All-left P (open_in t) _ seen) (All-left P (lets_of t) _ lets)) ∙ ap (part (put h (put g (expr_of t)))) (parts-composed [] ts (All-right P (open_in t) _ seen) (All-right P (lets_of t) _ lets))
    parts-composed (None ∷ own) (more t ts) seen lets =
        ap (λ e. part e (put_parts f (exprs_of ts))) (put-composed t (All-left P (open_in t) _ seen) (All-left P (lets_of t) _ lets)) ∙ ap (part (put h (put g (expr_of t)))) (parts-composed own ts (All-right P (open_in t) _ seen) (All-right P (lets_of t) _ lets))
    parts-composed (Some x ∷ own) (more t ts) seen lets =
        ap (λ e. part e (put_parts f (exprs_of ts))) (put-composed t (All-left P (open_in t) _ seen) (All-left P (lets_of t) _ (All-tail P x _ lets))) ∙ ap (part (put h (put g (expr_of t)))) (parts-composed own ts (with_slot P x (All-head P x _ lets) _ (All-right P (open_in t) _ seen)) (All-right P (lets_of t) _ (All-tail P x _ lets)))

-- a slot is of the values so far, or at the bound one or behind it
abbrev InScope : ℕ → ℕ → ℕ → Type 0
InScope size x y = (y < size) ⊎ (x ≤ y)

pub length-bound : (env : List Datum) (x : ℕ) (v : Datum) → length env ≤ x → length (bound env x v) ≡ x + 1
length-bound env x v h =
    omega (arith, length-append (env ++ replicate (x - length env) unit) (v ∷ []), length-append env (replicate (x - length env) unit), length-replicate (x - length env) unit)

module _ (env : List Datum) (x : ℕ) (v : Datum) (ahead : length env ≤ x) where
  abbrev gap : List Datum
  gap = env ++ replicate (x - length env) unit

  gap-long : length gap ≡ x
  gap-long = omega (arith, length-append env (replicate (x - length env) unit), length-replicate (x - length env) unit)

  inside : (y : ℕ) → y < length env → slice_get (bound env x v) y ≡ slice_get env y
  inside y h = slice_get-left gap (v ∷ []) y (let l : length gap ≡ x = gap-long in omega arith) ∙ slice_get-left env (replicate (x - length env) unit) y h

  at : (y : ℕ) → x ≡ y → slice_get (bound env x v) y ≡ Some v
  at y e = slice_get-right gap (v ∷ []) y 0 (let l : length gap ≡ x = gap-long in omega arith)

  above : (y : ℕ) → x < y → slice_get (bound env x v) y ≡ None
  above y h = slice_get_past (bound env x v) y (let l : length (bound env x v) ≡ x + 1 = length-bound env x v ahead in omega arith)

  at-inside : (y : ℕ) → y < length env → ((u : Datum) × (y < length env) × (slice_get env y ≡ Some u) × (get_or env y u ≡ u)) ⊎ ((length env ≤ y) × (slice_get env y ≡ None)) → put_variable (slice_get (bound env x v) y) y ≡ put (only x v) (put_variable (slice_get env y) y)
  at-inside y h (inl found) = ap (λ o. put_variable o y) (inside y h ∙ found.2) ∙ ap (λ o. put (only x v) (put_variable o y)) (sym found.2)
  at-inside y h (inr past) = let more : length env ≤ y = past.0 in absurd (omega arith)

  at-or-above : (y : ℕ) → x ≤ y → ((nat_eq x y ≡ true) × (x ≡ y)) ⊎ ((nat_eq x y ≡ false) × (x ≡ y → ⊥)) → put_variable (slice_get (bound env x v) y) y ≡ put_variable (only x v y) y
  at-or-above y h (inl same) = ap (λ o. put_variable o y) (at y same.1 ∙ sym (ap (λ b. cond b (Some v) None) same.0))
  at-or-above y h (inr other) = let apart : x ≡ y → ⊥ = other.1 in ap (λ o. put_variable o y) (above y (omega (arith, apart)) ∙ sym (ap (λ b. cond b (Some v) None) other.0))

  bound-at : (y : ℕ) → InScope (length env) x y → put_variable (slice_get (bound env x v) y) y ≡ put (only x v) (put_variable (slice_get env y) y)
  bound-at y (inl h) = at-inside y h (slice_get_cases env y).1
  bound-at y (inr h) =
      let past : length env ≤ y = omega arith in
      at-or-above y h (eqb_tells x y) ∙ ap (λ o. put (only x v) (put_variable o y)) (sym (slice_get_past env y past))

  -- an item's value, put in behind the values of the other variables
  pub put_parts-bound : (own : List (Option ℕ)) (t : Tree) (ts : Trees) → AreScoped (length env) (Some x ∷ own) (more t ts) → put_parts (slice_get (bound env x v)) (exprs_of ts) ≡ put_parts (only x v) (put_parts (slice_get env) (exprs_of ts))
  put_parts-bound own t ts s =
      let P : ℕ → Type 0 = λ (y : ℕ). InScope (length env) x y in
      let seen = with_slot P x (inr (omega arith)) (left_open own (fold_all open_from ts)) (weaker (λ slot. slot < length env) P _ (λ y h. inl h) (All-right (λ slot. slot < length env) (open_in t) _ s.seen)) in
      let rises : SlotsRise (x + 1) (with_own own (fold_all lets_from ts)) = rise-right (x + 1) (lets_of t) _ s.ahead.1 in
      let lets = weaker (λ slot. x + 1 ≤ slot) P _ (λ y h. inr (omega arith)) (rise-all (x + 1) _ rises) in
      parts-composed P (slice_get (bound env x v)) (slice_get env) (only x v) bound-at own ts seen lets
