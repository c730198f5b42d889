-- Values of the right types in place of variables.
use Rattle.std.proofs.Common.{◌≡◌, ℕ, zero, suc, Bool, true, false, cond, nat_eq, if◌then◌else◌, List, [], ◌∷◌, slice_get, Option, Some, None, refl, sym, ap, subst, ◌∙◌, arith}
use Rattle.std.proofs.lemmas.Bool.{eqb-true}
use Rattle.std.proofs.lemmas.Bool.Decides.{nat_tests}
use Rattle.stab_base.specs.Datum.{Datum}
use Rattle.stab_code.specs.Program.{FunctionParts}
use Rattle.language.specs.Expression.{Expr, value, variable, failed, form, Parts, none, part, put_variable, put, put_parts, only}
use Rattle.stab_types.specs.ExprType.{ExprType}
use Rattle.stab_types.specs.Typed.{Seen, behind}
use Rattle.stab_types.proofs.World.{World, FitsType, AllFit, IsUnder, under_refl}
use Rattle.stab_types.proofs.Running.{Runs, AllRun, slots_in, nothing_seen, runs_under}

pub some_is : {X : Type 0} {a b : X} → Some a ≡ Some b → a ≡ b
some_is h = cc

module _ (functions : List FunctionParts) (w : World) (vs : ℕ → Option Datum) where
  -- the values have the types that variables have in the first, and what has no value is seen in the second as in the first
  pub record ArePut (seen left : Seen) : Type 0 where
    pub free : (x : ℕ) → seen x ≡ None → (vs x ≡ None) × (left x ≡ None)
    pub put : (x : ℕ) (t : ExprType) → seen x ≡ Some t → Runs functions w left (put_variable (vs x) x) t

  free_behind : (t : ExprType) (seen left : Seen) → ArePut seen left → (y : ℕ) (b : Bool) → cond b (Some t) (seen y) ≡ None → (vs y ≡ None) × (cond b (Some t) (left y) ≡ None)
  free_behind t seen left p y true h = absurd (cc)
  free_behind t seen left p y false h = p.free y h

  kept : (x y : ℕ) (t u : ExprType) (left : Seen) (o : Option Datum) → nat_eq y x ≡ false → Runs functions w left (put_variable o y) u → Runs functions w (behind (Some x) t left) (put_variable o y) u
  kept x y t u left (Some v) apart r = r
  kept x y t u left None apart r = (r.0, ap (λ b. cond b (Some t) (left y)) apart ∙ r.1, r.2)

  own : (x y : ℕ) (t u : ExprType) (left : Seen) (o : Option Datum) → o ≡ None → nat_eq y x ≡ true → t ≡ u → Runs functions w (behind (Some x) t left) (put_variable o y) u
  own x y t u left (Some v) e at same = absurd (cc)
  own x y t u left None e at same = (t, ap (λ b. cond b (Some t) (left y)) at, subst (IsUnder t) same (under_refl t))

  put_behind : (x : ℕ) (t : ExprType) (seen left : Seen) → seen x ≡ None → ArePut seen left → (y : ℕ) (u : ExprType) (b : Bool) → nat_eq y x ≡ b → cond b (Some t) (seen y) ≡ Some u →
      Runs functions w (behind (Some x) t left) (put_variable (vs y) y) u
  put_behind x t seen left new p y u true at h = own x y t u left (vs y) (ap vs (eqb-true y x at) ∙ (p.free x new).0) at (some_is h)
  put_behind x t seen left new p y u false at h = kept x y t u left (vs y) at (p.put y u h)

  under_let : (x : ℕ) (t : ExprType) (seen left : Seen) → seen x ≡ None → ArePut seen left → ArePut (behind (Some x) t seen) (behind (Some x) t left)
  under_let x t seen left new p = record {
    free = λ y h. free_behind t seen left p y (nat_eq y x) h;
    put = λ y u h. put_behind x t seen left new p y u (nat_eq y x) refl h;
  }

  mutual
    pub put_runs : (seen left : Seen) → ArePut seen left → (e : Expr) (t : ExprType) → Runs functions w seen e t → Runs functions w left (put vs e) t
    put_runs seen left p (value v) t r = r
    put_runs seen left p (variable x) t r = runs_under functions w left (put_variable (vs x) x) r.0 t r.2 (p.put x r.0 r.1)
    put_runs seen left p (failed k) t r = absurd r
    put_runs seen left p (form h ps) t r = (r.0, r.1, put_all seen left p (slots_in h) ps r.0 r.2, r.3, r.4)

    pub put_all : (seen left : Seen) → ArePut seen left → (slots : List (Option ℕ)) (ps : Parts) (ts : List ExprType) → AllRun functions w seen slots ps ts → AllRun functions w left slots (put_parts vs ps) ts
    put_all seen left p [] none [] r = tt
    put_all seen left p (slot ∷ slots) none [] r = tt
    put_all seen left p [] none (t ∷ ts) r = absurd r
    put_all seen left p (slot ∷ slots) none (t ∷ ts) r = absurd r
    put_all seen left p [] (part e ps) [] r = absurd r
    put_all seen left p (slot ∷ slots) (part e ps) [] r = absurd r
    put_all seen left p [] (part e ps) (t ∷ ts) r = (put_runs seen left p e t r.0, put_all seen left p [] ps ts r.1)
    put_all seen left p (None ∷ slots) (part e ps) (t ∷ ts) r = (tt, put_runs seen left p e t r.1, put_all seen left p slots ps ts r.2)
    put_all seen left p ((Some x) ∷ slots) (part e ps) (t ∷ ts) r =
        ((p.free x r.0).1, put_runs seen left p e t r.1, put_all (behind (Some x) t seen) (behind (Some x) t left) (under_let x t seen left r.0 p) slots ps ts r.2)

module _ (functions : List FunctionParts) (w : World) where
  no_argument : (vs : List Datum) (ts : List ExprType) (x : ℕ) → AllFit w vs ts → slice_get ts x ≡ None → slice_get vs x ≡ None
  no_argument [] [] x fit h = refl
  no_argument [] (t ∷ ts) x fit h = absurd fit
  no_argument (v ∷ vs) [] x fit h = absurd fit
  no_argument (v ∷ vs) (t ∷ ts) zero fit h = absurd (cc)
  no_argument (v ∷ vs) (t ∷ ts) (suc x) fit h = no_argument vs ts x fit.1 h

  argument : (vs : List Datum) (ts : List ExprType) (x y : ℕ) (t : ExprType) → AllFit w vs ts → slice_get ts x ≡ Some t → Runs functions w nothing_seen (put_variable (slice_get vs x) y) t
  argument [] [] x y t fit h = absurd (cc)
  argument [] (u ∷ ts) x y t fit h = absurd fit
  argument (v ∷ vs) [] x y t fit h = absurd fit
  argument (v ∷ vs) (u ∷ ts) zero y t fit h = subst (FitsType w v) (some_is h) fit.0
  argument (v ∷ vs) (u ∷ ts) (suc x) y t fit h = argument vs ts x y t fit.1 h

  -- the arguments of a call
  pub arguments_put : (vs : List Datum) (ts : List ExprType) → AllFit w vs ts → ArePut functions w (slice_get vs) (slice_get ts) nothing_seen
  arguments_put vs ts fit = record { free = λ x h. (no_argument vs ts x fit h, refl); put = λ x t h. argument vs ts x x t fit h }

  only_free : (x y : ℕ) (v : Datum) (t : ExprType) (b : Bool) → nat_eq y x ≡ b → cond b (Some t) None ≡ None → only x v y ≡ None
  only_free x y v t true at h = absurd (cc)
  only_free x y v t false at h = let swapped : nat_eq x y ≡ false = grind (arith, nat_tests) in ap (λ b. if b then Some v else None) swapped

  only_put : (x y : ℕ) (v : Datum) (t u : ExprType) (b : Bool) → FitsType w v t → nat_eq y x ≡ b → cond b (Some t) None ≡ Some u → Runs functions w nothing_seen (put_variable (only x v y) y) u
  only_put x y v t u true fit at h =
      let swapped : nat_eq x y ≡ true = grind (arith, nat_tests) in
      let there : only x v y ≡ Some v = ap (λ b. if b then Some v else None) swapped in
      subst (λ (o : Option Datum). Runs functions w nothing_seen (put_variable o y) u) (sym there) (subst (FitsType w v) (some_is h) fit)
  only_put x y v t u false fit at h = absurd (cc)

  -- the value of a let
  pub let_put : (x : ℕ) (v : Datum) (t : ExprType) → FitsType w v t → ArePut functions w (only x v) (behind (Some x) t nothing_seen) nothing_seen
  let_put x v t fit = record { free = λ y h. (only_free x y v t (nat_eq y x) refl h, refl); put = λ y u h. only_put x y v t u (nat_eq y x) fit refl h }
