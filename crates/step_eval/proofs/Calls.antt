-- The body of a function, with the arguments of a call.
use Rattle.std.proofs.Common.{◌≡◌, ℕ, zero, suc, ◌+◌, ◌<◌, List, [], ◌∷◌, ◌++◌, length, slice_get, Option, Some, None, option_map, IsSomeAnd, Result, Ok, Err, IfOk, refl, ap, sym, ◌∙◌, arith, subst}
use Rattle.std.specs.List.{All, range_with_len}
use Rattle.stab_base.specs.Datum.{Datum}
use Rattle.stab_base.specs.declared.numbers.FnId.{FnId}
use Rattle.stab_code.specs.declared.node_id.NodeId.{NodeId}
use Rattle.stab_code.specs.Program.{FunctionParts, ProgramParts, arity_of, body_of, tree_at}
use Rattle.stab_code.specs.Syntax.{lets_of, open_in}
use Rattle.stab_code.specs.Valid.{IsValid}
use Rattle.stab_code.proofs.InOrder.{body_there}
use Rattle.stab_code.proofs.Lists.{All-at}
use Rattle.language.specs.Expression.{put}
use Rattle.language.specs.Outcome.{called}
use Rattle.language.specs.Program.{expr_of, body, body_by}
use Rattle.step_eval.specs.Scoped.{SlotsRise, IsScoped}
use Rattle.step_eval.specs.Turns.{Takes}
use Rattle.step_eval.specs.Entries.{IsBody, IsBodyEntry, entered}
use Rattle.step_eval.specs.ControlView.{ControlView, Fits, expr_of as expr_in}
use Rattle.step_eval.specs.Ready.{IsLeaf}

rise-range : (a n : ℕ) → SlotsRise a (range_with_len a n)
rise-range a zero = tt
rise-range a (suc n) = (omega arith, rise-range (a + 1) n)

rise-behind : (a k n b : ℕ) (xs : List ℕ) → b ≡ a + k → range_with_len a k ++ xs ≡ range_with_len a n → SlotsRise b xs
rise-behind a zero n b xs at e =
    let same : b ≡ a = omega arith in
    subst (SlotsRise b) (sym e) (subst (λ (c : ℕ). SlotsRise c (range_with_len a n)) (sym same) (rise-range a n))
rise-behind a (suc k) zero b xs at e = cc
rise-behind a (suc k) (suc n) b xs at e = rise-behind (a + 1) k n b xs (omega arith) (let rest : range_with_len (a + 1) k ++ xs ≡ range_with_len (a + 1) n = cc in rest)

module _ (p : ProgramParts) (valid : IsValid p) (k : ℕ) (f : FunctionParts) (found : slice_get p.functions k ≡ Some f) where
  pub body-scoped : IsScoped (arity_of f) (tree_at p f.body)
  body-scoped = record {
    seen = All-at (λ g. All (λ slot. slot < arity_of g) (open_in (body_of p g))) p.functions k f valid.variables_seen found;
    ahead = rise-behind 0 (arity_of f) f.slots (arity_of f) (lets_of (body_of p f)) (omega arith) (All-at (λ g. range_with_len 0 (arity_of g) ++ lets_of (body_of p g) ≡ range_with_len 0 g.slots) p.functions k f valid.slots_in_order found);
  }

  pub body-there : f.body.0 < length p.nodes
  body-there = body_there p valid.nodes_in_order k f found

  pub called-is : (vs : List Datum) → called (body p) k vs ≡ put (slice_get vs) (expr_of (tree_at p f.body))
  called-is vs = ap (λ o. put (slice_get vs) (body_by p o)) found

body-by : (p : ProgramParts) → IsValid p → (k size : ℕ) (n : NodeId) (o : Option FunctionParts) → slice_get p.functions k ≡ o → IsSomeAnd o (λ g. arity_of g ≡ size) → Some n ≡ option_map (λ g. g.body) o → IsBody p k size n
body-by p valid k size n None found takes is = elim takes [ ]
body-by p valid k size n (Some g) found takes is =
    let same : n ≡ g.body = cc in
    subst (λ (m : NodeId). IsBody p k size m) (sym same) (record {
      there = body-there p valid k g found;
      scoped = subst (λ (a : ℕ). IsScoped a (tree_at p g.body)) takes (body-scoped p valid k g found);
      is_called = called-is p valid k g found;
    })

pub is-body : (p : ProgramParts) → IsValid p → (f : FnId) (size : ℕ) (n : NodeId) → Takes p f size → Some n ≡ option_map (λ g. g.body) (slice_get p.functions f.0) → IsBody p f.0 size n
is-body p valid f size n takes is = body-by p valid f.0 size n (slice_get p.functions f.0) refl takes is

there-by : {A : Type 0} (P : A → Type 0) (xs : List A) (k : ℕ) → IsSomeAnd (slice_get xs k) P → k < length xs
there-by P [] k some = elim some [ ]
there-by P (x ∷ xs) zero some = omega arith
there-by P (x ∷ xs) (suc k) some = let rest = there-by P xs k some in omega arith

-- a function that takes so many is there
pub takes-there : (p : ProgramParts) (f : FnId) (size : ℕ) → Takes p f size → f.0 < length p.functions
takes-there p f size takes = there-by (λ g. arity_of g ≡ size) p.functions f.0 takes

-- what the body is, where it is known whether it has a value at once
pub is-entry : (p : ProgramParts) (k : ℕ) (args : List Datum) (n : NodeId) (o : Option Datum) → IsBody p k (length args) n → IsLeaf p n args o → IsBodyEntry p k args n o
is-entry p k args n None b leaf = record { there = b.there; is_form = leaf; scoped = b.scoped; is_called = b.is_called args }
is-entry p k args n (Some v) b leaf = b.is_called args ∙ leaf

entered-expr : (p : ProgramParts) (k : ℕ) (args : List Datum) (n : NodeId) (o : Option Datum) → IsBodyEntry p k args n o → expr_in p (entered n o args) ≡ called (body p) k args
entered-expr p k args n None e = sym e.is_called
entered-expr p k args n (Some v) e = sym e

entered-fits : (p : ProgramParts) (k : ℕ) (args : List Datum) (n : NodeId) (o : Option Datum) → IsBodyEntry p k args n o → Fits p (entered n o args)
entered-fits p k args n None e = record { focus = (e.there, e.is_form, e.scoped); frames = refl }
entered-fits p k args n (Some v) e = record { focus = tt; frames = refl }

pub called-expr : {E : Type 0} (p : ProgramParts) (k : ℕ) (args : List Datum) (n : NodeId) (o : Option Datum) (r : Result ControlView E) → IsBodyEntry p k args n o → IfOk r (λ c. c ≡ entered n o args) → IfOk r (λ c. expr_in p c ≡ called (body p) k args)
called-expr p k args n o (Ok c) e is = ap (expr_in p) is ∙ entered-expr p k args n o e
called-expr p k args n o (Err x) e is = tt

pub called-fits : {E : Type 0} (p : ProgramParts) (k : ℕ) (args : List Datum) (n : NodeId) (o : Option Datum) (r : Result ControlView E) → IsBodyEntry p k args n o → IfOk r (λ c. c ≡ entered n o args) → IfOk r (Fits p)
called-fits p k args n o (Ok c) e is = let P : ControlView → Type 0 = λ (x : ControlView). Fits p x in subst P (sym is) (entered-fits p k args n o e)
called-fits p k args n o (Err x) e is = tt

-- a function whose arguments were counted takes so many
pub takes-counted : (o : Option FunctionParts) (count size : ℕ) → Some count ≡ option_map arity_of o → count ≡ size → IsSomeAnd o (λ g. arity_of g ≡ size)
takes-counted None count size e is = cc
takes-counted (Some g) count size e is = cc
