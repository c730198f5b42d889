-- What may stand in a state has only channels and references that are there.
use Rattle.std.proofs.Common.{◌≡◌, ℕ, ◌<◌, ◌≤◌, Bool, true, false, List, [], ◌∷◌, refl, sym, ap, subst, ◌∙◌, arith}
use Rattle.std.specs.Prelude.{Some, None, Option, IfSome, ◌&&◌, not, nat_lt, cond}
use Rattle.std.specs.List.{AllByRecursion}
use Rattle.std.proofs.lemmas.Bool.{and_parts, false≢true}
use Rattle.stab_base.specs.Datum.{Datum, unit, truth, int, text, chan, reference, pair}
use Rattle.stab_code.specs.Program.{ProgramParts}
use Rattle.journal_laws.specs.Known.{ArePartsIn, IsExprIn, IsHeadIn, IsIn, IsMore, Known}
use Rattle.language.specs.declared.head.Head.{Head}
use Rattle.language.specs.declared.head.Head.TheVariants.{Block, If, Two, Not, Neg, Pair, Fst, Snd, Call, Spawn, Stable, NewChan, NewRef, Get, Set, Send, Recv, Pick, Stabilize, Cut, Pin, Print, Probe, Attempt, Section}
use Rattle.language.specs.Expression.{Expr, value, variable, failed, form, Parts, none, part}
use Rattle.expression_text.specs.Spelling.{count, items_of}
use Rattle.image_state.specs.Stands.{bound_by, head_stands, parts_stand, stands, thread_stands}
use Rattle.image_state.specs.Values.{is_known}

module _ (k l : Known) (more : IsMore k l) where
  pub value_in : (v : Datum) → is_known k v ≡ true → IsIn l v
  value_in unit h = tt
  value_in (truth b) h = tt
  value_in (int n) h = tt
  value_in (text t) h = tt
  value_in (chan c) h = more.channels c h
  value_in (reference r) h = more.references r h
  value_in (pair a b) h =
      let both = and_parts (is_known k a) (is_known k b) h in
      (value_in a both.0, value_in b both.1)

  module _ (p : ProgramParts) where
    head_in : (h : Head) (n : ℕ) → head_stands p k h n ≡ true → IsHeadIn l h
    head_in (Section m) n h = more.sections m.0 h
    head_in (Block slots) n h = tt
    head_in If n h = tt
    head_in (Two op) n h = tt
    head_in Not n h = tt
    head_in Neg n h = tt
    head_in Pair n h = tt
    head_in Fst n h = tt
    head_in Snd n h = tt
    head_in (Call f) n h = tt
    head_in (Spawn f) n h = tt
    head_in (Stable f) n h = tt
    head_in NewChan n h = tt
    head_in NewRef n h = tt
    head_in Get n h = tt
    head_in Set n h = tt
    head_in Send n h = tt
    head_in Recv n h = tt
    head_in Pick n h = tt
    head_in Stabilize n h = tt
    head_in Cut n h = tt
    head_in Pin n h = tt
    head_in (Print) n h = tt
    head_in Probe n h = tt
    head_in Attempt n h = tt

    mutual
      expr_in : (bound : List ℕ) (e : Expr) → stands p k bound e ≡ true → IsExprIn l e
      expr_in bound (value v) h = value_in v h
      expr_in bound (variable x) h = tt
      expr_in bound (failed f) h = tt
      expr_in bound (form g ps) h =
          let both = and_parts (head_stands p k g (count ps)) (parts_stand p k bound (items_of g) ps) h in
          (head_in g (count ps) both.0, parts_in bound (items_of g) ps both.1)

      parts_in : (bound : List ℕ) (items : List (Option ℕ)) (ps : Parts) → parts_stand p k bound items ps ≡ true → ArePartsIn l ps
      parts_in bound items none h = tt
      parts_in bound [] (part e ps) h =
          let both = and_parts (stands p k bound e) (parts_stand p k bound [] ps) h in
          (expr_in bound e both.0, parts_in bound [] ps both.1)
      parts_in bound (o ∷ items) (part e ps) h =
          let both = and_parts (stands p k bound e) (parts_stand p k (bound_by bound o) items ps) h in
          (expr_in bound e both.0, parts_in (bound_by bound o) items ps both.1)

    pub thread_in : (e : Expr) → thread_stands p k e ≡ true → IsExprIn l e
    thread_in (failed f) h = tt
    thread_in (value v) h = expr_in [] (value v) (and_parts (stands p k [] (value v)) _ h).0
    thread_in (variable x) h = tt
    thread_in (form g ps) h = expr_in [] (form g ps) (and_parts (stands p k [] (form g ps)) _ h).0
