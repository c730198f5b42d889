-- A program whose start rests is explored at once: what is asked of a search can be met.
use Rattle.std.proofs.Common.{◌≡◌, ℕ, zero, suc, true, false, List, [], ◌∷◌, Option, Some, None, refl, sym, ap, ◌∙◌}
use Rattle.std.specs.Prelude.{ℤ, slice_get, IfSome, IsSomeAnd}
use Rattle.std.specs.FinMap as map
use Rattle.std.proofs.lemmas.Bool.{false≢true}
use Rattle.stab_code.specs.Program.{ProgramParts}
use Rattle.language.specs.Expression.{Expr}
use Rattle.language.specs.Plain.{language_of, look_in, plain_step, start}
use Rattle.language.specs.Quiet.{IsQuiet, is_resting}
use Rattle.language.specs.Standing.{is_stabilize}
use Rattle.language.specs.Table.{Look, act, stabilizes}
use Rattle.language.proofs.Resting.{no_step}
use Rattle.explore_laws.specs.Explored.{Stored, IsBounded, IsExplored, here}
use Rattle.explore_laws.proofs.Histories.{begin_at}
use Rattle.explore_laws.proofs.Likeness.{alike_same}

module _ (p : ProgramParts) (script : List ℤ) (quiet : IsQuiet (language_of p) (start p)) where
  abbrev first : Stored
  first = record { state = start p; used = 0 }

  only : (i : ℕ) (m : Stored) → slice_get (first ∷ []) i ≡ Some m → first ≡ m
  only zero m h = cc
  only (suc i) m h = absurd (cc)

  none_some : {A : Type 0} (o : Option A) (x : A) → o ≡ None → o ≡ Some x → ⊥
  none_some o x h k = cc

  no_rest : (k : Look Expr) → is_resting k ≡ true → is_stabilize k ≡ true → ⊥
  no_rest (act stabilizes) h is = false≢true h
  no_rest k h is = false≢true is

  not_inside : (o : Option Expr) → IfSome o (λ e. is_resting (look_in p e) ≡ true) → IsSomeAnd o (λ e. is_stabilize (look_in p e) ≡ true) → ⊥
  not_inside None h at = at
  not_inside (Some e) h at = no_rest (look_in p e) h at

  still : (i : ℕ) (m : Stored) → slice_get (first ∷ []) i ≡ Some m → IsQuiet (language_of p) m.state
  still i m there = Rattle.std.proofs.Common.subst (λ (x : Stored). IsQuiet (language_of p) x.state) (only i m there) quiet

  bounds : IsBounded (start p)
  bounds = let b = begin_at p script in record { known = b.known; bound = b.bound; threads = b.threads; chans = b.chans; references = b.references }

  pub explored : IsExplored p script (first ∷ [])
  explored = record {
    starts = record { at = start p; leads = here (start p); place = 0; found = first; there = refl; like = alike_same (start p); used_too = refl };
    bounded = λ i m there. Rattle.std.proofs.Common.subst (λ (x : Stored). IsBounded x.state) (only i m there) bounds;
    settled = λ i m there q l a free made. none_some (plain_step p m.state q l) a (no_step (language_of p) m.state (still i m there) q l) made;
    closed = λ i m there q l a opened asked made. absurd (none_some (plain_step p m.state q l) a (no_step (language_of p) m.state (still i m there) q l) made);
    inside = λ i m there t at. absurd (not_inside (map.get m.state.threads t) ((still i m there).rests t) at);
  }
