-- The redex of a whole expression, and the forms round it.
use Rattle.std.proofs.Common.{◌≡◌, ℕ, suc, ◌+◌, Bool, true, false, List, [], ◌∷◌, ◌++◌, length, Option, Some, None, IsSomeAnd, refl, sym, ap, subst, ◌∙◌, if◌then◌else◌, arith}
use Rattle.std.specs.List.{AllByRecursion}
use Rattle.std.proofs.lemmas.Bool.{false≢true}
use Rattle.stab_base.specs.Datum.{Datum}
use Rattle.stab_code.specs.Program.{ProgramParts}
use Rattle.language.specs.declared.head.Head.{Head}
use Rattle.language.specs.declared.head.Head.TheVariants.{Block}
use Rattle.language.specs.Expression.{Expr, value, variable, failed, form, Parts, none, part}
use Rattle.language.specs.Frames.{IsFrame, AreFrames}
use Rattle.language.specs.Redex.{first_counts_alone, Frame, after_values, within, Redex, redex_of, redex_in, redex, frames_of, frames}
use Rattle.expression_text.specs.Spelling.{count, items_of}
use Rattle.standing_runs.specs.Whole.{IsValue, IsForm, IsWhole, AreWhole}

-- a form whose parts all count has no items
pub no_items : (h : Head) → first_counts_alone h ≡ false → items_of h ≡ []
no_items (Block slots) is = absurd (false≢true (sym is))
no_items h is = refl

-- one more value to the left
pub one_left : (left : List Datum) (v : Datum) (ps : Parts) → after_values left (part (value v) ps) ≡ after_values (left ++ v ∷ []) ps
one_left [] v ps = refl
one_left (w ∷ left) v ps = ap (part (value w)) (one_left left v ps)

pub count_after : (left : List Datum) (ps : Parts) → count (after_values left ps) ≡ length left + count ps
count_after [] ps = omega arith
count_after (v ∷ left) ps = omega (arith, count_after left ps)

same_count : (left : List Datum) (e x : Expr) (ps : Parts) → count (after_values left (part e ps)) ≡ count (after_values left (part x ps))
same_count [] e x ps = refl
same_count (v ∷ left) e x ps = ap suc (same_count left e x ps)

module _ (p : ProgramParts) where
  -- values to the left of parts
  pub split_left : (bound : List ℕ) (left : List Datum) (ps : Parts) → AreWhole p bound [] (after_values left ps) → AllByRecursion (IsValue p) left × AreWhole p bound [] ps
  split_left bound [] ps w = (tt, w)
  split_left bound (v ∷ left) ps w = let more = split_left bound left ps w.1 in ((w.0, more.0), more.1)

  pub join_left : (bound : List ℕ) (left : List Datum) (ps : Parts) → AllByRecursion (IsValue p) left → AreWhole p bound [] ps → AreWhole p bound [] (after_values left ps)
  join_left bound [] ps vs w = w
  join_left bound (v ∷ left) ps vs w = (vs.0, join_left bound left ps vs.1 w)

  pub first_whole : (bound : List ℕ) (items : List (Option ℕ)) (e : Expr) (ps : Parts) → AreWhole p bound items (part e ps) → IsWhole p bound e
  first_whole bound [] e ps w = w.0
  first_whole bound (o ∷ items) e ps w = w.0

  other_first : (bound : List ℕ) (items : List (Option ℕ)) (e x : Expr) (ps : Parts) → AreWhole p bound items (part e ps) → IsWhole p bound x → AreWhole p bound items (part x ps)
  other_first bound [] e x ps w h = (h, w.1)
  other_first bound (o ∷ items) e x ps w h = (h, w.1)

  -- any whole expression may stand in the place of the part with the redex
  pub record IsRound (f : Frame) : Type 0 where
    pub plugs : (x : Expr) → IsWhole p [] x → IsWhole p [] (form f.head (after_values f.left (part x f.right)))
    pub frame : IsFrame f

  pub record IsSplit (r : Redex) : Type 0 where
    pub round : AllByRecursion IsRound r.round
    pub values : AllByRecursion (IsValue p) r.values
    pub whole : IsWhole p [] (form r.head (after_values r.values r.waiting))
    pub strict : first_counts_alone r.head ≡ false → r.waiting ≡ none

  pub are_frames : (fs : List Frame) → AllByRecursion IsRound fs → AreFrames fs
  are_frames [] all = tt
  are_frames (f ∷ fs) all = (all.0.frame, are_frames fs all.1)

  pub within_whole : (fs : List Frame) (x : Expr) → AllByRecursion IsRound fs → IsWhole p [] x → IsWhole p [] (within fs x)
  within_whole [] x all w = w
  within_whole (f ∷ fs) x all w = within_whole fs (form f.head (after_values f.left (part x f.right))) all.1 (all.0.plugs x w)

  record Hole (h : Head) (left : List Datum) (e : Expr) (ps : Parts) : Type 0 where
    inner : IsWhole p [] e
    plugs : (x : Expr) → IsWhole p [] x → IsWhole p [] (form h (after_values left (part x ps)))

  hole_alone : (h : Head) (e : Expr) (ps : Parts) → IsWhole p [] (form h (part e ps)) → Hole h [] e ps
  hole_alone h e ps w = record {
    inner = first_whole [] (items_of h) e ps w.1;
    plugs = λ x hx. (w.0, other_first [] (items_of h) e x ps w.1 hx);
  }

  hole_among : (h : Head) (left : List Datum) (e : Expr) (ps : Parts) → items_of h ≡ [] → IsWhole p [] (form h (after_values left (part e ps))) → Hole h left e ps
  hole_among h left e ps empty w =
      let parts = split_left [] left (part e ps) (subst (λ (items : List (Option ℕ)). AreWhole p [] items (after_values left (part e ps))) empty w.1) in
      record {
        inner = parts.1.0;
        plugs = λ x hx. (
          subst (IsForm p h) (same_count left e x ps) w.0,
          subst (λ (items : List (Option ℕ)). AreWhole p [] items (after_values left (part x ps))) (sym empty) (join_left [] left (part x ps) parts.0 (hx, parts.1.1)),
        );
      }

  hole : (h : Head) (left : List Datum) (e : Expr) (ps : Parts) (b : Bool) → first_counts_alone h ≡ b → (first_counts_alone h ≡ true → left ≡ []) → IsWhole p [] (form h (after_values left (part e ps))) → Hole h left e ps
  hole h left e ps true is alone w =
      let empty = alone is in
      subst (λ (l : List Datum). Hole h l e ps) (sym empty) (hole_alone h e ps (subst (λ (l : List Datum). IsWhole p [] (form h (after_values l (part e ps)))) empty w))
  hole h left e ps false is alone w = hole_among h left e ps (no_items h is) w

  all_push : (left : List Datum) (v : Datum) → AllByRecursion (IsValue p) left → IsValue p v → AllByRecursion (IsValue p) (left ++ v ∷ [])
  all_push [] v vs h = (h, tt)
  all_push (w ∷ left) v vs h = (vs.0, all_push left v vs.1 h)

  split_parts : (ps : Parts) (h : Head) (left : List Datum) (round : List Frame) → AllByRecursion IsRound round → AllByRecursion (IsValue p) left → (first_counts_alone h ≡ true → left ≡ []) → IsWhole p [] (form h (after_values left ps)) →
      IsSomeAnd (redex_in ps h left round) IsSplit
  split_parts none h left round all vs alone w = record { round = all; values = vs; whole = w; strict = λ is. refl }
  split_parts (part (value v) ps) h left round all vs alone w =
      let here = hole h left (value v) ps (first_counts_alone h) refl alone w in
      elim (first_counts_alone h) as (λ b. first_counts_alone h ≡ b → IsSomeAnd (if b then Some (record { round = round; head = h; values = v ∷ []; waiting = ps }) else redex_in ps h (left ++ v ∷ []) round) IsSplit) [
        | true ↦ λ is. record {
          round = all;
          values = (here.inner, tt);
          whole = subst (λ (l : List Datum). IsWhole p [] (form h (after_values l (part (value v) ps)))) (alone is) w;
          strict = λ not. absurd (false≢true (sym not ∙ is));
        }
        | false ↦ λ is. split_parts ps h (left ++ v ∷ []) round all (all_push left v vs here.inner) (λ yes. absurd (false≢true (sym is ∙ yes))) (subst (λ (qs : Parts). IsWhole p [] (form h qs)) (one_left left v ps) w)
      ] refl
  split_parts (part (variable x) ps) h left round all vs alone w =
      let here = hole h left (variable x) ps (first_counts_alone h) refl alone w in
      absurd (false≢true here.inner.0)
  split_parts (part (failed k) ps) h left round all vs alone w =
      let here = hole h left (failed k) ps (first_counts_alone h) refl alone w in
      absurd here.inner
  split_parts (part (form g qs) ps) h left round all vs alone w =
      let here = hole h left (form g qs) ps (first_counts_alone h) refl alone w in
      split_parts qs g [] (record { head = h; left = left; right = ps } ∷ round) (record { plugs = here.plugs; frame = alone }, all) tt (λ first. refl) here.inner

  -- a whole form has a redex
  pub split_form : (h : Head) (ps : Parts) (round : List Frame) → AllByRecursion IsRound round → IsWhole p [] (form h ps) → IsSomeAnd (redex_of (form h ps) round) IsSplit
  split_form h ps round all w = split_parts ps h [] round all tt (λ alone. refl) w

  frames_by : (o : Option Redex) → IsSomeAnd o IsSplit → AllByRecursion IsRound (frames_of o)
  frames_by None h = absurd h
  frames_by (Some r) h = h.round

  pub rounds : (e : Expr) → IsWhole p [] e → AllByRecursion IsRound (frames e)
  rounds (value v) w = tt
  rounds (variable x) w = tt
  rounds (failed k) w = tt
  rounds (form h ps) w = frames_by (redex (form h ps)) (split_form h ps [] tt w)
