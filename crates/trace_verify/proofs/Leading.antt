-- Where the surviving steps lead.
use lib.Seq.{drop-append-add}
use Rattle.std.proofs.Common.{◌≡◌, ℕ, suc, ◌+◌, ◌-◌, ◌<◌, ◌≤◌, true, List, [], ◌∷◌, ◌++◌, length, take, drop, get_or, add-one, drop-cons, refl, sym, ap, subst, ◌∙◌, arith, length-append, append_assoc}
use Rattle.std.specs.Prelude.{Option, Some, None, IsSome, IfSome}
use Rattle.std.proofs.lemmas.Bool.{false≢true}
use Rattle.std.proofs.lemmas.List.{take-append-drop, take-append-le, length-take-le}
use Rattle.std.proofs.Math.Seq.{take-length}
use Rattle.stab_code.specs.Program.{ProgramParts}
use Rattle.stab_journal.specs.declared.event.Numbered.{Numbered}
use Rattle.stab_journal.specs.Journal.{RiseFrom}
use Rattle.stab_journal.specs.Names.{has}
use Rattle.stab_journal.specs.Reached.{nothing_lost, reached, without_reached}
use Rattle.stab_journal.specs.Dependence.{IsUpward}
use Rattle.language.specs.Held.{Held}
use Rattle.language.specs.Plain.{PlainState, effect_of, plain_step}
use Rattle.language.specs.Since.{end_from}
use Rattle.language.specs.Steps.{State, Table, after_steps}
use Rattle.journal_laws.proofs.Chains.{upward}
use Rattle.journal_laws.proofs.Reaching.{reached_by}
use Rattle.journal_laws.proofs.Runs.{steps_append, survivor_from}
use Rattle.journal_laws.specs.Surviving.{SurvivesFrom}
use Rattle.stab_journal.specs.Since.{AreBelow}
use Rattle.trace_verify.specs.Parts.{IsFront}
use Rattle.trace_verify.specs.Surviving.{LeadTo, LeadsOn}

-- no steps lead on from nowhere
nowhere : {E : Type 0} (effect : Table E) (ns : List Numbered) → after_steps effect None ns ≡ None
nowhere effect [] = refl
nowhere effect (n ∷ ns) = nowhere effect ns

-- the first steps of a run lead somewhere
pub front_leads : {E : Type 0} (effect : Table E) (s : State E) (front back : List Numbered) (end : State E) → after_steps effect (Some s) (front ++ back) ≡ Some end → IsSome (after_steps effect (Some s) front)
front_leads effect s front back end is =
    elim (after_steps effect (Some s) front) as (λ o. after_steps effect o back ≡ Some end → IsSome o) [
      | None ↦ λ at. absurd (let none : None ≡ Some end = sym (nowhere effect back) ∙ at in cc)
      | (Some x) ↦ λ at. refl
    ] (sym (steps_append effect front back (Some s)) ∙ is)

reached_upward : (run : List Numbered) (m : ℕ) → RiseFrom 1 run → IsUpward (λ (n : Numbered). has (reached run m) n.seq.0 ≡ true) run
reached_upward run m rise = upward m (has (reached run m)) nothing_lost run (reached_by m (has (reached run m)) run nothing_lost 1 rise (λ k le. refl))

-- what is left of a run is one
pub left_survives : (p : ProgramParts) (from : PlainState) (run : List Numbered) (m : ℕ) (s : PlainState) → LeadsOn p from run s → SurvivesFrom p (has (reached run m)) from run s
left_survives p from run m s r = survivor_from p (has (reached run m)) from run s r.known r.rises (reached_upward run m r.rises) r.ends

-- the steps of a run behind some first ones lead somewhere from where these lead
pub back_leads : (p : ProgramParts) (from : PlainState) (front back : List Numbered) (s end : PlainState) → end_from p from front ≡ Some s → end_from p from (front ++ back) ≡ Some end → end_from p s back ≡ Some end
back_leads p from front back s end at is = ap (λ o. after_steps (effect_of p) o back) (sym at) ∙ sym (steps_append (effect_of p) front back (Some from)) ∙ is

-- a step of the steps from a place on
pub play_on : (p q : ProgramParts) (s s' : PlainState) (ns : List Numbered) (i : ℕ) (d : Numbered) (o : Option PlainState) → q ≡ p → i < length ns
    → plain_step q s (get_or ns i d).seq.0 (get_or ns i d).label ≡ Some s' → after_steps (effect_of p) (Some s) (drop i ns) ≡ o → after_steps (effect_of p) (Some s') (drop (i + 1) ns) ≡ o
play_on p q s s' ns i d o same lt step is =
    ap (λ x. after_steps (effect_of p) x (drop (i + 1) ns)) (sym step)
    ∙ ap (λ x. after_steps (effect_of p) (plain_step x s (get_or ns i d).seq.0 (get_or ns i d).label) (drop (i + 1) ns)) same
    ∙ ap (λ k. after_steps (effect_of p) (plain_step p s (get_or ns i d).seq.0 (get_or ns i d).label) (drop k ns)) (add-one i)
    ∙ ap (after_steps (effect_of p) (Some s)) (sym (drop-cons ns i d lt))
    ∙ is

-- steps that lead somewhere have a first one
pub play_stuck : (p q : ProgramParts) (s : PlainState) (ns : List Numbered) (i : ℕ) (d : Numbered) (o : Option PlainState) → q ≡ p → i < length ns
    → plain_step q s (get_or ns i d).seq.0 (get_or ns i d).label ≡ None → after_steps (effect_of p) (Some s) (drop i ns) ≡ o → IsSome o → ⊥
play_stuck p q s ns i d o same lt none is some =
    false≢true (subst IsSome (sym is ∙ ap (after_steps (effect_of p) (Some s)) (drop-cons ns i d lt)
    ∙ ap (λ x. after_steps (effect_of p) (plain_step x s (get_or ns i d).seq.0 (get_or ns i d).label) (drop (suc i) ns)) (sym same)
    ∙ ap (λ x. after_steps (effect_of p) x (drop (suc i) ns)) none ∙ nowhere (effect_of p) (drop (suc i) ns)) some)

-- the steps ahead of some first ones lead to where all lead
pub ahead_leads : (p q : ProgramParts) (from : PlainState) (b : ℕ) (ns ahead : List Numbered) (s : PlainState) → q ≡ p → end_from p from (take b ns) ≡ Some s → ahead ≡ drop b ns → end_from q s ahead ≡ end_from p from ns
ahead_leads p q from b ns ahead s same at is =
    ap (λ x. after_steps (effect_of x) (Some s) ahead) same
    ∙ ap (after_steps (effect_of p) (Some s)) is
    ∙ ap (λ o. after_steps (effect_of p) o (drop b ns)) (sym at)
    ∙ sym (steps_append (effect_of p) (take b ns) (drop b ns) (Some from))
    ∙ ap (end_from p from) (take-append-drop b ns)

rise_last : (q : ℕ) (run : List Numbered) (n : Numbered) → RiseFrom q run → AreBelow n.seq.0 run → q ≤ n.seq.0 → RiseFrom q (run ++ n ∷ [])
rise_last q [] n rise below le = (le, tt)
rise_last q (k ∷ ks) n rise below le = (rise.0, rise_last (suc k.seq.0) ks n rise.1 below.1 below.0)

-- a run goes on by a step
pub run_on : (p : ProgramParts) (from : PlainState) (run : List Numbered) (n : Numbered) (s s' : PlainState) → LeadsOn p from run s → AreBelow n.seq.0 run → 1 ≤ n.seq.0 → plain_step p s n.seq.0 n.label ≡ Some s' → LeadsOn p from (run ++ n ∷ []) s'
run_on p from run n s s' r below some step = record {
  known = r.known;
  rises = rise_last 1 run n r.rises below some;
  ends = steps_append (effect_of p) run (n ∷ []) (Some from) ∙ ap (λ o. after_steps (effect_of p) o (n ∷ [])) r.ends ∙ step;
}

-- what leads to a state still does where more is settled
pub based_on : (p q : ProgramParts) (from : PlainState) (b : ℕ) (front whole : List Numbered) (base : Held) → q ≡ p → LeadTo from p b front base → IsFront front whole → LeadTo from q b whole base
based_on p q from b front whole base same h f = record {
  program = h.program ∙ sym same;
  based = subst (λ ns. b ≤ length ns) (sym f.is) (omega (arith, length-append front f.back, h.based));
  base = ap (λ x. end_from x from (take b whole)) same ∙ ap (λ ns. end_from p from (take b ns)) f.is ∙ ap (end_from p from) (take-append-le b front f.back h.based) ∙ h.base;
}

-- all settled steps lead to it
pub all_based : (p : ProgramParts) (from : PlainState) (b : ℕ) (settled : List Numbered) (base : Held) → b ≡ length settled → base.program ≡ p → end_from p from settled ≡ Some base.state → LeadTo from p b settled base
all_based p from b settled base all same is = record {
  program = same;
  based = omega (arith, all);
  base = ap (λ k. end_from p from (take k settled)) all ∙ ap (end_from p from) (take-length settled) ∙ is;
}

-- what is left behind the last cut leads on from there to where all that is left leads
pub after_lose : (p q : ProgramParts) (from : PlainState) (run : List Numbered) (m : ℕ) (s : PlainState) (r : LeadsOn p from run s) (front back ns : List Numbered) (cut : PlainState) → q ≡ p → front ++ back ≡ without_reached m run
    → end_from p from front ≡ Some cut → ns ≡ back → end_from q cut ns ≡ Some (left_survives p from run m s r).at
after_lose p q from run m s r front back ns cut same whole at is =
    ap (λ x. after_steps (effect_of x) (Some cut) ns) same
    ∙ ap (after_steps (effect_of p) (Some cut)) is
    ∙ back_leads p from front back cut (left_survives p from run m s r).at at (ap (end_from p from) whole ∙ (left_survives p from run m s r).lawful.run)

-- and that is a run
pub left_is_run : (p q : ProgramParts) (from : PlainState) (run : List Numbered) (m : ℕ) (s : PlainState) (r : LeadsOn p from run s) (front back : List Numbered) (cut end : PlainState) → q ≡ p → front ++ back ≡ without_reached m run
    → end_from p from front ≡ Some cut → end_from p cut back ≡ Some end → LeadsOn q from (front ++ back) end
left_is_run p q from run m s r front back cut end same whole at is = record {
  known = r.known;
  rises = subst (RiseFrom 1) (sym whole) (left_survives p from run m s r).rises;
  ends = ap (λ x. end_from x from (front ++ back)) same ∙ steps_append (effect_of p) front back (Some from) ∙ ap (λ o. after_steps (effect_of p) o back) at ∙ is;
}

-- some first steps of a run that leads somewhere lead somewhere
pub front_some : {E : Type 0} (effect : Table E) (s : State E) (front back : List Numbered) → IsSome (after_steps effect (Some s) (front ++ back)) → IsSome (after_steps effect (Some s) front)
front_some effect s front back h =
    elim (after_steps effect (Some s) front) as (λ o. IsSome (after_steps effect o back) → IsSome o) [
      | None ↦ λ at. absurd (false≢true (subst IsSome (nowhere effect back) at))
      | (Some x) ↦ λ at. refl
    ] (subst IsSome (steps_append effect front back (Some s)) h)

-- what leads to the near state still does where there are more steps
pub near_on : (p q : ProgramParts) (from : PlainState) (b : ℕ) (run whole : List Numbered) (near : Option Held) → q ≡ p → IfSome near (LeadTo from p b run) → IsFront run whole → IfSome near (LeadTo from q b whole)
near_on p q from b run whole None same h f = tt
near_on p q from b run whole (Some near) same h f = based_on p q from b run whole near same h f

-- the steps that are settled and k more, and the others
pub whole_is : (k : ℕ) (settled recent : List Numbered) → (settled ++ take k recent) ++ drop k recent ≡ settled ++ recent
whole_is k settled recent = append_assoc settled (take k recent) (drop k recent) ∙ ap (λ ns. settled ++ ns) (take-append-drop k recent)

pub front_long : (k : ℕ) (settled recent : List Numbered) → k ≤ length recent → length (settled ++ take k recent) ≡ length settled + k
front_long k settled recent le = length-append settled (take k recent) ∙ ap (λ n. length settled + n) (length-take-le k recent le)

-- the state at the last cut is led to by a front of all steps
pub cut_leads : (p : ProgramParts) (from : PlainState) (settled recent : List Numbered) (b : ℕ) (cut : Held) → b ≡ length settled → cut.program ≡ p → end_from p from settled ≡ Some cut.state → LeadTo from p b (settled ++ recent) cut
cut_leads p from settled recent b cut all same is = record {
  program = same;
  based = omega (arith, length-append settled recent, all);
  base = ap (λ n. end_from p from (take n (settled ++ recent))) all ∙ ap (end_from p from) (take-append-le (length settled) settled recent (omega arith) ∙ take-length settled) ∙ is;
}

-- the steps between the near state and the settled ones with k more lead from it to where these lead
pub near_leads : (p : ProgramParts) (from : PlainState) (b k : ℕ) (settled recent ahead : List Numbered) (near : Held) → LeadTo from p b (settled ++ recent) near → b ≤ length (settled ++ take k recent) → ahead ≡ drop b (settled ++ take k recent)
    → end_from near.program near.state ahead ≡ end_from p from (settled ++ take k recent)
near_leads p from b k settled recent ahead near l le is =
    ahead_leads p near.program from b (settled ++ take k recent) ahead near.state l.program
    (ap (end_from p from) (sym (take-append-le b (settled ++ take k recent) (drop k recent) le) ∙ ap (take b) (whole_is k settled recent)) ∙ l.base) is

-- the settled steps and k more lead to the near state also of a run that has the same front
pub near_left : (p : ProgramParts) (from : PlainState) (b k : ℕ) (settled recent : List Numbered) (near : Held) → b ≡ length settled + k → k ≤ length recent → near.program ≡ p → end_from p from (settled ++ take k recent) ≡ Some near.state
    → LeadTo from p b (settled ++ recent) near
near_left p from b k settled recent near place le same is =
    let all : b ≡ length (settled ++ take k recent) = place ∙ sym (front_long k settled recent le) in
    subst (λ ns. LeadTo from p b ns near) (whole_is k settled recent) (cut_leads p from (settled ++ take k recent) (drop k recent) b near all same is)

-- two parts, and the steps from a place on
pub parts_lead : (p : ProgramParts) (s t : PlainState) (front back : List Numbered) → end_from p s front ≡ Some t → end_from p t back ≡ end_from p s (front ++ back)
parts_lead p s t front back at = ap (λ o. after_steps (effect_of p) o back) (sym at) ∙ sym (steps_append (effect_of p) front back (Some s))

pub drop_behind : (at : ℕ) (front back : List Numbered) → length front ≤ at → drop at (front ++ back) ≡ drop (at - length front) back
drop_behind at front back le =
    ap (λ k. drop k (front ++ back)) (let is : at ≡ length front + (at - length front) = omega (arith, le) in is) ∙ drop-append-add front back (at - length front)
