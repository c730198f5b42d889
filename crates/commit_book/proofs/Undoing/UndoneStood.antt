-- Where the actors of a step stood before it that saves their controls: at an act, so not at an end.
use Rattle.std.proofs.Common.{◌≡◌, ℕ, Bool, true, false, cond, ◌&&◌, nat_eq, List, [], ◌∷◌, ◌++◌, Option, Some, None, refl, sym, ap, subst, ◌∙◌}
use Rattle.std.specs.Prelude.{option_and_then, option_map}
use Rattle.std.specs.Ordering.{nat_cmp}
use Rattle.std.specs.FinMap as map
use Rattle.std.specs.FinMap.{FinMap}
use Rattle.std.proofs.lemmas.Bool.{false≢true, eqb-true, and_parts}
use Rattle.stab_base.specs.Datum.{Datum, unit}
use Rattle.stab_base.specs.declared.fault.Fault.{Fault}
use Rattle.stab_code.specs.Program.{ProgramParts}
use Rattle.stab_journal.specs.declared.event.Label.{Label}
use Rattle.stab_journal.specs.declared.event.Label.TheVariants.{Comm, Get, Enter}
use Rattle.stab_journal.specs.declared.event.Numbered.{Numbered}
use Rattle.stab_journal.specs.Label.{actors, touched}
use Rattle.stab_journal.specs.Names.{has}
use Rattle.language.specs.Expression.{Expr, value, failed}
use Rattle.language.specs.Look.{answered}
use Rattle.language.specs.Plain.{PlainState, effect_of, language_of, look_in}
use Rattle.language.specs.Steps.{State, Effect, Table, plain, next, after_steps, effect_in, exprs_at}
use Rattle.language.specs.Table.{Look, done, fault, comm_by, enter_by, get_by, received_by, sent_by}
use Rattle.journal_laws.proofs.Applying.{put_threads-named, put_threads-there}
use Rattle.journal_laws.proofs.Runs.{run_keeps}
use Rattle.journal_laws.proofs.Stepping.{step_of}
use Rattle.journal_laws.proofs.Surviving.{some_is, some_none, no_steps}
use Rattle.commit_book.specs.Doing.{is_over}
use Rattle.commit_book.specs.Run.{saves, stood_at}

-- what comes of no end comes of an expression that isn't over
module _ {X : Type 0} (p : ProgramParts) (f : Look Expr → Option X) (at_done : (v : Datum) → f (done v) ≡ None) (at_fault : (k : Fault) → f (fault k) ≡ None) where
  going_by : (e : Expr) (x : X) → f (look_in p e) ≡ Some x → is_over e ≡ false
  going_by (value v) x is = absurd (some_none (sym is ∙ at_done v))
  going_by (failed k) x is = absurd (some_none (sym is ∙ at_fault k))
  going_by _ x is = refl

-- a thread is there, and isn't over
pub record IsGoing (threads : FinMap nat_cmp Expr) (t : ℕ) : Type 0 where
  pub expr : Expr
  pub found : map.get threads t ≡ Some expr
  pub going : is_over expr ≡ false

one_of : (t u : ℕ) → has (u ∷ []) t ≡ true → t ≡ u
one_of t u acts = elim (nat_eq t u) as (λ b. nat_eq t u ≡ b → cond b true false ≡ true → t ≡ u) [
  | true ↦ λ at h. eqb-true t u at
  | false ↦ λ at h. absurd (false≢true h)
] refl acts

one_actor : (threads : FinMap nat_cmp Expr) (u t : ℕ) (f : List Expr → Option (Effect Expr)) (eff : Effect Expr) → has (u ∷ []) t ≡ true → option_and_then f (exprs_at threads (u ∷ [])) ≡ Some eff
    → ((e : Expr) → f (e ∷ []) ≡ Some eff → is_over e ≡ false) → IsGoing threads t
one_actor threads u t f eff acts is going =
    subst (IsGoing threads) (sym (one_of t u acts))
    (elim (map.get threads u) as (λ o. map.get threads u ≡ o → option_and_then f (option_and_then (λ e. option_map (λ es. e ∷ es) (Some [])) o) ≡ Some eff → IsGoing threads u) [
      | None ↦ λ at is. absurd (some_none (sym is))
      | (Some e) ↦ λ at is. record { expr = e; found = at; going = going e is }
    ] refl is)

two_actors : (threads : FinMap nat_cmp Expr) (u v t : ℕ) (f : List Expr → Option (Effect Expr)) (eff : Effect Expr) → has (u ∷ v ∷ []) t ≡ true → option_and_then f (exprs_at threads (u ∷ v ∷ [])) ≡ Some eff
    → ((a b : Expr) → f (a ∷ b ∷ []) ≡ Some eff → (is_over a ≡ false) × (is_over b ≡ false)) → IsGoing threads t
two_actors threads u v t f eff acts is going =
    elim (map.get threads u) as (λ o. map.get threads u ≡ o → option_and_then f (option_and_then (λ e. option_map (λ es. e ∷ es) (exprs_at threads (v ∷ []))) o) ≡ Some eff → IsGoing threads t) [
      | None ↦ λ at is. absurd (some_none (sym is))
      | (Some a) ↦ λ at is. elim (map.get threads v) as (λ o. map.get threads v ≡ o → option_and_then f (option_map (λ es. a ∷ es) (option_and_then (λ e. option_map (λ es. e ∷ es) (Some [])) o)) ≡ Some eff → IsGoing threads t) [
        | None ↦ λ there is. absurd (some_none (sym is))
        | (Some b) ↦ λ there is.
            let both = going a b is in
            elim (nat_eq t u) as (λ c. nat_eq t u ≡ c → cond c true (has (v ∷ []) t) ≡ true → IsGoing threads t) [
              | true ↦ λ same h. subst (IsGoing threads) (sym (eqb-true t u same)) (record { expr = a; found = at; going = both.0 })
              | false ↦ λ other h. subst (IsGoing threads) (sym (one_of t v h)) (record { expr = b; found = there; going = both.1 })
            ] refl acts
      ] refl is
    ] refl is

abbrev met : Expr → Expr → Effect Expr
met a e = record { mine = answered a unit; other = e; value = unit; printed = [] }

none_sent : {X : Type 0} (f : Datum → Option X) → ((v : Datum) → f v ≡ None) → (o : Option Datum) → option_and_then f o ≡ None
none_sent f none None = refl
none_sent f none (Some v) = none v

comm_going : (p : ProgramParts) (c : ℕ) (a b : Expr) (eff : Effect Expr) → comm_by (language_of p) c a b ≡ Some eff → (is_over a ≡ false) × (is_over b ≡ false)
comm_going p c a b eff is = (
  going_by p (λ l. option_and_then (λ v. option_map (met a) (received_by (language_of p) c b v (look_in p b))) (sent_by (language_of p) c l)) (λ v. refl) (λ k. refl) a eff is,
  going_by p (λ l. option_and_then (λ v. option_map (met a) (received_by (language_of p) c b v l)) (sent_by (language_of p) c (look_in p a))) (λ v. none_sent _ (λ w. refl) (sent_by (language_of p) c (look_in p a))) (λ k. none_sent _ (λ w. refl) (sent_by (language_of p) c (look_in p a))) b eff is,
)

pub saves_going : (p : ProgramParts) (s : PlainState) (q : ℕ) (l : Label) (t : ℕ) (eff : Effect Expr) → saves l ≡ true → has (actors l) t ≡ true → effect_in (effect_of p) s q l ≡ Some eff → IsGoing s.threads t
saves_going p s q (Enter u) t eff saved acts is = one_actor s.threads u.0 t (λ es. effect_of p q (Enter u) es None) eff acts is (λ e at. going_by p (enter_by (language_of p) q e) (λ v. refl) (λ k. refl) e eff at)
saves_going p s q (Get u r) t eff saved acts is = one_actor s.threads u.0 t (λ es. effect_of p q (Get u r) es (map.get s.references r.0)) eff acts is (λ e at. going_by p (get_by (language_of p) r.0 e (map.get s.references r.0)) (λ v. refl) (λ k. refl) e eff at)
saves_going p s q (Comm x y c) t eff saved acts is = two_actors s.threads x.0 y.0 t (λ es. effect_of p q (Comm x y c) es None) eff acts is (λ a b at. comm_going p c.0 a b eff at)
saves_going p s q _ t eff saved acts is = absurd (false≢true saved)

-- where a thread stood before a step that saves its control, it isn't over
stood_case : (p : ProgramParts) (s end : PlainState) (n : Numbered) (ns : List Numbered) (t : ℕ) (e : Expr) (b : Bool) → (saves n.label && has (actors n.label) t) ≡ b → after_steps (effect_of p) (plain (effect_of p) s n.seq.0 n.label) ns ≡ Some end
    → cond b (map.get s.threads t) None ≡ Some e → is_over e ≡ false
stood_case p s end n ns t e false at run is = absurd (some_none (sym is))
stood_case p s end n ns t e true at run is =
    let both = and_parts (saves n.label) (has (actors n.label) t) at in
    elim (plain (effect_of p) s n.seq.0 n.label) as (λ o. plain (effect_of p) s n.seq.0 n.label ≡ o → after_steps (effect_of p) o ns ≡ Some end → is_over e ≡ false) [
      | None ↦ λ none run. absurd (some_none (sym run ∙ no_steps (effect_of p) ns))
      | (Some m) ↦ λ made run.
          let st = step_of (effect_of p) s n.seq.0 n.label m made in
          let g = saves_going p s n.seq.0 n.label t st.eff both.0 both.1 st.found in
          ap is_over (some_is (sym is ∙ g.found)) ∙ g.going
    ] refl run

pub stood_going : (p : ProgramParts) (q t : ℕ) (ns : List Numbered) (s end : PlainState) (e : Expr) → after_steps (effect_of p) (Some s) ns ≡ Some end → stood_at (effect_of p) q t (Some s) ns ≡ Some e → is_over e ≡ false
stood_going p q t [] s end e run is = absurd (some_none (sym is))
stood_going p q t (n ∷ ns) s end e run is =
    elim (nat_eq q n.seq.0) as (λ b. cond b (cond (saves n.label && has (actors n.label) t) (map.get s.threads t) None) (stood_at (effect_of p) q t (plain (effect_of p) s n.seq.0 n.label) ns) ≡ Some e → is_over e ≡ false) [
      | true ↦ λ is. stood_case p s end n ns t e (saves n.label && has (actors n.label) t) refl run is
      | false ↦ λ is. elim (plain (effect_of p) s n.seq.0 n.label) as (λ o. after_steps (effect_of p) o ns ≡ Some end → stood_at (effect_of p) q t o ns ≡ Some e → is_over e ≡ false) [
        | None ↦ λ run is. absurd (some_none (sym run ∙ no_steps (effect_of p) ns))
        | (Some m) ↦ λ run is. stood_going p q t ns m end e run is
      ] run is
    ] is

module _ {E : Type 0} (effect : Table E) where
  -- the state before a step of a run, and what the step does
  pub record IsBefore (o : Option (State E)) (before : List Numbered) (n : Numbered) : Type 0 where
    pub state : State E
    pub led : after_steps effect o before ≡ Some state
    pub eff : Effect E
    pub found : effect_in effect state n.seq.0 n.label ≡ Some eff

  pub before_of : (before : List Numbered) (o : Option (State E)) (n : Numbered) (after : List Numbered) (end : State E) → after_steps effect o (before ++ n ∷ after) ≡ Some end → IsBefore o before n
  before_of [] None n after end run = absurd (some_none (sym run ∙ no_steps effect (n ∷ after)))
  before_of [] (Some s) n after end run =
      elim (plain effect s n.seq.0 n.label) as (λ o. plain effect s n.seq.0 n.label ≡ o → after_steps effect o after ≡ Some end → IsBefore (Some s) [] n) [
        | None ↦ λ none run. absurd (some_none (sym run ∙ no_steps effect after))
        | (Some m) ↦ λ made run. let st = step_of effect s n.seq.0 n.label m made in record { state = s; led = refl; eff = st.eff; found = st.found }
      ] refl run
  before_of (k ∷ before) o n after end run = let b = before_of before (next effect o k) n after end run in record { state = b.state; led = b.led; eff = b.eff; found = b.found }

  keeps_there : (t : ℕ) (s m : State E) (q : ℕ) (l : Label) → map.contains_key s.threads t ≡ true → plain effect s q l ≡ Some m → map.contains_key m.threads t ≡ true
  keeps_there t s m q l there made =
      let st = step_of effect s q l m made in
      subst (λ (y : State E). map.contains_key y.threads t ≡ true) (sym st.is) (put_threads-there (touched l) st.eff.mine st.eff.other s.threads t there)

  -- a thread that a step of a run touches is there at its end
  pub touched_there : (before : List Numbered) (o : Option (State E)) (n : Numbered) (after : List Numbered) (end : State E) (t : ℕ) → after_steps effect o (before ++ n ∷ after) ≡ Some end → has (touched n.label) t ≡ true → map.contains_key end.threads t ≡ true
  touched_there [] None n after end t run at = absurd (some_none (sym run ∙ no_steps effect (n ∷ after)))
  touched_there [] (Some s) n after end t run at =
      elim (plain effect s n.seq.0 n.label) as (λ o. plain effect s n.seq.0 n.label ≡ o → after_steps effect o after ≡ Some end → map.contains_key end.threads t ≡ true) [
        | None ↦ λ none run. absurd (some_none (sym run ∙ no_steps effect after))
        | (Some m) ↦ λ made run.
            let st = step_of effect s n.seq.0 n.label m made in
            run_keeps effect (λ (y : State E). map.contains_key y.threads t ≡ true) (λ a b q l. keeps_there t a b q l) after m end
            (subst (λ (y : State E). map.contains_key y.threads t ≡ true) (sym st.is) (put_threads-named (touched n.label) st.eff.mine st.eff.other s.threads t at)) run
      ] refl run
  touched_there (k ∷ before) o n after end t run at = touched_there before (next effect o k) n after end t run at
