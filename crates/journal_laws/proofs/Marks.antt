-- Each section in a thread's expression is one that the thread entered in the run.
use Rattle.std.proofs.Common.{◌≡◌, ℕ, Bool, true, false, cond, ◌&&◌, ◌||◌, nat_eq, List, [], ◌∷◌, Option, Some, None, refl, sym, ap, subst, ◌∙◌}
use Rattle.std.specs.Prelude.{option_and_then, option_map}
use Rattle.std.specs.Cmp.{nat_eq_equiv}
use Rattle.std.specs.FinMap as map
use Rattle.std.specs.FinMap.{FinMap}
use Rattle.std.specs.Ordering.{nat_cmp}
use Rattle.std.proofs.lemmas.Bool.{false≢true, eqb-true}
use Rattle.stab_base.specs.Datum.{Datum, unit, truth, int, text, chan, reference, pair}
use Rattle.stab_journal.specs.declared.event.Label.{Label}
use Rattle.stab_journal.specs.declared.event.Label.TheVariants.{Local, Spawn, NewChan, Comm, NewRef, Get, Set, Enter, Cut, Print, Probe, Refuse, Pin, Attempt}
use Rattle.stab_journal.specs.declared.event.Numbered.{Numbered}
use Rattle.stab_journal.specs.Label.{actors, touched, written}
use Rattle.stab_journal.specs.Names.{read, made}
use Rattle.language.specs.Steps.{State, Effect, exprs_at, held_at, put_threads, effect_in, plain, after_steps}
use Rattle.language.specs.Table.{spawns, Look, act, Language, spawn_by, received_by, effect}
use Rattle.journal_laws.specs.Entered.{enters_by, is_entered_by}
use Rattle.journal_laws.specs.Known.{Known, sections_alone, IsMore, IsIn, IsLookIn, AreNumbersKept}
use Rattle.language.proofs.Applying.{get_inserted}
use Rattle.journal_laws.proofs.Chains.{or_right}
use Rattle.journal_laws.proofs.Closed.{SectionIn, IsEffectIn, SomeIn, ExprIn, ValueIn, NameIn, effect_is_in, received_in}
use Rattle.journal_laws.proofs.Stepping.{step_of}
use Rattle.journal_laws.proofs.Surviving.{some_is, some_none, no_steps}

-- all numbers of values are known
any_value : (f : ℕ → Bool) (v : Datum) → IsIn (sections_alone f) v
any_value f (chan c) = refl
any_value f (reference r) = refl
any_value f (pair a b) = (any_value f a, any_value f b)
any_value f unit = tt
any_value f (truth b) = tt
any_value f (int n) = tt
any_value f (text t) = tt

more_sections : (f g : ℕ → Bool) → ((m : ℕ) → f m ≡ true → g m ≡ true) → IsMore (sections_alone f) (sections_alone g)
more_sections f g h = record { channels = λ c i. refl; references = λ r i. refl; sections = h }

-- the sections that a thread entered, after one more step
abbrev grown : (ℕ → ℕ → Bool) → ℕ → Label → ℕ → ℕ → Bool
grown entered q l t m = (nat_eq m q && enters_by t l) || entered t m

grows : (entered : ℕ → ℕ → Bool) (q : ℕ) (l : Label) (t : ℕ) → IsMore (sections_alone (entered t)) (sections_alone (grown entered q l t))
grows entered q l t = more_sections _ _ (λ m h. or_right (nat_eq m q && enters_by t l) _ h)

-- the first actor's new section is its own
own_section : (entered : ℕ → ℕ → Bool) (q : ℕ) (l : Label) (t : ℕ) (ts : List ℕ) → actors l ≡ t ∷ ts → SectionIn (sections_alone (grown entered q l t)) q l
own_section entered q (Enter u) t ts is =
    let same : u.0 ≡ t = cc in
    ap (λ b. (b && nat_eq t u.0) || entered t q) (nat_eq_equiv.refl q) ∙ ap (λ b. b || entered t q) (ap (λ k. nat_eq t k) same ∙ nat_eq_equiv.refl t)
own_section entered q _ t ts is = tt

regroup : (a b c : Bool) → (b || (a || c)) ≡ true → ((a || b) || c) ≡ true
regroup true b c h = refl
regroup false b c h = h

or_false_right : (a : Bool) → (a || false) ≡ true → a ≡ true
or_false_right true h = refl
or_false_right false h = h

-- what one or two threads stand at
record One {E : Type 0} (m : FinMap nat_cmp E) (t : ℕ) (f : List E → Option (Effect E)) (eff : Effect E) : Type 0 where
  e : E
  at : map.get m t ≡ Some e
  is : f (e ∷ []) ≡ Some eff

one_actor : {E : Type 0} (m : FinMap nat_cmp E) (t : ℕ) (f : List E → Option (Effect E)) (eff : Effect E) → option_and_then f (exprs_at m (t ∷ [])) ≡ Some eff → One m t f eff
one_actor m t f eff is =
    elim (map.get m t) as (λ o. map.get m t ≡ o → option_and_then f (option_and_then (λ e. option_map (λ es. e ∷ es) (Some [])) o) ≡ Some eff → One m t f eff) [
      | None ↦ λ at is. absurd (some_none (sym is))
      | (Some e) ↦ λ at is. record { e = e; at = at; is = is }
    ] refl is

record Two {E : Type 0} (m : FinMap nat_cmp E) (t u : ℕ) (f : List E → Option (Effect E)) (eff : Effect E) : Type 0 where
  a : E
  b : E
  at : map.get m t ≡ Some a
  too : map.get m u ≡ Some b
  is : f (a ∷ b ∷ []) ≡ Some eff

two_actors : {E : Type 0} (m : FinMap nat_cmp E) (t u : ℕ) (f : List E → Option (Effect E)) (eff : Effect E) → option_and_then f (exprs_at m (t ∷ u ∷ [])) ≡ Some eff → Two m t u f eff
two_actors m t u f eff is =
    elim (map.get m t) as (λ o. map.get m t ≡ o → option_and_then f (option_and_then (λ e. option_map (λ es. e ∷ es) (exprs_at m (u ∷ []))) o) ≡ Some eff → Two m t u f eff) [
      | None ↦ λ at is. absurd (some_none (sym is))
      | (Some a) ↦ λ at is.
          elim (map.get m u) as (λ o. map.get m u ≡ o → option_and_then f (option_map (λ es. a ∷ es) (option_and_then (λ e. option_map (λ es. e ∷ es) (Some [])) o)) ≡ Some eff → Two m t u f eff) [
            | None ↦ λ too is. absurd (some_none (sym is))
            | (Some b) ↦ λ too is. record { a = a; b = b; at = at; too = too; is = is }
          ] refl is
    ] refl is

module _ {E : Type 0} (g : Language E) (In : Known → E → Type 0) (kept : AreNumbersKept g In) where
  -- the sections in each thread's expression are among those that it entered
  abbrev pub AreEntered : (ℕ → ℕ → Bool) → State E → Type 0
  AreEntered entered s = (t : ℕ) (e : E) → map.get s.threads t ≡ Some e → In (sections_alone (entered t)) e

  -- of an effect, the sections in where the first actor then stands, and where the other thread that it touches does
  record Stand (mine other : ℕ → Bool) (eff : Effect E) : Type 0 where
    first : In (sections_alone mine) eff.mine
    second : In (sections_alone other) eff.other

  any_held : (f : ℕ → Bool) (o : Option Datum) → ValueIn g In kept (sections_alone f) o
  any_held f None = tt
  any_held f (Some v) = any_value f v

  any_name : (o : Option ℕ) → NameIn (λ _. true) o
  any_name None = tt
  any_name (Some q) = refl

  effect_at : (k : Known) (o : Option (Effect E)) (eff : Effect E) → o ≡ Some eff → SomeIn g In kept k o → IsEffectIn g In kept k eff
  effect_at k o eff is h = subst (SomeIn g In kept k) is h

  -- of a step with one actor
  alone : (f : ℕ → Bool) (q : ℕ) (l : Label) (e : E) (held : Option Datum) (eff : Effect E) → SectionIn (sections_alone f) q l → effect g q l (e ∷ []) held ≡ Some eff → In (sections_alone f) e → IsEffectIn g In kept (sections_alone f) eff
  alone f q l e held eff own is h = effect_at (sections_alone f) _ eff is (effect_is_in g In kept (sections_alone f) q l (e ∷ []) held (h, tt) (any_held f held) (any_name (made l)) (any_name (written l)) own)

  -- the body that a new thread gets has no section
  spawned_in : (f : ℕ → Bool) (e : E) (o : Look E) (eff : Effect E) → IsLookIn In (sections_alone f) o → spawn_by g e o ≡ Some eff → In (sections_alone (λ _. false)) eff.other
  spawned_in f e (act (spawns body)) eff h is = subst (λ (x : Effect E). In (sections_alone (λ _. false)) x.other) (some_is is) h
  spawned_in f e _ eff h is = absurd (cc)

  -- of a Comm each side keeps its own sections
  abbrev met : E → E → Effect E
  met a e = record { mine = g.answered a unit; other = e; value = unit; printed = [] }

  receive_side : (f h : ℕ → Bool) (a : E) (o : Option E) (eff : Effect E) → In (sections_alone f) a → ExprIn g In kept (sections_alone h) o → option_map (met a) o ≡ Some eff → Stand f h eff
  receive_side f h a None eff i j is = absurd (cc)
  receive_side f h a (Some e) eff i j is = subst (Stand f h) (some_is is) (record { first = kept.answered (sections_alone f) a unit i tt; second = j })

  send_side : (f h : ℕ → Bool) (c : ℕ) (a b : E) (o : Option Datum) (eff : Effect E) → In (sections_alone f) a → In (sections_alone h) b → option_and_then (λ v. option_map (met a) (received_by g c b v (g.look b))) o ≡ Some eff → Stand f h eff
  send_side f h c a b None eff i j is = absurd (cc)
  send_side f h c a b (Some v) eff i j is = receive_side f h a _ eff i (received_in g In kept (sections_alone h) c b v (g.look b) j (any_value h v)) is

  module _ (entered : ℕ → ℕ → Bool) (s : State E) (all : AreEntered entered s) (q : ℕ) where
    -- where a thread stood, its sections are known after the step too
    stood : (l : Label) (t : ℕ) (e : E) → map.get s.threads t ≡ Some e → In (sections_alone (grown entered q l t)) e
    stood l t e at = kept.more _ _ (grows entered q l t) e (all t e at)

    only : (l : Label) (t : ℕ) (eff : Effect E) → actors l ≡ t ∷ [] → effect_in (effect g) s q l ≡ Some eff → IsEffectIn g In kept (sections_alone (grown entered q l t)) eff
    only l t eff acts is =
        let o = one_actor s.threads t (λ es. effect g q l es (held_at s.references (read l))) eff (ap (λ ts. option_and_then (λ es. effect g q l es (held_at s.references (read l))) (exprs_at s.threads ts)) (sym acts) ∙ is) in
        alone _ q l o.e _ eff (own_section entered q l t [] acts) o.is (stood l t o.e o.at)

    -- after a step, what the threads that it touches stand at
    abbrev Touched : Label → List ℕ → Effect E → Type 0
    Touched l [] eff = Unit {0}
    Touched l (t ∷ []) eff = In (sections_alone (grown entered q l t)) eff.mine
    Touched l (t ∷ u ∷ []) eff = In (sections_alone (grown entered q l t)) eff.mine × In (sections_alone (grown entered q l u)) eff.other
    Touched l (t ∷ u ∷ w ∷ ts) eff = ⊥

    touches : (l : Label) (eff : Effect E) → effect_in (effect g) s q l ≡ Some eff → Touched l (touched l) eff
    touches (Spawn t u) eff is =
        let o = one_actor s.threads t.0 (λ es. effect g q (Spawn t u) es None) eff is in (
          (only (Spawn t u) t.0 eff refl is).mine,
          kept.more _ _ (more_sections (λ _. false) _ (λ m h. absurd (false≢true h))) eff.other (spawned_in (entered t.0) o.e (g.look o.e) eff (kept.look _ o.e (all t.0 o.e o.at)) o.is),
        )
    touches (Comm t u c) eff is =
        let o = two_actors s.threads t.0 u.0 (λ es. effect g q (Comm t u c) es None) eff is in
        let both = send_side _ _ c.0 o.a o.b _ eff (stood (Comm t u c) t.0 o.a o.at) (stood (Comm t u c) u.0 o.b o.too) o.is in
        (both.first, both.second)
    touches (Local t n) eff is = (only (Local t n) t.0 eff refl is).mine
    touches (NewChan t c) eff is = (only (NewChan t c) t.0 eff refl is).mine
    touches (NewRef t r) eff is = (only (NewRef t r) t.0 eff refl is).mine
    touches (Get t r) eff is = (only (Get t r) t.0 eff refl is).mine
    touches (Set t r) eff is = (only (Set t r) t.0 eff refl is).mine
    touches (Enter t) eff is = (only (Enter t) t.0 eff refl is).mine
    touches (Cut t) eff is = (only (Cut t) t.0 eff refl is).mine
    touches (Print t) eff is = (only (Print t) t.0 eff refl is).mine
    touches (Probe t i) eff is = (only (Probe t i) t.0 eff refl is).mine
    touches (Refuse t) eff is = (only (Refuse t) t.0 eff refl is).mine
    touches (Pin t) eff is = (only (Pin t) t.0 eff refl is).mine
    touches (Attempt t n) eff is = (only (Attempt t n) t.0 eff refl is).mine

    -- one of the threads that were put, or another one
    put_case : (l : Label) (t : ℕ) (a e : E) (m : FinMap nat_cmp E) (u : ℕ) → In (sections_alone (grown entered q l t)) a → (map.get m u ≡ Some e → In (sections_alone (grown entered q l u)) e) → map.get (map.insert m t a) u ≡ Some e → In (sections_alone (grown entered q l u)) e
    put_case l t a e m u h f is =
        elim (nat_eq u t) as (λ b. nat_eq u t ≡ b → cond b (Some a) (map.get m u) ≡ Some e → In (sections_alone (grown entered q l u)) e) [
          | true ↦ λ same is. subst (λ (k : ℕ). In (sections_alone (grown entered q l k)) e) (sym (eqb-true u t same)) (subst (In (sections_alone (grown entered q l t))) (some_is is) h)
          | false ↦ λ same is. f is
        ] refl (sym (get_inserted m t a u) ∙ is)

    put : (l : Label) (ts : List ℕ) (eff : Effect E) → Touched l ts eff → (u : ℕ) (e : E) → map.get (put_threads ts eff.mine eff.other s.threads) u ≡ Some e → In (sections_alone (grown entered q l u)) e
    put l [] eff h u e is = stood l u e is
    put l (t ∷ []) eff h u e is = put_case l t eff.mine e s.threads u h (stood l u e) is
    put l (t ∷ v ∷ []) eff h u e is = put_case l t eff.mine e _ u h.0 (put_case l v eff.other e s.threads u h.1 (stood l u e)) is
    put l (t ∷ v ∷ w ∷ ts) eff h u e is = absurd h

    step_entered : (l : Label) (n : State E) → plain (effect g) s q l ≡ Some n → AreEntered (grown entered q l) n
    step_entered l n is u e at =
        let st = step_of (effect g) s q l n is in
        put l (touched l) st.eff (touches l st.eff st.found) u e (ap (λ (y : State E). map.get y.threads u) (sym st.is) ∙ at)

  -- a thread's sections after a run
  run_entered : (run : List Numbered) (s end : State E) (entered : ℕ → ℕ → Bool) → AreEntered entered s → after_steps (effect g) (Some s) run ≡ Some end → AreEntered (λ t m. is_entered_by t run m || entered t m) end
  run_entered [] s end entered all is t e at = all t e (ap (λ (y : State E). map.get y.threads t) (some_is is) ∙ at)
  run_entered (n ∷ ns) s end entered all is t e at =
      elim (plain (effect g) s n.seq.0 n.label) as (λ o. plain (effect g) s n.seq.0 n.label ≡ o → after_steps (effect g) o ns ≡ Some end → In (sections_alone (λ m. is_entered_by t (n ∷ ns) m || entered t m)) e) [
        | None ↦ λ step is. absurd (some_none (sym is ∙ no_steps (effect g) ns))
        | (Some m) ↦ λ step is.
            kept.more _ _ (more_sections _ _ (λ k h. regroup (nat_eq k n.seq.0 && enters_by t n.label) (is_entered_by t ns k) (entered t k) h)) e
            (run_entered ns m end (grown entered n.seq.0 n.label) (step_entered entered s all n.seq.0 n.label m step) is t e at)
      ] refl is

  -- from a state without sections
  pub marks_entered : (run : List Numbered) (s end : State E) → AreEntered (λ t m. false) s → after_steps (effect g) (Some s) run ≡ Some end → AreEntered (λ t. is_entered_by t run) end
  marks_entered run s end none is t e at = kept.more _ _ (more_sections _ _ (λ m h. or_false_right (is_entered_by t run m) h)) e (run_entered run s end (λ t m. false) none is t e at)
