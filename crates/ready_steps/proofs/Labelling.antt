-- The step by which a thread does what it does next is one that the language has.
use Rattle.std.proofs.Common.{◌≡◌, ℕ, true, cond, not, [], ◌∷◌, List, Option, Some, None, refl, sym, ap, subst, ◌∙◌}
use Rattle.std.specs.Prelude.{IfSome, IsSome, option_and_then, option_map, is_some, nat_lt, ◌^◌}
use Rattle.std.specs.Cmp.{nat_eq_equiv}
use Rattle.std.specs.FinMap as map
use Rattle.std.proofs.lemmas.Bool.{false≢true}
use Rattle.stab_base.specs.Datum.{Datum, unit, int}
use Rattle.stab_base.specs.declared.numbers.ThreadId.{ThreadId}
use Rattle.stab_code.specs.Program.{ProgramParts}
use Rattle.stab_journal.specs.declared.event.Label.{Label}
use Rattle.stab_journal.specs.declared.event.Label.TheVariants.{Spawn, NewChan, NewRef, Get, Set, Enter, Cut, Print, Probe, Pin, Attempt}
use Rattle.stab_journal.specs.Label.{actors}
use Rattle.stab_journal.specs.Names.{read}
use Rattle.plain_language.specs.declared.look.Look as told
use Rattle.language.specs.Expression.{Expr}
use Rattle.language.specs.Plain.{PlainState, effect_of, language_of, look_in, plain_step, standing}
use Rattle.plain_language.specs.Seen.{seen}
use Rattle.language.specs.Steps.{Effect, allows, effect_in, exprs_at, held_at}
use Rattle.language.specs.Table.{spawns, makes_chan, makes_ref, gets, sets, sends, receives, picks, enters, stabilizes, cuts, pins, prints, probes, attempts, Look, done, fault, act, pure, Language, to, spawn_by, chan_by, ref_by, get_by, set_by, enter_by, cut_by, pin_by, print_by, probe_by, attempt_by, effect}
use Rattle.journal_laws.specs.Known.{IsExprIn, IsLookIn, known_in}
use Rattle.journal_laws.proofs.Occurring.{kept}
use Rattle.journal_laws.proofs.Stepping.{plain_of}
use Rattle.ready_steps.specs.declared.label.Given.{Given}
use Rattle.ready_steps.specs.Labels.{IsOpen, label_of}
use Rattle.ready_steps.specs.Ready.{look_of}

some_is : {A : Type 0} {x y : A} → Some x ≡ Some y → x ≡ y
some_is h = cc

held : (o : Option Datum) → is_some o ≡ true → (v : Datum) × (o ≡ Some v)
held None h = absurd (false≢true h)
held (Some v) h = (v, refl)

module _ (p : ProgramParts) (s : PlainState) (q : ℕ) (t : ThreadId) where
  abbrev g : Language Expr
  g = language_of p

  -- a step of one thread is there where it has an effect and is allowed
  pub alone : (l : Label) (e : Expr) (f : Effect Expr) → actors l ≡ t.0 ∷ [] → standing s t.0 ≡ Some e → allows s l ≡ true → effect g q l (e ∷ []) (held_at s.references (read l)) ≡ Some f → IsSome (plain_step p s q l)
  alone l e f acts at allowed is =
      let exprs : exprs_at s.threads (actors l) ≡ Some (e ∷ []) = ap (exprs_at s.threads) acts ∙ ap (λ (o : Option Expr). option_and_then (λ x. option_map (λ (xs : List Expr). x ∷ xs) (Some [])) o) at in
      let found : effect_in (effect_of p) s q l ≡ Some f = ap (λ (o : Option (List Expr)). option_and_then (λ es. effect g q l es (held_at s.references (read l))) o) exprs ∙ is in
      subst (λ (o : Option PlainState). IsSome o) (sym (plain_of (effect_of p) s q l f found allowed)) refl

  module _ (given : Given) (opened : IsOpen s given) where
    by_look : (e : Expr) (k : Look Expr) → standing s t.0 ≡ Some e → look_in p e ≡ k → IsLookIn IsExprIn (known_in s) k → IfSome (label_of t given (seen k)) (λ l. IsSome (plain_step p s q l))
    by_look e (done v) at is known = tt
    by_look e (fault k) at is known = tt
    by_look e (pure x) at is known = tt
    by_look e (act (sends c v)) at is known = tt
    by_look e (act (receives c)) at is known = tt
    by_look e (act (picks c d)) at is known = tt
    by_look e (act stabilizes) at is known = tt
    by_look e (act (spawns b)) at is known = alone (Spawn t given.thread) e _ refl at (ap not opened.thread) (ap (spawn_by g e) is)
    by_look e (act makes_chan) at is known = alone (NewChan t given.chan) e _ refl at (ap not opened.chan) (ap (chan_by g given.chan.0 e) is)
    by_look e (act (makes_ref v)) at is known = alone (NewRef t given.reference) e _ refl at (ap not opened.reference) (ap (ref_by g given.reference.0 e) is)
    by_look e (act (gets r)) at is known =
        let v : (v : Datum) × (map.get s.references r ≡ Some v) = held (map.get s.references r) known in
        alone (Get t (record { 0 = r })) e (to g (g.answered e v.0)) refl at refl
        (ap (λ (k : Look Expr). get_by g r e (map.get s.references r) k) is
        ∙ ap (λ b. cond b (option_map (λ w. to g (g.answered e w)) (map.get s.references r)) None) (nat_eq_equiv.refl r)
        ∙ ap (option_map (λ w. to g (g.answered e w))) v.1)
    by_look e (act (sets r v)) at is known =
        alone (Set t (record { 0 = r })) e (record { mine = g.answered e unit; other = e; value = v; printed = [] }) refl at known.0
        (ap (set_by g r e) is ∙ ap (λ b. cond b (Some (record { mine = g.answered e unit; other = e; value = v; printed = [] })) None) (nat_eq_equiv.refl r))
    by_look e (act (enters b)) at is known = alone (Enter t) e _ refl at refl (ap (enter_by g q e) is)
    by_look e (act cuts) at is known = alone (Cut t) e _ refl at refl (ap (cut_by g e) is)
    by_look e (act pins) at is known = alone (Pin t) e _ refl at refl (ap (pin_by g e) is)
    by_look e (act (prints v)) at is known = alone (Print t) e _ refl at refl (ap (print_by g e) is)
    by_look e (act probes) at is known =
        alone (Probe t given.probe) e (to g (g.answered e (int given.probe))) refl at refl (ap (probe_by g given.probe e) is ∙ ap (λ b. cond b (Some (to g (g.answered e (int given.probe)))) None) opened.probe)
    by_look e (act attempts) at is known =
        alone (Attempt t given.generation) e (to g (g.answered e (int (Rattle.std.specs.Prelude.pos given.generation)))) refl at refl
        (ap (attempt_by g given.generation e) is ∙ ap (λ b. cond b (Some (to g (g.answered e (int (Rattle.std.specs.Prelude.pos given.generation))))) None) opened.generation)

    by_standing : (o : Option Expr) (d : told.Look) → standing s t.0 ≡ o → option_map (λ (e : Expr). seen (look_in p e)) o ≡ Some d → IfSome (label_of t given d) (λ l. IsSome (plain_step p s q l))
    by_standing None d at is = absurd (let no : None ≡ Some d = is in cc)
    by_standing (Some e) d at is =
        subst (λ (x : told.Look). IfSome (label_of t given x) (λ l. IsSome (plain_step p s q l))) (some_is is)
        (by_look e (look_in p e) at refl ((kept p).look (known_in s) e (opened.known.threads t.0 e at)))

    pub can : (d : told.Look) → look_of p s t.0 ≡ Some d → IfSome (label_of t given d) (λ l. IsSome (plain_step p s q l))
    can d is = by_standing (standing s t.0) d refl is
