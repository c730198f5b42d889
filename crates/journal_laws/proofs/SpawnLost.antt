-- A thread whose spawn goes isn't there where the steps that stay end.
use Rattle.std.proofs.Common.{◌≡◌, ℕ, Bool, true, false, ◌&&◌, ◌||◌, List, [], ◌∷◌, ◌++◌, Option, Some, None, refl, sym, ap, ◌∙◌}
use Rattle.std.specs.Prelude.{is_some}
use Rattle.std.specs.FinMap as map
use Rattle.std.proofs.lemmas.Bool.{false≢true}
use Rattle.std.proofs.Math.Bool.{and-false}
use Rattle.stab_journal.specs.declared.event.Numbered.{Numbered}
use Rattle.stab_journal.specs.Label.{spawned}
use Rattle.stab_journal.specs.Names.{is_at}
use Rattle.language.specs.Steps.{State, Table, plain, next, after_steps}
use Rattle.journal_laws.specs.Lines.{is_touched}
use Rattle.journal_laws.specs.Lost.{is_hit}
use Rattle.journal_laws.specs.Surviving.{IsLawful, thread_of}
use Rattle.journal_laws.proofs.Applying.{or_false}
use Rattle.journal_laws.proofs.Chains.{or_right}
use Rattle.journal_laws.proofs.FirstLost.{spawned_once}
use Rattle.journal_laws.proofs.Gone.{spawn_touches}
use Rattle.journal_laws.proofs.Stepping.{spawned_new, step_of}
use Rattle.journal_laws.proofs.Surviving.{some_none, no_steps}

none_of : {X : Type 0} (o : Option X) → is_some o ≡ false → o ≡ None
none_of None h = refl
none_of (Some x) h = absurd (false≢true (sym h))

not_hit : (gone : ℕ → Bool) (t : ℕ) (ns : List Numbered) → is_touched t ns ≡ false → is_hit gone t ns ≡ false
not_hit gone t [] h = refl
not_hit gone t (n ∷ ns) h =
    let both = or_false _ (is_touched t ns) h in
    ap (λ b. (gone n.seq.0 && b) || is_hit gone t ns) both.0 ∙ ap (λ b. b || is_hit gone t ns) (and-false (gone n.seq.0)) ∙ not_hit gone t ns both.1

module _ {E : Type 0} (effect : Table E) where
  -- a thread isn't there before the step that spawns it
  not_there : (before : List Numbered) (o : Option (State E)) (n : Numbered) (after : List Numbered) (end : State E) (u : ℕ) → after_steps effect o (before ++ n ∷ after) ≡ Some end → is_at (spawned n.label) u ≡ true
      → thread_of (after_steps effect o before) u ≡ None
  not_there [] None n after end u run spawns = refl
  not_there [] (Some s) n after end u run spawns =
      elim (plain effect s n.seq.0 n.label) as (λ o. plain effect s n.seq.0 n.label ≡ o → after_steps effect o after ≡ Some end → map.get s.threads u ≡ None) [
        | None ↦ λ is run. absurd (some_none (sym run ∙ no_steps effect after))
        | (Some m) ↦ λ is run. none_of (map.get s.threads u) (spawned_new s n.label u (step_of effect s n.seq.0 n.label m is).allowed spawns)
      ] refl run
  not_there (k ∷ before) o n after end u run spawns = not_there before (next effect o k) n after end u run spawns

  module _ (gone : ℕ → Bool) (start end at : State E) (run : List Numbered) (law : IsLawful effect gone start run end at) (ends : after_steps effect (Some start) run ≡ Some end) where
    pub spawn_lost : (u : ℕ) (before : List Numbered) (n : Numbered) (after : List Numbered) → run ≡ before ++ n ∷ after → gone n.seq.0 ≡ true → is_at (spawned n.label) u ≡ true → map.get at.threads u ≡ None
    spawn_lost u before n after cut goes spawns =
        let here : after_steps effect (Some start) (before ++ n ∷ after) ≡ Some end = ap (after_steps effect (Some start)) (sym cut) ∙ ends in
        let free : is_touched u before ≡ false =
        elim (is_touched u before) as (λ b. is_touched u before ≡ b → b ≡ false) [
          | true ↦ λ is. absurd (spawned_once effect before (Some start) n after end u here (λ s at. or_right _ _ is) spawns)
          | false ↦ λ is. refl
        ] refl in
        law.stands u before n after cut (not_hit gone u before free) goes (spawn_touches n.label u spawns) ∙ not_there before (Some start) n after end u here spawns
