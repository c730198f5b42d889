-- A thread does nothing before it is spawned, so it loses all its steps where its spawn goes.
use Rattle.std.proofs.Common.{◌≡◌, ℕ, Bool, true, false, cond, ◌||◌, nat_eq, List, ◌∷◌, ◌++◌, Some, refl, sym, ap, subst, ◌∙◌}
use Rattle.std.proofs.lemmas.Bool.{false≢true}
use Rattle.stab_journal.specs.declared.event.Label.{Label}
use Rattle.stab_journal.specs.declared.event.Label.TheVariants.{Spawn}
use Rattle.stab_journal.specs.declared.event.Numbered.{Numbered}
use Rattle.stab_journal.specs.Dependence.{writes_what}
use Rattle.stab_journal.specs.Label.{actors, spawned, touched}
use Rattle.stab_journal.specs.Names.{has, is_at, read}
use Rattle.stab_journal.specs.Reached.{nothing_lost, reached}
use Rattle.stab_code.specs.Program.{ProgramParts}
use Rattle.language.specs.Plain.{PlainState, IsRun, effect_of, start}
use Rattle.language.specs.Steps.{after_steps}
use Rattle.journal_laws.specs.Lines.{is_touched}
use Rattle.journal_laws.proofs.Chains.{any_of, or_right, upward}
use Rattle.journal_laws.proofs.FirstLost.{spawned_once}
use Rattle.journal_laws.proofs.Gone.{order, later, itself, sooner, spawn_touches}
use Rattle.journal_laws.proofs.Reaching.{reached_by}

if_first : (b c : Bool) → cond b true false ≡ true → cond b true c ≡ true
if_first true c h = refl
if_first false c h = absurd (false≢true h)

-- who acts is touched
pub acts_touch : (l : Label) (t : ℕ) → has (actors l) t ≡ true → has (touched l) t ≡ true
acts_touch (Spawn s u) t h = if_first (nat_eq t s.0) (cond (nat_eq t u.0) true false) h
acts_touch _ t h = h

module _ (p : ProgramParts) (s : PlainState) (run : List Numbered) (r : IsRun p run s) (before : List Numbered) (n : Numbered) (after : List Numbered) (u : ℕ) (cut : run ≡ before ++ n ∷ after) (spawns : is_at (spawned n.label) u ≡ true) where
  not_before : is_touched u before ≡ true → ⊥
  not_before is = spawned_once (effect_of p) before (Some (start p)) n after s u (ap (after_steps (effect_of p) (Some (start p))) (sym cut) ∙ r.ends) (λ t at. or_right _ _ is) spawns

  pub unspawned : is_touched u before ≡ false
  unspawned = elim (is_touched u before) as (λ b. is_touched u before ≡ b → b ≡ false) [ true ↦ λ is. absurd (not_before is) | false ↦ λ is. refl ] refl

  pub all_lost : (m : ℕ) → has (reached run m) n.seq.0 ≡ true → (front : List Numbered) (f : Numbered) (back : List Numbered) → run ≡ front ++ f ∷ back → has (actors f.label) u ≡ true → has (reached run m) f.seq.0 ≡ true
  all_lost m goes front f back there acts = elim (order u before n after front f back (acts_touch f.label u acts) (sym cut ∙ there)) [
    | (later between is) ↦ upward m (has (reached run m)) nothing_lost run (reached_by m (has (reached run m)) run nothing_lost 1 r.rises (λ k le. refl)) n f
        (record { before = before; between = between; after = back; is = cut ∙ ap (λ k. before ++ n ∷ k) is; how = ap (λ b. b || writes_what n.label between (read f.label)) (any_of (has (touched n.label)) (actors f.label) u acts (spawn_touches n.label u spawns)) }) goes
    | (itself is) ↦ subst (λ (k : Numbered). has (reached run m) k.seq.0 ≡ true) is goes
    | (sooner h) ↦ absurd (not_before h)
  ]
