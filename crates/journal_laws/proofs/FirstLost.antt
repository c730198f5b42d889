-- The first step that a thread loses, and that a thread does nothing before it is spawned.
use Rattle.std.proofs.Common.{◌≡◌, ◌⊎◌, inl, inr, ℕ, Bool, true, false, cond, ◌||◌, nat_eq, List, [], ◌∷◌, ◌++◌, Option, Some, None, refl, sym, ap, subst, ◌∙◌}
use Rattle.std.specs.FinMap as map
use Rattle.std.proofs.lemmas.Bool.{false≢true, eqb-true}
use Rattle.stab_journal.specs.declared.event.Label.{Label}
use Rattle.stab_journal.specs.declared.event.Label.TheVariants.{Local, Spawn, NewChan, Comm, NewRef, Get, Set, Enter, Cut, Print, Probe, Refuse, Pin, Attempt}
use Rattle.stab_journal.specs.declared.event.Numbered.{Numbered}
use Rattle.stab_journal.specs.Label.{actors, touched, spawned}
use Rattle.stab_journal.specs.Journal.{RiseFrom}
use Rattle.language.specs.Steps.{State, Table, plain, after_steps}
use Rattle.stab_journal.specs.Names.{has, is_at}
use Rattle.stab_journal.specs.Reached.{Lost, nothing_lost, after_step, depends, is_reached, reached}
use Rattle.journal_laws.specs.Lost.{is_hit}
use Rattle.journal_laws.proofs.Without.{IsReachedBy, lost_after}
use Rattle.journal_laws.specs.Lines.{is_meeting, is_touched}
use Rattle.journal_laws.proofs.Applying.{put_threads-there, put_threads-named}
use Rattle.journal_laws.proofs.Stepping.{both, spawned_new, step_of}
use Rattle.journal_laws.proofs.Reaching.{reached_by}
use Rattle.journal_laws.proofs.Chains.{or_cases}
use Rattle.journal_laws.proofs.Lawful.{lost_thread}
use Rattle.journal_laws.proofs.Surviving.{some_none, no_steps}

unor : (a : Bool) → ((a || false) || false) ≡ true → a ≡ true
unor true h = refl
unor false h = h

lone : (x : Lost) (t u : ℕ) → has (u ∷ []) t ≡ true → x.threads t ≡ false → ((x.threads u || false) || false) ≡ true → false ≡ true
lone x t u acts free h =
    elim (nat_eq t u) as (λ b. nat_eq t u ≡ b → cond b true false ≡ true → false ≡ true) [
      | true ↦ λ is a. absurd (both _ (unor _ h) (ap x.threads (sym (eqb-true t u is)) ∙ free))
      | false ↦ λ is a. a
    ] refl acts

-- what depends on a lost step though its own thread isn't lost is a Comm or a Get
meets : (l : Label) (x : Lost) (t : ℕ) → has (actors l) t ≡ true → x.threads t ≡ false → depends l x ≡ true → is_meeting l ≡ true
meets (Comm s r c) x t acts free h = refl
meets (Get u r) x t acts free h = refl
meets (Local u n) x t acts free h = lone x t u.0 acts free h
meets (Spawn u v) x t acts free h = lone x t u.0 acts free h
meets (NewChan u c) x t acts free h = lone x t u.0 acts free h
meets (NewRef u r) x t acts free h = lone x t u.0 acts free h
meets (Set u r) x t acts free h = lone x t u.0 acts free h
meets (Enter u) x t acts free h = lone x t u.0 acts free h
meets (Cut u) x t acts free h = lone x t u.0 acts free h
meets (Print u) x t acts free h = lone x t u.0 acts free h
meets (Probe u i) x t acts free h = lone x t u.0 acts free h
meets (Refuse u) x t acts free h = lone x t u.0 acts free h
meets (Pin u) x t acts free h = lone x t u.0 acts free h
meets (Attempt u g) x t acts free h = lone x t u.0 acts free h

at_place : (m : ℕ) (gone : ℕ → Bool) (x : Lost) (before : List Numbered) (f : Numbered) (after : List Numbered) → IsReachedBy m gone x (before ++ f ∷ after) → gone f.seq.0 ≡ is_reached m f (lost_after gone x before)
at_place m gone x [] f after by = by.0
at_place m gone x (n ∷ before) f after by = at_place m gone (after_step (gone n.seq.0) n.label x) before f after by.1

-- the first step that a thread loses, where no lost step spawned it, is the one numbered m, a Comm or a Get
pub first_lost : (run : List Numbered) (m q t : ℕ) → RiseFrom q run → (before : List Numbered) (f : Numbered) (after : List Numbered) → run ≡ before ++ f ∷ after → has (reached run m) f.seq.0 ≡ true → has (actors f.label) t ≡ true → is_hit (λ k. has (reached run m) k) t before ≡ false → (m ≡ f.seq.0) ⊎ (is_meeting f.label ≡ true)
first_lost run m q t rise before f after cut goes acts none =
    let by = reached_by m (λ k. has (reached run m) k) run nothing_lost q rise (λ k le. refl) in
    let this = at_place m (λ k. has (reached run m) k) nothing_lost before f after (subst (λ (l : List Numbered). IsReachedBy m (λ k. has (reached run m) k) nothing_lost l) cut by) in
    or_cases _ _ _ (λ at. inl (eqb-true m f.seq.0 at)) (λ h. inr (meets f.label (lost_after (λ k. has (reached run m) k) nothing_lost before) t acts (lost_thread (λ k. has (reached run m) k) before nothing_lost t ∙ none) h)) (sym this ∙ goes)

carry : (h a later b : Bool) → (a || (h || later)) ≡ true → ((h || a) ≡ true → b ≡ true) → (b || later) ≡ true
carry h a later true all f = refl
carry true a later false all f = absurd (false≢true (f refl))
carry false true later false all f = absurd (false≢true (f refl))
carry false false later false all f = all

module _ {E : Type 0} (effect : Table E) where
  there_after : (s m : State E) (q : ℕ) (l : Label) (t : ℕ) → plain effect s q l ≡ Some m → (has (touched l) t || map.contains_key s.threads t) ≡ true → map.contains_key m.threads t ≡ true
  there_after s m q l t step h =
      let st = step_of effect s q l m step in
      subst (λ (y : State E). map.contains_key y.threads t ≡ true) (sym st.is)
      (or_cases _ _ _ (put_threads-named (touched l) st.eff.mine st.eff.other s.threads t) (put_threads-there (touched l) st.eff.mine st.eff.other s.threads t) h)

  -- a thread that is there, or that a step touched, isn't spawned by a later step of the run
  pub spawned_once : (before : List Numbered) (o : Option (State E)) (n : Numbered) (after : List Numbered) (end : State E) (t : ℕ) → after_steps effect o (before ++ n ∷ after) ≡ Some end → ((s : State E) → o ≡ Some s → (map.contains_key s.threads t || is_touched t before) ≡ true) → is_at (spawned n.label) t ≡ true → ⊥
  spawned_once before None n after end t run there spawns = some_none (sym run ∙ no_steps effect (before ++ n ∷ after))
  spawned_once [] (Some s) n after end t run there spawns =
      elim (plain effect s n.seq.0 n.label) as (λ o. plain effect s n.seq.0 n.label ≡ o → after_steps effect o after ≡ Some end → ⊥) [
        | None ↦ λ is run. some_none (sym run ∙ no_steps effect after)
        | (Some m) ↦ λ is run. let st = step_of effect s n.seq.0 n.label m is in both (map.contains_key s.threads t) (or_cases _ _ _ (λ h. h) (λ h. absurd (false≢true h)) (there s refl)) (spawned_new s n.label t st.allowed spawns)
      ] refl run
  spawned_once (k ∷ before) (Some s) n after end t run there spawns =
      spawned_once before (plain effect s k.seq.0 k.label) n after end t run
      (λ m step. carry (has (touched k.label) t) _ (is_touched t before) _ (there s refl) (there_after s m k.seq.0 k.label t step))
      spawns
