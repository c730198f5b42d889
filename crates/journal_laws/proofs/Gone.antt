-- Where a step stands beside one that touches the same thread; and what an Undo leaves of a journal.
use Rattle.std.proofs.Common.{◌≡◌, ℕ, suc, Bool, true, false, cond, ◌||◌, nat_eq, List, [], ◌∷◌, ◌++◌, refl, sym, ap, ◌∙◌}
use Rattle.std.specs.Ordering.{nat_cmp}
use Rattle.std.specs.FinSet.{FinSet, contains}
use Rattle.std.proofs.lemmas.Bool.{false≢true}
use Rattle.stab_journal.specs.declared.event.Label.{Label}
use Rattle.stab_journal.specs.declared.event.Label.TheVariants.{Spawn}
use Rattle.stab_journal.specs.declared.event.What.{What}
use Rattle.stab_journal.specs.declared.event.What.TheVariants.{Step, Undo, Release}
use Rattle.stab_journal.specs.declared.event.Event.{Event}
use Rattle.stab_journal.specs.declared.event.Numbered.{Numbered}
use Rattle.stab_journal.specs.Label.{touched, spawned}
use Rattle.stab_journal.specs.Journal.{step_at, survivors_from}
use Rattle.stab_journal.specs.Names.{has, is_at}
use Rattle.stab_journal.specs.Reached.{rest}
use Rattle.journal_laws.proofs.Chains.{or_right}
use Rattle.journal_laws.specs.Lines.{is_touched}

-- where f stands in a run, seen from e: later, the same, or before it
pub data Order (u : ℕ) (before : List Numbered) (e : Numbered) (after : List Numbered) (f : Numbered) (rest : List Numbered) : Type 0 where
  later : (between : List Numbered) → after ≡ between ++ f ∷ rest → Order u before e after f rest
  itself : e ≡ f → Order u before e after f rest
  sooner : is_touched u before ≡ true → Order u before e after f rest

deeper : (u : ℕ) (k : Numbered) (before : List Numbered) (e : Numbered) (after : List Numbered) (f : Numbered) (rest : List Numbered) → Order u before e after f rest → Order u (k ∷ before) e after f rest
deeper u k before e after f rest (later between is) = later between is
deeper u k before e after f rest (itself is) = itself is
deeper u k before e after f rest (sooner h) = sooner (or_right (has (touched k.label) u) _ h)

heads : {n m : Numbered} {ns ms : List Numbered} → n ∷ ns ≡ m ∷ ms → n ≡ m
heads h = cc

pub order : (u : ℕ) (before : List Numbered) (e : Numbered) (after : List Numbered) (front : List Numbered) (f : Numbered) (rest : List Numbered) → has (touched f.label) u ≡ true → before ++ e ∷ after ≡ front ++ f ∷ rest → Order u before e after f rest
order u [] e after [] f rest at cut = itself cc
order u [] e after (k ∷ front) f rest at cut = later front cc
order u (k ∷ before) e after [] f rest at cut = sooner (ap (λ (n : Numbered). has (touched n.label) u || is_touched u before) (heads cut) ∙ ap (λ b. b || is_touched u before) at)
order u (k ∷ before) e after (l ∷ front) f rest at cut = deeper u k before e after f rest (order u before e after front f rest at cc)

pub spawn_touches : (l : Label) (u : ℕ) → is_at (spawned l) u ≡ true → has (touched l) u ≡ true
spawn_touches (Spawn t v) u h = elim (nat_eq u t.0) as (λ b. cond b true (cond (nat_eq u v.0) true false) ≡ true) [ true ↦ refl | false ↦ ap (λ b. cond b true false) h ]
spawn_touches _ u h = absurd (false≢true h)

rest_step : (gone : ℕ → Bool) (b : Bool) (q : ℕ) (w : What) (ns : List Numbered) → rest gone (cond b [] (step_at q w) ++ ns) ≡ cond (b || gone q) [] (step_at q w) ++ rest gone ns
rest_step gone true q w ns = refl
rest_step gone false q (Step l) ns = elim (gone q) as (λ c. cond c (rest gone ns) (record { seq = record { 0 = q }; label = l } ∷ rest gone ns) ≡ cond c [] (record { seq = record { 0 = q }; label = l } ∷ []) ++ rest gone ns) [ true ↦ refl | false ↦ refl ]
rest_step gone false q (Undo t m) ns = elim (gone q) as (λ c. rest gone ns ≡ cond c [] [] ++ rest gone ns) [ true ↦ refl | false ↦ refl ]
rest_step gone false q (Release k) ns = elim (gone q) as (λ c. rest gone ns ≡ cond c [] [] ++ rest gone ns) [ true ↦ refl | false ↦ refl ]

-- to strike more numbers of a journal is to leave the rest of its survivors
pub survivors-rest : (struck more : FinSet nat_cmp) (gone : ℕ → Bool) → ((k : ℕ) → contains more k ≡ (contains struck k || gone k)) → (q : ℕ) (es : List Event) → survivors_from more q es ≡ rest gone (survivors_from struck q es)
survivors-rest struck more gone is q [] = refl
survivors-rest struck more gone is q (e ∷ es) =
    ap (λ b. cond b [] (step_at q e.what) ++ survivors_from more (suc q) es) (is q)
    ∙ ap (λ k. cond (contains struck q || gone q) [] (step_at q e.what) ++ k) (survivors-rest struck more gone is (suc q) es)
    ∙ sym (rest_step gone (contains struck q) q e.what (survivors_from struck (suc q) es))
