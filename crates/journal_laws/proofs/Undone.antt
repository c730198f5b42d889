-- What a history stands for: the steps that no undo took away, which are a run that ends in its state.
use Rattle.std.proofs.Common.{◌≡◌, ℕ, suc, ◌+◌, ◌≤◌, Bool, true, false, cond, List, [], ◌∷◌, ◌++◌, length, Some, refl, sym, ap, subst, ◌∙◌, append-nil, arith}
use Rattle.stab_journal.specs.declared.event.Label.{Label}
use Rattle.stab_journal.specs.declared.event.What.TheVariants.{Step}
use Rattle.stab_journal.specs.declared.event.Event.{Event}
use Rattle.stab_journal.specs.declared.event.Numbered.{Numbered}
use Rattle.stab_journal.specs.Journal.{RiseFrom, step_at}
use Rattle.stab_journal.specs.Names.{has}
use Rattle.stab_journal.specs.Reached.{reached, rest, without_reached}
use Rattle.stab_journal.specs.Surviving.{after_event, after_events, run_of}
use Rattle.stab_code.specs.Program.{ProgramParts}
use Rattle.language.specs.Steps.{after_steps}
use Rattle.language.specs.Plain.{PlainState, effect_of, start, end_of, IsRun}
use Rattle.language.specs.Standing.{StandsFor, nothing, step, undo, release, event}
use Rattle.journal_laws.proofs.Runs.{steps_append}

-- the numbers rise from q on, and none is above b
abbrev RiseTo : ℕ → ℕ → List Numbered → Type 0
RiseTo q b [] = q ≤ b + 1
RiseTo q b (n ∷ ns) = (q ≤ n.seq.0) × RiseTo (suc n.seq.0) b ns

rises : (q b : ℕ) (ns : List Numbered) → RiseTo q b ns → RiseFrom q ns
rises q b [] h = tt
rises q b (n ∷ ns) h = (h.0, rises (suc n.seq.0) b ns h.1)

sooner : (q k b : ℕ) (ns : List Numbered) → k ≤ q → RiseTo q b ns → RiseTo k b ns
sooner q k b [] le h = omega (arith, le, h)
sooner q k b (n ∷ ns) le h = (omega (arith, le, h.0), h.1)

taller : (q b : ℕ) (ns : List Numbered) → RiseTo q b ns → RiseTo q (b + 1) ns
taller q b [] h = omega (arith, h)
taller q b (n ∷ ns) h = (h.0, taller (suc n.seq.0) b ns h.1)

one_more : (q b : ℕ) (ns : List Numbered) (l : Label) → RiseTo q b ns → RiseTo q (b + 1) (ns ++ step_at (b + 1) (Step l))
one_more q b [] l h = (h, omega arith)
one_more q b (n ∷ ns) l h = (h.0, one_more (suc n.seq.0) b ns l h.1)

fewer : (gone : ℕ → Bool) (q b : ℕ) (ns : List Numbered) → RiseTo q b ns → RiseTo q b (rest gone ns)
fewer gone q b [] h = h
fewer gone q b (n ∷ ns) h =
    elim (gone n.seq.0) as (λ c. RiseTo q b (cond c (rest gone ns) (n ∷ rest gone ns))) [
      | true ↦ sooner (suc n.seq.0) q b (rest gone ns) (omega (arith, h.0)) (fewer gone (suc n.seq.0) b ns h.1)
      | false ↦ (h.0, fewer gone (suc n.seq.0) b ns h.1)
    ]

-- one event more
after_last : (q : ℕ) (run : List Numbered) (es : List Event) (e : Event) → after_events q run (es ++ e ∷ []) ≡ after_event (q + length es) e.what (after_events q run es)
after_last q run [] e = ap (λ k. after_event k e.what run) (omega arith)
after_last q run (f ∷ es) e = after_last (suc q) (after_event q f.what run) es e ∙ ap (λ k. after_event k e.what (after_events (suc q) (after_event q f.what run) es)) (omega arith)

run_last : (es : List Event) (e : Event) → run_of (es ++ e ∷ []) ≡ after_event (length es + 1) e.what (run_of es)
run_last es e = after_last 1 [] es e ∙ ap (λ k. after_event k e.what (run_of es)) (omega arith)

length_more : (es : List Event) (e : Event) → length (es ++ e ∷ []) ≡ length es + 1
length_more [] e = refl
length_more (f ∷ es) e = ap suc (length_more es e) ∙ (omega arith)

-- what stands for a history
pub record IsLeft (p : ProgramParts) (events : List Event) (run : List Numbered) (s : PlainState) : Type 0 where
  pub is : run ≡ run_of events
  pub within : RiseTo 1 (length events) run
  pub ends : end_of p run ≡ Some s

grown : (p : ProgramParts) (es : List Event) (e : Event) (run : List Numbered) (s : PlainState) → run ≡ run_of (es ++ e ∷ []) → RiseTo 1 (length es + 1) run → end_of p run ≡ Some s → IsLeft p (es ++ e ∷ []) run s
grown p es e run s is within ends = record { is = is; within = subst (λ (b : ℕ). RiseTo 1 b run) (sym (length_more es e)) within; ends = ends }

is_left : (p : ProgramParts) (events : List Event) (run : List Numbered) (s : PlainState) → StandsFor p events run s → IsLeft p events run s
is_left p _ _ _ nothing = record { is = refl; within = omega arith; ends = refl }
is_left p _ _ _ (step {events = es} {run = run} {before = before} after worker label stands may is) =
    let h = is_left p es run before stands in
    grown p es (event worker (Step label)) _ after
    (ap (λ r. r ++ step_at (length es + 1) (Step label)) h.is ∙ sym (run_last es (event worker (Step label))))
    (one_more 1 (length es) run label h.within)
    (steps_append (effect_of p) run (step_at (length es + 1) (Step label)) (Some (start p)) ∙ ap (λ o. after_steps (effect_of p) o (step_at (length es + 1) (Step label))) h.ends ∙ is)
is_left p _ _ _ (undo {events = es} {run = run} {before = before} after worker t m stands may is) =
    let h = is_left p es run before stands in
    grown p es _ (without_reached m run) after
    (ap (without_reached m) h.is ∙ sym (run_last es _))
    (taller 1 (length es) (without_reached m run) (fewer (has (reached run m)) 1 (length es) run h.within))
    is
is_left p _ _ _ (release {events = es} {run = run} {state = state} worker k stands final more) =
    let h = is_left p es run state stands in
    grown p es _ run state (h.is ∙ sym (append-nil (run_of es)) ∙ sym (run_last es _)) (taller 1 (length es) run h.within) h.ends

pub stands_run : (p : ProgramParts) (events : List Event) (run : List Numbered) (s : PlainState) → StandsFor p events run s → (run ≡ run_of events) × IsRun p run s
stands_run p events run s stands = let h = is_left p events run s stands in (h.is, record { rises = rises 1 (length events) run h.within; ends = h.ends })
