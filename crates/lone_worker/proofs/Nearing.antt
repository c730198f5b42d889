-- A commit of what was lent leaves no more to do.
use Rattle.std.proofs.Common.{◌≡◌, ℕ, zero, suc, ◌+◌, ◌≤◌, Bool, true, false, cond, not, nat_eq, List, [], ◌∷◌, ◌++◌, length, Some, None, refl, sym, ap, ◌∙◌, arith, length-append}
use Rattle.std.specs.List.{filter}
use Rattle.std.proofs.lemmas.Bool.{false≢true, eqb-true}
use Rattle.std.proofs.lemmas.List.{map-append}
use Rattle.std.proofs.lemmas.List.Sums.{sum_by-append}
use Rattle.linked_lists.specs.Lists.{without}
use Rattle.stab_code.specs.Valid.{IsValid}
use Rattle.stab_journal.specs.declared.event.Event.{Event}
use Rattle.stab_journal.specs.declared.event.Label.{Label}
use Rattle.stab_journal.specs.declared.event.Label.TheVariants.{Local}
use Rattle.stab_journal.specs.declared.event.What.TheVariants.{Step}
use Rattle.stab_journal.specs.Event.{weigh, weight_of}
use Rattle.thread_slots.specs.declared.state.State.TheVariants.{Ended}
use Rattle.thread_slots.specs.Slot.{is_in}
use Rattle.language.specs.Expression.{Expr}
use Rattle.language.specs.Plain.{language_of, look_in}
use Rattle.language.specs.Table.{Look, done, fault, pure, act, pure_of, pure_steps}
use Rattle.journal_laws.proofs.Surviving.{some_is, some_none}
use Rattle.step_eval.specs.ControlView.{ControlView, expr_of}
use Rattle.step_eval.specs.Progress.{ProgressView}
use Rattle.commit_book.specs.Book.{BookView}
use Rattle.commit_book.specs.Commits.{IsMoved, row_at}
use Rattle.commit_book.specs.Doing.{is_over}
use Rattle.commit_book.specs.Leases.{LeaseView}
use Rattle.commit_book.specs.Rows.{Row, alone, starts, meets, waits, stays, undoes, local_of, movers, steps_of, thread, events_by}
use Rattle.book_text.proofs.Showing.{goes_on}
use Rattle.book_text.proofs.Going.{whole}
use Rattle.lone_worker.specs.Turn.{IsAdvanced, IsLentAlone, left_to_do}
use Rattle.lone_worker.proofs.Lent.{no_longer}
use Rattle.lone_worker.proofs.Moving.{WeighsOne, acts, row_says}

pub shorter : {X : Type 0} (p : X → Bool) (xs : List X) → length (filter p xs) ≤ length xs
shorter p [] = omega arith
shorter {X} p (x ∷ xs) = by (p x) (shorter p xs)
  where
    by : (b : Bool) → length (filter p xs) ≤ length xs → length (cond {A = List X} b (x ∷ filter p xs) (filter p xs)) ≤ length (x ∷ xs)
    by true few = omega (arith, few)
    by false few = omega (arith, few)

-- what these steps weigh
abbrev pub weight_by : ℕ → List Label → ℕ
weight_by w labels = weight_of (events_by w labels)

weighs_both : (w : ℕ) (xs ys : List Label) → weight_by w (xs ++ ys) ≡ weight_by w xs + weight_by w ys
weighs_both w xs ys = ap weight_of (map-append _ xs ys) ∙ sum_by-append (λ (e : Event). weigh e.what) (events_by w xs) (events_by w ys)

pub local_weighs : (w t n : ℕ) → weight_by w (local_of t n) ≡ n
local_weighs w t n = by (nat_eq n 0) refl
  where
    by : (b : Bool) → nat_eq n 0 ≡ b → weight_by w (local_of t n) ≡ n
    by true at = ap (λ b. weight_by w (cond b [] (Local (thread t) n ∷ []))) at ∙ sym (eqb-true n 0 at)
    by false at = ap (λ b. weight_by w (cond b [] (Local (thread t) n ∷ []))) at ∙ (let k : 0 + n ≡ n = omega arith in k)

-- who stands at no act has made a pure step, since it could
module _ (lent : BookView) (lease : LeaseView) (control : ControlView) (progress : ProgressView) (valid : IsValid lent.job.program) (some : 1 ≤ lent.job.quantum) (is : IsLentAlone lent lease control) (advanced : IsAdvanced lent.job control progress) where
  looks_on : (l : Look Expr) → goes_on l ≡ true → acts l ≡ false → pure_of (language_of lent.job.program) l ≡ None → ⊥
  looks_on (done v) goes idle rests = false≢true goes
  looks_on (fault k) goes idle rests = false≢true goes
  looks_on (act a) goes idle rests = false≢true (sym idle)
  looks_on (pure x) goes idle rests = some_none rests

  pub stepped : acts (look_in lent.job.program (expr_of lent.job.program progress.end)) ≡ false → 1 ≤ progress.steps
  stepped idle = by progress.steps refl
    where
      by : (n : ℕ) → progress.steps ≡ n → 1 ≤ n
      by (suc n) at = omega arith
      by zero at =
          let p = lent.job.program in
          let same : expr_of p progress.end ≡ expr_of p control = sym (some_is (ap (λ k. pure_steps (language_of p) k (expr_of p progress.origin)) (sym at) ∙ advanced.made.made)) ∙ ap (expr_of p) advanced.origin in
          let goes : goes_on (look_in p (expr_of p progress.end)) ≡ true = whole p valid progress.end advanced.made.fits (ap is_over same ∙ is.going) in
          absurd (looks_on (look_in p (expr_of p progress.end)) goes idle (advanced.stops (omega (arith, at, some))))

  module _ (new : BookView) (moved : IsMoved lent (record new { answered = lent.answered }) lease.worker lease.thread progress.steps (row_at lent lease progress)) where
    abbrev e : Expr
    e = expr_of lent.job.program progress.end

    abbrev kept : ℕ → Bool
    kept u = not (is_in Ended new.threads u)

    weighs : (row : Row) → new.history.events ≡ lent.history.events ++ events_by lease.worker (local_of lease.thread progress.steps ++ steps_of lease.thread row) →
        weight_of new.history.events ≡ weight_of lent.history.events + (progress.steps + weight_by lease.worker (steps_of lease.thread row))
    weighs row at =
        let a = ap weight_of at ∙ sum_by-append (λ (k : Event). weigh k.what) lent.history.events (events_by lease.worker (local_of lease.thread progress.steps ++ steps_of lease.thread row)) in
        let b = weighs_both lease.worker (local_of lease.thread progress.steps) (steps_of lease.thread row) in
        let c = local_weighs lease.worker lease.thread progress.steps in
        omega (arith, a, b, c)

    by_row : (row : Row) → WeighsOne row → (row ≡ alone None → 1 ≤ progress.steps)
        → weight_of new.history.events ≡ weight_of lent.history.events + (progress.steps + weight_by lease.worker (steps_of lease.thread row))
        → length new.queue ≤ length lent.queue + length (movers lease.thread row) → left_to_do new ≤ left_to_do lent
    by_row (alone None) one none weight queue = let s = none refl in let job = ap (λ j. j.fuel) moved.job in let light = is.light in omega (arith, weight, queue, s, job, light)
    by_row (alone (Some l)) one none weight queue = let w : weight_by lease.worker (l ∷ []) ≡ 1 = one_alone l one in let job = ap (λ j. j.fuel) moved.job in let light = is.light in omega (arith, weight, queue, w, job, light)
      where
        one_alone : (l : Label) → weigh (Step l) ≡ 1 → weight_by lease.worker (l ∷ []) ≡ 1
        one_alone l one = let k : 0 + weigh (Step l) ≡ 1 = omega (arith, one) in k
    by_row (starts u) one none weight queue = let job = ap (λ j. j.fuel) moved.job in let light = is.light in omega (arith, weight, queue, job, light)
    by_row (meets u l) one none weight queue = let w : weight_by lease.worker (l ∷ []) ≡ 1 = (let k : 0 + weigh (Step l) ≡ 1 = omega (arith, one) in k) in let job = ap (λ j. j.fuel) moved.job in let light = is.light in omega (arith, weight, queue, w, job, light)
    by_row (waits o) one none weight queue = let job = ap (λ j. j.fuel) moved.job in let light = is.light in omega (arith, weight, queue, job, light)
    by_row stays one none weight queue = let job = ap (λ j. j.fuel) moved.job in let light = is.light in omega (arith, weight, queue, job, light)
    by_row (undoes m) one none weight queue = let job = ap (λ j. j.fuel) moved.job in let light = is.light in omega (arith, weight, queue, job, light)

    pub nearer : left_to_do new ≤ left_to_do lent
    nearer =
        let row = row_at lent lease progress in
        let says = row_says lent lease.thread e (look_in lent.job.program e) in
        let split = ap length moved.queue ∙ length-append (without lease.thread lent.queue) (filter kept (movers lease.thread row)) in
        let a = no_longer lease.thread lent.queue in
        let b = shorter kept (movers lease.thread row) in
        by_row row says.weighs (λ at. stepped (says.none at)) (weighs row (ap (λ j. j.events) moved.history)) (omega (arith, split, a, b))
