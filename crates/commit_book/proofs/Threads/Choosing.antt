-- Which turn comes next, from what a book keeps.
use Rattle.std.proofs.Common.{◌≡◌, ℕ, zero, suc, ◌+◌, ◌-◌, ◌<◌, ◌≤◌, Bool, true, false, cond, ◌&&◌, nat_eq, List, [], ◌∷◌, length, Option, Some, None, refl, sym, ap, subst, ◌∙◌, arith, length-append}
use Rattle.std.specs.Prelude.{IfOk, Result, Ok, Err, IfSome, is_some, nat_lt, nat_le, option_map, slice_get, if◌then◌else◌}
use Rattle.std.specs.Option.{option_map_or}
use Rattle.std.specs.Ordering.{nat_cmp}
use Rattle.std.specs.FinMap as map
use Rattle.std.specs.FinMap.{FinMap}
use Rattle.std.proofs.lemmas.Bool.{false≢true}
use Rattle.std.proofs.lemmas.Bool.Decides.{nat_tests}
use Rattle.stab_base.specs.declared.numbers.ThreadId.{ThreadId}
use Rattle.stab_code.specs.JobParts.{JobParts}
use Rattle.stab_journal.specs.Due.{due, final_prints}
use Rattle.stab_journal.specs.Event.{weight_of}
use Rattle.stab_journal.specs.Journal.{survivors}
use Rattle.stab_journal.specs.Surviving.{run_of}
use Rattle.linked_lists.specs.Lists.{is_listed}
use Rattle.language.specs.Expression.{Expr, failed}
use Rattle.thread_slots.specs.declared.state.State.{State}
use Rattle.thread_slots.specs.declared.state.State.TheVariants.{Ready, Leased, Ended}
use Rattle.thread_slots.specs.Ready.{numbers}
use Rattle.thread_slots.specs.Slot.{Slot, same_state, is_in}
use Rattle.thread_slots.proofs.Counted.{numbers-some}
use Rattle.language.specs.Plain.{PlainState, end_of, language_of}
use Rattle.language.specs.Quiet.{IsQuiet}
use Rattle.journal_laws.proofs.Surviving.{some_is}
use Rattle.journal_laws.proofs.Undone.{stands_run}
use Rattle.step_eval.specs.ControlView.{ControlView, expr_of}
use Rattle.commit_book.specs.declared.parts.Parts.{Parts}
use Rattle.stab_base.specs.declared.numbers.NoMemory.{NoMemory}
use Rattle.commit_book.specs.declared.turn.Turn.{Turn}
use Rattle.commit_book.specs.declared.turn.Turn.TheVariants as turn
use Rattle.commit_book.specs.declared.turn.Choice.TheVariants.{Work, Quiet, Spent, Release}
use Rattle.commit_book.specs.Book.{BookView, IsShown, over, offered}
use Rattle.commit_book.specs.Counts.{faulted_in, in_state, is_faulted_at}
use Rattle.commit_book.specs.Doing.{IsDoing, is_failed, is_over}
use Rattle.commit_book.specs.Layout.{IsKept}
use Rattle.commit_book.specs.Turns.{choice_of, first_ready, is_empty, CanRest, IsWork, RestsIfQuiet}
use Rattle.commit_book.proofs.Keeping.Named.{old_thread}
use Rattle.commit_book.proofs.Threads.Resting.{quiet}

-- what is due, from the counts that are kept
pub due_is : (job : JobParts) (parts : Parts) → IsKept job parts → parts.tallies.finals - parts.tallies.released ≡ due parts.history.events
due_is job parts kept =
    let journal = kept.shown.shows.journal in
    let left : survivors parts.history ≡ kept.shown.run = journal.history.left in
    let runs = stands_run job.program parts.history.events kept.shown.run kept.shown.state journal.history.stands in
    ap (λ n. n - parts.tallies.released) (kept.tallied.finals ∙ ap final_prints (left ∙ runs.0))
    ∙ ap (λ n. final_prints (run_of parts.history.events) - n) kept.tallied.released

work_first : (queue : List ℕ) (t : ThreadId) → first_ready queue ≡ Work t → slice_get queue 0 ≡ Some t.0
work_first [] t is = absurd (cc)
work_first (u ∷ us) t is = let same : u ≡ t.0 = cc in ap Some same

-- who is chosen is at the front of the queue
pub chosen_front : (b : BookView) (t : ThreadId) → choice_of b ≡ Work t → slice_get b.queue 0 ≡ Some t.0
chosen_front b t is = by_due (nat_lt 0 (due b.history.events)) (is_empty b.queue && nat_eq (in_state Leased b) 0) (nat_le b.job.fuel (weight_of b.history.events)) is
  where
    by_due : (x y z : Bool) → (if x then Release else (if y then Quiet else (if z then Spent else first_ready b.queue))) ≡ Work t → slice_get b.queue 0 ≡ Some t.0
    by_due true y z is = absurd (cc)
    by_due false true z is = absurd (cc)
    by_due false false true is = absurd (cc)
    by_due false false false is = work_first b.queue t is

quiet_queue : (queue : List ℕ) → first_ready queue ≡ Quiet → ⊥
quiet_queue [] is = absurd (cc)
quiet_queue (u ∷ us) is = absurd (cc)

zero_is : (n : ℕ) → nat_eq n 0 ≡ true → n ≡ 0
zero_is n h = grind (arith, nat_tests)

at_rest : (queue : List ℕ) (n : ℕ) → (is_empty queue && nat_eq n 0) ≡ true → (queue ≡ []) × (n ≡ 0)
at_rest [] n h = (refl, zero_is n h)
at_rest (u ∷ us) n h = absurd (false≢true h)

-- Quiet is chosen where nobody is ready or leased
pub chosen_quiet : (b : BookView) → choice_of b ≡ Quiet → (b.queue ≡ []) × (in_state Leased b ≡ 0)
chosen_quiet b is = by_due (nat_lt 0 (due b.history.events)) (is_empty b.queue && nat_eq (in_state Leased b) 0) (nat_le b.job.fuel (weight_of b.history.events)) refl is
  where
    by_due : (x y z : Bool) → (is_empty b.queue && nat_eq (in_state Leased b) 0) ≡ y → (if x then Release else (if y then Quiet else (if z then Spent else first_ready b.queue))) ≡ Quiet → (b.queue ≡ []) × (in_state Leased b ≡ 0)
    by_due true y z at is = absurd (cc)
    by_due false true z at is = at_rest b.queue (in_state Leased b) at
    by_due false false true at is = absurd (cc)
    by_due false false false at is = absurd (quiet_queue b.queue is)

-- a thread in a state, where one is
pub record IsFound (threads : FinMap nat_cmp (Slot ControlView)) (t : ℕ) (state : State) : Type 0 where
  pub slot : Slot ControlView
  pub found : map.get threads t ≡ Some slot
  pub is : same_state state slot.state ≡ true

pub found_in : (threads : FinMap nat_cmp (Slot ControlView)) (t : ℕ) (state : State) → is_in state threads t ≡ true → IsFound threads t state
found_in threads t state h =
    elim (map.get threads t) as (λ o. map.get threads t ≡ o → option_map_or (λ slot. same_state state slot.state) o false ≡ true → IsFound threads t state) [
      | None ↦ λ is h. absurd (false≢true h)
      | (Some slot) ↦ λ is h. record { slot = slot; found = is; is = h }
    ] refl h

-- nobody is in a state that no live thread has
none_in : (threads : FinMap nat_cmp (Slot ControlView)) (t : ℕ) (state : State) → is_in state threads t ≡ false → IfSome (map.get threads t) (λ k. same_state state k.state ≡ false)
none_in threads t state h =
    elim (map.get threads t) as (λ o. option_map_or (λ slot. same_state state slot.state) o false ≡ false → IfSome o (λ k. same_state state k.state ≡ false)) [
      | None ↦ λ h. tt
      | (Some slot) ↦ λ h. h
    ] h

-- where nobody is ready or leased, nobody can step
pub rests : (b : BookView) → IsShown b → b.queue ≡ [] → in_state Leased b ≡ 0 → (s : PlainState) → end_of b.job.program (survivors b.history) ≡ Some s → IsQuiet (language_of b.job.program) s
rests b shown empty unleased s ends =
    let p = b.job.program in
    let journal = shown.shows.journal in
    let threads = shown.shows.threads in
    let runs = stands_run p b.history.events shown.run shown.state journal.history.stands in
    let same : shown.state ≡ s = some_is (sym runs.1.ends ∙ ap (end_of p) (sym journal.history.left) ∙ ends) in
    subst (IsQuiet (language_of p)) same (quiet b shown.state threads
    (λ t. none_in b.threads t Ready (sym (threads.queue.ready t) ∙ ap (is_listed t) empty))
    (λ t. none_in b.threads t Leased (not_true (is_in Leased b.threads t) (λ is.
    let f = found_in b.threads t Leased is in
    let there : map.contains_key shown.state.threads t ≡ true = ap is_some (sym (threads.threads t) ∙ ap (option_map (λ (k : Slot ControlView). expr_of p k.control)) f.found) in
    let low = old_thread p b.history.events shown.run shown.state journal.history.stands b.next.thread b.next.chan b.next.ref journal.next t there in
    let some : 0 < in_state Leased b = numbers-some (is_in Leased b.threads) t b.next.thread low is in
    absurd (omega (arith, some, unleased))))))
  where
    not_true : (k : Bool) → (k ≡ true → ⊥) → k ≡ false
    not_true true f = absurd (f refl)
    not_true false f = refl

-- ---- counts

one_more : (p : ℕ → Bool) (n : ℕ) → length (numbers p (suc n)) ≡ length (numbers p n) + length (cond {A = List ℕ} (p n) (n ∷ []) [])
one_more p n = length-append (numbers p n) (cond (p n) (n ∷ []) [])

pub fewer : (p q : ℕ → Bool) (n : ℕ) → ((u : ℕ) → p u ≡ true → q u ≡ true) → length (numbers p n) ≤ length (numbers q n)
fewer p q zero more = omega arith
fewer p q (suc n) more =
    let before = fewer p q n more in
    let a = one_more p n in
    let b = one_more q n in
    let c : length (cond {A = List ℕ} (p n) (n ∷ []) []) ≤ length (cond {A = List ℕ} (q n) (n ∷ []) []) = step (p n) (q n) (more n) in
    omega (arith, before, a, b, c)
  where
    step : (x y : Bool) → (x ≡ true → y ≡ true) → length (cond {A = List ℕ} x (n ∷ []) []) ≤ length (cond {A = List ℕ} y (n ∷ []) [])
    step true true f = omega arith
    step true false f = absurd (false≢true (f refl))
    step false y f = omega arith

failed_over : (e : Expr) → is_failed e ≡ true → is_over e ≡ true
failed_over (failed k) h = refl
failed_over _ h = absurd (false≢true h)

-- each thread that failed has ended
pub faulted_ended : (b : BookView) → IsShown b → faulted_in b.job.program b.threads b.next.thread ≤ in_state Ended b
faulted_ended b shown =
    fewer (is_faulted_at b.job.program b.threads) (is_in Ended b.threads) b.next.thread (λ u h. ended_at (map.get b.threads u) (shown.shows.threads.doing u) h)
  where
    ended_at : (o : Option (Slot ControlView)) → IfSome o (IsDoing (over b.job.program) (offered b.job.program)) → option_map_or (λ slot. is_failed (expr_of b.job.program slot.control)) o false ≡ true → option_map_or (λ slot. same_state Ended slot.state) o false ≡ true
    ended_at None doing h = h
    ended_at (Some slot) doing h = doing.ended ∙ failed_over (expr_of b.job.program slot.control) h

-- so at Quiet nobody can step
pub quiet_rests : (b : BookView) → IsShown b → choice_of b ≡ Quiet → CanRest b
quiet_rests b shown chosen = let at = chosen_quiet b chosen in rests b shown at.0 at.1

-- a thread that was lent is no rest
pub work_rests : (b : BookView) (r : Result Turn NoMemory) → IfOk r IsWork → IfOk r (RestsIfQuiet b)
work_rests b (Err e) h = tt
work_rests b (Ok (turn.Work lease control)) h = tt
work_rests b (Ok turn.Idle) h = absurd h
work_rests b (Ok turn.Quiet) h = absurd h
work_rests b (Ok turn.Spent) h = absurd h
work_rests b (Ok turn.Release) h = absurd h
