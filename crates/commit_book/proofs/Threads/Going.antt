-- What a book shows of its threads after each kind of commit.
use Rattle.std.proofs.Common.{◌≡◌, ℕ, Bool, true, false, cond, nat_eq, List, [], ◌∷◌, ◌++◌, Option, Some, None, refl, sym, ap, subst, ◌∙◌}
use Rattle.std.specs.Prelude.{option_map}
use Rattle.std.specs.Ordering.{nat_cmp}
use Rattle.std.specs.Cmp.{nat_cmp_total, nat_eq_equiv}
use Rattle.std.specs.FinMap as map
use Rattle.std.specs.FinMap.{FinMap, same_map, nat_cmp-IsAntisymmetric}
use Rattle.std.proofs.lemmas.Bool.{eqb-true}
use Rattle.stab_code.specs.JobParts.{JobParts}
use Rattle.stab_code.specs.Program.{ProgramParts}
use Rattle.stab_journal.specs.declared.event.Event.{Event}
use Rattle.stab_journal.specs.declared.event.Label.{Label}
use Rattle.stab_journal.specs.declared.event.What.TheVariants.{Step}
use Rattle.stab_journal.specs.Generation.{generation}
use Rattle.stab_journal.specs.Label.{touched}
use Rattle.thread_slots.specs.declared.state.State.{State}
use Rattle.thread_slots.specs.declared.state.State.TheVariants.{Parked}
use Rattle.thread_slots.specs.Ready.{IsQueueOf}
use Rattle.thread_slots.specs.Slot.{Slot, changed, started, is_ready_at}
use Rattle.rendezvous.specs.declared.offer.Offer.{Offer}
use Rattle.rendezvous.specs.Line.{Seen, joined, left}
use Rattle.language.specs.Expression.{Expr}
use Rattle.language.specs.Plain.{PlainState}
use Rattle.language.specs.Standing.{event}
use Rattle.language.specs.Steps.{Effect, apply}
use Rattle.language.proofs.Applying.{get_inserted}
use Rattle.step_eval.specs.ControlView.{ControlView, expr_of}
use Rattle.commit_book.specs.Book.{BookView, ShowsThreads}
use Rattle.commit_book.proofs.Keeping.EventSteps.{generation_step}
use Rattle.commit_book.proofs.Threads.Lending.{get-changed}
use Rattle.commit_book.proofs.Threads.Standing.{moved, put, AreStanding, MayMove, standing_moved, standing_of, shows_of}
use Rattle.commit_book.proofs.Threads.Parking.{MayPark, MayLeave, standing_parked, standing_left}
use Rattle.commit_book.proofs.Threads.Adding.{MayAdd, standing_added}
use Rattle.commit_book.proofs.Threads.ThreadSteps.{get-put_threads, put_at}

-- ---- how often threads were put back

-- a step puts nobody back
pub still_put_back : (es new : List Event) (worker : ℕ) (l : Label) → new ≡ es ++ event worker (Step l) ∷ [] → (t : ℕ) → generation t new ≡ generation t es
still_put_back es new worker l is t = ap (generation t) is ∙ generation_step t es (event worker (Step l)) l refl

-- ---- where threads stand after a step

-- a step that touches one thread
pub apply_one : (s : PlainState) (l : Label) (e : Effect Expr) (t : ℕ) → touched l ≡ t ∷ [] → (u : ℕ) → map.get (apply s l e).threads u ≡ put t e.mine (λ k. map.get s.threads k) u
apply_one s l e t one u = get-put_threads (touched l) e.mine e.other s.threads u ∙ ap (λ (ts : List ℕ). put_at ts e.mine e.other (map.get s.threads) u) one

-- a step that touches two
pub apply_two : (s : PlainState) (l : Label) (e : Effect Expr) (t v : ℕ) → touched l ≡ t ∷ v ∷ [] → (u : ℕ) → map.get (apply s l e).threads u ≡ put t e.mine (put v e.other (λ k. map.get s.threads k)) u
apply_two s l e t v two u = get-put_threads (touched l) e.mine e.other s.threads u ∙ ap (λ (ts : List ℕ). put_at ts e.mine e.other (map.get s.threads) u) two

module _ {E : Type 0} where
  -- of two threads, either may be first
  pub put_turned : (t v : ℕ) (a b : E) (f : ℕ → Option E) (u : ℕ) → nat_eq t v ≡ false → put t a (put v b f) u ≡ put v b (put t a f) u
  put_turned t v a b f u apart =
      elim (nat_eq u t) as (λ k. nat_eq u t ≡ k → cond k (Some a) (cond (nat_eq u v) (Some b) (f u)) ≡ cond (nat_eq u v) (Some b) (cond k (Some a) (f u))) [
        | true ↦ λ here. sym (ap (λ k. cond k (Some b) (Some a)) (ap (λ n. nat_eq n v) (eqb-true u t here) ∙ apart))
        | false ↦ λ there. refl
      ] refl

-- ---- slots that stay

module _ {C : Type 0} where
  pub get_other : (threads : FinMap nat_cmp (Slot C)) (t u : ℕ) (f : Slot C → Slot C) → nat_eq u t ≡ false → map.get (changed threads t f) u ≡ map.get threads u
  get_other threads t u f apart = get-changed threads t u f ∙ ap (λ b. cond b (option_map f (map.get threads t)) (map.get threads u)) apart

  pub get_besides : (threads : FinMap nat_cmp (Slot C)) (t u : ℕ) (slot : Slot C) → nat_eq u t ≡ false → map.get (map.insert threads t slot) u ≡ map.get threads u
  get_besides threads t u slot apart = get_inserted threads t slot u ∙ ap (λ b. cond b (Some slot) (map.get threads u)) apart

  both_of : (b : Bool) (f g : Slot C → Slot C) (o n : Option (Slot C)) → cond b (option_map g (cond true (option_map f o) o)) (cond b (option_map f o) n) ≡ cond b (option_map (λ s. g (f s)) o) n
  both_of true f g None n = refl
  both_of true f g (Some s) n = refl
  both_of false f g o n = refl

  -- a thread that changes twice
  pub changed_twice : (threads : FinMap nat_cmp (Slot C)) (t : ℕ) (f g : Slot C → Slot C) → changed (changed threads t f) t g ≡ changed threads t (λ s. g (f s))
  changed_twice threads t f g =
      same_map nat_cmp_total nat_cmp-IsAntisymmetric (changed (changed threads t f) t g) (changed threads t (λ s. g (f s))) (λ u.
      get-changed (changed threads t f) t u g
      ∙ ap (λ o. cond (nat_eq u t) (option_map g o) (map.get (changed threads t f) u)) (get-changed threads t t f ∙ ap (λ b. cond b (option_map f (map.get threads t)) (map.get threads t)) (itself t))
      ∙ ap (cond (nat_eq u t) (option_map g (cond true (option_map f (map.get threads t)) (map.get threads t)))) (get-changed threads t u f)
      ∙ both_of (nat_eq u t) f g (map.get threads t) (map.get threads u)
      ∙ sym (get-changed threads t u (λ s. g (f s))))
    where
      itself : (k : ℕ) → nat_eq k k ≡ true
      itself k = nat_eq_equiv.refl k

-- ---- one thread goes on

module _ (old new : BookView) (s s' : PlainState) (job : new.job ≡ old.job) (shown : ShowsThreads old s) (same : (t : ℕ) → generation t new.history.events ≡ generation t old.history.events) (queue : IsQueueOf (is_ready_at new.threads) new.queue) where
  same_program : old.job.program ≡ new.job.program
  same_program = ap (λ (j : JobParts). j.program) (sym job)

  -- whatever stands in the end, by the old program
  pub shows_by : (exprs : ℕ → Option Expr) → AreStanding old.job.program new.threads new.offers exprs (λ t. generation t old.history.events) → ((u : ℕ) → map.get s'.threads u ≡ exprs u) → ShowsThreads new s'
  shows_by exprs standing state =
      shows_of new s' exprs (λ t. generation t old.history.events)
      (subst (λ (p : ProgramParts). AreStanding p new.threads new.offers exprs (λ t. generation t old.history.events)) same_program standing) state same queue

  -- the thread t goes on, and nobody else moves; lines may have been added
  pub shows_alone : (t : ℕ) (c : ControlView) (st : State) → MayMove old.job.program old.threads t c st → AreStanding old.job.program old.threads new.offers (λ k. map.get s.threads k) (λ k. generation k old.history.events)
      → new.threads ≡ changed old.threads t (moved c st) → ((u : ℕ) → map.get s'.threads u ≡ put t (expr_of old.job.program c) (λ k. map.get s.threads k) u) → ShowsThreads new s'
  shows_alone t c st may standing threads state =
      let p = old.job.program in
      shows_by (put t (expr_of p c) (λ k. map.get s.threads k))
      (subst (λ (m : FinMap nat_cmp (Slot ControlView)). AreStanding p m new.offers (put t (expr_of p c) (λ k. map.get s.threads k)) (λ k. generation k old.history.events)) (sym threads)
      (standing_moved p old.threads new.offers (λ k. map.get s.threads k) (λ k. generation k old.history.events) t c st standing may)) state

  -- where the offers stay
  pub shows_one : (t : ℕ) (c : ControlView) (st : State) → MayMove old.job.program old.threads t c st → new.offers ≡ old.offers
      → new.threads ≡ changed old.threads t (moved c st) → ((u : ℕ) → map.get s'.threads u ≡ put t (expr_of old.job.program c) (λ k. map.get s.threads k) u) → ShowsThreads new s'
  shows_one t c st may offers threads state =
      shows_alone t c st may
      (subst (λ (o : Seen). AreStanding old.job.program old.threads o (λ k. map.get s.threads k) (λ k. generation k old.history.events)) (sym offers) (standing_of old s shown))
      threads state

  -- the thread t begins to wait
  pub shows_parked : (t : ℕ) (c : ControlView) (offer : Offer) → MayPark old.job.program old.threads old.offers t c offer
      → ((k : ℕ) → map.get new.offers.lines k ≡ option_map (joined t offer k) (map.get old.offers.lines k)) → new.offers.offers ≡ map.insert old.offers.offers t offer
      → new.threads ≡ changed old.threads t (moved c Parked) → ((u : ℕ) → map.get s'.threads u ≡ put t (expr_of old.job.program c) (λ k. map.get s.threads k) u) → ShowsThreads new s'
  shows_parked t c offer may lines offers threads state =
      let p = old.job.program in
      shows_by (put t (expr_of p c) (λ k. map.get s.threads k))
      (subst (λ (m : FinMap nat_cmp (Slot ControlView)). AreStanding p m new.offers (put t (expr_of p c) (λ k. map.get s.threads k)) (λ k. generation k old.history.events)) (sym threads)
      (standing_parked p old.threads old.offers new.offers (λ k. map.get s.threads k) (λ k. generation k old.history.events) t c offer (standing_of old s shown) may lines offers)) state

  -- a child u is added, and the thread t goes on
  pub shows_started : (t u : ℕ) (c d : ControlView) (st : State) (ended : Bool) → nat_eq t u ≡ false → MayMove old.job.program old.threads t c st → MayAdd old.job.program old.threads (λ k. generation k old.history.events) u d ended
      → new.offers ≡ old.offers → new.threads ≡ changed (map.insert old.threads u (started d ended)) t (moved c st)
      → ((k : ℕ) → map.get s'.threads k ≡ put t (expr_of old.job.program c) (put u (expr_of old.job.program d) (λ k. map.get s.threads k)) k) → ShowsThreads new s'
  shows_started t u c d st ended apart may add offers threads state =
      let p = old.job.program in
      let g : ℕ → ℕ = λ k. generation k old.history.events in
      let f : ℕ → Option Expr = put u (expr_of p d) (λ k. map.get s.threads k) in
      let between : FinMap nat_cmp (Slot ControlView) = map.insert old.threads u (started d ended) in
      shows_by (put t (expr_of p c) f)
      (subst (λ (o : Seen). AreStanding p new.threads o (put t (expr_of p c) f) g) (sym offers)
      (subst (λ (m : FinMap nat_cmp (Slot ControlView)). AreStanding p m old.offers (put t (expr_of p c) f) g) (sym threads)
      (standing_moved p between old.offers f g t c st
      (standing_added p old.threads old.offers (λ k. map.get s.threads k) g u d ended (standing_of old s shown) add)
      (record { slot = may.slot; found = get_besides old.threads u t (started d ended) apart ∙ may.found; unparked = may.unparked; fits = may.fits; ended = may.ended; parked = may.parked })))) state

  -- the offer of u is withdrawn and u goes on, and then the thread t does
  pub shows_met : (t u : ℕ) (c d : ControlView) (st su : State) → nat_eq t u ≡ false → MayMove old.job.program old.threads t c st → MayLeave old.job.program old.threads u d su
      → ((k : ℕ) → map.get new.offers.lines k ≡ option_map (left u) (map.get old.offers.lines k)) → new.offers.offers ≡ map.remove old.offers.offers u
      → new.threads ≡ changed (changed old.threads u (moved d su)) t (moved c st)
      → ((k : ℕ) → map.get s'.threads k ≡ put t (expr_of old.job.program c) (put u (expr_of old.job.program d) (λ k. map.get s.threads k)) k) → ShowsThreads new s'
  shows_met t u c d st su apart may leave lines offers threads state =
      let p = old.job.program in
      let g : ℕ → ℕ = λ k. generation k old.history.events in
      let f : ℕ → Option Expr = put u (expr_of p d) (λ k. map.get s.threads k) in
      let between : FinMap nat_cmp (Slot ControlView) = changed old.threads u (moved d su) in
      shows_by (put t (expr_of p c) f)
      (subst (λ (m : FinMap nat_cmp (Slot ControlView)). AreStanding p m new.offers (put t (expr_of p c) f) g) (sym threads)
      (standing_moved p between new.offers f g t c st
      (standing_left p old.threads old.offers new.offers (λ k. map.get s.threads k) g u d su (standing_of old s shown) leave lines offers)
      (record { slot = may.slot; found = get_other old.threads u t (moved d su) apart ∙ may.found; unparked = may.unparked; fits = may.fits; ended = may.ended; parked = may.parked }))) state
